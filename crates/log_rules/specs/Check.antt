-- Document 02 c), the check of a block.
use Rattle.std.specs.Prelude.{List, [], ◌∷◌, ℕ, suc, ◌+◌, ◌*◌, ◌%◌, ◌/◌}

-- "the sum of each .. times its place", the first at the place that is given
abbrev pub weighed : ℕ → List ℕ → ℕ
weighed place [] = 0
weighed place (byte ∷ bytes) = byte * place + weighed (suc place) bytes

-- "modulo 65,521"
abbrev pub modulus : ℕ
modulus = 65521

-- "a check: the sum of each of the first 510 bytes times its place counted from 1, modulo 65,521"
unfoldable pub check_of : List ℕ → ℕ
check_of body = weighed 1 body % modulus

-- "two bytes, low first"
abbrev pub low_first : ℕ → List ℕ
low_first n = n % 256 ∷ n / 256 ∷ []
