-- Document 01, "Listing, whole": numbers as decimal digits. "Dates and times padded, the start not" (open matter 17).
use Rattle.std.specs.Prelude.{true, false, List, [], ◌∷◌, ◌++◌, ℕ, zero, suc, ◌+◌, ◌-◌, ◌*◌, ◌/◌, ◌%◌, ltb}

-- the character of a number's last digit: `0` is 48
abbrev pub digit : ℕ → ℕ
digit n = 48 + n % 10

-- the last two digits, padded
abbrev pub two : ℕ → List ℕ
two n = digit (n / 10) ∷ digit n ∷ []

-- the last four digits, padded
abbrev pub four : ℕ → List ℕ
four n = two (n / 100) ++ two n

-- all digits and no padding: those of a tenth of it, and the last one; below ten the last one alone. The first number bounds the steps
unfoldable pub decimal_within : ℕ → ℕ → List ℕ
decimal_within zero n = digit n ∷ []
decimal_within (suc steps) n = elim (ltb n 10) [ true ↦ digit n ∷ [] | false ↦ decimal_within steps (n / 10) ++ digit n ∷ [] ]

-- as many steps as the number itself are always enough
unfoldable pub decimal : ℕ → List ℕ
decimal n = decimal_within n n

-- a number read back from its digits, behind what was read before them
abbrev pub value_behind : ℕ → List ℕ → ℕ
value_behind before [] = before
value_behind before (character ∷ characters) = value_behind (10 * before + (character - 48)) characters

abbrev pub value_of : List ℕ → ℕ
value_of characters = value_behind 0 characters
