-- A text as bytes, so that what the listing prints can be read in its definitions.
use Rattle.std.specs.Prelude.{List, [] as none, ◌∷◌ as ◌then◌, ℕ}
use Prim.Native.Char.{code}
use Prim.Native.String.{String, [], ◌∷◌}

-- the code of each character; all of them are ASCII, where the code is the byte
abbrev pub ascii : String → List ℕ
ascii [] = none
ascii (character ∷ characters) = code character then ascii characters
