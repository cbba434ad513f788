-- Source document 003, 7.1.7, as it is printed: POS with its 22 characters of data, and POS that asks. Over every input: what is read as a
-- POS, and what is written for one.
use Rattle.std.specs.Prelude.{List, [], ◌∷◌, ◌++◌, ◌↔◌, ◌⊎◌, ◌≡◌, ℕ, ◌≤◌, ◌<◌, take, drop}
use Rattle.refusals.specs.Refusals.{done}
use Rattle.ascii.specs.Ascii.{ascii}
use Rattle.remote_rules.specs.declared.Angle.{Angle}
use Rattle.remote_rules.specs.declared.EastWest.{EastWest}
use Rattle.remote_rules.specs.declared.EastWest.TheVariants.{West, East}
use Rattle.remote_rules.specs.declared.NorthSouth.{NorthSouth}
use Rattle.remote_rules.specs.declared.NorthSouth.TheVariants.{North, South}
use Rattle.remote_rules.specs.declared.Position.{Position}
use Rattle.remote_rules.specs.declared.Command.TheVariants.{Pos, PosAsked}
use Rattle.remote_rules.specs.Literals.{position}
use Rattle.remote_rules.specs.Reading.{command_of}
use Rattle.remote_rules.specs.Writing.{written}
use Rattle.remote_rules.specs.WordsAsPrinted.{data_string, sent, TableLine, line, ◌to◌, one, unit, tens, hundreds, always, field_by, EachListed}

-- The words of the table: "W, E", "N, S";
abbrev pub east_west_letter : EastWest → ℕ
east_west_letter West = 0x57
east_west_letter East = 0x45

abbrev pub north_south_letter : NorthSouth → ℕ
north_south_letter North = 0x4E
north_south_letter South = 0x53

abbrev pub longitude_west_east : Position → ℕ
longitude_west_east position = east_west_letter position.east_west

abbrev pub latitude_north_south : Position → ℕ
latitude_north_south position = north_south_letter position.north_south

-- degrees, minutes, and the two digits behind the minutes, of longitude and of latitude
abbrev pub degree_east : Position → ℕ
degree_east position = position.longitude.degrees

abbrev pub minute_east : Position → ℕ
minute_east position = position.longitude.minutes

abbrev pub fraction_east : Position → ℕ
fraction_east position = position.longitude.fraction

abbrev pub degree_north : Position → ℕ
degree_north position = position.latitude.degrees

abbrev pub minute_north : Position → ℕ
minute_north position = position.latitude.minutes

abbrev pub fraction_north : Position → ℕ
fraction_north position = position.latitude.fraction

abbrev pub pos_table : List (TableLine Position)
pos_table =
    line 1 longitude_west_east (one 0x57 ++ one 0x45)
    ∷ line 2 (always 0x3A) (one 0x3A)
    ∷ line 3 (hundreds degree_east) (0x30 to 0x31 ∷ [])
    -- printed as 0-8 and as $30-37: slips, as "longitude to 180 degrees" has 095 in it
    ∷ line 4 (tens degree_east) (0x30 to 0x39 ∷ [])
    ∷ line 5 (unit degree_east) (0x30 to 0x39 ∷ [])
    ∷ line 6 (always 0x2C) (one 0x2C)
    ∷ line 7 (tens minute_east) (0x30 to 0x35 ∷ [])
    ∷ line 8 (unit minute_east) (0x30 to 0x39 ∷ [])
    ∷ line 9 (always 0x2C) (one 0x2C)
    -- "hundredth - minute", "thousandth - minute"
    ∷ line 10 (tens fraction_east) (0x30 to 0x39 ∷ [])
    ∷ line 11 (unit fraction_east) (0x30 to 0x39 ∷ [])
    ∷ line 12 (always 0x2C) (one 0x2C)
    ∷ line 13 latitude_north_south (one 0x4E ++ one 0x53)
    ∷ line 14 (always 0x3A) (one 0x3A)
    -- printed as 0-8, $30-38: a slip, as "latitude to 90" has 90 in it
    ∷ line 15 (tens degree_north) (0x30 to 0x39 ∷ [])
    ∷ line 16 (unit degree_north) (0x30 to 0x39 ∷ [])
    ∷ line 17 (always 0x2C) (one 0x2C)
    ∷ line 18 (tens minute_north) (0x30 to 0x35 ∷ [])
    ∷ line 19 (unit minute_north) (0x30 to 0x39 ∷ [])
    ∷ line 20 (always 0x2C) (one 0x2C)
    ∷ line 21 (tens fraction_north) (0x30 to 0x39 ∷ [])
    ∷ line 22 (unit fraction_north) (0x30 to 0x39 ∷ [])
    ∷ []

abbrev pub pos_as_printed : Position → List ℕ
pos_as_printed position = data_string (ascii "POS:" ++ field_by pos_table position)

-- below the last degree any minutes and any digits behind them; "at the end of the range all smaller places are zero"
abbrev pub UpTo : ℕ → Angle → Type 0
UpTo last angle =
    ((angle.degrees < last) × (angle.minutes ≤ 59) × (angle.fraction ≤ 99))
    ⊎ ((angle.degrees ≡ last) × (angle.minutes ≡ 0) × (angle.fraction ≡ 0))

-- "longitude to 180 degrees, latitude to 90"
pub record GoodPos (position : Position) : Type 0 where
  pub to180 : UpTo 180 position.longitude
  pub to90 : UpTo 90 position.latitude

-- Bytes are read as a POS exactly where it is a good one and its printed characters are those bytes.
abbrev pub PosIsReadExactly : Type 0
PosIsReadExactly = (bytes : List ℕ) (told : Position) → (command_of bytes ≡ done (Pos told)) ↔ (GoodPos told × (bytes ≡ pos_as_printed told))

-- "POS with nothing after the colon asks"
abbrev pub PosAskedIsReadExactly : Type 0
PosAskedIsReadExactly = (bytes : List ℕ) → (command_of bytes ≡ done PosAsked) ↔ (bytes ≡ sent "POS:")

abbrev pub PosIsWrittenAsPrinted : Type 0
PosIsWrittenAsPrinted = (told : Position) (room : ℕ) → GoodPos told → 30 ≤ room → written (Pos told) room ≡ done (pos_as_printed told)

abbrev pub PosAskedIsWrittenAsPrinted : Type 0
PosAskedIsWrittenAsPrinted = (room : ℕ) → 8 ≤ room → written PosAsked room ≡ done (sent "POS:")

-- The 22 characters behind STX and "POS:" are ones that the table lists.
abbrev pub EveryPosIsListed : Type 0
EveryPosIsListed = (bytes : List ℕ) (told : Position) → command_of bytes ≡ done (Pos told) → EachListed pos_table (take 22 (drop 5 bytes))

-- W and E of 000, and N and S of 00, are two positions with two data strings.
pub record BothSidesOfNothingDiffer : Type 0 where
  pub west : command_of (sent "POS:W:000,00,00,N:00,00,00") ≡ done (Pos (position West 0 0 0 North 0 0 0))
  pub east : command_of (sent "POS:E:000,00,00,N:00,00,00") ≡ done (Pos (position East 0 0 0 North 0 0 0))
  pub south : command_of (sent "POS:E:000,00,00,S:00,00,00") ≡ done (Pos (position East 0 0 0 South 0 0 0))
  pub west_is_not_east : sent "POS:W:000,00,00,N:00,00,00" ≡ sent "POS:E:000,00,00,N:00,00,00" → ⊥
  pub north_is_not_south : sent "POS:E:000,00,00,N:00,00,00" ≡ sent "POS:E:000,00,00,S:00,00,00" → ⊥
  pub no_side_for_the_other : Pos (position West 0 0 0 North 0 0 0) ≡ Pos (position East 0 0 0 North 0 0 0) → ⊥
