-- Source document 003, section 7: the rows of places of TIM, DIF and POS, and how a command's row is found.
use Rattle.std.specs.Prelude.{Bool, cond, ◌&&◌, List, [], ◌∷◌, ◌++◌, map, ℕ, eqb, length, get_or}
use Prim.Native.String.{String}
use Rattle.refusals.specs.Refusals.{Outcome, done, refused}
use Rattle.ascii.specs.Ascii.{ascii}
use Rattle.ascii.specs.Control.{stx, etx}
use Rattle.places_rules.specs.Places.{Place, fixed, decimal, code, place_number}
use Rattle.layouts_rules.specs.Layouts.{weekday, hh, mm, ss, dd, mo, yy, CR, LF}
use Rattle.remote_rules.specs.declared.EastWest.{EastWest}
use Rattle.remote_rules.specs.declared.EastWest.TheVariants.{West, East}
use Rattle.remote_rules.specs.declared.NorthSouth.{NorthSouth}
use Rattle.remote_rules.specs.declared.NorthSouth.TheVariants.{North, South}
use Rattle.remote_rules.specs.declared.rows.Form.{Form}
use Rattle.remote_rules.specs.declared.rows.Form.TheVariants.{Tim, TimAsked, DifPlus, DifMinus, DifAsked, PosWestNorth, PosWestSouth, PosEastNorth, PosEastSouth, PosAsked}

-- the characters of a command that the seven layouts do not have
abbrev pub colon : ℕ
colon = 0x3A

abbrev pub comma : Place
comma = fixed 0x2C

abbrev pub plus : ℕ
plus = 0x2B

abbrev pub minus : ℕ
minus = 0x2D

abbrev pub west : ℕ
west = 0x57

abbrev pub east : ℕ
east = 0x45

abbrev pub north : ℕ
north = 0x4E

abbrev pub south : ℕ
south = 0x53

abbrev pub letters : String → List Place
letters text = map fixed (ascii text)

-- 7.1.1, "the status byte consists of two ASCII nibbles": the high one first. A digit's number is its slot; time, date and weekday stand in
-- the slots that the seven layouts give them
abbrev pub status_byte : List Place
status_byte = code 0 ∷ code 16 ∷ []

-- 7.1.1, "structure of the data field": time, date and weekday by commas, each of them with a comma before it
abbrev pub moment_field : List Place
moment_field = comma ∷ hh ++ comma ∷ mm ++ comma ∷ ss ++ comma ∷ dd ++ comma ∷ mo ++ comma ∷ yy ++ comma ∷ weekday ∷ []

-- 7.1.6: "a sign, hours, comma, minutes", in the slots of hour and minute
abbrev pub difference_field : ℕ → List Place
difference_field sign = fixed sign ∷ hh ++ comma ∷ mm

-- 7.1.7: the hemisphere, a colon, degrees, minutes and two digits behind them, by commas; for longitude, a comma, and for latitude
abbrev pub position_field : ℕ → ℕ → List Place
position_field east_west north_south =
    fixed east_west ∷ fixed colon ∷ decimal 0 ∷ decimal 1 ∷ decimal 2 ∷ comma ∷ decimal 3 ∷ decimal 4 ∷ comma ∷ decimal 5 ∷ decimal 6
    ∷ comma ∷ fixed north_south ∷ fixed colon ∷ decimal 7 ∷ decimal 8 ∷ comma ∷ decimal 9 ∷ decimal 10 ∷ comma ∷ decimal 11 ∷ decimal 12 ∷ []

-- what stands before the colon, and what behind it. "DIF or POS with nothing after the colon asks", and so does TIM with the status alone
abbrev pub name_of : Form → String
name_of Tim = "TIM"
name_of TimAsked = "TIM"
name_of DifPlus = "DIF"
name_of DifMinus = "DIF"
name_of DifAsked = "DIF"
name_of PosWestNorth = "POS"
name_of PosWestSouth = "POS"
name_of PosEastNorth = "POS"
name_of PosEastSouth = "POS"
name_of PosAsked = "POS"

abbrev pub field_of : Form → List Place
field_of Tim = status_byte ++ moment_field
field_of TimAsked = status_byte
field_of DifPlus = difference_field plus
field_of DifMinus = difference_field minus
field_of DifAsked = []
field_of PosWestNorth = position_field west north
field_of PosWestSouth = position_field west south
field_of PosEastNorth = position_field east north
field_of PosEastSouth = position_field east south
field_of PosAsked = []

-- "STX (command) [status] [data] CR LF ETX": between STX and ETX, and with them; "the trailer is CR LF on lines of either order"
unfoldable pub inner_row : Form → List Place
inner_row form = letters (name_of form) ++ fixed colon ∷ field_of form ++ CR ∷ LF ∷ []

unfoldable pub row_of : Form → List Place
row_of form = fixed stx ∷ inner_row form ++ fixed etx ∷ []

-- a row as the code keeps it: one number a place
unfoldable pub row_numbers : Form → List ℕ
row_numbers form = map place_number (row_of form)

-- "a framed telegram whose fifth character, STX included, is a colon is a remote command"
abbrev pub is_command : List ℕ → Bool
is_command bytes = eqb (get_or bytes 4 0) colon

-- three letters behind STX, and the colon
unfoldable pub is_named : ℕ → ℕ → ℕ → List ℕ → Bool
is_named first second third bytes =
    eqb (get_or bytes 1 0) first && (eqb (get_or bytes 2 0) second && (eqb (get_or bytes 3 0) third && is_command bytes))

-- a sign or a letter chooses a row. One that is neither of two is out of place in both rows, so that any row shows it
abbrev pub by_sign : ℕ → Form
by_sign sign = cond (eqb sign minus) DifMinus DifPlus

abbrev pub by_hemispheres : EastWest → NorthSouth → Form
by_hemispheres West North = PosWestNorth
by_hemispheres West South = PosWestSouth
by_hemispheres East North = PosEastNorth
by_hemispheres East South = PosEastSouth

abbrev pub east_west_of : ℕ → EastWest
east_west_of letter = cond (eqb letter west) West East

abbrev pub north_south_of : ℕ → NorthSouth
north_south_of letter = cond (eqb letter south) South North

-- one of two lengths, STX and ETX included: with what it carries, or asking; "1 a length the command doesn't have"
abbrev pub by_length : ℕ → ℕ → Form → ℕ → Form → Outcome Form
by_length size full carrying brief asking = cond (eqb size full) (done carrying) (cond (eqb size brief) (done asking) (refused 1))

-- "22 unknown command, first"; then the length
unfoldable pub form_of : List ℕ → Outcome Form
form_of bytes =
    cond (is_named 0x54 0x49 0x4D bytes) (by_length (length bytes) 30 Tim 10 TimAsked)
    (cond (is_named 0x44 0x49 0x46 bytes) (by_length (length bytes) 14 (by_sign (get_or bytes 5 0)) 8 DifAsked)
    (cond (is_named 0x50 0x4F 0x53 bytes)
    (by_length (length bytes) 30 (by_hemispheres (east_west_of (get_or bytes 5 0)) (north_south_of (get_or bytes 17 0))) 8 PosAsked)
    (refused 22)))
