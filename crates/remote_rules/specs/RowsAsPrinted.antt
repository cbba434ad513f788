-- Source document 003, section 7, in pictures: the ten rows of places, where 0 stands for a decimal place, # for a place of the status or
-- the weekday, and every other character for itself; and the lengths, of every command that is read.
use Rattle.std.specs.Prelude.{List, [], ◌∷◌, map, ◌≡◌, ℕ, length}
use Rattle.refusals.specs.Refusals.{done}
use Rattle.places_rules.specs.Places.{Place, fixed, decimal, code}
use Rattle.remote_rules.specs.declared.Command.{Command}
use Rattle.remote_rules.specs.declared.Command.TheVariants as command
use Rattle.remote_rules.specs.declared.rows.Form.{Form}
use Rattle.remote_rules.specs.declared.rows.Form.TheVariants.{Tim, TimAsked, DifPlus, DifMinus, DifAsked, PosWestNorth, PosWestSouth, PosEastNorth, PosEastSouth, PosAsked}
use Rattle.remote_rules.specs.Rows.{row_of}
use Rattle.remote_rules.specs.Reading.{command_of}
use Rattle.remote_rules.specs.WordsAsPrinted.{sent}

abbrev pub pictured : Place → ℕ
pictured (fixed character) = character
pictured (decimal slot) = 0x30
pictured (code slot) = 0x23

abbrev pub pictures : List (Form × List ℕ)
pictures =
    (Tim, sent "TIM:##,00,00,00,00,00,00,#")
    ∷ (TimAsked, sent "TIM:##")
    ∷ (DifPlus, sent "DIF:+00,00")
    ∷ (DifMinus, sent "DIF:-00,00")
    ∷ (DifAsked, sent "DIF:")
    ∷ (PosWestNorth, sent "POS:W:000,00,00,N:00,00,00")
    ∷ (PosWestSouth, sent "POS:W:000,00,00,S:00,00,00")
    ∷ (PosEastNorth, sent "POS:E:000,00,00,N:00,00,00")
    ∷ (PosEastSouth, sent "POS:E:000,00,00,S:00,00,00")
    ∷ (PosAsked, sent "POS:")
    ∷ []

abbrev pub RowsAreAsPictured : Type 0
RowsAreAsPictured = map (λ row. map pictured (row_of row.0)) pictures ≡ map (λ row. row.1) pictures

-- how many characters, STX and ETX included: with what it carries, and asking
abbrev pub length_as_printed : Command → ℕ
length_as_printed (command.Tim status moment) = 30
length_as_printed (command.TimAsked status) = 10
length_as_printed (command.Dif difference) = 14
length_as_printed command.DifAsked = 8
length_as_printed (command.Pos position) = 30
length_as_printed command.PosAsked = 8

abbrev pub LengthsAreAsPrinted : Type 0
LengthsAreAsPrinted = (bytes : List ℕ) (told : Command) → command_of bytes ≡ done told → length bytes ≡ length_as_printed told
