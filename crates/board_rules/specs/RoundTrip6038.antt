-- Document 02, f: the parameter byte of a 6038, reading and writing, one behind the other.
use Rattle.std.specs.Prelude.{◌≡◌, Bool, true, false, cond, not, ◌&&◌, ℕ, ◌<◌}
use Rattle.refusals.specs.Refusals.{done, refused, after}
use Rattle.board_rules.specs.declared.of_6038.Parameter.{Parameter}
use Rattle.board_rules.specs.Switches.{switch, without_switch1}
use Rattle.board_rules.specs.Of6038.{parameter_in, offered, byte_for}

-- "off/on": switch 3 is off and 4 is on
abbrev pub is_off_on : ℕ → Bool
is_off_on byte = not (switch 3 byte) && switch 4 byte

-- each of the 256 is read or refused: 16 where it is off/on, and a setting that the board offers where it is not
abbrev pub All256ReadOrRefused : Type 0
All256ReadOrRefused =
    (byte : ℕ) → byte < 256
    → (is_off_on byte ≡ true → parameter_in byte ≡ refused 16)
    × (is_off_on byte ≡ false → (parameter : Parameter) × (parameter_in byte ≡ done parameter) × (offered parameter ≡ true))

-- "switch 1 is read as nothing"
abbrev pub Switch1IsReadAsNothing : Type 0
Switch1IsReadAsNothing = (byte : ℕ) → parameter_in byte ≡ parameter_in (without_switch1 byte)

-- "and written off"
abbrev pub Switch1IsWrittenOff : Type 0
Switch1IsWrittenOff = (parameter : Parameter) (byte : ℕ) → byte_for parameter ≡ done byte → switch 1 byte ≡ false

-- reading then writing clears switch 1 and changes nothing else; what was refused when read stays refused
abbrev pub ReadingThenWritingClearsSwitch1 : Type 0
ReadingThenWritingClearsSwitch1 =
    (byte : ℕ) → byte < 256 → after (parameter_in byte) byte_for ≡ cond (is_off_on byte) (refused 16) (done (without_switch1 byte))

-- a setting written reads back: whatever numbers it holds, what is written is a byte, and reading it gives the setting
abbrev pub ASettingWrittenReadsBack : Type 0
ASettingWrittenReadsBack =
    (parameter : Parameter) (byte : ℕ) → byte_for parameter ≡ done byte → (parameter_in byte ≡ done parameter) × (byte < 256)

-- off/on is refused when read, and no write makes it
abbrev pub OffOnIsNeverWritten : Type 0
OffOnIsNeverWritten = (parameter : Parameter) (byte : ℕ) → byte_for parameter ≡ done byte → is_off_on byte ≡ false

-- a setting that the board does not offer is 16
abbrev pub ASettingNotOfferedIs16 : Type 0
ASettingNotOfferedIs16 = (parameter : Parameter) → offered parameter ≡ false → byte_for parameter ≡ refused 16
