-- Document 01, "6036 parameter byte": reading and writing, one behind the other.
use Rattle.std.specs.Prelude.{◌≡◌, true, cond, ℕ, ◌<◌}
use Rattle.refusals.specs.Refusals.{done}
use Rattle.board_rules.specs.declared.of_6036.Parameter.{Parameter}
use Rattle.board_rules.specs.Switches.{switch, with_switch4}
use Rattle.board_rules.specs.Of6036.{parameter_in, offered, byte_for}

-- "all 256 read": each as a setting that the board offers
abbrev pub All256Read : Type 0
All256Read = (byte : ℕ) → byte < 256 → offered (parameter_in byte) ≡ true

-- "reading then writing sets switch 4 when switch 3 is set and changes nothing else"
abbrev pub ReadingThenWritingSetsSwitch4 : Type 0
ReadingThenWritingSetsSwitch4 =
    (byte : ℕ) → byte < 256 → byte_for (parameter_in byte) ≡ done (cond (switch 3 byte) (with_switch4 byte) byte)

-- a setting written reads back: whatever numbers it holds, what is written is a byte, and reading it gives the setting
abbrev pub ASettingWrittenReadsBack : Type 0
ASettingWrittenReadsBack =
    (parameter : Parameter) (byte : ℕ) → byte_for parameter ≡ done byte → (parameter_in byte ≡ parameter) × (byte < 256)
