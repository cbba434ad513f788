-- Document 01, "6036 parameter byte": what the switches of a 6036 mean, and the byte of a setting.
use Rattle.std.specs.Prelude.{Bool, true, false, cond, not, List, [], ◌∷◌, ℕ, eqb}
use Rattle.refusals.specs.Refusals.{◌when◌, Outcome, unless}
use Rattle.board_rules.specs.declared.Parity.{Parity}
use Rattle.board_rules.specs.declared.Parity.TheVariants.{None, Even, Odd}
use Rattle.board_rules.specs.declared.of_6036.Parameter.{Parameter}
use Rattle.board_rules.specs.Switches.{switch, byte_of}
use Rattle.board_rules.specs.Rates.{rate_at, rate_row, first_at, second_at, third_at}
use Rattle.board_rules.specs.Settings.{is_offered}

-- "2 on: 8 data bits, off: 7"
abbrev pub data_bits_in : ℕ → ℕ
data_bits_in byte = cond (switch 2 byte) 8 7

-- "3 and 4: on/any none, off/on even, off/off odd"
abbrev pub parity_at : Bool → Bool → Parity
parity_at true fourth = None
parity_at false true = Even
parity_at false false = Odd

abbrev pub parity_in : ℕ → Parity
parity_in byte = parity_at (switch 3 byte) (switch 4 byte)

-- "5 on: 1 stop bit, off: 2"
abbrev pub stop_bits_in : ℕ → ℕ
stop_bits_in byte = cond (switch 5 byte) 1 2

-- "6, 7, 8 in that order"
abbrev pub baud_in : ℕ → ℕ
baud_in byte = rate_at (switch 6 byte) (switch 7 byte) (switch 8 byte)

-- "1 on: UTC"; "all 256 read"
unfoldable pub parameter_in : ℕ → Parameter
parameter_in byte =
    record { utc = switch 1 byte; data_bits = data_bits_in byte; parity = parity_in byte; stop_bits = stop_bits_in byte; baud = baud_in byte }

-- "no parity is written on/on", even off/on, odd off/off
abbrev pub third_for : Parity → Bool
third_for None = true
third_for Even = false
third_for Odd = false

abbrev pub fourth_for : Parity → Bool
fourth_for None = true
fourth_for Even = true
fourth_for Odd = false

-- the eight switches of a setting, from switch 1 on: UTC, data bits, parity in two, stop bits, baud in three
unfoldable pub switches_for : Parameter → List Bool
switches_for parameter =
    parameter.utc ∷ eqb parameter.data_bits 8
    ∷ third_for parameter.parity ∷ fourth_for parameter.parity
    ∷ eqb parameter.stop_bits 1
    ∷ first_at (rate_row parameter.baud) ∷ second_at (rate_row parameter.baud) ∷ third_at (rate_row parameter.baud) ∷ []

abbrev pub offered : Parameter → Bool
offered parameter = is_offered parameter.data_bits parameter.stop_bits parameter.baud

-- "any other setting: 16"
unfoldable pub byte_for : Parameter → Outcome ℕ
byte_for parameter = unless (16 when not (offered parameter)) (byte_of (switches_for parameter))
