-- Document 02, f, and source 003, section 1.2: what the switches of a 6038 mean, and the byte of a setting.
use Rattle.std.specs.Prelude.{Bool, true, false, cond, not, List, [], ◌∷◌, ℕ, eqb}
use Rattle.refusals.specs.Refusals.{◌when◌, Outcome, done, refused, unless, after}
use Rattle.board_rules.specs.declared.Parity.{Parity}
use Rattle.board_rules.specs.declared.Parity.TheVariants.{None, Even, Odd}
use Rattle.board_rules.specs.declared.of_6038.Parameter.{Parameter}
use Rattle.board_rules.specs.Switches.{switch, byte_of}
use Rattle.board_rules.specs.Rates.{rate_at, rate_row, first_at, second_at, third_at}
use Rattle.board_rules.specs.Settings.{is_offered}

-- "2 on is 7 bits"; off: 8
abbrev pub data_bits_in : ℕ → ℕ
data_bits_in byte = cond (switch 2 byte) 7 8

-- "3/4 on/on odd, on/off even, off/off none, off/on isn't listed": "16 for off/on when read"
abbrev pub parity_at : Bool → Bool → Outcome Parity
parity_at true true = done Odd
parity_at true false = done Even
parity_at false false = done None
parity_at false true = refused 16

abbrev pub parity_in : ℕ → Outcome Parity
parity_in byte = parity_at (switch 3 byte) (switch 4 byte)

-- "5 on is 2 stop bits"; off: 1
abbrev pub stop_bits_in : ℕ → ℕ
stop_bits_in byte = cond (switch 5 byte) 2 1

-- "the baud table is printed 8, 7, 6"
abbrev pub baud_in : ℕ → ℕ
baud_in byte = rate_at (switch 8 byte) (switch 7 byte) (switch 6 byte)

-- "switch 1 is read as nothing"; the setting of a byte whose parity is found
abbrev pub setting_with : ℕ → Parity → Parameter
setting_with byte parity =
    record { data_bits = data_bits_in byte; parity = parity; stop_bits = stop_bits_in byte; baud = baud_in byte }

unfoldable pub parameter_in : ℕ → Outcome Parameter
parameter_in byte = after (parity_in byte) (λ parity. done (setting_with byte parity))

-- odd is written on/on, even on/off, none off/off
abbrev pub third_for : Parity → Bool
third_for None = false
third_for Even = true
third_for Odd = true

abbrev pub fourth_for : Parity → Bool
fourth_for None = false
fourth_for Even = false
fourth_for Odd = true

-- "switch 1 is .. written off"; behind it data bits, parity in two, stop bits, baud in three, whose first is switch 8
unfoldable pub switches_for : Parameter → List Bool
switches_for parameter =
    false ∷ eqb parameter.data_bits 7
    ∷ third_for parameter.parity ∷ fourth_for parameter.parity
    ∷ eqb parameter.stop_bits 2
    ∷ third_at (rate_row parameter.baud) ∷ second_at (rate_row parameter.baud) ∷ first_at (rate_row parameter.baud) ∷ []

abbrev pub offered : Parameter → Bool
offered parameter = is_offered parameter.data_bits parameter.stop_bits parameter.baud

-- "any other setting: 16", as on the 6036
unfoldable pub byte_for : Parameter → Outcome ℕ
byte_for parameter = unless (16 when not (offered parameter)) (byte_of (switches_for parameter))
