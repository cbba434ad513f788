-- The parameter byte of a 6036 as the manual's tables print it (000, sections 2 and 3), row by row, and the one statement over them.
use Rattle.std.specs.Prelude.{◌≡◌, Bool, true, false, List, [], ◌∷◌, map, ℕ, ◌+◌, ◌-◌}
use Rattle.refusals.specs.Refusals.{done, refused}
use Rattle.board_rules.specs.declared.Parity.{Parity}
use Rattle.board_rules.specs.declared.Parity.TheVariants.{None, Even, Odd}
use Rattle.board_rules.specs.declared.of_6036.Parameter.{Parameter}
use Rattle.board_rules.specs.Of6036.{parameter_in, byte_for}
use Rattle.board_rules.specs.Rows.{on, Rows, Read, Written}

-- 3.1: UTC, or CET and CEST
abbrev pub output_times : Rows Bool
output_times = (on 1, true) ∷ (0, false) ∷ []

-- 3.2: data bits
abbrev pub word_lengths : Rows ℕ
word_lengths = (on 2, 8) ∷ (0, 7) ∷ []

-- 3.3: parity
abbrev pub parities : Rows Parity
parities = (on 3 + on 4, None) ∷ (on 3, None) ∷ (on 4, Even) ∷ (0, Odd) ∷ []

-- "no parity is written on/on"
abbrev pub written_parities : Rows Parity
written_parities = (on 3 + on 4, None) ∷ (on 4, Even) ∷ (0, Odd) ∷ []

-- 3.4: stop bits
abbrev pub stop_bits : Rows ℕ
stop_bits = (on 5, 1) ∷ (0, 2) ∷ []

-- 3.5: baud, from on on on to off off off
abbrev pub baudrates : Rows ℕ
baudrates =
    (on 6 + on 7 + on 8, 150)
    ∷ (on 6 + on 7, 300)
    ∷ (on 6 + on 8, 600)
    ∷ (on 6, 1200)
    ∷ (on 7 + on 8, 2400)
    ∷ (on 7, 4800)
    ∷ (on 8, 9600)
    ∷ (0, 19200)
    ∷ []

abbrev pub setting : Bool → ℕ → Parity → ℕ → ℕ → Parameter
setting utc data_bits parity stop_bits baud =
    record { utc = utc; data_bits = data_bits; parity = parity; stop_bits = stop_bits; baud = baud }

-- "any other setting: 16"
abbrev pub not_offered : List Parameter
not_offered =
    setting false 9 None 1 9600
    ∷ setting false 6 None 1 9600
    ∷ setting false 8 None 0 9600
    ∷ setting false 8 None 3 9600
    ∷ setting false 8 None 1 2000
    ∷ []

-- a row is written in a setting whose other switches are all off
abbrev pub The6036IsAsPrinted : Type 0
The6036IsAsPrinted =
    Read (λ byte. (parameter_in byte).utc) (0xFF - on 1) output_times
    × Written (λ utc. byte_for (setting utc 7 Odd 2 19200)) output_times
    × Read (λ byte. (parameter_in byte).data_bits) (0xFF - on 2) word_lengths
    × Written (λ bits. byte_for (setting false bits Odd 2 19200)) word_lengths
    × Read (λ byte. (parameter_in byte).parity) (0xFF - on 3 - on 4) parities
    × Written (λ parity. byte_for (setting false 7 parity 2 19200)) written_parities
    × Read (λ byte. (parameter_in byte).stop_bits) (0xFF - on 5) stop_bits
    × Written (λ bits. byte_for (setting false 7 Odd bits 19200)) stop_bits
    × Read (λ byte. (parameter_in byte).baud) (0xFF - on 6 - on 7 - on 8) baudrates
    × Written (λ baud. byte_for (setting false 7 Odd 2 baud)) baudrates
    -- section 2's example: switch 3 is on and 4 is off, so it is written with both on
    × (parameter_in 0xA6 ≡ setting false 8 None 2 600)
    × (byte_for (setting false 8 None 2 600) ≡ done 0xAE)
    -- "hex 20 is 1200 baud on a 6036"
    × ((parameter_in 0x20).baud ≡ 1200)
    × (map byte_for not_offered ≡ map (λ asked. refused 16) not_offered)
