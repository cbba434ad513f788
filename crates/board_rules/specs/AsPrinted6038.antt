-- The parameter byte of a 6038 as the manual's tables print it (003, sections 1.1 and 1.2), row by row, and a statement over each.
use Rattle.std.specs.Prelude.{◌≡◌, List, [], ◌∷◌, map, ℕ, ◌+◌, ◌-◌}
use Rattle.refusals.specs.Refusals.{Outcome, done, refused, after}
use Rattle.board_rules.specs.declared.Parity.{Parity}
use Rattle.board_rules.specs.declared.Parity.TheVariants.{None, Even, Odd}
use Rattle.board_rules.specs.declared.of_6038.Parameter.{Parameter}
use Rattle.board_rules.specs.Of6038.{parameter_in, byte_for}
use Rattle.board_rules.specs.Rows.{on, Rows, Read, Written}

abbrev pub setting : ℕ → Parity → ℕ → ℕ → Parameter
setting data_bits parity stop_bits baud =
    record { data_bits = data_bits; parity = parity; stop_bits = stop_bits; baud = baud }

-- what a byte says of one field of the setting, and a table's rows where none of them is refused
abbrev pub said_of : {A : Type 0} → (Parameter → A) → ℕ → Outcome A
said_of field byte = after (parameter_in byte) (λ parameter. done (field parameter))

abbrev pub all_read : {A : Type 0} → Rows A → Rows (Outcome A)
all_read rows = map (λ row. (row.0, done row.1)) rows

-- 1.2.1: bit position 1, off and on, is free: on the right the byte that means the same and that is written for it, first where
-- all other switches are off, then where all others are on
abbrev pub unused : Rows ℕ
unused = (0, 0) ∷ (on 1, 0) ∷ (0xFF - on 1, 0xFF - on 1) ∷ (0xFF, 0xFF - on 1) ∷ []

abbrev pub TheUnusedSwitchIsAsPrinted : Type 0
TheUnusedSwitchIsAsPrinted =
    (map (λ row. parameter_in row.0) unused ≡ map (λ row. parameter_in row.1) unused)
    × (map (λ row. after (parameter_in row.0) byte_for) unused ≡ map (λ row. done row.1) unused)

-- 1.2.2: data bits; a row of this table and of those below is written in a setting whose other switches are all off
abbrev pub word_lengths : Rows ℕ
word_lengths = (0, 8) ∷ (on 2, 7) ∷ []

abbrev pub TheWordLengthsAreAsPrinted : Type 0
TheWordLengthsAreAsPrinted =
    Read (said_of (λ parameter. parameter.data_bits)) (0xFF - on 2) (all_read word_lengths)
    × Written (λ bits. byte_for (setting bits None 1 19200)) word_lengths

-- 1.2.3: parity
abbrev pub parities : Rows Parity
parities = (on 3 + on 4, Odd) ∷ (on 3, Even) ∷ (0, None) ∷ []

abbrev pub TheParitiesAreAsPrinted : Type 0
TheParitiesAreAsPrinted =
    Read (said_of (λ parameter. parameter.parity)) (0xFF - on 3 - on 4) (all_read parities)
    × Written (λ parity. byte_for (setting 8 parity 1 19200)) parities

-- the row that 1.2.3 does not have: "16 for off/on when read"
abbrev pub OffOnIsRefused : Type 0
OffOnIsRefused = Read (said_of (λ parameter. parameter.parity)) (0xFF - on 3 - on 4) ((on 4, refused 16) ∷ [])

-- 1.2.4: stop bits
abbrev pub stop_bits : Rows ℕ
stop_bits = (0, 1) ∷ (on 5, 2) ∷ []

abbrev pub TheStopBitsAreAsPrinted : Type 0
TheStopBitsAreAsPrinted =
    Read (said_of (λ parameter. parameter.stop_bits)) (0xFF - on 5) (all_read stop_bits)
    × Written (λ bits. byte_for (setting 8 None bits 19200)) stop_bits

-- 1.2.5: baud, by bits 8, 7 and 6, from on on on to off off off
abbrev pub baudrates : Rows ℕ
baudrates =
    (on 8 + on 7 + on 6, 150)
    ∷ (on 8 + on 7, 300)
    ∷ (on 8 + on 6, 600)
    ∷ (on 8, 1200)
    ∷ (on 7 + on 6, 2400)
    ∷ (on 7, 4800)
    ∷ (on 6, 9600)
    ∷ (0, 19200)
    ∷ []

abbrev pub TheBaudratesAreAsPrinted : Type 0
TheBaudratesAreAsPrinted =
    Read (said_of (λ parameter. parameter.baud)) (0xFF - on 8 - on 7 - on 6) (all_read baudrates)
    × Written (λ baud. byte_for (setting 8 None 1 baud)) baudrates

-- "so hex 20 is 9600"
abbrev pub Hex20Is9600 : Type 0
Hex20Is9600 = said_of (λ parameter. parameter.baud) 0x20 ≡ done 9600

-- 1.1's example: a byte from its switches, and what the tables make of it
abbrev pub TheExampleIsAsPrinted : Type 0
TheExampleIsAsPrinted =
    (on 8 + on 6 + on 3 + on 2 ≡ 0xA6)
    × (parameter_in 0xA6 ≡ done (setting 7 Even 1 600))
    × (byte_for (setting 7 Even 1 600) ≡ done 0xA6)

-- "any other setting: 16"
abbrev pub not_offered : List Parameter
not_offered =
    setting 9 None 1 9600
    ∷ setting 6 None 1 9600
    ∷ setting 8 None 0 9600
    ∷ setting 8 None 3 9600
    ∷ setting 8 None 1 2000
    ∷ []

abbrev pub OthersAreNotOffered : Type 0
OthersAreNotOffered = map byte_for not_offered ≡ map (λ asked. refused 16) not_offered

pub record The6038IsAsPrinted : Type 0 where
  pub unused_switch : TheUnusedSwitchIsAsPrinted
  pub word_length : TheWordLengthsAreAsPrinted
  pub parity : TheParitiesAreAsPrinted
  pub off_on : OffOnIsRefused
  pub stop_bit : TheStopBitsAreAsPrinted
  pub baudrate : TheBaudratesAreAsPrinted
  pub hex20 : Hex20Is9600
  pub example : TheExampleIsAsPrinted
  pub others : OthersAreNotOffered
