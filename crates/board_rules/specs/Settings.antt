-- Document 01, "6036 parameter byte", and document 02, f: what is the same of a setting on both boards.
use Rattle.std.specs.Prelude.{Bool, ◌&&◌, ◌||◌, ℕ, ltb, eqb}
use Rattle.board_rules.specs.declared.Parity.{Parity}
use Rattle.board_rules.specs.declared.Parity.TheVariants.{None, Even, Odd}
use Rattle.board_rules.specs.Rates.{rate_row}

-- what a switch is at a parity: the first of the three at none, the second at even, the third at odd
abbrev pub at_parity : Parity → Bool → Bool → Bool → Bool
at_parity None none even odd = none
at_parity Even none even odd = even
at_parity Odd none even odd = odd

-- what a board offers: 8 or 7 data bits, 1 or 2 stop bits, one of the eight rates
unfoldable pub is_offered : ℕ → ℕ → ℕ → Bool
is_offered data_bits stop_bits baud =
    (eqb data_bits 8 || eqb data_bits 7) && ((eqb stop_bits 1 || eqb stop_bits 2) && ltb (rate_row baud) 8)
