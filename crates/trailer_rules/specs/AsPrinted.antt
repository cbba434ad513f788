-- Document 02, f: the trailer of a telegram exchanged, in literal bytes, with control characters and without; and bytes too short for one.
use Rattle.std.specs.Prelude.{true, false, List, [], ◌∷◌, map, ◌≡◌, ℕ, length}
use Rattle.trailer_rules.specs.declared.Order.TheVariants.{AsPrinted, Exchanged}
use Rattle.trailer_rules.specs.Trailer.{trailer_at, exchange_at, in_order}

-- a 6021t, "12:34:56", as the table prints it, and with CR and LF exchanged
abbrev pub printed : List ℕ
printed = 0x31 ∷ 0x32 ∷ 0x33 ∷ 0x34 ∷ 0x35 ∷ 0x36 ∷ 0x0A ∷ 0x0D ∷ []

abbrev pub exchanged : List ℕ
exchanged = 0x31 ∷ 0x32 ∷ 0x33 ∷ 0x34 ∷ 0x35 ∷ 0x36 ∷ 0x0D ∷ 0x0A ∷ []

-- the same between STX and ETX
abbrev pub framed_printed : List ℕ
framed_printed = 0x02 ∷ 0x31 ∷ 0x32 ∷ 0x33 ∷ 0x34 ∷ 0x35 ∷ 0x36 ∷ 0x0A ∷ 0x0D ∷ 0x03 ∷ []

abbrev pub framed_exchanged : List ℕ
framed_exchanged = 0x02 ∷ 0x31 ∷ 0x32 ∷ 0x33 ∷ 0x34 ∷ 0x35 ∷ 0x36 ∷ 0x0D ∷ 0x0A ∷ 0x03 ∷ []

-- where the trailer begins, by the table's lengths
abbrev pub framed_places : List (ℕ × ℕ)
framed_places = (10, 7) ∷ (13, 10) ∷ (18, 15) ∷ (20, 17) ∷ (21, 18) ∷ (25, 22) ∷ []

abbrev pub bare_places : List (ℕ × ℕ)
bare_places = (8, 6) ∷ (11, 9) ∷ (16, 14) ∷ (18, 16) ∷ (19, 17) ∷ (23, 21) ∷ []

-- what has no two bytes
abbrev pub short : List (List ℕ)
short = [] ∷ (0x0A ∷ []) ∷ []

pub record TrailersAreAsPrinted : Type 0 where
  pub as_printed : in_order AsPrinted printed ≡ printed
  pub bare : in_order Exchanged printed ≡ exchanged
  pub back : in_order Exchanged exchanged ≡ printed
  pub framed : exchange_at (trailer_at true (length framed_printed)) framed_printed ≡ framed_exchanged
  pub places : map (λ row. trailer_at true row.0) framed_places ≡ map (λ row. row.1) framed_places
  pub without : map (λ row. trailer_at false row.0) bare_places ≡ map (λ row. row.1) bare_places
  pub too_short : map (in_order Exchanged) short ≡ short
