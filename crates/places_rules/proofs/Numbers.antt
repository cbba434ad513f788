-- Laws of a place's number: where it lies says what the place is. Assumes nothing.
use mathlib.Core.Path.{◌≡◌}
use mathlib.Core.Bool.{Bool, true, false, cond}
use Prim.Native.Nat.{ℕ, ◌%◌, ◌≤◌, ◌<◌}
use lib.Dec.{ltb}
use borrow.Author.Tests.{lt-ltb, le-ltb}
use Rattle.places_rules.specs.Places.{Place, fixed, decimal, code, slots, first_decimal, first_code, place}

module _ (n : ℕ) where
  pub is_fixed : n < first_decimal → place n ≡ fixed n
  unfolding place
  is_fixed h = rw (lt-ltb n first_decimal h)

  pub is_decimal_place : first_decimal ≤ n → n < first_code → place n ≡ decimal (n % slots)
  unfolding place
  is_decimal_place low high = rw (le-ltb n first_decimal low, lt-ltb n first_code high)

  pub is_code : first_decimal ≤ n → first_code ≤ n → place n ≡ code (n % slots)
  unfolding place
  is_code low high = rw (le-ltb n first_decimal low, le-ltb n first_code high)

  -- what holds of both kinds of digits holds of any place from the first decimal on
  pub by_digit : (P : Place → Type 0) → P (decimal (n % slots)) → P (code (n % slots)) → first_decimal ≤ n → P (place n)
  unfolding place
  by_digit P d c low = rw (le-ltb n first_decimal low) (go (ltb n first_code))
    where
      go : (t : Bool) → P (cond t (decimal (n % slots)) (code (n % slots)))
      go true = d
      go false = c
