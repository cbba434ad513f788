-- The block that an add takes, lent and come back with one telegram more. Assumes nothing.
use mathlib.Core.Path.{◌≡◌, ap, ap₂, sym, ◌∙◌}
use mathlib.Core.Bool.{true}
use mathlib.Core.List.{List, ◌++◌}
use Prim.Native.Nat.{ℕ, ◌+◌, ◌*◌, ◌-◌, ◌≤◌, ◌<◌}
use native.Mathlib.Omega.{arith}
use lib.ListN.{length, take, drop}
use borrow.Rule.Slice.PartMut.{put_mid, Post-is}
use Rattle.refusals.specs.Refusals.{done}
use Rattle.log_rules.specs.declared.Place.{Place}
use Rattle.log_rules.specs.Block.{slots, block_size}
use Rattle.log_rules.specs.Good.{count_in, is_good}
use Rattle.log_rules.specs.Region.{block_at}
use Rattle.log_rules.specs.Add.{place_in, entered, region_after}
use Rattle.log_rules.specs.OfTheLog.{FirstFreeBehindTheLastUsed}
use Rattle.log_rules.proofs.RegionLaws.{block_part}
use Rattle.log_rules.proofs.PlaceHolds.{an_add_goes_behind_the_last_used}

module _ (region : List ℕ) (place : Place) (found : place_in region ≡ done place) where
  taken : FirstFreeBehindTheLastUsed region place
  taken = an_add_goes_behind_the_last_used region place found

  abbrev start : ℕ
  start = block_size * place.block

  abbrev lent : List ℕ
  lent = take (start + block_size - start) (drop start region)

  pub lent_fits : start + block_size ≤ length region
  lent_fits = omega (arith, taken.there)

  lent_block : lent ≡ block_at place.block region
  lent_block = block_part place.block region

  pub lent_good : is_good lent ≡ true
  lent_good = ap is_good lent_block ∙ taken.good

  pub lent_count : place.slot ≡ count_in lent
  lent_count = taken.next ∙ ap count_in (sym lent_block)

  pub lent_free : place.slot < slots
  lent_free = taken.free

  pub put_back : (telegram last : List ℕ) → last ≡ entered lent telegram
      → put_mid start (start + block_size - start) region last ≡ region_after (place_in region) region telegram
  put_back telegram last e =
      ap₂ (λ b d. take start region ++ (b ++ d))
      (e ∙ ap (λ b. entered b telegram) lent_block)
      (Post-is start (start + block_size) region (omega arith))
      ∙ ap (λ o. region_after o region telegram) (sym found)
