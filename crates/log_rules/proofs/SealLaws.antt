-- Laws of the two bytes that store a block's check. Assumes nothing.
use mathlib.Core.Path.{◌≡◌, refl, ap, ◌∙◌}
use mathlib.Core.Bool.{Bool, true, false, ◌&&◌}
use mathlib.Core.List.{List, [], ◌∷◌, ◌++◌}
use Prim.Native.Nat.{ℕ, ◌+◌, ◌*◌, ◌-◌, ◌%◌, ◌/◌, ◌<◌, min}
use native.Mathlib.Omega.{arith}
use lib.Dec.{eqb}
use lib.ListN.{length, take, drop, get_or, drop_of_length-le}
use lib.Seq.{drop-cons}
use borrow.Author.Tests.{eq-eqb, ne_eqb, eqb-true}
use borrow.Rule.Slice.PartMut.{put_mid}
use Rattle.std.proofs.lemmas.Bool.{eqb-false}
use Rattle.lent_buffer.proofs.TailLaws.{tail_back}
use Rattle.log_rules.specs.Check.{modulus, check_of, low_first}
use Rattle.log_rules.specs.Block.{check_place, block_size, sealed}
use Rattle.log_rules.specs.Tests.{check_fits}

-- a check has two bytes
pub check_small : (body : List ℕ) → check_of body < modulus
unfolding check_of
check_small body = omega arith

-- two bytes, low first, are a number when each is the number's own
two_bytes : (low high n : ℕ) → low < 256 → eqb (low + high * 256) n ≡ (eqb low (n % 256) && (eqb high (n / 256) && true))
two_bytes low high n small = go (eqb low (n % 256)) refl (eqb high (n / 256)) refl
  where
    go : (l : Bool) → eqb low (n % 256) ≡ l → (h : Bool) → eqb high (n / 256) ≡ h → eqb (low + high * 256) n ≡ (l && (h && true))
    go true e true f = eq-eqb _ _ (omega (arith, eqb-true low (n % 256) e, eqb-true high (n / 256) f))
    go true e false f = ne_eqb _ _ (λ same. eqb-false high (n / 256) f (omega arith))
    go false e h f = ne_eqb _ _ (λ same. eqb-false low (n % 256) e (omega arith))

module _ (block : List ℕ) (size : length block ≡ block_size) where
  -- no byte stands behind them
  none_behind : drop block_size block ≡ []
  none_behind = drop_of_length-le block {i = block_size} (omega arith)

  last_two : drop check_place block ≡ get_or block 510 0 ∷ get_or block 511 0 ∷ []
  last_two =
      drop-cons block 510 0 (omega arith)
      ∙ ap (λ l. get_or block 510 0 ∷ l) (drop-cons block 511 0 (omega arith) ∙ ap (λ l. get_or block 511 0 ∷ l) none_behind)

  -- as a number they are compared
  pub compared : (stored check : ℕ) → get_or block 510 0 < 256 → stored ≡ get_or block 510 0 + get_or block 511 0 * 256
      → check ≡ check_of (take check_place block) → eqb stored check ≡ check_fits block
  unfolding check_fits
  compared stored check small read is = rw (last_two, ← is, read) (two_bytes (get_or block 510 0) (get_or block 511 0) check small)

  -- both are stored
  pub laid : (check : ℕ) (bytes : List ℕ) → check ≡ check_of (take check_place block) → bytes ≡ check % 256 ∷ check / 256 % 256 ∷ []
      → put_mid check_place (length block - check_place) block bytes ≡ sealed (take check_place block)
  unfolding sealed
  laid check bytes is written =
      let there : check_place ≡ min check_place (length block) = omega (arith, size) in
      let high : check / 256 % 256 ≡ check / 256 = omega (arith, is, check_small (take check_place block)) in
      tail_back check_place block check_place bytes there
      ∙ ap (◌++◌ (take check_place block)) (written ∙ ap (λ h. check % 256 ∷ h ∷ []) high ∙ ap low_first is)
