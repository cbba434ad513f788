-- The form of some bytes and the row of a form have one length, and bytes that fit a form's row are found to be of that form.
-- Assumes nothing.
use mathlib.Core.Path.{◌≡◌, refl, ap, sym, ◌∙◌}
use mathlib.Core.Bool.{Bool, true, false, cond}
use mathlib.Core.List.{List}
use Prim.Native.Nat.{ℕ}
use native.Mathlib.Omega.{arith}
use lib.Dec.{eqb, ltb}
use lib.ListN.{length, get_or}
use borrow.Author.Tests.{eqb-true, ltb-true}
use Rattle.refusals.specs.Refusals.{done, refused}
use Rattle.places_rules.specs.Places.{fixed, fixed_holds, every}
use Rattle.places_rules.proofs.RoundTrip.{every_at_law}
use Rattle.remote_rules.specs.declared.EastWest.{EastWest}
use Rattle.remote_rules.specs.declared.EastWest.TheVariants.{West, East}
use Rattle.remote_rules.specs.declared.NorthSouth.{NorthSouth}
use Rattle.remote_rules.specs.declared.NorthSouth.TheVariants.{North, South}
use Rattle.remote_rules.specs.declared.rows.Form.{Form}
use Rattle.remote_rules.specs.declared.rows.Form.TheVariants.{Tim, TimAsked, DifPlus, DifMinus, DifAsked, PosWestNorth, PosWestSouth, PosEastNorth, PosEastSouth, PosAsked}
use Rattle.remote_rules.specs.Rows.{inner_row, row_of, is_named, by_sign, by_hemispheres, east_west_of, north_south_of, by_length, form_of}

-- the form of some bytes has a row of so many places
pub sign_length : (sign : Bool) → length (row_of (cond sign DifMinus DifPlus)) ≡ 14
unfolding row_of inner_row
sign_length true = refl
sign_length false = refl

pub hemispheres_length : (east_west : EastWest) (north_south : NorthSouth) → length (row_of (by_hemispheres east_west north_south)) ≡ 30
unfolding row_of inner_row
hemispheres_length West North = refl
hemispheres_length West South = refl
hemispheres_length East North = refl
hemispheres_length East South = refl

module _ (size : ℕ) (form : Form) where
  same_form : (known : Form) (n : ℕ) → length (row_of known) ≡ n → done known ≡ done form → n ≡ length (row_of form)
  same_form known n e f = let same : known ≡ form = cc in sym e ∙ ap (λ k. length (row_of k)) same

  of_length : (full : ℕ) (carrying : Form) (brief : ℕ) (asking : Form) → length (row_of carrying) ≡ full → length (row_of asking) ≡ brief
      → by_length size full carrying brief asking ≡ done form → size ≡ length (row_of form)
  of_length full carrying brief asking f b = go (eqb size full) refl (eqb size brief) refl
    where
      go : (t : Bool) → eqb size full ≡ t → (u : Bool) → eqb size brief ≡ u
          → cond t (done carrying) (cond u (done asking) (refused 1)) ≡ done form → size ≡ length (row_of form)
      go true e u d found = eqb-true size full e ∙ same_form carrying full f found
      go false e true d found = eqb-true size brief d ∙ same_form asking brief b found
      go false e false d found = let z : ◌≡◌ {A = ℕ} 0 1 = cc in absurd (omega arith)

pub row_fits : (bytes : List ℕ) (form : Form) → form_of bytes ≡ done form → length bytes ≡ length (row_of form)
unfolding form_of row_of inner_row
row_fits bytes form = go (is_named 0x54 0x49 0x4D bytes) (is_named 0x44 0x49 0x46 bytes) (is_named 0x50 0x4F 0x53 bytes)
  where
    size : ℕ
    size = length bytes

    go : (tim dif pos : Bool)
        → cond tim (by_length size 30 Tim 10 TimAsked)
        (cond dif (by_length size 14 (by_sign (get_or bytes 5 0)) 8 DifAsked)
        (cond pos (by_length size 30 (by_hemispheres (east_west_of (get_or bytes 5 0)) (north_south_of (get_or bytes 17 0))) 8 PosAsked) (refused 22)))
        ≡ done form
        → size ≡ length (row_of form)
    go true dif pos = of_length size form 30 Tim 10 TimAsked refl refl
    go false true pos = of_length size form 14 (by_sign (get_or bytes 5 0)) 8 DifAsked (sign_length (eqb (get_or bytes 5 0) 0x2D)) refl
    go false false true =
        of_length size form 30 (by_hemispheres (east_west_of (get_or bytes 5 0)) (north_south_of (get_or bytes 17 0))) 8 PosAsked
        (hemispheres_length (east_west_of (get_or bytes 5 0)) (north_south_of (get_or bytes 17 0))) refl
    go false false false = λ found. let z : ◌≡◌ {A = ℕ} 0 1 = cc in absurd (omega arith)

-- bytes that fit a form's row have its fixed characters in their places
module _ (form : Form) (bytes : List ℕ) (same : length bytes ≡ length (row_of form)) (holds : every fixed_holds (row_of form) bytes ≡ true) where
  -- the character at a place
  at_place : (k c : ℕ) → ltb k (length (row_of form)) ≡ true → ((byte : ℕ) → fixed_holds (get_or (row_of form) k (fixed 0)) byte ≡ eqb byte c) → get_or bytes k 0 ≡ c
  at_place k c below is =
      let inside = ltb-true k (length (row_of form)) below in
      eqb-true (get_or bytes k 0) c (sym (is (get_or bytes k 0)) ∙ every_at_law fixed_holds (row_of form) bytes (fixed 0) holds k inside (omega arith))

-- so that they are found to be of that form: by the letters, the colon, the sign and the hemispheres
pub found_again : (form : Form) (bytes : List ℕ) → length bytes ≡ length (row_of form) → every fixed_holds (row_of form) bytes ≡ true
    → form_of bytes ≡ done form
unfolding form_of is_named row_of inner_row
found_again Tim bytes same holds =
    let at = at_place Tim bytes same holds in
    rw (same, at 1 0x54 refl (λ b. refl), at 2 0x49 refl (λ b. refl), at 3 0x4D refl (λ b. refl), at 4 0x3A refl (λ b. refl))
found_again TimAsked bytes same holds =
    let at = at_place TimAsked bytes same holds in
    rw (same, at 1 0x54 refl (λ b. refl), at 2 0x49 refl (λ b. refl), at 3 0x4D refl (λ b. refl), at 4 0x3A refl (λ b. refl))
found_again DifPlus bytes same holds =
    let at = at_place DifPlus bytes same holds in
    rw (same, at 1 0x44 refl (λ b. refl), at 2 0x49 refl (λ b. refl), at 3 0x46 refl (λ b. refl), at 4 0x3A refl (λ b. refl), at 5 0x2B refl (λ b. refl))
found_again DifMinus bytes same holds =
    let at = at_place DifMinus bytes same holds in
    rw (same, at 1 0x44 refl (λ b. refl), at 2 0x49 refl (λ b. refl), at 3 0x46 refl (λ b. refl), at 4 0x3A refl (λ b. refl), at 5 0x2D refl (λ b. refl))
found_again DifAsked bytes same holds =
    let at = at_place DifAsked bytes same holds in
    rw (same, at 1 0x44 refl (λ b. refl), at 2 0x49 refl (λ b. refl), at 3 0x46 refl (λ b. refl), at 4 0x3A refl (λ b. refl))
found_again PosWestNorth bytes same holds =
    let at = at_place PosWestNorth bytes same holds in
    rw (same, at 1 0x50 refl (λ b. refl), at 2 0x4F refl (λ b. refl), at 3 0x53 refl (λ b. refl), at 4 0x3A refl (λ b. refl), at 5 0x57 refl (λ b. refl), at 17 0x4E refl (λ b. refl))
found_again PosWestSouth bytes same holds =
    let at = at_place PosWestSouth bytes same holds in
    rw (same, at 1 0x50 refl (λ b. refl), at 2 0x4F refl (λ b. refl), at 3 0x53 refl (λ b. refl), at 4 0x3A refl (λ b. refl), at 5 0x57 refl (λ b. refl), at 17 0x53 refl (λ b. refl))
found_again PosEastNorth bytes same holds =
    let at = at_place PosEastNorth bytes same holds in
    rw (same, at 1 0x50 refl (λ b. refl), at 2 0x4F refl (λ b. refl), at 3 0x53 refl (λ b. refl), at 4 0x3A refl (λ b. refl), at 5 0x45 refl (λ b. refl), at 17 0x4E refl (λ b. refl))
found_again PosEastSouth bytes same holds =
    let at = at_place PosEastSouth bytes same holds in
    rw (same, at 1 0x50 refl (λ b. refl), at 2 0x4F refl (λ b. refl), at 3 0x53 refl (λ b. refl), at 4 0x3A refl (λ b. refl), at 5 0x45 refl (λ b. refl), at 17 0x53 refl (λ b. refl))
found_again PosAsked bytes same holds =
    let at = at_place PosAsked bytes same holds in
    rw (same, at 1 0x50 refl (λ b. refl), at 2 0x4F refl (λ b. refl), at 3 0x53 refl (λ b. refl), at 4 0x3A refl (λ b. refl))
