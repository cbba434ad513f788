-- The six letters with their digits are requests, and nothing else is. Assumes nothing.
use mathlib.Core.Path.{◌≡◌, refl, ap, ap₂, sym, subst, ◌∙◌}
use mathlib.Core.Bool.{Bool, true, false, cond, ◌||◌}
use mathlib.Core.List.{List, [], ◌∷◌}
use mathlib.Core.Logic.{inl, inr, ⊎_elim}
use Prim.Native.Nat.{ℕ, ◌+◌, ◌*◌, ◌/◌, ◌%◌}
use native.Mathlib.Omega.{arith}
use lib.Dec.{eqb}
use lib.ListN.{length, get_or}
use borrow.Author.Tests.{eqb-true}
use Rattle.refusals.specs.Refusals.{done, refused}
use Rattle.refusals.specs.Tables.{EachHolds}
use Rattle.refusals.proofs.Laws.{both}
use Rattle.places_rules.specs.Places.{Place, is_decimal, is_capital, code_value, code_character, fixed_holds, decimal_holds, code_holds, every, fault_of, row_fault, gather, no_digits, render}
use Rattle.places_rules.proofs.Characters.{character_fits, value_of_character}
use Rattle.places_rules.proofs.Rows.{distinct, sound, Held}
use Rattle.places_rules.proofs.RoundTrip.{makes_again, held_gather, sound_slotted}
use Rattle.requests.specs.declared.Asked.{Asked}
use Rattle.requests.specs.declared.Asked.TheVariants.{Time, TimeAndDate, UtcTimeAndDate}
use Rattle.requests.specs.declared.Request.{Request}
use Rattle.requests.specs.Requests.{small_of, alone, delayed, request_rows, fits, delay_for, delay_of, request, request_in, request_of}
use Rattle.requests.specs.Exactly.{at_once, with_count, Listed, ACapitalLetterAsksAtOnce, ASmallLetterAsksAfterItsCount, NothingElseIsARequest, AllElseIs18, NoDelayIsLonger}

pub capital_asks : ACapitalLetterAsksAtOnce
unfolding request_of
capital_asks Time = refl
capital_asks TimeAndDate = refl
capital_asks UtcTimeAndDate = refl

-- two characters that fit a code are read, each with its value
module _ (first second : ℕ) (fits_first : (is_decimal first || is_capital first) ≡ true) (fits_second : (is_decimal second || is_capital second) ≡ true) where
  characters_read : (asked : Asked) → request_of (small_of asked ∷ first ∷ second ∷ []) ≡ done (request asked (delay_for (code_value first) (code_value second)))
  unfolding request_of
  characters_read Time = rw (fits_first, fits_second)
  characters_read TimeAndDate = rw (fits_first, fits_second)
  characters_read UtcTimeAndDate = rw (fits_first, fits_second)

pub small_asks : ASmallLetterAsksAfterItsCount
small_asks asked count below =
    let high = count / 16 in
    let low = count % 16 in
    let whole : delay_for (code_value (code_character high)) (code_value (code_character low)) ≡ 10 * count =
    omega (arith, value_of_character high (omega arith), value_of_character low (omega arith)) in
    characters_read (code_character high) (code_character low) (character_fits high (omega arith)) (character_fits low (omega arith)) asked
    ∙ ap (λ n. done (request asked n)) whole

-- bytes that fit a row are what the row makes of the digits found in them
no_fault : (characters decimals codes : Bool) → fault_of characters decimals codes ≡ 0 → (characters ≡ true) × (decimals ≡ true) × (codes ≡ true)
no_fault true true true e = (refl, refl, refl)
no_fault true true false e = absurd (omega arith)
no_fault true false codes e = absurd (omega arith)
no_fault false decimals codes e = absurd (omega arith)

module _ (row : List Place) (bytes : List ℕ) (alone_in_slot : distinct row ≡ true) (good_row_law : sound row ≡ true) (fitting : fits row bytes ≡ true) where
  parts : (eqb (row_fault row bytes) 0 ≡ true) × (eqb (length bytes) (length row) ≡ true)
  parts = both (eqb (row_fault row bytes) 0) (eqb (length bytes) (length row)) fitting

  as_many : length bytes ≡ length row
  as_many = eqb-true _ _ parts.1

  each_fits : (every fixed_holds row bytes ≡ true) × (every decimal_holds row bytes ≡ true) × (every code_holds row bytes ≡ true)
  each_fits = no_fault _ _ _ (eqb-true _ 0 parts.0)

  made_again : bytes ≡ render row (gather row bytes no_digits)
  made_again = sym (makes_again row bytes no_digits alone_in_slot (sound_slotted row good_row_law) as_many refl each_fits.0 each_fits.1 each_fits.2)

  held : Held row (gather row bytes no_digits)
  held = held_gather row bytes alone_in_slot (sound_slotted row good_row_law) as_many each_fits.1 each_fits.2

-- what each row reads is listed
alone_sound : (asked : Asked) → sound (alone asked) ≡ true
alone_sound Time = refl
alone_sound TimeAndDate = refl
alone_sound UtcTimeAndDate = refl

delayed_sound : (asked : Asked) → sound (delayed asked) ≡ true
delayed_sound Time = refl
delayed_sound TimeAndDate = refl
delayed_sound UtcTimeAndDate = refl

module _ (asked : Asked) (bytes : List ℕ) where
  abbrev read_by : List Place → Request
  read_by row = request asked (delay_of (gather row bytes no_digits))

  of_alone : fits (alone asked) bytes ≡ true → Listed bytes (read_by (alone asked))
  unfolding render
  of_alone fitting =
      let text : bytes ≡ at_once asked = made_again (alone asked) bytes refl (alone_sound asked) fitting in
      inl (text, ap (λ b. delay_of (gather (alone asked) b no_digits)) text)

  of_delayed : fits (delayed asked) bytes ≡ true → Listed bytes (read_by (delayed asked))
  unfolding render
  of_delayed fitting =
      let digits = gather (delayed asked) bytes no_digits in
      let high = get_or digits 0 0 in
      let low = get_or digits 1 0 in
      let shown = (held (delayed asked) bytes refl (delayed_sound asked) fitting).each in
      let count = 16 * high + low in
      let high_back : high % 16 ≡ count / 16 = omega (arith, shown.1.0, shown.1.1.0) in
      let low_back : low % 16 ≡ count % 16 = omega (arith, shown.1.0, shown.1.1.0) in
      let text : bytes ≡ with_count asked count =
      made_again (delayed asked) bytes refl (delayed_sound asked) fitting
      ∙ ap₂ (λ h l. small_of asked ∷ code_character h ∷ code_character l ∷ []) high_back low_back in
      inr (count, omega (arith, shown.1.0, shown.1.1.0), text, refl)

-- where that is so of each row, what is read by them is listed
module _ (bytes : List ℕ) (r : Request) where
  abbrev RowListed : Asked × List Place → Type 0
  RowListed row = fits row.1 bytes ≡ true → Listed bytes (read_by row.0 bytes row.1)

  by_rows : (rows : List (Asked × List Place)) → EachHolds RowListed rows → request_in rows bytes ≡ done r → Listed bytes r
  by_rows [] each e = let z : ◌≡◌ {A = ℕ} 0 1 = cc in absurd (omega arith)
  by_rows (row ∷ more) each e = go (fits row.1 bytes) refl e (by_rows more each.1)
    where
      go : (t : Bool) → fits row.1 bytes ≡ t → cond t (done (read_by row.0 bytes row.1)) (request_in more bytes) ≡ done r
          → (request_in more bytes ≡ done r → Listed bytes r) → Listed bytes r
      go true fitting e later = let same : read_by row.0 bytes row.1 ≡ r = cc in subst (Listed bytes) same (each.0 fitting)
      go false other e later = later e

pub nothing_else : NothingElseIsARequest
unfolding request_of
nothing_else bytes r e =
    by_rows bytes r request_rows
    (of_alone Time bytes, (of_alone TimeAndDate bytes, (of_alone UtcTimeAndDate bytes, (of_delayed Time bytes, (of_delayed TimeAndDate bytes, (of_delayed UtcTimeAndDate bytes, tt))))))
    e

-- and the number of all else
only_18 : (rows : List (Asked × List Place)) (bytes : List ℕ) (number : ℕ) → request_in rows bytes ≡ refused number → number ≡ 18
only_18 [] bytes number e = cc
only_18 (row ∷ more) bytes number e = go (fits row.1 bytes) e (only_18 more bytes number)
  where
    go : (t : Bool) → cond t (done (read_by row.0 bytes row.1)) (request_in more bytes) ≡ refused number
        → (request_in more bytes ≡ refused number → number ≡ 18) → number ≡ 18
    go true e later = let z : ◌≡◌ {A = ℕ} 0 1 = cc in absurd (omega arith)
    go false e later = later e

pub all_else_is_18 : AllElseIs18
unfolding request_of
all_else_is_18 bytes number e = only_18 request_rows bytes number e

pub no_delay_is_longer : NoDelayIsLonger
no_delay_is_longer bytes r e =
    ⊎_elim (λ once. (omega (arith, once.1), omega (arith, once.1))) (λ counted. (omega (arith, counted.1, counted.3), omega (arith, counted.3)))
    (nothing_else bytes r e)
