-- Which bytes are refused with 22, and which with 1, over every input. Assumes nothing.
use mathlib.Core.Path.{◌≡◌, refl, ap, sym, ◌∙◌}
use mathlib.Core.Bool.{Bool, true, false, cond, not, ◌&&◌}
use mathlib.Core.List.{List, [], ◌∷◌}
use mathlib.Core.Logic.{◌↔◌}
use Prim.Native.Nat.{ℕ, zero, suc, ◌≤◌}
use native.Mathlib.Omega.{arith}
use lib.Dec.{eqb, ltb}
use lib.ListN.{length, take, drop, get_or}
use borrow.Author.Tests.{eqb-true, eqb-false, eq-eqb, ne_eqb}
use Rattle.refusals.specs.Refusals.{◌when◌, ◌else◌, Outcome, done, refused, unless, after}
use Rattle.refusals.proofs.Laws.{both, was_refused}
use Rattle.calendar_rules.specs.Calendar.{date_in_range, day_exists}
use Rattle.calendar_rules.specs.TimeOfDay.{time_in_range}
use Rattle.record_rules.specs.Rule.{weekday_allowed, weekday_agrees}
use Rattle.places_rules.specs.Places.{fixed_holds, decimal_holds, code_holds, every}
use Rattle.telegram_rules.specs.Reading.{framed}
use Rattle.minutes.specs.Minutes.{within12_hours}
use Rattle.remote_rules.specs.declared.Moment.{Moment}
use Rattle.remote_rules.specs.declared.Command.{Command}
use Rattle.remote_rules.specs.declared.Command.TheVariants as command
use Rattle.remote_rules.specs.declared.rows.Form.{Form}
use Rattle.remote_rules.specs.declared.rows.Form.TheVariants.{Tim, TimAsked, DifAsked, PosAsked}
use Rattle.remote_rules.specs.Rows.{row_of, is_named, by_sign, by_hemispheres, east_west_of, north_south_of, form_of}
use Rattle.remote_rules.specs.Rule.{refusal_of, status_refusal, moment_refusal, position_in_range, spelled_well}
use Rattle.remote_rules.specs.Reading.{digits_in, carried, bytes_refusal, command_of}
use Rattle.remote_rules.specs.NamesAsPrinted.{IsNamed, UnknownIs22, LengthsOfEachName}

-- The test of a name, and the four characters that it looks at.
module _ (a b c : ℕ) where
  named_so : (bytes : List ℕ) → is_named a b c bytes ≡ true → take 4 (drop 1 bytes) ≡ a ∷ b ∷ c ∷ 0x3A ∷ []
  unfolding is_named
  named_so bytes e =
      let first = both _ _ e in
      let second = both _ _ first.1 in
      let third = both _ _ second.1 in
      go bytes (eqb-true _ a first.0) (eqb-true _ b second.0) (eqb-true _ c third.0) (eqb-true _ 0x3A third.1)
    where
      go : (all : List ℕ) → get_or all 1 0 ≡ a → get_or all 2 0 ≡ b → get_or all 3 0 ≡ c → get_or all 4 0 ≡ 0x3A → take 4 (drop 1 all) ≡ a ∷ b ∷ c ∷ 0x3A ∷ []
      go [] p q r s = absurd (omega arith)
      go (x ∷ []) p q r s = absurd (omega arith)
      go (x ∷ y ∷ []) p q r s = absurd (omega arith)
      go (x ∷ y ∷ z ∷ []) p q r s = absurd (omega arith)
      go (x ∷ y ∷ z ∷ u ∷ []) p q r s = absurd (omega arith)
      go (x ∷ y ∷ z ∷ u ∷ v ∷ more) p q r s = λ i. p i ∷ q i ∷ r i ∷ s i ∷ []

  named_test : (bytes : List ℕ) → take 4 (drop 1 bytes) ≡ a ∷ b ∷ c ∷ 0x3A ∷ [] → is_named a b c bytes ≡ true
  unfolding is_named
  named_test [] e = absurd (omega (arith, ap length e))
  named_test (x ∷ []) e = absurd (omega (arith, ap length e))
  named_test (x ∷ y ∷ []) e = absurd (omega (arith, ap length e))
  named_test (x ∷ y ∷ z ∷ []) e = absurd (omega (arith, ap length e))
  named_test (x ∷ y ∷ z ∷ u ∷ []) e = absurd (omega (arith, ap length e))
  named_test (x ∷ y ∷ z ∷ u ∷ v ∷ more) e =
      rw (
        eq-eqb y a (ap (λ l. get_or l 0 0) e),
        eq-eqb z b (ap (λ l. get_or l 1 0) e),
        eq-eqb u c (ap (λ l. get_or l 2 0) e),
        eq-eqb v 0x3A (ap (λ l. get_or l 3 0) e),
      )

  not_named : (bytes : List ℕ) → (take 4 (drop 1 bytes) ≡ a ∷ b ∷ c ∷ 0x3A ∷ [] → ⊥) → is_named a b c bytes ≡ false
  not_named bytes other = go (is_named a b c bytes) refl
    where
      go : (t : Bool) → is_named a b c bytes ≡ t → t ≡ false
      go true e = absurd (other (named_so bytes e))
      go false e = refl

-- Behind the form no number is 1, and none is above 8.
abbrev pub Later : ℕ → Type 0
Later n = (n ≤ 8) × (n ≡ 1 → ⊥)

when_later : (n : ℕ) (holds : Bool) → n ≤ 6 → Later (suc (suc n) when holds)
when_later n true small = (omega arith, λ e. absurd (omega arith))
when_later n false small = (omega arith, λ e. absurd (omega arith))

none_later : Later 0
none_later = (omega arith, λ e. absurd (omega arith))

else_later : (n m : ℕ) → Later n → Later m → Later (n else m)
else_later zero m here there = there
else_later (suc n) m here there = here

status_later : (status : ℕ) → Later (status_refusal status)
unfolding status_refusal
status_later status = when_later 3 (ltb 255 status) (omega arith)

moment_later : (moment : Moment) → Later (moment_refusal moment)
unfolding moment_refusal
moment_later moment =
    else_later _ _ (when_later 3 (not (weekday_allowed moment.weekday)) (omega arith))
    (else_later _ _ (when_later 4 (not (time_in_range moment.time && date_in_range moment.date)) (omega arith))
    (else_later _ _ (when_later 5 (not (day_exists moment.date)) (omega arith))
    (when_later 6 (not (weekday_agrees moment.weekday moment.date)) (omega arith))))

command_later : (told : Command) → Later (refusal_of told)
command_later (command.Tim status moment) = else_later _ _ (status_later status) (moment_later moment)
command_later (command.TimAsked status) = status_later status
command_later (command.Dif difference) = when_later 4 (not (within12_hours difference)) (omega arith)
command_later command.DifAsked = none_later
command_later (command.Pos position) = when_later 4 (not (position_in_range position)) (omega arith)
command_later command.PosAsked = none_later

abbrev pub number_of : List ℕ → Form → ℕ
number_of bytes form = 2 when not (framed bytes) else bytes_refusal form bytes

pub bytes_later : (bytes : List ℕ) (form : Form) → Later (number_of bytes form)
unfolding bytes_refusal
bytes_later bytes form =
    let row = row_of form in
    else_later _ _ (when_later 0 (not (framed bytes)) (omega arith))
    (else_later _ _
    (else_later _ _ (when_later 1 (not (every fixed_holds row bytes)) (omega arith))
    (else_later _ _ (when_later 2 (not (every decimal_holds row bytes)) (omega arith)) (when_later 3 (not (every code_holds row bytes)) (omega arith))))
    (else_later _ _ (when_later 4 (not (spelled_well form (digits_in form bytes))) (omega arith)) (command_later (carried form bytes))))

-- Bytes with a known name: one of two forms by the length, or 1.
module _ (bytes : List ℕ) (full : ℕ) (carrying : Form) (brief : ℕ) (asking : Form) where
  abbrev read_by : Bool → Bool → Outcome Command
  read_by is_full is_brief =
      after (cond is_full (done carrying) (cond is_brief (done asking) (refused 1))) (λ form. unless (number_of bytes form) (carried form bytes))

  no_22 : (t u : Bool) → read_by t u ≡ refused 22 → ⊥
  no_22 true u e = absurd (omega (arith, was_refused (number_of bytes carrying) 22 (carried carrying bytes) e, (bytes_later bytes carrying).0))
  no_22 false true e = absurd (omega (arith, was_refused (number_of bytes asking) 22 (carried asking bytes) e, (bytes_later bytes asking).0))
  no_22 false false e = let same : ◌≡◌ {A = ℕ} 1 22 = cc in absurd (omega arith)

  no_1 : (t u : Bool) → read_by t u ≡ refused 1 → (t ≡ false) × (u ≡ false)
  no_1 true u e = absurd ((bytes_later bytes carrying).1 (was_refused (number_of bytes carrying) 1 (carried carrying bytes) e))
  no_1 false true e = absurd ((bytes_later bytes asking).1 (was_refused (number_of bytes asking) 1 (carried asking bytes) e))
  no_1 false false e = (refl, refl)

  -- such a command is refused with 1 exactly for its length, and never with 22
  module _ (judged : command_of bytes ≡ read_by (eqb (length bytes) full) (eqb (length bytes) brief)) where
    known : command_of bytes ≡ refused 22 → ⊥
    known e = no_22 (eqb (length bytes) full) (eqb (length bytes) brief) (sym judged ∙ e)

    by_its_length : (command_of bytes ≡ refused 1) ↔ ((length bytes ≡ full → ⊥) × (length bytes ≡ brief → ⊥))
    by_its_length = (
      λ e. let neither = no_1 (eqb (length bytes) full) (eqb (length bytes) brief) (sym judged ∙ e) in (eqb-false _ _ neither.0, eqb-false _ _ neither.1),
      λ neither. rw (judged, ne_eqb _ _ neither.0, ne_eqb _ _ neither.1),
    )

-- two names of which the first letters differ
not_both : (bytes : List ℕ) (name other : List ℕ) → (get_or name 0 0 ≡ get_or other 0 0 → ⊥) → take 4 (drop 1 bytes) ≡ name → take 4 (drop 1 bytes) ≡ other → ⊥
not_both bytes name other differ e f = differ (ap (λ l. get_or l 0 0) (sym e ∙ f))

module _ (bytes : List ℕ) where
  tim_judged : IsNamed "TIM:" bytes → command_of bytes ≡ read_by bytes 30 Tim 10 TimAsked (eqb (length bytes) 30) (eqb (length bytes) 10)
  unfolding command_of form_of
  tim_judged e = rw (named_test 0x54 0x49 0x4D bytes e)

  dif_judged : IsNamed "DIF:" bytes → command_of bytes ≡ read_by bytes 14 (by_sign (get_or bytes 5 0)) 8 DifAsked (eqb (length bytes) 14) (eqb (length bytes) 8)
  unfolding command_of form_of
  dif_judged e =
      rw (
        not_named 0x54 0x49 0x4D bytes (not_both bytes _ _ (λ same. absurd (omega arith)) e),
        named_test 0x44 0x49 0x46 bytes e,
      )

  pos_judged : IsNamed "POS:" bytes
      → command_of bytes ≡ read_by bytes 30 (by_hemispheres (east_west_of (get_or bytes 5 0)) (north_south_of (get_or bytes 17 0))) 8 PosAsked (eqb (length bytes) 30) (eqb (length bytes) 8)
  unfolding command_of form_of
  pos_judged e =
      rw (
        not_named 0x54 0x49 0x4D bytes (not_both bytes _ _ (λ same. absurd (omega arith)) e),
        not_named 0x44 0x49 0x46 bytes (not_both bytes _ _ (λ same. absurd (omega arith)) e),
        named_test 0x50 0x4F 0x53 bytes e,
      )

  unnamed : (IsNamed "TIM:" bytes → ⊥) × (IsNamed "DIF:" bytes → ⊥) × (IsNamed "POS:" bytes → ⊥) → command_of bytes ≡ refused 22
  unfolding command_of form_of
  unnamed none = rw (not_named 0x54 0x49 0x4D bytes none.0, not_named 0x44 0x49 0x46 bytes none.1, not_named 0x50 0x4F 0x53 bytes none.2)

pub unknown_is_22 : UnknownIs22
unknown_is_22 bytes = (
  λ e. (
    λ tim. known bytes 30 Tim 10 TimAsked (tim_judged bytes tim) e,
    λ dif. known bytes 14 (by_sign (get_or bytes 5 0)) 8 DifAsked (dif_judged bytes dif) e,
    λ pos. known bytes 30 (by_hemispheres (east_west_of (get_or bytes 5 0)) (north_south_of (get_or bytes 17 0))) 8 PosAsked (pos_judged bytes pos) e,
  ),
  unnamed bytes,
)

pub lengths_of_each : LengthsOfEachName
lengths_of_each =
    record {
      tim = λ bytes e. by_its_length bytes 30 Tim 10 TimAsked (tim_judged bytes e);
      dif = λ bytes e. by_its_length bytes 14 (by_sign (get_or bytes 5 0)) 8 DifAsked (dif_judged bytes e);
      pos = λ bytes e.
          by_its_length bytes 30 (by_hemispheres (east_west_of (get_or bytes 5 0)) (north_south_of (get_or bytes 17 0))) 8 PosAsked (pos_judged bytes e);
    }
