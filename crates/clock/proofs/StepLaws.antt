-- Laws of one step of the station clock. Assumes nothing.
use mathlib.Core.Path.{◌≡◌, refl, ap, sym, ◌∙◌}
use mathlib.Core.Bool.{not}
use Prim.Native.Nat.{ℕ, zero, suc}
use native.Mathlib.Omega.{arith}
use Rattle.refusals.specs.Refusals.{◌when◌, ◌else◌, Outcome, done, refused, unless, after}
use Rattle.refusals.proofs.Laws.{was_done, else_assoc}
use Rattle.calendar_rules.specs.declared.date.Date.{Date}
use Rattle.calendar_rules.specs.declared.time.Time.{Time}
use Rattle.record_rules.specs.declared.DatedLayout.{DatedLayout}
use Rattle.record_rules.specs.declared.TimeLayout.{TimeLayout}
use Rattle.record_rules.specs.declared.Status.{Status}
use Rattle.record_rules.specs.declared.Record.{Record}
use Rattle.record_rules.specs.declared.Record.TheVariants.{Dated, TimeOnly}
use Rattle.record_rules.specs.Rule.{refusal_of, carries_date}
use Rattle.record_rules.specs.Next.{record_after, is_last_of_calendar, next_second_of}
use Rattle.clock.specs.declared.Clock.{Clock}
use Rattle.clock.specs.Stepping.{clock_second, with_record, made, stepped_by, step_of}
use Rattle.clock.specs.Running.{ARefusedClockIsUnchanged}

-- a clock's second is the record's next second
pub second_is_next : (rec next : Record) → clock_second rec ≡ done next → next_second_of rec ≡ done next
unfolding clock_second
second_is_next rec next e = go (next_second_of rec) e
  where
    go : (outcome : Outcome Record) → after outcome (λ later. unless (14 when not (carries_date rec)) later) ≡ done next → outcome ≡ done next
    go (done later) e = ap done (was_done (14 when not (carries_date rec)) later next e).1
    go (refused n) e = let z : ◌≡◌ {A = ℕ} 0 1 = cc in absurd (omega arith)

-- The ways in which a step ends.
module _ (clock : Clock) where
  stepped_by_law : (outcome : Outcome Record) → clock_second clock.rec ≡ outcome → stepped_by clock outcome ≡ step_of clock
  unfolding step_of
  stepped_by_law outcome e = ap (stepped_by clock) (sym e)

  pub second_refused : (number : ℕ) → next_second_of clock.rec ≡ refused number
      → record { clock = clock; answer = refused number } ≡ step_of clock
  unfolding clock_second
  second_refused number e = stepped_by_law (refused number) (rw e)

  pub no_date : (layout : TimeLayout) (time : Time) (next : Record) → clock.rec ≡ TimeOnly layout time
      → next_second_of clock.rec ≡ done next → record { clock = clock; answer = refused 14 } ≡ step_of clock
  unfolding clock_second unless
  no_date layout time next is e = stepped_by_law (refused 14) (rw (e, is))

  pub goes_on : (layout : DatedLayout) (status : Status) (weekday : ℕ) (date : Date) (time : Time) (next : Record)
      → clock.rec ≡ Dated layout status weekday date time → next_second_of clock.rec ≡ done next
      → record { clock = with_record clock next; answer = made } ≡ step_of clock
  unfolding clock_second unless
  goes_on layout status weekday date time next is e = stepped_by_law (done next) (rw (e, is))

pub refused_is_unchanged : ARefusedClockIsUnchanged
unfolding step_of
refused_is_unchanged clock n = go (clock_second clock.rec)
  where
    go : (outcome : Outcome Record) → (stepped_by clock outcome).answer ≡ refused n → (stepped_by clock outcome).clock ≡ clock
    go (done next) e = let z : ◌≡◌ {A = ℕ} 0 1 = cc in absurd (omega arith)
    go (refused k) e = refl

-- one refusal after another, told by the lowest of their numbers
one_after_another : (a b : ℕ) (rec : Record)
    → after (after (unless a rec) (λ next. unless b next)) (λ _. done tt) ≡ unless {A = Unit {0}} (a else b) tt
unfolding unless
one_after_another zero zero rec = refl
one_after_another zero (suc b) rec = refl
one_after_another (suc a) b rec = refl

-- the number is the lowest that holds: 5 to 8 by the record's own rule, then 12, then 14
pub lowest_first : (clock : Clock)
    → (step_of clock).answer
    ≡ unless (refusal_of clock.rec else 12 when is_last_of_calendar clock.rec else 14 when not (carries_date clock.rec)) tt
unfolding step_of clock_second next_second_of
lowest_first clock =
    told (clock_second clock.rec)
    ∙ one_after_another (refusal_of clock.rec else 12 when is_last_of_calendar clock.rec) (14 when not (carries_date clock.rec)) (record_after clock.rec)
    ∙ ap (λ n. unless n tt) (sym (else_assoc (refusal_of clock.rec) (12 when is_last_of_calendar clock.rec) (14 when not (carries_date clock.rec))))
  where
    told : (outcome : Outcome Record) → (stepped_by clock outcome).answer ≡ after outcome (λ _. done tt)
    told (done next) = refl
    told (refused n) = refl
