-- Laws of the rules for a reply. Assumes nothing.
use mathlib.Core.Path.{◌≡◌, sym, ◌∙◌}
use mathlib.Core.Bool.{true, not, ◌&&◌}
use Prim.Native.Nat.{◌≤◌}
use native.Mathlib.Omega.{arith}
use lib.Dec.{leb}
use borrow.Author.Tests.{not-false, leb-true}
use Rattle.refusals.specs.Refusals.{◌when◌, ◌else◌}
use Rattle.refusals.proofs.Laws.{both, when_none, else_none, else_assoc}
use Rattle.calendar_rules.specs.Calendar.{date_in_range, day_exists, date_refusal}
use Rattle.calendar_rules.specs.TimeOfDay.{time_in_range}
use Rattle.calendar_rules.proofs.Dates as dates
use Rattle.calendar_rules.proofs.Months.{month_28_to_31}
use Rattle.calendar_rules.proofs.Times as times
use Rattle.leitch_rules.specs.declared.Reply.{Reply}
use Rattle.leitch_rules.specs.Rule.{status_listed, weekday_listed, all_in_range, weekday_agrees, fields_refusal}

module _ (reply : Reply) where
  -- behind a good status, weekday, time and millisecond stand the date's own refusal and the weekday's
  pub date_decides : status_listed reply.status ≡ true → weekday_listed reply.weekday ≡ true → time_in_range reply.time ≡ true
      → leb reply.millisecond 999 ≡ true
      → fields_refusal reply ≡ (date_refusal reply.date else 8 when not (weekday_agrees reply.weekday reply.date))
  unfolding fields_refusal all_in_range date_refusal
  date_decides s w t m =
      rw (s, w, t, m) (else_assoc (6 when not (date_in_range reply.date)) (7 when not (day_exists reply.date)) _)

  -- a reply that no rule for its fields refuses
  pub record Good : Type 0 where
    pub status_listed_law : status_listed reply.status ≡ true
    pub weekday_listed_law : weekday_listed reply.weekday ≡ true
    pub time_in_range_law : time_in_range reply.time ≡ true
    pub millisecond_small : reply.millisecond ≤ 999
    pub date_good : date_refusal reply.date ≡ 0

  pub good : fields_refusal reply ≡ 0 → Good
  unfolding fields_refusal all_in_range
  good none =
      let five = else_none (5 when not (status_listed reply.status && weekday_listed reply.weekday)) _ none in
      let six = else_none (6 when not (time_in_range reply.time && (leb reply.millisecond 999 && date_in_range reply.date))) _ five.1 in
      let listed = both _ _ (not-false _ (when_none 4 _ five.0)) in
      let range = both _ _ (not-false _ (when_none 5 _ six.0)) in
      let small = (both _ _ range.1).0 in
      record {
        status_listed_law = listed.0;
        weekday_listed_law = listed.1;
        time_in_range_law = range.0;
        millisecond_small = leb-true _ _ small;
        date_good = (else_none _ _ (sym (date_decides listed.0 listed.1 range.0 small) ∙ none)).0;
      }

-- what the fields of such a reply are
module _ (reply : Reply) (g : Good reply) where
  pub time_good : times.Good reply.time
  time_good = times.good_range reply.time g.time_in_range_law

  pub date_good : dates.Good reply.date
  date_good = dates.good reply.date g.date_good

  pub day_of_month : reply.date.day ≤ 31
  day_of_month = omega (arith, date_good.to_day, (month_28_to_31 reply.date.year reply.date.month).1)

  pub weekday_1_to_7 : (1 ≤ reply.weekday) × (reply.weekday ≤ 7)
  unfolding weekday_listed
  weekday_1_to_7 = dates.inside_both 1 reply.weekday 7 g.weekday_listed_law
