-- The calendar's last second 60 is as it is printed. Its fields are asked, as they say the same: to seek its month through the whole
-- calendar takes too long. Assumes nothing.
use mathlib.Core.Path.{◌≡◌, refl, ap, sym, ◌∙◌}
use mathlib.Core.Bool.{true}
use Rattle.refusals.specs.Refusals.{refused, unless}
use Rattle.calendar_rules.specs.Calendar.{month_length, month_in_range, date_in_range, day_exists, date_refusal, weekday_of, is_last_day}
use Rattle.calendar_rules.specs.TimeOfDay.{time_in_range, is_last_second}
use Rattle.calendar_rules.specs.Literals.{date, time}
use Rattle.record_rules.specs.declared.DatedLayout.{DatedLayout}
use Rattle.record_rules.specs.declared.DatedLayout.TheVariants.{L6021}
use Rattle.record_rules.specs.declared.Status.{Status}
use Rattle.record_rules.specs.declared.Record.{Record}
use Rattle.record_rules.specs.declared.Record.TheVariants.{Dated}
use Rattle.record_rules.specs.Literals.{marked_utc}
use Rattle.record_rules.specs.Sixty.{sixty_behind59, up_to59}
use Rattle.record_rules.specs.SixtyByFields.{ends_in_utc, sixty_by_fields}
use Rattle.record_rules.specs.Rule.{status_allowed, weekday_allowed, time_allowed, refusal_of}
use Rattle.record_rules.specs.Next.{next_second_of}
use Rattle.record_rules.specs.Following.{TheLastSixtyIsGoodAndNoneFollows}
use Rattle.record_rules.specs.AsPrinted.{TheLastSixtyIsAsPrinted}
use Rattle.record_rules.proofs.SixtyLaws.{last_number, fields_say_the_same}
use Rattle.record_rules.proofs.RuleLaws.{not_refused}
use Rattle.record_rules.proofs.FollowingLaws.{no_follower_no_number}

abbrev pub last_sixty : Record
last_sixty = Dated L6021 marked_utc 7 (date 2079 12 31) (time 23 59 60)

-- marked UTC, with any status that its layout allows
module _ (layout : DatedLayout) (status : Status) (marked : status.utc ≡ true) (fine : status_allowed layout status ≡ true) where
  last_allowed : time_allowed status (date 2079 12 31) (time 23 59 60) ≡ true
  unfolding time_allowed time_in_range sixty_behind59 sixty_by_fields ends_in_utc month_in_range month_length
  last_allowed =
      let says : sixty_by_fields status (date 2079 12 31) (time 23 59 60) ≡ true = rw marked in
      sym (fields_say_the_same status (date 2079 12 31) (time 23 59 60)) ∙ says

  any_last_good : refusal_of (Dated layout status 7 (date 2079 12 31) (time 23 59 60)) ≡ 0
  unfolding weekday_allowed date_refusal date_in_range month_in_range day_exists month_length is_last_day
  any_last_good =
      not_refused layout status 7 (date 2079 12 31) (time 23 59 60)
      (record {
        status_allowed_law = fine;
        weekday_allowed_law = refl;
        time_allowed_law = last_allowed;
        date_good = refl;
        weekday_agrees_law = ap weekday_of (last_number (date 2079 12 31) last_day);
      })
    where
      last_day : is_last_day (date 2079 12 31) ≡ true
      last_day = refl

  pub any_last_next : next_second_of (Dated layout status 7 (date 2079 12 31) (time 23 59 60)) ≡ refused 12
  unfolding unless next_second_of up_to59 is_last_second is_last_day
  any_last_next = rw any_last_good

pub last_is_good : TheLastSixtyIsGoodAndNoneFollows
last_is_good layout status marked fine = (any_last_good layout status marked fine, any_last_next layout status marked fine)

last_good : refusal_of last_sixty ≡ 0
unfolding status_allowed
last_good = any_last_good L6021 marked_utc refl refl

pub last_next : next_second_of last_sixty ≡ refused 12
unfolding status_allowed
last_next = any_last_next L6021 marked_utc refl refl

pub last_as_printed : TheLastSixtyIsAsPrinted
last_as_printed =
    let none = no_follower_no_number last_sixty refl last_next in
    (last_good, (none.1, (none.0, (last_next, tt))))
