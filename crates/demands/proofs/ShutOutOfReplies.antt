-- The wrong readers and the wrong writer of replies do not meet demand 2: one good reply tells each of them. Assumes nothing.
use mathlib.Core.Path.{◌≡◌, refl, ap}
use mathlib.Core.List.{[]}
use Prim.Native.Nat.{ℕ}
use native.Mathlib.Omega.{arith}
use lib.ListN.{length}
use Rattle.refusals.specs.Refusals.{done, refused, unless}
use Rattle.calendar_rules.specs.Calendar.{is_leap, month_length, month_in_range, date_in_range, day_exists, date_refusal, month_start, day_of}
use Rattle.calendar_rules.specs.DayOfYear.{days_of_months, year_day, day_of_year}
use Rattle.calendar_rules.specs.TimeOfDay.{time_in_range}
use Rattle.leitch_rules.specs.Rule.{status_listed, weekday_listed, all_in_range, weekday_agrees, fields_refusal, day_agrees, day_refusal}
use Rattle.leitch_rules.specs.AsPrinted.{as_printed}
use Rattle.demands.specs.Demand2OfReplies.{GoodReply, WritesReplies, ReadsReplies}
use Rattle.demands.specs.WrongOfReplies.{refusing_reply_reader, fixed_reply, fixed_reply_reader, idle_reply_writer}

is_good_law : GoodReply fixed_reply
unfolding unless is_leap month_length month_in_range date_in_range day_exists date_refusal month_start day_of days_of_months year_day
    day_of_year time_in_range status_listed weekday_listed all_in_range weekday_agrees fields_refusal day_agrees day_refusal
is_good_law = (refl, refl)

-- "a reader that refuses everything"
pub refusing_reply_reader_is_shut_out : ReadsReplies refusing_reply_reader → ⊥
refusing_reply_reader_is_shut_out demand =
    let told : refused 1 ≡ done fixed_reply = (demand (as_printed fixed_reply) fixed_reply).1 (is_good_law, refl) in
    cc

-- "one that returns one fixed record": no bytes at all are not its characters
pub fixed_reply_reader_is_shut_out : ReadsReplies fixed_reply_reader → ⊥
fixed_reply_reader_is_shut_out demand =
    let told : ◌≡◌ {A = ℕ} 31 0 = ap length ((demand [] fixed_reply).0 refl).1 in
    omega arith

-- "a writer .. that does nothing"
pub idle_reply_writer_is_shut_out : WritesReplies idle_reply_writer → ⊥
idle_reply_writer_is_shut_out demand =
    let told : done [] ≡ done (as_printed fixed_reply) = (demand fixed_reply (as_printed fixed_reply) is_good_law (omega arith)).0 in
    let same : [] ≡ as_printed fixed_reply = cc in
    let size : ◌≡◌ {A = ℕ} 0 31 = ap length same in
    omega arith
