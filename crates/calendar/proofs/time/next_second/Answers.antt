-- `calendar::time::next_second` meets its contract.
use mathlib.Core.Path.{sym, ◌∙◌}
use borrow.Author.Tests.{lt-ltb, le-ltb}
use Rattle.refusals.specs.Refusals.{unless}
use Rattle.calendar_rules.specs.TimeOfDay.{time_refusal, time_after, next_second}
use Rattle.calendar_rules.proofs.Times.{good_range, not_last_second, not_last_minute, not_last_hour, last_second}
use Rattle.calendar.proofs.time.next_second.Goals as goal

pub returns-then-not-time_in_range : goal.returns-then-not-time_in_range
unfolding unless time_refusal next_second
returns-then-not-time_in_range c = rw (sym c.time_in_range.ensures ∙ c.if-not-time_in_range.true)

pub returns-then-second-lt59 : goal.returns-then-second-lt59
unfolding unless time_refusal time_after next_second
returns-then-second-lt59 c =
    let range = sym c.time_in_range.ensures ∙ c.if-not-time_in_range.false in
    let second = c.if-second-lt59.true in
    simp (range, not_last_second c.args.time second, lt-ltb _ _ second)

pub returns-then-minute-lt59 : goal.returns-then-minute-lt59
unfolding unless time_refusal time_after next_second
returns-then-minute-lt59 c =
    let range = sym c.time_in_range.ensures ∙ c.if-not-time_in_range.false in
    let second = c.if-second-lt59.false in
    let minute = c.if-minute-lt59.true in
    simp (range, not_last_minute c.args.time minute, le-ltb _ _ second, lt-ltb _ _ minute)

pub returns-then-hour-lt23 : goal.returns-then-hour-lt23
unfolding unless time_refusal time_after next_second
returns-then-hour-lt23 c =
    let range = sym c.time_in_range.ensures ∙ c.if-not-time_in_range.false in
    let second = c.if-second-lt59.false in
    let minute = c.if-minute-lt59.false in
    let hour = c.if-hour-lt23.true in
    simp (range, not_last_hour c.args.time hour, le-ltb _ _ second, le-ltb _ _ minute, lt-ltb _ _ hour)

pub returns : goal.returns
unfolding unless time_refusal time_after next_second
returns c =
    let range = sym c.time_in_range.ensures ∙ c.if-not-time_in_range.false in
    let second = c.if-second-lt59.false in
    let minute = c.if-minute-lt59.false in
    let hour = c.if-hour-lt23.false in
    let last = last_second c.args.time (good_range _ range) hour minute second in
    simp (range, last, le-ltb _ _ second, le-ltb _ _ minute, le-ltb _ _ hour)
