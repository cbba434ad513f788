-- `record::next::next_second` meets its contract: each way it ends is a law of the definition.
use mathlib.Core.Path.{sym, ap, ◌∙◌}
use Rattle.refusals.specs.Refusals.{done}
use Rattle.refusals.proofs.NumberLaws.{passed_on, refused_first_by}
use Rattle.calendar_rules.specs.Answers.{next_in_numbers}
use Rattle.record_rules.specs.Next.{next_second_of}
use Rattle.record_rules.proofs.RuleLaws.{good, good_up_to_59, alone_up_to_59}
use Rattle.record_rules.proofs.NextLaws.{same_day, next_day_law, calendar_ends, time_goes_on, goes_on}
use Rattle.record.proofs.next.next_second.Goals as goal

pub returns-in_err-check : goal.returns-in_err-check
unfolding next_second_of
returns-in_err-check c = passed_on _ _ c.from_residual.ensures.1 ∙ refused_first_by _ _ _ c.in_err-check.ensures

pub returns-in_err-next-in-TimeOnly : goal.returns-in_err-next-in-TimeOnly
returns-in_err-next-in-TimeOnly c =
    let none = rw c.in-TimeOnly.is at (sym c.in_ok-check.ensures) in
    absurd (goes_on _ _ (alone_up_to_59 _ none) (sym c.in_err-next-in-TimeOnly.ensures))

pub returns-in-SameDay : goal.returns-in-SameDay
returns-in-SameDay c =
    let is_alone = c.in-TimeOnly.is in
    let none = rw is_alone at (sym c.in_ok-check.ensures) in
    let time = sym c.in_ok-next-in-TimeOnly.ensures ∙ ap (λ next. done (next_in_numbers next)) c.in-SameDay.is in
    time_goes_on _ _ _ _ none time ∙ ap next_second_of (sym is_alone)

pub returns-in-NextDay : goal.returns-in-NextDay
returns-in-NextDay c =
    let is_alone = c.in-TimeOnly.is in
    let none = rw is_alone at (sym c.in_ok-check.ensures) in
    let time = sym c.in_ok-next-in-TimeOnly.ensures ∙ ap (λ next. done (next_in_numbers next)) c.in-NextDay.is in
    time_goes_on _ _ _ _ none time ∙ ap next_second_of (sym is_alone)

pub returns-in_err-next-in-Dated : goal.returns-in_err-next-in-Dated
returns-in_err-next-in-Dated c =
    let none = rw c.in-Dated.is at (sym c.in_ok-check.ensures) in
    absurd (goes_on _ _ (good_up_to_59 _ _ _ _ _ (good _ _ _ _ _ none)) (sym c.in_err-next-in-Dated.ensures))

pub returns-in-SameDay-2 : goal.returns-in-SameDay-2
returns-in-SameDay-2 c =
    let is_dated = c.in-Dated.is in
    let none = rw is_dated at (sym c.in_ok-check.ensures) in
    let time = sym c.in_ok-next-in-Dated.ensures ∙ ap (λ next. done (next_in_numbers next)) c.in-SameDay-2.is in
    same_day _ _ _ _ _ none _ time ∙ ap next_second_of (sym is_dated)

pub returns-in_err-day-in-NextDay-2 : goal.returns-in_err-day-in-NextDay-2
returns-in_err-day-in-NextDay-2 c =
    let is_dated = c.in-Dated.is in
    let none = rw is_dated at (sym c.in_ok-check.ensures) in
    let time = sym c.in_ok-next-in-Dated.ensures ∙ ap (λ next. done (next_in_numbers next)) c.in-NextDay-2.is in
    passed_on _ _ c.from_residual-in_err-day-in-NextDay-2.ensures.1
    ∙ calendar_ends _ _ _ _ _ none _ _ time (sym c.in_err-day-in-NextDay-2.ensures)
    ∙ ap next_second_of (sym is_dated)

pub returns-in_ok-day-in-NextDay-2 : goal.returns-in_ok-day-in-NextDay-2
returns-in_ok-day-in-NextDay-2 c =
    let is_dated = c.in-Dated.is in
    let none = rw is_dated at (sym c.in_ok-check.ensures) in
    let time = sym c.in_ok-next-in-Dated.ensures ∙ ap (λ next. done (next_in_numbers next)) c.in-NextDay-2.is in
    next_day_law _ _ _ _ _ none _ _ time (sym c.in_ok-day-in-NextDay-2.ensures) ∙ ap next_second_of (sym is_dated)
