-- `calendar::date::month_holding` meets its contract.
use Rattle.std.proofs.Common.{◌≡◌, ℕ, ◌+◌, ◌-◌, ◌*◌, ◌<◌, ◌≤◌, List, length, get_or, Option, None, Some, ap, arith, rules, tests}
use Rattle.std.specs.List.{AllWithin, HoldsAt}
use Rattle.std.specs.Option.{MatchOption, unwrap_or}
use Rattle.std.proofs.lemmas.Iterator.{YieldsList-from_slice, IsFirst-from_position}
use Rattle.calendar_rules.specs.Calendar.{month_holding, month_start}
use Rattle.calendar_rules.specs.TableRows.{IsRow}
use Rattle.calendar_rules.proofs.TableRows.{years_to, year_to, not_january, month_before, month_found}
use Rattle.calendar.proofs.date.month_holding.Goals as goal

-- the month before the first that begins later, or December where none of the year does
held : (day : ℕ) (within : day < 36525) (row : List ℕ) → IsRow (1980 + years_to day) row → (found : Option ℕ)
    → MatchOption found (AllWithin (λ first. first ≤ day) row 0 (length row))
    (λ i. (i < length row) × HoldsAt (λ first. day < first) row i × AllWithin (λ first. first ≤ day) row 0 i)
    → (12 * years_to day + (unwrap_or found 12 - 1) ≡ month_holding day)
    × (get_or row (unwrap_or found 12 - 1) 0 ≡ month_start (month_holding day))
held day within row h None all =
    let twelve : length row ≡ 12 = ap length h.others in
    month_found day within row h 11 (omega arith) (all 11 0 (omega arith) (omega arith)) (year_to day within)
held day within row h (Some i) (below, later, all) =
    let twelve : length row ≡ 12 = ap length h.others in
    let short : i < 12 = omega arith in
    let one : 1 ≤ i = not_january day within row h i short (later 0) in
    let before : i - 1 < i = omega arith in
    month_found day within row h (i - 1) (omega arith) (all (i - 1) 0 (omega arith) before) (month_before day within row h i short (later 0))

pub returns : goal.returns
returns c =
    let row = c.month_starts-starts.result.now in
    let day = c.args.day in
    let first = IsFirst-from_position _ _ c.position.result (λ first. day < first) (λ first. first ≤ day) c.position.ensures.ran (YieldsList-from_slice row c.iter.ensures.rest) (λ x q k. search (rules, tests)) (λ x q k. search (rules, tests)) in
    rw c.unwrap_or-behind.ensures (held day c.requires row c.month_starts-starts.ensures c.position.result first)
