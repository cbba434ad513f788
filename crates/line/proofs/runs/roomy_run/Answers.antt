use Rattle.std.proofs.Common.{◌≡◌, ◌-◌, ltb, cond, min, length, take, Some, None, sym, ap, ◌∙◌, arith, rules, length-take}
use borrow.Author.Tests.{tests}
use Rattle.std.specs.List.{position_or_len}
use Rattle.std.specs.Option.{unwrap_or}
use Rattle.std.proofs.lemmas.List.{take_min}
use Rattle.std.proofs.lemmas.Iterator.{YieldsList-from_slice}
use Rattle.std.proofs.lemmas.Iterator.Search.{position_from_yields_List}
use Rattle.line_rules.specs.Line.{places}
use Rattle.line_rules.specs.Runs.{plain_run}
use Rattle.line_rules.proofs.RunLaws.{run_within}
use Rattle.line.proofs.Found.{found, is_other, plain_found}
use Rattle.line.proofs.runs.roomy_run.Goals as goal

pub returns : goal.returns
returns c =
    let piece = c.args.piece.now in
    let room = c.min-room.result in
    let front = take room piece in
    let at : c.position.result ≡ cond (ltb (position_or_len is_other front) (length front)) (Some (position_or_len is_other front)) None =
    position_from_yields_List is_other _ _ c.position.result c.position.ensures.ran (YieldsList-from_slice front cc) (λ x b q k. search (rules, tests)) in
    let size : length front ≡ room = omega (arith, length-take room piece) in
    let is : room ≡ min (places - c.args.len) (length piece) = omega arith in
    let all : front ≡ take (places - c.args.len) piece = ap (λ n. take n piece) is ∙ take_min (places - c.args.len) piece in
    c.unwrap_or.ensures
    ∙ ap (λ o. unwrap_or o room) at
    ∙ ap (λ end. unwrap_or (cond (ltb (position_or_len is_other front) end) (Some (position_or_len is_other front)) None) room) size
    ∙ found _ _ (omega (arith, plain_found front, ap plain_run all, (run_within (places - c.args.len) piece).0, (run_within (places - c.args.len) piece).1))
    ∙ sym (plain_found front)
    ∙ ap plain_run all
