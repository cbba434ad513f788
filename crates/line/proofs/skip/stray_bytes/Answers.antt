use Rattle.std.proofs.Common.{◌≡◌, ltb, cond, length, Some, None, sym, ap, ◌∙◌, arith, rules}
use borrow.Author.Tests.{tests}
use Rattle.std.specs.List.{position_or_len}
use Rattle.std.specs.Option.{unwrap_or}
use Rattle.std.proofs.lemmas.Iterator.{YieldsList-from_slice}
use Rattle.std.proofs.lemmas.Iterator.Search.{position_from_yields_List}
use Rattle.line_rules.proofs.RunLaws.{stray_ends}
use Rattle.line.proofs.Found.{found, is_stx, stray_found}
use Rattle.line.proofs.skip.stray_bytes.Goals as goal

pub returns : goal.returns
returns c =
    let piece = c.args.piece.now in
    let at : c.position.result ≡ cond (ltb (position_or_len is_stx piece) (length piece)) (Some (position_or_len is_stx piece)) None =
    position_from_yields_List is_stx _ _ c.position.result c.position.ensures.ran (YieldsList-from_slice piece cc) (λ x b q k. search (rules, tests)) in
    c.unwrap_or.ensures ∙ ap (λ o. unwrap_or o (length piece)) at ∙ found _ _ (omega (arith, stray_found piece, (stray_ends piece).0)) ∙ sym (stray_found piece)
