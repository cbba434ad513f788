-- `telegram::write::lay_exchanged` meets its contract.
use Rattle.std.proofs.Common.{sym, ap, ◌∙◌}
use Rattle.refusals.specs.Refusals.{done}
use Rattle.refusals.proofs.NumberLaws.{passed_on}
use Rattle.trailer_rules.specs.Trailer.{exchange_at}
use Rattle.telegram_rules.proofs.ExchangeLaws.{laid_then, laid_not}
use Rattle.telegram.proofs.write.lay_exchanged.Goals as goal

pub returns-in_err-length : goal.returns-in_err-length
returns-in_err-length c =
    let start = c.args in
    let last = c.lay.new.out in
    laid_not start.control start.rec start.out.now _ last c.in_err-length.ensures
    ∙ ap (λ told. (told, last)) (sym (passed_on _ _ c.from_residual.ensures.1))

pub returns : goal.returns
returns c =
    let start = c.args in
    let last = c.lay.new.out in
    laid_then start.control start.rec start.out.now _ last c.in_ok-length.ensures
    ∙ ap (λ bytes. (done c.in_ok-length.length, bytes)) (sym (c.exchange.ensures ∙ ap (λ at. exchange_at at last) c.place_in.ensures))
