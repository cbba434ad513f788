-- `listing_output::print_last` meets its contract.
use Rattle.line_rules.specs.Hearing.{heard_as}
use Rattle.listing_of_lines.specs.Pages.{row_for}
use Rattle.listing_output.proofs.SentLaws.{row_sent, sent_then}
use Rattle.listing_output.proofs.print_last.Goals as goal

pub returns : goal.returns
returns g c =
    let told = c.in_ok-print_made.ensures in
    let sent = row_sent (row_for (heard_as c.args.heard)) _ _ _ _ _ _ c.row_of-made.ensures told.told told.sent in
    sent_then _ _ _ _ _ _ sent c.print_stray.ensures
