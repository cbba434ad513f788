-- `listing_output::print_end` meets its contract.
use Rattle.std.proofs.Common.{◌++◌, ap, sym, ◌∙◌}
use Rattle.listing_rules.specs.Listing.{stray_row}
use Rattle.listing_of_lines.specs.Pages.{row_for}
use Rattle.listing_output.specs.Printing.{bytes_of}
use Rattle.listing_output.proofs.SentLaws.{appends_same, end_row}
use Rattle.listing_output.proofs.print_end.Goals as goal

pub returns-in-Ok-clause-sent : goal.returns-in-Ok-clause-sent
returns-in-Ok-clause-sent g c =
    let reader = c.args.reader in
    let good = sym c.is_well_formed.ensures ∙ c.if-not-is_well_formed.false in
    let row = ap (λ ended. bytes_of (row_for ended.heard)) c.end-ended.ensures ∙ end_row reader good in
    appends_same _ _ _ _ (ap (λ bytes. bytes ++ stray_row reader.stray) row) c.in-Ok.ensures
