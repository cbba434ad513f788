-- Laws of what goes out. Assumes nothing.
use Rattle.std.proofs.Common.{◌≡◌, ℕ, List, [], ◌∷◌, ◌++◌, length, take, drop, true, Option, Result, Ok, Err, refl, ap, sym, ◌∙◌, subst, arith}
use Rattle.std.proofs.lemmas.Grind.{common_steps}
use Rattle.std.specs.Io.KnownBytes.{Appends}
use Rattle.std.proofs.KnownBytes.{Appends-trans}
use Rattle.refusals.specs.declared.Refusal.{Refusal}
use Rattle.refusals.specs.Numbers.{outcome}
use Rattle.refusals.specs.Refusals.{Outcome, done}
use Rattle.lent_buffer.specs.Laying.{laid}
use Rattle.lent_buffer.proofs.LayingLaws.{stands, within_done}
use Rattle.line.specs.declared.Reader.{Reader}
use Rattle.line.specs.Readers.{line_of, well_formed, end_reader, end_reader_at}
use Rattle.line_rules.specs.Line.{heard_for, told_by_end}
use Rattle.listing_of_lines.specs.Pages.{row_for}
use Rattle.listing_of_lines.specs.Whole.{row_of_event}
use Rattle.listing_output.specs.Printing.{Output, bytes_of, numbered, printed_row, IsSent, IsRowSent}

-- a row that was laid stands at the front of its buffer
pub row_back : (row : Outcome (List ℕ)) (buffer last : List ℕ) (n : ℕ) → laid row buffer ≡ (done n, last) → bytes_of row ≡ take n last
row_back row buffer last n is =
    let stand = stands row buffer n last is in
    let was = (within_done (length buffer) row stand.bytes stand.is_laid).0 in
    ap bytes_of was ∙ sym (front stand.bytes (drop n buffer) stand.size stand.last_is)
  where
    front : (bytes rest : List ℕ) → length bytes ≡ n → last ≡ bytes ++ rest → take n last ≡ bytes
    front bytes rest size is = grind (arith, common_steps)

-- so its bytes are what goes out
pub row_sent : (row : Outcome (List ℕ)) (buffer last : List ℕ) (made : Result ℕ Refusal) (told : Output) (before after : Option (List ℕ))
    → laid row buffer ≡ (outcome made, last) → told ≡ printed_row (numbered made) told → IsRowSent (numbered made) told before after last
    → IsSent told before after (bytes_of row)
row_sent row buffer last (Ok n) told before after is says sent = subst (IsSent told before after) (sym (row_back row buffer last n is)) sent
row_sent row buffer last (Err refusal) told before after is says sent = subst (λ o. IsSent o before after (bytes_of row)) (sym says) tt

pub was_sent : (told : Output) (before after : Option (List ℕ)) (bytes : List ℕ) → told ≡ Ok tt → IsSent told before after bytes → Appends before after bytes
was_sent told before after bytes whole sent = subst (λ o. IsSent o before after bytes) whole sent

pub appends_same : (before after : Option (List ℕ)) (bytes same : List ℕ) → bytes ≡ same → Appends before after bytes → Appends before after same
appends_same before after bytes same is sent = subst (Appends before after) is sent

-- one behind another
pub sent_then : (told : Output) (before between after : Option (List ℕ)) (first second : List ℕ) → Appends before between first → IsSent told between after second
    → IsSent told before after (first ++ second)
sent_then (Ok whole) before between after first second one other = Appends-trans before between after first second one other
sent_then (Err why) before between after first second one other = tt

-- and what the end of a line tells has a row
pub end_row : (reader : Reader) → well_formed reader ≡ true → bytes_of (row_for (end_reader reader).heard) ≡ row_of_event (end_reader reader).heard
unfolding end_reader_at
end_row reader good = rw good (go (line_of reader).held)
  where
    go : (held : List ℕ) → bytes_of (row_for (heard_for (told_by_end held) reader.start)) ≡ row_of_event (heard_for (told_by_end held) reader.start)
    go [] = refl
    go (first ∷ held) = refl
