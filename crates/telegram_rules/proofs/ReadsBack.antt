-- What a write makes, read back: for each setting, and for none. Assumes nothing.
use mathlib.Core.Path.{◌≡◌, refl, ap, sym, ◌∙◌}
use mathlib.Core.Bool.{Bool, true, false, cond}
use mathlib.Core.List.{List}
use Prim.Native.Nat.{ℕ}
use native.Mathlib.Omega.{arith}
use Rattle.refusals.specs.Refusals.{Outcome, done, refused, after}
use Rattle.refusals.proofs.Laws.{was_done}
use Rattle.lent_buffer.proofs.LayingLaws.{within_done}
use Rattle.record_rules.specs.declared.Record.{Record}
use Rattle.record_rules.specs.declared.Record.TheVariants.{Dated, TimeOnly}
use Rattle.record_rules.specs.declared.DatedLayout.TheVariants.{L6021}
use Rattle.record_rules.specs.Rule.{status_allowed, refusal_of}
use Rattle.record_rules.specs.Next.{next_second_of}
use Rattle.record_rules.proofs.NextLaws.{next_good}
use Rattle.record_rules.proofs.RuleLaws as rule
use Rattle.telegram_rules.specs.declared.write.Setting.{Setting}
use Rattle.telegram_rules.specs.declared.write.Choice.{Choice}
use Rattle.telegram_rules.specs.declared.write.Choice.TheVariants.{Named, NamedIn, Unnamed}
use Rattle.telegram_rules.specs.Reading.{read_in, read_of}
use Rattle.telegram_rules.specs.Writing.{judged_of, as6021, record_by, record_to_write, control_of, order_of, telegram_for, written}
use Rattle.telegram_rules.proofs.WriteLaws.{was_made}
use Rattle.telegram_rules.proofs.InOrder.{reads_back_law}

-- the record that a choice writes is good
as_6021_good : (rec same : Record) → refusal_of rec ≡ 0 → as6021 rec ≡ done same → refusal_of same ≡ 0
unfolding status_allowed
as_6021_good (Dated layout status weekday date time) same none e =
    let g = rule.good layout status weekday date time none in
    let is : Dated L6021 status weekday date time ≡ same = cc in
    ap refusal_of (sym is)
    ∙ rule.not_refused L6021 status weekday date time
    (record {
      status_allowed_law = refl;
      weekday_allowed_law = g.weekday_allowed_law;
      time_allowed_law = g.time_allowed_law;
      date_good = g.date_good;
      weekday_agrees_law = g.weekday_agrees_law;
    })
as_6021_good (TimeOnly layout time) same none e = let z : ◌≡◌ {A = ℕ} 0 1 = cc in absurd (omega arith)

judged_good : (rec same : Record) → judged_of rec ≡ done same → (refusal_of rec ≡ 0) × (rec ≡ same)
judged_good rec same e = was_done (refusal_of rec) rec same e

set_is_good : (setting : Setting) (rec same : Record) → record_by setting rec ≡ done same → refusal_of same ≡ 0
set_is_good setting rec same = go setting.advance
  where
    go : (advance : Bool) → cond advance (next_second_of rec) (judged_of rec) ≡ done same → refusal_of same ≡ 0
    go true e = next_good rec same e
    go false e = let j = judged_good rec same e in ap refusal_of (sym j.1) ∙ j.0

pub written_is_good : (choice : Choice) (rec same : Record) → record_to_write choice rec ≡ done same → refusal_of same ≡ 0
written_is_good (Named setting) rec same = set_is_good setting rec same
written_is_good (NamedIn setting order) rec same = set_is_good setting rec same
written_is_good Unnamed rec same = go (judged_of rec) refl
  where
    go : (o : Outcome Record) → judged_of rec ≡ o → after o as6021 ≡ done same → refusal_of same ≡ 0
    go (done good) f e = let j = judged_good rec good f in as_6021_good good same (ap refusal_of (sym j.1) ∙ j.0) e
    go (refused n) f e = let z : ◌≡◌ {A = ℕ} 0 1 = cc in absurd (omega arith)

-- what a write makes reads back as the record that the choice asks for, whatever the room
pub write_reads_back : (choice : Choice) (rec : Record) (room : ℕ) (bytes : List ℕ) → written choice rec room ≡ done bytes
    → read_in (order_of choice) (control_of choice) bytes ≡ record_to_write choice rec
write_reads_back choice rec room bytes e =
    let made = was_made choice rec bytes (within_done room (telegram_for choice rec) bytes e).0 in
    ap (read_in (order_of choice) (control_of choice)) (sym made.2)
    ∙ reads_back_law (order_of choice) (control_of choice) made.0 (written_is_good choice rec made.0 made.1)
    ∙ sym made.1

-- (c) written with second advance it reads back as the next second
pub advance_reads_back : (setting : Setting) (rec : Record) (room : ℕ) (bytes : List ℕ) → setting.advance ≡ true
    → written (Named setting) rec room ≡ done bytes → read_of setting.control bytes ≡ next_second_of rec
advance_reads_back setting rec room bytes on e =
    write_reads_back (Named setting) rec room bytes e ∙ ap (λ advance. cond advance (next_second_of rec) (judged_of rec)) on

-- and without it as the record itself
pub plain_reads_back : (setting : Setting) (rec : Record) (room : ℕ) (bytes : List ℕ) → setting.advance ≡ false
    → written (Named setting) rec room ≡ done bytes → read_of setting.control bytes ≡ judged_of rec
plain_reads_back setting rec room bytes off e =
    write_reads_back (Named setting) rec room bytes e ∙ ap (λ advance. cond advance (next_second_of rec) (judged_of rec)) off

-- (d) without a named setting it reads back, with control characters, as a 6021 with every field that 6021 carries
pub unnamed_reads_back : (rec : Record) (room : ℕ) (bytes : List ℕ) → written Unnamed rec room ≡ done bytes
    → read_of true bytes ≡ after (judged_of rec) as6021
unnamed_reads_back rec room bytes e = write_reads_back Unnamed rec room bytes e
