use Rattle.std.proofs.Common.{◌≡◌, ℕ, ◌-◌, true, ◌&&◌, eqb, List, length, take, drop, length-drop, take_all, sym, ap, ◌∙◌, arith, le-leb}
use borrow.Author.Tests.{lt-leb}
use Rattle.line.specs.Readers.{all_zero, well_formed_at}
use Rattle.line_rules.specs.Line.{places, is_started}
use Rattle.line.proofs.Forms.{well_outside, well_inside}
use Rattle.line.proofs.Reader.is_well_formed.Goals as goal

rest : (held : List ℕ) (len : ℕ) → take (length held - len) (drop len held) ≡ drop len held
rest held len = take_all (length held - len) (drop len held) (omega (arith, length-drop len held))

pub returns-then-is_zero : goal.returns-then-is_zero
returns-then-is_zero c =
    let self = c.args.self in
    ap (λ z. z && eqb self.start self.fed) (sym c.if-is_zero.true ∙ c.is_zero.ensures) ∙ sym (well_outside self c.if-self-eq0.true (omega (arith, c.well_formed)))

pub returns-else-is_zero : goal.returns-else-is_zero
returns-else-is_zero c =
    let self = c.args.self in
    c.if-is_zero.false ∙ ap (λ z. z && eqb self.start self.fed) (sym c.if-is_zero.false ∙ c.is_zero.ensures) ∙ sym (well_outside self c.if-self-eq0.true (omega (arith, c.well_formed)))

pub returns-then-self-gt-PLACES : goal.returns-then-self-gt-PLACES
unfolding well_formed_at
returns-then-self-gt-PLACES c = simp (lt-leb _ _ c.if-self-gt-PLACES.true)

pub returns-then-not-is_started : goal.returns-then-not-is_started
unfolding well_formed_at
returns-then-not-is_started c = simp (le-leb c.args.self.len places (omega arith), sym c.is_started.ensures ∙ c.if-not-is_started.true)

pub returns-then-not-is_zero : goal.returns-then-not-is_zero
unfolding well_formed_at
returns-then-not-is_zero c =
    let self = c.args.self in
    simp (
      le-leb self.len places (omega arith),
      sym c.is_started.ensures ∙ c.if-not-is_started.false,
      ap all_zero (sym (rest self.held self.len)) ∙ sym c.is_zero-2.ensures ∙ c.if-not-is_zero.true,
    )

pub returns : goal.returns
returns c =
    let self = c.args.self in
    let size : length self.held ≡ places = omega (arith, c.well_formed) in
    let sub = c.wrapping_sub_u32 in
    let test = well_inside self sub.result size (omega (arith, c.well_formed)) (omega (arith, sub.ensures.value)) (omega arith) sub.ensures.value in
    let started : true ≡ is_started (take self.len self.held) = sym c.if-not-is_started.false ∙ c.is_started.ensures in
    let zeros : true ≡ all_zero (drop self.len self.held) = sym c.if-not-is_zero.false ∙ c.is_zero-2.ensures ∙ ap all_zero (rest self.held self.len) in
    (λ i. started i && (zeros i && eqb self.start sub.result)) ∙ sym test
