-- `telegram::write::lay` meets its contract.
use Rattle.std.proofs.Common.{◌≡◌, ℕ, ◌+◌, ◌-◌, ◌*◌, ◌<◌, ◌≤◌, Bool, true, false, List, [], ◌∷◌, ◌++◌, map, length, take, drop, set, refl, sym, ap, ap₂, ◌∙◌, arith}
use mir.Val.{bool_byte}
use borrow.Rule.Slice.PartMut.{put_mid}
use Rattle.refusals.specs.Refusals.{done, refused}
use Rattle.lent_buffer.specs.Laying.{laid}
use Rattle.lent_buffer.proofs.LayingLaws.{laid_short, laid_fits}
use Rattle.lent_buffer.proofs.TailLaws.{tail_lent, tail_back}
use Rattle.places_rules.specs.Places.{place, render, over}
use Rattle.record_rules.specs.declared.Record.{Record}
use Rattle.layouts_rules.specs.Layouts.{row_numbers, own_layout}
use Rattle.layouts_rules.specs.Coding.{digits_out}
use Rattle.telegram_rules.specs.Writing.{body_bytes, telegram_of}
use Rattle.telegram_rules.proofs.WriteLaws.{row_bytes, length_framed, body_laid, over_room, framed_laid}
use Rattle.telegram.proofs.write.lay.Goals as goal

-- the first byte does not lie in the part behind it, so it may be set before or after
first_set : (out last : List ℕ) → 1 ≤ length out
    → set (put_mid 1 (length out - 1) out last) 0 2 ≡ put_mid 1 (length (set out 0 2) - 1) (set out 0 2) last
first_set [] last h = absurd (omega arith)
first_set (x ∷ out) last h = refl

same_part : (out : List ℕ) → take (length out - 1) (drop 1 out) ≡ take (length (set out 0 2) - 1) (drop 1 (set out 0 2))
same_part [] = refl
same_part (x ∷ out) = refl

module _ (rec : Record) (row : List ℕ) (kept : row ≡ row_numbers (own_layout rec)) where
  short : (control : Bool) (start : ℕ) (out : List ℕ) → start ≡ bool_byte control → length out < length row + 2 * start
      → laid (done (telegram_of control rec)) out ≡ (refused 13, out)
  short true start out is less = laid_short (telegram_of true rec) out (omega (arith, row_bytes rec row kept, length_framed rec))
  short false start out is less = laid_short (telegram_of false rec) out (omega (arith, row_bytes rec row kept))

  module _ (control : Bool) (start : ℕ) (digits out last : List ℕ) (all : digits ≡ digits_out rec) where
    framed : control ≡ true → start ≡ 1 → length row + 2 * start ≤ length out
        → last ≡ over (render (map place row) digits) (take (length out - start) (drop start out))
        → laid (done (telegram_of control rec)) out
        ≡ (done (length row + 2 * start), set (set (put_mid start (length out - start) out last) 0 2) (length row + 2 * start - 1) 3)
    framed is one fits e =
        let n = row_bytes rec row kept in
        let room : length (body_bytes rec) + 2 ≤ length out = omega (arith, n) in
        let made = body_laid rec row kept digits last _ all (rw one at e) ∙ ap (over (body_bytes rec)) (same_part out) in
        let size : length (telegram_of true rec) ≡ length row + 2 * 1 = omega (arith, n, length_framed rec) in
        let end : length row + 2 * 1 - 1 ≡ length (body_bytes rec) + 1 = omega (arith, n) in
        let whole =
        ap₂ (λ l k. set l k 3) (first_set out last (omega arith)) end
        ∙ framed_laid (body_bytes rec) out last room made
        ∙ ap (λ k. telegram_of true rec ++ drop k out) (sym (length_framed rec)) in
        rw (is, one) (laid_fits (telegram_of true rec) out (omega (arith, length_framed rec)) ∙ ap₂ (λ k l. (done k, l)) size (sym whole))

    bare : control ≡ false → start ≡ 0 → length row + 2 * start ≤ length out
        → last ≡ over (render (map place row) digits) (take (length out - start) (drop start out))
        → laid (done (telegram_of control rec)) out ≡ (done (length row + 2 * start), put_mid start (length out - start) out last)
    bare is none fits e =
        let n = row_bytes rec row kept in
        let room : length (body_bytes rec) ≤ length out = omega (arith, n) in
        let made = body_laid rec row kept digits last _ all (rw none at e) ∙ ap (over (body_bytes rec)) (tail_lent 0 out 0 (omega arith)) in
        let size : length (body_bytes rec) ≡ length row + 2 * 0 = omega (arith, n) in
        let whole = tail_back 0 out 0 last (omega arith) ∙ made ∙ over_room _ out room in
        rw (is, none) (laid_fits (telegram_of false rec) out room ∙ ap₂ (λ k l. (done k, l)) size (sym whole))

pub returns-then-out-length : goal.returns-then-out-length
returns-then-out-length c =
    let kept = c.row_of-row.ensures ∙ ap row_numbers c.own_layout.ensures in
    short c.args.rec _ kept c.args.control _ c.args.out.now c.from-start.ensures c.if-out-length.true

pub returns-then-control : goal.returns-then-control
returns-then-control c =
    let kept = c.row_of-row.ensures ∙ ap row_numbers c.own_layout.ensures in
    let one : c.from-start.result ≡ 1 = rw c.if-control.true at c.from-start.ensures in
    framed c.args.rec _ kept _ _ _ c.args.out.now c.render.new.out c.digits_out-digits.ensures c.if-control.true one c.if-out-length.false c.render.ensures

pub returns-else-control : goal.returns-else-control
returns-else-control c =
    let kept = c.row_of-row.ensures ∙ ap row_numbers c.own_layout.ensures in
    let none : c.from-start.result ≡ 0 = rw c.if-control.false at c.from-start.ensures in
    bare c.args.rec _ kept _ _ _ c.args.out.now c.render.new.out c.digits_out-digits.ensures c.if-control.false none c.if-out-length.false c.render.ensures
