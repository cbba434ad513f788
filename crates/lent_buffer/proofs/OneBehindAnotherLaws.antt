-- Laws of parts that stand one behind another. Assumes nothing.
use mathlib.Core.Path.{◌≡◌, refl, ap, ap₂, sym, ◌∙◌}
use mathlib.Core.Bool.{Bool, true, false, cond}
use mathlib.Core.List.{List, [], ◌∷◌, ◌++◌, append_assoc, append-nil}
use Prim.Native.Nat.{ℕ, zero, suc, ◌+◌, ◌-◌, ◌≤◌}
use native.Mathlib.Omega.{arith}
use lib.Dec.{ltb}
use lib.ListN.{length, take, drop, length-append, length-drop, take-append-drop}
use lib.Seq.{drop-drop, length-take-le, take_at, drop_at}
use borrow.Author.Tests.{lt-ltb, le-ltb, ltb-true, ltb-false}
use Rattle.refusals.specs.Refusals.{Outcome, done, refused}
use Rattle.lent_buffer.specs.Endings.{Ending, Whole, Refused}
use Rattle.lent_buffer.specs.Laying.{within, laid}
use Rattle.lent_buffer.specs.OneBehindAnother.{Next, nothing, part, Standing, joined, no_more, part_then, next_then, one_behind_another, ending_in}
use Rattle.lent_buffer.proofs.LayingLaws.{within_cases, within_done, stands, stops}

-- parts behind parts
pub joined_behind : (a b : List (List ℕ)) → joined (a ++ b) ≡ joined a ++ joined b
joined_behind [] b = refl
joined_behind (bytes ∷ a) b = ap (◌++◌ bytes) (joined_behind a b) ∙ sym (append_assoc bytes (joined a) (joined b))

abbrev pub behind : {S : Type 0} → List (List ℕ) → Standing S → Standing S
behind parts later = record { parts = parts ++ later.parts; left = later.left; ending = later.ending }

-- what the first part needs and what the others need, in one room
ends_behind : (room : ℕ) (bytes all : List ℕ) (short : Bool) → ltb room (length bytes) ≡ short
    → cond short (Refused 13) (ending_in (room - length bytes) all) ≡ ending_in room (bytes ++ all)
ends_behind room bytes all true e =
    ap (λ t. cond t (Refused 13) Whole) (sym (lt-ltb room (length (bytes ++ all)) (omega (arith, ltb-true room (length bytes) e, length-append bytes all))))
ends_behind room bytes all false e = go (ltb (room - length bytes) (length all)) refl
  where
    fits : length bytes ≤ room
    fits = ltb-false room (length bytes) e

    go : (t : Bool) → ltb (room - length bytes) (length all) ≡ t → ending_in (room - length bytes) all ≡ ending_in room (bytes ++ all)
    go true f =
        ap (λ t. cond t (Refused 13) Whole)
        (f ∙ sym (lt-ltb room (length (bytes ++ all)) (omega (arith, ltb-true (room - length bytes) (length all) f, fits, length-append bytes all))))
    go false f =
        ap (λ t. cond t (Refused 13) Whole)
        (f ∙ sym (le-ltb room (length (bytes ++ all)) (omega (arith, ltb-false (room - length bytes) (length all) f, fits, length-append bytes all))))

module _ {S : Type 0} (next : S → Next S) where
  -- what comes first
  pub no_part : (n room : ℕ) (start : S) → next start ≡ nothing → one_behind_another next n room start ≡ no_more start Whole
  unfolding one_behind_another
  no_part zero room start is = refl
  no_part (suc n) room start is = ap (λ now. next_then now start room (λ less rest. one_behind_another next n less rest)) is

  pub first_part : (n room : ℕ) (start : S) (outcome : Outcome (List ℕ)) (rest : S) → next start ≡ part outcome rest
      → one_behind_another next (suc n) room start ≡ part_then (within room outcome) start (λ bytes. one_behind_another next n (room - length bytes) rest)
  unfolding one_behind_another
  first_part n room start outcome rest is = ap (λ now. next_then now start room (λ less rest. one_behind_another next n less rest)) is

  -- all that comes, where no part is refused, by at most so many parts
  pub data Comes : ℕ → S → List ℕ → Type 0 where
    none : {n : ℕ} {start : S} → next start ≡ nothing → Comes n start []
    more : {n : ℕ} {start rest : S} {bytes all : List ℕ} → next start ≡ part (done bytes) rest → Comes n rest all → Comes (suc n) start (bytes ++ all)

  pub ends_by_room : {n : ℕ} {start : S} {all : List ℕ} → Comes n start all → (room : ℕ) → (one_behind_another next n room start).ending ≡ ending_in room all
  ends_by_room {n = n} {start = start} (none is) room =
      ap (λ standing. standing.ending) (no_part n room start is) ∙ ap (λ t. cond t (Refused 13) Whole) (sym (le-ltb room 0 (omega arith)))
  ends_by_room {start = start} (more {n = n} {rest = rest} {bytes = bytes} {all = all} is on) room =
      ap (λ standing. standing.ending) (first_part n room start (done bytes) rest is ∙ ap (λ o. part_then o start later) (within_cases room bytes))
      ∙ first (ltb room (length bytes))
      ∙ ap (cond (ltb room (length bytes)) (Refused 13)) (ends_by_room on (room - length bytes))
      ∙ ends_behind room bytes all (ltb room (length bytes)) refl
    where
      later : List ℕ → Standing S
      later bytes = one_behind_another next n (room - length bytes) rest

      first : (short : Bool) → (part_then (cond short (refused 13) (done bytes)) start later).ending ≡ cond short (Refused 13) (later bytes).ending
      first true = refl
      first false = refl

  -- What holds of nothing, and of a part before what it holds of, holds of what stands and what is left.
  module _ (Holds : S → List (List ℕ) → S → Type 0) (none : (start : S) → Holds start [] start)
      (more : (start rest left : S) (bytes : List ℕ) (parts : List (List ℕ)) → next start ≡ part (done bytes) rest → Holds rest parts left → Holds start (bytes ∷ parts) left) where
    abbrev So : S → Standing S → Type 0
    So start standing = Holds start standing.parts standing.left

    pub stands_by : (n room : ℕ) (start : S) → So start (one_behind_another next n room start)
    unfolding one_behind_another
    stands_by zero room start = none start
    stands_by (suc n) room start = now (next start) refl (λ less rest. stands_by n less rest)
      where
        fits : (room : ℕ) (outcome made : Outcome (List ℕ)) (rest : S) → next start ≡ part outcome rest → within room outcome ≡ made
            → ((less : ℕ) → So rest (one_behind_another next n less rest))
            → So start (part_then made start (λ bytes. one_behind_another next n (room - length bytes) rest))
        fits room outcome (done bytes) rest is e on =
            more start rest _ bytes _ (is ∙ ap (λ o. part o rest) (within_done room outcome bytes e).0) (on (room - length bytes))
        fits room outcome (refused number) rest is e on = none start

        now : (comes : Next S) → next start ≡ comes → ((less : ℕ) (rest : S) → So rest (one_behind_another next n less rest))
            → So start (next_then comes start room (λ less rest. one_behind_another next n less rest))
        now nothing is on = none start
        now (part outcome rest) is on = fits room outcome (within room outcome) rest is refl (λ less. on less rest)

  -- A buffer with parts in its front, while parts are laid behind them: `first` is the buffer as it was lent.
  pub record Laying (whole : Standing S) (n : ℕ) (parts : List (List ℕ)) (first out : List ℕ) (now : S) (used : ℕ) : Type 0 where
    pub front : take used out ≡ joined parts
    pub fits : used ≤ length out
    pub size : length out ≡ length first
    pub rest : drop used out ≡ drop used first
    pub so_far : whole ≡ behind parts (one_behind_another next n (length first - used) now)

  -- and when it has ended
  pub record Ended (whole : Standing S) (parts : List (List ℕ)) (first out : List ℕ) (left : S) (used : ℕ) (end : Ending) : Type 0 where
    pub whole_is : whole ≡ record { parts = parts; left = left; ending = end }
    pub size : used ≡ length (joined parts)
    pub buffer : out ≡ joined parts ++ drop used first

  pub none_yet_law : (n : ℕ) (first : List ℕ) (start : S) → Laying (one_behind_another next n (length first) start) n [] first first start 0
  none_yet_law n first start =
      let all : length first ≡ length first - 0 = omega arith in
      record {
        front = refl;
        fits = omega arith;
        size = refl;
        rest = refl;
        so_far = ap (λ room. one_behind_another next n room start) all;
      }

  module _ (whole : Standing S) (n : ℕ) (parts : List (List ℕ)) (first out : List ℕ) (now : S) (used : ℕ) (end : Ending)
      (laying : Laying whole n parts first out now used) where
    ended : (last : List ℕ) → last ≡ drop used out → one_behind_another next n (length first - used) now ≡ no_more now end
        → Ended whole parts first (take used out ++ last) now used end
    ended last untouched is =
        record {
          whole_is =
              laying.so_far ∙ ap (behind parts) is ∙ (λ i. record { parts = append-nil parts i; left = now; ending = end });
          size = sym (length-take-le used out laying.fits) ∙ ap length laying.front;
          buffer = ap₂ ◌++◌ laying.front (untouched ∙ laying.rest);
        }

  pub no_more_law : (whole : Standing S) (n : ℕ) (parts : List (List ℕ)) (first out : List ℕ) (now : S) (used : ℕ) → Laying whole n parts first out now used
      → next now ≡ nothing → Ended whole parts first out now used Whole
  no_more_law whole n parts first out now used laying is =
      let at_end = ended whole n parts first out now used Whole laying (drop used out) refl (no_part n (length first - used) now is) in
      record { whole_is = at_end.whole_is; size = at_end.size; buffer = sym (take-append-drop used out) ∙ at_end.buffer }

  -- one part more, laid into the room behind the last
  module _ (whole : Standing S) (n : ℕ) (parts : List (List ℕ)) (first out : List ℕ) (now : S) (used : ℕ)
      (laying : Laying whole (suc n) parts first out now used)
      (outcome : Outcome (List ℕ)) (rest : S) (comes : next now ≡ part outcome rest)
      (answer : Outcome ℕ) (last : List ℕ) (told : laid outcome (drop used out) ≡ (answer, last)) where
    in_room : within (length first - used) outcome ≡ within (length (drop used out)) outcome
    in_room = ap (λ k. within k outcome) (ap (λ k. k - used) (sym laying.size) ∙ sym (length-drop used out))

    comes_first : one_behind_another next (suc n) (length first - used) now
        ≡ part_then (within (length first - used) outcome) now (λ bytes. one_behind_another next n (length first - used - length bytes) rest)
    comes_first = first_part n (length first - used) now outcome rest comes

    pub part_stops : (number : ℕ) → answer ≡ refused number → Ended whole parts first (take used out ++ last) now used (Refused number)
    part_stops number is =
        let s = stops outcome (drop used out) number last (told ∙ ap (λ a. (a, last)) is) in
        ended whole (suc n) parts first out now used (Refused number) laying last s.1
        (comes_first ∙ ap (λ o. part_then o now (λ bytes. one_behind_another next n (length first - used - length bytes) rest)) (in_room ∙ s.0))

    part_fits : (k : ℕ) → answer ≡ done k → used + k ≤ length out
    part_fits k is =
        let s = stands outcome (drop used out) k last (told ∙ ap (λ a. (a, last)) is) in
        omega (arith, (within_done _ outcome s.bytes s.is_laid).1, s.size, length-drop used out, laying.fits)

    pub part_stands : (k : ℕ) → answer ≡ done k
        → (bytes : List ℕ) × Laying whole n (parts ++ bytes ∷ []) first (take used out ++ last) rest (used + k)
    part_stands k is =
        let s = stands outcome (drop used out) k last (told ∙ ap (λ a. (a, last)) is) in
        let fits = part_fits k is in
        let front : length (take used out ++ s.bytes) ≡ used + k =
        length-append (take used out) s.bytes ∙ ap₂ ◌+◌ (length-take-le used out laying.fits) s.size in
        let left : drop k (drop used out) ≡ drop (used + k) first = ap (drop k) laying.rest ∙ drop-drop k used first in
        let now_is : take used out ++ last ≡ (take used out ++ s.bytes) ++ drop (used + k) first =
        ap (◌++◌ (take used out)) (s.last_is ∙ ap (◌++◌ s.bytes) left) ∙ sym (append_assoc (take used out) s.bytes (drop (used + k) first)) in
        let all : length (take used out ++ last) ≡ length first =
        ap length now_is ∙ length-append (take used out ++ s.bytes) (drop (used + k) first)
        ∙ omega (arith, front, length-drop (used + k) first, fits, laying.size) in
        let less : length first - used - length s.bytes ≡ length first - (used + k) = omega (arith, s.size) in
        let later = one_behind_another next n (length first - (used + k)) rest in (
          s.bytes,
          record {
            front =
                ap (take (used + k)) now_is
                ∙ take_at (take used out ++ s.bytes) (drop (used + k) first) (used + k) front
                ∙ ap₂ ◌++◌ laying.front (sym (append-nil s.bytes))
                ∙ sym (joined_behind (parts) (s.bytes ∷ []));
            fits = omega (arith, all, fits, laying.size);
            size = all;
            rest = ap (drop (used + k)) now_is ∙ drop_at (take used out ++ s.bytes) (drop (used + k) first) (used + k) front;
            so_far =
                laying.so_far
                ∙ ap (behind (parts))
                (comes_first
                ∙ ap (λ o. part_then o now (λ bytes. one_behind_another next n (length first - used - length bytes) rest)) (in_room ∙ s.is_laid)
                ∙ ap (λ room. part_then (done s.bytes) now (λ bytes. one_behind_another next n room rest)) less)
                ∙ (λ i. record { parts = sym (append_assoc (parts) (s.bytes ∷ []) later.parts) i; left = later.left; ending = later.ending });
          },
        )
