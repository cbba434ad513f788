-- Document 02, g, holds of the step, and of what goes on from it. Assumes nothing.
use mathlib.Core.Path.{◌≡◌, refl, ap, ap₂, sym, ◌∙◌, subst⁻¹}
use mathlib.Core.Bool.{Bool, true, false, cond, not}
use mathlib.Core.List.{List, [], ◌∷◌, ◌++◌, append_assoc}
use Prim.Native.Nat.{ℕ, zero, suc, ◌+◌, ◌-◌, ◌%◌, ◌^◌, ◌≤◌}
use native.Mathlib.Omega.{arith}
use lib.ListN.{length, replicate, length-append, length-take, length-replicate, replicate-append-replicate}
use borrow.Author.Tests.{leb-true, not-true}
use Rattle.refusals.proofs.Laws.{both}
use Rattle.line.specs.declared.Reader.{Reader}
use Rattle.line_rules.specs.Hearing.{Heard, Nothing, Event, Refused}
use Rattle.line.specs.Readers.{reader_with, fed_at, reader_at, line_of, well_formed_at, well_formed, feed_reader_at, feed_reader, end_reader_at, end_reader}
use Rattle.line_rules.specs.Line.{places, Line, start_of, ended, told_by_end, feed_at, heard_for, is_started, fresh_line}
use Rattle.line_rules.specs.Events.{events_at, line_after_at, heard_then}
use Rattle.line.specs.Cuts.{Calls, called_for, calls_then, feeding, calls_of, Served, heard_of, reader_behind}
use Rattle.line.proofs.ReaderLaws.{well as well_of}
use Rattle.line_rules.proofs.GoodLines.{GoodAt, good_feed_at, good_after_at}
use Rattle.line.proofs.StaysGood.{reader_of_good}
use Rattle.takeover.specs.TakingOver.{kept_places, state_of, was_well_formed, with_more_places, taken_over, refused_for, take_over}
use Rattle.takeover.specs.Sentences.{line_kept, is_ten, no_ten, fed_on, ended_on, TheOldBoundIs24, RefusesWhatTheOldRuleRefused, WhatTheOldReaderLeftIsTakenOver}
use Rattle.takeover.specs.Sentences.{ARefusedStateComesBackUnchanged, MoreHeldThanThereWerePlacesIs15, WhatIsTakenOverIsTheSame, WhatIsTakenOverIsWellFormed}
use Rattle.takeover.specs.Sentences.{WithoutATenNothingDiffers, ACallWithoutATenIsTheSame, TheEndIsTheSame, WithoutATenEachCutIsTheSame}
use Rattle.takeover.proofs.TakingOverLaws.{same_held, same_line, as_well_formed, too_many, takes, refuses}
use Rattle.takeover.proofs.BoundLaws.{heard_in, bytes_alike, call_alike}

pub the_old_bound_is_24 : TheOldBoundIs24
the_old_bound_is_24 = refl

pub refuses_what_the_old_rule_refused : RefusesWhatTheOldRuleRefused
unfolding take_over
refuses_what_the_old_rule_refused kept = go (was_well_formed kept)
  where
    go : (well : Bool) → (cond well (taken_over kept) (refused_for kept)).refusal ≡ cond well 0 15
    go true = refl
    go false = refl

pub a_refused_state_comes_back : ARefusedStateComesBackUnchanged
unfolding take_over
a_refused_state_comes_back kept = (go (was_well_formed kept), λ ill. ap (λ taken. taken.reader) (refuses kept ill))
  where
    go : (well : Bool) → (cond well (taken_over kept) (refused_for kept)).kept ≡ kept
    go true = refl
    go false = refl

pub more_held_is_15 : MoreHeldThanThereWerePlacesIs15
more_held_is_15 kept more = ap (λ taken. taken.refusal) (refuses kept (too_many kept more))

-- no more is held than there were places
fits : (state : Reader) → well_formed_at kept_places state ≡ true → state.len ≤ kept_places
unfolding well_formed_at
fits state e = leb-true _ _ (both _ _ e).0

pub taken_over_is_the_same : WhatIsTakenOverIsTheSame
taken_over_is_the_same kept declared well =
    (ap (λ taken. taken.reader) (takes kept well), same_held (state_of kept) declared.0 (fits (state_of kept) well), refl, refl, refl, refl, refl)

more_size : (held : List ℕ) → length held ≡ kept_places → length (held ++ replicate (places - kept_places) 0) ≡ places
more_size held size = omega (arith, length-append held (replicate (places - kept_places) 0))

pub taken_over_is_well_formed : WhatIsTakenOverIsWellFormed
taken_over_is_well_formed kept declared well =
    let within = fits (state_of kept) well in (
      (more_size kept.held declared.0, declared.1, declared.2),
      as_well_formed (state_of kept) declared.0 within ∙ well,
      same_line (state_of kept) declared.0 within,
    )

pub without_a_ten_nothing_differs : WithoutATenNothingDiffers
without_a_ten_nothing_differs kept bytes declared well none =
    let line = same_line (state_of kept) declared.0 (fits (state_of kept) well) in
    let same = bytes_alike kept_places places (omega arith) (line_kept kept) bytes none in
    (ap (λ line. events_at places line bytes) line ∙ same.0, ap (λ line. line_after_at places line bytes) line ∙ same.1)

-- a line's reader has the more places behind it
roomier : (line : Line) → length line.held ≤ kept_places → reader_at places line ≡ with_more_places (reader_at kept_places line)
roomier line within =
    let n = length line.held in
    let more : List ℕ = replicate (places - kept_places) 0 in
    let own : List ℕ = replicate (kept_places - n) 0 in
    let sum : places - n ≡ kept_places - n + (places - kept_places) = omega arith in
    let zeros : replicate {A = ℕ} (places - n) 0 ≡ own ++ more =
    ap (λ k. replicate {A = ℕ} k 0) sum ∙ sym (replicate-append-replicate {A = ℕ} (kept_places - n) (places - kept_places) 0) in
    ap (λ held. reader_with held n (line.fed % 2 ^ 32) (line.stray % 2 ^ 32) (start_of line) line.order)
    (ap (◌++◌ line.held) zeros ∙ sym (append_assoc line.held own more))

-- and is well formed at the lower bound
own_size : (line : Line) → length line.held ≤ kept_places → length (reader_at kept_places line).held ≡ kept_places
own_size line within =
    omega (arith, length-append line.held (replicate {A = ℕ} (kept_places - length line.held) 0), length-replicate {A = ℕ} (kept_places - length line.held) 0)

own_well : (line : Line) → GoodAt kept_places line → well_formed_at kept_places (reader_at kept_places line) ≡ true
own_well line good =
    sym (as_well_formed (reader_at kept_places line) (own_size line good.fits) good.fits)
    ∙ ap well_formed (sym (roomier line good.fits))
    ∙ reader_of_good line (record { fits = omega (arith, good.fits); started = good.started })

well_fed : (bound : ℕ) (reader : Reader) (piece : List ℕ) → well_formed_at bound reader ≡ true
    → feed_reader_at bound reader piece ≡ fed_at bound (feed_at bound (line_of reader) piece)
unfolding feed_reader_at
well_fed bound reader piece well = rw well

module _ (state : Reader) (size : length state.held ≡ kept_places) (well : well_formed_at kept_places state ≡ true) where
  within : state.len ≤ kept_places
  within = fits state well

  well_on : well_formed (with_more_places state) ≡ true
  well_on = as_well_formed state size within ∙ well

  pub kept_good : GoodAt kept_places (line_of state)
  kept_good = record {
    fits = omega (arith, length-take state.len state.held);
    started = ap is_started (sym (same_held state size within)) ∙ (well_of (with_more_places state) well_on).started;
  }

  good_next : (piece : List ℕ) → GoodAt kept_places (feed_at kept_places (line_of state) piece).line
  good_next piece = good_feed_at kept_places (omega arith) (line_of state) piece kept_good

  call : (piece : List ℕ) → is_ten (feed_reader_at kept_places state piece).heard ≡ false
      → feed_reader (with_more_places state) piece ≡ fed_on (feed_reader_at kept_places state piece)
  call piece none =
      let by_line = feed_at kept_places (line_of state) piece in
      let told = well_fed kept_places state piece well in
      let left = roomier by_line.line (good_next piece).fits in
      well_fed places (with_more_places state) piece well_on
      ∙ ap (λ line. fed_at places (feed_at places line piece)) (same_line state size within)
      ∙ ap (fed_at places) (call_alike kept_places places (omega arith) (line_of state) piece (sym (ap (λ fed. is_ten fed.heard) told) ∙ none))
      ∙ (λ i. record { reader = left i; taken = by_line.taken; heard = heard_in by_line })
      ∙ sym (ap fed_on told)

  at_the_end : end_reader (with_more_places state) ≡ ended_on (end_reader_at kept_places state)
  unfolding end_reader_at
  at_the_end =
      rw (well_on, well)
      (ap (λ line. record { reader = reader_at places (ended line); heard = heard_for (told_by_end line.held) state.start }) (same_line state size within))

  -- the state that it leaves is of that bound again
  next_is_law : (piece : List ℕ) → (feed_reader_at kept_places state piece).reader ≡ reader_at kept_places (feed_at kept_places (line_of state) piece).line
  next_is_law piece = ap (λ fed. fed.reader) (well_fed kept_places state piece well)

  next_size : (piece : List ℕ) → length (feed_reader_at kept_places state piece).reader.held ≡ kept_places
  next_size piece = ap (λ reader. length reader.held) (next_is_law piece) ∙ own_size (feed_at kept_places (line_of state) piece).line (good_next piece).fits

  next_well : (piece : List ℕ) → well_formed_at kept_places (feed_reader_at kept_places state piece).reader ≡ true
  next_well piece = ap (well_formed_at kept_places) (next_is_law piece) ∙ own_well (feed_at kept_places (line_of state) piece).line (good_next piece)

pub what_the_old_reader_left : WhatTheOldReaderLeftIsTakenOver
what_the_old_reader_left kept order bytes is =
    let good = good_after_at kept_places (omega arith) (fresh_line order) bytes (record { fits = omega arith; started = refl }) in
    ap (λ taken. taken.refusal) (takes kept (ap (well_formed_at kept_places) is ∙ own_well (line_after_at kept_places (fresh_line order) bytes) good))

pub a_call_without_a_ten : ACallWithoutATenIsTheSame
a_call_without_a_ten kept piece declared well none = call (state_of kept) declared.0 well piece none

pub the_end_is_the_same : TheEndIsTheSame
the_end_is_the_same kept declared well = at_the_end (state_of kept) declared.0 well

-- calls, one behind another
abbrev old : Reader → List ℕ → Calls
old = feeding (feed_reader_at kept_places)

abbrev new : Reader → List ℕ → Calls
new = feeding feed_reader

none_in : (a b : List Heard) → no_ten (a ++ b) ≡ true → (no_ten a ≡ true) × (no_ten b ≡ true)
none_in [] b e = (refl, e)
none_in (heard ∷ a) b e =
    let parts = both (not (is_ten heard)) (no_ten (a ++ b)) e in
    let later = none_in a b parts.1 in
    (rw parts.0 later.0, later.1)

none_heard : (heard : Heard) → no_ten (heard_then heard []) ≡ true → is_ten heard ≡ false
none_heard Nothing e = refl
none_heard (Event answer start size) e = not-true _ (both _ _ e).0
none_heard (Refused number) e = refl

record Alike (ours theirs : Calls) : Type 0 where
  reader : ours.reader ≡ with_more_places theirs.reader
  rest : ours.rest ≡ theirs.rest
  heard : ours.heard ≡ theirs.heard
  size : length theirs.reader.held ≡ kept_places
  well : well_formed_at kept_places theirs.reader ≡ true

repeats : (n : ℕ) (state : Reader) (piece : List ℕ) → length state.held ≡ kept_places → well_formed_at kept_places state ≡ true
    → no_ten (calls_of old n state piece).heard ≡ true → Alike (calls_of new n (with_more_places state) piece) (calls_of old n state piece)
repeats zero state piece size well none = record { reader = refl; rest = refl; heard = refl; size = size; well = well }
repeats (suc n) state piece size well none =
    let theirs = old state piece in
    let split = none_in theirs.heard (calls_of old n theirs.reader theirs.rest).heard none in
    let same = call state size well piece (none_heard (feed_reader_at kept_places state piece).heard split.0) in
    let on = repeats n theirs.reader theirs.rest (next_size state size well piece) (next_well state size well piece) split.1 in
    subst⁻¹ (λ first. Alike (calls_then first (calls_of new n first.reader first.rest)) (calls_of old (suc n) state piece)) (ap (λ fed. called_for fed piece) same)
    (record { reader = on.reader; rest = on.rest; heard = ap (◌++◌ theirs.heard) on.heard; size = on.size; well = on.well })

cuts_alike : (served : List Served) (state : Reader) → length state.held ≡ kept_places → well_formed_at kept_places state ≡ true
    → no_ten (heard_of old state served) ≡ true
    → (heard_of new (with_more_places state) served ≡ heard_of old state served)
    × (reader_behind new (with_more_places state) served ≡ with_more_places (reader_behind old state served))
cuts_alike [] state size well none = (refl, refl)
cuts_alike (served ∷ others) state size well none =
    let theirs = calls_of old served.times state served.piece in
    let split = none_in theirs.heard (heard_of old theirs.reader others) none in
    let here = repeats served.times state served.piece size well split.0 in
    let on = cuts_alike others theirs.reader here.size here.well split.1 in (
      ap₂ ◌++◌ here.heard (ap (λ reader. heard_of new reader others) here.reader ∙ on.0),
      ap (λ reader. reader_behind new reader others) here.reader ∙ on.1,
    )

pub without_a_ten_each_cut : WithoutATenEachCutIsTheSame
without_a_ten_each_cut kept served declared well none = cuts_alike served (state_of kept) declared.0 well none
