-- Laws of a piece that is used up: one call more, and the end of it. Assumes nothing.
use Rattle.std.proofs.Common.{◌≡◌, ℕ, zero, suc, ◌+◌, ◌-◌, ◌<◌, ◌≤◌, Bool, true, false, cond, List, [], ◌∷◌, ◌++◌, map, length, take, drop, set, replicate, sym, ap, ◌∙◌, append_assoc, add-zero, zero-add, add-one, arith, length-drop, take-append-drop, take_all, drop-drop, take-suc-set, drop-set-lt}
use Rattle.line.specs.declared.Reader.{Reader}
use Rattle.line_rules.specs.Hearing.{Heard, Nothing, Event, Refused}
use Rattle.line.specs.Pieces.{Slot, Passed, room, Passing, pass_on, passing, slot_of, passed_for}
use Rattle.line.specs.Readers.{well_formed, fed_for, line_of, feed_reader, feed_reader_at, Fed}
use Rattle.line_rules.specs.Line.{feed_of}
use Rattle.line_rules.proofs.EventLaws.{taken_fits}
use Rattle.refusals.specs.Refusals.{Outcome}
use Rattle.record_rules.specs.declared.Record.{Record}

-- a call takes no more than there is, whatever the reader
taken_by : (reader : Reader) (piece : List ℕ) (good : Bool)
    → (cond good (fed_for (feed_of (line_of reader) piece)) (record { reader = reader; taken = 0; heard = Refused 15 })).taken ≤ length piece
taken_by reader piece true = taken_fits (line_of reader) piece
taken_by reader piece false = omega arith

pub feed_fits : (reader : Reader) (piece : List ℕ) → (feed_reader reader piece).taken ≤ length piece
unfolding feed_reader_at
feed_fits reader piece = taken_by reader piece (well_formed reader)

-- later events behind those that stand in the first slots
abbrev pub behind : List Slot → ℕ → ℕ → Passing → Passed
behind slots count taken later =
    record {
      slots = take count slots ++ (map slot_of later.events ++ replicate (room - (count + length later.events)) (slot_of Nothing));
      count = count + length later.events;
      reader = later.reader;
      taken = taken + later.taken;
      refusal = later.refusal;
    }

-- the slots behind the events hold nothing
abbrev pub Empty : List Slot → ℕ → Type 0
Empty slots count = drop count slots ≡ replicate (room - count) (slot_of Nothing)

pub at_first : (passing : Passing) → behind [] 0 0 passing ≡ passed_for passing
at_first passing =
    λ i. record {
      slots = map slot_of passing.events ++ replicate (room - zero-add (length passing.events) i) (slot_of Nothing);
      count = zero-add (length passing.events) i;
      reader = passing.reader;
      taken = zero-add passing.taken i;
      refusal = passing.refusal;
    }

-- no event more
pub no_more_law : (slots : List Slot) (count taken n refusal : ℕ) (reader : Reader) → Empty slots count
    → behind slots count taken (record { events = []; taken = n; reader = reader; refusal = refusal })
    ≡ record { slots = slots; count = count; reader = reader; taken = taken + n; refusal = refusal }
no_more_law slots count taken n refusal reader empty =
    let whole : take count slots ++ replicate (room - (count + 0)) (slot_of Nothing) ≡ slots =
    ap (λ k. take count slots ++ replicate (room - k) (slot_of Nothing)) (add-zero count) ∙ ap (◌++◌ (take count slots)) (sym empty) ∙ take-append-drop count slots in
    λ i. record { slots = whole i; count = add-zero count i; reader = reader; taken = taken + n; refusal = refusal }

-- one event more
pub one_more : (slots : List Slot) (count taken : ℕ) (heard : Heard) (fed : Fed) (later : Passing) → count < length slots
    → behind slots count taken (record { events = heard ∷ later.events; taken = fed.taken + later.taken; reader = later.reader; refusal = later.refusal })
    ≡ behind (set slots count (slot_of heard)) (count + 1) (taken + fed.taken) later
one_more slots count taken heard fed later free =
    let rest : ℕ → List Slot = λ k. replicate (room - k) (slot_of Nothing) in
    let more = map slot_of later.events in
    let laid : take (count + 1) (set slots count (slot_of heard)) ≡ take count slots ++ slot_of heard ∷ [] = rw (add-one count) (take-suc-set slots count (slot_of heard) free) in
    let size : count + length (heard ∷ later.events) ≡ count + 1 + length later.events = omega arith in
    let taken_all : taken + (fed.taken + later.taken) ≡ taken + fed.taken + later.taken = omega arith in
    let slots_are : take count slots ++ (slot_of heard ∷ more ++ rest (count + length (heard ∷ later.events)))
    ≡ take (count + 1) (set slots count (slot_of heard)) ++ (more ++ rest (count + 1 + length later.events)) =
    sym (append_assoc (take count slots) (slot_of heard ∷ []) (more ++ rest (count + length (heard ∷ later.events))))
    ∙ (λ i. sym laid i ++ (more ++ rest (size i))) in
    λ i. record { slots = slots_are i; count = size i; reader = later.reader; taken = taken_all i; refusal = later.refusal }

pub still_empty : (slots : List Slot) (count : ℕ) (slot : Slot) → count < room → Empty slots count → Empty (set slots count slot) (count + 1)
still_empty slots count slot free empty =
    drop-set-lt (count + 1) slots count slot (omega arith) ∙ sym (drop-drop 1 count slots) ∙ ap (drop 1) empty ∙ one_less (room - count) (room - (count + 1)) (omega arith)
  where
    one_less : (n m : ℕ) → n ≡ suc m → drop 1 (replicate n (slot_of Nothing)) ≡ replicate m (slot_of Nothing)
    one_less n m e = ap (λ k. drop 1 (replicate k (slot_of Nothing))) e

-- a call among others, on what is left of the piece: how it goes on
module _ (whole : Passed) (slots : List Slot) (count taken : ℕ) (reader : Reader) (piece : List ℕ) (fed : Fed) (free : count < room)
    (empty : Empty slots count) (so_far : whole ≡ behind slots count taken (passing (room - count) reader (drop taken piece)))
    (call : fed ≡ feed_reader reader (take (length piece - taken) (drop taken piece))) where
  left : take (length piece - taken) (drop taken piece) ≡ drop taken piece
  left = take_all (length piece - taken) (drop taken piece) (omega (arith, length-drop taken piece))

  abbrev later : Passing
  later = passing (room - (count + 1)) fed.reader (drop (taken + fed.taken) piece)

  called : passing (room - count) reader (drop taken piece) ≡ pass_on fed.heard fed later
  unfolding passing
  called =
      let less : room - count ≡ suc (room - (count + 1)) = omega arith in
      let told = call ∙ ap (feed_reader reader) left in
      ap (λ n. passing n reader (drop taken piece)) less
      ∙ ap (λ f. pass_on f.heard f (passing (room - (count + 1)) f.reader (drop f.taken (drop taken piece)))) (sym told)
      ∙ ap (λ rest. pass_on fed.heard fed (passing (room - (count + 1)) fed.reader rest)) (drop-drop fed.taken taken piece)

  pub ends_with : (refusal : ℕ) → ((on : Passing) → pass_on fed.heard fed on ≡ record { events = []; taken = fed.taken; reader = fed.reader; refusal = refusal })
      → record { slots = slots; count = count; reader = fed.reader; taken = taken + fed.taken; refusal = refusal } ≡ whole
  ends_with refusal is =
      sym (no_more_law slots count taken fed.taken refusal fed.reader empty) ∙ sym (so_far ∙ ap (behind slots count taken) (called ∙ is later))

  pub goes_on : {answer : Outcome Record} {start size : ℕ} → fed.heard ≡ Event answer start size → length slots ≡ room
      → whole ≡ behind (set slots count (slot_of fed.heard)) (count + 1) (taken + fed.taken) later
  goes_on {answer} {start} {size} is slot =
      so_far
      ∙ ap (behind slots count taken) (called ∙ ap (λ h. pass_on h fed later) is)
      ∙ one_more slots count taken (Event answer start size) fed later (omega (arith, slot))
      ∙ ap (λ h. behind (set slots count (slot_of h)) (count + 1) (taken + fed.taken) later) (sym is)

-- where all slots are taken, nothing more is fed
pub full_ends : (slots : List Slot) (count taken : ℕ) (reader : Reader) (rest : List ℕ) → room ≤ count → Empty slots count
    → record { slots = slots; count = count; reader = reader; taken = taken; refusal = 0 } ≡ behind slots count taken (passing (room - count) reader rest)
unfolding passing
full_ends slots count taken reader rest full empty =
    let none : room - count ≡ 0 = omega arith in
    sym (no_more_law slots count taken 0 0 reader empty ∙ (λ i. record { slots = slots; count = count; reader = reader; taken = add-zero taken i; refusal = 0 }))
    ∙ ap (λ n. behind slots count taken (passing n reader rest)) (sym none)

-- no more is taken than there is, and no more is handed on than there is room for
fits_by : (heard : Heard) (fed : Fed) (later : Passing) (more size : ℕ) → fed.taken + later.taken ≤ size → length later.events ≤ more
    → ((pass_on heard fed later).taken ≤ size) × (length (pass_on heard fed later).events ≤ suc more)
fits_by Nothing fed later more size t e = (omega (arith, t), omega arith)
fits_by (Event answer start count) fed later more size t e = (t, omega (arith, e))
fits_by (Refused number) fed later more size t e = (omega (arith, t), omega arith)

pub passing_fits : (more : ℕ) (reader : Reader) (piece : List ℕ)
    → ((passing more reader piece).taken ≤ length piece) × (length (passing more reader piece).events ≤ more)
unfolding passing
passing_fits zero reader piece = (omega arith, omega arith)
passing_fits (suc more) reader piece =
    let fed = feed_reader reader piece in
    let on = passing_fits more fed.reader (drop fed.taken piece) in
    fits_by fed.heard fed (passing more fed.reader (drop fed.taken piece)) more (length piece)
    (omega (arith, on.0, length-drop fed.taken piece, feed_fits reader piece))
    on.1
