-- Laws of the tests of a well-formed state, one byte after the other. Assumes nothing.
use Rattle.std.proofs.Common.{◌≡◌, ℕ, zero, suc, ◌+◌, ◌-◌, ◌%◌, ◌^◌, ◌<◌, ◌≤◌, min, Bool, true, ◌&&◌, eqb, leb, le-leb, List, [], ◌∷◌, ◌++◌, length, get_or, take, drop, replicate, sym, refl, ap, ◌∙◌, ap₂, add-one, arith, length-drop, drop_of_length-le, length-take, drop-cons, drop-drop, eqb-true}
use Rattle.refusals.proofs.Laws.{both}
use Rattle.trailer_rules.specs.declared.Order.{Order}
use Rattle.line.specs.declared.Reader.{Reader}
use Rattle.line.specs.Readers.{reader_with, reader_of, all_zero, well_formed, well_formed_at}
use Rattle.line_rules.specs.Line.{places, line_with, start_of, all_plain, is_started}

-- zeros
pub zero_step : (held : List ℕ) (at : ℕ) → at < length held → all_zero (drop at held) ≡ (eqb (get_or held at 0) 0 && all_zero (drop (at + 1) held))
zero_step held at h = rw (drop-cons held at 0 h, add-one)

pub zero_end : (held : List ℕ) (at : ℕ) → length held ≤ at → all_zero (drop at held) ≡ true
zero_end held at h = rw (drop_of_length-le held h)

-- a test that joins what is seen of each byte: what was seen so far, with what is left
module _ (all : List ℕ → Bool) (test : ℕ → Bool) (join : Bool → Bool → Bool) (none : Bool)
    (empty : all [] ≡ none) (cons : (byte : ℕ) (bytes : List ℕ) → all (byte ∷ bytes) ≡ join (test byte) (all bytes))
    (assoc : (a b c : Bool) → join (join a b) c ≡ join a (join b c)) (unit : (a : Bool) → join a none ≡ a)
    (bytes : List ℕ) (at : ℕ) (seen : Bool) (whole : join seen (all (drop at bytes)) ≡ all bytes) where
  pub seen_on : at < length bytes → join (join seen (test (get_or bytes at 0))) (all (drop (at + 1) bytes)) ≡ all bytes
  seen_on more = assoc seen (test (get_or bytes at 0)) (all (drop (at + 1) bytes)) ∙ ap (join seen) (sym step) ∙ whole
    where
      step : all (drop at bytes) ≡ join (test (get_or bytes at 0)) (all (drop (at + 1) bytes))
      step = rw (drop-cons bytes at 0 more, add-one) (cons (get_or bytes at 0) (drop (suc at) bytes))

  pub seen_all : length bytes ≤ at → seen ≡ all bytes
  seen_all over = sym (ap (join seen) (ap all (drop_of_length-le bytes over) ∙ empty) ∙ unit seen) ∙ whole

-- a started telegram
pub started_parts : (held : List ℕ) → 0 < length held → is_started held ≡ (eqb (get_or held 0 0) 2 && all_plain (drop 1 held))
started_parts [] h = absurd (omega arith)
started_parts (first ∷ held) h = refl

module _ (held : List ℕ) (len : ℕ) (size : length held ≡ places) where
  pub taken_length : length (take len held) ≡ min len places
  taken_length = length-take len held ∙ ap (min len) size

-- a start position: the one number that the bytes held lead from to the bytes fed
pub start_is : (fed len start : ℕ) → fed < 2 ^ 32 → start < 2 ^ 32 → len ≤ places → (start + len) % 2 ^ 32 ≡ fed → (fed + (2 ^ 32 - len)) % 2 ^ 32 ≡ start
start_is fed len start f s l wraps = omega (arith, wraps)

-- a reader of a line, by its parts
pub reader_is : (order : Order) (held : List ℕ) (fed stray start : ℕ) → fed < 2 ^ 32 → stray < 2 ^ 32 → start ≡ start_of (line_with held fed stray order)
    → reader_with (held ++ replicate (places - length held) 0) (length held) fed stray start order ≡ reader_of (line_with held fed stray order)
reader_is order held fed stray start f s is =
    let fed_is : fed ≡ fed % 2 ^ 32 = omega arith in
    let stray_is : stray ≡ stray % 2 ^ 32 = omega arith in
    λ i. reader_with (held ++ replicate (places - length held) 0) (length held) (fed_is i) (stray_is i) (is i) order

-- the start position stays while bytes are held
pub start_stays : (fed len n : ℕ) → len + n ≤ places → (fed + n + (2 ^ 32 - (len + n))) % 2 ^ 32 ≡ (fed + (2 ^ 32 - len)) % 2 ^ 32
start_stays fed len n fits =
    let same : fed + n + (2 ^ 32 - (len + n)) ≡ fed + (2 ^ 32 - len) = omega arith in
    ap (λ k. k % 2 ^ 32) same

-- all zeros, and still so from any place on
zeros : (bytes : List ℕ) → all_zero bytes ≡ true → bytes ≡ replicate (length bytes) 0
zeros [] e = refl
zeros (byte ∷ bytes) e =
    let parts = both (eqb byte 0) (all_zero bytes) e in
    ap₂ ◌∷◌ (eqb-true byte 0 parts.0) (zeros bytes parts.1)

zero_on : (n : ℕ) (bytes : List ℕ) → all_zero bytes ≡ true → all_zero (drop n bytes) ≡ true
zero_on zero bytes e = e
zero_on (suc n) [] e = refl
zero_on (suc n) (byte ∷ bytes) e = zero_on n bytes (both (eqb byte 0) (all_zero bytes) e).1

pub padding : (held : List ℕ) (len n : ℕ) → length held ≡ places → all_zero (drop len held) ≡ true → drop (len + n) held ≡ replicate (places - (len + n)) 0
padding held len n size e =
    let rest = sym (drop-drop n len held) in
    let left : length (drop (len + n) held) ≡ places - (len + n) = length-drop (len + n) held ∙ ap (λ k. k - (len + n)) size in
    zeros (drop (len + n) held) (ap all_zero rest ∙ zero_on n (drop len held) e) ∙ ap (λ k. replicate k 0) left

-- the test of a state that holds nothing, and of any other
pub well_outside : (reader : Reader) → reader.len ≡ 0 → reader.fed < 2 ^ 32 → well_formed reader ≡ (all_zero reader.held && eqb reader.start reader.fed)
unfolding well_formed_at
well_outside reader none fits =
    let start : (reader.fed + (2 ^ 32 - 0)) % 2 ^ 32 ≡ reader.fed = omega arith in
    (λ i. leb (none i) places && (is_started (take (none i) reader.held) && (all_zero (drop (none i) reader.held) && eqb reader.start ((reader.fed + (2 ^ 32 - length (take (none i) reader.held))) % 2 ^ 32))))
    ∙ ap (λ s. all_zero reader.held && eqb reader.start s) start

pub well_inside : (reader : Reader) (start : ℕ) → length reader.held ≡ places → reader.fed < 2 ^ 32 → start < 2 ^ 32 → reader.len ≤ places → (start + reader.len) % 2 ^ 32 ≡ reader.fed
    → well_formed reader ≡ (is_started (take reader.len reader.held) && (all_zero (drop reader.len reader.held) && eqb reader.start start))
unfolding well_formed_at
well_inside reader start size fed_fits start_fits fits wraps =
    let held_size = taken_length reader.held reader.len size in
    let held : length (take reader.len reader.held) ≡ reader.len = omega (arith, held_size) in
    let is = start_is reader.fed (length (take reader.len reader.held)) start fed_fits start_fits (omega (arith, held)) (ap (λ len. (start + len) % 2 ^ 32) held ∙ wraps) in
    λ i. le-leb reader.len places fits i && (is_started (take reader.len reader.held) && (all_zero (drop reader.len reader.held) && eqb reader.start (is i)))
