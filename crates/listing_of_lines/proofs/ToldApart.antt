-- What a call hands out leaves nothing open: what it means determines it. Assumes nothing.
use mathlib.Core.Path.{◌≡◌, ap}
use Prim.Native.Nat.{ℕ}
use Rattle.std.specs.Prelude.{Result, Ok, Err}
use Rattle.lent_buffer.proofs.EndingLaws.{ending_told_apart}
use Rattle.listing.specs.Texts.{told_as}
use Rattle.listing_of_lines.specs.Pages.{listed_as}
use Rattle.listing_of_lines.specs.declared.Listed.{Listed}

pub listed_told_apart : (a b : Listed) → listed_as a ≡ listed_as b → a ≡ b
listed_told_apart a b e =
    let reader = ap (λ l. l.reader) e in
    let taken = ap (λ l. l.taken) e in
    let used = ap (λ l. l.used) e in
    let ending = ending_told_apart a.ending b.ending (ap (λ l. l.ending) e) in
    λ i. record { reader = reader i; taken = taken i; used = used i; ending = ending i }

pub told_told_apart : {A : Type 0} (a b : Result A ℕ) → told_as a ≡ told_as b → a ≡ b
told_told_apart (Ok a) (Ok b) e = cc
told_told_apart (Err a) (Err b) e = cc
told_told_apart (Ok a) (Err b) e = cc
told_told_apart (Err a) (Ok b) e = cc
