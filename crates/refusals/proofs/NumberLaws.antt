-- What an answer means determines the answer: no two refusals have one number. Assumes nothing.
use mathlib.Core.Path.{◌≡◌, refl, ap, sym}
use Rattle.std.specs.Prelude.{true, false, ℕ, [], ◌∷◌, get_or, Option, None, Some, Result, Ok, Err}
use Rattle.std.specs.Option.{is_some}
use Rattle.refusals.specs.declared.Refusal.{Refusal}
use Rattle.refusals.specs.declared.Refusal.TheVariants as is
use Rattle.refusals.specs.Numbers.{number, number_if, outcome, verdict}
use Rattle.refusals.specs.Refusals.{◌else◌, refused, unless}
use Rattle.std.specs.Result.{IsErrAnd}
use Rattle.std.proofs.lemmas.Result.{err_from_is_err_and}
use Rattle.refusals.proofs.Laws.{told_apart, refuses, refuses_first}

-- the refusals by their numbers; what stands at a number that none has is never looked at
abbrev numbered : ℕ → Refusal
numbered n =
    get_or
    (is.Length ∷ is.Length ∷ is.Frame ∷ is.FixedCharacter ∷ is.Digit ∷ is.StatusOrWeekday ∷ is.OutOfRange ∷ is.NoSuchDay ∷ is.WeekdayDisagrees
    ∷ is.StxInside ∷ is.TooLong ∷ is.EndedInside ∷ is.OutsideCalendar ∷ is.BufferShort ∷ is.NoDate ∷ is.StateIllFormed ∷ is.NotOffered
    ∷ is.DayOfYearDisagrees ∷ is.NoRequest ∷ is.NotWholeBlocks ∷ is.BlockBad ∷ is.NoFreeSlot ∷ is.UnknownCommand ∷ is.Length ∷ is.Length
    ∷ is.Length ∷ is.Length ∷ is.NoSuchTelegram ∷ [])
    n is.Length

pub number_told_apart : (a b : Refusal) → number a ≡ number b → a ≡ b
number_told_apart =
    told_apart number numbered
    elim [
      | is.Length ↦ refl
      | is.Frame ↦ refl
      | is.FixedCharacter ↦ refl
      | is.Digit ↦ refl
      | is.StatusOrWeekday ↦ refl
      | is.OutOfRange ↦ refl
      | is.NoSuchDay ↦ refl
      | is.WeekdayDisagrees ↦ refl
      | is.StxInside ↦ refl
      | is.TooLong ↦ refl
      | is.EndedInside ↦ refl
      | is.OutsideCalendar ↦ refl
      | is.BufferShort ↦ refl
      | is.NoDate ↦ refl
      | is.StateIllFormed ↦ refl
      | is.NotOffered ↦ refl
      | is.DayOfYearDisagrees ↦ refl
      | is.NoRequest ↦ refl
      | is.NotWholeBlocks ↦ refl
      | is.BlockBad ↦ refl
      | is.NoFreeSlot ↦ refl
      | is.UnknownCommand ↦ refl
      | is.NoSuchTelegram ↦ refl
    ]

pub outcome_told_apart : {A : Type 0} (a b : Result A Refusal) → outcome a ≡ outcome b → a ≡ b
outcome_told_apart (Ok a) (Ok b) e = cc
outcome_told_apart (Err a) (Err b) e = let n : number a ≡ number b = cc in ap Err (number_told_apart a b n)
outcome_told_apart (Ok a) (Err b) e = cc
outcome_told_apart (Err a) (Ok b) e = cc

-- and no refusal has the number 0, which is that of none
pub number_some : (a : Refusal) → number a ≡ 0 → ⊥
number_some =
    elim [
      | is.Length ↦ λ e. cc
      | is.Frame ↦ λ e. cc
      | is.FixedCharacter ↦ λ e. cc
      | is.Digit ↦ λ e. cc
      | is.StatusOrWeekday ↦ λ e. cc
      | is.OutOfRange ↦ λ e. cc
      | is.NoSuchDay ↦ λ e. cc
      | is.WeekdayDisagrees ↦ λ e. cc
      | is.StxInside ↦ λ e. cc
      | is.TooLong ↦ λ e. cc
      | is.EndedInside ↦ λ e. cc
      | is.OutsideCalendar ↦ λ e. cc
      | is.BufferShort ↦ λ e. cc
      | is.NoDate ↦ λ e. cc
      | is.StateIllFormed ↦ λ e. cc
      | is.NotOffered ↦ λ e. cc
      | is.DayOfYearDisagrees ↦ λ e. cc
      | is.NoRequest ↦ λ e. cc
      | is.NotWholeBlocks ↦ λ e. cc
      | is.BlockBad ↦ λ e. cc
      | is.NoFreeSlot ↦ λ e. cc
      | is.UnknownCommand ↦ λ e. cc
      | is.NoSuchTelegram ↦ λ e. cc
    ]

pub verdict_told_apart : (a b : Result (Unit {0}) Refusal) → verdict a ≡ verdict b → a ≡ b
verdict_told_apart (Ok a) (Ok b) e = refl
verdict_told_apart (Err a) (Err b) e = ap Err (number_told_apart a b e)
verdict_told_apart (Ok a) (Err b) e = absurd (number_some b (sym e))
verdict_told_apart (Err a) (Ok b) e = absurd (number_some a e)

pub number_if_told_apart : (a b : Option Refusal) → number_if a ≡ number_if b → a ≡ b
number_if_told_apart None None e = refl
number_if_told_apart (Some a) (Some b) e = ap Some (number_told_apart a b e)
number_if_told_apart None (Some b) e = absurd (number_some b (sym e))
number_if_told_apart (Some a) None e = absurd (number_some a e)

-- what a rule refuses is refused with the rule's number
pub refused_by : {A : Type 0} (value : A) (e : Refusal) {n : ℕ} → number e ≡ n → refused (number e) ≡ unless n value
refused_by value e is = refuses value is (number_some e)

pub refused_first_by : {A : Type 0} (value : A) (e : Refusal) (later : ℕ) {n : ℕ} → number e ≡ n → refused (number e) ≡ unless (n else later) value
refused_first_by value e later is = refuses_first value later is (number_some e)

-- what a `?` passes on is refused as it was
pub passed_on : {A : Type 0} (told : Result A Refusal) (e : Refusal) → IsErrAnd told (λ passed. passed ≡ e) → outcome told ≡ refused (number e)
passed_on told e is =
    let p = err_from_is_err_and told is in
    rw (p.1, p.2)

pub passed_verdict : (told : Result (Unit {0}) Refusal) (e : Refusal) → IsErrAnd told (λ passed. passed ≡ e) → verdict told ≡ number e
passed_verdict told e is =
    let p = err_from_is_err_and told is in
    rw (p.1, p.2)

-- so the number tells whether there is a refusal
pub number_if_some : (a : Option Refusal) → is_some a ≡ true → number_if a ≡ 0 → ⊥
number_if_some (Some a) e none = number_some a none
number_if_some None e none = cc

pub number_if_none : (a : Option Refusal) → is_some a ≡ false → number_if a ≡ 0
number_if_none None e = refl
number_if_none (Some a) e = cc
