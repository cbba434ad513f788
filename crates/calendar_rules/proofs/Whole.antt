-- The promises of the calendar leave nothing open: what an answer means determines the answer. Assumes nothing.
use mathlib.Core.Path.{◌≡◌, refl, ap}
use mathlib.Core.Bool.{cond}
use Rattle.std.specs.Prelude.{Result, Ok, Err}
use Rattle.refusals.specs.declared.Refusal.{Refusal}
use Rattle.refusals.specs.Numbers.{number}
use Rattle.refusals.proofs.Laws.{told_apart}
use Rattle.refusals.proofs.NumberLaws.{number_told_apart}
use Rattle.calendar_rules.specs.Answers.{next_in_numbers, next_second_answer}
use Rattle.calendar_rules.specs.declared.time.NextSecond.{NextSecond}
use Rattle.calendar_rules.specs.declared.time.NextSecond.TheVariants.{SameDay, NextDay}

pub next_told_apart : (a b : NextSecond) → next_in_numbers a ≡ next_in_numbers b → a ≡ b
next_told_apart = told_apart next_in_numbers (λ p. cond p.1 (NextDay p.0) (SameDay p.0)) elim [ SameDay t ↦ refl | NextDay t ↦ refl ]

pub next_second_told_apart : (a b : Result NextSecond Refusal) → next_second_answer a ≡ next_second_answer b → a ≡ b
next_second_told_apart (Ok a) (Ok b) e = let same : next_in_numbers a ≡ next_in_numbers b = cc in ap Ok (next_told_apart a b same)
next_second_told_apart (Ok a) (Err b) e = cc
next_second_told_apart (Err a) (Ok b) e = cc
next_second_told_apart (Err a) (Err b) e = let same : number a ≡ number b = cc in ap Err (number_told_apart a b same)
