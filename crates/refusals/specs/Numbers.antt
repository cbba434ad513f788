-- Document 01, "Refusal numbers", and those that the requests of document 02 add: the number of each refusal, and what an answer means by it.
use Rattle.std.specs.Prelude.{ℕ, Option, None, Some, Result, Ok, Err}
use Rattle.refusals.specs.declared.Refusal.{Refusal}
use Rattle.refusals.specs.declared.Refusal.TheVariants as is
use Rattle.refusals.specs.Refusals.{Outcome, done, refused}

abbrev pub number : Refusal → ℕ
number is.Length = 1
number is.Frame = 2
number is.FixedCharacter = 3
number is.Digit = 4
number is.StatusOrWeekday = 5
number is.OutOfRange = 6
number is.NoSuchDay = 7
number is.WeekdayDisagrees = 8
number is.StxInside = 9
number is.TooLong = 10
number is.EndedInside = 11
number is.OutsideCalendar = 12
number is.BufferShort = 13
number is.NoDate = 14
number is.StateIllFormed = 15
number is.NotOffered = 16
number is.DayOfYearDisagrees = 17
number is.NoRequest = 18
number is.NotWholeBlocks = 19
number is.BlockBad = 20
number is.NoFreeSlot = 21
number is.UnknownCommand = 22
number is.NoSuchTelegram = 27

-- 0 where nothing is refused
abbrev pub number_if : Option Refusal → ℕ
number_if None = 0
number_if (Some refusal) = number refusal

-- a value, or the number of what refuses it
abbrev pub outcome : {A : Type 0} → Result A Refusal → Outcome A
outcome (Ok value) = done value
outcome (Err refusal) = refused (number refusal)

-- where nothing is handed out: the number of what refuses, or 0
abbrev pub verdict : Result (Unit {0}) Refusal → ℕ
verdict (Ok _) = 0
verdict (Err refusal) = number refusal
