-- Document 01, "Refusal numbers", and those that the requests of document 02 add: each refusal with its number, and the one statement over them.
use Rattle.std.specs.Prelude.{List, [], ◌∷◌, ◌≡◌, ℕ}
use Rattle.refusals.specs.declared.Refusal.{Refusal}
use Rattle.refusals.specs.declared.Refusal.TheVariants as is
use Rattle.refusals.specs.Numbers.{number}
use Rattle.refusals.specs.Tables.{EachHolds}

abbrev pub printed_numbers : List (Refusal × ℕ)
printed_numbers =
    (is.Length, 1)
    ∷ (is.Frame, 2)
    ∷ (is.FixedCharacter, 3)
    ∷ (is.Digit, 4)
    ∷ (is.StatusOrWeekday, 5)
    ∷ (is.OutOfRange, 6)
    ∷ (is.NoSuchDay, 7)
    ∷ (is.WeekdayDisagrees, 8)
    ∷ (is.StxInside, 9)
    ∷ (is.TooLong, 10)
    ∷ (is.EndedInside, 11)
    ∷ (is.OutsideCalendar, 12)
    ∷ (is.BufferShort, 13)
    ∷ (is.NoDate, 14)
    ∷ (is.StateIllFormed, 15)
    ∷ (is.NotOffered, 16)
    ∷ (is.DayOfYearDisagrees, 17)
    ∷ (is.NoRequest, 18)
    ∷ (is.NotWholeBlocks, 19)
    ∷ (is.BlockBad, 20)
    ∷ (is.NoFreeSlot, 21)
    ∷ (is.UnknownCommand, 22)
    ∷ (is.NoSuchTelegram, 27)
    ∷ []

abbrev pub TheNumbersAreAsPrinted : Type 0
TheNumbersAreAsPrinted = EachHolds (λ row. number row.0 ≡ row.1) printed_numbers
