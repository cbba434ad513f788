-- Source document 000, 6.5, "Data string structure", as it is printed: the 31 characters, each with what it means and the values that
-- are listed for it; and replies in literal characters, one of them with fields that all differ.
use Rattle.std.specs.Prelude.{Bool, true, false, ◌&&◌, ◌||◌, List, [], ◌∷◌, ◌++◌, map, ◌≡◌, ℕ, zero, suc, ◌+◌, ◌-◌, ◌/◌, ◌%◌, eqb, get_or}
use Prim.Native.String.{String}
use Rattle.refusals.specs.Refusals.{done, refused}
use Rattle.ascii.specs.Ascii.{ascii}
use Rattle.ascii.specs.Control.{stx, etx, cr, lf_cr, cr_lf}
use Rattle.calendar_rules.specs.Ranges.{inside}
use Rattle.calendar_rules.specs.Literals.{date, time}
use Rattle.calendar_rules.specs.declared.date.Date.{Date}
use Rattle.calendar_rules.specs.declared.time.Time.{Time}
use Rattle.leitch_rules.specs.declared.Reply.{Reply}
use Rattle.leitch_rules.specs.Reading.{reply_of}
use Rattle.leitch_rules.specs.Writing.{written}

-- The words of the table: a field, and the character that a place shows of it.
abbrev pub hour : Reply → ℕ
hour reply = reply.time.hour

abbrev pub minute : Reply → ℕ
minute reply = reply.time.minute

abbrev pub second : Reply → ℕ
second reply = reply.time.second

abbrev pub millisecond : Reply → ℕ
millisecond reply = reply.millisecond

abbrev pub day : Reply → ℕ
day reply = reply.date.day

abbrev pub month : Reply → ℕ
month reply = reply.date.month

abbrev pub year : Reply → ℕ
year reply = reply.date.year

abbrev pub day_of_year : Reply → ℕ
day_of_year reply = reply.day_of_year

abbrev pub unit : (Reply → ℕ) → Reply → ℕ
unit field reply = 0x30 + field reply % 10

abbrev pub tens : (Reply → ℕ) → Reply → ℕ
tens field reply = 0x30 + field reply / 10 % 10

-- the manual's "100th"
abbrev pub hundreds : (Reply → ℕ) → Reply → ℕ
hundreds field reply = 0x30 + field reply / 100 % 10

abbrev pub day_of_the_week : Reply → ℕ
day_of_the_week reply = 0x30 + reply.weekday

abbrev pub status : Reply → ℕ
status reply = reply.status

abbrev pub always : ℕ → Reply → ℕ
always character reply = character

-- a line: "character no.", "meaning", "value (value range)"
pub record TableLine : Type 0 where
  pub number : ℕ
  pub meaning : Reply → ℕ
  pub values : List (ℕ × ℕ)

abbrev pub line : ℕ → (Reply → ℕ) → List (ℕ × ℕ) → TableLine
line number meaning values = record { number = number; meaning = meaning; values = values }

infix 80 ◌to◌
abbrev pub ◌to◌ : ℕ → ℕ → ℕ × ℕ
◌to◌ low high = (low, high)

abbrev pub one : ℕ → List (ℕ × ℕ)
one character = character to character ∷ []

abbrev pub printed : List TableLine
printed =
    line 1 (tens hour) (0x30 to 0x32 ∷ [])
    ∷ line 2 (unit hour) (0x30 to 0x39 ∷ [])
    ∷ line 3 (always 0x3A) (one 0x3A)
    ∷ line 4 (tens minute) (0x30 to 0x35 ∷ [])
    ∷ line 5 (unit minute) (0x30 to 0x39 ∷ [])
    ∷ line 6 (always 0x3A) (one 0x3A)
    ∷ line 7 (tens second) (0x30 to 0x35 ∷ [])
    ∷ line 8 (unit second) (0x30 to 0x39 ∷ [])
    ∷ line 9 (always 0x2E) (one 0x2E)
    ∷ line 10 (hundreds millisecond) (0x30 to 0x39 ∷ [])
    ∷ line 11 (tens millisecond) (0x30 to 0x39 ∷ [])
    ∷ line 12 (unit millisecond) (0x30 to 0x39 ∷ [])
    ∷ line 13 (always 0x20) (one 0x20)
    -- printed as $30-32: "that is a slip, 3 is allowed"
    ∷ line 14 (tens day) (0x30 to 0x33 ∷ [])
    ∷ line 15 (unit day) (0x30 to 0x39 ∷ [])
    ∷ line 16 (always 0x2F) (one 0x2F)
    ∷ line 17 (tens month) (0x30 to 0x31 ∷ [])
    ∷ line 18 (unit month) (0x30 to 0x39 ∷ [])
    ∷ line 19 (always 0x2F) (one 0x2F)
    ∷ line 20 (tens year) (0x30 to 0x39 ∷ [])
    ∷ line 21 (unit year) (0x30 to 0x39 ∷ [])
    ∷ line 22 (always 0x20) (one 0x20)
    ∷ line 23 (hundreds day_of_year) (0x30 to 0x33 ∷ [])
    ∷ line 24 (tens day_of_year) (0x30 to 0x39 ∷ [])
    ∷ line 25 (unit day_of_year) (0x30 to 0x39 ∷ [])
    ∷ line 26 (always 0x20) (one 0x20)
    ∷ line 27 day_of_the_week (0x31 to 0x37 ∷ [])
    ∷ line 28 (always 0x20) (one 0x20)
    ∷ line 29 status (0x30 to 0x33 ∷ 0x41 to 0x46 ∷ [])
    ∷ line 30 (always 0x0D) (one 0x0D)
    ∷ line 31 (always 0x0A) (one 0x0A)
    ∷ []

-- the numbers from one on, so many
abbrev pub counted_from : ℕ → ℕ → List ℕ
counted_from first zero = []
counted_from first (suc n) = first ∷ counted_from (first + 1) n

-- the characters of a reply, by the table
abbrev pub as_printed : Reply → List ℕ
as_printed reply = map (λ line. line.meaning reply) printed

-- each character is one of the values listed for it
abbrev pub listed_in : List (ℕ × ℕ) → ℕ → Bool
listed_in [] character = false
listed_in (range ∷ others) character = inside range.0 character range.1 || listed_in others character

abbrev pub EachListed : List TableLine → List ℕ → Type 0
EachListed [] [] = Unit {0}
EachListed [] (character ∷ characters) = ⊥
EachListed (line ∷ lines) [] = ⊥
EachListed (line ∷ lines) (character ∷ characters) = (listed_in line.values character ≡ true) × EachListed lines characters

-- A reply in numbers, its status in a character.
abbrev pub reply : Time → ℕ → Date → ℕ → ℕ → String → Reply
reply time millisecond date day_of_year weekday status =
    record {
      time = time;
      millisecond = millisecond;
      date = date;
      day_of_year = day_of_year;
      weekday = weekday;
      status = get_or (ascii status) 0 0;
    }

-- Replies whose characters are, place by place, all that the table lists. In the first no two fields have one value.
abbrev pub replies : List (List ℕ × Reply)
replies =
    (ascii "20:58:41.637 17/04/96 108 3 C" ++ cr_lf, reply (time 20 58 41) 637 (date 1996 4 17) 108 3 "C")
    ∷ (ascii "08:07:06.070 08/06/84 160 5 3" ++ cr_lf, reply (time 8 7 6) 70 (date 1984 6 8) 160 5 "3")
    ∷ (ascii "04:09:43.954 12/03/00 072 7 1" ++ cr_lf, reply (time 4 9 43) 954 (date 2000 3 12) 72 7 "1")
    ∷ (ascii "12:32:38.318 30/09/12 274 7 0" ++ cr_lf, reply (time 12 32 38) 318 (date 2012 9 30) 274 7 "0")
    ∷ (ascii "01:35:54.163 03/08/15 215 1 2" ++ cr_lf, reply (time 1 35 54) 163 (date 2015 8 3) 215 1 "2")
    ∷ (ascii "06:41:50.263 31/01/27 031 7 A" ++ cr_lf, reply (time 6 41 50) 263 (date 2027 1 31) 31 7 "A")
    ∷ (ascii "21:03:39.549 16/07/39 197 6 B" ++ cr_lf, reply (time 21 3 39) 549 (date 2039 7 16) 197 6 "B")
    ∷ (ascii "05:24:24.782 04/04/41 094 4 F" ++ cr_lf, reply (time 5 24 24) 782 (date 2041 4 4) 94 4 "F")
    ∷ (ascii "13:40:02.126 09/10/52 283 3 D" ++ cr_lf, reply (time 13 40 2) 126 (date 2052 10 9) 283 3 "D")
    ∷ (ascii "17:16:17.895 25/12/58 359 3 E" ++ cr_lf, reply (time 17 16 17) 895 (date 2058 12 25) 359 3 "E")
    ∷ (ascii "13:54:57.459 26/01/63 026 5 B" ++ cr_lf, reply (time 13 54 57) 459 (date 2063 1 26) 26 5 "B")
    ∷ (ascii "09:25:25.401 23/05/73 143 2 2" ++ cr_lf, reply (time 9 25 25) 401 (date 2073 5 23) 143 2 "2")
    -- "a two-digit year 80 to 99 is 1980 to 1999, and 00 to 79 is 2000 to 2079"; the last day of a leap year
    ∷ (ascii "00:00:00.000 01/01/80 001 2 0" ++ cr_lf, reply (time 0 0 0) 0 (date 1980 1 1) 1 2 "0")
    ∷ (ascii "23:59:59.999 31/12/79 365 7 F" ++ cr_lf, reply (time 23 59 59) 999 (date 2079 12 31) 365 7 "F")
    ∷ (ascii "23:59:59.999 31/12/96 366 2 3" ++ cr_lf, reply (time 23 59 59) 999 (date 1996 12 31) 366 2 "3")
    ∷ []

-- the characters that stand at a place of the replies, and whether all that a line lists are among them
abbrev pub has : ℕ → List ℕ → Bool
has character [] = false
has character (other ∷ others) = eqb character other || has character others

abbrev pub all_of : (ℕ → Bool) → List ℕ → Bool
all_of test [] = true
all_of test (character ∷ characters) = test character && all_of test characters

abbrev pub characters_from : List (ℕ × ℕ) → List ℕ
characters_from [] = []
characters_from (range ∷ others) = counted_from range.0 (range.1 - range.0 + 1) ++ characters_from others

abbrev pub all_occur : List TableLine → Bool
all_occur [] = true
all_occur (line ∷ lines) =
    all_of (λ character. has character (map (λ row. get_or row.0 (line.number - 1) 0) replies)) (characters_from line.values) && all_occur lines

-- Characters that are refused, each with its number.
abbrev pub refused_replies : List (List ℕ × ℕ)
refused_replies =
    -- not 31 characters: none; without LF; with one more; between STX and ETX
    ([], 1)
    ∷ (ascii "20:58:41.637 17/04/96 108 3 C" ++ cr ∷ [], 1)
    ∷ (ascii "20:58:41.637 17/04/96 108 3 C " ++ cr_lf, 1)
    ∷ (stx ∷ ascii "20:58:41.637 17/04/96 108 3 C" ++ cr_lf ++ etx ∷ [], 1)
    -- "colon, point and slash count under 3", and so do space, CR and LF
    ∷ (ascii "20-58:41.637 17/04/96 108 3 C" ++ cr_lf, 3)
    ∷ (ascii "20:58.41.637 17/04/96 108 3 C" ++ cr_lf, 3)
    ∷ (ascii "20:58:41:637 17/04/96 108 3 C" ++ cr_lf, 3)
    ∷ (ascii "20:58:41.637-17/04/96 108 3 C" ++ cr_lf, 3)
    ∷ (ascii "20:58:41.637 17.04/96 108 3 C" ++ cr_lf, 3)
    ∷ (ascii "20:58:41.637 17/04.96 108 3 C" ++ cr_lf, 3)
    ∷ (ascii "20:58:41.637 17/04/96-108 3 C" ++ cr_lf, 3)
    ∷ (ascii "20:58:41.637 17/04/96 108-3 C" ++ cr_lf, 3)
    ∷ (ascii "20:58:41.637 17/04/96 108 3-C" ++ cr_lf, 3)
    ∷ (ascii "20:58:41.637 17/04/96 108 3 C" ++ lf_cr, 3)
    -- a letter where a digit belongs
    ∷ (ascii "A0:58:41.637 17/04/96 108 3 C" ++ cr_lf, 4)
    -- a weekday or a status that is not listed: 5 also where it is no digit
    ∷ (ascii "20:58:41.637 17/04/96 108 0 C" ++ cr_lf, 5)
    ∷ (ascii "20:58:41.637 17/04/96 108 8 C" ++ cr_lf, 5)
    ∷ (ascii "20:58:41.637 17/04/96 108 x C" ++ cr_lf, 5)
    ∷ (ascii "20:58:41.637 17/04/96 108 3 4" ++ cr_lf, 5)
    ∷ (ascii "20:58:41.637 17/04/96 108 3 9" ++ cr_lf, 5)
    ∷ (ascii "20:58:41.637 17/04/96 108 3 G" ++ cr_lf, 5)
    ∷ (ascii "20:58:41.637 17/04/96 108 3 c" ++ cr_lf, 5)
    -- out of range; "Leitch answers stay at 59", also where a record may have a second 60
    ∷ (ascii "24:58:41.637 17/04/96 108 3 C" ++ cr_lf, 6)
    ∷ (ascii "20:60:41.637 17/04/96 108 3 C" ++ cr_lf, 6)
    ∷ (ascii "23:59:60.000 31/12/96 366 2 C" ++ cr_lf, 6)
    ∷ (ascii "20:58:41.637 00/04/96 108 3 C" ++ cr_lf, 6)
    ∷ (ascii "20:58:41.637 17/13/96 108 3 C" ++ cr_lf, 6)
    -- no such day; the weekday of another day; "17 day of year disagrees"
    ∷ (ascii "20:58:41.637 31/04/96 122 3 C" ++ cr_lf, 7)
    ∷ (ascii "20:58:41.637 17/04/96 108 4 C" ++ cr_lf, 8)
    ∷ (ascii "20:58:41.637 17/04/96 107 3 C" ++ cr_lf, 17)
    ∷ (ascii "20:58:41.637 17/04/96 000 3 C" ++ cr_lf, 17)
    ∷ (ascii "20:58:41.637 31/12/97 366 3 C" ++ cr_lf, 17)
    ∷ (ascii "20:58:41.637 31/12/96 367 2 C" ++ cr_lf, 17)
    ∷ (ascii "20:58:41.637 17/04/96 999 3 C" ++ cr_lf, 17)
    ∷ []

-- Replies that are not written, with the room of the buffer and the number: "a millisecond above 999 is 6"; 13 before 17.
abbrev pub refused_writes : List ((Reply × ℕ) × ℕ)
refused_writes =
    ((reply (time 20 58 41) 637 (date 1996 4 17) 108 3 "4", 31), 5)
    ∷ ((reply (time 20 58 41) 637 (date 1996 4 17) 108 0 "C", 31), 5)
    ∷ ((reply (time 20 58 41) 1000 (date 1996 4 17) 108 3 "C", 31), 6)
    ∷ ((reply (time 20 58 60) 637 (date 1996 4 17) 108 3 "C", 31), 6)
    ∷ ((reply (time 20 58 41) 637 (date 2096 4 17) 108 3 "C", 31), 6)
    ∷ ((reply (time 20 58 41) 637 (date 1996 4 31) 122 3 "C", 31), 7)
    ∷ ((reply (time 20 58 41) 637 (date 1996 4 17) 108 4 "C", 30), 8)
    ∷ ((reply (time 20 58 41) 637 (date 1996 4 17) 108 3 "C", 30), 13)
    ∷ ((reply (time 20 58 41) 637 (date 1996 4 17) 109 3 "C", 30), 13)
    ∷ ((reply (time 20 58 41) 637 (date 1996 4 17) 109 3 "C", 31), 17)
    ∷ ((reply (time 20 58 41) 637 (date 1996 4 17) 1108 3 "C", 31), 17)
    ∷ []

-- What is read: its characters say what the table says, and each is one that the table lists.
abbrev pub EveryReplyIsAsPrinted : Type 0
EveryReplyIsAsPrinted =
    (bytes : List ℕ) (told : Reply) → reply_of bytes ≡ done told → (bytes ≡ as_printed told) × EachListed printed bytes

-- Each that is listed is taken; and the replies above, to the letter.
pub record TheReplyIsAsPrinted : Type 0 where
  pub numbered : map (λ line. line.number) printed ≡ counted_from 1 31
  pub taken : all_occur printed ≡ true
  pub replies_read : map (λ row. reply_of row.0) replies ≡ map (λ row. done row.1) replies
  pub replies_written : map (λ row. written row.1 31) replies ≡ map (λ row. done row.0) replies
  pub replies_say : map (λ row. as_printed row.1) replies ≡ map (λ row. row.0) replies
  pub replies_refused : map (λ row. reply_of row.0) refused_replies ≡ map (λ row. refused row.1) refused_replies
  pub writes_refused : map (λ row. written row.0.0 row.0.1) refused_writes ≡ map (λ row. refused row.1) refused_writes
