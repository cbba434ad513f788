-- Source document 003, section 7: every example that is printed there, with what it is read as; others, place by place, with the number
-- that refuses them; and writes with their room.
use Rattle.std.specs.Prelude.{Bool, true, false, ◌&&◌, ◌||◌, List, [], ◌∷◌, ◌++◌, map, ◌≡◌, ℕ, ◌+◌, ◌-◌, eqb, pos, neg_ℤ, get_or}
use Rattle.refusals.specs.Refusals.{Outcome, done, refused}
use Rattle.ascii.specs.Ascii.{ascii}
use Rattle.calendar_rules.specs.Literals.{date, time}
use Rattle.remote_rules.specs.declared.EastWest.TheVariants.{West, East}
use Rattle.remote_rules.specs.declared.NorthSouth.TheVariants.{North, South}
use Rattle.remote_rules.specs.declared.Command.{Command}
use Rattle.remote_rules.specs.declared.Command.TheVariants.{Tim, TimAsked, Dif, DifAsked, Pos, PosAsked}
use Rattle.remote_rules.specs.Literals.{moment, position}
use Rattle.remote_rules.specs.Reading.{command_of}
use Rattle.remote_rules.specs.Writing.{written}
use Rattle.remote_rules.specs.WordsAsPrinted.{sent, TableLine, counted_from, numbers}
use Rattle.remote_rules.specs.TimAsPrinted.{status_table, tim_table}
use Rattle.remote_rules.specs.DifAsPrinted.{dif_table}
use Rattle.remote_rules.specs.PosAsPrinted.{pos_table}

-- All examples of section 7, in its order. Of those with a date the weekday is wrong: 07.08.99 was a Saturday, 23.09.96 a Monday.
abbrev pub printed_examples : List (List ℕ × Outcome Command)
printed_examples =
    -- 7.1.2, "setting standard time 12:34:56 h, Sunday 07.08.99", and the clock's answer
    (sent "TIM:48,12,34,56,07,08,99,7", refused 8)
    -- 7.1.3, "requesting UTC", and the answer
    ∷ (sent "TIM:40", done (TimAsked 0x40))
    ∷ (sent "TIM:40,10,34,56,07,08,99,7", refused 8)
    -- 7.1.4, "02:00:00h Sunday 23.09.96", and the answer
    ∷ (sent "TIM:4A,02,00,00,23,09,96,7", refused 8)
    ∷ (sent "TIM:4B,02,00,00,23,09,96,7", refused 8)
    -- 7.1.5, and the answer
    ∷ (sent "TIM:52", done (TimAsked 0x52))
    ∷ (sent "TIM:53,02,00,00,23,09,96,7", refused 8)
    -- 7.1.6, the difference set, asked and answered
    ∷ (sent "DIF:-01,00", done (Dif (neg_ℤ (pos 60))))
    ∷ (sent "DIF:", done DifAsked)
    ∷ (sent "DIF:+02,00", done (Dif (pos 120)))
    -- 7.1.7
    ∷ (sent "POS:E:007,33,34,N:53,12,21", done (Pos (position East 7 33 34 North 53 12 21)))
    -- 7.1.8 to 7.1.13: no TIM, DIF or POS
    ∷ (sent "SAT:", refused 22)
    ∷ (sent "SAT:08,S:07/143,S:12/145,S:23/034,S:14/145,S:03/123,S:19/047", refused 22)
    ∷ (sent "RES:", refused 22)
    ∷ (sent "PAR:09600,N,8,1,N", refused 22)
    ∷ (sent "MOD:1,1,1,1,1,0,0,0,", refused 22)
    ∷ (sent "MO1:1,1,0,0,0,0,0,0,", refused 22)
    ∷ (sent "ADR:0280", refused 22)
    ∷ []

-- Commands that are read and written so, to the letter.
-- TIM: first the examples with their right weekdays
abbrev pub good_tims : List (List ℕ × Command)
good_tims =
    (sent "TIM:48,12,34,56,07,08,99,6", Tim 0x48 (moment (time 12 34 56) (date 1999 8 7) 6))
    ∷ (sent "TIM:40,10,34,56,07,08,99,6", Tim 0x40 (moment (time 10 34 56) (date 1999 8 7) 6))
    ∷ (sent "TIM:4A,02,00,00,23,09,96,1", Tim 0x4A (moment (time 2 0 0) (date 1996 9 23) 1))
    ∷ (sent "TIM:4B,02,00,00,23,09,96,1", Tim 0x4B (moment (time 2 0 0) (date 1996 9 23) 1))
    ∷ (sent "TIM:53,02,00,00,23,09,96,1", Tim 0x53 (moment (time 2 0 0) (date 1996 9 23) 1))
    -- no two fields of one value; then every character that the tables list
    ∷ (sent "TIM:D9,20,58,41,17,04,96,3", Tim 0xD9 (moment (time 20 58 41) (date 1996 4 17) 3))
    ∷ (sent "TIM:0C,08,07,06,08,06,84,5", Tim 0x0C (moment (time 8 7 6) (date 1984 6 8) 5))
    ∷ (sent "TIM:17,04,09,43,12,03,00,7", Tim 0x17 (moment (time 4 9 43) (date 2000 3 12) 7))
    ∷ (sent "TIM:2B,12,32,38,30,09,12,7", Tim 0x2B (moment (time 12 32 38) (date 2012 9 30) 7))
    ∷ (sent "TIM:3E,01,35,54,03,08,15,1", Tim 0x3E (moment (time 1 35 54) (date 2015 8 3) 1))
    ∷ (sent "TIM:64,06,41,50,31,01,27,7", Tim 0x64 (moment (time 6 41 50) (date 2027 1 31) 7))
    ∷ (sent "TIM:71,21,03,39,16,07,39,6", Tim 0x71 (moment (time 21 3 39) (date 2039 7 16) 6))
    ∷ (sent "TIM:85,05,24,24,04,04,41,4", Tim 0x85 (moment (time 5 24 24) (date 2041 4 4) 4))
    ∷ (sent "TIM:96,13,40,02,09,10,52,3", Tim 0x96 (moment (time 13 40 2) (date 2052 10 9) 3))
    ∷ (sent "TIM:A8,17,16,17,25,12,58,3", Tim 0xA8 (moment (time 17 16 17) (date 2058 12 25) 3))
    ∷ (sent "TIM:B0,13,54,57,26,01,63,5", Tim 0xB0 (moment (time 13 54 57) (date 2063 1 26) 5))
    ∷ (sent "TIM:C2,09,25,25,23,05,73,2", Tim 0xC2 (moment (time 9 25 25) (date 2073 5 23) 2))
    -- "a two-digit year 80 to 99 is 1980 to 1999, and 00 to 79 is 2000 to 2079"; a leap day
    ∷ (sent "TIM:00,00,00,00,01,01,80,2", Tim 0x00 (moment (time 0 0 0) (date 1980 1 1) 2))
    ∷ (sent "TIM:FF,23,59,59,31,12,79,7", Tim 0xFF (moment (time 23 59 59) (date 2079 12 31) 7))
    ∷ (sent "TIM:EA,08,07,06,29,02,00,2", Tim 0xEA (moment (time 8 7 6) (date 2000 2 29) 2))
    ∷ (sent "TIM:5D,18,10,19,22,11,08,6", Tim 0x5D (moment (time 18 10 19) (date 2008 11 22) 6))
    ∷ []

-- DIF: both signs, and the ends of the range
abbrev pub good_difs : List (List ℕ × Command)
good_difs =
    (sent "DIF:+00,00", Dif (pos 0))
    ∷ (sent "DIF:+00,01", Dif (pos 1))
    ∷ (sent "DIF:-00,01", Dif (neg_ℤ (pos 1)))
    ∷ (sent "DIF:+01,30", Dif (pos 90))
    ∷ (sent "DIF:-01,30", Dif (neg_ℤ (pos 90)))
    ∷ (sent "DIF:-02,41", Dif (neg_ℤ (pos 161)))
    ∷ (sent "DIF:+03,52", Dif (pos 232))
    ∷ (sent "DIF:-04,13", Dif (neg_ℤ (pos 253)))
    ∷ (sent "DIF:+05,24", Dif (pos 324))
    ∷ (sent "DIF:-06,35", Dif (neg_ℤ (pos 395)))
    ∷ (sent "DIF:+07,46", Dif (pos 466))
    ∷ (sent "DIF:-08,57", Dif (neg_ℤ (pos 537)))
    ∷ (sent "DIF:+09,08", Dif (pos 548))
    ∷ (sent "DIF:-10,19", Dif (neg_ℤ (pos 619)))
    ∷ (sent "DIF:+11,59", Dif (pos 719))
    ∷ (sent "DIF:+12,00", Dif (pos 720))
    ∷ (sent "DIF:-12,00", Dif (neg_ℤ (pos 720)))
    ∷ []

-- POS: first one in which no two fields have one value, then both sides of nothing
abbrev pub good_positions : List (List ℕ × Command)
good_positions =
    (sent "POS:W:123,45,67,S:38,19,02", Pos (position West 123 45 67 South 38 19 2))
    ∷ (sent "POS:W:000,00,00,N:00,00,00", Pos (position West 0 0 0 North 0 0 0))
    ∷ (sent "POS:E:000,00,00,N:00,00,00", Pos (position East 0 0 0 North 0 0 0))
    ∷ (sent "POS:E:000,00,00,S:00,00,00", Pos (position East 0 0 0 South 0 0 0))
    ∷ (sent "POS:W:009,03,51,N:42,14,75", Pos (position West 9 3 51 North 42 14 75))
    ∷ (sent "POS:E:118,14,64,N:59,23,02", Pos (position East 118 14 64 North 59 23 2))
    ∷ (sent "POS:W:027,25,77,S:66,32,39", Pos (position West 27 25 77 South 66 32 39))
    ∷ (sent "POS:E:136,36,80,S:73,41,66", Pos (position East 136 36 80 South 73 41 66))
    ∷ (sent "POS:W:045,47,93,N:80,50,93", Pos (position West 45 47 93 North 80 50 93))
    ∷ (sent "POS:E:154,58,06,N:07,09,20", Pos (position East 154 58 6 North 7 9 20))
    ∷ (sent "POS:W:063,09,19,S:14,18,57", Pos (position West 63 9 19 South 14 18 57))
    ∷ (sent "POS:E:172,10,22,S:21,27,84", Pos (position East 172 10 22 South 21 27 84))
    ∷ (sent "POS:W:081,21,35,N:38,36,11", Pos (position West 81 21 35 North 38 36 11))
    ∷ (sent "POS:E:090,32,48,N:45,45,48", Pos (position East 90 32 48 North 45 45 48))
    -- the table's 0-8 and $30-37 are slips
    ∷ (sent "POS:E:095,06,02,S:08,00,01", Pos (position East 95 6 2 South 8 0 1))
    -- "longitude to 180 degrees, latitude to 90, and at the end of the range all smaller places are zero"
    ∷ (sent "POS:E:179,59,99,S:90,00,00", Pos (position East 179 59 99 South 90 0 0))
    ∷ (sent "POS:W:180,00,00,N:89,59,99", Pos (position West 180 0 0 North 89 59 99))
    ∷ (sent "POS:W:180,00,00,N:90,00,00", Pos (position West 180 0 0 North 90 0 0))
    ∷ []

-- those that ask; 7.1.1: "4" and "2" is 0100 0010
abbrev pub asked : List (List ℕ × Command)
asked =
    (sent "TIM:42", TimAsked 0x42)
    ∷ (sent "TIM:00", TimAsked 0x00)
    ∷ (sent "TIM:AF", TimAsked 0xAF)
    ∷ (sent "TIM:FF", TimAsked 0xFF)
    ∷ (sent "DIF:", DifAsked)
    ∷ (sent "POS:", PosAsked)
    ∷ []

abbrev pub good_examples : List (List ℕ × Command)
good_examples = good_tims ++ good_difs ++ good_positions ++ asked

-- whether all characters that a table lists stand at their places in some examples, behind so many others
abbrev pub has : ℕ → List ℕ → Bool
has character [] = false
has character (other ∷ others) = eqb character other || has character others

abbrev pub all_of : (ℕ → Bool) → List ℕ → Bool
all_of test [] = true
all_of test (character ∷ characters) = test character && all_of test characters

abbrev pub characters_from : List (ℕ × ℕ) → List ℕ
characters_from [] = []
characters_from (range ∷ others) = counted_from range.0 (range.1 - range.0 + 1) ++ characters_from others

abbrev pub all_occur : {A : Type 0} → ℕ → List (List ℕ × Command) → List (TableLine A) → Bool
all_occur before examples [] = true
all_occur before examples (line ∷ lines) =
    all_of (λ character. has character (map (λ row. get_or row.0 (before + line.number - 1) 0) examples)) (characters_from line.values)
    && all_occur before examples lines

-- Bytes that are refused, each with its number.
abbrev pub refused_examples : List (List ℕ × ℕ)
refused_examples =
    -- no name: nothing; small letters; letters or colon out of place; a blank before them
    ([], 22)
    ∷ (0x02 ∷ 0x03 ∷ [], 22)
    ∷ (sent "", 22)
    ∷ (sent "DIF", 22)
    ∷ (sent "tim:40", 22)
    ∷ (sent "Tim:40", 22)
    ∷ (sent "dif:", 22)
    ∷ (sent "pos:", 22)
    ∷ (sent "TIM;40", 22)
    ∷ (sent "TMI:40", 22)
    ∷ (sent "DIM:40", 22)
    ∷ (sent "POS.", 22)
    ∷ (sent " DIF:", 22)
    -- a length that the command does not have; the examples with their blanks
    ∷ (sent "TIM:", 1)
    ∷ (sent "TIM:4", 1)
    ∷ (sent "TIM: 40", 1)
    ∷ (sent "TIM:+02,00", 1)
    ∷ (sent "TIM:48,12,34,56,07,08,99,", 1)
    ∷ (sent "TIM:48,12,34,56,07,08,99,66", 1)
    ∷ (sent "TIM: 48,12,34,56,07,08,99,6", 1)
    ∷ (sent "TIM:48,12,34,56,07,08,1999,6", 1)
    ∷ (sent "DIF:+", 1)
    ∷ (sent "DIF:40", 1)
    ∷ (sent "DIF: ", 1)
    ∷ (sent "DIF:+2,00", 1)
    ∷ (sent "DIF: +02,00", 1)
    ∷ (sent "DIF:+02,000", 1)
    ∷ (sent "POS:40", 1)
    ∷ (sent "POS:+02,00", 1)
    ∷ (sent "POS:E:007,33,34,N:53,12,2", 1)
    ∷ (sent "POS: E:007,33,34,N:53,12,21", 1)
    ∷ (0x02 ∷ ascii "DIF:" ++ 0x0D ∷ 0x0A ∷ [], 1)
    -- "first isn't STX or last isn't ETX"
    ∷ (0x03 ∷ ascii "TIM:40" ++ 0x0D ∷ 0x0A ∷ 0x03 ∷ [], 2)
    ∷ (0x02 ∷ ascii "TIM:40" ++ 0x0D ∷ 0x0A ∷ 0x02 ∷ [], 2)
    ∷ (0x20 ∷ ascii "DIF:+02,00" ++ 0x0D ∷ 0x0A ∷ 0x03 ∷ [], 2)
    ∷ (0x02 ∷ ascii "POS:" ++ 0x0D ∷ 0x0A ∷ 0x20 ∷ [], 2)
    -- "a sign, comma, colon or letter out of place", and CR or LF
    ∷ (sent "TIM:48.12,34,56,07,08,99,6", 3)
    ∷ (sent "TIM:48,12:34,56,07,08,99,6", 3)
    ∷ (sent "TIM:48,12,34:56,07,08,99,6", 3)
    ∷ (sent "TIM:48,12,34,56 07,08,99,6", 3)
    ∷ (sent "TIM:48,12,34,56,07.08,99,6", 3)
    ∷ (sent "TIM:48,12,34,56,07,08.99,6", 3)
    ∷ (sent "TIM:48,12,34,56,07,08,99 6", 3)
    ∷ (sent "DIF: 02,00", 3)
    ∷ (sent "DIF:002,00", 3)
    ∷ (sent "DIF:W02,00", 3)
    ∷ (sent "DIF:+02.00", 3)
    ∷ (sent "DIF:-02:00", 3)
    ∷ (sent "POS:N:007,33,34,N:53,12,21", 3)
    ∷ (sent "POS:O:007,33,34,N:53,12,21", 3)
    ∷ (sent "POS:e:007,33,34,N:53,12,21", 3)
    ∷ (sent "POS:E,007,33,34,N:53,12,21", 3)
    ∷ (sent "POS:E:007.33,34,N:53,12,21", 3)
    ∷ (sent "POS:E:007,33.34,N:53,12,21", 3)
    ∷ (sent "POS:E:007,33,34;N:53,12,21", 3)
    ∷ (sent "POS:E:007,33,34,W:53,12,21", 3)
    ∷ (sent "POS:E:007,33,34,s:53,12,21", 3)
    ∷ (sent "POS:E:007,33,34,N,53,12,21", 3)
    ∷ (sent "POS:E:007,33,34,N:53.12,21", 3)
    ∷ (sent "POS:E:007,33,34,N:53,12.21", 3)
    ∷ (sent "POS:N:53,12,21,E:007,33,34", 3)
    ∷ (0x02 ∷ ascii "TIM:48,12,34,56,07,08,99,6" ++ 0x0A ∷ 0x0D ∷ 0x03 ∷ [], 3)
    ∷ (0x02 ∷ ascii "TIM:40" ++ 0x0A ∷ 0x0D ∷ 0x03 ∷ [], 3)
    ∷ (0x02 ∷ ascii "DIF:+02,00" ++ 0x0A ∷ 0x0D ∷ 0x03 ∷ [], 3)
    ∷ (0x02 ∷ ascii "DIF:" ++ 0x0A ∷ 0x0D ∷ 0x03 ∷ [], 3)
    ∷ (0x02 ∷ ascii "POS:E:007,33,34,N:53,12,21" ++ 0x0A ∷ 0x0D ∷ 0x03 ∷ [], 3)
    ∷ (0x02 ∷ ascii "POS:" ++ 0x0A ∷ 0x0D ∷ 0x03 ∷ [], 3)
    -- no digit where one belongs
    ∷ (sent "TIM:48,1A,34,56,07,08,99,6", 4)
    ∷ (sent "TIM:48,12,34,56, 7,08,99,6", 4)
    ∷ (sent "DIF:+0A,00", 4)
    ∷ (sent "DIF:-01, 0", 4)
    ∷ (sent "POS:E: 07,33,34,N:53,12,21", 4)
    ∷ (sent "POS:E:007,33,34,N:53,12,2F", 4)
    -- "status not two capital hex digits"; a weekday that is not 1 to 7, also where it is no digit
    ∷ (sent "TIM:4a", 5)
    ∷ (sent "TIM:a4", 5)
    ∷ (sent "TIM:G0", 5)
    ∷ (sent "TIM: 4", 5)
    ∷ (sent "TIM:4a,02,00,00,23,09,96,1", 5)
    ∷ (sent "TIM:48,12,34,56,07,08,99,0", 5)
    ∷ (sent "TIM:48,12,34,56,07,08,99,8", 5)
    ∷ (sent "TIM:48,12,34,56,07,08,99,A", 5)
    ∷ (sent "TIM:48,12,34,56,07,08,99,x", 5)
    -- out of range; "TIM seconds end at 59", also where a record may have a second 60; "day = 32"
    ∷ (sent "TIM:48,24,34,56,07,08,99,6", 6)
    ∷ (sent "TIM:48,12,60,56,07,08,99,6", 6)
    ∷ (sent "TIM:48,12,34,60,07,08,99,6", 6)
    ∷ (sent "TIM:48,00,59,60,01,01,99,5", 6)
    ∷ (sent "TIM:50,01,59,60,01,07,97,2", 6)
    ∷ (sent "TIM:40,23,59,60,31,12,98,4", 6)
    ∷ (sent "TIM:48,12,34,56,00,08,99,6", 6)
    ∷ (sent "TIM:48,12,34,56,32,08,99,6", 6)
    ∷ (sent "TIM:48,12,34,56,07,00,99,6", 6)
    ∷ (sent "TIM:48,12,34,56,07,13,99,6", 6)
    ∷ (sent "DIF:+00,60", 6)
    ∷ (sent "DIF:-00,60", 6)
    ∷ (sent "DIF:+01,99", 6)
    ∷ (sent "DIF:-00,00", 6)
    ∷ (sent "DIF:+12,01", 6)
    ∷ (sent "DIF:-12,01", 6)
    ∷ (sent "DIF:+13,00", 6)
    ∷ (sent "DIF:-99,59", 6)
    ∷ (sent "POS:E:007,60,34,N:53,12,21", 6)
    ∷ (sent "POS:E:007,33,34,N:53,60,21", 6)
    ∷ (sent "POS:E:180,00,01,N:53,12,21", 6)
    ∷ (sent "POS:E:180,01,00,N:53,12,21", 6)
    ∷ (sent "POS:W:181,00,00,N:53,12,21", 6)
    ∷ (sent "POS:W:999,00,00,N:53,12,21", 6)
    ∷ (sent "POS:E:007,33,34,N:90,00,01", 6)
    ∷ (sent "POS:E:007,33,34,S:90,01,00", 6)
    ∷ (sent "POS:E:007,33,34,S:91,00,00", 6)
    -- no such day
    ∷ (sent "TIM:48,12,34,56,30,02,99,2", 7)
    ∷ (sent "TIM:48,12,34,56,29,02,99,1", 7)
    ∷ (sent "TIM:48,12,34,56,31,04,99,6", 7)
    -- the weekday of another day
    ∷ (sent "TIM:48,12,34,56,07,08,99,5", 8)
    ∷ (sent "TIM:4A,02,00,00,23,09,96,2", 8)
    -- where several hold, the first of 22, 1, 2, 3 and so on: each of these breaks its own rule and the next
    ∷ (sent "SAT:40,", 22)
    ∷ (0x03 ∷ ascii "TIM:4" ++ 0x0D ∷ 0x0A ∷ 0x02 ∷ [], 1)
    ∷ (0x03 ∷ ascii "TIM:40" ++ 0x0A ∷ 0x0D ∷ 0x03 ∷ [], 2)
    ∷ (sent "TIM:48.1A,34,56,07,08,99,6", 3)
    ∷ (sent "DIF:*0A,00", 3)
    ∷ (sent "POS:O:00A,33,34,N:53,12,21", 3)
    ∷ (sent "TIM:4a,1A,34,56,07,08,99,6", 4)
    ∷ (sent "DIF:-0A,60", 4)
    ∷ (sent "TIM:4a,24,34,56,07,08,99,6", 5)
    ∷ (sent "TIM:48,24,34,56,07,08,99,0", 5)
    ∷ (sent "TIM:48,24,34,56,30,02,99,2", 6)
    ∷ (sent "TIM:48,12,34,56,31,04,99,7", 7)
    ∷ []

-- Commands that are not written, with the room of the buffer and the number: 5 to 8 before 13, and 13 one byte short of each length.
abbrev pub refused_writes : List ((Command × ℕ) × ℕ)
refused_writes =
    ((Tim 0x100 (moment (time 12 34 56) (date 1999 8 7) 6), 30), 5)
    ∷ ((Tim 0x48 (moment (time 12 34 56) (date 1999 8 7) 0), 30), 5)
    ∷ ((Tim 0x48 (moment (time 12 34 56) (date 1999 8 7) 8), 30), 5)
    ∷ ((Tim 0x48 (moment (time 24 34 56) (date 1999 8 7) 6), 30), 6)
    ∷ ((Tim 0x48 (moment (time 12 60 56) (date 1999 8 7) 6), 30), 6)
    ∷ ((Tim 0x48 (moment (time 0 59 60) (date 1999 1 1) 5), 30), 6)
    ∷ ((Tim 0x48 (moment (time 12 34 56) (date 1979 8 7) 2), 30), 6)
    ∷ ((Tim 0x48 (moment (time 12 34 56) (date 2080 8 7) 3), 30), 6)
    ∷ ((Tim 0x48 (moment (time 12 34 56) (date 1999 2 30) 2), 30), 7)
    ∷ ((Tim 0x48 (moment (time 12 34 56) (date 1999 8 7) 7), 29), 8)
    ∷ ((Tim 0x48 (moment (time 12 34 56) (date 1999 8 7) 6), 29), 13)
    ∷ ((Tim 0x48 (moment (time 12 34 56) (date 1999 8 7) 6), 0), 13)
    ∷ ((TimAsked 0x100, 9), 5)
    ∷ ((TimAsked 0x40, 9), 13)
    ∷ ((Dif (pos 721), 13), 6)
    ∷ ((Dif (neg_ℤ (pos 721)), 13), 6)
    ∷ ((Dif (pos 120), 13), 13)
    ∷ ((Dif (neg_ℤ (pos 60)), 13), 13)
    ∷ ((DifAsked, 7), 13)
    ∷ ((Pos (position East 7 60 34 North 53 12 21), 29), 6)
    ∷ ((Pos (position East 7 33 100 North 53 12 21), 29), 6)
    ∷ ((Pos (position East 180 0 1 North 53 12 21), 29), 6)
    ∷ ((Pos (position West 181 0 0 North 53 12 21), 30), 6)
    ∷ ((Pos (position West 7 33 34 South 90 1 0), 30), 6)
    ∷ ((Pos (position West 7 33 34 South 53 12 100), 30), 6)
    ∷ ((Pos (position East 7 33 34 North 53 12 21), 29), 13)
    ∷ ((PosAsked, 7), 13)
    ∷ []

-- The lines of the tables, numbered as printed; each character that is listed is taken; and the examples above, to the letter.
pub record CommandsAreAsPrinted : Type 0 where
  pub tim_numbered : numbers tim_table ≡ counted_from 1 20
  pub pos_numbered : numbers pos_table ≡ counted_from 1 22
  pub status_taken : all_occur 5 good_tims status_table ≡ true
  pub tim_taken : all_occur 7 good_tims tim_table ≡ true
  pub dif_taken : all_occur 5 good_difs dif_table ≡ true
  pub pos_taken : all_occur 5 good_positions pos_table ≡ true
  pub printed_read : map (λ row. command_of row.0) printed_examples ≡ map (λ row. row.1) printed_examples
  pub good_read : map (λ row. command_of row.0) good_examples ≡ map (λ row. done row.1) good_examples
  pub good_written : map (λ row. written row.1 30) good_examples ≡ map (λ row. done row.0) good_examples
  pub bad_refused : map (λ row. command_of row.0) refused_examples ≡ map (λ row. refused row.1) refused_examples
  pub writes_refused : map (λ row. written row.0.0 row.0.1) refused_writes ≡ map (λ row. refused row.1) refused_writes
