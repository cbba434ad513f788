-- The characters of any command that is read are those of the printed tables, and what the tables say is read. Assumes nothing.
use mathlib.Core.Path.{◌≡◌, refl, ap, ap₂, sym, ◌∙◌}
use mathlib.Core.Bool.{Bool, true, false, not, ◌&&◌, ◌||◌, or-true}
use mathlib.Core.List.{List, [], ◌∷◌, ◌++◌}
use mathlib.Core.Logic.{◌↔◌, inl, inr, ⊎_elim}
use Prim.Native.Nat.{ℕ, ◌+◌, ◌/◌, ◌%◌, ◌≤◌, ◌<◌}
use native.Mathlib.Omega.{arith}
use lib.Dec.{leb, ltb, eqb}
use lib.IntN.{ℤ, pos, negsuc, nat_abs}
use lib.ListN.{length, take, drop}
use borrow.Author.Tests.{le-leb, lt-leb, lt-ltb, le-ltb, leb-true, ltb-true, eq-eqb, eqb-true, not-false}
use Rattle.refusals.specs.Refusals.{◌when◌, done}
use Rattle.refusals.proofs.Laws.{both, when_none, else_none, refuses}
use Rattle.refusals.proofs.Tables.{◌also◌, below}
use Rattle.lent_buffer.specs.Laying.{within}
use Rattle.ascii.specs.Ascii.{ascii}
use Rattle.places_rules.specs.Places.{code_character, render}
use Rattle.places_rules.proofs.Characters.{low_character}
use Rattle.calendar_rules.specs.Calendar.{date_in_range, month_in_range, day_exists}
use Rattle.calendar_rules.specs.TimeOfDay.{time_in_range}
use Rattle.calendar_rules.proofs.Dates.{inside_holds}
use Rattle.calendar_rules.proofs.Months.{month_28_to_31}
use Rattle.calendar_rules.proofs.Times as times
use Rattle.record_rules.specs.Rule.{weekday_allowed, weekday_agrees}
use Rattle.remote_rules.specs.declared.Moment.{Moment}
use Rattle.remote_rules.specs.declared.Angle.{Angle}
use Rattle.remote_rules.specs.declared.EastWest.{EastWest}
use Rattle.remote_rules.specs.declared.EastWest.TheVariants.{West, East}
use Rattle.remote_rules.specs.declared.NorthSouth.{NorthSouth}
use Rattle.remote_rules.specs.declared.NorthSouth.TheVariants.{North, South}
use Rattle.remote_rules.specs.declared.Position.{Position}
use Rattle.remote_rules.specs.declared.Command.{Command}
use Rattle.remote_rules.specs.declared.Command.TheVariants.{Tim, TimAsked, Dif, DifAsked, Pos, PosAsked}
use Rattle.remote_rules.specs.Rows.{position_field, inner_row, row_of, by_hemispheres}
use Rattle.remote_rules.specs.Coding.{position_digits}
use Rattle.remote_rules.specs.Rule.{refusal_of, status_refusal, moment_refusal, angle_in_range, position_in_range}
use Rattle.remote_rules.specs.Reading.{command_of}
use Rattle.remote_rules.specs.Writing.{command_bytes, telegram_for, written}
use Rattle.remote_rules.specs.WordsAsPrinted.{data_string, sent, field_by, listed_in, EachListed}
use Rattle.remote_rules.specs.RowsAsPrinted.{LengthsAreAsPrinted}
use Rattle.remote_rules.specs.TimAsPrinted.{nibble, nibble_values, status_table, tim_table, tim_as_printed, tim_asked_as_printed, GoodTim}
use Rattle.remote_rules.specs.TimAsPrinted.{TimIsReadExactly, TimAskedIsReadExactly, TimIsWrittenAsPrinted, TimAskedIsWrittenAsPrinted, EveryTimIsListed}
use Rattle.remote_rules.specs.DifAsPrinted.{direction, dif_table, dif_as_printed, DifIsReadExactly, DifAskedIsReadExactly}
use Rattle.remote_rules.specs.DifAsPrinted.{DifIsWrittenAsPrinted, DifAskedIsWrittenAsPrinted, EveryDifIsListed, EveryDifferenceComesBack, NoneIsBeyond12Hours}
use Rattle.remote_rules.specs.PosAsPrinted.{east_west_letter, north_south_letter, pos_table, pos_as_printed, UpTo, GoodPos}
use Rattle.remote_rules.specs.PosAsPrinted.{PosIsReadExactly, PosAskedIsReadExactly, PosIsWrittenAsPrinted, PosAskedIsWrittenAsPrinted, EveryPosIsListed}
use Rattle.remote_rules.proofs.RuleLaws.{status_small, good_moment, difference_small}
use Rattle.remote_rules.proofs.BackAndForth.{reads_as_itself, accepted, read_is_written}

-- a digit's character
shown : (n : ℕ) → n ≤ 9 → code_character (n % 16) ≡ 0x30 + n
shown n small =
    let whole : n % 16 ≡ n = omega arith in
    ap code_character whole ∙ low_character n (omega arith) ∙ omega arith

module _ (n : ℕ) where
  unit_shown : code_character (n % 10 % 16) ≡ 0x30 + n % 10
  unit_shown = shown (n % 10) (omega arith)

  tens_shown : n ≤ 99 → code_character (n / 10 % 16) ≡ 0x30 + n / 10 % 10
  tens_shown small = shown (n / 10) (omega arith) ∙ omega arith

  -- the last two digits of a year
  year_tens_shown : n ≤ 2079 → code_character (n % 100 / 10 % 16) ≡ 0x30 + n / 10 % 10
  year_tens_shown small = shown (n % 100 / 10) (omega arith) ∙ omega arith

  year_unit_shown : code_character (n % 100 % 10 % 16) ≡ 0x30 + n % 10
  year_unit_shown = shown (n % 100 % 10) (omega arith) ∙ omega arith

  nibble_shown : n < 16 → code_character (n % 16) ≡ nibble n
  unfolding code_character
  nibble_shown small = eqb-true _ _ (below 16 (λ k. eqb (code_character (k % 16)) (nibble k)) refl n small)

  nibble_listed : n < 16 → listed_in nibble_values (nibble n) ≡ true
  nibble_listed small = below 16 (λ k. listed_in nibble_values (nibble k)) refl n small

infixr 5 ◌then◌
◌then◌ : {a b : ℕ} {as' bs' : List ℕ} → a ≡ b → as' ≡ bs' → (a ∷ as') ≡ (b ∷ bs')
◌then◌ e es = ap₂ ◌∷◌ e es

-- a digit's character is one of the digits up to the largest that the table lists
up_to : (n top : ℕ) → n ≤ top → listed_in ((0x30, 0x30 + top) ∷ []) (0x30 + n) ≡ true
up_to n top small = simp (le-leb 0x30 (0x30 + n) (omega arith), le-leb (0x30 + n) (0x30 + top) (omega arith))

digit : (n : ℕ) → listed_in ((0x30, 0x39) ∷ []) (0x30 + n % 10) ≡ true
digit n = up_to (n % 10) 9 (omega arith)

-- From the characters of a good command to reading and writing.
module _ (told : Command) (characters : List ℕ) where
  module _ (none : refusal_of told ≡ 0) (same : command_bytes told ≡ characters) where
    reads : command_of characters ≡ done told
    reads = ap command_of (sym same) ∙ reads_as_itself told none

    writes : (room : ℕ) → length characters ≤ room → written told room ≡ done characters
    writes room enough = read_is_written characters told room reads enough

    -- a command that is always good
    read_only : (bytes : List ℕ) → (command_of bytes ≡ done told) ↔ (bytes ≡ characters)
    read_only bytes = (λ read. sym (accepted bytes told read).is_written ∙ same, λ e. ap command_of e ∙ reads)

  -- one that is good where its fields are
  read_exactly : (Good : Type 0) → (refusal_of told ≡ 0 → Good) → (Good → refusal_of told ≡ 0) → (Good → command_bytes told ≡ characters)
      → (bytes : List ℕ) → (command_of bytes ≡ done told) ↔ (Good × (bytes ≡ characters))
  read_exactly Good good not_refused spelled bytes = (
    λ read. let a = accepted bytes told read in let g = good a.is_good_law in (g, sym a.is_written ∙ spelled g),
    λ fits. ap command_of fits.1 ∙ reads (not_refused fits.0) (spelled fits.0),
  )

-- TIM
module _ (status : ℕ) (small : status ≤ 255) where
  status_good : status_refusal status ≡ 0
  unfolding status_refusal
  status_good = rw (le-ltb 255 status small)

  asked_spelled : command_bytes (TimAsked status) ≡ tim_asked_as_printed status
  unfolding command_bytes render row_of inner_row
  asked_spelled =
      refl then refl then refl then refl then refl
      then nibble_shown (status / 16) (omega arith) then nibble_shown (status % 16) (omega arith)
      then refl then refl then refl then refl

  status_listed_law : EachListed status_table (field_by status_table status)
  status_listed_law = nibble_listed (status / 16) (omega arith) also nibble_listed (status % 16) (omega arith) also tt

module _ (status : ℕ) (moment : Moment) where
  tim_good : refusal_of (Tim status moment) ≡ 0 → GoodTim status moment
  unfolding moment_refusal weekday_agrees
  tim_good none =
      let parts = else_none (status_refusal status) (moment_refusal moment) none in
      let g = good_moment moment parts.1 in
      let five = else_none (5 when not (weekday_allowed moment.weekday)) _ parts.1 in
      let six = else_none (6 when not (time_in_range moment.time && date_in_range moment.date)) _ five.1 in
      let seven = else_none (7 when not (day_exists moment.date)) _ six.1 in
      record {
        to_status = status_small status parts.0;
        from_weekday = g.from_weekday;
        to_weekday = g.to_weekday;
        to_hour = g.time_good.to_hour;
        to_minute = g.time_good.to_minute;
        to_second = g.time_good.to_second;
        from_year = g.date_good.from_year;
        to_year = g.date_good.to_year;
        from_month = g.date_good.from_month;
        to_month = g.date_good.to_month;
        from_day = g.date_good.from_day;
        to_day = g.date_good.to_day;
        weekday_agrees = sym (eqb-true _ moment.weekday (not-false _ (when_none 7 _ seven.1)));
      }

  module _ (g : GoodTim status moment) where
    to_31 : moment.date.day ≤ 31
    to_31 = omega (arith, g.to_day, (month_28_to_31 moment.date.year moment.date.month).1)

    weekday_fits : weekday_allowed moment.weekday ≡ true
    unfolding weekday_allowed
    weekday_fits = inside_holds 1 moment.weekday 7 g.from_weekday g.to_weekday

    time_fits : time_in_range moment.time ≡ true
    time_fits = times.in_range moment.time (record { to_hour = g.to_hour; to_minute = g.to_minute; to_second = g.to_second })

    date_fits : date_in_range moment.date ≡ true
    unfolding date_in_range month_in_range
    date_fits =
        rw (
          inside_holds 1980 moment.date.year 2079 g.from_year g.to_year,
          inside_holds 1 moment.date.month 12 g.from_month g.to_month,
          inside_holds 1 moment.date.day 31 g.from_day to_31,
        )

    day_fits : day_exists moment.date ≡ true
    unfolding day_exists
    day_fits = le-leb _ _ g.to_day

    weekday_agrees_law : weekday_agrees moment.weekday moment.date ≡ true
    unfolding weekday_agrees
    weekday_agrees_law = eq-eqb _ moment.weekday (sym g.weekday_agrees)

    tim_not_refused : refusal_of (Tim status moment) ≡ 0
    unfolding moment_refusal
    tim_not_refused = rw (status_good status g.to_status, weekday_fits, time_fits, date_fits, day_fits, weekday_agrees_law)

    tim_spelled : command_bytes (Tim status moment) ≡ tim_as_printed status moment
    unfolding command_bytes render row_of inner_row
    tim_spelled =
        let t = moment.time in
        let d = moment.date in
        refl then refl then refl then refl then refl
        then nibble_shown (status / 16) (omega (arith, g.to_status)) then nibble_shown (status % 16) (omega arith)
        then refl then tens_shown t.hour (omega (arith, g.to_hour)) then unit_shown t.hour
        then refl then tens_shown t.minute (omega (arith, g.to_minute)) then unit_shown t.minute
        then refl then tens_shown t.second (omega (arith, g.to_second)) then unit_shown t.second
        then refl then tens_shown d.day (omega (arith, to_31)) then unit_shown d.day
        then refl then tens_shown d.month (omega (arith, g.to_month)) then unit_shown d.month
        then refl then year_tens_shown d.year g.to_year then year_unit_shown d.year
        then refl then shown moment.weekday (omega (arith, g.to_weekday))
        then refl then refl then refl then refl

    weekday_listed_law : listed_in ((0x31, 0x37) ∷ []) (0x30 + moment.weekday) ≡ true
    weekday_listed_law =
        simp (le-leb 0x31 (0x30 + moment.weekday) (omega (arith, g.from_weekday)), le-leb (0x30 + moment.weekday) 0x37 (omega (arith, g.to_weekday)))

    tim_listed : EachListed tim_table (field_by tim_table moment)
    tim_listed =
        let t = moment.time in
        let d = moment.date in
        refl also up_to (t.hour / 10 % 10) 2 (omega (arith, g.to_hour)) also digit t.hour
        also refl also up_to (t.minute / 10 % 10) 5 (omega (arith, g.to_minute)) also digit t.minute
        also refl also up_to (t.second / 10 % 10) 5 (omega (arith, g.to_second)) also digit t.second
        also refl also up_to (d.day / 10 % 10) 3 (omega (arith, to_31)) also digit d.day
        also refl also up_to (d.month / 10 % 10) 1 (omega (arith, g.to_month)) also digit d.month
        also refl also digit (d.year / 10) also digit d.year
        also refl also weekday_listed_law also tt

pub tim_exactly : TimIsReadExactly
tim_exactly bytes status moment =
    read_exactly (Tim status moment) (tim_as_printed status moment) (GoodTim status moment)
    (tim_good status moment) (tim_not_refused status moment) (tim_spelled status moment) bytes

pub tim_asked_exactly : TimAskedIsReadExactly
tim_asked_exactly bytes status =
    read_exactly (TimAsked status) (tim_asked_as_printed status) (status ≤ 255) (status_small status) (status_good status) (asked_spelled status) bytes

pub tim_written : TimIsWrittenAsPrinted
tim_written status moment room g enough =
    writes (Tim status moment) (tim_as_printed status moment) (tim_not_refused status moment g) (tim_spelled status moment g) room enough

pub tim_asked_written : TimAskedIsWrittenAsPrinted
tim_asked_written status room small enough =
    writes (TimAsked status) (tim_asked_as_printed status) (status_good status small) (asked_spelled status small) room enough

pub every_tim_listed : EveryTimIsListed
every_tim_listed bytes status moment read =
    let fits = (tim_exactly bytes status moment).0 read in
    rw fits.1 (status_listed_law status fits.0.to_status, tim_listed status moment fits.0)

-- DIF
module _ (difference : ℤ) where
  difference_good : nat_abs difference ≤ 720 → refusal_of (Dif difference) ≡ 0
  difference_good small = rw (le-leb (nat_abs difference) 720 small)

  direction_listed : listed_in ((0x2B, 0x2B) ∷ (0x2D, 0x2D) ∷ []) (direction difference) ≡ true
  direction_listed = either difference
    where
      either : (d : ℤ) → listed_in ((0x2B, 0x2B) ∷ (0x2D, 0x2D) ∷ []) (direction d) ≡ true
      either (pos n) = refl
      either (negsuc n) = refl

  difference_listed : nat_abs difference ≤ 720 → EachListed dif_table (field_by dif_table difference)
  difference_listed small =
      direction_listed
      also up_to (nat_abs difference / 60 / 10 % 10) 1 (omega arith) also digit (nat_abs difference / 60)
      also refl also up_to (nat_abs difference % 60 / 10 % 10) 5 (omega arith) also digit (nat_abs difference % 60)
      also tt

difference_spelled : (difference : ℤ) → nat_abs difference ≤ 720 → command_bytes (Dif difference) ≡ dif_as_printed difference
unfolding command_bytes render row_of inner_row
difference_spelled (pos n) small =
    refl then refl then refl then refl then refl then refl
    then tens_shown (n / 60) (omega arith) then unit_shown (n / 60)
    then refl then tens_shown (n % 60) (omega arith) then unit_shown (n % 60)
    then refl then refl then refl then refl
difference_spelled (negsuc n) small =
    refl then refl then refl then refl then refl then refl
    then tens_shown (nat_abs (negsuc n) / 60) (omega arith) then unit_shown (nat_abs (negsuc n) / 60)
    then refl then tens_shown (nat_abs (negsuc n) % 60) (omega arith) then unit_shown (nat_abs (negsuc n) % 60)
    then refl then refl then refl then refl

dif_asked_spelled : command_bytes DifAsked ≡ sent "DIF:"
unfolding command_bytes render row_of inner_row
dif_asked_spelled = refl

pub dif_exactly : DifIsReadExactly
dif_exactly bytes difference =
    read_exactly (Dif difference) (dif_as_printed difference) (nat_abs difference ≤ 720)
    (difference_small difference) (difference_good difference) (difference_spelled difference) bytes

pub dif_asked_exactly : DifAskedIsReadExactly
dif_asked_exactly = read_only DifAsked (sent "DIF:") refl dif_asked_spelled

pub dif_written : DifIsWrittenAsPrinted
dif_written difference room small enough =
    writes (Dif difference) (dif_as_printed difference) (difference_good difference small) (difference_spelled difference small) room enough

pub dif_asked_written : DifAskedIsWrittenAsPrinted
dif_asked_written = writes DifAsked (sent "DIF:") refl dif_asked_spelled

pub every_dif_listed : EveryDifIsListed
every_dif_listed bytes difference read =
    let fits = (dif_exactly bytes difference).0 read in
    rw fits.1 (difference_listed difference fits.0)

pub every_difference_back : EveryDifferenceComesBack
every_difference_back difference small = (
  dif_written difference 14 small (omega arith),
  (dif_exactly (dif_as_printed difference) difference).1 (small, refl),
)

pub none_beyond : NoneIsBeyond12Hours
unfolding telegram_for within
none_beyond difference room beyond = rw (lt-leb (nat_abs difference) 720 beyond) (ap (within room) (sym (refuses (command_bytes (Dif difference)) refl (λ e. absurd (omega arith)))))

-- POS
module _ (last : ℕ) (angle : Angle) where
  -- the two ways in which an angle is good, by the tests
  angle_good : angle_in_range last angle ≡ true → UpTo last angle
  unfolding angle_in_range
  angle_good = go (ltb angle.degrees last && (leb angle.minutes 59 && leb angle.fraction 99)) refl
    where
      go : (t : Bool) → (ltb angle.degrees last && (leb angle.minutes 59 && leb angle.fraction 99)) ≡ t
          → (t || (eqb angle.degrees last && (eqb angle.minutes 0 && eqb angle.fraction 0))) ≡ true → UpTo last angle
      go true inside e =
          let degrees = both _ _ inside in
          let smaller = both _ _ degrees.1 in
          inl (ltb-true _ _ degrees.0, leb-true _ _ smaller.0, leb-true _ _ smaller.1)
      go false inside e =
          let degrees = both _ _ e in
          let smaller = both _ _ degrees.1 in
          inr (eqb-true _ _ degrees.0, eqb-true _ _ smaller.0, eqb-true _ _ smaller.1)

  angle_fits : UpTo last angle → angle_in_range last angle ≡ true
  unfolding angle_in_range
  angle_fits =
      ⊎_elim
      (λ under. rw (lt-ltb _ _ under.0, le-leb _ _ under.1, le-leb _ _ under.2))
      (λ end. rw (eq-eqb _ _ end.0, eq-eqb _ _ end.1, eq-eqb _ _ end.2, or-true))

  -- in either way no place holds more than this
  record Bounds : Type 0 where
    pub to_degrees : angle.degrees ≤ last
    pub to_minutes : angle.minutes ≤ 59
    pub to_fraction : angle.fraction ≤ 99

  bounds : UpTo last angle → Bounds
  bounds =
      ⊎_elim
      (λ under. record { to_degrees = omega (arith, under.0); to_minutes = under.1; to_fraction = under.2 })
      (λ end. record { to_degrees = omega (arith, end.0); to_minutes = omega (arith, end.1); to_fraction = omega (arith, end.2) })

module _ (told : Position) where
  position_good : refusal_of (Pos told) ≡ 0 → GoodPos told
  unfolding position_in_range
  position_good none =
      let parts = both (angle_in_range 180 told.longitude) (angle_in_range 90 told.latitude) (not-false _ (when_none 5 _ none)) in
      record { to180 = angle_good 180 told.longitude parts.0; to90 = angle_good 90 told.latitude parts.1 }

  module _ (g : GoodPos told) where
    position_not_refused : refusal_of (Pos told) ≡ 0
    unfolding position_in_range
    position_not_refused = rw (angle_fits 180 told.longitude g.to180, angle_fits 90 told.latitude g.to90)

    position_listed : EachListed pos_table (field_by pos_table told)
    position_listed =
        let e = told.longitude in
        let n = told.latitude in
        let east = bounds 180 e g.to180 in
        let north = bounds 90 n g.to90 in
        east_west_listed told.east_west also refl
        also up_to (e.degrees / 100 % 10) 1 (omega (arith, east)) also digit (e.degrees / 10) also digit e.degrees
        also refl also up_to (e.minutes / 10 % 10) 5 (omega (arith, east)) also digit e.minutes
        also refl also digit (e.fraction / 10) also digit e.fraction
        also refl also north_south_listed told.north_south also refl
        also digit (n.degrees / 10) also digit n.degrees
        also refl also up_to (n.minutes / 10 % 10) 5 (omega (arith, north)) also digit n.minutes
        also refl also digit (n.fraction / 10) also digit n.fraction
        also tt
      where
        east_west_listed : (side : EastWest) → listed_in ((0x57, 0x57) ∷ (0x45, 0x45) ∷ []) (east_west_letter side) ≡ true
        east_west_listed West = refl
        east_west_listed East = refl

        north_south_listed : (side : NorthSouth) → listed_in ((0x4E, 0x4E) ∷ (0x53, 0x53) ∷ []) (north_south_letter side) ≡ true
        north_south_listed North = refl
        north_south_listed South = refl

    -- a data field with any two letters
    field_shown : (a b : ℕ) → render (position_field a b) (position_digits told) ≡ a ∷ take 11 (drop 1 (field_by pos_table told)) ++ b ∷ drop 13 (field_by pos_table told)
    unfolding render
    field_shown a b =
        let e = told.longitude in
        let n = told.latitude in
        let east = bounds 180 e g.to180 in
        let north = bounds 90 n g.to90 in
        refl then refl then unit_shown (e.degrees / 100) then unit_shown (e.degrees / 10) then unit_shown e.degrees
        then refl then tens_shown e.minutes (omega (arith, east)) then unit_shown e.minutes
        then refl then tens_shown e.fraction (omega (arith, east)) then unit_shown e.fraction
        then refl then refl then refl then unit_shown (n.degrees / 10) then unit_shown n.degrees
        then refl then tens_shown n.minutes (omega (arith, north)) then unit_shown n.minutes
        then refl then tens_shown n.fraction (omega (arith, north)) then unit_shown n.fraction
        then refl

    position_spelled : command_bytes (Pos told) ≡ pos_as_printed told
    unfolding command_bytes render row_of inner_row
    position_spelled = go told.east_west told.north_south
      where
        lettered : ℕ → ℕ → List ℕ
        lettered a b = data_string (ascii "POS:" ++ a ∷ take 11 (drop 1 (field_by pos_table told)) ++ b ∷ drop 13 (field_by pos_table told))

        go : (east_west : EastWest) (north_south : NorthSouth)
            → render (row_of (by_hemispheres east_west north_south)) (position_digits told) ≡ lettered (east_west_letter east_west) (north_south_letter north_south)
        go West North = ap (λ field. data_string (ascii "POS:" ++ field)) (field_shown 0x57 0x4E)
        go West South = ap (λ field. data_string (ascii "POS:" ++ field)) (field_shown 0x57 0x53)
        go East North = ap (λ field. data_string (ascii "POS:" ++ field)) (field_shown 0x45 0x4E)
        go East South = ap (λ field. data_string (ascii "POS:" ++ field)) (field_shown 0x45 0x53)

pos_asked_spelled : command_bytes PosAsked ≡ sent "POS:"
unfolding command_bytes render row_of inner_row
pos_asked_spelled = refl

pub pos_exactly : PosIsReadExactly
pos_exactly bytes told =
    read_exactly (Pos told) (pos_as_printed told) (GoodPos told) (position_good told) (position_not_refused told) (position_spelled told) bytes

pub pos_asked_exactly : PosAskedIsReadExactly
pos_asked_exactly = read_only PosAsked (sent "POS:") refl pos_asked_spelled

pub pos_written : PosIsWrittenAsPrinted
pos_written told room g enough = writes (Pos told) (pos_as_printed told) (position_not_refused told g) (position_spelled told g) room enough

pub pos_asked_written : PosAskedIsWrittenAsPrinted
pos_asked_written = writes PosAsked (sent "POS:") refl pos_asked_spelled

pub every_pos_listed : EveryPosIsListed
every_pos_listed bytes told read =
    let fits = (pos_exactly bytes told).0 read in
    rw fits.1 (position_listed told fits.0)

-- the length of any command that is read
pub lengths_as_printed : LengthsAreAsPrinted
lengths_as_printed bytes (Tim status moment) read = ap length ((tim_exactly bytes status moment).0 read).1
lengths_as_printed bytes (TimAsked status) read = ap length ((tim_asked_exactly bytes status).0 read).1
lengths_as_printed bytes (Dif difference) read = ap length ((dif_exactly bytes difference).0 read).1
lengths_as_printed bytes DifAsked read = ap length ((dif_asked_exactly bytes).0 read)
lengths_as_printed bytes (Pos told) read = ap length ((pos_exactly bytes told).0 read).1
lengths_as_printed bytes PosAsked read = ap length ((pos_asked_exactly bytes).0 read)
