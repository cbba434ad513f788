-- A good command's digits carry that command, and a form's row makes of digits what it makes of those of the command that they carry.
-- Assumes nothing.
use mathlib.Core.Path.{◌≡◌, refl, ap, sym, ◌∙◌}
use mathlib.Core.Bool.{Bool, true, false, cond, ◌||◌}
use mathlib.Core.List.{List, [], ◌∷◌, ◌++◌}
use Prim.Native.Nat.{ℕ, ◌+◌, ◌*◌, ◌/◌, ◌%◌, ◌≤◌, ◌<◌}
use native.Mathlib.Omega.{arith}
use lib.Dec.{eqb, ltb, leb}
use lib.IntN.{ℤ, pos, negsuc}
use lib.ListN.{length, get_or, get_or-eq_default}
use borrow.Author.Tests.{eqb-true, ltb-true, ltb-false, lt-ltb, le-leb, leb-true}
use Rattle.refusals.proofs.Laws.{both, else_none}
use Rattle.refusals.proofs.Tables.{◌also◌, all_below, below}
use Rattle.ascii.specs.Control.{stx, etx}
use Rattle.places_rules.specs.Places.{Place, fixed, slots, render}
use Rattle.places_rules.proofs.Rows.{used_in, most, Held}
use Rattle.places_rules.proofs.RoundTrip.{held_most, AllSame, same_bytes}
use Rattle.record_rules.specs.declared.DatedLayout.TheVariants.{L6021}
use Rattle.minutes.specs.Minutes.{signed, is_minus, size_of, hours_of, minutes_of}
use Rattle.minutes.proofs.MinutesLaws.{signed_back, minus_signed, hours_back, minutes_back}
use Rattle.layouts_rules.specs.Layouts.{CR, LF}
use Rattle.layouts_rules.specs.Coding.{number}
use Rattle.layouts_rules.proofs.CodingLaws.{pair_back, tens_back, ones_back, year_back, year_low}
use Rattle.remote_rules.specs.declared.Moment.{Moment}
use Rattle.remote_rules.specs.declared.EastWest.{EastWest}
use Rattle.remote_rules.specs.declared.EastWest.TheVariants.{West, East}
use Rattle.remote_rules.specs.declared.NorthSouth.{NorthSouth}
use Rattle.remote_rules.specs.declared.NorthSouth.TheVariants.{North, South}
use Rattle.remote_rules.specs.declared.Position.{Position}
use Rattle.remote_rules.specs.declared.Command.{Command}
use Rattle.remote_rules.specs.declared.Command.TheVariants as command
use Rattle.remote_rules.specs.declared.rows.Form.{Form}
use Rattle.remote_rules.specs.declared.rows.Form.TheVariants.{Tim, TimAsked, DifPlus, DifMinus, DifAsked, PosWestNorth, PosWestSouth, PosEastNorth, PosEastSouth, PosAsked}
use Rattle.remote_rules.specs.Rows.{letters, colon, plus, minus, difference_field, position_field, inner_row, row_of, by_hemispheres}
use Rattle.remote_rules.specs.Coding.{moment_in, minutes_in, position_in, command_in, own_form, tim_digits, status_digits, difference_digits, position_digits, digits_out}
use Rattle.remote_rules.specs.Rule.{refusal_of, status_refusal, spelled_well}
use Rattle.remote_rules.proofs.RuleLaws.{status_small, GoodMoment, good_moment, day_of_month, GoodPosition, good_position, difference_small}

-- Numbers and their digits.
module _ (status : ℕ) (small : status ≤ 255) where
  status_back : 16 * (status / 16 % 16) + status % 16 % 16 ≡ status
  status_back =
      let high : status / 16 % 16 ≡ status / 16 = omega arith in
      let low : status % 16 % 16 ≡ status % 16 = omega arith in
      rw (high, low) (omega arith)

module _ (a b : ℕ) (a_small : a ≤ 15) (b_small : b ≤ 15) where
  nibbles : 16 * (a % 16) + b % 16 ≡ 16 * a + b
  nibbles =
      let high : a % 16 ≡ a = omega arith in
      let low : b % 16 ≡ b = omega arith in
      rw (high, low) refl

  high_back : (16 * (a % 16) + b % 16) / 16 ≡ a
  high_back = rw nibbles (omega arith)

  low_back : (16 * (a % 16) + b % 16) % 16 ≡ b
  low_back = rw nibbles (omega arith)

four_bits : (n : ℕ) → n ≤ 15 → n % 16 ≡ n
four_bits n small = omega arith

module _ (n : ℕ) (small : n ≤ 999) where
  three_back : 100 * (n / 100 % 10 % 16) + (10 * (n / 10 % 10 % 16) + n % 10 % 16) ≡ n
  three_back = rw (four_bits (n / 100 % 10) (omega arith), four_bits (n / 10 % 10) (omega arith), four_bits (n % 10) (omega arith)) (omega arith)

two_back : (n : ℕ) → n ≤ 99 → 10 * (n / 10 % 10 % 16) + n % 10 % 16 ≡ n
two_back n small = rw (four_bits (n / 10 % 10) (omega arith), four_bits (n % 10) (omega arith)) (omega arith)

module _ (a b c : ℕ) (a_small : a ≤ 9) (b_small : b ≤ 9) (c_small : c ≤ 9) where
  three : 100 * (a % 16) + (10 * (b % 16) + c % 16) ≡ 100 * a + 10 * b + c
  three = rw (four_bits a (omega arith), four_bits b (omega arith), four_bits c (omega arith)) (omega arith)

  first_of_three : (100 * (a % 16) + (10 * (b % 16) + c % 16)) / 100 % 10 ≡ a
  first_of_three = rw three (omega arith)

  second_of_three : (100 * (a % 16) + (10 * (b % 16) + c % 16)) / 10 % 10 ≡ b
  second_of_three = rw three (omega arith)

  third_of_three : (100 * (a % 16) + (10 * (b % 16) + c % 16)) % 10 ≡ c
  third_of_three = rw three (omega arith)

-- A good command, from its digits.
moment_back : (status : ℕ) (moment : Moment) → GoodMoment moment → moment_in (tim_digits status moment) ≡ moment
moment_back status moment g =
    let t = moment.time in
    let d = moment.date in
    let weekday_whole : moment.weekday % 16 ≡ moment.weekday = omega (arith, g.to_weekday) in
    λ i.
    record {
      time =
          record {
            hour = pair_back t.hour (omega (arith, g.time_good)) i;
            minute = pair_back t.minute (omega (arith, g.time_good)) i;
            second = pair_back t.second (omega (arith, g.time_good)) i;
          };
      date =
          record {
            year = year_back L6021 d.year g.date_good.from_year g.date_good.to_year i;
            month = pair_back d.month (omega (arith, g.date_good)) i;
            day = pair_back d.day (omega (arith, day_of_month moment g)) i;
          };
      weekday = weekday_whole i;
    }

minutes_carried : (difference : ℤ) → size_of difference ≤ 720 → minutes_in (difference_digits difference) ≡ 60 * hours_of difference + minutes_of difference
minutes_carried difference small =
    rw (pair_back (hours_of difference) (omega arith), pair_back (minutes_of difference) (omega arith))

difference_back : (difference : ℤ) → size_of difference ≤ 720
    → command_in (cond (is_minus difference) DifMinus DifPlus) (difference_digits difference) ≡ command.Dif difference
difference_back difference small = go (is_minus difference) refl
  where
    with_sign : (t : Bool) → is_minus difference ≡ t → signed t (minutes_in (difference_digits difference)) ≡ difference
    with_sign t e = ap (signed t) (minutes_carried difference small) ∙ ap (λ s. signed s (60 * hours_of difference + minutes_of difference)) (sym e) ∙ signed_back difference

    go : (t : Bool) → is_minus difference ≡ t → command_in (cond t DifMinus DifPlus) (difference_digits difference) ≡ command.Dif difference
    go true e = ap command.Dif (with_sign true e)
    go false e = ap command.Dif (with_sign false e)

position_form : (east_west : EastWest) (north_south : NorthSouth) (digits : List ℕ)
    → command_in (by_hemispheres east_west north_south) digits ≡ command.Pos (position_in east_west north_south digits)
position_form West North digits = refl
position_form West South digits = refl
position_form East North digits = refl
position_form East South digits = refl

position_back : (position : Position) → GoodPosition position
    → position_in position.east_west position.north_south (position_digits position) ≡ position
position_back position g =
    let e = position.longitude in
    let n = position.latitude in
    λ i.
    record {
      east_west = position.east_west;
      longitude =
          record {
            degrees = three_back e.degrees (omega (arith, g.longitude)) i;
            minutes = pair_back e.minutes (omega (arith, g.longitude)) i;
            fraction = pair_back e.fraction (omega (arith, g.longitude)) i;
          };
      north_south = position.north_south;
      latitude =
          record {
            degrees = two_back n.degrees (omega (arith, g.latitude)) i;
            minutes = pair_back n.minutes (omega (arith, g.latitude)) i;
            fraction = pair_back n.fraction (omega (arith, g.latitude)) i;
          };
    }

pub command_back : (told : Command) → refusal_of told ≡ 0 → command_in (own_form told) (digits_out told) ≡ told
command_back (command.Tim status moment) none =
    let parts = else_none (status_refusal status) _ none in
    let small = status_small status parts.0 in
    λ i. command.Tim (status_back status small i) (moment_back status moment (good_moment moment parts.1) i)
command_back (command.TimAsked status) none = ap command.TimAsked (status_back status (status_small status none))
command_back (command.Dif difference) none = difference_back difference (difference_small difference none)
command_back command.DifAsked none = refl
command_back (command.Pos position) none =
    position_form position.east_west position.north_south (position_digits position)
    ∙ ap command.Pos (position_back position (good_position position none))
command_back command.PosAsked none = refl

-- Its row can show its digits, and where the row has no place there is 0: a test of each slot.
idle_by_test : (row : List Place) (digits : List ℕ) → length digits ≡ slots → all_below slots (λ slot. used_in slot row || eqb (get_or digits slot 0) 0) ≡ true
    → (slot : ℕ) → used_in slot row ≡ false → get_or digits slot 0 ≡ 0
idle_by_test row digits size test slot unused = go (ltb slot slots) refl
  where
    go : (t : Bool) → ltb slot slots ≡ t → get_or digits slot 0 ≡ 0
    go true inside =
        let here = below slots (λ k. used_in k row || eqb (get_or digits k 0) 0) test slot (ltb-true slot slots inside) in
        eqb-true (get_or digits slot 0) 0 (rw unused at here)
    go false behind = get_or-eq_default digits 0 {n = slot} (omega (arith, ltb-false slot slots behind))

-- the rows of a difference and of a position, with any sign and any letters
abbrev difference_row : ℕ → List Place
difference_row sign = fixed stx ∷ letters "DIF" ++ fixed colon ∷ difference_field sign ++ CR ∷ LF ∷ fixed etx ∷ []

abbrev position_row : ℕ → ℕ → List Place
position_row east_west north_south = fixed stx ∷ letters "POS" ++ fixed colon ∷ position_field east_west north_south ++ CR ∷ LF ∷ fixed etx ∷ []

module _ (status : ℕ) (small : status ≤ 255) where
  tim_held : (moment : Moment) → GoodMoment moment → Held (row_of Tim) (tim_digits status moment)
  unfolding row_of inner_row
  tim_held moment g =
      record {
        size = refl;
        each = omega (arith, g.to_weekday, g.time_good, g.date_good, day_of_month moment g);
        idle = idle_by_test (row_of Tim) (tim_digits status moment) refl refl;
      }

  asked_held : Held (row_of TimAsked) (status_digits status)
  unfolding row_of inner_row
  asked_held = record { size = refl; each = omega arith; idle = idle_by_test (row_of TimAsked) (status_digits status) refl refl }

difference_held : (sign : ℕ) (difference : ℤ) → size_of difference ≤ 720 → Held (difference_row sign) (difference_digits difference)
difference_held sign difference small =
    record { size = refl; each = omega arith; idle = idle_by_test (difference_row sign) (difference_digits difference) refl refl }

position_held : (east_west north_south : ℕ) (position : Position) → GoodPosition position → Held (position_row east_west north_south) (position_digits position)
position_held east_west north_south position g =
    record {
      size = refl;
      each = omega (arith, g.longitude, g.latitude);
      idle = idle_by_test (position_row east_west north_south) (position_digits position) refl refl;
    }

by_sign : (t : Bool) (P : List Place → Type 0) → ((sign : ℕ) → P (difference_row sign)) → P (row_of (cond t DifMinus DifPlus))
unfolding row_of inner_row
by_sign true P all = all minus
by_sign false P all = all plus

by_letters : (east_west : EastWest) (north_south : NorthSouth) (P : List Place → Type 0) → ((a b : ℕ) → P (position_row a b)) → P (row_of (by_hemispheres east_west north_south))
unfolding row_of inner_row
by_letters West North P all = all 0x57 0x4E
by_letters West South P all = all 0x57 0x53
by_letters East North P all = all 0x45 0x4E
by_letters East South P all = all 0x45 0x53

pub digits_held : (told : Command) → refusal_of told ≡ 0 → Held (row_of (own_form told)) (digits_out told)
unfolding row_of inner_row
digits_held (command.Tim status moment) none =
    let parts = else_none (status_refusal status) _ none in
    tim_held status (status_small status parts.0) moment (good_moment moment parts.1)
digits_held (command.TimAsked status) none = asked_held status (status_small status none)
digits_held (command.Dif difference) none =
    by_sign (is_minus difference) (λ row. Held row (difference_digits difference)) (λ sign. difference_held sign difference (difference_small difference none))
digits_held command.DifAsked none = record { size = refl; each = omega arith; idle = idle_by_test (row_of DifAsked) (digits_out command.DifAsked) refl refl }
digits_held (command.Pos position) none =
    by_letters position.east_west position.north_south (λ row. Held row (position_digits position))
    (λ a b. position_held a b position (good_position position none))
digits_held command.PosAsked none = record { size = refl; each = omega arith; idle = idle_by_test (row_of PosAsked) (digits_out command.PosAsked) refl refl }

-- its difference is spelled well
minus_some : (difference : ℤ) → is_minus difference ≡ true → 0 < size_of difference
minus_some (pos n) e = let z : ◌≡◌ {A = ℕ} 0 1 = cc in absurd (omega arith)
minus_some (negsuc n) e = omega arith

difference_spelled : (difference : ℤ) → size_of difference ≤ 720
    → spelled_well (cond (is_minus difference) DifMinus DifPlus) (difference_digits difference) ≡ true
unfolding spelled_well
difference_spelled difference small = go (is_minus difference) refl
  where
    minutes : leb (number (difference_digits difference) 4) 59 ≡ true
    minutes = rw (pair_back (minutes_of difference) (omega arith)) (le-leb (minutes_of difference) 59 (omega arith))

    go : (t : Bool) → is_minus difference ≡ t → spelled_well (cond t DifMinus DifPlus) (difference_digits difference) ≡ true
    go true e =
        rw (minutes, minutes_carried difference small) (lt-ltb 0 (60 * hours_of difference + minutes_of difference) (omega (arith, minus_some difference e)))
    go false e = minutes

position_spelled : (east_west : EastWest) (north_south : NorthSouth) (digits : List ℕ) → spelled_well (by_hemispheres east_west north_south) digits ≡ true
unfolding spelled_well
position_spelled West North digits = refl
position_spelled West South digits = refl
position_spelled East North digits = refl
position_spelled East South digits = refl

pub spelled_well_law : (told : Command) → refusal_of told ≡ 0 → spelled_well (own_form told) (digits_out told) ≡ true
unfolding spelled_well
spelled_well_law (command.Tim status moment) none = refl
spelled_well_law (command.TimAsked status) none = refl
spelled_well_law (command.Dif difference) none = difference_spelled difference (difference_small difference none)
spelled_well_law command.DifAsked none = refl
spelled_well_law (command.Pos position) none = position_spelled position.east_west position.north_south (position_digits position)
spelled_well_law command.PosAsked none = refl

-- Digits that a form's row can carry, and the command that they carry: its form is that form, and its digits are those.
module _ (row : List Place) (digits : List ℕ) (h : Held row digits) where
  top : (slot n : ℕ) → most row slot ≡ n → get_or digits slot 0 ≤ n
  top slot n e = omega (arith, held_most row digits h slot, e)

  tens : (slot : ℕ) → most row slot ≡ 9 → most row (slot + 1) ≡ 9 → number digits slot / 10 ≡ get_or digits slot 0
  tens slot e f = tens_back _ _ (top slot 9 e) (top (slot + 1) 9 f)

  ones : (slot : ℕ) → most row slot ≡ 9 → most row (slot + 1) ≡ 9 → number digits slot % 10 ≡ get_or digits (slot + 1) 0
  ones slot e f = ones_back _ _ (top slot 9 e) (top (slot + 1) 9 f)

  whole : (slot : ℕ) → most row slot ≡ 9 → most row (slot + 1) ≡ 9 → number digits slot ≤ 99
  whole slot e f =
      let first = top slot 9 e in
      let second = top (slot + 1) 9 f in
      omega (arith, four_bits (get_or digits slot 0) (omega arith), four_bits (get_or digits (slot + 1) 0) (omega arith))

tim_same : (digits : List ℕ) → Held (row_of Tim) digits → AllSame (digits_out (command_in Tim digits)) digits (row_of Tim)
unfolding row_of inner_row
tim_same digits h =
    let row = row_of Tim in
    let high = top row digits h 0 15 refl in
    let low = top row digits h 16 15 refl in
    let year = year_low L6021 0 (number digits 14) (whole row digits h 14 refl refl) in
    tt also tt also tt also tt also tt
    also high_back _ _ high low also low_back _ _ high low
    also tt also tens row digits h 2 refl refl also ones row digits h 2 refl refl
    also tt also tens row digits h 4 refl refl also ones row digits h 4 refl refl
    also tt also tens row digits h 6 refl refl also ones row digits h 6 refl refl
    also tt also tens row digits h 8 refl refl also ones row digits h 8 refl refl
    also tt also tens row digits h 10 refl refl also ones row digits h 10 refl refl
    also tt
    also ap (λ y. y / 10) year ∙ tens row digits h 14 refl refl
    also ap (λ y. y % 10) year ∙ ones row digits h 14 refl refl
    also tt also four_bits _ (top row digits h 1 15 refl)
    also tt also tt also tt also tt

asked_same : (digits : List ℕ) → Held (row_of TimAsked) digits → AllSame (digits_out (command_in TimAsked digits)) digits (row_of TimAsked)
unfolding row_of inner_row
asked_same digits h =
    let high = top (row_of TimAsked) digits h 0 15 refl in
    let low = top (row_of TimAsked) digits h 16 15 refl in
    tt also tt also tt also tt also tt
    also high_back _ _ high low also low_back _ _ high low
    also tt also tt also tt also tt

difference_same : (sign : ℕ) (minus : Bool) (digits : List ℕ) → Held (difference_row sign) digits → number digits 4 ≤ 59
    → AllSame (difference_digits (signed minus (minutes_in digits))) digits (difference_row sign)
difference_same sign minus digits h spelled =
    let row = difference_row sign in
    let hours = hours_back minus (number digits 2) (number digits 4) spelled in
    let minutes = minutes_back minus (number digits 2) (number digits 4) spelled in
    tt also tt also tt also tt also tt also tt
    also ap (λ n. n / 10) hours ∙ tens row digits h 2 refl refl
    also ap (λ n. n % 10) hours ∙ ones row digits h 2 refl refl
    also tt
    also ap (λ n. n / 10) minutes ∙ tens row digits h 4 refl refl
    also ap (λ n. n % 10) minutes ∙ ones row digits h 4 refl refl
    also tt also tt also tt also tt

position_same : (a b : ℕ) (east_west : EastWest) (north_south : NorthSouth) (digits : List ℕ) → Held (position_row a b) digits
    → AllSame (position_digits (position_in east_west north_south digits)) digits (position_row a b)
position_same a b east_west north_south digits h =
    let row = position_row a b in
    let hundreds = top row digits h 0 9 refl in
    let decades = top row digits h 1 9 refl in
    let units = top row digits h 2 9 refl in
    let degrees : number digits 7 / 10 % 10 ≡ number digits 7 / 10 = omega (arith, whole row digits h 7 refl refl) in
    tt also tt also tt also tt also tt also tt also tt
    also first_of_three _ _ _ hundreds decades units also second_of_three _ _ _ hundreds decades units also third_of_three _ _ _ hundreds decades units
    also tt also tens row digits h 3 refl refl also ones row digits h 3 refl refl
    also tt also tens row digits h 5 refl refl also ones row digits h 5 refl refl
    also tt also tt also tt
    also degrees ∙ tens row digits h 7 refl refl also ones row digits h 7 refl refl
    also tt also tens row digits h 9 refl refl also ones row digits h 9 refl refl
    also tt also tens row digits h 11 refl refl also ones row digits h 11 refl refl
    also tt also tt also tt also tt

plus_minutes : (digits : List ℕ) → spelled_well DifPlus digits ≡ true → number digits 4 ≤ 59
unfolding spelled_well
plus_minutes digits e = leb-true (number digits 4) 59 e

minus_minutes : (digits : List ℕ) → spelled_well DifMinus digits ≡ true → (number digits 4 ≤ 59) × (0 < minutes_in digits)
unfolding spelled_well
minus_minutes digits e = let parts = both (leb (number digits 4) 59) (ltb 0 (minutes_in digits)) e in (leb-true (number digits 4) 59 parts.0, ltb-true 0 (minutes_in digits) parts.1)

pub own_form_law : (form : Form) (digits : List ℕ) → spelled_well form digits ≡ true → own_form (command_in form digits) ≡ form
own_form_law Tim digits spelled = refl
own_form_law TimAsked digits spelled = refl
own_form_law DifPlus digits spelled = refl
own_form_law DifMinus digits spelled =
    let some = (minus_minutes digits spelled).1 in
    ap (λ t. cond t DifMinus DifPlus) (minus_signed (minutes_in digits) (λ none. absurd (omega arith)))
own_form_law DifAsked digits spelled = refl
own_form_law PosWestNorth digits spelled = refl
own_form_law PosWestSouth digits spelled = refl
own_form_law PosEastNorth digits spelled = refl
own_form_law PosEastSouth digits spelled = refl
own_form_law PosAsked digits spelled = refl

all_same : (form : Form) (digits : List ℕ) → Held (row_of form) digits → spelled_well form digits ≡ true
    → AllSame (digits_out (command_in form digits)) digits (row_of form)
unfolding row_of inner_row
all_same Tim digits h spelled = tim_same digits h
all_same TimAsked digits h spelled = asked_same digits h
all_same DifPlus digits h spelled = difference_same plus false digits h (plus_minutes digits spelled)
all_same DifMinus digits h spelled = difference_same minus true digits h (minus_minutes digits spelled).0
all_same DifAsked digits h spelled = omega arith
all_same PosWestNorth digits h spelled = position_same 0x57 0x4E West North digits h
all_same PosWestSouth digits h spelled = position_same 0x57 0x53 West South digits h
all_same PosEastNorth digits h spelled = position_same 0x45 0x4E East North digits h
all_same PosEastSouth digits h spelled = position_same 0x45 0x53 East South digits h
all_same PosAsked digits h spelled = omega arith

pub bytes_back : (form : Form) (digits : List ℕ) → Held (row_of form) digits → spelled_well form digits ≡ true
    → render (row_of form) (digits_out (command_in form digits)) ≡ render (row_of form) digits
bytes_back form digits h spelled = same_bytes (row_of form) (digits_out (command_in form digits)) digits (all_same form digits h spelled)
