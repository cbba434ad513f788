-- The characters of any reply that is read are those of the printed table. Assumes nothing.
use mathlib.Core.Path.{◌≡◌, refl, ap, ap₂, sym, ◌∙◌}
use mathlib.Core.Bool.{true, or-false}
use mathlib.Core.List.{List, [], ◌∷◌}
use Prim.Native.Nat.{ℕ, ◌+◌, ◌/◌, ◌%◌, ◌≤◌}
use native.Mathlib.Omega.{arith}
use borrow.Author.Tests.{le-leb}
use Rattle.refusals.specs.Refusals.{done}
use Rattle.refusals.proofs.Tables.{◌also◌}
use Rattle.places_rules.specs.Places.{code_character, render}
use Rattle.places_rules.proofs.Characters.{low_character, code_back}
use Rattle.leitch_rules.specs.declared.Reply.{Reply}
use Rattle.leitch_rules.specs.Row.{reply_row}
use Rattle.leitch_rules.specs.Rule.{status_listed}
use Rattle.leitch_rules.specs.Reading.{reply_of}
use Rattle.leitch_rules.specs.Writing.{reply_bytes}
use Rattle.leitch_rules.specs.AsPrinted.{printed, as_printed, listed_in, EachListed, EveryReplyIsAsPrinted}
use Rattle.leitch_rules.proofs.RuleLaws.{Good, good, time_good, date_good, day_of_month, weekday_1_to_7}
use Rattle.leitch_rules.proofs.Carried.{four_bits, listed_fits}
use Rattle.leitch_rules.proofs.BackAndForth.{days_of_a_year, Accepted, accepted}

-- a digit's character
shown : (n : ℕ) → n ≤ 9 → code_character (n % 16) ≡ 0x30 + n
shown n small = ap code_character (four_bits n (omega arith)) ∙ low_character n (omega arith) ∙ omega arith

module _ (n : ℕ) where
  unit_shown : code_character (n % 10 % 16) ≡ 0x30 + n % 10
  unit_shown = shown (n % 10) (omega arith)

  tens_shown : n ≤ 99 → code_character (n / 10 % 16) ≡ 0x30 + n / 10 % 10
  tens_shown small = shown (n / 10) (omega arith) ∙ omega arith

  -- the last two digits of a year
  year_tens_shown : n ≤ 2079 → code_character (n % 100 / 10 % 16) ≡ 0x30 + n / 10 % 10
  year_tens_shown small = shown (n % 100 / 10) (omega arith) ∙ omega arith

  year_unit_shown : code_character (n % 100 % 10 % 16) ≡ 0x30 + n % 10
  year_unit_shown = shown (n % 100 % 10) (omega arith) ∙ omega arith

  -- three digits
  hundreds_of_three_shown : n ≤ 999 → code_character (n % 1000 / 100 % 16) ≡ 0x30 + n / 100 % 10
  hundreds_of_three_shown small = let whole : n % 1000 ≡ n = omega arith in rw whole (shown (n / 100) (omega arith) ∙ omega arith)

  tens_of_three_shown : n ≤ 999 → code_character (n % 1000 / 10 % 10 % 16) ≡ 0x30 + n / 10 % 10
  tens_of_three_shown small = let whole : n % 1000 ≡ n = omega arith in rw whole (shown (n / 10 % 10) (omega arith))

  unit_of_three_shown : n ≤ 999 → code_character (n % 1000 % 10 % 16) ≡ 0x30 + n % 10
  unit_of_three_shown small = let whole : n % 1000 ≡ n = omega arith in rw whole (shown (n % 10) (omega arith))

infixr 5 ◌then◌
◌then◌ : {a b : ℕ} {as' bs' : List ℕ} → a ≡ b → as' ≡ bs' → (a ∷ as') ≡ (b ∷ bs')
◌then◌ e es = ap₂ ◌∷◌ e es

-- a digit's character is one of the digits up to the largest that the table lists
up_to : (n top : ℕ) → n ≤ top → listed_in ((0x30, 0x30 + top) ∷ []) (0x30 + n) ≡ true
up_to n top small = simp (le-leb 0x30 (0x30 + n) (omega arith), le-leb (0x30 + n) (0x30 + top) (omega arith))

digit : (n : ℕ) → listed_in ((0x30, 0x39) ∷ []) (0x30 + n % 10) ≡ true
digit n = up_to (n % 10) 9 (omega arith)

module _ (reply : Reply) (g : Good reply) (days : reply.day_of_year ≤ 366) where
  spelled : reply_bytes reply ≡ as_printed reply
  unfolding reply_bytes render reply_row
  spelled =
      let t = reply.time in
      let d = reply.date in
      let ms = reply.millisecond in
      let n = reply.day_of_year in
      tens_shown t.hour (omega (arith, time_good reply g)) then unit_shown t.hour then refl
      then tens_shown t.minute (omega (arith, time_good reply g)) then unit_shown t.minute then refl
      then tens_shown t.second (omega (arith, time_good reply g)) then unit_shown t.second then refl
      then hundreds_of_three_shown ms g.millisecond_small then tens_of_three_shown ms g.millisecond_small then unit_of_three_shown ms g.millisecond_small then refl
      then tens_shown d.day (omega (arith, day_of_month reply g)) then unit_shown d.day then refl
      then tens_shown d.month (omega (arith, date_good reply g)) then unit_shown d.month then refl
      then year_tens_shown d.year (date_good reply g).to_year then year_unit_shown d.year then refl
      then hundreds_of_three_shown n (omega arith) then tens_of_three_shown n (omega arith) then unit_of_three_shown n (omega arith) then refl
      then shown reply.weekday (omega (arith, weekday_1_to_7 reply g)) then refl
      then code_back reply.status (listed_fits reply.status g.status_listed_law)
      then refl then refl then refl

  weekday_listed_law : listed_in ((0x31, 0x37) ∷ []) (0x30 + reply.weekday) ≡ true
  weekday_listed_law =
      simp (le-leb 0x31 (0x30 + reply.weekday) (omega (arith, weekday_1_to_7 reply g)), le-leb (0x30 + reply.weekday) 0x37 (omega (arith, weekday_1_to_7 reply g)))

  all_listed : EachListed printed (as_printed reply)
  unfolding status_listed
  all_listed =
      let t = reply.time in
      let d = reply.date in
      let ms = reply.millisecond in
      let n = reply.day_of_year in
      up_to (t.hour / 10 % 10) 2 (omega (arith, time_good reply g)) also digit t.hour also refl
      also up_to (t.minute / 10 % 10) 5 (omega (arith, time_good reply g)) also digit t.minute also refl
      also up_to (t.second / 10 % 10) 5 (omega (arith, time_good reply g)) also digit t.second also refl
      also digit (ms / 100) also digit (ms / 10) also digit ms also refl
      also up_to (d.day / 10 % 10) 3 (omega (arith, day_of_month reply g)) also digit d.day also refl
      also up_to (d.month / 10 % 10) 1 (omega (arith, date_good reply g)) also digit d.month also refl
      also digit (d.year / 10) also digit d.year also refl
      also up_to (n / 100 % 10) 3 (omega (arith, days)) also digit (n / 10) also digit n also refl
      also weekday_listed_law also refl
      also rw or-false g.status_listed_law
      also refl also refl also tt

module _ (bytes : List ℕ) (told : Reply) (e : reply_of bytes ≡ done told) where
  read_well : Accepted bytes told
  read_well = accepted bytes told e

  days : told.day_of_year ≤ 366
  days = days_of_a_year told read_well.fields read_well.day

  says : bytes ≡ as_printed told
  says = sym read_well.is_written ∙ spelled told (good told read_well.fields) days

  listed : EachListed printed bytes
  listed = rw says (all_listed told (good told read_well.fields) days)

pub every_as_printed : EveryReplyIsAsPrinted
every_as_printed bytes told e = (says bytes told e, listed bytes told e)
