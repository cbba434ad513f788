-- Laws of the rows: none is longer than the longest. Assumes nothing.
use mathlib.Core.Path.{◌≡◌, refl, ap, sym, ◌∙◌}
use mathlib.Core.Bool.{Bool, true, false, cond}
use mathlib.Core.List.{List, []}
use Prim.Native.Nat.{ℕ, ◌^◌, ◌≤◌, ◌<◌}
use native.Mathlib.Omega.{arith}
use lib.Dec.{lit≤}
use lib.ListN.{length, length-append}
use Rattle.refusals.specs.Refusals.{done, refused, unless}
use Rattle.refusals.proofs.Laws.{refuses, does}
use Rattle.lent_buffer.specs.Laying.{laid}
use Rattle.lent_buffer.proofs.LayingLaws.{laid_refused}
use Rattle.calendar_rules.specs.declared.date.Date.{Date}
use Rattle.calendar_rules.specs.declared.time.Time.{Time}
use Rattle.record_rules.specs.declared.DatedLayout.{DatedLayout}
use Rattle.record_rules.specs.declared.DatedLayout.TheVariants.{L6021, L2000, L5500, L5050}
use Rattle.record_rules.specs.declared.TimeLayout.{TimeLayout}
use Rattle.record_rules.specs.declared.TimeLayout.TheVariants.{T6021, T5500, T5050}
use Rattle.record_rules.specs.declared.Reception.{Reception}
use Rattle.record_rules.specs.declared.Reception.TheVariants.{Invalid, Crystal, Radio, High}
use Rattle.record_rules.specs.declared.Status.{Status}
use Rattle.record_rules.specs.declared.Record.{Record}
use Rattle.record_rules.specs.declared.Record.TheVariants.{Dated, TimeOnly}
use Rattle.record_rules.specs.Rule.{refusal_of}
use Rattle.ascii.specs.Ascii.{ascii}
use Rattle.listing_rules.specs.Decimals.{decimal}
use Rattle.listing_rules.specs.Listing.{header_row, dated_kind, time_kind, reception_word, season_word, status_column, dated_columns}
use Rattle.listing_rules.specs.Listing.{time_only_columns, columns, record_row, refused_row, stray_row, longest_row}
use Rattle.listing_rules.proofs.DecimalLaws.{few_digits}

dated_kind_length : (layout : DatedLayout) → length (dated_kind layout) ≡ 4
dated_kind_length L6021 = refl
dated_kind_length L2000 = refl
dated_kind_length L5500 = refl
dated_kind_length L5050 = refl

time_kind_length : (layout : TimeLayout) → length (time_kind layout) ≡ 5
time_kind_length T6021 = refl
time_kind_length T5500 = refl
time_kind_length T5050 = refl

reception_length : (reception : Reception) → length (reception_word reception) ≤ 7
reception_length Invalid = lit≤ tt
reception_length Crystal = lit≤ tt
reception_length Radio = lit≤ tt
reception_length High = lit≤ tt

season_length : (daylight : Bool) → length (season_word daylight) ≡ 9
season_length true = refl
season_length false = refl

-- a word that may be missing
word_length_law : (wanted : Bool) (word : List ℕ) → length (cond wanted word []) ≤ length word
word_length_law true word = omega arith
word_length_law false word = omega arith

status_length : (status : Status) → length (status_column status) ≤ 30
unfolding status_column
status_length status =
    simp length-append
    (omega (arith, reception_length status.reception, season_length status.daylight, word_length_law status.utc (ascii ",utc"), word_length_law status.announced (ascii ",announced")))

-- a number of 64 bits has at most twenty digits, one of 32 bits ten, one of 8 bits three
pub wide_length : (n : ℕ) → n < 2 ^ 64 → length (decimal n) ≤ 20
wide_length n h = few_digits 19 n (omega arith)

count_length : (n : ℕ) → n < 2 ^ 32 → length (decimal n) ≤ 10
count_length n h = few_digits 9 n (omega arith)

pub number_length : (n : ℕ) → n < 2 ^ 8 → length (decimal n) ≤ 3
number_length n h = few_digits 2 n (omega arith)

dated_length : (layout : DatedLayout) (status : Status) (weekday : ℕ) (date : Date) (time : Time)
    → length (dated_columns layout status weekday date time) ≤ 58
unfolding dated_columns
dated_length layout status weekday date time = simp length-append (omega (arith, dated_kind_length layout, status_length status))

time_only_length : (layout : TimeLayout) (time : Time) → length (time_only_columns layout time) ≤ 58
unfolding time_only_columns
time_only_length layout time = simp length-append (omega (arith, time_kind_length layout))

-- the columns behind the place of a telegram
pub columns_length : (rec : Record) → length (columns rec) ≤ 58
columns_length (Dated layout status weekday date time) = dated_length layout status weekday date time
columns_length (TimeOnly layout time) = time_only_length layout time

pub header_short : length header_row ≤ longest_row
unfolding header_row
header_short = lit≤ tt

pub record_short : (start : ℕ) → start < 2 ^ 32 → (rec : Record) → length (record_row start rec) ≤ longest_row
unfolding record_row
record_short start counted rec = simp length-append (omega (arith, count_length start counted, columns_length rec))

pub refused_short : (start number : ℕ) → start < 2 ^ 64 → number < 2 ^ 8 → length (refused_row start number) ≤ longest_row
unfolding refused_row
refused_short start number wide small = simp length-append (omega (arith, wide_length start wide, number_length number small))

pub stray_short : (stray : ℕ) → stray < 2 ^ 32 → length (stray_row stray) ≤ longest_row
unfolding stray_row
stray_short stray counted = simp length-append (omega (arith, count_length stray counted))

-- a record that the rule refuses has no row
pub rule_refuses : (rec : Record) (row out : List ℕ) (n : ℕ) → n ≡ refusal_of rec → (n ≡ 0 → ⊥)
    → laid (unless (refusal_of rec) row) out ≡ (refused n, out)
rule_refuses rec row out n e some = ap (λ o. laid o out) (sym (refuses row e some)) ∙ laid_refused n out

-- and any other has its row
pub rule_passes : (rec : Record) (row : List ℕ) (n : ℕ) → n ≡ refusal_of rec → n ≡ 0 → unless (refusal_of rec) row ≡ done row
rule_passes rec row n e none = does row (sym e ∙ none)
