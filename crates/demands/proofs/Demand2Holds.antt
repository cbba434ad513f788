-- Demand 2 holds. Assumes nothing.
use mathlib.Core.Path.{◌≡◌, refl, ap, ap₂, sym, ◌∙◌}
use mathlib.Core.Bool.{Bool, true, false, cond}
use mathlib.Core.List.{List}
use Prim.Native.Nat.{ℕ, zero, suc, ◌+◌, ◌%◌, ◌≤◌}
use native.Mathlib.Omega.{arith}
use lib.ListN.{length}
use Rattle.refusals.specs.Refusals.{done, refused, unless, after}
use Rattle.refusals.proofs.Laws.{does}
use Rattle.lent_buffer.specs.Laying.{within, laid_in}
use Rattle.lent_buffer.proofs.LayingLaws.{within_fits, within_done, within_refused}
use Rattle.places_rules.specs.Places.{render}
use Rattle.calendar_rules.specs.TimeOfDay.{seconds_of, time_after, is_last_second}
use Rattle.calendar_rules.proofs.Times as times
use Rattle.calendar_rules.proofs.Times.{Follows, seconds_within, time_after_law}
use Rattle.record_rules.specs.declared.Record.{Record}
use Rattle.record_rules.specs.Sixty.{is_sixty, up_to59}
use Rattle.record_rules.specs.Rule.{refusal_of}
use Rattle.record_rules.specs.Next.{next_second_of}
use Rattle.record_rules.proofs.RuleLaws.{alone_up_to_59}
use Rattle.record_rules.proofs.NextLaws.{next_no_sixty}
use Rattle.record_rules.proofs.UtcLaws.{sixty_second, plain_time}
use Rattle.record_rules.proofs.FollowingLaws.{next_is_later}
use Rattle.clock.proofs.RunLaws.{step_makes_no_sixty}
use Rattle.trailer_rules.specs.declared.Order.{Order}
use Rattle.telegram_rules.specs.declared.write.Choice.{Choice}
use Rattle.telegram_rules.specs.declared.write.Choice.TheVariants.{Unnamed}
use Rattle.telegram_rules.specs.Reading.{read_in}
use Rattle.telegram_rules.specs.Writing.{body_bytes, telegram_in, as6021, record_to_write, telegram_for, written}
use Rattle.telegram_rules.proofs.WriteLaws.{telegram_made, was_made}
use Rattle.telegram_rules.proofs.InOrder.{reads_back_law, accepted}
use Rattle.telegram_rules.proofs.ReadsBack.{write_reads_back}
use Rattle.demands.specs.Demand2.{Good, plain, advanced, ATelegramIsItsRow, ATelegramHasTheTablesLength, WrittenByTheTables, ReadByTheTables}
use Rattle.demands.specs.Demand2.{TheReaderAcceptsExactlyWhatTheWriterCanMake, WhatIsWrittenReadsBack, WhatIsWrittenWithoutASettingReadsBack}
use Rattle.demands.specs.Demand2.{WrittenWithAdvanceItReadsBackAsTheNextSecond, TheNextSecondIsOneLater, TheNextSecondOfADayIsOneLater, NeitherMakesASixty}
use Rattle.demands.proofs.TableLengths.{telegram_length}

pub demand_2_is_its_row : ATelegramIsItsRow
unfolding body_bytes render
demand_2_is_its_row order rec = (refl, refl)

pub demand_2_lengths : ATelegramHasTheTablesLength
demand_2_lengths order control rec = telegram_length order control rec

written_so : (order : Order) (control : Bool) (rec : Record) (n : ℕ) → Good rec → length (telegram_in order control rec) ≤ n
    → written (plain order control) rec n ≡ done (telegram_in order control rec)
written_so order control rec n good fits =
    ap (within n) (telegram_made (plain order control) rec order control rec (does rec good) refl refl) ∙ within_fits n (telegram_in order control rec) fits

pub demand_2_written_by_the_tables : WrittenByTheTables
demand_2_written_by_the_tables order control rec buffer good fits =
    let so = written_so order control rec (length buffer) good fits in (so, ap (λ w. laid_in w buffer) so)

pub demand_2_read_by_the_tables : ReadByTheTables
demand_2_read_by_the_tables order control bytes rec = (
  λ read. let made = accepted order control bytes rec read in (made.is_good_law, made.is_written),
  λ fits. ap (read_in order control) (sym fits.1) ∙ reads_back_law order control rec fits.0,
)

-- what is written was asked for: the record that the choice names is not refused
was_asked : (choice : Choice) (rec : Record) (room : ℕ) (bytes : List ℕ) → written choice rec room ≡ done bytes
    → (same : Record) × (record_to_write choice rec ≡ done same)
was_asked choice rec room bytes e =
    let made = was_made choice rec bytes (within_done room (telegram_for choice rec) bytes e).0 in (made.0, made.1)

pub demand_2_accepts_exactly : TheReaderAcceptsExactlyWhatTheWriterCanMake
demand_2_accepts_exactly order control bytes = (
  λ read.
      let made = accepted order control bytes read.0 read.1 in (
        plain order control,
        read.0,
        length (telegram_in order control read.0),
        refl,
        refl,
        written_so order control read.0 _ made.is_good_law (omega arith) ∙ ap done made.is_written,
      ),
  λ made.
      let asked = was_asked made.0 made.1 made.2 bytes made.5 in
      (asked.0, ap₂ (λ o c. read_in o c bytes) (sym made.3) (sym made.4) ∙ write_reads_back made.0 made.1 made.2 bytes made.5 ∙ asked.1),
)

-- a record that is judged good is the record itself
judged_itself : (n : ℕ) (rec same : Record) → unless n rec ≡ done same → unless n rec ≡ done rec
unfolding unless
judged_itself zero rec same e = refl
judged_itself (suc n) rec same e = cc

pub demand_2_reads_back : WhatIsWrittenReadsBack
demand_2_reads_back order control rec room bytes e =
    let asked = was_asked (plain order control) rec room bytes e in
    write_reads_back (plain order control) rec room bytes e ∙ judged_itself (refusal_of rec) rec asked.0 asked.1

-- and a 6021 is made of the record itself
pub made_itself : (n : ℕ) (rec same : Record) → after (unless n rec) as6021 ≡ done same → after (unless n rec) as6021 ≡ as6021 rec
unfolding unless
made_itself zero rec same e = refl
made_itself (suc n) rec same e = cc

pub demand_2_unnamed_reads_back : WhatIsWrittenWithoutASettingReadsBack
demand_2_unnamed_reads_back rec room bytes e =
    let asked = was_asked Unnamed rec room bytes e in
    write_reads_back Unnamed rec room bytes e ∙ made_itself (refusal_of rec) rec asked.0 asked.1

pub demand_2_next_second : WrittenWithAdvanceItReadsBackAsTheNextSecond
demand_2_next_second order control rec room bytes e = write_reads_back (advanced order control) rec room bytes e

pub demand_2_one_later : TheNextSecondIsOneLater
demand_2_one_later = next_is_later

pub demand_2_one_later_in_a_day : TheNextSecondOfADayIsOneLater
unfolding next_second_of
demand_2_one_later_in_a_day layout time none =
    (time_after (up_to59 time), rw none (does _ refl), later (is_sixty time) refl (is_last_second (up_to59 time)) next)
  where
    g : times.Good (up_to59 time)
    g = times.good_range (up_to59 time) (alone_up_to_59 time none)

    next : Follows (up_to59 time) (time_after (up_to59 time)) (is_last_second (up_to59 time))
    next = time_after_law (up_to59 time) g

    -- up to 59, and then by the seconds that it goes on
    here : (sixty : Bool) → is_sixty time ≡ sixty → seconds_of (up_to59 time) + 1 ≡ seconds_of time + cond sixty 0 1
    here true sixty = let e = sixty_second time sixty in omega arith
    here false plain = ap (λ t. seconds_of t + 1) (plain_time time plain)

    later : (sixty : Bool) → is_sixty time ≡ sixty → (carry : Bool) → Follows (up_to59 time) (time_after (up_to59 time)) carry
        → seconds_of (time_after (up_to59 time)) ≡ (seconds_of time + cond sixty 0 1) % 86400
    later sixty is true f =
        rw (← here sixty is) (omega (arith, f.second, seconds_within (time_after (up_to59 time)) f.good, seconds_within (up_to59 time) g))
    later sixty is false f = rw (← here sixty is) (omega (arith, f.second, seconds_within (time_after (up_to59 time)) f.good))

-- where there is no next second, second advance writes nothing
pub second_refused_is_not_advanced : (order : Order) (control : Bool) (rec : Record) (room : ℕ) → next_second_of rec ≡ refused 12 → written (advanced order control) rec room ≡ refused 12
unfolding telegram_for
second_refused_is_not_advanced order control rec room e = rw e (within_refused room 12)

pub neither_makes_a_sixty : NeitherMakesASixty
neither_makes_a_sixty =
    ((λ order control rec same room bytes e read. next_no_sixty rec same (sym (demand_2_next_second order control rec room bytes e) ∙ read)), step_makes_no_sixty)
