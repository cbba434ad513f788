-- Document 01, "Refusal numbers": "telegrams written one behind another each go into the room after the last", call by call.
use Rattle.std.specs.Prelude.{ℕ, ◌+◌, ◌-◌, ◌%◌, ◌^◌, List, [], ◌∷◌, ◌++◌, length, take, drop}
use Rattle.refusals.specs.Refusals.{done}
use Rattle.lent_buffer.specs.Endings.{Ending, Whole, Refused, ending_numbered}
use Rattle.lent_buffer.specs.Laying.{laid_in}
use Rattle.lent_buffer.specs.OneBehindAnother.{Standing, joined}
use Rattle.record_rules.specs.declared.Record.{Record}
use Rattle.telegram_rules.specs.declared.write.Choice.{Choice}
use Rattle.telegram.specs.declared.several.Several as code
use Rattle.telegram_rules.specs.Writing.{telegrams_in}

-- how several stand: how many, how many bytes they take, and how it ended
pub record Several : Type 0 where
  pub count : ℕ
  pub used : ℕ
  pub ending : Ending

-- what the code hands out
abbrev pub several_as : code.Several → Several
several_as several = record { count = several.count; used = several.used; ending = ending_numbered several.ending }

-- nothing written yet
abbrev pub none_yet : Several
none_yet = record { count = 0; used = 0; ending = Whole }

-- more behind those that stand, and the buffer: how many stand, where the count runs free, how many bytes they take, and how it ended
abbrev pub with_more : Several → List ℕ → Standing (List Record) → Several × List ℕ
with_more several buffer more = (
  record {
    count = (several.count + length more.parts) % 2 ^ 64;
    used = several.used + length (joined more.parts);
    ending = more.ending;
  },
  take several.used buffer ++ laid_in (done (joined more.parts)) (drop several.used buffer),
)

-- once a refusal ended it, nothing changes
abbrev pub unless_ended : {A : Type 0} → Ending → A → A → A
unless_ended Whole more same = more
unless_ended (Refused number) more same = same

-- a list of records, written into the room after the last
unfoldable pub several_after : Choice → Several → List Record → List ℕ → Several × List ℕ
several_after choice several recs buffer =
    unless_ended several.ending (with_more several buffer (telegrams_in choice (length buffer - several.used) recs)) (several, buffer)

-- the same by one call for each record
abbrev pub several_all : Choice → List Record → Several → List ℕ → Several × List ℕ
several_all choice [] several buffer = (several, buffer)
several_all choice (rec ∷ recs) several buffer =
    several_all choice recs (several_after choice several (rec ∷ []) buffer).0 (several_after choice several (rec ∷ []) buffer).1
