-- What reading back hands out: a telegram's bytes and where they stand, or the paper's number.
use Rattle.std.specs.Prelude.{List, [], ℕ, ◌+◌, ◌*◌, Result, Ok, Err}
use Rattle.std.specs.Borrow.{Bor}
use Rattle.refusals.specs.Refusals.{Outcome, done, refused}
use Rattle.log_rules.specs.Block.{slot_size, block_size}
use Rattle.refusals.specs.declared.Refusal.{Refusal}
use Rattle.refusals.specs.Numbers.{number}

-- the byte of the region where the telegram of a slot begins: behind the slot's length byte
abbrev pub telegram_place : ℕ → ℕ → ℕ
telegram_place block slot = block_size * block + slot_size * slot + 1

-- the number that reading back gives: 0 where it gives a telegram
abbrev pub number_of : Outcome (List ℕ) → ℕ
number_of (done bytes) = 0
number_of (refused number) = number

-- the bytes that it gives: none where it refuses
abbrev pub bytes_of : Outcome (List ℕ) → List ℕ
bytes_of (done bytes) = bytes
bytes_of (refused number) = []

-- the byte of the region at a place, as memory has it: what begins there is no copy
abbrev pub byte_at : Bor (List ℕ) → ℕ → ℕ × ℕ
byte_at region place = (region.ref_ptr.0, region.ref_ptr.1 + place)

-- what is handed out of the region: a telegram's bytes with where they begin, or what refuses it
abbrev pub lent_at : Bor (List ℕ) → ℕ → Outcome (List ℕ) → Outcome (List ℕ × (ℕ × ℕ))
lent_at region place (done bytes) = done (bytes, byte_at region place)
lent_at region place (refused number) = refused number

-- what the code hands out
abbrev pub lent_as : Result (Bor (List ℕ)) Refusal → Outcome (List ℕ × (ℕ × ℕ))
lent_as (Ok part) = done (part.now, part.ref_ptr)
lent_as (Err refusal) = refused (number refusal)
