-- Document 02 c), a block as it is described, in literal bytes: where each part of it stands, its check, and blocks that break one rule each.
use Rattle.std.specs.Prelude.{Bool, true, false, List, [], ◌∷◌, ◌++◌, map, ◌≡◌, ℕ, get_or, set, replicate}
use Rattle.refusals.specs.Refusals.{Outcome, done, refused}
use Rattle.ascii.specs.Ascii.{ascii}
use Rattle.log_rules.specs.declared.Place.{Place}
use Rattle.log_rules.specs.Verify.{AllGood, Bad, Refused, Verified, verify_of}
use Rattle.log_rules.specs.Check.{check_of}
use Rattle.log_rules.specs.Block.{block_of}
use Rattle.log_rules.specs.Good.{is_good}
use Rattle.log_rules.specs.Add.{place_at, place_for}
use Rattle.log_rules.specs.ReadBack.{read_back_of}

-- STX `E3123456170496` LF CR ETX, and STX `231458` CR LF ETX
abbrev pub delivery : List ℕ
delivery = 0x02 ∷ ascii "E3123456170496" ++ 0x0A ∷ 0x0D ∷ 0x03 ∷ []

abbrev pub stop : List ℕ
stop = 0x02 ∷ ascii "231458" ++ 0x0D ∷ 0x0A ∷ 0x03 ∷ []

-- a table of what is asked and what is answered
abbrev pub AnsweredBy : {A B : Type 0} → (A → B) → List (A × B) → Type 0
AnsweredBy answer rows = map (λ row. answer row.0) rows ≡ map (λ row. row.1) rows

-- the byte at a place
abbrev pub byte_of : List ℕ → ℕ → ℕ
byte_of block place = get_or block place 0

-- the block of these two: "15 slots of 32 bytes, each a length byte, the telegram .., zeros; unused ones all zero; byte 480 the number of
-- slots used ..; byte 481 zero; zeros to 509; the last two bytes, low first, a check"
abbrev pub two_telegrams : List (ℕ × ℕ)
two_telegrams =
    (0, 18) ∷ (1, 0x02) ∷ (2, 0x45) ∷ (15, 0x36) ∷ (16, 0x0A) ∷ (17, 0x0D) ∷ (18, 0x03) ∷ (19, 0) ∷ (31, 0)
    ∷ (32, 10) ∷ (33, 0x02) ∷ (34, 0x32) ∷ (39, 0x38) ∷ (40, 0x0D) ∷ (41, 0x0A) ∷ (42, 0x03) ∷ (43, 0) ∷ (63, 0)
    ∷ (64, 0) ∷ (448, 0) ∷ (479, 0)
    ∷ (480, 2) ∷ (481, 0) ∷ (509, 0)
    ∷ (510, 0x77) ∷ (511, 0x54) ∷ []

-- a full block: its slots at 0, 32, 64 .. 448
abbrev pub full_block : List ℕ
full_block =
    block_of
    (stop ∷ stop ∷ stop ∷ stop ∷ stop ∷ stop ∷ stop ∷ stop ∷ stop ∷ stop ∷ stop ∷ stop ∷ stop ∷ stop ∷ delivery ∷ [])

abbrev pub fifteen_telegrams : List (ℕ × ℕ)
fifteen_telegrams =
    (0, 10) ∷ (32, 10) ∷ (64, 10) ∷ (96, 10) ∷ (128, 10) ∷ (160, 10) ∷ (192, 10) ∷ (224, 10) ∷ (256, 10) ∷ (288, 10) ∷ (320, 10) ∷ (352, 10)
    ∷ (384, 10) ∷ (416, 10) ∷ (448, 18) ∷ (466, 0x03) ∷ (467, 0) ∷ (479, 0) ∷ (480, 15) ∷ (510, 0x21) ∷ (511, 0x90) ∷ []

-- "the sum of each .. times its place counted from 1, modulo 65,521": one byte at the first places; a sum that is 65,521; 510 bytes of 255
abbrev pub checks : List (List ℕ × ℕ)
checks =
    ([], 0) ∷ (1 ∷ [], 1) ∷ (0 ∷ 1 ∷ [], 2) ∷ (0 ∷ 0 ∷ 255 ∷ [], 765)
    ∷ (240 ∷ replicate 254 0 ++ 255 ∷ [], 65520) ∷ (241 ∷ replicate 254 0 ++ 255 ∷ [], 0) ∷ (242 ∷ replicate 254 0 ++ 255 ∷ [], 1)
    ∷ (replicate 510 255, 8628) ∷ []

-- a zeroed block with other bytes at some places: good or bad
abbrev pub changed : List (ℕ × ℕ) → List ℕ
changed [] = replicate 512 0
changed (row ∷ rows) = set (changed rows) row.0 row.1

-- zeros are good; the residue plus 65,521 is bad; and with a check that fits: a count with no telegram, a count of 16, a byte in an unused
-- slot, behind the count, before the check
abbrev pub zeroed_and_changed : List (List (ℕ × ℕ) × Bool)
zeroed_and_changed =
    ([], true)
    ∷ ((510, 0xF1) ∷ (511, 0xFF) ∷ [], false)
    ∷ ((480, 1) ∷ (510, 0xE1) ∷ (511, 0x01) ∷ [], false)
    ∷ ((480, 16) ∷ (510, 0x10) ∷ (511, 0x1E) ∷ [], false)
    ∷ ((0, 1) ∷ (510, 1) ∷ [], false)
    ∷ ((481, 1) ∷ (510, 0xE2) ∷ (511, 0x01) ∷ [], false)
    ∷ ((509, 1) ∷ (510, 0xFE) ∷ (511, 0x01) ∷ [], false)
    ∷ []

-- where an add goes, by the region: not into the gap of an empty block before a used one; behind a bad block, where the one before it is full
-- or there is none;
-- "21 no such free slot for an add (a region of no blocks included)"; "19 region not whole blocks"
abbrev pub places : List (List ℕ × Outcome Place)
places =
    (block_of [] ++ block_of [], done (place_at 0 0))
    ∷ (block_of [] ++ block_of (stop ∷ []), done (place_at 1 1))
    ∷ (block_of (stop ∷ []) ++ block_of [], done (place_at 0 1))
    ∷ (full_block ++ block_of [], done (place_at 1 0))
    ∷ (replicate 512 1 ++ block_of [], done (place_at 1 0))
    ∷ (full_block ++ replicate 512 1 ++ block_of [], done (place_at 2 0))
    ∷ (block_of [] ++ full_block, refused 21)
    ∷ ([], refused 21)
    ∷ (0 ∷ [], refused 19)
    ∷ []

-- an empty block, a bad one, and one with two telegrams
abbrev pub three_blocks : List ℕ
three_blocks = block_of [] ++ replicate 512 1 ++ block_of (delivery ∷ stop ∷ [])

-- "read back of a telegram's bytes by block and slot (both from 0)": slot 0 of each block, and each kind of slot of the last
abbrev pub by_block : List (ℕ × Outcome (List ℕ))
by_block = (0, refused 27) ∷ (1, refused 20) ∷ (2, done delivery) ∷ (3, refused 27) ∷ []

abbrev pub by_slot : List (ℕ × Outcome (List ℕ))
by_slot = (0, done delivery) ∷ (1, done stop) ∷ (2, refused 27) ∷ (14, refused 27) ∷ (15, refused 27) ∷ []

-- "verify, which names the first bad block"
abbrev pub verified : List (List ℕ × Verified)
verified = ([], AllGood) ∷ (block_of [] ++ full_block, AllGood) ∷ (three_blocks, Bad 20 1) ∷ (0 ∷ [], Refused 19) ∷ []

pub record TheLogIsAsPrinted : Type 0 where
  pub two : AnsweredBy (byte_of (block_of (delivery ∷ stop ∷ []))) two_telegrams
  pub fifteen : AnsweredBy (byte_of full_block) fifteen_telegrams
  pub check : AnsweredBy check_of checks
  pub judged : AnsweredBy (λ bytes. is_good (changed bytes)) zeroed_and_changed
  pub placed : AnsweredBy (λ region. place_for region delivery) places
  -- "an added telegram's own" refusal, "then 19"
  pub own : place_for (0 ∷ []) (0 ∷ []) ≡ refused 1
  pub read_by_block : AnsweredBy (λ block. read_back_of three_blocks block 0) by_block
  pub read_by_slot : AnsweredBy (read_back_of three_blocks 2) by_slot
  pub verifies : AnsweredBy verify_of verified
