-- Document 02, c, holds. Assumes nothing.
use mathlib.Core.Path.{◌∙◌, refl}
use Rattle.log_rules.specs.Add.{add_of}
use Rattle.log_rules.proofs.BlockHolds.{a_good_block_is_made_by_its_telegrams, a_good_block_has_512_bytes, a_zeroed_block_is_good_and_empty}
use Rattle.log_rules.proofs.CheckLaws.{noticed, the_sum_fits, one_reduction_is_enough}
use Rattle.log_rules.proofs.PlaceHolds.{verify_names_the_first_bad_block, no_blocks_are_good_and_full, an_add_goes_behind_the_last_used, that_place_is_taken, no_such_place_is_refused}
use Rattle.log_rules.proofs.AddLaws.{reads_place}
use Rattle.log_rules.proofs.AddHolds.{what_is_added_is_read_back, what_was_read_back_still_is, good_blocks_stay_good, no_other_byte_changes, a_refused_add_leaves_the_region, a_block_spoils_no_other}
use Rattle.delivery_log.proofs.HandOutLaws.{zero_tells}
use Rattle.log_rules.proofs.FillHolds.{adds_fill_zeroed_blocks_in_order}
use Rattle.demands.specs.TheLog.{AnAddedTelegramIsReadBack, AnAddTakesTheFreeSlot, TheFirstBadBlockIsNamed, TheLogIsAsAskedFor}

pub an_added_telegram_is_read_back : AnAddedTelegramIsReadBack
unfolding add_of
an_added_telegram_is_read_back = what_is_added_is_read_back

pub an_add_takes_the_free_slot : AnAddTakesTheFreeSlot
unfolding add_of
an_add_takes_the_free_slot region telegram place reads whole free = reads_place region telegram reads ∙ that_place_is_taken region place whole free

pub the_first_bad_block_is_named : TheFirstBadBlockIsNamed
the_first_bad_block_is_named region whole =
    ((verify_names_the_first_bad_block region).1 whole, (verify_names_the_first_bad_block region).2 whole)

pub the_log : TheLogIsAsAskedFor
the_log = (
  a_good_block_is_made_by_its_telegrams,
  a_good_block_has_512_bytes,
  a_zeroed_block_is_good_and_empty,
  the_sum_fits,
  one_reduction_is_enough,
  what_is_added_is_read_back,
  zero_tells,
  what_was_read_back_still_is,
  good_blocks_stay_good,
  no_other_byte_changes,
  verify_names_the_first_bad_block,
  (refl, λ block. refl),
  an_add_goes_behind_the_last_used,
  that_place_is_taken,
  adds_fill_zeroed_blocks_in_order,
  noticed,
  a_block_spoils_no_other,
  no_such_place_is_refused,
  no_blocks_are_good_and_full,
  a_refused_add_leaves_the_region,
)
