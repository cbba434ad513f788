-- What document 02 c) says of a block holds. Assumes nothing.
use mathlib.Core.Path.{ap, ◌∙◌}
use mathlib.Core.List.{[]}
use Rattle.log_rules.specs.Good.{telegrams_of, is_good}
use Rattle.log_rules.specs.OfABlock.{AGoodBlockIsMadeByItsTelegrams, AGoodBlockHas512Bytes, AZeroedBlockIsGoodAndEmpty}
use Rattle.log_rules.proofs.BlockLaws.{none_kept, made_telegrams, made_good, good_kept, good_made, good_length, zeroed_made}

pub a_good_block_is_made_by_its_telegrams : AGoodBlockIsMadeByItsTelegrams
a_good_block_is_made_by_its_telegrams = (
  λ block good. record { kept = good_kept block good; made = good_made block good },
  λ block telegrams by. (
    ap is_good by.made ∙ made_good telegrams by.kept,
    ap telegrams_of by.made ∙ made_telegrams telegrams by.kept,
  ),
)

pub a_good_block_has_512_bytes : AGoodBlockHas512Bytes
a_good_block_has_512_bytes = good_length

pub a_zeroed_block_is_good_and_empty : AZeroedBlockIsGoodAndEmpty
a_zeroed_block_is_good_and_empty =
    (ap is_good zeroed_made ∙ made_good [] none_kept, ap telegrams_of zeroed_made ∙ made_telegrams [] none_kept)
