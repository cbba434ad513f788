-- Bytes are laid so, and parts stand so, computed from the definitions. Assumes nothing.
use mathlib.Core.Path.{refl}
use Rattle.refusals.specs.Refusals.{unless}
use Rattle.lent_buffer.specs.Laying.{within, laid}
use Rattle.lent_buffer.specs.OneBehindAnother.{one_behind_another}
use Rattle.lent_buffer.specs.InNumbers.{BytesAreLaidSo, PartsStandSo}

pub laid_so : BytesAreLaidSo
unfolding unless within laid
laid_so = (refl, refl, refl, refl)

pub stand_so : PartsStandSo
unfolding unless within one_behind_another
stand_so = (refl, refl, refl, refl)
