-- The refusals have the numbers that the documents print. Assumes nothing.
use mathlib.Core.Path.{refl}
use Rattle.refusals.specs.NumbersAsPrinted.{TheNumbersAreAsPrinted}
use Rattle.refusals.proofs.Tables.{◌also◌}

pub as_printed_law : TheNumbersAreAsPrinted
as_printed_law =
    refl also refl also refl also refl also refl also refl also refl also refl also refl also refl also refl also refl also refl also refl also refl also refl
    also refl also refl also refl also refl also refl also refl also refl also tt
