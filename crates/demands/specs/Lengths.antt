-- Document 01, "The seven layouts": the table's column of lengths.
use Rattle.std.specs.Prelude.{Bool, cond, List, [], ◌∷◌, ℕ, ◌-◌}
use Rattle.record_rules.specs.declared.DatedLayout.TheVariants.{L6021, L2000, L5500, L5050}
use Rattle.record_rules.specs.declared.TimeLayout.TheVariants.{T6021, T5500, T5050}
use Rattle.layouts_rules.specs.declared.Layout.{Layout}
use Rattle.layouts_rules.specs.declared.Layout.TheVariants as layouts

abbrev pub seven_layouts : List Layout
seven_layouts = layouts.Dated L6021 ∷ layouts.TimeOnly T6021 ∷ layouts.Dated L2000 ∷ layouts.Dated L5500 ∷ layouts.TimeOnly T5500 ∷ layouts.Dated L5050 ∷ layouts.TimeOnly T5050 ∷ []

-- "lengths include STX and ETX"
abbrev pub length_in : Layout → ℕ
length_in (layouts.Dated L6021) = 18
length_in (layouts.TimeOnly T6021) = 10
length_in (layouts.Dated L2000) = 20
length_in (layouts.Dated L5500) = 21
length_in (layouts.TimeOnly T5500) = 10
length_in (layouts.Dated L5050) = 25
length_in (layouts.TimeOnly T5050) = 13

-- "without control characters both are missing and the length is two less"
abbrev pub length_of : Bool → Layout → ℕ
length_of control layout = cond control (length_in layout) (length_in layout - 2)
