-- Document 01, "The seven layouts": the table of layouts, and how a layout is found.
use Rattle.std.specs.Prelude.{cond, ◌&&◌, List, [], ◌∷◌, ◌++◌, map, ℕ, eqb, length, get_or}
use Rattle.refusals.specs.Refusals.{Outcome, done, refused}
use Rattle.ascii.specs.Control as control
use Rattle.places_rules.specs.Places.{Place, fixed, decimal, code, place_number}
use Rattle.record_rules.specs.declared.DatedLayout.TheVariants.{L6021, L2000, L5500, L5050}
use Rattle.record_rules.specs.declared.TimeLayout.TheVariants.{T6021, T5500, T5050}
use Rattle.record_rules.specs.declared.Record.{Record}
use Rattle.record_rules.specs.declared.Record.TheVariants.{Dated, TimeOnly}
use Rattle.layouts_rules.specs.declared.Layout.{Layout}
use Rattle.layouts_rules.specs.declared.Layout.TheVariants as layouts

-- the pieces that the table's rows are made of; a digit's number is its slot
abbrev pub status : Place
status = code 0

abbrev pub weekday : Place
weekday = code 1

abbrev pub hh : List Place
hh = decimal 2 ∷ decimal 3 ∷ []

abbrev pub mm : List Place
mm = decimal 4 ∷ decimal 5 ∷ []

abbrev pub ss : List Place
ss = decimal 6 ∷ decimal 7 ∷ []

abbrev pub dd : List Place
dd = decimal 8 ∷ decimal 9 ∷ []

abbrev pub mo : List Place
mo = decimal 10 ∷ decimal 11 ∷ []

abbrev pub yy : List Place
yy = decimal 14 ∷ decimal 15 ∷ []

abbrev pub yyyy : List Place
yyyy = decimal 12 ∷ decimal 13 ∷ yy

abbrev pub space : Place
space = fixed 32

abbrev pub LF : Place
LF = fixed control.lf

abbrev pub CR : Place
CR = fixed control.cr

-- the table, "between STX and ETX"
unfoldable pub places_of : Layout → List Place
places_of (layouts.Dated L6021) = status ∷ weekday ∷ hh ++ mm ++ ss ++ dd ++ mo ++ yy ++ LF ∷ CR ∷ []
places_of (layouts.TimeOnly T6021) = hh ++ mm ++ ss ++ LF ∷ CR ∷ []
places_of (layouts.Dated L2000) = status ∷ weekday ∷ hh ++ mm ++ ss ++ dd ++ mo ++ yyyy ++ LF ∷ CR ∷ []
places_of (layouts.Dated L5500) = status ∷ space ∷ hh ++ mm ++ ss ++ space ∷ dd ++ mo ++ yy ++ space ∷ weekday ∷ CR ∷ LF ∷ []
places_of (layouts.TimeOnly T5500) = hh ++ mm ++ ss ++ CR ∷ LF ∷ []
places_of (layouts.Dated L5050) =
    hh ++ space ∷ mm ++ space ∷ ss ++ space ∷ dd ++ space ∷ mo ++ space ∷ yy ++ space ∷ status ∷ weekday ∷ space ∷ CR ∷ LF ∷ []
places_of (layouts.TimeOnly T5050) = hh ++ space ∷ mm ++ space ∷ ss ++ space ∷ CR ∷ LF ∷ []

-- a row as the code keeps it: one number a place
unfoldable pub row_numbers : Layout → List ℕ
row_numbers layout = map place_number (places_of layout)

-- a record's own layout
abbrev pub own_layout : Record → Layout
own_layout (Dated layout status weekday date time) = layouts.Dated layout
own_layout (TimeOnly layout time) = layouts.TimeOnly layout

-- "the order of LF and CR decides": LF CR is a 6021t, and anything else is judged as a 5500t, which wants CR LF
abbrev pub by_trailer : List ℕ → Layout
by_trailer body = cond (eqb (get_or body 6 0) control.lf && eqb (get_or body 7 0) control.cr) (layouts.TimeOnly T6021) (layouts.TimeOnly T5500)

-- "the layout is found from the length", here without STX and ETX; 1: "length isn't one in the table"
unfoldable pub layout_of : List ℕ → Outcome Layout
layout_of body =
    cond (eqb (length body) 16) (done (layouts.Dated L6021))
    (cond (eqb (length body) 8) (done (by_trailer body))
    (cond (eqb (length body) 18) (done (layouts.Dated L2000))
    (cond (eqb (length body) 19) (done (layouts.Dated L5500))
    (cond (eqb (length body) 23) (done (layouts.Dated L5050))
    (cond (eqb (length body) 11) (done (layouts.TimeOnly T5050))
    (refused 1))))))
