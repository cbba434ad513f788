-- Document 02, h: the difference between local time and UTC, "a signed number of minutes from -720 to 720".
use Rattle.std.specs.Prelude.{Bool, true, false, ℕ, ◌/◌, ◌%◌, leb, ℤ, pos, negsuc, neg_ℤ, nat_abs}

-- "a sign", and how many minutes
abbrev pub signed : Bool → ℕ → ℤ
signed true n = neg_ℤ (pos n)
signed false n = pos n

-- the sign is minus below zero; "zero is +00,00"
abbrev pub is_minus : ℤ → Bool
is_minus (pos n) = false
is_minus (negsuc n) = true

-- how many minutes, without the sign
abbrev pub size_of : ℤ → ℕ
size_of = nat_abs

-- "hours, comma, minutes": the whole hours
abbrev pub hours_of : ℤ → ℕ
hours_of d = size_of d / 60

-- and the minutes over, "0 to 59"
abbrev pub minutes_of : ℤ → ℕ
minutes_of d = size_of d % 60

-- "from -720 to 720"
abbrev pub within12_hours : ℤ → Bool
within12_hours d = leb (size_of d) 720
