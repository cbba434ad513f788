-- Laws of bits and of the numbers made of them. Assumes nothing.
use mathlib.Core.Path.{◌≡◌, refl}
use mathlib.Core.Bool.{Bool, true, false, cond}
use Prim.Native.Nat.{ℕ, zero, suc, ◌/◌, ◌≤◌}
use native.Mathlib.Omega.{arith}
use lib.Dec.{eqb}
use Rattle.record_rules.specs.declared.DatedLayout.{DatedLayout}
use Rattle.record_rules.specs.declared.Reception.{Reception}
use Rattle.record_rules.specs.declared.Reception.TheVariants.{Invalid, Crystal, Radio, High}
use Rattle.record_rules.specs.Rule.{crystal_or_radio}
use Rattle.bits.specs.Bits.{bit}
use Rattle.layouts_rules.specs.Coding.{reception_at, reception_number, is_crystal, has_full_year, century_out}

pub bit_small : (on : Bool) → bit on ≤ 1
bit_small true = omega arith
bit_small false = omega arith

-- a bit and its number are each other's inverse
pub bit_back : (on : Bool) → eqb (bit on) 1 ≡ on
bit_back true = refl
bit_back false = refl

pub number_back : (n : ℕ) → n ≤ 1 → bit (eqb n 1) ≡ n
number_back zero h = refl
number_back (suc zero) h = refl
number_back (suc (suc n)) h = absurd (omega arith)

-- so are a reception and its two bits
pub reception_small : (reception : Reception) → reception_number reception ≤ 3
reception_small Invalid = omega arith
reception_small Crystal = omega arith
reception_small Radio = omega arith
reception_small High = omega arith

pub reception_back : (reception : Reception) → reception_at (reception_number reception) ≡ reception
reception_back Invalid = refl
reception_back Crystal = refl
reception_back Radio = refl
reception_back High = refl

pub reception_number_back : (n : ℕ) → n ≤ 3 → reception_number (reception_at n) ≡ n
reception_number_back zero h = refl
reception_number_back (suc zero) h = refl
reception_number_back (suc (suc zero)) h = refl
reception_number_back (suc (suc (suc zero))) h = refl
reception_number_back (suc (suc (suc (suc n)))) h = absurd (omega arith)

pub reception_high : (n : ℕ) → (n ≡ 0 → ⊥) → (n ≡ 1 → ⊥) → (n ≡ 2 → ⊥) → High ≡ reception_at n
reception_high zero a b c = absurd (a refl)
reception_high (suc zero) a b c = absurd (b refl)
reception_high (suc (suc zero)) a b c = absurd (c refl)
reception_high (suc (suc (suc n))) a b c = refl

-- and a reception that is crystal or radio and its one bit
pub crystal_back : (reception : Reception) → crystal_or_radio reception ≡ true → cond (is_crystal reception) Crystal Radio ≡ reception
crystal_back Invalid e = let z : ◌≡◌ {A = ℕ} 0 1 = cc in absurd (omega arith)
crystal_back Crystal e = refl
crystal_back Radio e = refl
crystal_back High e = let z : ◌≡◌ {A = ℕ} 0 1 = cc in absurd (omega arith)

pub crystal_bit_back : (on : Bool) → is_crystal (cond on Crystal Radio) ≡ on
crystal_bit_back true = refl
crystal_bit_back false = refl

pub century_small : (layout : DatedLayout) (year : ℕ) → century_out layout year ≤ year / 100
century_small layout year = go (has_full_year layout)
  where
    go : (t : Bool) → cond t (year / 100) 0 ≤ year / 100
    go true = omega arith
    go false = omega arith
