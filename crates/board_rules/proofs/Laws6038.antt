-- The parameter byte of a 6038: reading then writing, and writing then reading. Assumes nothing.
use mathlib.Core.Path.{◌≡◌, refl, ap, sym, ◌∙◌}
use mathlib.Core.Bool.{Bool, true, false, cond, not, ◌&&◌}
use mathlib.Core.List.{[], ◌∷◌}
use Prim.Native.Nat.{ℕ}
use native.Mathlib.Omega.{arith}
use lib.Dec.{eqb}
use borrow.Author.Tests.{eqb-true}
use Rattle.refusals.specs.Refusals.{Outcome, done, refused, unless, after}
use Rattle.refusals.proofs.Tables.{below}
use Rattle.board_rules.specs.declared.Parity.{Parity}
use Rattle.board_rules.specs.declared.Parity.TheVariants.{None, Even, Odd}
use Rattle.board_rules.specs.declared.of_6038.Parameter.{Parameter}
use Rattle.board_rules.specs.Switches.{switch, byte_of, without_switch1}
use Rattle.board_rules.specs.Rates.{rate_row}
use Rattle.board_rules.specs.Settings.{is_offered}
use Rattle.board_rules.specs.Of6038.{data_bits_in, parity_at, parity_in, stop_bits_in, baud_in, setting_with, parameter_in, third_for, fourth_for, switches_for, offered, byte_for}
use Rattle.board_rules.specs.RoundTrip6038.{is_off_on, All256ReadOrRefused, Switch1IsReadAsNothing, Switch1IsWrittenOff}
use Rattle.board_rules.specs.RoundTrip6038.{ReadingThenWritingClearsSwitch1, ASettingWrittenReadsBack, OffOnIsNeverWritten, ASettingNotOfferedIs16}
use Rattle.board_rules.proofs.SwitchLaws.{is_on_law, byte_fits}
use Rattle.board_rules.proofs.RateLaws.{rate_back}
use Rattle.board_rules.proofs.SettingLaws.{same, same_true, by_the_other, offered_parts, was_offered}

-- whether an answer is 16 for a byte that is off/on, and a setting that is offered for any other
abbrev as_listed : Bool → Outcome Parameter → Bool
as_listed true (refused number) = eqb number 16
as_listed true (done parameter) = false
as_listed false (refused number) = false
as_listed false (done parameter) = offered parameter

as_listed_law : (off_on_law : Bool) (answer : Outcome Parameter) → as_listed off_on_law answer ≡ true
    → (off_on_law ≡ true → answer ≡ refused 16)
    × (off_on_law ≡ false → (parameter : Parameter) × (answer ≡ done parameter) × (offered parameter ≡ true))
as_listed_law true (refused number) e =
    (λ h. ap refused (eqb-true number 16 e), λ h. let z : ◌≡◌ {A = ℕ} 0 1 = cc in absurd (omega arith))
as_listed_law true (done parameter) e = let z : ◌≡◌ {A = ℕ} 0 1 = cc in absurd (omega arith)
as_listed_law false (refused number) e = let z : ◌≡◌ {A = ℕ} 0 1 = cc in absurd (omega arith)
as_listed_law false (done parameter) e =
    (λ h. let z : ◌≡◌ {A = ℕ} 0 1 = cc in absurd (omega arith), λ h. (parameter, refl, e))

-- each of the 256 bytes, by one test
pub all_256_read_or_refused : All256ReadOrRefused
unfolding parameter_in is_offered rate_row
all_256_read_or_refused byte h =
    as_listed_law (is_off_on byte) (parameter_in byte) (below 256 (λ n. as_listed (is_off_on n) (parameter_in n)) refl byte h)

pub read_then_write : ReadingThenWritingClearsSwitch1
unfolding parameter_in switches_for byte_for without_switch1 is_offered rate_row unless
read_then_write byte h =
    same_true _ _ (below 256 (λ n. same (after (parameter_in n) byte_for) (cond (is_off_on n) (refused 16) (done (without_switch1 n)))) refl byte h)

pub switch_1_read_as_nothing : Switch1IsReadAsNothing
unfolding parameter_in without_switch1
switch_1_read_as_nothing byte =
    let on = is_on_law (false ∷ switch 2 byte ∷ switch 3 byte ∷ switch 4 byte ∷ switch 5 byte ∷ switch 6 byte ∷ switch 7 byte ∷ switch 8 byte ∷ []) in
    rw (on 1, on 2, on 3, on 4, on 5, on 6, on 7)

-- a parity comes back from its two switches, and they are not off/on
parity_of : (parity : Parity) → parity_at (third_for parity) (fourth_for parity) ≡ done parity
parity_of None = refl
parity_of Even = refl
parity_of Odd = refl

not_off_on : (parity : Parity) → (not (third_for parity) && fourth_for parity) ≡ false
not_off_on None = refl
not_off_on Even = refl
not_off_on Odd = refl

-- a setting that is offered comes back from its switches
comes_back : (parameter : Parameter) → offered parameter ≡ true → parameter_in (byte_of (switches_for parameter)) ≡ done parameter
unfolding parameter_in switches_for
comes_back parameter e =
    let byte = byte_of (switches_for parameter) in
    let on = is_on_law (switches_for parameter) in
    let parts = offered_parts parameter.data_bits parameter.stop_bits parameter.baud e in
    let data_bits_back : data_bits_in byte ≡ parameter.data_bits = rw (on 1) (by_the_other _ _ _ parts.0) in
    let parity_back : parity_in byte ≡ done parameter.parity = rw (on 2, on 3) (parity_of parameter.parity) in
    let stop_bits_back : stop_bits_in byte ≡ parameter.stop_bits = rw (on 4) (by_the_other _ _ _ parts.1) in
    let baud_back : baud_in byte ≡ parameter.baud = rw (on 5, on 6, on 7) (rate_back parameter.baud parts.2) in
    ap (λ found. after found (λ parity. done (setting_with byte parity))) parity_back
    ∙ (λ i. done (record { data_bits = data_bits_back i; parity = parameter.parity; stop_bits = stop_bits_back i; baud = baud_back i }))

-- what is written: the byte of a setting that is offered
written : (parameter : Parameter) (byte : ℕ) → byte_for parameter ≡ done byte
    → (offered parameter ≡ true) × (byte_of (switches_for parameter) ≡ byte)
unfolding byte_for
written parameter byte = was_offered (offered parameter) (byte_of (switches_for parameter)) byte

pub write_then_read : ASettingWrittenReadsBack
unfolding switches_for
write_then_read parameter byte e =
    let w = written parameter byte e in
    (ap parameter_in (sym w.1) ∙ comes_back parameter w.0, rw (← w.1) (byte_fits (switches_for parameter)))

pub switch_1_written_off : Switch1IsWrittenOff
unfolding switches_for
switch_1_written_off parameter byte e = rw (← (written parameter byte e).1) (is_on_law (switches_for parameter) 0)

pub off_on_never_written : OffOnIsNeverWritten
unfolding switches_for
off_on_never_written parameter byte e =
    let on = is_on_law (switches_for parameter) in
    rw (← (written parameter byte e).1, on 2, on 3) (not_off_on parameter.parity)

pub not_offered_is_16 : ASettingNotOfferedIs16
unfolding byte_for unless
not_offered_is_16 parameter e = rw e
