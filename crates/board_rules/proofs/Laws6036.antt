-- The parameter byte of a 6036: reading then writing, and writing then reading. Assumes nothing.
use mathlib.Core.Path.{◌≡◌, refl, ap, sym, ◌∙◌}
use mathlib.Core.Bool.{true, cond}
use Rattle.refusals.specs.Refusals.{done, unless}
use Rattle.refusals.proofs.Tables.{below}
use Rattle.board_rules.specs.declared.Parity.{Parity}
use Rattle.board_rules.specs.declared.Parity.TheVariants.{None, Even, Odd}
use Rattle.board_rules.specs.declared.of_6036.Parameter.{Parameter}
use Rattle.board_rules.specs.Switches.{switch, byte_of, with_switch4}
use Rattle.board_rules.specs.Rates.{rate_row}
use Rattle.board_rules.specs.Settings.{is_offered}
use Rattle.board_rules.specs.Of6036.{data_bits_in, parity_at, parity_in, stop_bits_in, baud_in, parameter_in, third_for, fourth_for, switches_for, offered, byte_for}
use Rattle.board_rules.specs.RoundTrip.{All256Read, ReadingThenWritingSetsSwitch4, ASettingWrittenReadsBack}
use Rattle.board_rules.proofs.SwitchLaws.{is_on_law, byte_fits}
use Rattle.board_rules.proofs.RateLaws.{rate_back}
use Rattle.board_rules.proofs.SettingLaws.{same, same_true, by_the_one, offered_parts, was_offered}

-- each of the 256 bytes, by one test
pub all_256_read : All256Read
unfolding parameter_in is_offered rate_row
all_256_read = below 256 (λ n. offered (parameter_in n)) refl

pub read_then_write : ReadingThenWritingSetsSwitch4
unfolding parameter_in switches_for byte_for with_switch4 is_offered rate_row unless
read_then_write byte h =
    same_true _ _ (below 256 (λ n. same (byte_for (parameter_in n)) (done (cond (switch 3 n) (with_switch4 n) n))) refl byte h)

-- a parity comes back from its two switches
parity_of : (parity : Parity) → parity_at (third_for parity) (fourth_for parity) ≡ parity
parity_of None = refl
parity_of Even = refl
parity_of Odd = refl

-- a setting that is offered comes back from its switches
comes_back : (parameter : Parameter) → offered parameter ≡ true → parameter_in (byte_of (switches_for parameter)) ≡ parameter
unfolding parameter_in switches_for
comes_back parameter e =
    let byte = byte_of (switches_for parameter) in
    let on = is_on_law (switches_for parameter) in
    let parts = offered_parts parameter.data_bits parameter.stop_bits parameter.baud e in
    let data_bits_back : data_bits_in byte ≡ parameter.data_bits = rw (on 1) (by_the_one _ _ _ parts.0) in
    let parity_back : parity_in byte ≡ parameter.parity = rw (on 2, on 3) (parity_of parameter.parity) in
    let stop_bits_back : stop_bits_in byte ≡ parameter.stop_bits = rw (on 4) (by_the_one _ _ _ parts.1) in
    let baud_back : baud_in byte ≡ parameter.baud = rw (on 5, on 6, on 7) (rate_back parameter.baud parts.2) in
    λ i.
    record { utc = on 0 i; data_bits = data_bits_back i; parity = parity_back i; stop_bits = stop_bits_back i; baud = baud_back i }

pub write_then_read : ASettingWrittenReadsBack
unfolding byte_for switches_for
write_then_read parameter byte e =
    let written = was_offered (offered parameter) (byte_of (switches_for parameter)) byte e in
    (ap parameter_in (sym written.1) ∙ comes_back parameter written.0, rw (← written.1) (byte_fits (switches_for parameter)))
