-- `telegram::read::read_exchanged` meets its contract.
use Rattle.std.proofs.Common.{◌≡◌, ℕ, Bool, List, ◌++◌, length, take, ap, ◌∙◌}
use Rattle.std.proofs.lemmas.Grind.{common_steps}
use native.Mathlib.Omega.{arith}
use Rattle.trailer_rules.specs.Trailer.{trailer_at, exchange_at}
use Rattle.trailer_rules.specs.declared.Order.TheVariants.{Exchanged}
use Rattle.telegram_rules.specs.Reading.{read_of, read_in}
use Rattle.telegram_rules.proofs.ExchangeLaws.{too_long, copy_read}
use Rattle.telegram.proofs.read.read_exchanged.Goals as goal

pub returns-then-length-gt-LONGEST : goal.returns-then-length-gt-LONGEST
returns-then-length-gt-LONGEST c = too_long Exchanged c.args.control c.args.bytes.now c.if-length-gt-LONGEST.true

-- what was copied and exchanged is read as printed
by_copy : (control : Bool) (bytes front rest last : List ℕ) (at : ℕ) → front ≡ bytes → at ≡ trailer_at control (length bytes)
    → last ≡ exchange_at at (front ++ rest) → read_of control (take (length bytes) last) ≡ read_in Exchanged control bytes
by_copy control bytes front rest last at same place exchanged =
    let copied : take (length bytes) (front ++ rest) ≡ take (length bytes) bytes = rw same (grind (arith, common_steps)) in
    ap (λ copy. read_of control (take (length bytes) copy)) (exchanged ∙ ap (λ at. exchange_at at (front ++ rest)) place)
    ∙ copy_read control bytes (front ++ rest) copied

pub returns : goal.returns
returns c =
    c.read.ensures
    ∙ by_copy c.args.control c.args.bytes.now _ _ _ _ c.copy_from_slice.ensures.after c.place_in.ensures c.exchange.ensures
