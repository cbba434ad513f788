-- What is written reads back, and what is read is what is written, of stamps and commands alike. Assumes nothing.
use mathlib.Core.Path.{◌≡◌, refl, ap, sym, subst, ◌∙◌}
use mathlib.Core.Bool.{Bool, true, false, cond}
use mathlib.Core.List.{List, [], ◌∷◌}
use Prim.Native.Nat.{ℕ, ◌≤◌}
use native.Mathlib.Omega.{arith}
use lib.ListN.{length, get_or, length-append}
use borrow.Author.Tests.{eq-eqb}
use Rattle.refusals.specs.Refusals.{Outcome, done, refused, after}
use Rattle.ascii.specs.Control.{etx}
use Rattle.places_rules.specs.Places.{render}
use Rattle.trailer_rules.specs.declared.Order.{Order}
use Rattle.record_rules.specs.declared.Record.{Record}
use Rattle.telegram_rules.specs.Reading.{read_in}
use Rattle.telegram_rules.proofs.InOrder as stamps
use Rattle.remote_rules.specs.declared.Command.{Command}
use Rattle.remote_rules.specs.declared.rows.Form.{Form}
use Rattle.remote_rules.specs.Rows.{colon, inner_row, row_of, is_command}
use Rattle.remote_rules.specs.Coding.{own_form, digits_out}
use Rattle.remote_rules.specs.Reading.{command_of}
use Rattle.remote_rules.specs.Writing.{command_bytes}
use Rattle.remote_rules.proofs.RowLaws.{of_each}
use Rattle.remote_rules.proofs.BackAndForth as commands
use Rattle.message_rules.specs.declared.Message.{Message}
use Rattle.message_rules.specs.declared.Message.TheVariants.{Stamp, Remote}
use Rattle.message_rules.specs.Messages.{message_of, refusal_of, inner_of, message_bytes}
use Rattle.message_rules.proofs.PlainLaws.{inner_short}
use Rattle.message_rules.proofs.StampLaws.{no_command, accepted_no_command}

-- each row has the colon in fifth place
colon_in_row : (form : Form) (digits : List ℕ) → get_or (render (row_of form) digits) 4 0 ≡ colon
unfolding row_of inner_row render
colon_in_row form digits = of_each (λ f. get_or (render (row_of f) digits) 4 0 ≡ colon) refl refl refl refl refl refl refl refl refl refl form

pub command_is_command : (told : Command) → is_command (command_bytes told) ≡ true
unfolding command_bytes
command_is_command told = eq-eqb _ colon (colon_in_row (own_form told) (digits_out told))

-- (a) what the writer makes of a good message reads back as that message, on a line of either order
pub reads_back_law : (order : Order) (message : Message) → refusal_of message ≡ 0 → message_of order (message_bytes order message) ≡ done message
unfolding message_of
reads_back_law order (Stamp rec) none =
    rw (no_command order rec) (ap (λ o. after o (λ r. done (Stamp r))) (stamps.reads_back_law order true rec none))
reads_back_law order (Remote told) none =
    let same = commands.bytes_framed told in
    rw (← same, command_is_command told) (ap (λ o. after o (λ c. done (Remote c))) (commands.reads_as_itself told none))

-- (b) what is accepted is what the writer makes of the message it gave, and that message is good
pub record Accepted (order : Order) (bytes : List ℕ) (message : Message) : Type 0 where
  pub is_good_law : refusal_of message ≡ 0
  pub is_written : message_bytes order message ≡ bytes

module _ (order : Order) (bytes : List ℕ) where
  of_stamp : (o : Outcome Record) (message : Message) → read_in order true bytes ≡ o → after o (λ rec. done (Stamp rec)) ≡ done message → Accepted order bytes message
  of_stamp (done rec) message is e =
      let a = stamps.accepted order true bytes rec is in
      let same : Stamp rec ≡ message = cc in
      subst (Accepted order bytes) same (record { is_good_law = a.is_good_law; is_written = a.is_written })
  of_stamp (refused n) message is e = let z : ◌≡◌ {A = ℕ} 0 1 = cc in absurd (omega arith)

  of_command : (o : Outcome Command) (message : Message) → command_of bytes ≡ o → after o (λ told. done (Remote told)) ≡ done message → Accepted order bytes message
  of_command (done told) message is e =
      let a = commands.accepted bytes told is in
      let same : Remote told ≡ message = cc in
      subst (Accepted order bytes) same (record { is_good_law = a.is_good_law; is_written = sym (commands.bytes_framed told) ∙ a.is_written })
  of_command (refused n) message is e = let z : ◌≡◌ {A = ℕ} 0 1 = cc in absurd (omega arith)

  pub accepted : (message : Message) → message_of order bytes ≡ done message → Accepted order bytes message
  unfolding message_of
  accepted message = go (is_command bytes)
    where
      go : (t : Bool)
          → cond t (after (command_of bytes) (λ told. done (Remote told))) (after (read_in order true bytes) (λ rec. done (Stamp rec))) ≡ done message
          → Accepted order bytes message
      go true = of_command (command_of bytes) message refl
      go false = of_stamp (read_in order true bytes) message refl

-- none is longer than 30
pub accepted_short : (order : Order) (bytes : List ℕ) (message : Message) → message_of order bytes ≡ done message → length bytes ≤ 30
accepted_short order bytes message e =
    let size : length (message_bytes order message) ≡ length bytes = ap length (accepted order bytes message e).is_written in
    omega (arith, size, length-append (inner_of order message) (etx ∷ []), inner_short order message)

-- nothing that was accepted is read in another way
pub stamps_as_before : (order : Order) (bytes : List ℕ) (rec : Record) → read_in order true bytes ≡ done rec → message_of order bytes ≡ done (Stamp rec)
unfolding message_of
stamps_as_before order bytes rec e = rw (accepted_no_command order bytes rec e, e)

-- and what was refused, and is no command, is refused with the same number
pub stamp_refused : (order : Order) (bytes : List ℕ) (n : ℕ) → is_command bytes ≡ false → read_in order true bytes ≡ refused n → message_of order bytes ≡ refused n
unfolding message_of
stamp_refused order bytes n is e = rw (is, e)

-- the two ways in which reading goes
module _ (order : Order) (bytes : List ℕ) where
  pub as_command : (o : Outcome Command) → is_command bytes ≡ true → o ≡ command_of bytes → after o (λ told. done (Remote told)) ≡ message_of order bytes
  unfolding message_of
  as_command o is e = rw (is, e)

  pub as_stamp : (o : Outcome Record) → is_command bytes ≡ false → o ≡ read_in order true bytes → after o (λ rec. done (Stamp rec)) ≡ message_of order bytes
  unfolding message_of
  as_stamp o is e = rw (is, e)
