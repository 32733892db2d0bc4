-- `validate::check_input` meets its contract.
use mathlib.Core.Path.{sym}
use Rattle.tape.proofs.OneNumber.{accepted}
use Rattle.validate.proofs.check_input.Goals as goal

pub label_check-requires : goal.label_check-requires
label_check-requires c = (c.in_ok-entries.ensures.entries, (accepted _ _).0 (sym c.in_ok-tape_check.ensures))
