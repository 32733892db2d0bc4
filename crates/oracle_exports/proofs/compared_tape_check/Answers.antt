-- `oracle_exports::compared_tape_check` meets its contract.
use Rattle.oracle_exports.proofs.Guards.{number_few}
use Rattle.oracle_exports.proofs.compared_tape_check.Goals as goal

pub answer_word-requires : goal.answer_word-requires
answer_word-requires c = rw c.number.ensures (number_few c.in-Err.r.reason)
