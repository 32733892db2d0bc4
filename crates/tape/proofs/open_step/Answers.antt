-- `tape::open_step` meets its contract.
use Rattle.tape.proofs.Stack.{open_room}
use Rattle.tape.proofs.open_step.Goals as goal

pub returns : goal.returns
returns c = open_room _ _ _ _ c.requires.0 c.if-depth-ge64.false
