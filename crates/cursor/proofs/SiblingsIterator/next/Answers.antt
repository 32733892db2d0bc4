-- `next` of `cursor::Siblings` meets its contract.
use Rattle.std.proofs.Common.{ap, arith}
use Rattle.std.specs.Prelude.{length}
use Rattle.cursor.proofs.InTurn.{siblings-none, siblings-first, some-next}
use Rattle.cursor.proofs.SiblingsIterator.next.Goals as goal

pub returns-then-self-clause-steps : goal.returns-then-self-clause-steps
returns-then-self-clause-steps c =
    let e = siblings-none c.args.self.now.tape.now _ _ c.if-self.true in
    (e, e)

pub returns-clause-steps : goal.returns-clause-steps
returns-clause-steps c = rw c.past_node-self.ensures (siblings-first _ _ _ _ c.requires.run (omega arith))

pub returns-clause-goes : goal.returns-clause-goes
returns-clause-goes c =
    let run = some-next c.args.self.now.tape.now _ _ _ c.requires (omega arith) c.past_node-self.ensures in
    let fewer = ap length (returns-clause-steps c) in
    record { on = λ f. (run, f, omega arith); keeps = run; rests = λ f. f }
