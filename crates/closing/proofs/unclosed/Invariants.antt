-- `closing::unclosed`: the findings of the open starts so far are written.
use Rattle.state.specs.Inner.{counts_of}
use Rattle.closing.proofs.Starts.{UnclosedSoFar}
use Rattle.closing.proofs.unclosed.Given as goal

abbrev pub invariant-loop-o : goal.invariant-loop-o
invariant-loop-o l = UnclosedSoFar l.doc.source.now l.doc.tape.now l.fn.opens l.fn.rec.open_len l.fn.list (counts_of l.fn.rec) l.list l.c l.o-index
