-- `harkoxin::write_held` meets its contract.
use native.Mathlib.Omega.{arith}
use lib.Seq.{length-take-le}
use mathlib.Core.Path.{refl, sym, ◌∙◌}
use Rattle.validate.specs.Entry.{answer_of}
use Rattle.harkoxin.proofs.Reporting.{nine_words, both-written}
use Rattle.harkoxin.proofs.write_held.Goals as goal

pub overflow_mul-k : goal.overflow_mul-k
overflow_mul-k c = let e = c.held.ensures in omega arith

pub slice_bounds-messages_in-end-2 : goal.slice_bounds-messages_in-end-2
slice_bounds-messages_in-end-2 c = let e = c.held.ensures in sym (length-take-le _ _ (omega arith))

pub returns : goal.returns
returns c =
    let h = c.held in
    let t = c.messages_in-t in
    let e = rw h.ensures at t.ensures in
    record { answer = both-written _ _ _ _ _ (nine_words (answer_of c.args.a)) c.write_answer.ensures (c.write_messages_answer.ensures ∙ rw e.answer); text = e.bytes; ends = e.ends; list = refl }
