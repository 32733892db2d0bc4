-- `harkoxin::write_turned_back` meets its contract.
use mathlib.Core.Path.{refl}
use Rattle.harkoxin.proofs.Reporting.{both-written}
use Rattle.harkoxin.proofs.write_turned_back.Goals as goal

pub returns : goal.returns
returns c = both-written _ _ _ _ _ refl c.write_refusal.ensures c.write_messages_answer.ensures
