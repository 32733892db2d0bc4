-- `message_texts::put_value` meets its contract.
use Rattle.message_texts.proofs.Filling.{itself}
use Rattle.message_texts.proofs.put_value.Goals as goal

pub returns-in-1 : goal.returns-in-1
returns-in-1 c = rw c.in-1.is c.put.ensures

pub returns-in-2 : goal.returns-in-2
returns-in-2 c = rw c.in-2.is c.put-in-2.ensures

pub returns-in-3 : goal.returns-in-3
returns-in-3 c = rw c.in-3.is c.put-in-3.ensures

pub returns-in-4 : goal.returns-in-4
returns-in-4 c = rw c.in-4.is c.put_capitals.ensures

pub returns-in_default : goal.returns-in_default
returns-in_default c =
    let k = c.in_default.in_default-own.rest in
    rw (itself _ _ k.0.0.0.1 k.0.0.1 k.0.1 k.1) c.put-in_default.ensures
