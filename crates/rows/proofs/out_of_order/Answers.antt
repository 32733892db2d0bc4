-- `rows::out_of_order` meets its contract.
use Rattle.rows.proofs.out_of_order.Goals as goal

pub returns : goal.returns
returns c = rw (c.start_at.ensures, c.len_at.ensures)
