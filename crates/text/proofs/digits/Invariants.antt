-- `text::digits` meets its contract. The invariant: the number so far, and the digits that are left, give what all the digits give.
use Rattle.std.proofs.Common.{◌≡◌, ◌≤◌, drop}
use Rattle.text.specs.Number.{digits, digits_from}
use Rattle.text.proofs.digits.Given as goal

abbrev pub invariant-loop-b : goal.invariant-loop-b
invariant-loop-b l = (l.n ≤ 4294967295) × (digits l.s ≡ digits_from l.n (drop l.b-index l.s))
