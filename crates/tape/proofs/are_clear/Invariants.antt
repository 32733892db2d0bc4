-- `tape::are_clear` meets its contract. The invariant: if what is left is clear, the whole is; and the last span ends at a good place.
use Prim.Native.Nat.{◌≤◌}
use mathlib.Core.Bool.{true}
use mathlib.Core.Path.{◌≡◌}
use Rattle.text.specs.Characters.{is_boundary}
use Rattle.tape.specs.Inner.{Clear}
use Rattle.tape.proofs.are_clear.Given as goal

abbrev pub invariant-loop-i : goal.invariant-loop-i
invariant-loop-i l = (1 ≤ l.i) × (l.i ≤ l.n) × (is_boundary l.source l.before ≡ true) × (Clear l.source l.tape l.n l.i → Clear l.source l.tape l.n 1)
