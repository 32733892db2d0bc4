-- `text::kept_len` meets its contract. The invariant: what is kept of the front that is left is what is kept of all.
use Rattle.std.proofs.Common.{◌≡◌, ◌≤◌, length}
use Rattle.text.specs.Characters.{chars}
use Rattle.text.specs.Words.{kept}
use Rattle.text.proofs.kept_len.Given as goal

abbrev pub invariant-loop-rest : goal.invariant-loop-rest
invariant-loop-rest l = (length l.rest ≤ length l.s) × (kept (chars l.s) ≡ kept (chars l.rest))

abbrev pub decreases-loop-rest : goal.decreases-loop-rest
decreases-loop-rest l = length l.rest
