-- `table::behind` meets its contract.
use borrow.Author.Rules.{rules}
use Prim.Native.Nat.{◌≤◌}
use lib.ListN.{length}
use mathlib.Core.Path.{sym, ◌∙◌}
use native.Mathlib.Omega.{arith}
use Rattle.text.proofs.Blocks.{starts-long}
use Rattle.table.proofs.behind.Goals as goal

pub slice_bounds-result-count : goal.slice_bounds-result-count
slice_bounds-result-count c =
    let fits : length c.args.key.now ≤ length c.args.s.now = let a = c.args in omega (arith, starts-long a.key.now a.s.now (sym c.starts_with.ensures ∙ c.if-starts_with.true)) in
    fits

pub slice_bounds-result-start : goal.slice_bounds-result-start
slice_bounds-result-start c =
    let fits : length c.args.key.now ≤ length c.args.s.now = let a = c.args in omega (arith, starts-long a.key.now a.s.now (sym c.starts_with.ensures ∙ c.if-starts_with.true)) in
    let h = fits in search rules
