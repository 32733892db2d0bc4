-- `table::default_attribute` meets its contract: the names of the constant are those of the definition, in its order.
use mathlib.Core.Path.{◌≡◌, sym, ap, ◌∙◌}
use Prim.Native.Nat.{ℕ}
use Rattle.std.specs.Prelude.{Option, Some, None}
use Rattle.table.specs.Books.{code_from}
use Rattle.table.specs.Names.{qt, attribute_name}
use Rattle.table.specs.Inner.{lines_of, attribute_by}
use Rattle.table.proofs.Positions.{owners, default-is}
use Rattle.text.specs.Literal.{ascii}
use Rattle.text.specs.Bytes.{starting}
use Rattle.table.proofs.default_attribute.Goals as goal

pub returns-in-Some : goal.returns-in-Some
unfolding ascii owners lines_of
returns-in-Some c =
    let s = c.args.name.now in
    let o : Some c.in-Some.p ≡ code_from 0 owners s = sym c.in-Some.is ∙ c.word_in.ensures in
    ap attribute_name (ap Some c.attribute.ensures ∙ ap (λ (x : Option ℕ). attribute_by x (starting qt s)) o) ∙ default-is s

pub returns-then-starts_with : goal.returns-then-starts_with
unfolding ascii owners lines_of
returns-then-starts_with c =
    let s = c.args.name.now in
    let o : None ≡ code_from 0 owners s = sym c.in-None.is ∙ c.word_in.ensures in
    rw (← o, sym c.starts_with.ensures ∙ c.if-starts_with.true) at (default-is s)

pub returns-else-starts_with : goal.returns-else-starts_with
unfolding ascii owners lines_of
returns-else-starts_with c =
    let s = c.args.name.now in
    let o : None ≡ code_from 0 owners s = sym c.in-None.is ∙ c.word_in.ensures in
    rw (← o, sym c.starts_with.ensures ∙ c.if-starts_with.false) at (default-is s)
