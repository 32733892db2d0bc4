-- `table::role_step` meets its contract. The first eight bytes of each word compute to the number that it is head_of by.
use lib.ListN.{get_or}
use mathlib.Core.Bool.{false≢true}
use mathlib.Core.List.{[]}
use mathlib.Core.Path.{refl, sym, ◌∙◌}
use Rattle.table.specs.Lines.{roles}
use Rattle.table.specs.Books.{code_from}
use Rattle.table.proofs.Words.{every}
use Rattle.table.proofs.HeadBytes.{HeadIs, head-is}
use Rattle.table.proofs.Heads.{front, front-there, words-absent}
use Rattle.text.specs.Literal.{ascii}
use Rattle.text.specs.Bytes.{equal, all}
use Rattle.table.proofs.role_step.Goals as goal

pub returns-then-w-eq-CONTENT_WORD : goal.returns-then-w-eq-CONTENT_WORD
unfolding ascii roles code_from equal all every
returns-then-w-eq-CONTENT_WORD c =
    let head_of : HeadIs c.args.s.now c.head-w.result = head-is _ _ c.type_inv.s c.head-w.ensures in
    front-there 5 roles _ _ 0 refl refl refl refl (λ m e. absurd (false≢true (sym e))) head_of c.if-w-eq-CONTENT_WORD.true

pub returns-then-w-eq-EXCLUDED_WORD : goal.returns-then-w-eq-EXCLUDED_WORD
unfolding ascii roles code_from equal all every
returns-then-w-eq-EXCLUDED_WORD c =
    let head_of : HeadIs c.args.s.now c.head-w.result = head-is _ _ c.type_inv.s c.head-w.ensures in
    let d = c in
    c.tail_step.ensures ∙ front-there 5 roles _ _ 1 refl refl refl refl (λ m e. rw e) head_of d.if-w-eq-EXCLUDED_WORD.true

pub returns-then-w-eq-BOUNDARY_WORD : goal.returns-then-w-eq-BOUNDARY_WORD
unfolding ascii roles code_from equal all every
returns-then-w-eq-BOUNDARY_WORD c =
    let head_of : HeadIs c.args.s.now c.head-w.result = head-is _ _ c.type_inv.s c.head-w.ensures in
    let d = c in
    c.tail_step-then-w-eq-BOUNDARY_WORD.ensures ∙ front-there 5 roles _ _ 2 refl refl refl refl (λ m e. rw e) head_of d.if-w-eq-BOUNDARY_WORD.true

pub returns : goal.returns
unfolding ascii roles code_from equal all every
returns c =
    let head_of : HeadIs c.args.s.now c.head-w.result = head-is _ _ c.type_inv.s c.head-w.ensures in
    let t = head_of in
    words-absent 5 _ 0 roles refl (rw (t.differs (front (get_or roles 0 [])) refl c.if-w-eq-CONTENT_WORD.false, t.differs (front (get_or roles 1 [])) refl c.if-w-eq-EXCLUDED_WORD.false, t.differs (front (get_or roles 2 [])) refl c.if-w-eq-BOUNDARY_WORD.false))
