-- `table::category_step` meets its contract. The first eight bytes of each word compute to the number that it is head_of by.
use lib.ListN.{get_or}
use mathlib.Core.Bool.{false≢true}
use mathlib.Core.List.{[]}
use mathlib.Core.Path.{refl, sym, ◌∙◌}
use Rattle.table.specs.Lines.{categories}
use Rattle.table.specs.Books.{code_from}
use Rattle.table.proofs.Words.{every}
use Rattle.table.proofs.HeadBytes.{HeadIs, head-is}
use Rattle.table.proofs.Heads.{front, front-there, line-there, words-absent}
use Rattle.text.specs.Literal.{ascii}
use Rattle.text.specs.Bytes.{equal, all}
use Rattle.table.proofs.category_step.Goals as goal

pub returns-then-w-eq-CHARACTE_WORD : goal.returns-then-w-eq-CHARACTE_WORD
unfolding ascii categories code_from equal all every
returns-then-w-eq-CHARACTE_WORD c =
    let head_of : HeadIs c.args.s.now c.head-w.result = head-is _ _ c.type_inv.s c.head-w.ensures in
    let d = c in
    c.tail_step.ensures ∙ front-there 9 categories _ _ 4 refl refl refl refl (λ m e. rw e) head_of d.if-w-eq-CHARACTE_WORD.true

pub returns-then-w-eq-PARAGRAP_WORD : goal.returns-then-w-eq-PARAGRAP_WORD
unfolding ascii categories code_from equal all every
returns-then-w-eq-PARAGRAP_WORD c =
    let head_of : HeadIs c.args.s.now c.head-w.result = head-is _ _ c.type_inv.s c.head-w.ensures in
    let d = c in
    c.tail_step-then-w-eq-PARAGRAP_WORD.ensures ∙ front-there 9 categories _ _ 3 refl refl refl refl (λ m e. rw e) head_of d.if-w-eq-PARAGRAP_WORD.true

pub returns-then-w-eq-MILESTON_WORD : goal.returns-then-w-eq-MILESTON_WORD
unfolding ascii categories code_from equal all every
returns-then-w-eq-MILESTON_WORD c =
    let head_of : HeadIs c.args.s.now c.head-w.result = head-is _ _ c.type_inv.s c.head-w.ensures in
    let d = c in
    c.tail_step-then-w-eq-MILESTON_WORD.ensures ∙ front-there 9 categories _ _ 6 refl refl refl refl (λ m e. rw e) head_of d.if-w-eq-MILESTON_WORD.true

pub returns-then-w-eq-IDENTIFI_WORD : goal.returns-then-w-eq-IDENTIFI_WORD
unfolding ascii categories code_from equal all every
returns-then-w-eq-IDENTIFI_WORD c =
    let head_of : HeadIs c.args.s.now c.head-w.result = head-is _ _ c.type_inv.s c.head-w.ensures in
    let d = c in
    c.tail_step-then-w-eq-IDENTIFI_WORD.ensures ∙ front-there 9 categories _ _ 0 refl refl refl refl (λ m e. rw e) head_of d.if-w-eq-IDENTIFI_WORD.true

pub returns-then-w-eq-CHAPTER_WORD : goal.returns-then-w-eq-CHAPTER_WORD
unfolding ascii categories code_from equal all every
returns-then-w-eq-CHAPTER_WORD c =
    let head_of : HeadIs c.args.s.now c.head-w.result = head-is _ _ c.type_inv.s c.head-w.ensures in
    front-there 9 categories _ _ 1 refl refl refl refl (λ m e. absurd (false≢true (sym e))) head_of c.if-w-eq-CHAPTER_WORD.true

pub returns-then-starts_with : goal.returns-then-starts_with
unfolding ascii categories code_from equal all
returns-then-starts_with c = line-there 9 _ (code_from 0 categories) (get_or categories 2 []) refl (sym c.starts_with.ensures ∙ c.if-starts_with.true)

pub returns-then-starts_with-2 : goal.returns-then-starts_with-2
unfolding ascii categories code_from equal all
returns-then-starts_with-2 c = line-there 9 _ (code_from 0 categories) (get_or categories 5 []) refl (sym c.starts_with-2.ensures ∙ c.if-starts_with-2.true)

pub returns-then-starts_with-3 : goal.returns-then-starts_with-3
unfolding ascii categories code_from equal all
returns-then-starts_with-3 c = line-there 9 _ (code_from 0 categories) (get_or categories 7 []) refl (sym c.starts_with-3.ensures ∙ c.if-starts_with-3.true)

pub returns : goal.returns
unfolding ascii categories code_from equal all every
returns c =
    let head_of : HeadIs c.args.s.now c.head-w.result = head-is _ _ c.type_inv.s c.head-w.ensures in
    let d = c in
    let e = d in
    let f = e in
    let t = head_of in
    words-absent 9 _ 0 categories refl
    (rw (
      t.differs (front (get_or categories 0 [])) refl f.if-w-eq-IDENTIFI_WORD.false,
      t.differs (front (get_or categories 1 [])) refl f.if-w-eq-CHAPTER_WORD.false,
      sym e.starts_with.ensures ∙ e.if-starts_with.false,
      t.differs (front (get_or categories 3 [])) refl f.if-w-eq-PARAGRAP_WORD.false,
      t.differs (front (get_or categories 4 [])) refl f.if-w-eq-CHARACTE_WORD.false,
      sym d.starts_with-2.ensures ∙ d.if-starts_with-2.false,
      t.differs (front (get_or categories 6 [])) refl f.if-w-eq-MILESTON_WORD.false,
      sym c.starts_with-3.ensures ∙ c.if-starts_with-3.false,
    ))
