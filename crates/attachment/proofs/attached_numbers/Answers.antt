-- `attachment::attached_numbers` meets its contract.
use mathlib.Core.Path.{refl, sym, ap, ◌∙◌}
use Rattle.cursor.specs.InnerTurn.{left}
use Rattle.cursor.proofs.InTurn.{turn, last-turn}
use Rattle.attachment.proofs.Steps.{going_start, going-blank, going-stop, going-few, going-children, going-last, going_next, going_end}
use Rattle.attachment.proofs.attached_numbers.Goals as goal

pub loop-i-init : goal.loop-i-init
loop-i-init c =
    let e = c.into_iter-i-iterator.ensures.into_iter_gives in
    let a = c.args in
    (rw e c.new-i-items.ensures.run, tt, record { at = a.from; items = ap left e ∙ c.new-i-items.ensures.items; fact = going_start a.doc.source.now a.doc.tape.now a.kind a.from a.to c.requires })

pub is_blank-requires : goal.is_blank-requires
is_blank-requires c = (turn (λ i g. g.run) c.loop-i.invariant.2 c.in-Some.ensures.steps).spanned

pub loop-i-preserved-then-is_blank : goal.loop-i-preserved-then-is_blank
loop-i-preserved-then-is_blank c =
    let h = turn (λ i g. g.run) c.loop-i.invariant.2 c.in-Some.ensures.steps in
    (c.in-Some.ensures.goes.keeps, tt, record { at = _; items = h.rest; fact = going-blank _ _ _ _ _ _ _ _ _ h.fact h.more _ (sym c.is_blank.ensures ∙ c.if-is_blank.true) refl })

pub claims_at-requires : goal.claims_at-requires
claims_at-requires c = (turn (λ i g. g.run) c.loop-i.invariant.2 c.in-Some.ensures.steps).spanned

pub returns-then-not-claims_at : goal.returns-then-not-claims_at
returns-then-not-claims_at c =
    let h = turn (λ i g. g.run) c.loop-i.invariant.2 c.in-Some.ensures.steps in
    going-stop _ _ _ _ _ _ _ _ _ h.fact h.more (sym c.is_blank.ensures ∙ c.if-is_blank.false) (sym c.claims_at.ensures ∙ c.if-not-claims_at.true)

pub start_at-requires : goal.start_at-requires
start_at-requires c = (turn (λ i g. g.run) c.loop-i.invariant.2 c.in-Some.ensures.steps).spanned.inside

pub added-found-requires : goal.added-found-requires
added-found-requires c =
    let h = turn (λ i g. g.run) c.loop-i.invariant.2 c.in-Some.ensures.steps in
    going-few _ _ _ _ _ _ _ _ _ h.fact h.more (sym c.claims_at.ensures ∙ c.if-not-claims_at.false)

pub link_at-requires : goal.link_at-requires
link_at-requires c = (turn (λ i g. g.run) c.loop-i.invariant.2 c.in-Some.ensures.steps).spanned.inside

pub is_plain_text-requires : goal.is_plain_text-requires
is_plain_text-requires c =
    let h = turn (λ i g. g.run) c.loop-i.invariant.2 c.in-Some.ensures.steps in
    going-children _ _ _ _ _ _ _ _ _ h.fact h.more (sym c.claims_at.ensures ∙ c.if-not-claims_at.false) _ c.link_at.ensures

pub returns-then-not-is_plain_text : goal.returns-then-not-is_plain_text
returns-then-not-is_plain_text c =
    let h = turn (λ i g. g.run) c.loop-i.invariant.2 c.in-Some.ensures.steps in
    going-last _ _ _ _ _ _ _ _ _ h.fact h.more (sym c.claims_at.ensures ∙ c.if-not-claims_at.false) _ _ _ c.start_at.ensures c.link_at.ensures c.added-found.ensures
    (sym c.is_plain_text.ensures ∙ c.if-not-is_plain_text.true)

pub marker_name-name-requires : goal.marker_name-name-requires
marker_name-name-requires c = (turn (λ i g. g.run) c.loop-i.invariant.2 c.in-Some.ensures.steps).spanned

pub loop-i-preserved : goal.loop-i-preserved
loop-i-preserved c =
    let h = turn (λ i g. g.run) c.loop-i.invariant.2 c.in-Some.ensures.steps in
    let n = c.marker_name-name.ensures in
    let next = going_next _ _ _ _ _ _ _ _ _ h.fact h.more (sym c.claims_at.ensures ∙ c.if-not-claims_at.false) _ _ _ c.start_at.ensures c.link_at.ensures c.added-found.ensures _ _ _
    (sym c.is_plain_text.ensures ∙ c.if-not-is_plain_text.false) (rw (c.is_alternate-alt.ensures, n)) (rw (c.is_published-pubn.ensures, n)) refl in
    (c.in-Some.ensures.goes.keeps, tt, record { at = _; items = h.rest; fact = next })

pub returns : goal.returns
returns c =
    let p = c.loop-i.invariant.2 in
    going_end _ _ _ _ _ _ _ _ p.at p.fact (last-turn (λ i g. g.run) p c.in-None.ensures.steps.0)
