-- `attributes::attribute_at` meets its contract.
use borrow.Author.Tests.{ne_eqb}
use mathlib.Core.Path.{◌≡◌, sym, ◌∙◌}
use Rattle.attributes.proofs.Whole.{of-attribute}
use Rattle.attributes.specs.Attributes.{findings_at, attribute_kinds}
use Rattle.attributes.specs.Inner.{of_node}
use Rattle.cursor.specs.Names.{name_of}
use Rattle.findings.proofs.Overlay.{wrote_none}
use Rattle.tape.specs.Nodes.{kind_at, node_at, attribute_kind}
use Rattle.attributes.proofs.attribute_at.Goals as goal

pub returns-then-kind_at-ne-ATTRIBUTE : goal.returns-then-kind_at-ne-ATTRIBUTE
returns-then-kind_at-ne-ATTRIBUTE c =
    let a = c.args in
    rw (ne_eqb (kind_at a.doc.tape.now a.i) attribute_kind (λ e. c.if-kind_at-ne-ATTRIBUTE.true (c.kind_at.ensures ∙ e))) (wrote_none a.list.now a.c)

pub validate_attribute-requires : goal.validate_attribute-requires
validate_attribute-requires c =
    let is-node : let a = c.args in let s = c.span-span in findings_at s.result.start s.result.len a.i a.owner (attribute_kinds (name_of c.text-marker.result.now) c.text.result.now) ≡ of_node a.owner (name_of (node_at a.doc.source.now a.doc.tape.now a.owner).text) (node_at a.doc.source.now a.doc.tape.now a.i) = let a = c.args in let s = c.span-span in of-attribute a.owner c.text-marker.result.now a.doc.source.now a.doc.tape.now a.i s.result.start s.result.len c.text.result.now c.text-marker.ensures (sym c.kind_at.ensures ∙ c.if-kind_at-ne-ATTRIBUTE.false) s.ensures.0 s.ensures.1 c.text.ensures in
    rw is-node c.requires.2

pub returns : goal.returns
returns c =
    let is-node : let a = c.args in let s = c.span-span in findings_at s.result.start s.result.len a.i a.owner (attribute_kinds (name_of c.text-marker.result.now) c.text.result.now) ≡ of_node a.owner (name_of (node_at a.doc.source.now a.doc.tape.now a.owner).text) (node_at a.doc.source.now a.doc.tape.now a.i) = let a = c.args in let s = c.span-span in of-attribute a.owner c.text-marker.result.now a.doc.source.now a.doc.tape.now a.i s.result.start s.result.len c.text.result.now c.text-marker.ensures (sym c.kind_at.ensures ∙ c.if-kind_at-ne-ATTRIBUTE.false) s.ensures.0 s.ensures.1 c.text.ensures in
    rw (← is-node) c.validate_attribute.ensures
