-- `marker_checks::visit_marker` meets its contract.
use mathlib.Core.Path.{sym, ap, ◌∙◌}
use Prim.Native.Nat.{ℕ}
use mathlib.Core.List.{List, ◌++◌}
use Rattle.tape.specs.Forest.{forest}
use Rattle.table.specs.Entries.{entry_of_info}
use Rattle.cursor.proofs.Runs.{run-below, run-spanned}
use Rattle.findings.specs.Finding.{Finding}
use Rattle.definition.specs.Checks.{Check, given}
use Rattle.state.specs.Inner.{context_of, anchor_of, starts_for}
use Rattle.state.specs.declared.State.{State}
use Rattle.marker_checks.proofs.Children.{children}
use Rattle.marker_checks.proofs.Whole.{id_part, place_part, content_part, row_part, attribute_part, room-id, room-place, room-content, room_row, room-attributes, wrote-all, own_room, marked}
use Rattle.text.specs.Literal.{ascii}
use Rattle.findings.specs.Inner.{Room}
use Rattle.marker_checks.proofs.visit_marker.Goals as goal

pub name-name-requires : goal.name-name-requires
name-name-requires c = c.requires.0

pub link_at-link-requires : goal.link_at-link-requires
link_at-link-requires c =
    let a = c.args in
    let p = c.requires in
    run-below a.doc.source.now a.doc.tape.now a.i a.to p.1 p.2

pub after_id-next-requires : goal.after_id-next-requires
after_id-next-requires c =
    let a = c.args in
    let p = c.requires in
    let k = c.link_at-link in
    children a.doc.source.now a.doc.tape.now a.i a.to p.1 p.2 p.3 k.result k.ensures

pub id_findings-c-requires : goal.id_findings-c-requires
unfolding ascii
id_findings-c-requires c =
    let ids : List Check = let a = c.args in id_part a.doc.source.now a.doc.tape.now a.i a.rec c.link_at-link.result c.equal-named.result in
    let placed : List Check = let a = c.args in place_part a.doc.source.now a.doc.tape.now a.i a.to (context_of a.context) (entry_of_info a.m) c.name-name.result.now c.after_id-next.result in
    let content : List Check = let a = c.args in content_part a.doc.source.now a.doc.tape.now a.i c.name-name.result.now c.link_at-link.result in
    let row : List Finding = let a = c.args in row_part a.doc.source.now a.doc.tape.now a.i c.name-name.result.now c.link_at-link.result in
    let attributes : List Finding = let a = c.args in attribute_part a.doc.source.now a.doc.tape.now a.i c.link_at-link.result in
    let room : Room c.counts-c.result (given (ids ++ placed ++ content) ++ row ++ attributes) = let a = c.args in let n = c.name-name in let k = c.link_at-link in let d = c.equal-named in let f = c.after_id-next in own_room a.table.now a.doc.source.now a.doc.tape.now a.i a.to (context_of a.context) (entry_of_info a.m) a.rec n.result.now k.result d.result f.result n.ensures k.ensures d.ensures f.ensures c.counts-c.result c.counts-c.ensures c.requires.5 in
    let a = c.args in
    let p = c.requires in
    let k = c.link_at-link in
    let s = c in
    (run-below a.doc.source.now a.doc.tape.now a.i a.to p.1 p.2, children a.doc.source.now a.doc.tape.now a.i a.to p.1 p.2 p.3 k.result k.ensures, room-id ids placed content row attributes a.list.now c.counts-c.result room)

pub place_findings-c-requires : goal.place_findings-c-requires
unfolding ascii
place_findings-c-requires c =
    let ids : List Check = let a = c.args in id_part a.doc.source.now a.doc.tape.now a.i a.rec c.link_at-link.result c.equal-named.result in
    let placed : List Check = let a = c.args in place_part a.doc.source.now a.doc.tape.now a.i a.to (context_of a.context) (entry_of_info a.m) c.name-name.result.now c.after_id-next.result in
    let content : List Check = let a = c.args in content_part a.doc.source.now a.doc.tape.now a.i c.name-name.result.now c.link_at-link.result in
    let row : List Finding = let a = c.args in row_part a.doc.source.now a.doc.tape.now a.i c.name-name.result.now c.link_at-link.result in
    let attributes : List Finding = let a = c.args in attribute_part a.doc.source.now a.doc.tape.now a.i c.link_at-link.result in
    let room : Room c.counts-c.result (given (ids ++ placed ++ content) ++ row ++ attributes) = let a = c.args in let n = c.name-name in let k = c.link_at-link in let d = c.equal-named in let f = c.after_id-next in own_room a.table.now a.doc.source.now a.doc.tape.now a.i a.to (context_of a.context) (entry_of_info a.m) a.rec n.result.now k.result d.result f.result n.ensures k.ensures d.ensures f.ensures c.counts-c.result c.counts-c.ensures c.requires.5 in
    let a = c.args in
    let p = c.requires in
    let s = c in
    (p.1, p.2, p.3, p.4 ∙ ap (λ (j : ℕ). starts_for (anchor_of a.doc.source.now a.doc.tape.now j a.i) (forest a.doc.source.now a.doc.tape.now a.i a.to)) (sym (ap (λ (q : State). q.anchor) c.after_id-next.ensures)), room-place ids placed content row attributes a.list.now c.counts-c.result room c.id_findings-c.new.list c.id_findings-c.result c.id_findings-c.ensures)

pub content_findings-c-requires : goal.content_findings-c-requires
unfolding ascii
content_findings-c-requires c =
    let ids : List Check = let a = c.args in id_part a.doc.source.now a.doc.tape.now a.i a.rec c.link_at-link.result c.equal-named.result in
    let placed : List Check = let a = c.args in place_part a.doc.source.now a.doc.tape.now a.i a.to (context_of a.context) (entry_of_info a.m) c.name-name.result.now c.after_id-next.result in
    let content : List Check = let a = c.args in content_part a.doc.source.now a.doc.tape.now a.i c.name-name.result.now c.link_at-link.result in
    let row : List Finding = let a = c.args in row_part a.doc.source.now a.doc.tape.now a.i c.name-name.result.now c.link_at-link.result in
    let attributes : List Finding = let a = c.args in attribute_part a.doc.source.now a.doc.tape.now a.i c.link_at-link.result in
    let room : Room c.counts-c.result (given (ids ++ placed ++ content) ++ row ++ attributes) = let a = c.args in let n = c.name-name in let k = c.link_at-link in let d = c.equal-named in let f = c.after_id-next in own_room a.table.now a.doc.source.now a.doc.tape.now a.i a.to (context_of a.context) (entry_of_info a.m) a.rec n.result.now k.result d.result f.result n.ensures k.ensures d.ensures f.ensures c.counts-c.result c.counts-c.ensures c.requires.5 in
    let a = c.args in
    let p = c.requires in
    let k = c.link_at-link in
    let s = c in
    (run-below a.doc.source.now a.doc.tape.now a.i a.to p.1 p.2, children a.doc.source.now a.doc.tape.now a.i a.to p.1 p.2 p.3 k.result k.ensures, room-content ids placed content row attributes a.list.now c.counts-c.result room c.id_findings-c.new.list c.id_findings-c.result c.id_findings-c.ensures c.place_findings-c.new.list c.place_findings-c.result c.place_findings-c.ensures)

pub row_findings-c-requires : goal.row_findings-c-requires
unfolding ascii
row_findings-c-requires c =
    let ids : List Check = let a = c.args in id_part a.doc.source.now a.doc.tape.now a.i a.rec c.link_at-link.result c.equal-named.result in
    let placed : List Check = let a = c.args in place_part a.doc.source.now a.doc.tape.now a.i a.to (context_of a.context) (entry_of_info a.m) c.name-name.result.now c.after_id-next.result in
    let content : List Check = let a = c.args in content_part a.doc.source.now a.doc.tape.now a.i c.name-name.result.now c.link_at-link.result in
    let row : List Finding = let a = c.args in row_part a.doc.source.now a.doc.tape.now a.i c.name-name.result.now c.link_at-link.result in
    let attributes : List Finding = let a = c.args in attribute_part a.doc.source.now a.doc.tape.now a.i c.link_at-link.result in
    let room : Room c.counts-c.result (given (ids ++ placed ++ content) ++ row ++ attributes) = let a = c.args in let n = c.name-name in let k = c.link_at-link in let d = c.equal-named in let f = c.after_id-next in own_room a.table.now a.doc.source.now a.doc.tape.now a.i a.to (context_of a.context) (entry_of_info a.m) a.rec n.result.now k.result d.result f.result n.ensures k.ensures d.ensures f.ensures c.counts-c.result c.counts-c.ensures c.requires.5 in
    let a = c.args in
    let p = c.requires in
    let k = c.link_at-link in
    let s = c in
    (children a.doc.source.now a.doc.tape.now a.i a.to p.1 p.2 p.3 k.result k.ensures, room_row ids placed content row attributes a.list.now c.counts-c.result room c.id_findings-c.new.list c.id_findings-c.result c.id_findings-c.ensures c.place_findings-c.new.list c.place_findings-c.result c.place_findings-c.ensures c.content_findings-c.new.list c.content_findings-c.result c.content_findings-c.ensures)

pub validate_attributes-c-requires : goal.validate_attributes-c-requires
unfolding ascii
validate_attributes-c-requires c =
    let ids : List Check = let a = c.args in id_part a.doc.source.now a.doc.tape.now a.i a.rec c.link_at-link.result c.equal-named.result in
    let placed : List Check = let a = c.args in place_part a.doc.source.now a.doc.tape.now a.i a.to (context_of a.context) (entry_of_info a.m) c.name-name.result.now c.after_id-next.result in
    let content : List Check = let a = c.args in content_part a.doc.source.now a.doc.tape.now a.i c.name-name.result.now c.link_at-link.result in
    let row : List Finding = let a = c.args in row_part a.doc.source.now a.doc.tape.now a.i c.name-name.result.now c.link_at-link.result in
    let attributes : List Finding = let a = c.args in attribute_part a.doc.source.now a.doc.tape.now a.i c.link_at-link.result in
    let room : Room c.counts-c.result (given (ids ++ placed ++ content) ++ row ++ attributes) = let a = c.args in let n = c.name-name in let k = c.link_at-link in let d = c.equal-named in let f = c.after_id-next in own_room a.table.now a.doc.source.now a.doc.tape.now a.i a.to (context_of a.context) (entry_of_info a.m) a.rec n.result.now k.result d.result f.result n.ensures k.ensures d.ensures f.ensures c.counts-c.result c.counts-c.ensures c.requires.5 in
    let a = c.args in
    let p = c.requires in
    let k = c.link_at-link in
    let s = c in
    (children a.doc.source.now a.doc.tape.now a.i a.to p.1 p.2 p.3 k.result k.ensures, run-spanned a.doc.source.now a.doc.tape.now a.i a.to p.1 p.2, room-attributes ids placed content row attributes a.list.now c.counts-c.result room c.id_findings-c.new.list c.id_findings-c.result c.id_findings-c.ensures c.place_findings-c.new.list c.place_findings-c.result c.place_findings-c.ensures c.content_findings-c.new.list c.content_findings-c.result c.content_findings-c.ensures c.row_findings-c.new.list c.row_findings-c.result c.row_findings-c.ensures)

pub returns : goal.returns
unfolding ascii
returns c =
    let ids : List Check = let a = c.args in id_part a.doc.source.now a.doc.tape.now a.i a.rec c.link_at-link.result c.equal-named.result in
    let placed : List Check = let a = c.args in place_part a.doc.source.now a.doc.tape.now a.i a.to (context_of a.context) (entry_of_info a.m) c.name-name.result.now c.after_id-next.result in
    let content : List Check = let a = c.args in content_part a.doc.source.now a.doc.tape.now a.i c.name-name.result.now c.link_at-link.result in
    let row : List Finding = let a = c.args in row_part a.doc.source.now a.doc.tape.now a.i c.name-name.result.now c.link_at-link.result in
    let attributes : List Finding = let a = c.args in attribute_part a.doc.source.now a.doc.tape.now a.i c.link_at-link.result in
    let room : Room c.counts-c.result (given (ids ++ placed ++ content) ++ row ++ attributes) = let a = c.args in let n = c.name-name in let k = c.link_at-link in let d = c.equal-named in let f = c.after_id-next in own_room a.table.now a.doc.source.now a.doc.tape.now a.i a.to (context_of a.context) (entry_of_info a.m) a.rec n.result.now k.result d.result f.result n.ensures k.ensures d.ensures f.ensures c.counts-c.result c.counts-c.ensures c.requires.5 in
    let a = c.args in
    let n = c.name-name in
    let k = c.link_at-link in
    let d = c.equal-named in
    let f = c.after_id-next in
    let z = c.counts-c in
    let s = c in
    let v = c.validate_attributes-c in
    let all = wrote-all ids placed content row attributes a.list.now z.result room c.id_findings-c.new.list c.id_findings-c.result c.id_findings-c.ensures c.place_findings-c.new.list c.place_findings-c.result c.place_findings-c.ensures c.content_findings-c.new.list c.content_findings-c.result c.content_findings-c.ensures c.row_findings-c.new.list c.row_findings-c.result c.row_findings-c.ensures _ v.result v.ensures in
    marked a.table.now a.doc.source.now a.doc.tape.now a.i a.to (context_of a.context) (entry_of_info a.m) a.rec n.result.now k.result d.result f.result n.ensures k.ensures d.ensures f.ensures a.list.now _ z.result v.result c.with_counts.result z.ensures c.with_counts.ensures all
