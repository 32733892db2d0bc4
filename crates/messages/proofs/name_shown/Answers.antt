-- `messages::name_shown` meets its contract.
use mathlib.Core.Path.{sym, ap, ◌∙◌}
use borrow.Author.Tests.{not-true, not-false}
use Rattle.table.specs.Entries.{info_of, entry_of_info}
use Rattle.messages.proofs.Shown.{entry-sound}
use Rattle.messages.proofs.name_shown.Goals as goal

pub returns-then-not-shows_entry : goal.returns-then-not-shows_entry
returns-then-not-shows_entry c = rw (sym c.shows_entry.ensures ∙ not-true _ c.if-not-shows_entry.true-raw) c.marker_name.ensures

pub name-requires : goal.name-requires
name-requires c =
    let s = c in
    let a = s.args in
    let k = c.marker_info in
    (entry-sound a.table.now a.index.now a.entries s.requires.0 a.doc.tape.now a.i (entry_of_info c.in-Some.m) (sym k.ensures ∙ ap info_of c.in-Some.is)).inside

pub returns-in-Some : goal.returns-in-Some
returns-in-Some c =
    let e = c.shows_entry in
    let k = c.marker_info in
    rw (sym e.ensures ∙ not-false _ c.if-not-shows_entry.false-raw, sym k.ensures ∙ ap info_of c.in-Some.is) c.name.ensures

pub returns-in-None : goal.returns-in-None
returns-in-None c =
    let e = c.shows_entry in
    let k = c.marker_info in
    rw (sym e.ensures ∙ not-false _ c.if-not-shows_entry.false-raw, sym k.ensures ∙ ap info_of c.in-None.is)
