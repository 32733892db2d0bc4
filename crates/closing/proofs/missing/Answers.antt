-- `closing::missing` meets its contract.
use Rattle.std.proofs.Common.{[], ◌∷◌, refl}
use Rattle.chapter_verse.proofs.Givens.{due-start, due-room, due-wrote, due-end}
use Rattle.closing.specs.Inner.{missing_checks}
use Rattle.closing.proofs.Lacking.{no_id, no_chapter}
use Rattle.closing.proofs.missing.Goals as goal

pub push_if-first-requires : goal.push_if-first-requires
push_if-first-requires c =
    let r = c.args.rec in
    due-room (no_id r) (no_chapter r ∷ []) _ _ c.lacks_id.ensures c.of_document.ensures (due-start (missing_checks r) c.args.list.now c.args.c _ refl c.requires)

pub push_if-requires : goal.push_if-requires
push_if-requires c =
    let r = c.args.rec in
    due-room (no_chapter r) [] _ _ c.lacks_chapter.ensures c.of_document-2.ensures
    (due-wrote (no_id r) (no_chapter r ∷ []) _ _ c.lacks_id.ensures c.of_document.ensures (due-start (missing_checks r) c.args.list.now c.args.c _ refl c.requires) c.push_if-first.ensures)

pub returns : goal.returns
returns c =
    let r = c.args.rec in
    due-end (due-wrote (no_chapter r) [] _ _ c.lacks_chapter.ensures c.of_document-2.ensures
    (due-wrote (no_id r) (no_chapter r ∷ []) _ _ c.lacks_id.ensures c.of_document.ensures (due-start (missing_checks r) c.args.list.now c.args.c _ refl c.requires) c.push_if-first.ensures) c.push_if.ensures)
