-- `table::is_note_only_marker` meets its contract: the words of the constant are the words of the definition, and all begin with one of two letters.
use Rattle.std.proofs.Common.{◌≡◌, ◌≤◌, ◌∙◌, sym, ap, length, get_or, rules, arith}
use lib.ListN.{get_or-eq_default}
use Rattle.table.specs.Names.{note_only}
use Rattle.table.specs.Inner.{lines_of}
use Rattle.text.specs.Pick.{known}
use Rattle.table.proofs.Words.{one-of, not_noted}
use Rattle.text.specs.Literal.{ascii}
use Rattle.table.proofs.is_note_only_marker.Goals as goal
use Rattle.table.proofs.is_note_only_marker.Goals.{in-102, in_default, in_default-2}

pub returns-then-matches : goal.returns-then-matches
unfolding ascii lines_of note_only
returns-then-matches c = c.is_some.ensures ∙ ap known c.word_in.ensures ∙ sym (one-of note_only _ 0)

pub returns-else-matches : goal.returns-else-matches
returns-else-matches c =
    let s = c.args.name.now in
    elim c.if-matches-2.branch [
      | in-102 w ↦ cc
      | in_default w ↦ let h : length s ≤ 0 = omega arith in let z : get_or s 0 0 ≡ 0 = get_or-eq_default s 0 h in w.matches-is ∙ not_noted s (λ e. omega arith) (λ e. omega arith)
      | in_default-2 w ↦ w.matches-is ∙ not_noted s (λ e. search rules) (λ e. search rules)
    ]
