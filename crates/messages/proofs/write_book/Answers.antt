-- `messages::write_book` meets its contract.
use mathlib.Core.Path.{◌≡◌, sym, ◌∙◌}
use mathlib.Core.Bool.{true}
use mathlib.Core.List.{[]}
use native.Mathlib.Omega.{arith}
use Prim.Native.Nat.{◌+◌}
use borrow.Author.Tests.{eq-eqb, ne_eqb}
use Rattle.tape.specs.Nodes.{kind_at, is_open, marker_open_kind}
use Rattle.cursor.specs.Inner.{Run}
use Rattle.cursor.proofs.Runs.{run_inside}
use Rattle.message_texts.specs.Texts as texts
use Rattle.messages.proofs.Values.{holes-5, written-with, written-lacks}
use Rattle.messages.proofs.Shown.{no-open, no_code, code-shown, open-later}
use Rattle.messages.proofs.Parts.{code_inside}
use Rattle.messages.specs.Answer.{request_by}
use Rattle.messages.proofs.write_book.Goals as goal

pub returns-then-kind_at-ne-MARKER_OPEN : goal.returns-then-kind_at-ne-MARKER_OPEN
returns-then-kind_at-ne-MARKER_OPEN c =
    let s = c in
    let a = s.args in
    let q = request_by a.q in
    let n = c.if-kind_at-ne-MARKER_OPEN.true in
    let k = c.kind_at.ensures in
    λ table. written-lacks table a.doc.source.now a.doc.tape.now q texts.book_code texts.empty texts.empty (holes-5 q.code s.requires.3) (no-open table a.doc.source.now a.doc.tape.now q (ne_eqb (kind_at a.doc.tape.now q.node) 1 (λ e. n (k ∙ e)))) a.out.now

pub book_code-code-requires : goal.book_code-code-requires
book_code-code-requires c =
    let is_open_lem : is_open (kind_at c.args.doc.tape.now c.args.q.node) ≡ true = let s = c in eq-eqb (kind_at s.args.doc.tape.now s.args.q.node) marker_open_kind (sym c.kind_at.ensures ∙ c.if-kind_at-ne-MARKER_OPEN.false) in
    let run : Run c.args.doc.source.now c.args.doc.tape.now (c.args.q.node + 1) c.link_at.result = let s = c in let a = s.args in let o = is_open_lem in rw c.link_at.ensures (run_inside a.doc.source.now a.doc.tape.now a.q.node s.requires.0 (open-later a.doc.source.now a.doc.tape.now a.q.node s.requires.0 s.requires.2 o) s.requires.2 o) in
    run

pub returns-then-code-eq0 : goal.returns-then-code-eq0
returns-then-code-eq0 c =
    let is_open_lem : is_open (kind_at c.args.doc.tape.now c.args.q.node) ≡ true = let s = c in eq-eqb (kind_at s.args.doc.tape.now s.args.q.node) marker_open_kind (sym c.kind_at.ensures ∙ c.if-kind_at-ne-MARKER_OPEN.false) in
    let b = c in
    let s = b in
    let a = s.args in
    let q = request_by a.q in
    let e = rw b.link_at.ensures at b.book_code-code.ensures in
    λ table. written-lacks table a.doc.source.now a.doc.tape.now q texts.book_code texts.empty texts.empty (holes-5 q.code s.requires.3) (no_code table a.doc.source.now a.doc.tape.now q b.book_code-code.result.now e is_open_lem c.if-code-eq0.true) a.out.now

pub write_text-requires : goal.write_text-requires
write_text-requires c =
    let is_open_lem : is_open (kind_at c.args.doc.tape.now c.args.q.node) ≡ true = let s = c in eq-eqb (kind_at s.args.doc.tape.now s.args.q.node) marker_open_kind (sym c.kind_at.ensures ∙ c.if-kind_at-ne-MARKER_OPEN.false) in
    let run : Run c.args.doc.source.now c.args.doc.tape.now (c.args.q.node + 1) c.link_at.result = let s = c in let a = s.args in let o = is_open_lem in rw c.link_at.ensures (run_inside a.doc.source.now a.doc.tape.now a.q.node s.requires.0 (open-later a.doc.source.now a.doc.tape.now a.q.node s.requires.0 s.requires.2 o) s.requires.2 o) in
    let b = c in
    let s = b in
    let a = s.args in
    let l = code_inside a.doc.source.now a.doc.tape.now (a.q.node + 1) b.link_at.result b.book_code-code.result.now run b.book_code-code.ensures in
    record { a_short = omega (arith, l, s.requires.1); b_short = omega arith; c_short = omega arith }

pub returns : goal.returns
returns c =
    let is_open_lem : is_open (kind_at c.args.doc.tape.now c.args.q.node) ≡ true = let s = c in eq-eqb (kind_at s.args.doc.tape.now s.args.q.node) marker_open_kind (sym c.kind_at.ensures ∙ c.if-kind_at-ne-MARKER_OPEN.false) in
    let p = c in
    let f = p in
    let b = f in
    let s = b in
    let a = s.args in
    let q = request_by a.q in
    let e = rw b.link_at.ensures at b.book_code-code.ensures in
    λ table. written-with table a.doc.source.now a.doc.tape.now q texts.book_code texts.empty texts.empty (holes-5 q.code s.requires.3) b.book_code-code.result.now [] [] (code-shown table a.doc.source.now a.doc.tape.now q b.book_code-code.result.now e is_open_lem f.if-code-eq0.false) a.out.now p.write_text.new.out p.write_text.result p.write_text.ensures
