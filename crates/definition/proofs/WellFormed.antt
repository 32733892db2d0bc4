-- In a document that no number turns back the text of each node from 1 on is well-formed, and so are its name and the label of a Chapter or a Verse. Number 6's test is that the span leaves the source or splits a character.
-- Assumes nothing.
use Prim.Native.Nat.{ℕ, ◌+◌, ◌<◌, ◌≤◌}
use native.Mathlib.Omega.{arith}
use mathlib.Core.Path.{◌≡◌, refl, sym, ap, ◌∙◌}
use mathlib.Core.Bool.{Bool, true, false, not, ◌&&◌, ◌||◌}
use mathlib.Core.List.{List}
use Rattle.std.specs.Prelude.{Option, Some, None}
use borrow.Author.Tests.{not-false}
use lib.Dec.{ltb}
use lib.ListN.{length}
use Rattle.text.specs.Utf8.{first_ill_formed, Made}
use Rattle.text.specs.Characters.{chars, between, is_boundary}
use Rattle.text.proofs.Bool.{or_parts}
use Rattle.text.proofs.Exact.{utf8-exact}
use Rattle.text.proofs.Boundary.{boundary}
use Rattle.text.proofs.WellFormed.{made-part}
use Rattle.refusals.specs.Refusal.{or_else}
use Rattle.refusals.proofs.First.{refused, neither}
use Rattle.tape.specs.Nodes.{count, kind_at, start_at, len_at, node_at}
use Rattle.tape.specs.Reading.{bad_span}
use Rattle.cursor.specs.Names.{name_of}
use Rattle.cursor.specs.Info.{info_at}
use Rattle.cursor.proofs.WellFormed.{made-name}
use Rattle.numbers.specs.Label.{label_of, splits, numbered, label_refusal}
use Rattle.numbers.proofs.NumberNine.{number-9-none}
use Rattle.numbers.proofs.WellFormed.{made-label}
use Rattle.definition.specs.Outcome.{Lent, of1, of2, of3, of_tape, of9, of10, refusal}
use Rattle.refusals.specs.Refusal.{at_place}
use Rattle.definition.proofs.Demand3.{checked-accepted}

-- number 6's test: the span leaves the source, or one of its ends lies inside a character
pub span-is : (s t : List ℕ) (i : ℕ) → first_ill_formed s ≡ None → bad_span s t i ≡ (ltb (length s) (start_at t i + len_at t i) || (not (between (chars s) (start_at t i)) || not (between (chars s) (start_at t i + len_at t i))))
span-is s t i e =
    let m = (utf8-exact s).0 e in
    ap (λ (v : Bool). (ltb (length s) (start_at t i + len_at t i) || (not v || not (is_boundary s (start_at t i + len_at t i))))) (boundary m (start_at t i))
    ∙ ap (λ (v : Bool). (ltb (length s) (start_at t i + len_at t i) || (not (between (chars s) (start_at t i)) || not v))) (boundary m (start_at t i + len_at t i))

pub no_place : (number : ℕ) (x : Option ℕ) → at_place number x ≡ None → x ≡ None
no_place number None e = refl
no_place number (Some place) e = refused _ e

-- a document that no number turns back
module _ (l : Lent) (e : refusal l ≡ None) where
  past-2 : or_else (of3 l) (or_else (of_tape l) (or_else (of9 l) (of10 l))) ≡ None
  unfolding refusal
  past-2 =
      let a = (neither (of1 l) (or_else (of2 l) (or_else (of3 l) (or_else (of_tape l) (or_else (of9 l) (of10 l))))) e).1 in
      (neither (of2 l) (or_else (of3 l) (or_else (of_tape l) (or_else (of9 l) (of10 l)))) a).1

  pub source-made : Made l.source
  source-made = (utf8-exact l.source).0 (no_place _ (first_ill_formed l.source) (neither (of3 l) (or_else (of_tape l) (or_else (of9 l) (of10 l))) past-2).0)

  no_9 : label_refusal l.table l.source l.tape ≡ None
  no_9 =
      let a = (neither (of3 l) (or_else (of_tape l) (or_else (of9 l) (of10 l))) past-2).1 in
      let b = (neither (of_tape l) (or_else (of9 l) (of10 l)) a).1 in
      (neither (of9 l) (of10 l) b).0

  -- a node of it, from 1 on
  module _ (i : ℕ) (h : 1 ≤ i) (k : i < count l.tape) where
    pub node_made : Made (node_at l.source l.tape i).text
    node_made =
        let s = l.source in
        let a = start_at l.tape i in
        let n = len_at l.tape i in
        let good = (or_parts (ltb (length s) (a + n)) _ ((checked-accepted l e).spans i h k)).1 in
        let ends = or_parts (not (is_boundary s a)) (not (is_boundary s (a + n))) good in
        made-part source-made a n (not-false _ ends.0) (not-false _ ends.1)

    pub name-made : Made (name_of (node_at l.source l.tape i).text)
    name-made = made-name node_made

    pub label-made : numbered (kind_at l.tape i) ≡ true → Made (label_of (info_at l.table l.tape i) (node_at l.source l.tape i).text)
    label-made y =
        let some-node : 1 ≤ count l.tape = omega arith in
        let good = (number-9-none l.table l.source l.tape some-node).0 no_9 i h k in
        let whole : splits (info_at l.table l.tape i) (node_at l.source l.tape i).text ≡ false = ap (λ (v : Bool). (v && splits (info_at l.table l.tape i) (node_at l.source l.tape i).text)) (sym y) ∙ good in
        made-label node_made (info_at l.table l.tape i) whole
