-- Demand 3 and the quotation account for the lists that the check writes; and which number is given.
-- Assumes nothing.
use Prim.Native.Nat.{ℕ, zero, suc, ◌+◌, ◌-◌, ◌*◌, ◌≤◌}
use native.Mathlib.Omega.{arith}
use native.Mathlib.Nat.{zero-add, sub-zero}
use mathlib.Core.Path.{◌≡◌, refl, sym, ap, ◌∙◌}
use mathlib.Core.Bool.{false, not, ◌&&◌}
use mathlib.Core.List.{List, [], ◌∷◌, ◌++◌, append_assoc, append-nil}
use mathlib.Core.Logic.{◌↔◌, ◌⊎◌, inl, inr}
use Rattle.std.specs.Prelude.{Some, None}
use lib.Dec.{ltb}
use lib.ListN.{length, take, drop, take-append-drop}
use lib.Seq.{take_at, take-append-add, length-take-le}
use Rattle.refusals.specs.Refusal.{Refusal, or_else}
use Rattle.tape.specs.Forest.{top}
use Rattle.tape.specs.Alike.{BeginAlike}
use Rattle.refusals.proofs.First.{which}
use Rattle.findings.specs.Finding.{Finding}
use Rattle.findings.specs.Written.{room, overlay, encode, findings_in}
use Rattle.findings.proofs.Overlay.{overlay-is, overlay-cut, encode-append, encode-length, findings-in-words}
use Rattle.tape.specs.Nodes.{node_at, link_at}
use Rattle.definition.specs.Milestones.{visits, marks, taken_from}
use Rattle.definition.specs.Document.{running, closing, walked, those, is_unclosed}
use Rattle.definition.specs.Account.{visited_starts, visited_ends, pairs_of, mismatches_of}
use Rattle.definition.specs.Outcome.{Lent, of1, of2, of3, of_tape, of9, of10, refusal, list_of, checked_of, list_after}
use Rattle.definition.proofs.Demand3.{longer-keeps-findings}
use Rattle.definition.proofs.Counted.{uncut-fits}
use Rattle.definition.proofs.Unclosed.{longer-unclosed}
use Rattle.definition.proofs.Paired.{quotation-account}

few : (n : ℕ) (fs : List Finding) → length (take n fs) ≤ n
few zero fs = omega arith
few (suc n) [] = omega arith
few (suc n) (f ∷ fs) = let h = few n fs in omega arith

-- a checked document's list: the words of the findings that fit, and then what was there
pub written-words : (l : Lent) → refusal l ≡ None → list_after l ≡ encode (take (room l.list) (list_of l)) ++ drop (8 * length (take (room l.list) (list_of l))) l.list
written-words l e =
    let fit = take (room l.list) (list_of l) in
    let h : 8 * (0 + length fit) ≤ length l.list = omega (arith, few (room l.list) (list_of l)) in
    rw e (overlay-cut l.list 0 (list_of l) ∙ ap (λ (n : ℕ). overlay l.list 0 (take n (list_of l))) (sub-zero (room l.list)) ∙ overlay-is l.list 0 fit h ∙ rw (zero-add (length fit)))

-- the words of the first k findings, if they fit
first-words : (l : Lent) (k : ℕ) (a b : List Finding) → refusal l ≡ None → list_of l ≡ a ++ b → length a ≡ k → k ≤ room l.list → take (8 * k) (list_after l) ≡ encode a
first-words l k a b e is n h =
    let r = room l.list - k in
    let q : room l.list ≡ length a + r = omega (arith, n) in
    let fit : take (room l.list) (list_of l) ≡ a ++ take r b = ap (λ (m : ℕ). take m (list_of l)) q ∙ ap (take (length a + r)) is ∙ take-append-add a b r in
    let z = drop (8 * length (take (room l.list) (list_of l))) l.list in
    rw (written-words l e)
    (ap (λ (fs : List Finding). take (8 * k) (encode fs ++ z)) fit
    ∙ rw (encode-append a (take r b), append_assoc (encode a) (encode (take r b)) z) (take_at (encode a) (encode (take r b) ++ z) (8 * k) (encode-length a ∙ ap (8 *◌) n)))

-- demand 3: the words of the shorter's findings, closing findings aside, begin both lists, as far as both have room
module _ (l l' : Lent) (same-table : l.table ≡ l'.table) (short : refusal l ≡ None) (long : refusal l' ≡ None) (alike : BeginAlike l.source l.tape l'.source l'.tape) where
  abbrev kept : List Finding
  kept = running l.table (top l.source l.tape)

  pub longer-keeps-words : (k : ℕ) → k ≤ length kept → k ≤ room l.list → k ≤ room l'.list → take (8 * k) (list_after l') ≡ take (8 * k) (list_after l)
  longer-keeps-words k h g g' =
      let b = longer-keeps-findings l l' same-table short long alike in
      let c = closing (walked l.table (top l.source l.tape)).state in
      let c' = closing (walked l'.table (top l'.source l'.tape)).state in
      let n = length-take-le k kept h in
      let cut : (more : List Finding) → kept ++ more ≡ take k kept ++ (drop k kept ++ more) = λ more. ap (◌++ more) (sym (take-append-drop k kept)) ∙ append_assoc (take k kept) (drop k kept) more in
      first-words l' k (take k kept) (drop k kept ++ (b.more ++ c')) long (ap (◌++ c') b.is ∙ append_assoc kept b.more c' ∙ cut (b.more ++ c')) n g'
      ∙ sym (first-words l k (take k kept) (drop k kept ++ c) short (cut c) n g)

-- the findings that a list's words are, where it isn't cut
abbrev pub written_findings : Lent → List Finding
written_findings l = findings_in (take (8 * (checked_of l).total) (list_after l))

pub uncut-words : (l : Lent) → refusal l ≡ None → (checked_of l).cut ≡ false → written_findings l ≡ list_of l
unfolding checked_of
uncut-words l e uncut =
    ap findings_in (first-words l (length (list_of l)) (list_of l) [] e (sym (append-nil (list_of l))) refl (uncut-fits l uncut))
    ∙ findings-in-words (list_of l)

-- demand 3's second half for the words of lists that aren't cut
module _ (l l' : Lent) (same-table : l.table ≡ l'.table) (short : refusal l ≡ None) (long : refusal l' ≡ None) (alike : BeginAlike l.source l.tape l'.source l'.tape) (all : (checked_of l).cut ≡ false) (all' : (checked_of l').cut ≡ false) where
  pub longer-unclosed-words : those (λ e. is_unclosed e && ltb e.node (link_at l.tape 0)) (written_findings l') ≡ those (λ e. is_unclosed e && not (taken_from (link_at l.tape 0) e.node (marks (visits l'.table (top l'.source l'.tape))))) (written_findings l)
  longer-unclosed-words = rw (uncut-words l short all, uncut-words l' long all') (longer-unclosed l l' same-table short long alike)

-- the quotation account for the words of a list that isn't cut
pub account-of-words : (l : Lent) → refusal l ≡ None → (checked_of l).cut ≡ false → (base : List ℕ) → visited_starts base (visits l.table (top l.source l.tape)) + visited_ends base (visits l.table (top l.source l.tape)) ≡ 2 * pairs_of base (marks (visits l.table (top l.source l.tape))) + mismatches_of base (node_at l.source l.tape) (written_findings l)
account-of-words l e all base = rw (uncut-words l e all) (quotation-account l e base)

-- which of the numbers is given: the first whose own part gives it, no earlier one being given
pub data Given (l : Lent) (r : Refusal) : Type 0 where
  by1 : of1 l ≡ Some r → Given l r
  by2 : of1 l ≡ None → of2 l ≡ Some r → Given l r
  by3 : of1 l ≡ None → of2 l ≡ None → of3 l ≡ Some r → Given l r
  by4to8 : of1 l ≡ None → of2 l ≡ None → of3 l ≡ None → of_tape l ≡ Some r → Given l r
  by9 : of1 l ≡ None → of2 l ≡ None → of3 l ≡ None → of_tape l ≡ None → of9 l ≡ Some r → Given l r
  by10 : of1 l ≡ None → of2 l ≡ None → of3 l ≡ None → of_tape l ≡ None → of9 l ≡ None → of10 l ≡ Some r → Given l r

pub first-part-gives : (l : Lent) (r : Refusal) → (refusal l ≡ Some r) ↔ Given l r
unfolding refusal
first-part-gives l r = (there, back)
  where
    there : refusal l ≡ Some r → Given l r
    there e = one (which (of1 l) (or_else (of2 l) (or_else (of3 l) (or_else (of_tape l) (or_else (of9 l) (of10 l))))) r e)
      where
        five : of1 l ≡ None → of2 l ≡ None → of3 l ≡ None → of_tape l ≡ None → (of9 l ≡ Some r) ⊎ ((of9 l ≡ None) × (of10 l ≡ Some r)) → Given l r
        five a b c d (inl h) = by9 a b c d h
        five a b c d (inr h) = by10 a b c d h.0 h.1

        four : of1 l ≡ None → of2 l ≡ None → of3 l ≡ None → (of_tape l ≡ Some r) ⊎ ((of_tape l ≡ None) × (or_else (of9 l) (of10 l) ≡ Some r)) → Given l r
        four a b c (inl h) = by4to8 a b c h
        four a b c (inr h) = five a b c h.0 (which (of9 l) (of10 l) r h.1)

        three : of1 l ≡ None → of2 l ≡ None → (of3 l ≡ Some r) ⊎ ((of3 l ≡ None) × (or_else (of_tape l) (or_else (of9 l) (of10 l)) ≡ Some r)) → Given l r
        three a b (inl h) = by3 a b h
        three a b (inr h) = four a b h.0 (which (of_tape l) (or_else (of9 l) (of10 l)) r h.1)

        two : of1 l ≡ None → (of2 l ≡ Some r) ⊎ ((of2 l ≡ None) × (or_else (of3 l) (or_else (of_tape l) (or_else (of9 l) (of10 l))) ≡ Some r)) → Given l r
        two a (inl h) = by2 a h
        two a (inr h) = three a h.0 (which (of3 l) (or_else (of_tape l) (or_else (of9 l) (of10 l))) r h.1)

        one : (of1 l ≡ Some r) ⊎ ((of1 l ≡ None) × (or_else (of2 l) (or_else (of3 l) (or_else (of_tape l) (or_else (of9 l) (of10 l)))) ≡ Some r)) → Given l r
        one (inl h) = by1 h
        one (inr h) = two h.0 (which (of2 l) (or_else (of3 l) (or_else (of_tape l) (or_else (of9 l) (of10 l)))) r h.1)

    back : Given l r → refusal l ≡ Some r
    back (by1 a) = rw a
    back (by2 a b) = rw (a, b)
    back (by3 a b c) = rw (a, b, c)
    back (by4to8 a b c d) = rw (a, b, c, d)
    back (by9 a b c d e) = rw (a, b, c, d, e)
    back (by10 a b c d e f) = rw (a, b, c, d, e) f
