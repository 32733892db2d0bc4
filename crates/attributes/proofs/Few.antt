-- How many findings the attributes of a run of siblings can have.
-- Assumes nothing.
use mathlib.Core.Path.{◌≡◌, refl, ap}
use mathlib.Core.Bool.{Bool, true, false}
use mathlib.Core.List.{List, [], ◌∷◌, ◌++◌}
use Prim.Native.Nat.{ℕ, zero, suc, ◌+◌, pred, ◌≤◌}
use native.Mathlib.Nat.{le_refl}
use native.Mathlib.Omega.{arith}
use lib.Dec.{eqb}
use lib.ListN.{length, drop, length-append, length-take, length-drop}
use Rattle.text.specs.Pick.{Part, cut, pick}
use Rattle.text.specs.declared.Decoded.{Decoded}
use Rattle.text.specs.Utf8.{decode}
use Rattle.text.specs.Characters.{chars_past, chars}
use Rattle.text.specs.Words.{trim}
use Rattle.tape.specs.Forest.{Forest, end, leaf, node}
use Rattle.tape.proofs.Sizes.{breadth}
use Rattle.table.specs.Names.{default_name}
use Rattle.cursor.specs.Names.{past_one}
use Rattle.findings.specs.Finding.{Kind}
use Rattle.attributes.specs.Attributes.{empty_list, no_default, Mode, between, key, value, opened, quoted, escaping, unquoted, ScanStep, go, report, stop, scan_step, end_of_text, scan_on, attribute_scan, after_bar, body, has_default, holds_equals, attribute_kinds, findings_at, attribute_findings, attributes_findings}
use Rattle.tape.specs.Nodes.{attribute_kind}

chars-few : (k : ℕ) (s : List ℕ) → length (chars_past k s) ≤ length s
unfolding chars_past
chars-few k [] = le_refl 0
chars-few (suc k) (b ∷ s) = let h = chars-few k s in omega arith
chars-few zero (b ∷ s) = let h = chars-few (pred (decode (b ∷ s)).width) s in omega arith

ended-few : (m : Mode) → length (end_of_text m) ≤ 1
ended-few between = omega arith
ended-few key = le_refl 1
ended-few value = le_refl 1
ended-few opened = le_refl 1
ended-few quoted = le_refl 1
ended-few escaping = le_refl 1
ended-few unquoted = omega arith

resume-few : (n : ℕ) (s : ScanStep) (rest : Mode → List Kind) → ((m : Mode) → length (rest m) ≤ n) → length (scan_on s rest) ≤ suc n
resume-few n (go m) rest h = let k = h m in omega arith
resume-few n (report x m) rest h = let k = h m in omega arith
resume-few n (stop x) rest h = omega arith

scan-few : (m : Mode) (cs : List Decoded) → length (attribute_scan m cs) ≤ suc (length cs)
unfolding attribute_scan
scan-few m [] = ended-few m
scan-few m (c ∷ cs) = resume-few (suc (length cs)) (scan_step m c.cp) (λ n. attribute_scan n cs) (λ n. scan-few n cs)

cut-few : (p : Part) (s : List ℕ) → length (cut p s) ≤ length s
cut-few p s =
    let d = length-drop p.start s in
    omega (arith, length-take p.len (drop p.start s))

kinds-few : (marker text : List ℕ) → length (attribute_kinds marker text) ≤ 1 + length text
unfolding attribute_kinds
kinds-few marker text = choose (eqb (length (body text)) 0) (holds_equals (body text)) (has_default (default_name marker))
  where
    choose : (a b c : Bool) → length (pick a (empty_list ∷ []) (pick b (attribute_scan between (chars (body text))) (pick c [] (no_default ∷ [])))) ≤ 1 + length text
    choose true b c = omega arith
    choose false true c =
        let k = scan-few between (chars (body text)) in
        let j = chars-few 0 (body text) in
        let i = cut-few (trim (after_bar text)) (after_bar text) in
        omega (arith, length-drop (past_one 0x7C text 0) text)
    choose false false true = omega arith
    choose false false false = omega arith

at-few : (start len number owner : ℕ) (ks : List Kind) → length (findings_at start len number owner ks) ≡ length ks
unfolding findings_at
at-few start len number owner [] = refl
at-few start len number owner (k ∷ ks) = ap suc (at-few start len number owner ks)

pub attributes-few : (owner : ℕ) (marker : List ℕ) (f : Forest) → length (attributes_findings owner marker f) ≤ breadth f
unfolding attributes_findings breadth
attributes-few owner marker end = le_refl 0
attributes-few owner marker (leaf x r) = choose (eqb x.kind attribute_kind) (attributes-few owner marker r)
  where
    choose : (b : Bool) → length (attributes_findings owner marker r) ≤ breadth r → length (pick b (attribute_findings owner marker x) [] ++ attributes_findings owner marker r) ≤ 1 + length x.text + breadth r
    choose true h =
        let k = kinds-few marker x.text in
        let j = at-few x.start x.len x.number owner (attribute_kinds marker x.text) in
        omega (arith, length-append (attribute_findings owner marker x) (attributes_findings owner marker r))
    choose false h = omega arith
attributes-few owner marker (node x c r) = let h = attributes-few owner marker r in omega arith
