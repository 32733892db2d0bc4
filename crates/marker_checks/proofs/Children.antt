-- What is read off a run of siblings is what is read off the list of their numbers.
-- Assumes nothing.
use Prim.Native.Nat.{ℕ, ◌+◌, ◌<◌}
use mathlib.Core.Path.{◌≡◌, refl, sym, ap, ◌∙◌}
use mathlib.Core.Bool.{Bool, true, false, not, false≢true, ◌||◌, cond}
use mathlib.Core.List.{List, []}
use lib.Dec.{eqb}
use borrow.Author.Tests.{ne_eqb}
use Rattle.std.specs.Prelude.{Option, Some, None}
use Rattle.std.specs.List.{find, list_all, list_any}
use Rattle.text.specs.Pick.{cut, pick}
use Rattle.text.specs.Words.{first_word}
use Rattle.tape.specs.Nodes.{node_at, kind_at, link_at, span, is_open, text_kind}
use Rattle.tape.specs.Forest.{Forest, end, leaf, node, forest}
use Rattle.numbers.specs.Label.{numbered}
use Rattle.cursor.specs.Inner.{Run, is_kind}
use Rattle.cursor.specs.InnerTurn.{siblings}
use Rattle.cursor.proofs.InTurn.{reads-list}
use Rattle.cursor.proofs.Runs.{run-children}
use Rattle.attachment.specs.Attached.{plain}
use Rattle.definition.specs.Checks.{book_code, inline_content, has_leaf, has_markers}
use Rattle.marker_checks.specs.Inner.{settles}
use Rattle.marker_checks.specs.InnerSkip.{only_texts}

-- an open marker is of no kind of leaf
marker-other : (k kind : ℕ) → is_open k ≡ true → is_open kind ≡ false → eqb k kind ≡ false
marker-other k kind h n = ne_eqb k kind (λ e. false≢true (sym n ∙ rw e at h))

module _ (s t : List ℕ) (a b : ℕ) (run : Run s t a b) where
  pub leaf-any : (kind : ℕ) (blank : Bool) → is_open kind ≡ false → has_leaf kind blank (forest s t a b) ≡ list_any (λ i. is_kind kind blank (node_at s t i)) (siblings t a b)
  unfolding has_leaf
  leaf-any kind blank n =
      reads-list (has_leaf kind blank) (list_any (λ i. is_kind kind blank (node_at s t i))) s t refl (λ i f is o e. rw e) (λ i c f is o e. rw (e, marker-other (kind_at t i) kind o n)) a b run

  pub texts-all : only_texts (forest s t a b) ≡ list_all (λ i. eqb (kind_at t i) text_kind) (siblings t a b)
  unfolding only_texts
  texts-all =
      reads-list only_texts (list_all (λ i. eqb (kind_at t i) text_kind)) s t refl (λ i f is o e. rw e) (λ i c f is o e. rw (marker-other (kind_at t i) text_kind o refl)) a b run

  -- the code stands in the first Text
  abbrev pub first_text : Option ℕ
  first_text = find (λ i. eqb (kind_at t i) text_kind) (siblings t a b)

  abbrev pub code_of : Option ℕ → List ℕ
  code_of None = []
  code_of (Some i) = let x = cut (span t i) s in cut (first_word x) x

  pub code-first : book_code (forest s t a b) ≡ code_of first_text
  unfolding book_code
  code-first = reads-list book_code list s t refl (λ i f is o e. go i f is e (eqb (kind_at t i) text_kind)) (λ i c f is o e. e ∙ rw (marker-other (kind_at t i) text_kind o refl)) a b run
    where
      list : List ℕ → List ℕ
      list is = code_of (find (λ i. eqb (kind_at t i) text_kind) is)

      go : (i : ℕ) (f : Forest) (is : List ℕ) → book_code f ≡ list is → (v : Bool) → pick v (code_of (Some i)) (book_code f) ≡ code_of (cond v (Some i) (find (λ i. eqb (kind_at t i) text_kind) is))
      go i f is e true = refl
      go i f is e false = e

  -- a chapter or a verse settles that a line has no content
  abbrev pub first_settled : Option ℕ
  first_settled = find (λ i. settles (node_at s t i)) (siblings t a b)

  abbrev pub settled : Option ℕ → Bool
  settled None = false
  settled (Some i) = not (numbered (kind_at t i))

  pub line-settled : inline_content (forest s t a b) ≡ settled first_settled
  unfolding inline_content
  line-settled = reads-list inline_content list s t refl (λ i f is o e. rw o (go i f is e (numbered (kind_at t i)) refl (is_kind text_kind false (node_at s t i)))) (λ i c f is o e. rw o (sym (ap not (open-no-number i o)))) a b run
    where
      list : List ℕ → Bool
      list is = settled (find (λ i. settles (node_at s t i)) is)

      open-no-number : (i : ℕ) → is_open (kind_at t i) ≡ true → numbered (kind_at t i) ≡ false
      open-no-number i o = rw (marker-other (kind_at t i) 3 o refl, marker-other (kind_at t i) 4 o refl)

      go : (i : ℕ) (f : Forest) (is : List ℕ) → inline_content f ≡ list is → (v : Bool) → numbered (kind_at t i) ≡ v → (w : Bool) → pick v false (pick w true (inline_content f)) ≡ settled (cond (v || w) (Some i) (find (λ i. settles (node_at s t i)) is))
      go i f is e true n w = sym (ap not n)
      go i f is e false n true = sym (ap not n)
      go i f is e false n false = e

-- a run has a marker exactly if it isn't plain
pub markers_plain : (f : Forest) → has_markers f ≡ not (plain f)
unfolding plain has_markers
markers_plain end = refl
markers_plain (leaf x r) = markers_plain r
markers_plain (node x c r) = refl

-- the run of the children, as the code reads where it ends
pub children : (s t : List ℕ) (i to : ℕ) → Run s t i to → i < to → is_open (kind_at t i) ≡ true → (link : ℕ) → link ≡ link_at t i → Run s t (i + 1) link
children s t i to run more h link e = rw e (run-children s t i to run more h)
