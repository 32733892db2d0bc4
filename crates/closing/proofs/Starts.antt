-- The findings of the open starts that are left, one at a time.
-- Assumes nothing.
use Prim.Native.Nat.{ℕ, ◌+◌, ◌<◌, ◌≤◌}
use mathlib.Core.Path.{◌≡◌, ap, ◌∙◌}
use mathlib.Core.List.{List, [], ◌∷◌, ◌++◌}
use native.Mathlib.Omega.{arith}
use native.Mathlib.Numerals.{add-one}
use lib.ListN.{length, get_or, take, length-take}
use Rattle.std.proofs.Common.{get_or-take}
use Rattle.tape.specs.Nodes.{node_at}
use Rattle.findings.specs.Finding.{Finding}
use Rattle.findings.specs.declared.Counts.{Counts}
use Rattle.findings.specs.Written.{total}
use Rattle.findings.proofs.Overlay.{wrote_none, wrote-append, counted-total}
use Rattle.state.specs.Inner.{open_nodes, Opens}
use Rattle.definition.specs.Checks.{error}
use Rattle.definition.specs.Document.{unclosed}
use Rattle.definition.specs.Outcome.{no_start}
use Rattle.definition.specs.declared.OpenStart.{OpenStart}
use Rattle.definition.proofs.Few.{unclosed-length}
use Rattle.state.proofs.Opened.{starts-length}
use Rattle.closing.specs.Inner.{of_open, UnclosedReady}
use Rattle.findings.specs.Codes.{milestone_mismatch, unclosed_start}
use Rattle.findings.specs.Inner.{Wrote, Room}

left-length : (s t : List ℕ) (opens : List OpenStart) (k : ℕ) → length (unclosed (open_nodes s t opens k)) ≡ k
left-length s t opens k = unclosed-length (open_nodes s t opens k) ∙ starts-length s t opens k

unclosed-more : (s t : List ℕ) (opens : List OpenStart) (k : ℕ) → unclosed (open_nodes s t opens (k + 1)) ≡ unclosed (open_nodes s t opens k) ++ error (node_at s t (get_or opens k no_start).node) milestone_mismatch unclosed_start ∷ []
unfolding unclosed open_nodes
unclosed-more s t opens k = rw add-one

-- Of n open starts the first k are written: the list and the counts at the start, and now.
pub record UnclosedSoFar (s t : List ℕ) (opens : List OpenStart) (n : ℕ) (l₀ : List ℕ) (c₀ : Counts) (l : List ℕ) (c : Counts) (k : ℕ) : Type 0 where
  pub few : k ≤ n
  pub known : Opens s t opens n
  pub room : Room c₀ (unclosed (open_nodes s t opens n))
  pub wrote : Wrote (unclosed (open_nodes s t opens k)) l₀ c₀ l c

pub unclosed-none : (s t : List ℕ) (opens : List OpenStart) (n : ℕ) (l : List ℕ) (c₀ c : Counts) → c ≡ c₀ → Opens s t opens n → Room c₀ (unclosed (open_nodes s t opens n)) → UnclosedSoFar s t opens n l c₀ l c 0
unfolding unclosed open_nodes
unclosed-none s t opens n l c₀ c e o r = rw e (record { few = omega arith; known = o; room = r; wrote = wrote_none l c₀ })

module _ {s t : List ℕ} {opens : List OpenStart} {n : ℕ} {l₀ : List ℕ} {c₀ : Counts} {l : List ℕ} {c : Counts} {k : ℕ} (so_far : UnclosedSoFar s t opens n l₀ c₀ l c k) where
  pub unclosed-all : length (take n opens) ≤ k → Wrote (unclosed (open_nodes s t opens n)) l₀ c₀ l c
  unclosed-all h =
      let f = so_far.few in
      let r = so_far.known.room in
      let e : n ≡ k = omega (arith, length-take n opens) in
      rw e so_far.wrote

  -- the next of the first n
  module _ (more : k < length (take n opens)) where
    here : k < n
    here = omega (arith, length-take n opens)

    same : get_or (take n opens) k no_start ≡ get_or opens k no_start
    same = let h = here in get_or-take n opens k no_start h

    unclosed-room : Room c (of_open t (get_or opens k no_start))
    unclosed-room =
        let e : total c ≡ total c₀ + length (unclosed (open_nodes s t opens k)) = ap total so_far.wrote.counts ∙ counted-total c₀ (unclosed (open_nodes s t opens k)) in
        let i = left-length s t opens k in
        let j = left-length s t opens n in
        let r = so_far.room in
        let h = here in
        omega arith

    pub unclosed-ready : UnclosedReady t (get_or (take n opens) k no_start) c
    unclosed-ready = rw same (record { inside = (so_far.known.spanned k here).inside; room = unclosed-room })

    pub unclosed-next : {l' : List ℕ} {c' : Counts} → Wrote (of_open t (get_or (take n opens) k no_start)) l c l' c' → UnclosedSoFar s t opens n l₀ c₀ l' c' (k + 1)
    unclosed-next w =
        let h = here in
        record {
          few = omega arith;
          known = so_far.known;
          room = so_far.room;
          wrote = rw (unclosed-more s t opens k) (wrote-append so_far.wrote (rw same at w));
        }

-- what is written of a finding that is another by an equation
pub wrote_as : {f g : Finding} {l l' : List ℕ} {c c' : Counts} → f ≡ g → Wrote (f ∷ []) l c l' c' → Wrote (g ∷ []) l c l' c'
wrote_as e w = rw e at w
