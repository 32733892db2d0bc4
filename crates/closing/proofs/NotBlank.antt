-- Text before the first marker: the root's first child.
-- Assumes nothing.
use Prim.Native.Nat.{ℕ, ◌<◌, ◌≤◌}
use mathlib.Core.Path.{◌≡◌, refl, sym, ap, ◌∙◌}
use mathlib.Core.Bool.{Bool, true, false, not, ◌&&◌}
use mathlib.Core.List.{List, []}
use native.Mathlib.Omega.{arith}
use lib.Dec.{eqb}
use borrow.Author.Tests.{ne_eqb, eqb-true}
use Rattle.text.specs.Words.{blank_text}
use Rattle.tape.specs.Nodes.{node_at, kind_at, is_open, marker_open_kind, text_kind}
use Rattle.tape.specs.Forest.{forest}
use Rattle.tape.proofs.Nest.{forest-done}
use Rattle.cursor.specs.Inner.{Run}
use Rattle.cursor.proofs.Runs.{forest-at-leaf, forest-at-open}
use Rattle.findings.specs.Finding.{Finding, warning_severity}
use Rattle.findings.specs.declared.Counts.{Counts}
use Rattle.findings.specs.Written.{only}
use Rattle.findings.proofs.Overlay.{wrote_none}
use Rattle.definition.specs.Checks.{about, warning}
use Rattle.definition.specs.Document.{text_before}
use Rattle.findings.specs.Codes.{text_before_id}
use Rattle.findings.specs.Inner.{Wrote, Room}

-- whether a node is a Text that isn't blank
abbrev pub not_blank_at : List ℕ → List ℕ → ℕ → Bool
not_blank_at s t i = eqb (kind_at t i) text_kind && not (blank_text (node_at s t i).text)

pub before-none : (s t : List ℕ) (to : ℕ) (l : List ℕ) (c₀ c : Counts) → to ≤ 1 → c ≡ c₀ → Wrote (text_before (forest s t 1 to)) l c₀ l c
unfolding text_before
before-none s t to l c₀ c h e = rw (forest-done s t 1 to h, e) (wrote_none l c₀)

open-not-text : (s t : List ℕ) (i : ℕ) → is_open (kind_at t i) ≡ true → not_blank_at s t i ≡ false
open-not-text s t i h =
    let e : kind_at t i ≡ marker_open_kind = eqb-true (kind_at t i) marker_open_kind h in
    rw (ne_eqb (kind_at t i) text_kind (λ q. omega arith))

module _ (s t : List ℕ) (to : ℕ) (run : Run s t 1 to) (more : 1 < to) where
  before-is : text_before (forest s t 1 to) ≡ only (not_blank_at s t 1) (warning (node_at s t 1) text_before_id 0)
  unfolding text_before
  before-is = go (is_open (kind_at t 1)) refl
    where
      go : (v : Bool) → is_open (kind_at t 1) ≡ v → text_before (forest s t 1 to) ≡ only (not_blank_at s t 1) (warning (node_at s t 1) text_before_id 0)
      go true e = ap text_before (forest-at-open s t 1 to run more e) ∙ ap (λ (v : Bool). only v (warning (node_at s t 1) text_before_id 0)) (sym (open-not-text s t 1 e))
      go false e = ap text_before (forest-at-leaf s t 1 to run more e)

  -- the test and the finding as the code has them
  module _ (there : Bool) (f : Finding) (is : there ≡ not_blank_at s t 1) (says : f ≡ about (node_at [] t 1) warning_severity text_before_id 0 0 0) (c₀ c : Counts) (same : c ≡ c₀) where
    one : only there f ≡ text_before (forest s t 1 to)
    one = rw (is, says) (sym before-is)

    pub before-room : Room c₀ (text_before (forest s t 1 to)) → Room c (only there f)
    before-room r = rw (one, same) r

    pub before-wrote : {l l' : List ℕ} {c' : Counts} → Wrote (only there f) l c l' c' → Wrote (text_before (forest s t 1 to)) l c₀ l' c'
    before-wrote w = rw (← one, ← same) w
