-- Along the top-level nodes, from one to the next: whether a place is a border.
-- Assumes nothing.
use Prim.Native.Nat.{ℕ, ◌<◌, ◌≤◌}
use native.Mathlib.Omega.{arith}
use mathlib.Core.Path.{◌≡◌, refl, sym, ap, subst, ◌∙◌}
use mathlib.Core.Bool.{Bool, true, false}
use mathlib.Core.List.{List}
use lib.Dec.{eqb}
use borrow.Author.Tests.{eqb-false, ne_eqb}
use Rattle.tape.specs.Nodes.{link_at}
use Rattle.tape.specs.Forest.{forest, Accepted}
use Rattle.tape.proofs.Nest.{nested-le}
use Rattle.cursor.specs.Inner.{Run}
use Rattle.cursor.specs.Steps.{past_node}
use Rattle.cursor.proofs.Runs.{run-top, run-next}
use Rattle.definition.specs.Sections.{border_of, is_border}
use Rattle.definition.proofs.Borders.{border-at, border-end, border-past}

module _ (s t : List ℕ) (p : ℕ) where
  -- no node before a is at the place, so that the nodes from a on decide
  pub record Along (a b : ℕ) : Type 0 where
    pub run : Run s t a b
    pub same : is_border s t p ≡ border_of (forest s t a b) b p

  pub along-top : Accepted s t → (b : ℕ) → b ≡ link_at t 0 → Along 1 b
  along-top h b e = subst (λ (k : ℕ). Along 1 k) (sym e) (record { run = run-top s t h; same = refl })

  module _ {a b : ℕ} (l : Along a b) where
    pub along-next : a < b → a < p → (n : ℕ) → n ≡ past_node t a → Along n b
    along-next more before n e =
        subst (λ (k : ℕ). Along k b) (sym e)
        (record { run = run-next s t a b l.run more; same = l.same ∙ border-at s t p l.run more ∙ rw (ne_eqb a p (λ z. omega arith)) })

    pub along-here : a < b → p ≤ a → eqb a p ≡ is_border s t p
    along-here more past = sym (l.same ∙ test (eqb a p) refl)
      where
        test : (v : Bool) → eqb a p ≡ v → border_of (forest s t a b) b p ≡ v
        test true e = border-at s t p l.run more ∙ rw e
        test false e = let k = eqb-false a p e in border-past s t p l.run.nested (omega (arith, k))

    pub along-end : b ≤ a → eqb b p ≡ is_border s t p
    along-end done =
        let k = nested-le l.run.nested in
        let e : a ≡ b = omega arith in
        sym (l.same ∙ ap (λ (x : ℕ). border_of (forest s t x b) b p) e ∙ border-end s t b p)
