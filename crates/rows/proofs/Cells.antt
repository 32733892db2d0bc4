-- The cells of a row, a node at a time.
-- Assumes nothing.
use mathlib.Core.Path.{◌≡◌, refl, sym, ap, ◌∙◌}
use mathlib.Core.Bool.{Bool, true, false, not}
use mathlib.Core.List.{List, ◌++◌}
use Rattle.std.specs.Prelude.{Option, Some, None}
use Prim.Native.Nat.{ℕ, ◌+◌, ◌<◌, ◌≤◌}
use lib.Dec.{eqb}
use borrow.Author.Tests.{eq-eqb, ne_eqb}
use Rattle.text.specs.Pick.{cut}
use Rattle.tape.specs.Nodes.{node_at, kind_at, span, is_open}
use Rattle.tape.specs.Forest.{forest}
use Rattle.tape.proofs.Nest.{forest-done}
use Rattle.cursor.specs.Names.{name_of}
use Rattle.cursor.specs.Inner.{Run}
use Rattle.cursor.specs.Steps.{past_node}
use Rattle.cursor.proofs.Runs.{run-next, forest-at-leaf, forest-at-open}
use Rattle.findings.specs.Finding.{Finding}
use Rattle.findings.specs.declared.Counts.{Counts}
use Rattle.findings.specs.Written.{only}
use Rattle.findings.proofs.Overlay.{Left, left-wrote, left_end, left-room, room-first}
use Rattle.rows.specs.Cells.{ColumnRange, cell_columns}
use Rattle.rows.specs.Row.{cell_in, out_of_order, by_columns, row_from}
use Rattle.findings.specs.Inner.{Wrote, Room}

-- the columns of a node by the tests that the code takes
module _ (s t : List ℕ) (i k : ℕ) (is-kind : k ≡ kind_at t i) where
  pub no-open : (k ≡ 1 → ⊥) → None ≡ cell_in (node_at s t i)
  no-open h = rw (← is-kind, ne_eqb k 1 h)

  pub opened : (name : List ℕ) (r : Option ColumnRange) → k ≡ 1 → name ≡ name_of (cut (span t i) s) → r ≡ cell_columns name → r ≡ cell_in (node_at s t i)
  opened name r h e q = rw (← is-kind, eq-eqb k 1 h, ← e) q

-- the row at a node of it
row_at : (s t : List ℕ) (a b e : ℕ) → Run s t a b → a < b → row_from e (forest s t a b) ≡ by_columns (cell_in (node_at s t a)) (node_at s t a) e (λ n. row_from n (forest s t (past_node t a) b))
unfolding row_from
row_at s t a b e run more = go (is_open (kind_at t a)) refl
  where
    go : (v : Bool) → is_open (kind_at t a) ≡ v → row_from e (forest s t a b) ≡ by_columns (cell_in (node_at s t a)) (node_at s t a) e (λ n. row_from n (forest s t (past_node t a) b))
    go true h = ap (row_from e) (forest-at-open s t a b run more h)
    go false h = ap (row_from e) (forest-at-leaf s t a b run more h)

-- what is left of the row gives what the whole gives
pub record Going (s t : List ℕ) (b : ℕ) (fs₀ : List Finding) (l₀ : List ℕ) (c₀ : Counts) (l : List ℕ) (c : Counts) (e i : ℕ) : Type 0 where
  pub run : Run s t i b
  pub left : Left fs₀ l₀ c₀ (row_from e (forest s t i b)) l c
  pub room : Room c₀ fs₀

module _ {s t : List ℕ} {b : ℕ} {fs₀ : List Finding} {l₀ : List ℕ} {c₀ : Counts} {l : List ℕ} {c : Counts} {e i : ℕ} (g : Going s t b fs₀ l₀ c₀ l c e i) where
  pub done : b ≤ i → Wrote fs₀ l₀ c₀ l c
  unfolding row_from
  done h = left_end (rw (forest-done s t i b h) at g.left)

  module _ (more : i < b) where
    at : Left fs₀ l₀ c₀ (by_columns (cell_in (node_at s t i)) (node_at s t i) e (λ n. row_from n (forest s t (past_node t i) b))) l c
    at = rw (row_at s t i b e g.run more) at g.left

    -- past a node without columns
    pub skipped : (n : ℕ) (r : Option ColumnRange) → n ≡ past_node t i → r ≡ cell_in (node_at s t i) → r ≡ None → Going s t b fs₀ l₀ c₀ l c e n
    skipped n r p q z =
        rw p (record { run = run-next s t i b g.run more; left = rw (sym q ∙ z) at at; room = g.room })

    module _ (r : ColumnRange) (is : cell_in (node_at s t i) ≡ Some r) (f : Finding) (f-is : f ≡ out_of_order (node_at s t i) e r.start) where
      left-now : Left fs₀ l₀ c₀ (only (not (eqb r.start e)) f ++ row_from (r.end + 1) (forest s t (past_node t i) b)) l c
      left-now = rw f-is (rw is at at)

      pub fits : Room c (only (not (eqb r.start e)) f)
      fits = room-first c (only (not (eqb r.start e)) f) (row_from (r.end + 1) (forest s t (past_node t i) b)) (left-room left-now g.room)

      pub passed : (n : ℕ) (l' : List ℕ) (c' : Counts) → n ≡ past_node t i → Wrote (only (not (eqb r.start e)) f) l c l' c' → Going s t b fs₀ l₀ c₀ l' c' (r.end + 1) n
      passed n l' c' p w = rw p (record { run = run-next s t i b g.run more; left = left-wrote left-now w; room = g.room })
