-- The meaning of an accepted tape: a forest, read from the order of opens and closes.
use Rattle.std.specs.Prelude.{ℕ, suc, ◌+◌, ◌-◌, ◌<◌, ◌≤◌, ◌≡◌, Bool, true, false, List, [], ◌∷◌}
use Rattle.tape.specs.Nodes.{Node, nodes, kind_at, link_at, is_open, is_close, count}
use Rattle.tape.specs.Reading.{bad_length, bad_kind, bad_span, good_root}
use Rattle.text.specs.Pick.{pick}

-- a run of siblings: none; a leaf, and those after it; an open node with its children, and those after its close
pub data Forest : Type 0 where
  end : Forest
  leaf : Node → Forest → Forest
  node : Node → Forest → Forest → Forest

-- the run of g after the run of f
unfoldable pub followed : Forest → Forest → Forest
followed end g = g
followed (leaf x r) g = leaf x (followed r g)
followed (node x c r) g = node x c (followed r g)

-- one node before the runs that begin after it, the innermost first: a leaf goes before the first of them; a close ends a run that has no node yet; an open has the first of them for its children and goes before the second
abbrev pub join_node : Bool → Bool → Node → List Forest → List Forest
join_node true closes x [] = []
join_node true closes x (c ∷ []) = []
join_node true closes x (c ∷ f ∷ fs) = node x c f ∷ fs
join_node false true x fs = end ∷ fs
join_node false false x [] = []
join_node false false x (f ∷ fs) = leaf x f ∷ fs

-- the runs of siblings that begin where the list begins, the innermost first
unfoldable pub runs : List Node → List Forest
runs [] = end ∷ []
runs (x ∷ xs) = join_node (is_open x.kind) (is_close x.kind) x (runs xs)

abbrev pub innermost : List Forest → Forest
innermost [] = end
innermost (f ∷ fs) = f

-- the forest of the nodes from a up to b
abbrev pub forest : List ℕ → List ℕ → ℕ → ℕ → Forest
forest s t a b = innermost (runs (nodes s t a (b - a)))

-- the node after the one at a, with all below it
abbrev pub next_at : List ℕ → ℕ → ℕ
next_at t a = pick (is_open (kind_at t a)) (link_at t a + 1) (a + 1)

-- the nodes from a up to b nest properly, at most d deep, and each open's link is its close
pub data Nested (t : List ℕ) : ℕ → ℕ → ℕ → Type 0 where
  done : {d a b : ℕ} → a ≡ b → Nested t d a b
  one : {d a b : ℕ} → is_open (kind_at t a) ≡ false → is_close (kind_at t a) ≡ false → Nested t d (a + 1) b → Nested t d a b
  inner : {d a b : ℕ} → is_open (kind_at t a) ≡ true → is_close (kind_at t (link_at t a)) ≡ true → Nested t d (a + 1) (link_at t a) → Nested t (suc d) (link_at t a + 1) b → Nested t (suc d) a b

-- what acceptance means: "a document .. is accepted .. when none of numbers" 4 to 8 "turns it back"
pub record Accepted (s t : List ℕ) : Type 0 where
  pub sized : bad_length t ≡ false
  pub kinds : (i : ℕ) → i < count t → bad_kind t i ≡ false
  pub spans : (i : ℕ) → 1 ≤ i → i < count t → bad_span s t i ≡ false
  pub root : good_root t ≡ true
  pub nested : Nested t 64 1 (link_at t 0)

-- the top-level nodes of an accepted tape, with all inside them: those from 1 on before the root's link
abbrev pub top : List ℕ → List ℕ → Forest
top s t = forest s t 1 (link_at t 0)
