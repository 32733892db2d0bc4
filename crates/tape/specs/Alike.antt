-- Document 01, module 9: "Two documents begin alike when the shorter's source is a beginning of the longer's, and its nodes from 1 on before the root's link, which are its top-level nodes with all inside them, are the longer's first nodes from 1 on; what the longer adds are its nodes after these, or none; root fields aren't compared, and no MarkerOpen that the longer adds starts at a byte where one of the shorter's starts".
use Rattle.std.specs.Prelude.{ℕ, ◌*◌, ◌<◌, ◌≤◌, ◌≡◌, true, List, ◌++◌}
use Rattle.tape.specs.Nodes.{byte, count, kind_at, start_at, link_at, is_open}

-- without the condition on start offsets. The nodes of t from 1 on before its root's link are its bytes from 16 up to 16 times that link
pub record Alike (s t s' t' : List ℕ) : Type 0 where
  pub added : List ℕ
  pub source : s' ≡ s ++ added
  pub longer : link_at t 0 ≤ count t'
  pub nodes : (k : ℕ) → 16 ≤ k → k < 16 * link_at t 0 → byte t k ≡ byte t' k

pub record BeginAlike (s t s' t' : List ℕ) : Type 0 where
  pub alike : Alike s t s' t'
  pub apart : (i j : ℕ) → 1 ≤ i → i < link_at t 0 → link_at t 0 ≤ j → j < count t' → is_open (kind_at t i) ≡ true → is_open (kind_at t' j) ≡ true → start_at t i ≡ start_at t' j → ⊥
