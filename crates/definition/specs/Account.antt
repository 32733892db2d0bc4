-- Document 02, K4, the quotation account: "visited starts plus visited ends equal twice the pairs plus the MilestoneMismatch findings of that base in the whole list. Pairs are counted by module 9's taking rule over the order of visits, never from the open starts." A base is any list of bytes.
use Rattle.std.specs.Prelude.{ℕ, Bool, not, ◌&&◌, List, length}
use Rattle.text.specs.Bytes.{equal}
use Rattle.tape.specs.Nodes.{Node}
use Rattle.findings.specs.Finding.{Finding}
use Rattle.definition.specs.State.{Milestone, node_of}
use Rattle.definition.specs.Milestones.{is_start, is_end, base_of, Mark, free}
use Rattle.definition.specs.Document.{is_mismatch, those}

abbrev pub is_of_base : List ℕ → Node → Bool
is_of_base base x = equal (base_of x) base

-- "visited starts" and "visited ends": how many of the visits are starts of the base, and how many are ends
abbrev pub visited_starts : List ℕ → List Milestone → ℕ
visited_starts base xs = length (those (λ (x : Milestone). is_start (node_of x) && is_of_base base (node_of x)) xs)

abbrev pub visited_ends : List ℕ → List Milestone → ℕ
visited_ends base xs = length (those (λ (x : Milestone). is_end (node_of x) && is_of_base base (node_of x)) xs)

-- "the pairs": the milestones of the base that an end took
abbrev pub pairs_of : List ℕ → List Mark → ℕ
pairs_of base ms = length (those (λ (m : Mark). not (free m.taker) && is_of_base base (node_of m.milestone)) ms)

-- "the MilestoneMismatch findings of that base": those whose node has the base; `at` gives the node of a number
abbrev pub mismatches_of : List ℕ → (ℕ → Node) → List Finding → ℕ
mismatches_of base at fs = length (those (λ (f : Finding). is_mismatch f && is_of_base base (at f.node)) fs)
