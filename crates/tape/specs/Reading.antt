-- Numbers 4 to 8. "Each gives number and place"; "Of several nodes the first counts."
use Rattle.std.specs.Prelude.{ℕ, zero, suc, ◌+◌, ◌-◌, ◌%◌, Bool, not, ◌&&◌, ◌||◌, List, [], ◌∷◌, eqb, ltb, length}
use Rattle.std.specs.Prelude.{Option, None}
use Rattle.text.specs.Pick.{within, pick}
use Rattle.text.specs.Characters.{is_boundary}
use Rattle.tape.specs.Nodes.{count, kind_at, start_at, len_at, link_at, is_close, is_open, root_kind, marker_open_kind, error_kind}
use Rattle.refusals.specs.Refusal.{Refusal, refuse, only_if, or_else, first_bad, is_none, bad_tape_length, bad_node_kind, bad_node_span, broken_links, too_deep}

-- 4: "The tape's length is 0, no multiple of 16, or over 65,535 nodes; place 0."
abbrev pub bad_length : List ℕ → Bool
bad_length t = eqb (length t) 0 || (not (eqb (length t % 16) 0) || ltb 65535 (count t))

-- 5: "A kind is over 8, or Root is missing at 0 or present elsewhere; place: that node."
abbrev pub bad_kind : List ℕ → ℕ → Bool
bad_kind t zero = not (eqb (kind_at t 0) root_kind)
bad_kind t (suc i) = not (within marker_open_kind error_kind (kind_at t (suc i)))

-- 6: "A span from node 1 on leaves the source or splits a character; place: that node."
abbrev pub bad_span : List ℕ → List ℕ → ℕ → Bool
bad_span s t i =
    ltb (length s) (start_at t i + len_at t i) || (not (is_boundary s (start_at t i)) || not (is_boundary s (start_at t i + len_at t i)))

-- 7, the root: "The root's link is n, or n − 1 with a close there that is the link of no other open."
abbrev pub opens_to : List ℕ → ℕ → ℕ → Bool
opens_to t link i = is_open (kind_at t i) && eqb (link_at t i) link

abbrev pub good_root : List ℕ → Bool
good_root t =
    eqb (link_at t 0) (count t) || (eqb (link_at t 0 + 1) (count t) && (is_close (kind_at t (link_at t 0)) && is_none (first_bad broken_links (opens_to t (link_at t 0)) 1 (count t - 1))))

-- 7 and 8, the others: "Read nodes from 1 with the opens not yet closed, the root outermost. A close (kinds MarkerClose, BlockEnd) at i must be the link of the innermost open."
-- "A 65th open nests inside 64, root not counted; place: that node"
pub data Step : Type 0 where
  go : List ℕ → Step
  stop : ℕ → Step

-- one node more opened, where its link is awaited
abbrev pub opened : ℕ → List ℕ → Step
opened link awaited = pick (ltb (length awaited) 64) (go (link ∷ awaited)) (stop too_deep)

-- the innermost open closed, or the root
abbrev pub closed : ℕ → ℕ → List ℕ → Step
closed root i [] = pick (eqb i root) (go []) (stop broken_links)
closed root i (link ∷ awaited) = pick (eqb i link) (go awaited) (stop broken_links)

unfoldable pub step : List ℕ → ℕ → List ℕ → Step
step t i awaited =
    pick (is_open (kind_at t i)) (opened (link_at t i) awaited)
    (pick (is_close (kind_at t i)) (closed (link_at t 0) i awaited) (go awaited))

abbrev pub resume : Step → ℕ → (List ℕ → Option Refusal) → Option Refusal
resume (go awaited) i rest = rest awaited
resume (stop number) i rest = refuse number i

-- "else n for an unclosed open"
abbrev pub ended : ℕ → List ℕ → Option Refusal
ended n [] = None
ended n (link ∷ awaited) = refuse broken_links n

-- the n nodes from node i on, with the links that are awaited, the innermost first
unfoldable pub read : List ℕ → ℕ → ℕ → List ℕ → Option Refusal
read t zero i awaited = ended i awaited
read t (suc n) i awaited = resume (step t i awaited) i (read t n (suc i))

-- the numbers in checking order, of 7 and 8 the smaller place
unfoldable pub tape_refusal : List ℕ → List ℕ → Option Refusal
tape_refusal s t =
    or_else (only_if (bad_length t) (refuse bad_tape_length 0))
    (or_else (first_bad bad_node_kind (bad_kind t) 0 (count t))
    (or_else (first_bad bad_node_span (bad_span s t) 1 (count t - 1))
    (or_else (only_if (not (good_root t)) (refuse broken_links 0)) (read t (count t - 1) 1 []))))
