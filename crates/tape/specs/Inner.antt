-- What the functions inside the crate promise.
use Rattle.std.specs.Prelude.{ℕ, zero, suc, ◌+◌, ◌-◌, ◌*◌, ◌<◌, ◌≤◌, ◌≡◌, Bool, not, ◌&&◌, ◌||◌, List, [], ◌∷◌, eqb, length, get_or}
use Rattle.std.specs.Prelude.{Option, Some, None, Result, Ok, Err}
use Rattle.text.specs.Pick.{pick}
use Rattle.tape.specs.Nodes.{count, kind_at, link_at, is_close}
use Rattle.refusals.specs.Refusal.{Refusal, refuse, only_if, or_else, first_bad, bad_node_kind, bad_node_span, broken_links}
use Rattle.tape.specs.Reading.{bad_kind, bad_span, opens_to, good_root, read, Step, go, stop, opened, closed}
use Rattle.refusals.specs.declared.Refusal as code
use Rattle.refusals.specs.Reasons.{refusal_of}

-- the tape has n nodes, from 1 to 65,535, and no byte more
pub record Sized (t : List ℕ) (n : ℕ) : Type 0 where
  pub whole : length t ≡ 16 * n
  pub some : 1 ≤ n
  pub few : n ≤ 65535

-- the first k elements of an array as a stack, the last of them on top
abbrev pub stacked : List ℕ → ℕ → List ℕ
stacked xs zero = []
stacked xs (suc k) = get_or xs k 0 ∷ stacked xs k

-- the first bad span found so far, or else the refusal of the rest
abbrev pub met_span : Option ℕ → Option Refusal → Option Refusal
met_span None rest = rest
met_span (Some place) rest = refuse bad_node_span place

abbrev pub span_after : List ℕ → List ℕ → ℕ → Option ℕ → Option ℕ
span_after s t i None = pick (bad_span s t i) (Some i) None
span_after s t i (Some place) = Some place

-- the reading of opens and closes: how many opens are not yet closed, or what it stopped with
abbrev pub Depth : Type 0
Depth = Result ℕ code.Refusal

-- the refusal of the reading from node i on, with the rest of the tape to read
abbrev pub says : List ℕ → ℕ → ℕ → List ℕ → Depth → Option Refusal
says t n i stack (Ok depth) = read t (n - i) i (stacked stack depth)
says t n i stack (Err r) = Some (refusal_of r)

-- a step of the reading of the nodes, as the code holds it
abbrev pub held : Step → ℕ → List ℕ → Depth → Type 0
held (go awaited) i stack (Ok depth) = stacked stack depth ≡ awaited
held (go awaited) i stack (Err r) = ⊥
held (stop number) i stack (Ok depth) = ⊥
held (stop number) i stack (Err r) = refusal_of r ≡ record { number = number; place = i }

abbrev pub Low : Depth → Type 0
Low (Ok depth) = depth ≤ 64
Low (Err r) = Unit {0}

pub record Opened (link i : ℕ) (stack stack' : List ℕ) (depth : ℕ) (q : Depth) : Type 0 where
  pub step : held (opened link (stacked stack depth)) i stack' q
  pub low : Low q
  pub room : length stack' ≡ 64

pub record Closed (root i : ℕ) (stack : List ℕ) (depth : ℕ) (q : Depth) : Type 0 where
  pub step : held (closed root i (stacked stack depth)) i stack q
  pub low : Low q

-- the reading after node i, from the one before it: the refusal of the rest is the same
pub record Stepped (t : List ℕ) (i : ℕ) (stack stack' : List ℕ) (r q : Depth) : Type 0 where
  pub same : (n : ℕ) → i < n → says t n (i + 1) stack' q ≡ says t n i stack r
  pub low : Low q
  pub room : length stack' ≡ 64

-- what the reading holds before a step
pub record Held (t : List ℕ) (root i kind : ℕ) (stack : List ℕ) (r : Depth) : Type 0 where
  pub inside : i < count t
  pub link : root ≡ link_at t 0
  pub of_kind : kind ≡ kind_at t i
  pub room : length stack ≡ 64
  pub low : Low r

-- 7 of the root by its link, whether a close stands there, and whether an open has that link
abbrev pub root_by : ℕ → ℕ → Bool → Bool → Bool
root_by link n closes taken = eqb link n || (eqb (link + 1) n && (closes && not taken))

-- an open that is left unclosed at the end
abbrev pub left_open : ℕ → ℕ → Option Refusal
left_open n zero = None
left_open n (suc depth) = refuse broken_links n

-- what the reading stopped with, or an open that is left unclosed at the end
abbrev pub left_by : ℕ → Depth → Option Refusal
left_by n (Ok depth) = left_open n depth
left_by n (Err r) = Some (refusal_of r)

-- the rest of the numbers when all nodes are read
abbrev pub lastly : List ℕ → ℕ → ℕ → Option ℕ → Bool → Depth → Option Refusal
lastly t n root span taken r =
    or_else (met_span span None) (or_else (only_if (not (root_by root n (is_close (kind_at t root)) taken)) (refuse broken_links 0)) (left_by n r))

-- the numbers from 5 on, where the root's kind is good
abbrev pub from_one : List ℕ → List ℕ → ℕ → Option Refusal
from_one s t n =
    or_else (first_bad bad_node_kind (bad_kind t) 1 (n - 1))
    (or_else (first_bad bad_node_span (bad_span s t) 1 (n - 1)) (or_else (only_if (not (good_root t)) (refuse broken_links 0)) (read t (n - 1) 1 [])))

-- no kind and no span from node i on is bad
pub record Clear (s t : List ℕ) (n i : ℕ) : Type 0 where
  pub kinds : first_bad bad_node_kind (bad_kind t) i (n - i) ≡ None
  pub spans : first_bad bad_node_span (bad_span s t) i (n - i) ≡ None

-- this link is not awaited
abbrev pub Apart : ℕ → List ℕ → Type 0
Apart link [] = Unit {0}
Apart link (x ∷ awaited) = (x ≡ link → ⊥) × Apart link awaited

-- the nodes from 1 to i read, with these links awaited: the refusal of the rest is that of the whole, and so is the first open with the root's link, if that isn't awaited
pub record Paired (t : List ℕ) (n root i : ℕ) (awaited : List ℕ) : Type 0 where
  pub opens : Apart root awaited → first_bad broken_links (opens_to t root) i (n - i) ≡ first_bad broken_links (opens_to t root) 1 (n - 1)
  pub reading : read t (n - i) i awaited ≡ read t (n - 1) 1 []
