-- With more siblings after them, the numbers of a run stay attached.
-- Assumes nothing.
use Prim.Native.Nat.{ℕ}
use mathlib.Core.Path.{◌≡◌, refl, ap}
use mathlib.Core.Bool.{Bool, true, false, false≢true, ◌||◌}
use mathlib.Core.List.{List, [], ◌∷◌, ◌++◌}
use lib.Dec.{eqb}
use Rattle.tape.specs.Nodes.{Node}
use Rattle.tape.specs.Forest.{Forest, end, leaf, node, followed}
use Rattle.cursor.specs.Names.{name_of}
use Rattle.attachment.specs.Attached.{is_alternate, is_published, claims, is_blank, plain, nodes_if, run_of, start_offsets, among, is_attached, Longer}

-- a run that goes on only if a test holds
longer-if : (v : Bool) (xs ys : List Node) → Longer xs ys → Longer (nodes_if v xs) (nodes_if v ys)
longer-if true xs ys h = h
longer-if false xs ys h = record { more = []; is = refl }

longer-cons : (x : Node) (xs ys : List Node) → Longer xs ys → Longer (x ∷ xs) (x ∷ ys)
longer-cons x xs ys h = record { more = h.more; is = ap (λ (l : List Node). x ∷ l) h.is }

pub run-grows : (kind : ℕ) (alt pubn : Bool) (f g : Forest) → Longer (run_of kind alt pubn f) (run_of kind alt pubn (followed f g))
unfolding run_of followed
run-grows kind alt pubn end g = record { more = run_of kind alt pubn g; is = refl }
run-grows kind alt pubn (leaf x r) g = longer-if (is_blank x) _ _ (run-grows kind alt pubn r g)
run-grows kind alt pubn (node x c r) g =
    longer-if (claims kind alt pubn (name_of x.text)) _ _
    (longer-cons x _ _
    (longer-if (plain c) _ _ (run-grows kind (alt || is_alternate kind (name_of x.text)) (pubn || is_published kind (name_of x.text)) r g)))

among-more : (at : ℕ) (xs ys : List Node) → among at (start_offsets xs) ≡ true → among at (start_offsets (xs ++ ys)) ≡ true
unfolding among start_offsets
among-more at [] ys h = absurd (false≢true h)
among-more at (x ∷ xs) ys h = go (eqb x.start at) (among-more at xs ys) h
  where
    go : (v : Bool) → (among at (start_offsets xs) ≡ true → among at (start_offsets (xs ++ ys)) ≡ true) → (v || among at (start_offsets xs)) ≡ true → (v || among at (start_offsets (xs ++ ys))) ≡ true
    go true rest h = refl
    go false rest h = rest h

-- what is attached stays so
pub attached-longer : (kind : ℕ) (f g : Forest) (at : ℕ) → is_attached kind f at ≡ true → is_attached kind (followed f g) at ≡ true
attached-longer kind f g at h =
    let l = run-grows kind false false f g in
    rw l.is (among-more at (run_of kind false false f) l.more h)
