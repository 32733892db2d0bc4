-- The elements of a list that pass a test.
-- Assumes nothing.
use mathlib.Core.Path.{◌≡◌, refl, ap}
use mathlib.Core.Bool.{Bool, true, false, ◌&&◌}
use mathlib.Core.List.{List, [], ◌∷◌, ◌++◌}
use Rattle.text.specs.Pick.{pick, AllOf}
use Rattle.definition.specs.Document.{those}

-- of two lists joined
pub those-append : {A : Type 0} (p : A → Bool) (xs ys : List A) → those p (xs ++ ys) ≡ those p xs ++ those p ys
unfolding those
those-append p [] ys = refl
those-append p (x ∷ xs) ys = test (p x) (those-append p xs ys)
  where
    test : (b : Bool) → those p (xs ++ ys) ≡ those p xs ++ those p ys → pick b (x ∷ those p (xs ++ ys)) (those p (xs ++ ys)) ≡ pick b (x ∷ those p xs) (those p xs) ++ those p ys
    test true e = ap (x ∷◌) e
    test false e = e

-- what a second test picks of them
pub those-both : {A : Type 0} (p q : A → Bool) (xs : List A) → those (λ (x : A). p x && q x) xs ≡ those q (those p xs)
unfolding those
those-both p q [] = refl
those-both {A} p q (x ∷ xs) = test (p x) (those-both p q xs)
  where
    test : (b : Bool) → those (λ (x : A). p x && q x) xs ≡ those q (those p xs) → pick (b && q x) (x ∷ those (λ (x : A). p x && q x) xs) (those (λ (x : A). p x && q x) xs) ≡ those q (pick b (x ∷ those p xs) (those p xs))
    test true e = ap (λ (ys : List A). pick (q x) (x ∷ ys) ys) e
    test false e = e

pub those-none : {A : Type 0} (p : A → Bool) (xs : List A) → AllOf (λ (x : A). p x ≡ false) xs → those p xs ≡ []
unfolding those
those-none p [] h = refl
those-none p (x ∷ xs) h = rw h.0 (those-none p xs h.1)

pub those-all : {A : Type 0} (p : A → Bool) (xs : List A) → AllOf (λ (x : A). p x ≡ true) xs → those p xs ≡ xs
unfolding those
those-all p [] h = refl
those-all p (x ∷ xs) h = rw h.0 (ap (x ∷◌) (those-all p xs h.1))
