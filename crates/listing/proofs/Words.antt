-- The k-th of some names, as it is read from their list.
-- Assumes nothing.
use Rattle.std.proofs.Common.{◌≡◌, ℕ, zero, suc, ◌<◌, refl, true, List, [], ◌∷◌, length, map, nat_lt, Bor, Some, None, slice_get}
use Rattle.std.specs.List.{list_all}
use Rattle.std.proofs.lemmas.Option.{same_Some}
use borrow.Author.Tests.{ltb-true}
use Rattle.text.proofs.Bool.{and_left, and_right}
use Rattle.listing.specs.Lines.{name_at}

pub name-there : (ns : List (Bor (List ℕ))) (k : ℕ) (n : Bor (List ℕ)) → slice_get ns k ≡ Some n → n.now ≡ name_at (map (λ x. x.now) ns) k
unfolding name_at
name-there [] k n e = cc
name-there (x ∷ ns) zero n e = rw (same_Some _ _ e)
name-there (x ∷ ns) (suc k) n e = name-there ns k n e

pub name-past : (ns : List (Bor (List ℕ))) (k : ℕ) → slice_get ns k ≡ None → [] ≡ name_at (map (λ x. x.now) ns) k
unfolding name_at
name-past [] k e = refl
name-past (x ∷ ns) zero e = cc
name-past (x ∷ ns) (suc k) e = name-past ns k e

pub name-short : (ns : List (Bor (List ℕ))) (k : ℕ) (n : Bor (List ℕ)) → list_all (λ x. nat_lt (length x.now) 1000) ns ≡ true → slice_get ns k ≡ Some n → length n.now < 1000
name-short [] k n h e = cc
name-short (x ∷ ns) zero n h e = rw (← same_Some _ _ e) (ltb-true _ _ (and_left _ _ h))
name-short (x ∷ ns) (suc k) n h e = name-short ns k n (and_right _ _ h) e
