-- What a `match` on a position answers, at the numbers that it does not name.
-- Assumes nothing.
use mathlib.Core.Path.{◌≡◌, refl}
use mathlib.Core.Bool.{Bool, true, false, ◌||◌}
use mathlib.Core.List.{List, [], ◌∷◌}
use Rattle.std.specs.Prelude.{Some, None}
use Prim.Native.Nat.{ℕ, zero, suc, ◌<◌, ◌≤◌}
use native.Mathlib.Omega.{arith}
use Rattle.table.specs.declared.Category.TheVariants.{Other}
use Rattle.table.specs.declared.TextRole.TheVariants.{Boundary}
use Rattle.table.specs.declared.DefaultAttribute.TheVariants.{Lemma, Id}
use Rattle.table.specs.Entries.{category_of, role_of}
use Rattle.text.specs.Pick.{pick}
use Rattle.table.specs.Names.{lemma_names, rb, xt, ref, jmp, periph, qt, default_name, attribute_name}
use Rattle.table.specs.Books.{code_from}
use Rattle.table.specs.Inner.{attribute_at, attribute_by, category_at, role_at}
use Rattle.text.specs.Literal.{ascii}
use Rattle.text.specs.Bytes.{equal, one_of, starting}

pub category-rest : (n : ℕ) → (n ≡ 0 → ⊥) → (n ≡ 1 → ⊥) → (n ≡ 2 → ⊥) → (n ≡ 3 → ⊥) → (n ≡ 4 → ⊥) → (n ≡ 5 → ⊥) → (n ≡ 6 → ⊥) → Other ≡ category_at n
category-rest zero a b c d e f g = absurd (a refl)
category-rest (suc zero) a b c d e f g = absurd (b refl)
category-rest (suc (suc zero)) a b c d e f g = absurd (c refl)
category-rest (suc (suc (suc zero))) a b c d e f g = absurd (d refl)
category-rest (suc (suc (suc (suc zero)))) a b c d e f g = absurd (e refl)
category-rest (suc (suc (suc (suc (suc zero))))) a b c d e f g = absurd (f refl)
category-rest (suc (suc (suc (suc (suc (suc zero)))))) a b c d e f g = absurd (g refl)
category-rest (suc (suc (suc (suc (suc (suc (suc n))))))) a b c d e f g = refl

pub category-back : (n : ℕ) → n < 8 → category_of (category_at n) ≡ n
category-back zero h = refl
category-back (suc zero) h = refl
category-back (suc (suc zero)) h = refl
category-back (suc (suc (suc zero))) h = refl
category-back (suc (suc (suc (suc zero)))) h = refl
category-back (suc (suc (suc (suc (suc zero))))) h = refl
category-back (suc (suc (suc (suc (suc (suc zero)))))) h = refl
category-back (suc (suc (suc (suc (suc (suc (suc n))))))) h = omega arith

pub role-rest : (n : ℕ) → (n ≡ 0 → ⊥) → (n ≡ 1 → ⊥) → Boundary ≡ role_at n
role-rest zero a b = absurd (a refl)
role-rest (suc zero) a b = absurd (b refl)
role-rest (suc (suc n)) a b = refl

pub role-back : (n : ℕ) → n < 3 → role_of (role_at n) ≡ n
role-back zero h = refl
role-back (suc zero) h = refl
role-back (suc (suc n)) h = omega arith

pub attribute-first : (n : ℕ) → n < 4 → Lemma ≡ attribute_at n
attribute-first zero h = refl
attribute-first (suc zero) h = refl
attribute-first (suc (suc zero)) h = refl
attribute-first (suc (suc (suc zero))) h = refl
attribute-first (suc (suc (suc (suc n)))) h = absurd (omega arith)

pub attribute-rest : (n : ℕ) → 4 ≤ n → (n ≡ 4 → ⊥) → (n ≡ 5 → ⊥) → (n ≡ 6 → ⊥) → (n ≡ 7 → ⊥) → Id ≡ attribute_at n
attribute-rest zero h a b c d = absurd (omega arith)
attribute-rest (suc zero) h a b c d = absurd (omega arith)
attribute-rest (suc (suc zero)) h a b c d = absurd (omega arith)
attribute-rest (suc (suc (suc zero))) h a b c d = absurd (omega arith)
attribute-rest (suc (suc (suc (suc zero)))) h a b c d = absurd (a refl)
attribute-rest (suc (suc (suc (suc (suc zero))))) h a b c d = absurd (b refl)
attribute-rest (suc (suc (suc (suc (suc (suc zero)))))) h a b c d = absurd (c refl)
attribute-rest (suc (suc (suc (suc (suc (suc (suc zero))))))) h a b c d = absurd (d refl)
attribute-rest (suc (suc (suc (suc (suc (suc (suc (suc n)))))))) h a b c d = refl

-- the names that have an attribute, and the position of a name among them
unfoldable pub owners : List (List ℕ)
owners = (119 ∷ []) ∷ (119 ∷ 97 ∷ []) ∷ (119 ∷ 103 ∷ []) ∷ (119 ∷ 104 ∷ []) ∷ rb ∷ xt ∷ ref ∷ jmp ∷ periph ∷ []

default-by : (a b c d e f g h i q : Bool) →
    attribute_name (attribute_by (pick a (Some 0) (pick b (Some 1) (pick c (Some 2) (pick d (Some 3) (pick e (Some 4) (pick f (Some 5) (pick g (Some 6) (pick h (Some 7) (pick i (Some 8) None))))))))) q) ≡
    pick (a || (b || (c || (d || false)))) (Some (ascii "lemma"))
    (pick e (Some (ascii "gloss")) (pick f (Some (ascii "href")) (pick g (Some (ascii "loc")) (pick h (Some (ascii "link-href")) (pick i (Some (ascii "id")) (pick q (Some (ascii "who")) None))))))
default-by true b c d e f g h i q = refl
default-by false true c d e f g h i q = refl
default-by false false true d e f g h i q = refl
default-by false false false true e f g h i q = refl
default-by false false false false true f g h i q = refl
default-by false false false false false true g h i q = refl
default-by false false false false false false true h i q = refl
default-by false false false false false false false true i q = refl
default-by false false false false false false false false true q = refl
default-by false false false false false false false false false true = refl
default-by false false false false false false false false false false = refl

pub default-is : (s : List ℕ) → attribute_name (attribute_by (code_from 0 owners s) (starting qt s)) ≡ default_name s
unfolding ascii default_name one_of lemma_names code_from owners
default-is s =
    default-by (equal (119 ∷ []) s) (equal (119 ∷ 97 ∷ []) s) (equal (119 ∷ 103 ∷ []) s) (equal (119 ∷ 104 ∷ []) s) (equal rb s) (equal xt s) (equal ref s) (equal jmp s) (equal periph s) (starting qt s)
