-- A Text or an Attribute, or neither where it has no bytes: what the list will hold stays the same.
-- Assumes nothing.
use Prim.Native.Nat.{ℕ, zero, suc, ◌+◌}
use native.Mathlib.Nat.{add-zero}
use native.Mathlib.Numerals.{add-one}
use native.Mathlib.Omega.{arith}
use mathlib.Core.Path.{◌≡◌, refl, ap, ◌∙◌}
use mathlib.Core.List.{List, []}
use lib.ListN.{length}
use borrow.Author.Tests.{ne_eqb}
use Rattle.tape.specs.Nodes.{text_kind, attribute_kind}
use Rattle.reader_spec.specs.Pass.{ReadNode, text, attribute, with_text, with_attribute}
use Rattle.reader_spec.specs.Rows.{rows_from}
use Rattle.reader_spec.specs.InnerWriting.{laid, will_hold}
use Rattle.reader_spec.proofs.Fields.{rows-length}
use Rattle.reader_spec.proofs.Stores.{Before, hold-leaf}
use Rattle.node_writer.specs.Written.{leaf_rows}

-- the rows that the code lays
text-rows : (n at len : ℕ) → leaf_rows text_kind at len ≡ rows_from n (with_text at len [])
unfolding rows_from
text-rows n at zero = refl
text-rows n at (suc len) = rw (ne_eqb (suc len) 0 (λ z. omega arith))

attribute-rows : (n at len : ℕ) → leaf_rows attribute_kind at len ≡ rows_from n (with_attribute at len [])
unfolding rows_from
attribute-rows n at zero = refl
attribute-rows n at (suc len) = rw (ne_eqb (suc len) 0 (λ z. omega arith))

pub text-count : (at len : ℕ) → length (leaf_rows text_kind at len) ≡ length (with_text at len [])
text-count at len = ap length (text-rows 0 at len) ∙ rows-length 0 (with_text at len [])

pub attribute-count : (at len : ℕ) → length (leaf_rows attribute_kind at len) ≡ length (with_attribute at len [])
attribute-count at len = ap length (attribute-rows 0 at len) ∙ rows-length 0 (with_attribute at len [])

module _ (w : List ℕ) (n at len : ℕ) {v : List ℕ} {r : ℕ} where
  pub text-put : (v ≡ laid w n (leaf_rows text_kind at len)) × (r ≡ n + length (leaf_rows text_kind at len)) → (v ≡ laid w n (rows_from n (with_text at len []))) × (r ≡ n + length (with_text at len []))
  text-put e = (e.0 ∙ ap (laid w n) (text-rows n at len), e.1 ∙ ap (n +◌) (text-count at len))

  pub attribute-put : (v ≡ laid w n (leaf_rows attribute_kind at len)) × (r ≡ n + length (leaf_rows attribute_kind at len)) → (v ≡ laid w n (rows_from n (with_attribute at len []))) × (r ≡ n + length (with_attribute at len []))
  attribute-put e = (e.0 ∙ ap (laid w n) (attribute-rows n at len), e.1 ∙ ap (n +◌) (attribute-count at len))

module _ (w : List ℕ) (n : ℕ) (os : List ℕ) (before : Before n os) (at : ℕ) where
  pub hold-text : (len : ℕ) (is : List ReadNode) → will_hold (laid w n (rows_from n (with_text at len []))) (n + length (with_text at len [])) os is ≡ will_hold w n os (with_text at len is)
  unfolding laid rows_from
  hold-text zero is = rw (add-zero n)
  hold-text (suc len) is = rw (add-one n) (hold-leaf w n os before is (text at (suc len)) 0 refl)

  pub hold-attribute : (len : ℕ) (is : List ReadNode) → will_hold (laid w n (rows_from n (with_attribute at len []))) (n + length (with_attribute at len [])) os is ≡ will_hold w n os (with_attribute at len is)
  unfolding laid rows_from
  hold-attribute zero is = rw (add-zero n)
  hold-attribute (suc len) is = rw (add-one n) (hold-leaf w n os before is (attribute at (suc len)) 0 refl)

-- the two one behind the other
pub laid_both : (w : List ℕ) (n a x b y : ℕ) → laid (laid w n (rows_from n (with_text a x []))) (n + length (with_text a x [])) (rows_from (n + length (with_text a x [])) (with_attribute b y [])) ≡ laid w n (rows_from n (with_text a x (with_attribute b y [])))
unfolding laid rows_from
laid_both w n a zero b y = rw (add-zero n)
laid_both w n a (suc x) b y = rw (add-one n)

pub both-length : (a x b y : ℕ) (is : List ReadNode) → length (with_text a x (with_attribute b y is)) ≡ length (with_text a x []) + length (with_attribute b y []) + length is
both-length a zero b zero is = omega arith
both-length a zero b (suc y) is = omega arith
both-length a (suc x) b zero is = omega arith
both-length a (suc x) b (suc y) is = omega arith
