-- The fields that are read off the bytes of rows are the rows' own.
-- Assumes nothing.
use Prim.Native.Nat.{ℕ, suc, ◌+◌, ◌*◌, ◌/◌, ◌%◌, ◌<◌}
use native.Mathlib.Omega.{arith}
use mathlib.Core.Path.{◌≡◌, refl, sym, ap, ◌∙◌}
use mathlib.Core.List.{List, [], ◌∷◌, ◌++◌}
use lib.ListN.{length, get_or, drop}
use lib.Seq.{get_or-drop, drop-drop}
use Rattle.tape.specs.Nodes.{half, word, kind_at, marker_at, start_at, len_at, link_at}
use Rattle.definition.specs.Examples.{Row, tape_of}
use Rattle.reader_spec.specs.Pass.{ReadNode}
use Rattle.reader_spec.specs.InnerWriting.{bytes_of}
use Rattle.reader_spec.specs.Rows.{rows_from}

-- the bounds of the fields of a node
pub record Fits (r : Row) : Type 0 where
  pub marker : r.marker < 65536
  pub start : r.start < 4294967296
  pub len : r.len < 4294967296
  pub link : r.link < 4294967296

-- node n of the tape has these fields
pub record Has (t : List ℕ) (n : ℕ) (r : Row) : Type 0 where
  pub kind : kind_at t n ≡ r.kind
  pub marker : marker_at t n ≡ r.marker
  pub start : start_at t n ≡ r.start
  pub len : len_at t n ≡ r.len
  pub link : link_at t n ≡ r.link

half_back : (m : ℕ) → m < 65536 → m % 256 + 256 * (m / 256) ≡ m
half_back m h = omega arith

word_back : (n : ℕ) → n % 256 + 256 * (n / 256 % 256) + 65536 * (n / 65536 % 256) + 16777216 * (n / 16777216) ≡ n
word_back n = omega arith

module _ (t : List ℕ) (n : ℕ) (r : Row) (rest : List ℕ) (is : drop (16 * n) t ≡ bytes_of r ++ rest) where
  byte_at : (j : ℕ) → get_or t (16 * n + j) 0 ≡ get_or (bytes_of r ++ rest) j 0
  byte_at j = sym (get_or-drop (16 * n) t j 0) ∙ ap (λ (l : List ℕ). get_or l j 0) is

  byte-by : (i j : ℕ) → i ≡ 16 * n + j → get_or t i 0 ≡ get_or (bytes_of r ++ rest) j 0
  byte-by i j e = ap (λ (k : ℕ). get_or t k 0) e ∙ byte_at j

  pub has-link : link_at t n ≡ r.link
  unfolding word tape_of
  has-link = rw (byte_at 12, byte-by (16 * n + 12 + 1) 13 (omega arith), byte-by (16 * n + 12 + 2) 14 (omega arith), byte-by (16 * n + 12 + 3) 15 (omega arith)) (word_back r.link)

  pub has-marker : r.marker < 65536 → marker_at t n ≡ r.marker
  unfolding half tape_of
  has-marker f = rw (byte_at 2, byte-by (16 * n + 2 + 1) 3 (omega arith)) (half_back r.marker f)

  pub has : Fits r → Has t n r
  unfolding half word tape_of
  has f =
      record {
        kind = byte-by (16 * n) 0 (omega arith);
        marker = has-marker f.marker;
        start = rw (byte_at 4, byte-by (16 * n + 4 + 1) 5 (omega arith), byte-by (16 * n + 4 + 2) 6 (omega arith), byte-by (16 * n + 4 + 3) 7 (omega arith)) (word_back r.start);
        len = rw (byte_at 8, byte-by (16 * n + 8 + 1) 9 (omega arith), byte-by (16 * n + 8 + 2) 10 (omega arith), byte-by (16 * n + 8 + 3) 11 (omega arith)) (word_back r.len);
        link = has-link;
      }

  pub onward : drop (16 * suc n) t ≡ rest
  unfolding tape_of
  onward =
      let e : 16 * suc n ≡ 16 * n + 16 = omega arith in
      ap (λ (k : ℕ). drop k t) e ∙ sym (drop-drop 16 (16 * n) t) ∙ ap (drop 16) is

-- the tape of rows has 16 bytes for each
pub tape-length : (rs : List Row) → length (tape_of rs) ≡ 16 * length rs
unfolding tape_of
tape-length [] = refl
tape-length (r ∷ rs) = let e = tape-length rs in omega arith

pub rows-length : (n : ℕ) (is : List ReadNode) → length (rows_from n is) ≡ length is
unfolding rows_from
rows-length n [] = refl
rows-length n (i ∷ is) = ap suc (rows-length (suc n) is)
