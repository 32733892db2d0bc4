-- The places that a marker's piece is made of lie between characters, and the cut of a number node's name splits none.
-- Assumes nothing.
use mathlib.Core.Path.{◌≡◌, refl, ap, ◌∙◌}
use mathlib.Core.Bool.{Bool, true, false, not, ◌&&◌}
use mathlib.Core.List.{List, ◌++◌}
use Rattle.std.specs.Prelude.{Some, None}
use Prim.Native.Nat.{ℕ, zero, suc, ◌+◌, ◌-◌, ◌<◌, ◌≤◌}
use native.Mathlib.Decide.{dec_lt}
use native.Mathlib.Omega.{arith}
use lib.Dec.{eqb, ltb}
use lib.ListN.{length, get_or, take, drop, length-drop, length-take, take-append-drop, get_or-eq_default}
use lib.Seq.{length-take-le, get_or-take, take-take, take-add, drop_at}
use borrow.Author.Tests.{ltb-true}
use Rattle.text.specs.Pick.{pick}
use Rattle.text.specs.Utf8.{Made}
use Rattle.text.specs.Characters.{find, is_boundary}
use Rattle.text.specs.Words.{not_blank}
use Rattle.text.proofs.Boundary.{at_zero}
use Rattle.text.proofs.WellFormed.{boundary-le, made-part, made-find-from}
use Rattle.table.specs.Entries.{Entry, entries, nth}
use Rattle.table.specs.Lines.{bad_table}
use Rattle.table.specs.Names.{looked_up}
use Rattle.cursor.specs.Names.{past_one, ends_name, name_part, name_of}
use Rattle.numbers.specs.Label.{is_glued, label_of, splits}
use Rattle.numbers.specs.Verse.{PartReading, position, no_digits, too_large, verse_part}
use Rattle.numbers.proofs.Readable.{start-readable}
use Rattle.reader_spec.specs.Pieces.{backslash, byte_is, name_end, blanks_at, ends_word, with_word, number_size, number_or0, number_link}
use Rattle.reader_spec.proofs.Sound.{Numbered, Edge}
use Rattle.reader_spec.proofs.Below.{find-part, past-byte}
use Rattle.reader_spec.proofs.Lookup.{cut-whole, found_some}

drop-take : (a k : ℕ) (l : List ℕ) → a ≤ length l → drop a (take (a + k) l) ≡ take k (drop a l)
drop-take a k l h = ap (drop a) (take-add a k l) ∙ drop_at (take a l) (take k (drop a l)) a (length-take-le a l h)

-- the list begins with a backslash
module _ (l : List ℕ) (made : Made l) (slash : byte_is backslash l 0 ≡ true) where
  after-slash : Edge l 1
  after-slash = past-byte made backslash 0 (omega arith) slash (at_zero l 0 refl)

  -- where the name begins: after one `+`, if there is one
  begins : Edge l (past_one 0x2B l 1) × (1 ≤ past_one 0x2B l 1)
  begins = go (eqb (get_or l 1 256) 0x2B) refl
    where
      go : (x : Bool) → eqb (get_or l 1 256) 0x2B ≡ x → Edge l (pick x (1 + 1) 1) × (1 ≤ pick x (1 + 1) 1)
      go true e = (past-byte made 0x2B 1 (omega arith) e after-slash, omega arith)
      go false e = (after-slash, omega arith)

  name-start : (name_part l).start ≡ past_one 0x2B l 1
  unfolding name_part
  name-start = rw slash

  name-len : (name_part l).len ≡ find ends_name (drop (name_part l).start l)
  unfolding name_part
  name-len = refl

  pub name-edge : Edge l (name_end l)
  name-edge = rw (name-len, name-start) (made-find-from made ends_name (past_one 0x2B l 1) begins.0)

  pub name-some : 1 ≤ name_end l
  name-some = let b = begins.1 in rw name-start (omega arith)

  -- a marker that is found has a backslash and a name
  pub name-two : (t : List ℕ) (m : ℕ) (e : Entry) → bad_table t ≡ None → looked_up t (name_of l) ≡ Some m → nth (entries t) m ≡ Some e → 2 ≤ name_end l
  name-two t m e g h n =
      let b = begins.1 in
      let one : 1 ≤ length (take (name_part l).len (drop (name_part l).start l)) = found_some t (name_of l) m e g h n in
      let some-len : 1 ≤ (name_part l).len = omega (arith, length-take (name_part l).len (drop (name_part l).start l)) in
      omega (arith, name-start)

  -- the blanks after the name, and the word after these
  word-edge : (k : ℕ) → blanks_at l (name_end l) ≡ k → Edge l (with_word (name_end l) k l)
  word-edge zero e = name-edge
  word-edge (suc k) e = made-find-from made ends_word (name_end l + suc k) (rw e at (made-find-from made not_blank (name_end l) name-edge))

  pub number-edge : (e : Entry) → Edge l (number_size e l)
  unfolding number_size
  number-edge e = go (is_glued (Some e) (name_of l))
    where
      go : (x : Bool) → Edge l (pick x (name_end l) (with_word (name_end l) (blanks_at l (name_end l)) l))
      go true = name-edge
      go false = word-edge (blanks_at l (name_end l)) refl

  with-word-le : (at k : ℕ) → at ≤ with_word at k l
  with-word-le at zero = omega arith
  with-word-le at (suc k) = omega arith

  pub number-le : (e : Entry) → name_end l ≤ number_size e l
  unfolding number_size
  number-le e = go (is_glued (Some e) (name_of l))
    where
      go : (x : Bool) → name_end l ≤ pick x (name_end l) (with_word (name_end l) (blanks_at l (name_end l)) l)
      go true = omega arith
      go false = with-word-le (name_end l) (blanks_at l (name_end l))

  -- a part of the list that reaches past the name has the same name
  module _ (n : ℕ) (past : name_end l ≤ n) (edge : Edge l n) where
    abbrev a : ℕ
    a = past_one 0x2B l 1

    a-le : a + find ends_name (drop a l) ≤ n
    a-le = rw (name-len, name-start) at past

    plus : past_one 0x2B (take n l) 1 ≡ a
    plus = go (dec_lt 1 n) (eqb (get_or l 1 256) 0x2B) refl
      where
        go : Dec (1 < n) → (x : Bool) → eqb (get_or l 1 256) 0x2B ≡ x → pick (eqb (get_or (take n l) 1 256) 0x2B) (1 + 1) 1 ≡ pick (eqb (get_or l 1 256) 0x2B) (1 + 1) 1
        go (yes h) x e = rw (get_or-take n l 1 256 h)
        go (no h) true e = let two : a ≡ 2 = rw e in absurd (omega (arith, a-le, two))
        go (no h) false e =
            let short : length (take n l) ≤ 1 = omega (arith, length-take-le n l (boundary-le l n edge)) in
            rw (e, get_or-eq_default (take n l) 256 short)

    start-same : (name_part (take n l)).start ≡ a
    unfolding name_part
    start-same =
        let h : 0 < n = omega (arith, name-some) in
        rw (get_or-take n l 0 256 h, slash) plus

    rest-same : drop a (take n l) ≡ take (n - a) (drop a l)
    rest-same =
        let h = boundary-le l a begins.0 in
        let z : n ≡ a + (n - a) = omega (arith, a-le) in
        ap (λ (k : ℕ). drop a (take k l)) z ∙ drop-take a (n - a) l h

    rest-made : Made (take (n - a) (drop a l))
    rest-made =
        let z : a + (n - a) ≡ n = omega (arith, a-le) in
        made-part made a (n - a) begins.0 (rw z edge)

    find-same : find ends_name (drop a (take n l)) ≡ find ends_name (drop a l)
    find-same =
        let whole : take (n - a) (drop a l) ++ drop (n - a) (drop a l) ≡ drop a l = take-append-drop (n - a) (drop a l) in
        let h = boundary-le l n edge in
        let long : length (take (n - a) (drop a l)) ≡ n - a = length-take-le (n - a) (drop a l) (omega (arith, length-drop a l)) in
        let low : find ends_name (take (n - a) (drop a l) ++ drop (n - a) (drop a l)) ≤ length (take (n - a) (drop a l)) = rw (whole, long) (omega (arith, a-le)) in
        ap (find ends_name) rest-same ∙ find-part ends_name (drop (n - a) (drop a l)) rest-made low ∙ ap (find ends_name) whole

    len-same : (name_part (take n l)).len ≡ find ends_name (drop a l)
    unfolding name_part
    len-same =
        let h : 0 < n = omega (arith, name-some) in
        rw (get_or-take n l 0 256 h, slash, plus) find-same

    pub name-same : name_of (take n l) ≡ name_of l
    name-same =
        rw (start-same, len-same, name-len, name-start, rest-same)
        (take-take (find ends_name (drop a l)) (n - a) (drop a l) (omega (arith, a-le)))

  -- a number node
  number_low : (r : PartReading) (s : List ℕ) → verse_part s ≡ r → number_or0 r < 4294967296
  number_low (position p) s e = let h = (start-readable s p e).number_low in omega arith
  number_low no_digits s e = omega arith
  number_low too_large s e = omega arith

  pub number-node : (t : List ℕ) (m : ℕ) (e : Entry) → looked_up t (name_of l) ≡ Some m → nth (entries t) m ≡ Some e → Numbered t m (number_link e l) (take (number_size e l) l)
  unfolding number_link splits
  number-node t m e h n =
      record {
        low = number_low (verse_part (label_of (Some e) (take (number_size e l) l))) (label_of (Some e) (take (number_size e l) l)) refl;
        whole = rw (n, name-same (number_size e l) (number-le e) (number-edge e)) (go (ltb e.name.len (length (name_of l))) refl);
      }
    where
      go : (x : Bool) → ltb e.name.len (length (name_of l)) ≡ x → (x && not (is_boundary (name_of l) e.name.len)) ≡ false
      go true q = rw ((cut-whole t (name_of l) m e h n).whole (ltb-true e.name.len (length (name_of l)) q))
      go false q = refl
