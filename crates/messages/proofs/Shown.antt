-- What a text shows is there, or lacks, by what the code finds.
-- Assumes nothing.
use Prim.Native.Nat.{ℕ, zero, suc, ◌+◌, ◌-◌, ◌<◌, ◌≤◌}
use mathlib.Core.Path.{◌≡◌, refl, sym, ap, ◌∙◌}
use mathlib.Core.Bool.{Bool, true, false, false≢true, ◌||◌}
use mathlib.Core.List.{List, [], ◌++◌}
use Rattle.std.specs.Prelude.{Option, Some, None}
use Rattle.std.proofs.lemmas.Option.{none-some}
use native.Mathlib.Omega.{arith}
use lib.Dec.{eqb}
use lib.ListN.{length, get_or, take, drop, length-drop}
use lib.Seq.{length-take-le}
use borrow.Author.Tests.{lt-ltb, le-ltb, le-leb, lt-leb, eq-eqb, ne_eqb, eqb-true, not-false}
use Rattle.text.specs.Pick.{Part, cut, pick}
use Rattle.tape.specs.Nodes.{Node, count, kind_at, marker_at, link_at, is_open, node_at, root_kind}
use Rattle.tape.specs.Forest.{Accepted, forest}
use Rattle.table.specs.Entries.{Entry, entries, nth}
use Rattle.cursor.specs.Names.{name_of}
use Rattle.cursor.specs.Info.{info_at, has_marker, only_for}
use Rattle.cursor.specs.Inner.{Spanned}
use Rattle.cursor.proofs.Around.{spanned}
use Rattle.numbers.specs.Label.{label_of, is_glued, numbered}
use Rattle.definition.specs.Checks.{book_code, number_markers}
use Rattle.definition.specs.Milestones.{is_start, is_end, base_of}
use Rattle.buffer.specs.Decimal.{decimal}
use Rattle.message_texts.specs.Texts as texts
use Rattle.message_texts.specs.Inner.{values}
use Rattle.messages.specs.Message.{Request, letter_bytes, label_in, name_in, unit_of, shown, shown_of, three}
use Rattle.messages.specs.Inner.{name_or}
use Rattle.text.specs.Bytes.{one_of}
use Rattle.table.specs.Inner.{Indexed, Sound}

-- a label, empty for a node that has none
module _ (e : Option Entry) (x : Node) (label : List ℕ) (is : label ≡ pick (numbered x.kind) (label_of e x.text) []) where
  pub label-there : (length label ≡ 0 → ⊥) → label_in e x ≡ Some label
  label-there h = go (numbered x.kind) refl
    where
      go : (b : Bool) → numbered x.kind ≡ b → label_in e x ≡ Some label
      go true k =
          let z : label ≡ label_of e x.text = is ∙ ap (λ (b : Bool). pick b (label_of e x.text) []) k in
          rw (← z, k, ne_eqb (length label) 0 h)
      go false k = absurd (h (ap length (is ∙ ap (λ (b : Bool). pick b (label_of e x.text) []) k)))

  pub label-lacks : length label ≡ 0 → label_in e x ≡ None
  label-lacks h = go (numbered x.kind) refl
    where
      go : (b : Bool) → numbered x.kind ≡ b → label_in e x ≡ None
      go true k =
          let z : label ≡ label_of e x.text = is ∙ ap (λ (b : Bool). pick b (label_of e x.text) []) k in
          rw (← z, k, eq-eqb (length label) 0 h)
      go false k = rw k

module _ (table s t : List ℕ) (q : Request) where
  abbrev e : Option Entry
  e = info_at table t q.node

  abbrev x : Node
  x = node_at s t q.node

  pub numbers-shown : three (shown table s t q texts.first) (shown table s t q texts.second) (shown table s t q texts.empty) ≡ Some (values (decimal q.first) (decimal q.second) [])
  unfolding shown_of
  numbers-shown = refl

  -- 11
  pub far-letter : 127 < q.second → three (shown table s t q texts.position) (shown table s t q texts.label) (shown table s t q texts.empty) ≡ None
  unfolding shown_of
  far-letter h = rw (lt-leb q.second 127 h)

  module _ (label : List ℕ) (is : label ≡ pick (numbered (kind_at t q.node)) (label_of e x.text) []) where
    pub verse-lacks : q.second ≤ 127 → length label ≡ 0 → three (shown table s t q texts.position) (shown table s t q texts.label) (shown table s t q texts.empty) ≡ None
    unfolding shown_of
    verse-lacks h k = rw (le-leb q.second 127 h, label-lacks e x label is k)

    pub verse-shown : q.second ≤ 127 → (length label ≡ 0 → ⊥) → three (shown table s t q texts.position) (shown table s t q texts.label) (shown table s t q texts.empty) ≡ Some (values (decimal q.first ++ letter_bytes q.second) label [])
    unfolding shown_of
    verse-shown h k = rw (le-leb q.second 127 h, label-there e x label is k)

    -- 15
    pub label-none : length label ≡ 0 → three (shown table s t q texts.label) (shown table s t q texts.empty) (shown table s t q texts.empty) ≡ None
    unfolding shown_of
    label-none k = rw (label-lacks e x label is k)

    pub label-shown : (length label ≡ 0 → ⊥) → three (shown table s t q texts.label) (shown table s t q texts.empty) (shown table s t q texts.empty) ≡ Some (values label [] [])
    unfolding shown_of
    label-shown k = rw (label-there e x label is k)

  -- 34
  pub not-numbered : numbered (kind_at t q.node) ≡ false → three (shown table s t q texts.glued_name) (shown table s t q texts.bare_name) (shown table s t q texts.glued_label) ≡ None
  unfolding shown_of
  not-numbered h = rw h

  module _ (n : numbered (kind_at t q.node) ≡ true) where
    pub not-glued : is_glued e (name_of x.text) ≡ false → three (shown table s t q texts.glued_name) (shown table s t q texts.bare_name) (shown table s t q texts.glued_label) ≡ None
    unfolding shown_of
    not-glued h = rw (n, h)

    pub glued-shown : (name label : List ℕ) → is_glued e (name_of x.text) ≡ true → name ≡ name_of x.text → label ≡ label_of e x.text → three (shown table s t q texts.glued_name) (shown table s t q texts.bare_name) (shown table s t q texts.glued_label) ≡ Some (values name (take (length name - length label) name) label)
    unfolding shown_of
    glued-shown name label g is l = rw (is, l, n, g)

  -- 16
  pub root-base : q.node ≡ 0 → three (shown table s t q texts.base) (shown table s t q texts.empty) (shown table s t q texts.empty) ≡ None
  unfolding shown_of
  root-base h = rw (eq-eqb q.node 0 h)

  pub no-base : (b : Bool) → b ≡ (is_start x || is_end x) → b ≡ false → (q.node ≡ 0 → ⊥) → three (shown table s t q texts.base) (shown table s t q texts.empty) (shown table s t q texts.empty) ≡ None
  unfolding shown_of
  no-base b is h n = rw (ne_eqb q.node 0 n, ← is, h)

  pub base-shown : (b : Bool) (base : List ℕ) → b ≡ (is_start x || is_end x) → b ≡ true → (q.node ≡ 0 → ⊥) → base ≡ base_of x → three (shown table s t q texts.base) (shown table s t q texts.empty) (shown table s t q texts.empty) ≡ Some (values base [] [])
  unfolding shown_of
  base-shown b base is h n l = rw (l, ne_eqb q.node 0 n, ← is, h)

  -- 32
  pub root-owner : q.first ≡ 0 → three (shown table s t q texts.owner_name) (shown table s t q texts.empty) (shown table s t q texts.empty) ≡ None
  unfolding shown_of
  root-owner h = rw (eq-eqb q.first 0 h)

  pub far-owner : (q.first ≡ 0 → ⊥) → count t ≤ q.first → three (shown table s t q texts.owner_name) (shown table s t q texts.empty) (shown table s t q texts.empty) ≡ None
  unfolding shown_of
  far-owner n h = rw (ne_eqb q.first 0 n, le-ltb q.first (count t) h)

  pub owner-shown : (name : List ℕ) → (q.first ≡ 0 → ⊥) → q.first < count t → name ≡ name_of (node_at s t q.first).text → three (shown table s t q texts.owner_name) (shown table s t q texts.empty) (shown table s t q texts.empty) ≡ Some (values name [] [])
  unfolding shown_of
  owner-shown name n h is = rw (is, ne_eqb q.first 0 n, lt-ltb q.first (count t) h)

  -- 33
  pub root-number : q.node ≡ 0 → three (shown table s t q texts.number_name) (shown table s t q texts.owner) (shown table s t q texts.unit) ≡ None
  unfolding shown_of
  root-number h = rw (eq-eqb q.node 0 h)

  module _ (name : List ℕ) (is : name ≡ name_of x.text) (n : q.node ≡ 0 → ⊥) where
    pub no_number : one_of number_markers name ≡ false → three (shown table s t q texts.number_name) (shown table s t q texts.owner) (shown table s t q texts.unit) ≡ None
    unfolding shown_of
    no_number h = rw (ne_eqb q.node 0 n, ← is, h)

    pub number-shown : one_of number_markers name ≡ true → three (shown table s t q texts.number_name) (shown table s t q texts.owner) (shown table s t q texts.unit) ≡ Some (values name (take 1 name) (unit_of (eqb (get_or name 0 0) 0x63)))
    unfolding shown_of
    number-shown h = rw (ne_eqb q.node 0 n, ← is, h)

  -- 5
  pub no-open : is_open (kind_at t q.node) ≡ false → three (shown table s t q texts.book_code) (shown table s t q texts.empty) (shown table s t q texts.empty) ≡ None
  unfolding shown_of
  no-open h = rw h

  module _ (code : List ℕ) (is : code ≡ book_code (forest s t (q.node + 1) (link_at t q.node))) (o : is_open (kind_at t q.node) ≡ true) where
    pub no_code : length code ≡ 0 → three (shown table s t q texts.book_code) (shown table s t q texts.empty) (shown table s t q texts.empty) ≡ None
    unfolding shown_of
    no_code h = rw (o, ← is, eq-eqb (length code) 0 h)

    pub code-shown : (length code ≡ 0 → ⊥) → three (shown table s t q texts.book_code) (shown table s t q texts.empty) (shown table s t q texts.empty) ≡ Some (values code [] [])
    unfolding shown_of
    code-shown h = rw (o, ← is, ne_eqb (length code) 0 h)

cut-length : (p : Part) (s : List ℕ) → p.start + p.len ≤ length s → length (cut p s) ≡ p.len
cut-length p s h = length-take-le p.len (drop p.start s) (rw length-drop (omega arith))

-- 13 and 24: an entry of a well-formed table has a name that isn't empty
module _ (table index : List ℕ) (n : ℕ) (ix : Indexed table index n) (t : List ℕ) (i : ℕ) where
  pub entry-sound : (k : Entry) → info_at table t i ≡ Some k → Sound table k
  unfolding info_at
  entry-sound k h = go (has_marker (kind_at t i)) h
    where
      go : (b : Bool) → only_for b (nth (entries table) (marker_at t i)) ≡ Some k → Sound table k
      go true z = ix.sound (marker_at t i) k z
      go false z = absurd (none-some k z)

  module _ (name : List ℕ) (is : name ≡ name_or table (info_at table t i)) where
    pub entry-lacks : length name ≡ 0 → name_in table (info_at table t i) ≡ None
    entry-lacks h = go (info_at table t i) refl
      where
        go : (o : Option Entry) → info_at table t i ≡ o → name_in table o ≡ None
        go None z = refl
        go (Some k) z =
            let l : length name ≡ k.name.len = ap length (is ∙ ap (name_or table) z) ∙ cut-length k.name table (entry-sound k z).inside in
            absurd (omega (arith, (entry-sound k z).named, l, h))

    pub entry-there : (length name ≡ 0 → ⊥) → name_in table (info_at table t i) ≡ Some name
    entry-there h = go (info_at table t i) refl
      where
        go : (o : Option Entry) → info_at table t i ≡ o → name_in table o ≡ Some name
        go None z = absurd (h (ap length (is ∙ ap (name_or table) z)))
        go (Some k) z = ap Some (sym (is ∙ ap (name_or table) z))

module _ (table s t : List ℕ) (q : Request) where
  pub entry-none : name_in table (info_at table t q.node) ≡ None → three (shown table s t q texts.entry_name) (shown table s t q texts.empty) (shown table s t q texts.empty) ≡ None
  unfolding shown_of
  entry-none h = rw h

  pub entry-shown : (name : List ℕ) → name_in table (info_at table t q.node) ≡ Some name → three (shown table s t q texts.entry_name) (shown table s t q texts.empty) (shown table s t q texts.empty) ≡ Some (values name [] [])
  unfolding shown_of
  entry-shown name h = rw h

-- the root is no chapter and no verse, and has no marker
root-kind : (s t : List ℕ) → Accepted s t → 0 < count t → kind_at t 0 ≡ 0
root-kind s t a l = eqb-true (kind_at t 0) root_kind (not-false _ (a.kinds 0 l))

pub numbered-spanned : (s t : List ℕ) (i : ℕ) → Accepted s t → i < count t → numbered (kind_at t i) ≡ true → Spanned s t i
numbered-spanned s t zero a l h = let k = root-kind s t a l in let z : ◌≡◌ {A = Bool} false true = rw k at h in absurd (false≢true z)
numbered-spanned s t (suc i) a l h = spanned s t (suc i) a (omega arith) l

-- nor an open node
pub open-later : (s t : List ℕ) (i : ℕ) → Accepted s t → i < count t → is_open (kind_at t i) ≡ true → 1 ≤ i
open-later s t zero a l h = let k = root-kind s t a l in let z : ◌≡◌ {A = Bool} false true = rw k at h in absurd (false≢true z)
open-later s t (suc i) a l h = omega arith

module _ (table s t : List ℕ) (q : Request) where
  pub root-entry : Accepted s t → q.node < count t → q.node ≡ 0 → name_in table (info_at table t q.node) ≡ None
  unfolding info_at
  root-entry a l h =
      let k = root-kind s t a (omega (arith, l)) in
      rw (h, k)
