-- Laws about labels, and about number 9.
-- Assumes nothing.
use Prim.Native.Nat.{ℕ, zero, suc, ◌+◌, ◌-◌, ◌<◌, ◌≤◌}
use mathlib.Core.Path.{◌≡◌, refl, sym, ap, ◌∙◌}
use mathlib.Core.Bool.{Bool, true, false, not, ◌&&◌}
use mathlib.Core.Logic.{inl, inr}
use mathlib.Core.List.{List}
use Rattle.std.specs.Prelude.{Option, Some, None}
use native.Mathlib.Decide.{dec_lt}
use native.Mathlib.Nat.{le_refl}
use native.Mathlib.Omega.{arith}
use borrow.Author.Tests.{not-true, not-false, lt-ltb, le-ltb}
use lib.Dec.{ltb}
use lib.ListN.{length, get_or, take, drop, length-take, length-drop}
use lib.Seq.{length-take-le, take-add, drop_at, drop-drop, get_or-take, get_or-drop}
use Rattle.text.specs.Pick.{cut, end, within, pick}
use Rattle.text.specs.Utf8.{decode}
use Rattle.text.specs.Blank.{blank}
use Rattle.text.specs.Characters.{find, is_boundary}
use Rattle.text.specs.Words.{not_blank, word_from, first_word, second_word}
use Rattle.text.proofs.Blank.{blank-key, low-not-blank}
use Rattle.text.proofs.Boundary.{inside}
use Rattle.text.proofs.Chars.{stops}
use Rattle.text.proofs.Cuts.{word_cut}
use Rattle.text.proofs.Find.{past_ascii, stops-ascii}
use Rattle.text.proofs.Rows.{within-lo, within-hi}
use Rattle.tape.specs.Nodes.{count, kind_at, span}
use Rattle.refusals.specs.Refusal.{first_bad, split_label}
use Rattle.table.specs.Entries.{Entry, info_of}
use Rattle.table.specs.declared.MarkerInfo.{MarkerInfo}
use Rattle.cursor.specs.declared.NameSpan.{NameSpan}
use Rattle.cursor.specs.Names.{ends_name, name_part, name_of}
use Rattle.cursor.specs.Info.{info_at}
use Rattle.cursor.specs.Inner.{Named}
use Rattle.cursor.proofs.Named.{one_hit, one-miss, is_plain, name-cut, name-not-blank}
use Rattle.numbers.specs.declared.LabelSpan.{LabelSpan}
use Rattle.numbers.specs.Inner.{split_at, Labelled, LabelledBy, Usual}
use Rattle.numbers.specs.Label.{base_len, is_glued, label_of, splits, numbered, bad_label, label_refusal}

pub base-own : (m : Option MarkerInfo) (name : List ℕ) → m ≡ None → length name ≡ base_len (info_of m) name
base-own m name h = rw h refl

pub glued-by : (e : Option Entry) (text name : List ℕ) (base : ℕ) → name ≡ name_of text → base ≡ base_len e name → ltb base (length name) ≡ is_glued e (name_of text)
glued-by e text name base named based = rw (based, named)

-- the end of the first word, by that of the name
pub first-end : (s : List ℕ) (e : ℕ) → e ≡ end (name_part s) → 0 < e → e ≤ length s → e + find blank (drop e s) ≡ end (first_word s)
unfolding word_from
first-end s e is more h =
    let on : 0 + find blank s ≡ e + find blank (drop e s) = name-not-blank s ∙ rw is in
    let z : 0 + find not_blank s ≡ 0 = stops not_blank s 0 (omega arith) (ap not (go (blank (decode s).cp) refl on)) in
    sym (rw z on)
  where
    go : (v : Bool) → blank (decode s).cp ≡ v → 0 + find blank s ≡ e + find blank (drop e s) → blank (decode s).cp ≡ false
    go false y on = y
    go true y on = absurd (omega (arith, stops blank s 0 (omega arith) y))

-- the part of a part, from the place k on
pub part-from : (s : List ℕ) (b e k : ℕ) → k ≤ e - b → e ≤ length s → take (e - (b + k)) (drop (b + k) s) ≡ drop k (take (e - b) (drop b s))
part-from s b e k h i =
    let n : e - b ≡ k + (e - (b + k)) = omega arith in
    let m = length-take-le k (drop b s) (omega (arith, length-drop b s)) in
    rw (n, take-add k (e - (b + k)) (drop b s), drop_at (take k (drop b s)) (take (e - (b + k)) (drop k (drop b s))) k m, drop-drop k b s)

-- the places of the label: in the name, and past the first word
module _ (s : List ℕ) (at : NameSpan) (base : ℕ) (named : Named s at) where
  abbrev name : List ℕ
  name = take (at.end - at.start) (drop at.start s)

  longer : (v : Bool) → ltb base (length name) ≡ v → v ≡ ltb base (length (name_of s))
  longer v h = sym h ∙ ap (λ (x : List ℕ). ltb base (length x)) (name-cut s at named)

  label-by : (v : Bool) (l : List ℕ) → ltb base (length name) ≡ v → l ≡ pick v (drop base name) (cut (second_word s) s) → l ≡ pick (ltb base (length (name_of s))) (drop base (name_of s)) (cut (second_word s) s)
  label-by v l h e = e ∙ rw (longer v h, name-cut s at named)

  pub in-name : base < length name → LabelledBy base s (record { start = at.start + base; end = at.end; glued = true })
  in-name h =
      let l = length-take-le (at.end - at.start) (drop at.start s) (omega (arith, named.inside, length-drop at.start s)) in
      let v = lt-ltb base (length name) h in
      record {
        glued_is = longer true v;
        label_is = label-by true _ v (part-from s at.start at.end base (omega arith) named.inside);
        ordered = omega arith;
        inside = named.inside;
      }

  pub past-name : (f a z : ℕ) → length name ≤ base → f ≡ end (first_word s) → a ≡ f + find not_blank (drop f s) → z ≡ a + find blank (drop a s) → z ≤ length s → LabelledBy base s (record { start = a; end = z; glued = false })
  past-name f a z h is-first is-start is-end inside =
      let v = le-ltb base (length name) h in
      record {
        glued_is = longer false v;
        label_is = label-by false _ v (word_cut s f a z is-start is-end ∙ ap (λ (i : ℕ). cut (word_from i s) s) is-first);
        ordered = omega arith;
        inside = inside;
      }

-- a text that begins as most do: its name ends at 2, and its label begins at 3
module _ (s : List ℕ) (u : Usual s) where
  space-blank : blank (get_or s 2 0) ≡ true
  space-blank = blank-key (get_or s 2 0) (inl u.space)

  usual-name : Named s (record { start = 1; end = 2 })
  unfolding name_part
  usual-name =
      let long = u.long in
      let lo = within-lo 0x61 0x7A (get_or s 1 0) u.letter in
      let hi = within-hi 0x61 0x7A (get_or s 1 0) u.letter in
      let p = is_plain (get_or s 1 0) (omega arith) (omega arith) (λ e. omega arith) in
      let b = (one_hit s 0 0x5C (omega arith) u.backslash).is in
      let q = (one-miss s 1 0x2B (omega arith) (λ e. omega arith)).is in
      let e = past_ascii ends_name s 1 (omega arith) p.ascii p.goes_on in
      let f = stops-ascii ends_name s 2 (omega arith) (rw u.space (omega arith)) (rw space-blank) in
      record { begins = rw (← b, ← q); stops = rw (← b, ← q) (omega (arith, e, f)); inside = omega arith }

  usual-first : 2 ≡ end (first_word s)
  usual-first =
      let long = u.long in
      let n = usual-name in
      let f = stops-ascii blank s 2 (omega arith) (rw u.space (omega arith)) space-blank in
      sym f ∙ first-end s 2 n.stops (omega arith) (omega arith)

  usual-label : 3 ≡ 2 + find not_blank (drop 2 s)
  usual-label =
      let long = u.long in
      let lo = within-lo 0x30 0x39 (get_or s 3 0) u.digit in
      let hi = within-hi 0x30 0x39 (get_or s 3 0) u.digit in
      let e = past_ascii not_blank s 2 (omega arith) (rw u.space (omega arith)) (rw space-blank) in
      let f = stops-ascii not_blank s 3 (omega arith) (omega arith) (rw (low-not-blank (get_or s 3 0) (omega arith) (λ e. omega arith) (inr (omega arith)))) in
      omega (arith, e, f)

  pub usual : (base z : ℕ) → 1 ≤ base → z ≡ 3 + find blank (drop 3 s) → z ≤ length s → LabelledBy base s (record { start = 3; end = z; glued = false })
  usual base z more is-end inside =
      let long = u.long in
      let l = length-take-le 1 (drop 1 s) (omega (arith, length-drop 1 s)) in
      past-name s (record { start = 1; end = 2 }) base usual-name 2 3 z (omega (arith, l)) usual-first usual-label is-end inside

name-short : (s : List ℕ) → length (name_of s) ≤ length s
name-short s = omega (arith, length-take (name_part s).len (drop (name_part s).start s), length-drop (name_part s).start s)

-- the label of an entry: without one, no name is longer than the text
pub labelled : (e : Option Entry) (s : List ℕ) (base : ℕ) (r : LabelSpan) → base ≡ base_len e s → LabelledBy base s r → Labelled e s r
unfolding label_of
labelled (Some x) s base r h l = record { glued_is = rw h at l.glued_is; label_is = rw h at l.label_is; ordered = l.ordered; inside = l.inside }
labelled None s base r h l =
    let v : ltb base (length (name_of s)) ≡ false = le-ltb base (length (name_of s)) (omega (arith, name-short s)) in
    let own : ltb (length (name_of s)) (length (name_of s)) ≡ false = le-ltb (length (name_of s)) (length (name_of s)) (le_refl (length (name_of s))) in
    record { glued_is = l.glued_is ∙ v ∙ sym own; label_is = l.label_is ∙ rw (v, own) refl; ordered = l.ordered; inside = l.inside }

-- where a name would be split, by the text that it stands in
module _ (s : List ℕ) (b base : ℕ) (is-start : b ≡ (name_part s).start) where
  short : length (name_of s) ≤ length s - b
  short = omega (arith, length-take (name_part s).len (drop (name_part s).start s), length-drop (name_part s).start s)

  pub split-past : length s - b ≤ base → false ≡ split_at (name_of s) base
  split-past h = rw (le-ltb base (length (name_of s)) (omega (arith, short)))

  name-starts : (n : ℕ) → n < length (name_of s) → is_boundary s (b + n) ≡ true → is_boundary (name_of s) n ≡ true
  name-starts zero l h = refl
  name-starts (suc k) l h =
      let in-part : suc k < (name_part s).len = omega (arith, length-take (name_part s).len (drop (name_part s).start s)) in
      let byte : get_or (name_of s) (suc k) 0 ≡ get_or s (b + suc k) 0 = get_or-take (name_part s).len (drop (name_part s).start s) (suc k) 0 in-part ∙ get_or-drop (name_part s).start s (suc k) 0 ∙ rw is-start in
      inside (name_of s) (suc k) (λ z. omega arith) l
      ∙ ap (λ (x : ℕ). not (within 0x80 0xBF x)) byte
      ∙ sym (inside s (b + suc k) (λ z. omega arith) (omega (arith, short)))
      ∙ h

  pub split-none : is_boundary s (b + base) ≡ true → false ≡ split_at (name_of s) base
  split-none h = go (dec_lt base (length (name_of s)))
    where
      whole : (v t : Bool) → t ≡ true → false ≡ (v && not t)
      whole true t e = rw e
      whole false t e = refl

      go : Dec (base < length (name_of s)) → false ≡ split_at (name_of s) base
      go (yes l) = whole (ltb base (length (name_of s))) (is_boundary (name_of s) base) (name-starts base l h)
      go (no l) = rw (le-ltb base (length (name_of s)) (omega arith))

-- by its own bytes
pub split_by : (s name : List ℕ) (base : ℕ) → name ≡ name_of s → (v : Bool) → ltb base (length name) ≡ v → (v && not (is_boundary name base)) ≡ split_at (name_of s) base
split_by s name base named v h = rw (← h, named)

pub split-known : (m : MarkerInfo) (i : Option MarkerInfo) (s : List ℕ) → i ≡ Some m → split_at (name_of s) m.name_len ≡ splits (info_of i) s
unfolding splits
split-known m i s h = rw h

pub split-missing : (i : Option MarkerInfo) (s : List ℕ) → i ≡ None → false ≡ splits (info_of i) s
unfolding splits
split-missing i s h = rw (h, le-ltb (length (name_of s)) (length (name_of s)) (le_refl (length (name_of s))))

-- whether a node turns the tape back
module _ (table s t : List ℕ) (i k : ℕ) (x : Bool) (kind-is : k ≡ kind_at t i) (numbered_is : x ≡ numbered k) where
  pub bad-other : not x ≡ true → false ≡ bad_label table s t i
  bad-other h = let n : numbered (kind_at t i) ≡ false = ap numbered (sym kind-is) ∙ sym numbered_is ∙ not-true x h in rw n

  pub bad-by : (y : Bool) (o : Option Entry) (u : List ℕ) → not x ≡ false → o ≡ info_at table t i → u ≡ cut (span t i) s → y ≡ splits o u → y ≡ bad_label table s t i
  bad-by y o u h oe ue e =
      let n : numbered (kind_at t i) ≡ true = ap numbered (sym kind-is) ∙ sym numbered_is ∙ not-false x h in
      rw n (e ∙ rw (oe, ue))

pub all-labels : (table s t : List ℕ) → first_bad split_label (bad_label table s t) 1 (count t - 1) ≡ label_refusal table s t
unfolding label_refusal
all-labels table s t = refl
