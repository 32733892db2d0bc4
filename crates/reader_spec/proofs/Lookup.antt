-- What `lookup` finds: an entry of the table whose name is a beginning of the name that was looked for, and the cut stands before an ASCII digit.
-- Assumes nothing.
use mathlib.Core.Path.{◌≡◌, refl, sym, ap, ◌∙◌}
use mathlib.Core.Bool.{Bool, true, false, ◌&&◌, ◌||◌}
use mathlib.Core.List.{List, [], ◌∷◌}
use Rattle.std.specs.Prelude.{Option, Some, None}
use Prim.Native.Nat.{ℕ, zero, suc, ◌+◌, ◌-◌, ◌%◌, ◌<◌, ◌≤◌}
use native.Mathlib.Nat.{not-suc-le-zero, zero-add}
use native.Mathlib.Omega.{arith}
use lib.Dec.{eqb, ltb}
use lib.ListN.{length, get_or, take, drop, length-drop}
use lib.Seq.{length-take-le, get_or-take}
use borrow.Author.Tests.{ltb-true}
use Rattle.text.specs.Pick.{pick, within, cut}
use Rattle.text.specs.Number.{digit}
use Rattle.text.specs.Literal.{ascii}
use Rattle.text.specs.Characters.{is_boundary}
use Rattle.text.specs.Bytes.{equal, starting, beyond}
use Rattle.text.proofs.Bool.{and_left, and_right}
use Rattle.text.proofs.Rows.{within-lo, within-hi}
use Rattle.text.proofs.Boundary.{inside-low}
use Rattle.text.proofs.Blocks.{equal-true}
use Rattle.table.specs.Lines.{Line, lines, line_by, name_key, good_name, good_line, bad_from, bad_table}
use Rattle.table.specs.Entries.{Entry, entry_from, entries_of, entries, nth}
use Rattle.table.specs.Names.{named_from, entry_named, keep_before, undigited, tail_off, stripped_length, first_known, glued_digit, looked_up}
use Rattle.table.proofs.Suffix.{tail-le, stripped-le}

-- the lines of a text lie in it
abbrev Lies : ℕ → Line → Type 0
Lies to l = l.at + length l.body ≤ to

AllLie : ℕ → List Line → Type 0
AllLie to [] = Unit {0}
AllLie to (l ∷ ls) = Lies to l × AllLie to ls

-- the first of them begins where the text begins
abbrev Heads : ℕ → List Line → Type 0
Heads at [] = Unit {0}
Heads at (l ∷ ls) = l.at ≡ at

heads-by : (x : Bool) (at b : ℕ) (ls : List Line) → Heads at (line_by x at b ls)
heads-by true at b ls = refl
heads-by false at b [] = refl
heads-by false at b (l ∷ ls) = refl

heads : (at : ℕ) (s : List ℕ) → Heads at (lines at s)
unfolding lines
heads at [] = tt
heads at (b ∷ s) = heads-by (eqb b 10) at b (lines (suc at) s)

all_lie : (at : ℕ) (s : List ℕ) (to : ℕ) → at + length s ≤ to → AllLie to (lines at s)
unfolding lines AllLie
all_lie at [] to h = tt
all_lie at (b ∷ s) to h = go (eqb b 10) (lines (suc at) s) (heads (suc at) s) (all_lie (suc at) s to (omega arith))
  where
    go : (x : Bool) (ls : List Line) → Heads (suc at) ls → AllLie to ls → AllLie to (line_by x at b ls)
    go true ls e k = (omega arith, k)
    go false [] e k = (omega arith, tt)
    go false (l ∷ ls) e k = (omega (arith, k.0, e), k.1)

-- so an entry's name has the length that the entry says
named-length : (t : List ℕ) (ls : List Line) (k : ℕ) (e : Entry) → AllLie (length t) ls → nth (entries_of ls) k ≡ Some e → length (cut e.name t) ≡ e.name.len
unfolding nth entries_of AllLie
named-length t [] k e a h = let z : ◌≡◌ {A = ℕ} 0 1 = cc in absurd (omega arith)
named-length t (x ∷ []) k e a h = let z : ◌≡◌ {A = ℕ} 0 1 = cc in absurd (omega arith)
named-length t (x ∷ y ∷ []) k e a h = let z : ◌≡◌ {A = ℕ} 0 1 = cc in absurd (omega arith)
named-length t (x ∷ y ∷ w ∷ ls) zero e a h =
    let z : entry_from x y w ≡ e = cc in
    rw (← z) (go (length x.body) a.0)
  where
    go : (n : ℕ) → x.at + n ≤ length t → length (take (n - 5) (drop (x.at + 5) t)) ≡ n - 5
    go n h = length-take-le (n - 5) (drop (x.at + 5) t) (omega (arith, length-drop (x.at + 5) t))
named-length t (x ∷ y ∷ w ∷ ls) (suc k) e a h = named-length t ls k e a.1.1.1 h

pub entry_length : (t : List ℕ) (k : ℕ) (e : Entry) → nth (entries t) k ≡ Some e → length (cut e.name t) ≡ e.name.len
unfolding entries
entry_length t k e h = named-length t (lines 0 t) k e (all_lie 0 t (length t) (omega arith)) h

-- a table that number 1 doesn't turn back has few markers
lines-few : (to k : ℕ) (ls : List Line) → k ≤ 1536 → bad_from to k ls ≡ None → k + length ls ≤ 1536
unfolding bad_from
lines-few to k [] h e = omega arith
lines-few to k (l ∷ ls) h e = go (good_line k l) refl e (lines-few to (suc k) ls)
  where
    go : (x : Bool) → good_line k l ≡ x → pick x (bad_from to (suc k) ls) (Some l.at) ≡ None → (suc k ≤ 1536 → bad_from to (suc k) ls ≡ None → suc k + length ls ≤ 1536) → k + suc (length ls) ≤ 1536
    go true q e ih = let low = ltb-true k 1536 (and_left _ _ q) in let r = ih low e in omega arith
    go false q e ih = let z : ◌≡◌ {A = ℕ} 0 1 = cc in absurd (omega arith)

entries-few : (ls : List Line) → length (entries_of ls) ≤ length ls
unfolding entries_of
entries-few [] = omega arith
entries-few (x ∷ []) = omega arith
entries-few (x ∷ y ∷ []) = omega arith
entries-few (x ∷ y ∷ w ∷ ls) = let r = entries-few ls in omega arith

nth-low : (es : List Entry) (k : ℕ) (e : Entry) → nth es k ≡ Some e → k < length es
unfolding nth
nth-low [] k e h = let z : ◌≡◌ {A = ℕ} 0 1 = cc in absurd (omega arith)
nth-low (x ∷ es) zero e h = omega arith
nth-low (x ∷ es) (suc k) e h = let r = nth-low es k e h in omega arith

pub marker-low : (t : List ℕ) (k : ℕ) (e : Entry) → bad_table t ≡ None → nth (entries t) k ≡ Some e → k < 65536
unfolding bad_table entries
marker-low t k e h n =
    let a = lines-few (length t) 0 (lines 0 t) (omega arith) h in
    let b = entries-few (lines 0 t) in
    let c = nth-low (entries_of (lines 0 t)) k e n in
    omega arith

-- and its markers have names
name-some : (k : ℕ) (l : Line) → k % 3 ≡ 0 → good_line k l ≡ true → 1 ≤ length l.body - 5
unfolding ascii
name-some k l z g =
    let body : good_name l.body ≡ true = rw z at (and_right l.ended _ (and_right (ltb k 1536) _ g)) in
    let long : within 1 16 (length (beyond name_key l.body)) ≡ true = and_left _ _ (and_right (starting name_key l.body) _ body) in
    let low = within-lo 1 16 (length (beyond name_key l.body)) long in
    omega (arith, length-drop 5 l.body)

good-or-none : (b : Bool) (n : ℕ) (o : Option ℕ) → pick b o (Some n) ≡ None → (b ≡ true) × (o ≡ None)
good-or-none true n o e = (refl, e)
good-or-none false n o e = let z : ◌≡◌ {A = ℕ} 0 1 = cc in absurd (omega arith)

entry-some : (to k : ℕ) (ls : List Line) (j : ℕ) (e : Entry) → k % 3 ≡ 0 → bad_from to k ls ≡ None → nth (entries_of ls) j ≡ Some e → 1 ≤ e.name.len
unfolding nth entries_of bad_from
entry-some to k [] j e z g h = let z : ◌≡◌ {A = ℕ} 0 1 = cc in absurd (omega arith)
entry-some to k (x ∷ []) j e z g h = let z : ◌≡◌ {A = ℕ} 0 1 = cc in absurd (omega arith)
entry-some to k (x ∷ y ∷ []) j e z g h = let z : ◌≡◌ {A = ℕ} 0 1 = cc in absurd (omega arith)
entry-some to k (x ∷ y ∷ w ∷ ls) zero e z g h =
    let is : entry_from x y w ≡ e = cc in
    rw (← is) (name-some k x z (good-or-none (good_line k x) _ _ g).0)
entry-some to k (x ∷ y ∷ w ∷ ls) (suc j) e z g h =
    let one = (good-or-none (good_line k x) _ _ g).1 in
    let two = (good-or-none (good_line (suc k) y) _ _ one).1 in
    let three = (good-or-none (good_line (suc (suc k)) w) _ _ two).1 in
    entry-some to (suc (suc (suc k))) ls j e (omega arith) three h

named_some : (t : List ℕ) (k : ℕ) (e : Entry) → bad_table t ≡ None → nth (entries t) k ≡ Some e → 1 ≤ e.name.len
unfolding bad_table entries
named_some t k e h n = entry-some (length t) 0 (lines 0 t) k e refl h n

-- an entry that has a name
named-ge : (t s : List ℕ) (k : ℕ) (es : List Entry) (n : ℕ) → named_from t k es s ≡ Some n → k ≤ n
unfolding named_from
named-ge t s k [] n h = let z : ◌≡◌ {A = ℕ} 0 1 = cc in absurd (omega arith)
named-ge t s k (x ∷ es) n h = go (equal (cut x.name t) s) h (named-ge t s (suc k) es n)
  where
    go : (b : Bool) → pick b (Some k) (named_from t (suc k) es s) ≡ Some n → (named_from t (suc k) es s ≡ Some n → suc k ≤ n) → k ≤ n
    go true h ih = let z : k ≡ n = cc in omega arith
    go false h ih = let r = ih h in omega arith

named-is : (t s : List ℕ) (k : ℕ) (es : List Entry) (m : ℕ) (e : Entry) → named_from t k es s ≡ Some (k + m) → nth es m ≡ Some e → equal (cut e.name t) s ≡ true
unfolding named_from nth
named-is t s k [] m e h n = let z : ◌≡◌ {A = ℕ} 0 1 = cc in absurd (omega arith)
named-is t s k (x ∷ es) m e h n = go (equal (cut x.name t) s) refl m h n (named-is t s (suc k) es)
  where
    go : (b : Bool) → equal (cut x.name t) s ≡ b → (m : ℕ) → pick b (Some k) (named_from t (suc k) es s) ≡ Some (k + m) → nth (x ∷ es) m ≡ Some e → ((m : ℕ) (e : Entry) → named_from t (suc k) es s ≡ Some (suc k + m) → nth es m ≡ Some e → equal (cut e.name t) s ≡ true) → equal (cut e.name t) s ≡ true
    go true q zero h n ih = let z : x ≡ e = cc in rw (← z) q
    go true q (suc m) h n ih = let z : k ≡ k + suc m = cc in absurd (omega arith)
    go false q zero h n ih = let r = named-ge t s (suc k) es (k + 0) h in absurd (omega arith)
    go false q (suc m) h n ih = ih m e (rw (one_on k m) h) n
      where
        one_on : (k m : ℕ) → suc k + m ≡ k + suc m
        one_on k m = omega arith

name-is : (t s : List ℕ) (m : ℕ) (e : Entry) → entry_named t s ≡ Some m → nth (entries t) m ≡ Some e → e.name.len ≡ length s
name-is t s m e h n =
    let is : cut e.name t ≡ s = equal-true (cut e.name t) s (named-is t s 0 (entries t) m e (rw (zero-add m) h) n) in
    sym (entry_length t m e n) ∙ ap length is

-- the digits at the end of a name begin with a digit
first-digit : (l : List ℕ) → undigited l < length l → digit (get_or l (undigited l) 0) ≡ true
unfolding undigited
first-digit [] h = absurd (not-suc-le-zero h)
first-digit (b ∷ s) h = go (digit b) refl (undigited s) refl h (first-digit s)
  where
    go : (x : Bool) → digit b ≡ x → (k : ℕ) → undigited s ≡ k → keep_before x k < suc (length s) → (undigited s < length s → digit (get_or s (undigited s) 0) ≡ true) → digit (get_or (b ∷ s) (keep_before x k) 0) ≡ true
    go true q zero e h ih = q
    go false q zero e h ih = rw e at (ih (omega arith))
    go true q (suc k) e h ih = rw e at (ih (omega arith))
    go false q (suc k) e h ih = rw e at (ih (omega arith))

digit_low : (b : ℕ) → digit b ≡ true → b < 0x80
digit_low b e = let h = within-hi 0x30 0x39 b e in omega arith

-- before what `strip_level_suffix` takes off stands nothing that the cut could split
stripped-digit : (s : List ℕ) → stripped_length s < length s → get_or s (stripped_length s) 0 < 0x80
unfolding stripped_length
stripped-digit s h = go (undigited (take (tail_off s) s)) refl (ltb 0 (undigited (take (tail_off s) s))) (ltb (undigited (take (tail_off s) s)) (tail_off s)) refl refl h
  where
    long : length (take (tail_off s) s) ≡ tail_off s
    long = length-take-le (tail_off s) s (tail-le s)

    go : (u : ℕ) → undigited (take (tail_off s) s) ≡ u → (x y : Bool) → ltb 0 u ≡ x → ltb u (tail_off s) ≡ y → pick (x && y) u (length s) < length s → get_or s (pick (x && y) u (length s)) 0 < 0x80
    go u e true true p q h =
        let below : u < tail_off s = ltb-true u (tail_off s) q in
        let d : digit (get_or (take (tail_off s) s) u 0) ≡ true = rw e at (first-digit (take (tail_off s) s) (rw (e, long) below)) in
        digit_low (get_or s u 0) (rw (get_or-take (tail_off s) s u 0 below) at d)
    go u e true false p q h = absurd (omega arith)
    go u e false y p q h = absurd (omega arith)

-- the table's name is the name that was looked for, or shorter, and the cut splits no character of it
pub record Cut (s : List ℕ) (e : Entry) : Type 0 where
  pub beginning : e.name.len ≤ length s
  pub whole : e.name.len < length s → is_boundary s e.name.len ≡ true

pub cut-whole : (t s : List ℕ) (m : ℕ) (e : Entry) → looked_up t s ≡ Some m → nth (entries t) m ≡ Some e → Cut s e
unfolding looked_up
cut-whole t s m e h n = first (entry_named t s) refl h
  where
    third : (x : Bool) → glued_digit s ≡ x → pick x (entry_named t (take 1 s)) None ≡ Some m → Cut s e
    third true q h =
        let long : 1 < length s = ltb-true 1 (length s) (and_left _ _ q) in
        let d : digit (get_or s 1 0) ≡ true = and_right (eqb (get_or s 0 0) 118 || eqb (get_or s 0 0) 99) _ (and_right (ltb 1 (length s)) _ q) in
        let is : e.name.len ≡ 1 = name-is t (take 1 s) m e h n ∙ length-take-le 1 s (omega arith) in
        record { beginning = omega arith; whole = λ l. rw is (inside-low s 1 long (digit_low (get_or s 1 0) d)) }
    third false q h = let z : ◌≡◌ {A = ℕ} 0 1 = cc in absurd (omega arith)

    second : (x : Bool) → ltb (stripped_length s) (length s) ≡ x → (o : Option ℕ) → pick x (entry_named t (take (stripped_length s) s)) None ≡ o → first_known o (pick (glued_digit s) (entry_named t (take 1 s)) None) ≡ Some m → Cut s e
    second true q (Some j) p h =
        let below = ltb-true (stripped_length s) (length s) q in
        let here : entry_named t (take (stripped_length s) s) ≡ Some m = p ∙ h in
        let is : e.name.len ≡ stripped_length s = name-is t (take (stripped_length s) s) m e here n ∙ length-take-le (stripped_length s) s (stripped-le s) in
        record { beginning = omega (arith, stripped-le s); whole = λ l. rw is (inside-low s (stripped_length s) below (stripped-digit s below)) }
    second false q (Some j) p h = let z : ◌≡◌ {A = ℕ} 0 1 = cc in absurd (omega arith)
    second x q None p h = third (glued_digit s) refl h

    first : (o : Option ℕ) → entry_named t s ≡ o → first_known o (first_known (pick (ltb (stripped_length s) (length s)) (entry_named t (take (stripped_length s) s)) None) (pick (glued_digit s) (entry_named t (take 1 s)) None)) ≡ Some m → Cut s e
    first (Some j) q h = let is = name-is t s m e (q ∙ h) n in record { beginning = omega arith; whole = λ l. absurd (omega arith) }
    first None q h = second (ltb (stripped_length s) (length s)) refl (pick (ltb (stripped_length s) (length s)) (entry_named t (take (stripped_length s) s)) None) refl h

-- a name that is found has a byte
pub found_some : (t s : List ℕ) (m : ℕ) (e : Entry) → bad_table t ≡ None → looked_up t s ≡ Some m → nth (entries t) m ≡ Some e → 1 ≤ length s
found_some t s m e g h n = let c = (cut-whole t s m e h n).beginning in let d = named_some t m e g n in omega arith
