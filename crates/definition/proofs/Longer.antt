-- A run with more siblings after it: its findings are kept, and which of its starts are unclosed.
-- Assumes nothing.
use Prim.Native.Nat.{ℕ, suc, ◌<◌, ◌≤◌}
use native.Mathlib.Nat.{le_refl}
use native.Mathlib.Omega.{arith}
use mathlib.Core.Path.{◌≡◌, refl, sym, ap, ◌∙◌}
use mathlib.Core.Bool.{Bool, true, false, not, false≢true, ◌&&◌, ◌||◌}
use mathlib.Core.List.{List, [], ◌∷◌, ◌++◌, append_assoc, append-nil}
use Rattle.std.specs.Prelude.{Option, Some, None}
use lib.Dec.{eqb, ltb}
use borrow.Author.Tests.{lt-ltb, le-ltb, le-leb, eq-eqb, ne_eqb}
use Rattle.text.specs.Pick.{pick}
use Rattle.tape.specs.Forest.{Forest, end, leaf, node, followed}
use Rattle.findings.specs.Finding.{Finding}
use Rattle.definition.specs.State.{Milestone, node_of, initial, outside}
use Rattle.definition.specs.Checks.{error}
use Rattle.definition.specs.Milestones.{Fits, pairing, is_start, visits, Mark, free, untaken, taking_by, with_visit_by, marks_from_by, marks_by, marks, free_starts, taker_from, taken_from}
use Rattle.definition.specs.Walk.{Walked, walk_by, walk}
use Rattle.definition.specs.Document.{text_before, walked, running, unclosed, unclosed_of, those, Beginning}
use Rattle.definition.proofs.Those.{those-append}
use Rattle.definition.proofs.Then.{walk-then}
use Rattle.definition.proofs.Untaken.{visits-then, marks_then, open-starts-are-untaken}
use Rattle.findings.specs.Codes.{milestone_mismatch, unclosed_start}

-- the findings of the walk of a longer run begin with those of the shorter
walked_then : (table : List ℕ) (f g : Forest) → (walked table (followed f g)).findings ≡ (walked table f).findings ++ (walk table outside (walked table f).anchor g (walked table f).state).findings
walked_then table f g = ap (λ (w : Walked). w.findings) (walk-then table outside None f g initial)

-- demand 3, of forests: a run with more siblings after it keeps its findings
pub running-longer : (table : List ℕ) (f g : Forest) → Beginning (running table f) (running table (followed f g))
unfolding text_before followed walk_by
running-longer table end g = record { more = running table g; is = refl }
running-longer table (leaf x r) g =
    record {
      more = (walk table outside (walked table (leaf x r)).anchor g (walked table (leaf x r)).state).findings;
      is = ap (text_before (leaf x r) ++◌) (walked_then table (leaf x r) g) ∙ sym (append_assoc (text_before (leaf x r)) (walked table (leaf x r)).findings _);
    }
running-longer table (node x c r) g =
    record { more = (walk table outside (walked table (node x c r)).anchor g (walked table (node x c r)).state).findings; is = walked_then table (node x c r) g }

-- Numbers of visited milestones: they rise in the order of visits.
pub data Rising : ℕ → ℕ → List Milestone → Type 0 where
  none_left : {a b : ℕ} → a ≤ b → Rising a b []
  rises : {a b : ℕ} (x : Milestone) {xs : List Milestone} → a ≤ (node_of x).number → Rising (suc (node_of x).number) b xs → Rising a b (x ∷ xs)

pub rising_le : {a b : ℕ} {xs : List Milestone} → Rising a b xs → a ≤ b
rising_le (none_left h) = h
rising_le (rises x h r) = let l = rising_le r in omega arith

-- marks whose numbers fall below b, the latest first
abbrev Falling : ℕ → List Mark → Type 0
Falling b [] = Unit {0}
Falling b (m ∷ ms) = ((node_of m.milestone).number < b) × Falling (node_of m.milestone).number ms

falling-taking : (fits : Fits) (x : Milestone) (b : ℕ) (ms : List Mark) → Falling b ms → Falling b (taking_by fits x ms)
unfolding taking_by
falling-taking fits x b [] h = tt
falling-taking fits x b (m ∷ ms) h = go (untaken m && fits m.milestone x) (falling-taking fits x (node_of m.milestone).number ms h.1)
  where
    go : (v : Bool) → Falling (node_of m.milestone).number (taking_by fits x ms) → Falling b (pick v (record { milestone = m.milestone; taker = Some x } ∷ ms) (m ∷ taking_by fits x ms))
    go true k = h
    go false k = (h.0, k)

falling-higher : (b d : ℕ) (ms : List Mark) → b ≤ d → Falling b ms → Falling d ms
falling-higher b d [] l h = tt
falling-higher b d (m ∷ ms) l h = (omega (arith, h.0), h.1)

falling-met : (fits : Fits) (x : Milestone) (b : ℕ) (ms : List Mark) → b ≤ (node_of x).number → Falling b ms → Falling (suc (node_of x).number) (with_visit_by fits x ms)
falling-met fits x b ms l h = (le_refl (suc (node_of x).number), falling-higher b (node_of x).number (pick (is_start (node_of x)) ms (taking_by fits x ms)) l (go (is_start (node_of x))))
  where
    go : (v : Bool) → Falling b (pick v ms (taking_by fits x ms))
    go true = h
    go false = falling-taking fits x b ms h

falling-marks : (fits : Fits) (a b : ℕ) (ms : List Mark) (xs : List Milestone) → Falling a ms → Rising a b xs → Falling b (marks_from_by fits ms xs)
unfolding marks_from_by
falling-marks fits a b ms [] h (none_left l) = falling-higher a b ms l h
falling-marks fits a b ms (x ∷ xs) h (rises y l r) = falling-marks fits (suc (node_of x).number) b (with_visit_by fits x ms) xs (falling-met fits x a ms l h) r

-- What further visits make of the marks: those numbered from m on are in front of them, and of the others only takers from m on are new.
abbrev High : ℕ → List Mark → Type 0
High m [] = Unit {0}
High m (k ∷ ks) = (m ≤ (node_of k.milestone).number) × High m ks

data Later (m : ℕ) : List Mark → List Mark → Type 0 where
  nothing : Later m [] []
  same : (k : Mark) {ms ls : List Mark} → Later m ms ls → Later m (k ∷ ms) (k ∷ ls)
  took : (k : Mark) (e : Milestone) {ms ls : List Mark} → untaken k ≡ true → m ≤ (node_of e).number → Later m ms ls → Later m (k ∷ ms) (record { milestone = k.milestone; taker = Some e } ∷ ls)

record Split (m : ℕ) (ms ks : List Mark) : Type 0 where
  added : List Mark
  later : List Mark
  is : ks ≡ added ++ later
  high : High m added
  rel : Later m ms later

later_refl : (m : ℕ) (ms : List Mark) → Later m ms ms
later_refl m [] = nothing
later_refl m (k ∷ ms) = same k (later_refl m ms)

later-taking : (fits : Fits) (m : ℕ) (x : Milestone) {ms ls : List Mark} → m ≤ (node_of x).number → Later m ms ls → Later m ms (taking_by fits x ls)
unfolding taking_by
later-taking fits m x h nothing = nothing
later-taking fits m x h (same k {ms} {ls} r) = go (untaken k) refl (fits k.milestone x) (later-taking fits m x h r)
  where
    go : (u : Bool) → untaken k ≡ u → (v : Bool) → Later m ms (taking_by fits x ls) → Later m (k ∷ ms) (pick (u && v) (record { milestone = k.milestone; taker = Some x } ∷ ls) (k ∷ taking_by fits x ls))
    go true e true q = took k x e h r
    go true e false q = same k q
    go false e v q = same k q
later-taking fits m x h (took k e {ms} {ls} u l r) = go (is_start (node_of k.milestone)) (later-taking fits m x h r)
  where
    go : (b : Bool) → Later m ms (taking_by fits x ls) → Later m (k ∷ ms) (pick ((b && false) && fits k.milestone x) (record { milestone = k.milestone; taker = Some x } ∷ ls) (record { milestone = k.milestone; taker = Some e } ∷ taking_by fits x ls))
    go true q = took k e u l q
    go false q = took k e u l q

-- an end takes among the marks in front, or among the others
record Taken (fits : Fits) (m : ℕ) (x : Milestone) (ms hs ls : List Mark) : Type 0 where
  added : List Mark
  later : List Mark
  is : taking_by fits x (hs ++ ls) ≡ added ++ later
  high : High m added
  rel : Later m ms later

taking-split : (fits : Fits) (m : ℕ) (x : Milestone) (ms hs ls : List Mark) → m ≤ (node_of x).number → High m hs → Later m ms ls → Taken fits m x ms hs ls
unfolding taking_by
taking-split fits m x ms [] ls h hi r = record { added = []; later = taking_by fits x ls; is = refl; high = tt; rel = later-taking fits m x h r }
taking-split fits m x ms (k ∷ hs) ls h hi r = go (untaken k && fits k.milestone x) refl (taking-split fits m x ms hs ls h hi.1 r)
  where
    go : (v : Bool) → (untaken k && fits k.milestone x) ≡ v → Taken fits m x ms hs ls → Taken fits m x ms (k ∷ hs) ls
    go true e q = record { added = record { milestone = k.milestone; taker = Some x } ∷ hs; later = ls; is = rw e; high = hi; rel = r }
    go false e q = record { added = k ∷ q.added; later = q.later; is = rw e (ap (k ∷◌) q.is); high = (hi.0, q.high); rel = q.rel }

split-met : (fits : Fits) (m : ℕ) (x : Milestone) (ms ks : List Mark) → m ≤ (node_of x).number → Split m ms ks → Split m ms (with_visit_by fits x ks)
split-met fits m x ms ks h s = go (is_start (node_of x))
  where
    go : (v : Bool) → Split m ms (record { milestone = x; taker = None } ∷ pick v ks (taking_by fits x ks))
    go true = record { added = record { milestone = x; taker = None } ∷ s.added; later = s.later; is = ap (record { milestone = x; taker = None } ∷◌) s.is; high = (h, s.high); rel = s.rel }
    go false =
        let q = taking-split fits m x ms s.added s.later h s.high s.rel in
        record { added = record { milestone = x; taker = None } ∷ q.added; later = q.later; is = ap (record { milestone = x; taker = None } ∷◌) (ap (taking_by fits x) s.is ∙ q.is); high = (h, q.high); rel = q.rel }

split-marks : (fits : Fits) (m a b : ℕ) (ms ks : List Mark) (xs : List Milestone) → m ≤ a → Rising a b xs → Split m ms ks → Split m ms (marks_from_by fits ks xs)
unfolding marks_from_by
split-marks fits m a b ms ks [] h r s = s
split-marks fits m a b ms ks (x ∷ xs) h (rises y l r) s = split-marks fits m (suc (node_of x).number) b ms (with_visit_by fits x ks) xs (omega arith) r (split-met fits m x ms ks (omega arith) s)

-- The starts numbered below m among the marks.

free-append : (hs ls : List Mark) → free_starts (hs ++ ls) ≡ free_starts hs ++ free_starts ls
unfolding free_starts
free-append [] ls = refl
free-append (m ∷ hs) ls = go (untaken m) (free-append hs ls)
  where
    go : (b : Bool) → free_starts (hs ++ ls) ≡ free_starts hs ++ free_starts ls → pick b (m.milestone ∷ free_starts (hs ++ ls)) (free_starts (hs ++ ls)) ≡ pick b (m.milestone ∷ free_starts hs) (free_starts hs) ++ free_starts ls
    go true h = ap (m.milestone ∷◌) h
    go false h = h

abbrev below : ℕ → Milestone → Bool
below m x = ltb (node_of x).number m

high-none : (m : ℕ) (hs : List Mark) → High m hs → those (below m) (free_starts hs) ≡ []
unfolding free_starts those
high-none m [] h = refl
high-none m (k ∷ hs) h = go (untaken k) (high-none m hs h.1)
  where
    go : (b : Bool) → those (below m) (free_starts hs) ≡ [] → those (below m) (pick b (k.milestone ∷ free_starts hs) (free_starts hs)) ≡ []
    go true q = rw (le-ltb (node_of k.milestone).number m h.0) q
    go false q = q

low-all : (m b : ℕ) (ls : List Mark) → b ≤ m → Falling b ls → those (below m) (free_starts ls) ≡ free_starts ls
unfolding free_starts those
low-all m b [] l h = refl
low-all m b (k ∷ ls) l h = go (untaken k) (low-all m (node_of k.milestone).number ls (omega (arith, h.0)) h.1)
  where
    go : (v : Bool) → those (below m) (free_starts ls) ≡ free_starts ls → those (below m) (pick v (k.milestone ∷ free_starts ls) (free_starts ls)) ≡ pick v (k.milestone ∷ free_starts ls) (free_starts ls)
    go true q = rw (lt-ltb (node_of k.milestone).number m (omega (arith, h.0))) (ap (k.milestone ∷◌) q)
    go false q = q

taken-append : (m n : ℕ) (hs ls : List Mark) → taken_from m n (hs ++ ls) ≡ (taken_from m n hs || taken_from m n ls)
unfolding taken_from
taken-append m n [] ls = refl
taken-append m n (k ∷ hs) ls = go (eqb (node_of k.milestone).number n && taker_from m k.taker) (taken-append m n hs ls)
  where
    go : (b : Bool) → taken_from m n (hs ++ ls) ≡ (taken_from m n hs || taken_from m n ls) → (b || taken_from m n (hs ++ ls)) ≡ ((b || taken_from m n hs) || taken_from m n ls)
    go true h = refl
    go false h = h

high-free : (m n : ℕ) (hs : List Mark) → n < m → High m hs → taken_from m n hs ≡ false
unfolding taken_from
high-free m n [] l h = refl
high-free m n (k ∷ hs) l h = rw (ne_eqb (node_of k.milestone).number n (λ e. omega (arith, h.0))) (high-free m n hs l h.1)

-- no mark below b has the number b or a larger one
falling-free : (m n b : ℕ) (ls : List Mark) → b ≤ n → Falling b ls → taken_from m n ls ≡ false
unfolding taken_from
falling-free m n b [] l h = refl
falling-free m n b (k ∷ ls) l h = rw (ne_eqb (node_of k.milestone).number n (λ e. omega (arith, h.0))) (falling-free m n (node_of k.milestone).number ls (omega (arith, h.0)) h.1)

-- two tests that agree on the free starts below b pick the same
those-free : (p q : Milestone → Bool) (b : ℕ) (ms : List Mark) → Falling b ms → ((x : Milestone) → (node_of x).number < b → p x ≡ q x) → those p (free_starts ms) ≡ those q (free_starts ms)
unfolding free_starts those
those-free p q b [] h e = refl
those-free p q b (k ∷ ms) h e = go (untaken k) (those-free p q (node_of k.milestone).number ms h.1 (λ x l. e x (omega (arith, h.0))))
  where
    go : (v : Bool) → those p (free_starts ms) ≡ those q (free_starts ms) → those p (pick v (k.milestone ∷ free_starts ms) (free_starts ms)) ≡ those q (pick v (k.milestone ∷ free_starts ms) (free_starts ms))
    go true r = rw (e k.milestone h.0, r)
    go false r = r

falling-later : (m b : ℕ) {ms ls : List Mark} → Later m ms ls → Falling b ms → Falling b ls
falling-later m b nothing h = tt
falling-later m b (same k r) h = (h.0, falling-later m (node_of k.milestone).number r h.1)
falling-later m b (took k e u l r) h = (h.0, falling-later m (node_of k.milestone).number r h.1)

-- the free starts afterwards are those that were free and that no end from m on took
abbrev spared : ℕ → List Mark → Milestone → Bool
spared m ls x = not (taken_from m (node_of x).number ls)

-- a mark in front changes nothing for those with other numbers
spared-past : (m : ℕ) (k : Mark) (b : ℕ) (ms ls : List Mark) → Falling (node_of k.milestone).number ms → those (spared m ls) (free_starts ms) ≡ those (spared m (k ∷ ls)) (free_starts ms)
unfolding taken_from
spared-past m k b ms ls h =
    those-free (spared m ls) (spared m (k ∷ ls)) (node_of k.milestone).number ms h (λ x l. sym (rw (ne_eqb (node_of k.milestone).number (node_of x).number (λ e. omega arith))))

free-taker : (m : ℕ) (b : Bool) (t : Option Milestone) → (b && free t) ≡ true → taker_from m t ≡ false
free-taker m b None e = refl
free-taker m true (Some x) e = absurd (false≢true e)
free-taker m false (Some x) e = absurd (false≢true e)

spares-free : (m : ℕ) (k : Mark) (ls : List Mark) → untaken k ≡ true → Falling (node_of k.milestone).number ls → spared m (k ∷ ls) k.milestone ≡ true
unfolding taken_from
spares-free m k ls u h =
    let n = (node_of k.milestone).number in
    rw (eq-eqb n n refl, free-taker m (is_start (node_of k.milestone)) k.taker u, falling-free m n n ls (le_refl n) h)

spares-no : (m : ℕ) (x e : Milestone) (ls : List Mark) → m ≤ (node_of e).number → spared m (record { milestone = x; taker = Some e } ∷ ls) x ≡ false
unfolding taken_from
spares-no m x e ls l = rw (eq-eqb (node_of x).number (node_of x).number refl, le-leb m (node_of e).number l)

those-one : (p : Milestone → Bool) (x : Milestone) (v : Bool) (xs : List Milestone) → p x ≡ v → those p (x ∷ xs) ≡ pick v (x ∷ those p xs) (those p xs)
unfolding those
those-one p x v xs e = rw e

none-those : (p : Milestone → Bool) → [] ≡ those p []
unfolding those
none-those p = refl

-- of a number below m, only the marks that were there before can be taken
spared-high : (m : ℕ) (hs ls : List Mark) (x : Milestone) → High m hs → (node_of x).number < m → spared m ls x ≡ spared m (hs ++ ls) x
spared-high m hs ls x h l =
    let e : taken_from m (node_of x).number (hs ++ ls) ≡ taken_from m (node_of x).number ls = taken-append m (node_of x).number hs ls ∙ rw (high-free m (node_of x).number hs l h) in
    ap not (sym e)

later-free : (m b : ℕ) {ms ls : List Mark} → Later m ms ls → Falling b ms → free_starts ls ≡ those (spared m ls) (free_starts ms)
unfolding free_starts
later-free m b nothing h = none-those (spared m [])
later-free m b (same k {ms} {ls} r) h =
    go (untaken k) refl (later-free m (node_of k.milestone).number r h.1 ∙ spared-past m k b ms ls h.1)
  where
    go : (u : Bool) → untaken k ≡ u → free_starts ls ≡ those (spared m (k ∷ ls)) (free_starts ms) → pick u (k.milestone ∷ free_starts ls) (free_starts ls) ≡ those (spared m (k ∷ ls)) (pick u (k.milestone ∷ free_starts ms) (free_starts ms))
    go true e rest =
        ap (k.milestone ∷◌) rest
        ∙ sym (those-one (spared m (k ∷ ls)) k.milestone true (free_starts ms) (spares-free m k ls e (falling-later m (node_of k.milestone).number r h.1)))
    go false e rest = rest
later-free m b (took k e {ms} {ls} u l r) h =
    rw u (go (is_start (node_of k.milestone)) (later-free m (node_of k.milestone).number r h.1 ∙ spared-past m (record { milestone = k.milestone; taker = Some e }) b ms ls h.1))
  where
    go : (v : Bool) → free_starts ls ≡ those (spared m (record { milestone = k.milestone; taker = Some e } ∷ ls)) (free_starts ms) → pick (v && false) (k.milestone ∷ free_starts ls) (free_starts ls) ≡ those (spared m (record { milestone = k.milestone; taker = Some e } ∷ ls)) (k.milestone ∷ free_starts ms)
    go true rest = rest ∙ sym (those-one (spared m (record { milestone = k.milestone; taker = Some e } ∷ ls)) k.milestone false (free_starts ms) (spares-no m k.milestone e ls l))
    go false rest = rest ∙ sym (those-one (spared m (record { milestone = k.milestone; taker = Some e } ∷ ls)) k.milestone false (free_starts ms) (spares-no m k.milestone e ls l))

-- the starts of the first visits that are free after all visits
free-longer : (fits : Fits) (m b : ℕ) (xs ys : List Milestone) → Rising 0 m xs → Rising m b ys → those (below m) (free_starts (marks_by fits (xs ++ ys))) ≡ those (spared m (marks_by fits (xs ++ ys))) (free_starts (marks_by fits xs))
free-longer fits m b xs ys p q =
    let ms = marks_by fits xs in
    let fall = falling-marks fits 0 m [] xs tt p in
    let s = split-marks fits m m b ms ms ys (le_refl m) q (record { added = []; later = ms; is = refl; high = tt; rel = later_refl m ms }) in
    let e : marks_by fits (xs ++ ys) ≡ s.added ++ s.later = marks_then fits [] xs ys ∙ s.is in
    let low = falling-later m m s.rel fall in
    rw e
    (ap (those (below m)) (free-append s.added s.later)
    ∙ those-append (below m) (free_starts s.added) (free_starts s.later)
    ∙ rw (high-none m s.added s.high) (low-all m m s.later (le_refl m) low)
    ∙ later-free m m s.rel fall
    ∙ those-free (spared m s.later) (spared m (s.added ++ s.later)) m ms fall (λ x l. spared-high m s.added s.later x s.high l))

-- the findings of some of the starts are some of the findings
abbrev of_start : (Finding → Bool) → Milestone → Bool
of_start p x = p (error (node_of x) milestone_mismatch unclosed_start)

those-unclosed : (p : Finding → Bool) (xs : List Milestone) → those p (unclosed xs) ≡ unclosed (those (of_start p) xs)
unfolding unclosed those
those-unclosed p [] = refl
those-unclosed p (x ∷ xs) = those-append p (unclosed xs) (error (node_of x) milestone_mismatch unclosed_start ∷ []) ∙ go (p (error (node_of x) milestone_mismatch unclosed_start)) (those-unclosed p xs)
  where
    go : (b : Bool) → those p (unclosed xs) ≡ unclosed (those (of_start p) xs) → those p (unclosed xs) ++ pick b (error (node_of x) milestone_mismatch unclosed_start ∷ []) [] ≡ unclosed (pick b (x ∷ those (of_start p) xs) (those (of_start p) xs))
    go true h = ap (◌++ error (node_of x) milestone_mismatch unclosed_start ∷ []) h
    go false h = append-nil (those p (unclosed xs)) ∙ h

-- demand 3, of forests: of the starts numbered below m, the longer run leaves unclosed just those that the shorter leaves so and that no end numbered from m on takes
pub unclosed-longer : (table : List ℕ) (f g : Forest) (m b : ℕ) → Rising 0 m (visits table f) → Rising m b (visits table g) → those (λ e. ltb e.node m) (unclosed_of table (followed f g)) ≡ those (λ e. not (taken_from m e.node (marks (visits table (followed f g))))) (unclosed_of table f)
unclosed-longer table f g m b p q =
    let v = visits-then table f g in
    rw (open-starts-are-untaken table (followed f g), open-starts-are-untaken table f, v)
    (those-unclosed (λ e. ltb e.node m) (free_starts (marks (visits table f ++ visits table g)))
    ∙ ap unclosed (free-longer pairing m b (visits table f) (visits table g) p q)
    ∙ sym (those-unclosed (λ e. not (taken_from m e.node (marks (visits table f ++ visits table g)))) (free_starts (marks (visits table f)))))
