-- Laws of a list of findings that is written behind others.
-- Assumes nothing.
use Prim.Native.Nat.{ℕ, zero, suc, ◌+◌, ◌-◌, ◌*◌, ◌<◌, ◌≤◌}
use native.Mathlib.Omega.{arith}
use native.Mathlib.Nat.{add-zero}
use native.Mathlib.Numerals.{towards_suc}
use mathlib.Core.Path.{◌≡◌, refl, sym, ap, ◌∙◌}
use mathlib.Core.Bool.{Bool, true, false}
use mathlib.Core.List.{List, [], ◌∷◌, ◌++◌, append_assoc, append-nil}
use lib.Dec.{ltb}
use lib.ListN.{length, set, take, drop, length-set, length-append, take-append-drop}
use lib.Seq.{sets, sets-eq, take_at, drop-append-add, drop-drop, length-take-le}
use borrow.Author.Tests.{lt-ltb, le-ltb}
use Rattle.findings.specs.Finding.{Finding, words_of}
use Rattle.findings.specs.declared.Counts.{Counts}
use Rattle.findings.specs.Written.{total, room, put, overlay, encode, findings_in}
use Rattle.text.specs.Pick.{pick}
use Rattle.findings.specs.Inner.{by_severity, counted, Wrote, Room}

pub put_in : (l : List ℕ) (k : ℕ) (f : Finding) → k < room l → put l k f ≡ sets l (8 * k) (words_of f)
unfolding put
put_in l k f h = simp (lt-ltb k (room l) h)

-- the eight words, as the code stores them
pub put-words : (l : List ℕ) (k n : ℕ) (f : Finding) → n ≡ f.severity → k < room l → set (set (set (set (set (set (set (set l (8 * k) n) (8 * k + 1) f.code) (8 * k + 2) f.start) (8 * k + 3) f.len) (8 * k + 4) f.node) (8 * k + 5) f.form) (8 * k + 6) f.first) (8 * k + 7) f.second ≡ put l k f
put-words l k n f e h = rw e (sym (put_in l k f h ∙ simp towards_suc))

pub put-out : (l : List ℕ) (k : ℕ) (f : Finding) → room l ≤ k → put l k f ≡ l
unfolding put
put-out l k f h = simp (le-ltb k (room l) h)

length-sets : (xs l : List ℕ) (k : ℕ) → length (sets l k xs) ≡ length l
length-sets [] l k = refl
length-sets (x ∷ xs) l k = length-sets xs (set l k x) (suc k) ∙ length-set l k x

pub length-put : (l : List ℕ) (k : ℕ) (f : Finding) → length (put l k f) ≡ length l
unfolding put
length-put l k f = test (ltb k (room l))
  where
    test : (b : Bool) → length (pick b (sets l (8 * k) (words_of f)) l) ≡ length l
    test true = length-sets (words_of f) l (8 * k)
    test false = refl

pub length-overlay : (l : List ℕ) (k : ℕ) (fs : List Finding) → length (overlay l k fs) ≡ length l
unfolding overlay
length-overlay l k [] = refl
length-overlay l k (f ∷ fs) = length-overlay (put l k f) (k + 1) fs ∙ length-put l k f

-- two lists, one after the other
pub overlay-append : (l : List ℕ) (k : ℕ) (fs gs : List Finding) → overlay l k (fs ++ gs) ≡ overlay (overlay l k fs) (k + length fs) gs
unfolding overlay
overlay-append l k [] gs = rw add-zero
overlay-append l k (f ∷ fs) gs =
    let e : k + 1 + length fs ≡ k + length (f ∷ fs) = omega arith in
    overlay-append (put l k f) (k + 1) fs gs ∙ rw e

pub counted-append : (c : Counts) (fs gs : List Finding) → counted c (fs ++ gs) ≡ counted (counted c fs) gs
unfolding counted
counted-append c [] gs = refl
counted-append c (f ∷ fs) gs = counted-append (by_severity f.severity c) fs gs

one_more : (n : ℕ) (c : Counts) → total (by_severity n c) ≡ total c + 1
one_more zero c = omega arith
one_more (suc zero) c = omega arith
one_more (suc (suc n)) c = omega arith

pub counted-total : (c : Counts) (fs : List Finding) → total (counted c fs) ≡ total c + length fs
unfolding counted
counted-total c [] = sym (add-zero (total c))
counted-total c (f ∷ fs) = counted-total (by_severity f.severity c) fs ∙ (let e = one_more f.severity c in omega arith)

pub wrote_none : (l : List ℕ) (c : Counts) → Wrote [] l c l c
unfolding overlay counted
wrote_none l c = record { words = refl; counts = refl }

pub wrote_one : (l : List ℕ) (c : Counts) (l' : List ℕ) (c' : Counts) (f : Finding) → l' ≡ put l (total c) f → c' ≡ by_severity f.severity c → Wrote (f ∷ []) l c l' c'
unfolding overlay counted
wrote_one l c l' c' f e g = record { words = e; counts = g }

-- What is left to write gives what the whole gave: the findings, the list and the counts at the start, and now.
pub record Left (fs₀ : List Finding) (l₀ : List ℕ) (c₀ : Counts) (fs : List Finding) (l : List ℕ) (c : Counts) : Type 0 where
  pub words : overlay l (total c) fs ≡ overlay l₀ (total c₀) fs₀
  pub counts : counted c fs ≡ counted c₀ fs₀

pub left-start : (fs : List Finding) (l : List ℕ) (c : Counts) → Left fs l c fs l c
left-start fs l c = record { words = refl; counts = refl }

module _ {fs₀ : List Finding} {l₀ : List ℕ} {c₀ : Counts} where
  pub left-wrote : {gs fs : List Finding} {l l' : List ℕ} {c c' : Counts} → Left fs₀ l₀ c₀ (gs ++ fs) l c → Wrote gs l c l' c' → Left fs₀ l₀ c₀ fs l' c'
  left-wrote {gs} {fs} {l} {l'} {c} {c'} h w =
      let n : total c' ≡ total c + length gs = ap total w.counts ∙ counted-total c gs in
      record {
        words = rw (n, w.words) (sym (overlay-append l (total c) gs fs) ∙ h.words);
        counts = rw w.counts (sym (counted-append c gs fs) ∙ h.counts);
      }

  pub left_end : {l : List ℕ} {c : Counts} → Left fs₀ l₀ c₀ [] l c → Wrote fs₀ l₀ c₀ l c
  unfolding overlay counted
  left_end h = record { words = h.words; counts = h.counts }

  pub left-room : {fs : List Finding} {l : List ℕ} {c : Counts} → Left fs₀ l₀ c₀ fs l c → Room c₀ fs₀ → Room c fs
  left-room {fs} {l} {c} h r =
      let e : total c + length fs ≡ total c₀ + length fs₀ = sym (counted-total c fs) ∙ ap total h.counts ∙ counted-total c₀ fs₀ in
      omega arith

-- the room of a beginning
pub room-first : (c : Counts) (gs fs : List Finding) → Room c (gs ++ fs) → Room c gs
room-first c gs fs r = omega (arith, length-append gs fs)

pub wrote-append : {fs gs : List Finding} {l m n : List ℕ} {c d e : Counts} → Wrote fs l c m d → Wrote gs m d n e → Wrote (fs ++ gs) l c n e
wrote-append {fs} {gs} {l} {m} {n} {c} {d} {e} w v =
    let t : total d ≡ total c + length fs = ap total w.counts ∙ counted-total c fs in
    record {
      words = v.words ∙ rw (t, w.words) (sym (overlay-append l (total c) fs gs));
      counts = v.counts ∙ rw w.counts (sym (counted-append c fs gs));
    }

-- What the list is, word by word: all of the findings have room, and the words before and after them stay
pub overlay-is : (l : List ℕ) (k : ℕ) (fs : List Finding) → 8 * (k + length fs) ≤ length l → overlay l k fs ≡ take (8 * k) l ++ encode fs ++ drop (8 * (k + length fs)) l
unfolding overlay encode
overlay-is l k [] h = rw (add-zero, append-nil) (sym (take-append-drop (8 * k) l))
overlay-is l k (f ∷ fs) h =
    let P = take (8 * k) l ++ words_of f in
    let D = drop (8 * k + 8) l in
    let n = length fs in
    let p : put l k f ≡ P ++ D = put_in l k f (omega arith) ∙ sets-eq (words_of f) l (8 * k) (omega arith) in
    let lp : length P ≡ 8 * (k + 1) = length-append (take (8 * k) l) (words_of f) ∙ rw (length-take-le (8 * k) l (omega arith)) (omega arith) in
    let i = overlay-is (put l k f) (k + 1) fs (rw length-put (omega arith)) in
    let t : take (8 * (k + 1)) (put l k f) ≡ P = rw p (take_at P D (8 * (k + 1)) lp) in
    let e : 8 * (k + 1 + n) ≡ length P + 8 * n = omega arith in
    let u : 8 * k + 8 + 8 * n ≡ 8 * (k + suc n) = omega arith in
    let d : drop (8 * (k + 1 + n)) (put l k f) ≡ drop (8 * (k + suc n)) l = rw (p, e) (drop-append-add P D (8 * n) ∙ drop-drop (8 * n) (8 * k + 8) l ∙ rw u) in
    i ∙ rw (t, d) (ap (λ (x : List ℕ). x ++ drop (8 * (k + suc n)) l) (append_assoc (take (8 * k) l) (words_of f) (encode fs)))

-- none of them has room: nothing changes
pub overlay-full : (l : List ℕ) (k : ℕ) (fs : List Finding) → room l ≤ k → overlay l k fs ≡ l
unfolding overlay
overlay-full l k [] h = refl
overlay-full l k (f ∷ fs) h = rw (put-out l k f h) (overlay-full l (k + 1) fs (omega arith))

take-nil : (n : ℕ) → take {A = Finding} n [] ≡ []
take-nil zero = refl
take-nil (suc n) = refl

-- those that find no room change nothing: the list holds the first findings that fit
pub overlay-cut : (l : List ℕ) (k : ℕ) (fs : List Finding) → overlay l k fs ≡ overlay l k (take (room l - k) fs)
unfolding overlay
overlay-cut l k [] = ap (overlay l k) (sym (take-nil (room l - k)))
overlay-cut l k (f ∷ fs) = go (room l - k) refl (overlay-cut (put l k f) (k + 1) fs)
  where
    go : (n : ℕ) → room l - k ≡ n → overlay (put l k f) (k + 1) fs ≡ overlay (put l k f) (k + 1) (take (room (put l k f) - (k + 1)) fs) → overlay l k (f ∷ fs) ≡ overlay l k (take n (f ∷ fs))
    go zero e h = overlay-full l k (f ∷ fs) (omega arith)
    go (suc n) e h =
        let q : room (put l k f) - (k + 1) ≡ n = rw (length-put l k f) (omega arith) in
        h ∙ rw q

-- the words of findings
pub encode-append : (fs gs : List Finding) → encode (fs ++ gs) ≡ encode fs ++ encode gs
unfolding encode
encode-append [] gs = refl
encode-append (f ∷ fs) gs = ap (words_of f ++◌) (encode-append fs gs) ∙ sym (append_assoc (words_of f) (encode fs) (encode gs))

-- the words of findings are these findings
pub findings-in-words : (fs : List Finding) → findings_in (encode fs) ≡ fs
unfolding findings_in encode
findings-in-words [] = refl
findings-in-words (f ∷ fs) = ap (◌∷◌ f) (findings-in-words fs)

pub encode-length : (fs : List Finding) → length (encode fs) ≡ 8 * length fs
unfolding encode
encode-length [] = refl
encode-length (f ∷ fs) = let h = encode-length fs in omega (arith, length-append (words_of f) (encode fs))
