-- The entries behind one moved down by one: a turn of the loop that does it, and what stands where in the end.
-- Assumes nothing.
use Prim.Native.Nat.{ℕ, suc, ◌+◌, ◌-◌, ◌<◌, ◌≤◌}
use native.Mathlib.Omega.{arith}
use mathlib.Core.Path.{◌≡◌, refl, sym, ap, subst, ◌∙◌}
use mathlib.Core.List.{List, ◌++◌}
use lib.ListN.{length, get_or, set, take, drop, length-set, length-drop, get_or-append}
use lib.Seq.{paste, paste-suc, paste-zero, length-paste, length_paste_head, drop-paste, get_or-drop, get_or-take, get_or-append-add, length-take-le}
use Rattle.definition.specs.Outcome.{no_start}
use Rattle.definition.specs.declared.OpenStart.{OpenStart}
use Rattle.milestones.specs.Inner.{removed}
use Rattle.milestones.proofs.Search.{Gone}

-- the list where j entries have moved down to place a and behind
abbrev pub shifted : List OpenStart → ℕ → ℕ → List OpenStart
shifted l a j = paste l a (drop (a + 1) l) j

-- what the loop keeps
pub record Moving (l : List OpenStart) (a last : ℕ) (l' : List OpenStart) (i : ℕ) : Type 0 where
  pub from : a ≤ i
  pub to : i ≤ last
  pub room : last + 1 ≤ length l
  pub length-is : length l' ≡ length l
  pub list_is : l' ≡ shifted l a (i - a)

pub moving-start : (l : List OpenStart) (a last : ℕ) → a ≤ last → last + 1 ≤ length l → Moving l a last l a
moving-start l a last h r =
    let z : 0 ≡ a - a = omega arith in
    record { from = omega arith; to = h; room = r; length-is = refl; list_is = paste-zero l a (drop (a + 1) l) ∙ ap (shifted l a) z }

module _ (l : List OpenStart) (a last : ℕ) (l' : List OpenStart) (i : ℕ) (m : Moving l a last l' i) where
  module _ (h : i < last) where
    behind : get_or (shifted l a (i - a)) (a + (i - a) + 1) no_start ≡ get_or (drop (a + 1) l) (i - a) no_start
    behind =
        let f = m.from in
        let r = m.room in
        let c : i - a ≤ length (drop (a + 1) l) = rw length-drop (omega arith) in
        let start : a ≤ length l = omega arith in
        let same : a + (i - a) + 1 ≡ a + 1 + (i - a) = omega arith in
        sym (get_or-drop (a + (i - a)) (shifted l a (i - a)) 1 no_start) ∙ ap (λ (r : List OpenStart). get_or r 1 no_start) (drop-paste l a (drop (a + 1) l) (i - a) start c) ∙ get_or-drop (a + (i - a)) l 1 no_start
        ∙ ap (λ (k : ℕ). get_or l k no_start) same ∙ sym (get_or-drop (a + 1) l (i - a) no_start)

    turn : set (shifted l a (i - a)) i (get_or (shifted l a (i - a)) (i + 1) no_start) ≡ shifted l a (i + 1 - a)
    turn =
        let f = m.from in
        let r = m.room in
        let c : i - a < length (drop (a + 1) l) = rw length-drop (omega arith) in
        let place : a + (i - a) ≡ i = omega arith in
        let next : suc (i - a) ≡ i + 1 - a = omega arith in
        let in_list : a + (i - a) < length l = omega arith in
        subst (λ (k : ℕ). set (shifted l a (i - a)) k (get_or (shifted l a (i - a)) (k + 1) no_start) ≡ shifted l a (i + 1 - a)) place
        (ap (set (shifted l a (i - a)) (a + (i - a))) behind ∙ paste-suc l a (drop (a + 1) l) (i - a) no_start in_list c ∙ ap (shifted l a) next)

    moving-on : (l'' : List OpenStart) → l'' ≡ set l' i (get_or l' (i + 1) no_start) → length l'' ≡ length l' → Moving l a last l'' (i + 1)
    moving-on l'' e n =
        let f = m.from in
        record {
          from = omega arith;
          to = omega arith;
          room = m.room;
          length-is = n ∙ m.length-is;
          list_is = e ∙ ap (λ (r : List OpenStart). set r i (get_or r (i + 1) no_start)) m.list_is ∙ turn;
        }

-- the same where the list is written out
pub moving-turn : (l : List OpenStart) (a last : ℕ) (l' : List OpenStart) (i : ℕ) → Moving l a last l' i → i < last → Moving l a last (set l' i (get_or l' (i + 1) no_start)) (i + 1)
moving-turn l a last l' i m h = moving-on l a last l' i m h (set l' i (get_or l' (i + 1) no_start)) refl (length-set l' i (get_or l' (i + 1) no_start))

pub moving-end : (l : List OpenStart) (k at : ℕ) (l' : List OpenStart) (i : ℕ) → Moving l at (k - 1) l' i → k - 1 ≤ i → l' ≡ removed l k at
unfolding removed
moving-end l k at l' i m h =
    let t = m.to in
    let e : i ≡ k - 1 = omega arith in
    m.list_is ∙ ap (λ (n : ℕ). shifted l at (n - at)) e

-- the entries in the end
module _ (l : List OpenStart) (a c : ℕ) (h : a + c + 1 ≤ length l) where
  long : c ≤ length (drop (a + 1) l)
  long = rw length-drop (omega arith)

  first-is : length (take a l) ≡ a
  first-is = length-take-le a l (omega arith)

  head : (m : ℕ) → m < a + c → get_or (shifted l a c) m no_start ≡ get_or (take a l ++ take c (drop (a + 1) l)) m no_start
  head m g =
      let n : length (take a l ++ take c (drop (a + 1) l)) ≡ a + c = length_paste_head l a (drop (a + 1) l) c (omega arith) long in
      let g' : m < length (take a l ++ take c (drop (a + 1) l)) = rw n g in
      get_or-append (take a l ++ take c (drop (a + 1) l)) (drop (a + c) l) no_start m g'

  below : (m : ℕ) → m < a → get_or (shifted l a c) m no_start ≡ get_or l m no_start
  below m g =
      let g' : m < length (take a l) = rw first-is g in
      head m (omega arith) ∙ get_or-append (take a l) (take c (drop (a + 1) l)) no_start m g' ∙ get_or-take a l m no_start g

  above : (m : ℕ) → a ≤ m → m < a + c → get_or (shifted l a c) m no_start ≡ get_or l (m + 1) no_start
  above m f g =
      let e : m ≡ length (take a l) + (m - a) = rw first-is (omega arith) in
      let q : a + 1 + (m - a) ≡ m + 1 = omega arith in
      head m g ∙ ap (λ (n : ℕ). get_or (take a l ++ take c (drop (a + 1) l)) n no_start) e ∙ get_or-append-add (take a l) (take c (drop (a + 1) l)) (m - a) no_start
      ∙ get_or-take c (drop (a + 1) l) (m - a) no_start (omega arith) ∙ get_or-drop (a + 1) l (m - a) no_start ∙ ap (λ (n : ℕ). get_or l n no_start) q

-- the list keeps its length
pub long-removed : (l : List OpenStart) (k at : ℕ) → at < k → k ≤ length l → length (removed l k at) ≡ length l
unfolding removed
long-removed l k at h r = length-paste l at (drop (at + 1) l) (k - 1 - at) (omega arith) (long l at (k - 1 - at) (omega arith))

pub gone : (l : List OpenStart) (k at : ℕ) → at < k → k ≤ length l → Gone l (removed l k at) (k - 1) at
unfolding removed
gone l k at h r =
    let room : at + (k - 1 - at) + 1 ≤ length l = omega arith in
    let all : at + (k - 1 - at) ≡ k - 1 = omega arith in
    record {
      kept = below l at (k - 1 - at) room;
      moved = λ m f g. above l at (k - 1 - at) room m f (rw all g);
    }
