-- A listing in pieces: the findings that a list holds, their lines, and a piece written finding by finding.
-- Assumes nothing.
use Prim.Native.Nat.{ℕ, zero, suc, ◌+◌, ◌*◌, ◌-◌, ◌<◌, ◌≤◌}
use native.Mathlib.Omega.{arith}
use native.Mathlib.Nat.{add-zero, sub-zero}
use native.Mathlib.Numerals.{add-one}
use mathlib.Core.Path.{◌≡◌, refl, sym, ap, ◌∙◌}
use mathlib.Core.List.{List, [], ◌∷◌, ◌++◌}
use lib.ListN.{length, get_or, take, drop, length-append, drop_of_length-le}
use borrow.Author.Tests.{lt-ltb, le-ltb}
use Rattle.buffer.specs.Over.{Put, over}
use Rattle.buffer.proofs.Over.{over-over, over_none}
use Rattle.findings.specs.Finding.{Finding}
use Rattle.findings.specs.Written.{findings_in, whole_records}
use Rattle.message_texts.specs.Filled.{joined}
use Rattle.listing.specs.Listing.{listed_finding, listed_each}
use Rattle.listing.specs.Pieces.{held_findings, whole_in, piece_of, next_of}
use Rattle.listing.specs.Inner.{record_at, PutWhole}

-- ---- The findings that a list holds

-- the finding of eight words that stand in front
eight : (n : ℕ) → 8 * suc n ≡ suc (suc (suc (suc (suc (suc (suc (suc (8 * n))))))))
eight n = omega arith

eight-more : (n m : ℕ) → 8 * suc n + m ≡ suc (suc (suc (suc (suc (suc (suc (suc (8 * n + m))))))))
eight-more n m = omega arith

-- a record is the one before it in the list without its first eight words
module _ (a b c d e f g i : ℕ) (l : List ℕ) (k : ℕ) where
  word-behind : (m : ℕ) → get_or (a ∷ b ∷ c ∷ d ∷ e ∷ f ∷ g ∷ i ∷ l) (8 * suc k + m) 0 ≡ get_or l (8 * k + m) 0
  word-behind m = ap (λ (n : ℕ). get_or (a ∷ b ∷ c ∷ d ∷ e ∷ f ∷ g ∷ i ∷ l) n 0) (eight-more k m)

  record-behind : record_at (a ∷ b ∷ c ∷ d ∷ e ∷ f ∷ g ∷ i ∷ l) (suc k) ≡ record_at l k
  record-behind =
      λ j. record {
        severity = ap (λ (n : ℕ). get_or (a ∷ b ∷ c ∷ d ∷ e ∷ f ∷ g ∷ i ∷ l) n 0) (eight k) j;
        code = word-behind 1 j;
        start = word-behind 2 j;
        len = word-behind 3 j;
        node = word-behind 4 j;
        form = word-behind 5 j;
        first = word-behind 6 j;
        second = word-behind 7 j;
      }

-- record k of the first n
held_at : (n k : ℕ) (l : List ℕ) → k < n → 8 * n ≤ length l → drop k (held_findings n l) ≡ record_at l k ∷ drop (suc k) (held_findings n l)
unfolding findings_in
held_at zero k l h r = absurd (omega arith)
held_at (suc n) k [] h r = absurd (omega arith)
held_at (suc n) k (a ∷ []) h r = absurd (omega arith)
held_at (suc n) k (a ∷ b ∷ []) h r = absurd (omega arith)
held_at (suc n) k (a ∷ b ∷ c ∷ []) h r = absurd (omega arith)
held_at (suc n) k (a ∷ b ∷ c ∷ d ∷ []) h r = absurd (omega arith)
held_at (suc n) k (a ∷ b ∷ c ∷ d ∷ e ∷ []) h r = absurd (omega arith)
held_at (suc n) k (a ∷ b ∷ c ∷ d ∷ e ∷ f ∷ []) h r = absurd (omega arith)
held_at (suc n) k (a ∷ b ∷ c ∷ d ∷ e ∷ f ∷ g ∷ []) h r = absurd (omega arith)
held_at (suc n) zero (a ∷ b ∷ c ∷ d ∷ e ∷ f ∷ g ∷ i ∷ l) h r = rw (eight n)
held_at (suc n) (suc k) (a ∷ b ∷ c ∷ d ∷ e ∷ f ∷ g ∷ i ∷ l) h r =
    rw (eight n, record-behind a b c d e f g i l k) (held_at n k l (omega arith) (omega arith))

pub held-length : (n : ℕ) (l : List ℕ) → 8 * n ≤ length l → length (held_findings n l) ≡ n
unfolding findings_in
held-length zero l h = refl
held-length (suc n) [] h = absurd (omega arith)
held-length (suc n) (a ∷ []) h = absurd (omega arith)
held-length (suc n) (a ∷ b ∷ []) h = absurd (omega arith)
held-length (suc n) (a ∷ b ∷ c ∷ []) h = absurd (omega arith)
held-length (suc n) (a ∷ b ∷ c ∷ d ∷ []) h = absurd (omega arith)
held-length (suc n) (a ∷ b ∷ c ∷ d ∷ e ∷ []) h = absurd (omega arith)
held-length (suc n) (a ∷ b ∷ c ∷ d ∷ e ∷ f ∷ []) h = absurd (omega arith)
held-length (suc n) (a ∷ b ∷ c ∷ d ∷ e ∷ f ∷ g ∷ []) h = absurd (omega arith)
held-length (suc n) (a ∷ b ∷ c ∷ d ∷ e ∷ f ∷ g ∷ i ∷ l) h = rw (eight n) (ap suc (held-length n l (omega arith)))

-- ---- Their lines

module _ (room : ℕ) (table s t : List ℕ) where
  pub each-length : (fs : List Finding) → length (listed_each room table s t fs) ≡ length fs
  unfolding listed_each
  each-length [] = refl
  each-length (f ∷ fs) = ap suc (each-length fs)

  each-drop : (k : ℕ) (fs : List Finding) → drop k (listed_each room table s t fs) ≡ listed_each room table s t (drop k fs)
  unfolding listed_each
  each-drop zero fs = refl
  each-drop (suc k) [] = refl
  each-drop (suc k) (f ∷ fs) = each-drop k fs

  module _ (n : ℕ) (l : List ℕ) (h : n ≤ whole_records l) where
    abbrev texts : List (List ℕ)
    texts = listed_each room table s t (held_findings n l)

    pub text_at : (k : ℕ) → k < n → drop k texts ≡ listed_finding room table s t (record_at l k) ∷ drop (suc k) texts
    unfolding listed_each
    text_at k g =
        each-drop k (held_findings n l)
        ∙ ap (listed_each room table s t) (held_at n k l g (omega arith))
        ∙ ap (listed_finding room table s t (record_at l k) ∷◌) (sym (each-drop (suc k) (held_findings n l)))

    pub texts-end : (k : ℕ) → n ≤ k → drop k texts ≡ []
    texts-end k g = drop_of_length-le texts {i = k} (rw (each-length (held_findings n l), held-length n l (omega arith)) g)

-- ---- A piece, finding by finding

-- what is left to write gives what the whole gives
pub record WritingPiece (xs : List (List ℕ)) (n from : ℕ) (out₀ out : List ℕ) (k at : ℕ) : Type 0 where
  pub few : k ≤ n
  pub room : at ≤ length out₀
  pub next : next_of xs k (length out₀ - at) ≡ next_of xs from (length out₀)
  pub size : at + length (piece_of xs k (length out₀ - at)) ≡ length (piece_of xs from (length out₀))
  pub bytes : over out at (piece_of xs k (length out₀ - at)) ≡ over out₀ 0 (piece_of xs from (length out₀))
  pub same : length out ≡ length out₀

module _ (xs : List (List ℕ)) (n from : ℕ) (out₀ : List ℕ) where
  pub writing_start : from ≤ n → WritingPiece xs n from out₀ out₀ from 0
  writing_start h = let z = sub-zero (length out₀) in record { few = h; room = omega arith; next = rw z; size = rw z (omega arith); bytes = rw z; same = refl }

  module _ (out : List ℕ) (k at : ℕ) (y : WritingPiece xs n from out₀ out k at) where
    -- nothing more has room, or there is nothing more
    module _ (z : whole_in (length out₀ - at) (drop k xs) ≡ 0) where
      stopped-put : Put (piece_of xs from (length out₀)) out₀ 0 out at
      unfolding joined
      stopped-put =
          record {
            list = sym (over_none out at) ∙ rw z at y.bytes;
            end = rw (sym y.size, z) (omega arith);
          }

      stopped-next : k ≡ next_of xs from (length out₀)
      stopped-next = rw (sym y.next, z) (sym (add-zero k))

    pub written_all : drop k xs ≡ [] → Put (piece_of xs from (length out₀)) out₀ 0 out at × (k ≡ next_of xs from (length out₀))
    unfolding whole_in
    written_all e = let z : whole_in (length out₀ - at) (drop k xs) ≡ 0 = rw e in (stopped-put z, stopped-next z)

    module _ (x : List ℕ) (e : drop k xs ≡ x ∷ drop (suc k) xs) (out' : List ℕ) (end : ℕ) (p : PutWhole x out at out' end) where
      pub piece-full : length out' < end → length out' ≡ length out → Put (piece_of xs from (length out₀)) out₀ 0 out' at × (k ≡ next_of xs from (length out₀))
      unfolding whole_in
      piece-full h g =
          let a = y.same in
          let r = y.room in
          let q = p.end in
          let w : length out < at + length x = omega arith in
          let o : out' ≡ out = p.list ∙ rw (lt-ltb (length out) (at + length x) w) in
          let z : whole_in (length out₀ - at) (drop k xs) ≡ 0 = rw (e, lt-ltb (length out₀ - at) (length x) (omega arith)) in
          rw o (stopped-put z, stopped-next z)

      pub piece-on : end ≤ length out' → length out' ≡ length out → k < n → WritingPiece xs n from out₀ out' (k + 1) end
      unfolding whole_in joined
      piece-on h g less =
          let a = y.same in
          let r = y.room in
          let q = p.end in
          let w : at + length x ≤ length out = omega arith in
          let o : out' ≡ over out at x = p.list ∙ rw (le-ltb (length out) (at + length x) w) in
          let d : length out₀ - at - length x ≡ length out₀ - end = omega arith in
          let m = whole_in (length out₀ - end) (drop (suc k) xs) in
          let rest = joined (take m (drop (suc k) xs)) in
          let f : whole_in (length out₀ - at) (drop k xs) ≡ suc m = rw (e, le-ltb (length out₀ - at) (length x) (omega arith), d) in
          let v : piece_of xs k (length out₀ - at) ≡ x ++ rest = rw (f, e) in
          record {
            few = omega arith;
            room = omega arith;
            next = rw (add-one k) ((let u : suc k + m ≡ k + suc m = omega arith in u) ∙ ap (k +◌) (sym f) ∙ y.next);
            size = rw (add-one k) (let u = rw v at y.size in omega (arith, length-append x rest));
            bytes = rw (add-one k) (ap (λ (l : List ℕ). over l end rest) o ∙ ap (λ (i : ℕ). over (over out at x) i rest) q ∙ over-over out at x rest ∙ rw v at y.bytes);
            same = g ∙ a;
          }
