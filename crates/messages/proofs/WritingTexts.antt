-- Texts written one behind another, a record at a time.
-- Assumes nothing.
use Prim.Native.Nat.{ℕ, zero, suc, ◌+◌, ◌-◌, ◌<◌, ◌≤◌}
use native.Mathlib.Omega.{arith}
use native.Mathlib.Nat.{add-zero, zero-add, sub-zero}
use native.Mathlib.Numerals.{add-one}
use mathlib.Core.Path.{◌≡◌, refl, sym, ap, ◌∙◌}
use mathlib.Core.Bool.{Bool, true, false}
use mathlib.Core.List.{List, [], ◌∷◌, ◌++◌, append-nil}
use Rattle.std.specs.Prelude.{Option, Some, None, Result, Ok, Err}
use Rattle.refusals.specs.declared.Refusal as code
use Rattle.refusals.specs.Reasons.{number_of, refusal_of}
use lib.Dec.{ltb}
use lib.ListN.{length, take, drop, length-append, length-drop, drop_of_length-le}
use lib.Seq.{take_all}
use borrow.Author.Tests.{le-ltb, eq-eqb, ne_eqb, ltb-false}
use borrow.Rule.Slice.PartMut.{mid_of, put_mid, put_same, mid_len}
use Rattle.buffer.specs.Over.{over}
use Rattle.buffer.proofs.Over.{over-over, over_none, over-past, length_over}
use Rattle.messages.specs.Answer.{refused, written, by_room, bytes_by}
use Rattle.message_texts.specs.Filled.{joined}
use Rattle.messages.specs.Messages as answers
use Rattle.messages.specs.Messages.{fitting, texts_from, ends_from, turned_back, answer_by_texts}
use Rattle.text.specs.Pick.{pick}
use Rattle.refusals.specs.Refusal.{message_list_too_short}
use Rattle.messages.specs.Answer.{message_answer_of}

-- bytes written over the part of a list that begins at a place
over-part : (l : List ℕ) (at : ℕ) (s : List ℕ) → take at l ++ over (drop at l) 0 s ≡ over l at s
unfolding over
over-part [] zero s = refl
over-part [] (suc at) s = refl
over-part (x ∷ l) zero s = refl
over-part (x ∷ l) (suc at) s = ap (x ∷◌) (over-part l at s)

over-mid : (l : List ℕ) (at : ℕ) (s : List ℕ) → put_mid at (length l - at) l (over (mid_of at (length l - at) l) 0 s) ≡ over l at s
over-mid l at s =
    let h : length (drop at l) ≤ length l - at = omega (arith, length-drop at l) in
    rw (take_all (length l - at) (drop at l) h, drop_of_length-le (drop at l) {i = length l - at} h, append-nil) (over-part l at s)

-- a text that has room, and is written
record Fits (o : Option (List ℕ)) (part ys : List ℕ) (n : ℕ) : Type 0 where
  pub text : List ℕ
  pub there : o ≡ Some text
  pub long : n ≡ length text
  pub fits : n ≤ length part
  pub list : ys ≡ over part 0 text

answer-written : (o : Option (List ℕ)) (part ys : List ℕ) (n : ℕ) → written n ≡ by_room o (length part) → ys ≡ bytes_by None o part → Fits o part ys n
answer-written None part ys n e f = let z : ◌≡◌ {A = ℕ} 0 1 = cc in absurd (omega arith)
answer-written (Some x) part ys n e f = test (ltb (length part) (length x)) refl e f
  where
    test : (b : Bool) → ltb (length part) (length x) ≡ b → written n ≡ pick b (refused (record { number = message_list_too_short; place = length x })) (written (length x)) → ys ≡ pick b part (over part 0 x) → Fits (Some x) part ys n
    test true h e f = let z : ◌≡◌ {A = ℕ} 0 1 = cc in absurd (omega arith)
    test false h e f =
        let z : n ≡ length x = cc in
        record { text = x; there = refl; long = z; fits = omega (arith, ltb-false (length part) (length x) h); list = f }

-- a text that there isn't, or that has no room
record Lacks (o : Option (List ℕ)) (part ys : List ℕ) (a b : ℕ) : Type 0 where
  pub stops : (rest : ℕ → List (List ℕ)) → fitting o (length part) rest ≡ []
  pub why : turned_back o ≡ record { number = a; place = b }
  pub list : ys ≡ part

answer-refused : (o : Option (List ℕ)) (part ys : List ℕ) (a b : ℕ) → refused (record { number = a; place = b }) ≡ by_room o (length part) → ys ≡ bytes_by None o part → Lacks o part ys a b
answer-refused None part ys a b e f = record { stops = λ rest. refl; why = cc; list = f }
answer-refused (Some x) part ys a b e f = test (ltb (length part) (length x)) refl e f
  where
    test : (d : Bool) → ltb (length part) (length x) ≡ d → refused (record { number = a; place = b }) ≡ pick d (refused (record { number = message_list_too_short; place = length x })) (written (length x)) → ys ≡ pick d part (over part 0 x) → Lacks (Some x) part ys a b
    test true h e f = record { stops = λ rest. rw h; why = cc; list = f }
    test false h e f = let z : ◌≡◌ {A = ℕ} 0 1 = cc in absurd (omega arith)

-- the texts from record k on, behind so many bytes
abbrev pub left : (ℕ → Option (List ℕ)) → ℕ → ℕ → ℕ → ℕ → List (List ℕ)
left text n room k at = texts_from text k (n - k) (room - at)

module _ (text : ℕ → Option (List ℕ)) (n room k at : ℕ) where
  left-more : k < n → (x : List ℕ) → text k ≡ Some x → at + length x ≤ room → left text n room k at ≡ x ∷ left text n room (k + 1) (at + length x)
  unfolding texts_from
  left-more h x e f =
      let p : n - k ≡ suc (n - (k + 1)) = omega arith in
      let q : room - at - length x ≡ room - (at + length x) = omega arith in
      rw (p, e, le-ltb (room - at) (length x) (omega arith), q, add-one k)

  left-stopped : k < n → ((rest : ℕ → List (List ℕ)) → fitting (text k) (room - at) rest ≡ []) → left text n room k at ≡ []
  unfolding texts_from
  left-stopped h f = let p : n - k ≡ suc (n - (k + 1)) = omega arith in rw p (f _)

  left-none : n ≤ k → left text n room k at ≡ []
  unfolding texts_from
  left-none h = let p : n - k ≡ 0 = omega arith in rw p

-- what is left to write gives what the whole gives
pub record WritingTexts (text : ℕ → Option (List ℕ)) (n : ℕ) (ends₀ out₀ ends out : List ℕ) (k at : ℕ) : Type 0 where
  pub few : k ≤ n
  pub room : at ≤ length out₀
  pub records : k + length (left text n (length out₀) k at) ≡ length (texts_from text 0 n (length out₀))
  pub size : at + length (joined (left text n (length out₀) k at)) ≡ length (joined (texts_from text 0 n (length out₀)))
  pub bytes : over out at (joined (left text n (length out₀) k at)) ≡ over out₀ 0 (joined (texts_from text 0 n (length out₀)))
  pub places : over ends k (ends_from at (left text n (length out₀) k at)) ≡ over ends₀ 0 (ends_from 0 (texts_from text 0 n (length out₀)))
  pub same_out : length out ≡ length out₀
  pub same_ends : length ends ≡ length ends₀

module _ (text : ℕ → Option (List ℕ)) (n : ℕ) (ends₀ out₀ : List ℕ) where
  abbrev texts : List (List ℕ)
  texts = texts_from text 0 n (length out₀)

  -- the answer and the lists are the definition's
  abbrev pub Ended : answers.MessagesAnswer → List ℕ → List ℕ → Type 0
  Ended r ends out = (r ≡ answer_by_texts text n texts) × ((out ≡ over out₀ 0 (joined texts)) × (ends ≡ over ends₀ 0 (ends_from 0 texts)))

  pub writing_start : WritingTexts text n ends₀ out₀ ends₀ out₀ 0 0
  writing_start =
      let z : left text n (length out₀) 0 0 ≡ texts = rw (sub-zero n, sub-zero (length out₀)) in
      record { few = omega arith; room = omega arith; records = rw z (zero-add _); size = rw z (zero-add _); bytes = rw z; places = rw z; same_out = refl; same_ends = refl }

  module _ (ends out : List ℕ) (k at : ℕ) (y : WritingTexts text n ends₀ out₀ ends out k at) where
    writing-on : k < n → (x : List ℕ) → text k ≡ Some x → at + length x ≤ length out₀ → (out' ends' : List ℕ) → out' ≡ over out at x → ((es : List ℕ) → over ends k ((at + length x) ∷ es) ≡ over ends' (k + 1) es) → WritingTexts text n ends₀ out₀ ends' out' (k + 1) (at + length x)
    unfolding joined ends_from
    writing-on h x e f out' ends' o p =
        let m = left text n (length out₀) (k + 1) (at + length x) in
        let z = left-more text n (length out₀) k at h x e f in
        record {
          few = omega arith;
          room = f;
          records = let w = rw z at y.records in omega arith;
          size = let w = rw z at y.size in omega (arith, length-append x (joined m));
          bytes = rw o (over-over out at x (joined m)) ∙ rw z at y.bytes;
          places = sym (p (ends_from (at + length x) m)) ∙ rw z at y.places;
          same_out = ap length o ∙ length_over out at x ∙ y.same_out;
          same_ends = ap length (sym (over_none ends' (k + 1)) ∙ sym (p [])) ∙ length_over ends k ((at + length x) ∷ []) ∙ y.same_ends;
        }

    module _ (z : left text n (length out₀) k at ≡ []) where
      count : length texts ≡ k
      count = rw (sym y.records, z) (add-zero k)

      width : length (joined texts) ≡ at
      unfolding joined
      width = rw (sym y.size, z) (add-zero at)

      lists : (out ≡ over out₀ 0 (joined texts)) × (ends ≡ over ends₀ 0 (ends_from 0 texts))
      unfolding joined ends_from
      lists = (sym (over_none out at) ∙ rw z at y.bytes, sym (over_none ends k) ∙ rw z at y.places)

    pub writing-all : n ≤ k → Ended (answers.all k at) ends out
    writing-all h =
        let z = left-none text n (length out₀) k at h in
        let few = y.few in
        (rw (count z, width z, eq-eqb k n (omega arith)), lists z)

    -- what `message_in` makes of the part of the list that is left
    module _ (h : k < n) (r : Result ℕ code.Refusal) (ys : List ℕ) (e : (message_answer_of r ≡ by_room (text k) (length (mid_of at (length out - at) out))) × (ys ≡ bytes_by None (text k) (mid_of at (length out - at) out))) where
      free : length (mid_of at (length out - at) out) ≡ length out₀ - at
      free = mid_len at (length out) out (omega arith) ∙ ap (◌- at) y.same_out

      pub writing-stopped : (x : code.Refusal) → r ≡ Err x → Ended (answers.stopped k at (refusal_of x)) ends (put_mid at (length out - at) out ys)
      writing-stopped x q =
          let w = answer-refused (text k) _ ys (number_of x.reason) x.place (sym (ap message_answer_of q) ∙ e.0) e.1 in
          let z = left-stopped text n (length out₀) k at h (rw free at w.stops) in
          let l = lists z in
          (rw (count z, width z, ne_eqb k n (omega arith), w.why), (rw (w.list, put_same at (length out - at) out) l.0, l.1))

      module _ (len : ℕ) (q : r ≡ Ok len) where
        found : Fits (text k) (mid_of at (length out - at) out) ys len
        found = answer-written (text k) _ ys len (sym (ap message_answer_of q) ∙ e.0) e.1

        pub within : at + len ≤ length out₀
        within =
            let room = y.room in
            let fits = found.fits in
            omega (arith, free)

        -- the end of the text has its place in the list of ends, or is past it
        pub writing_more : (ends' : List ℕ) → ((es : List ℕ) → over ends k ((at + len) ∷ es) ≡ over ends' (k + 1) es) → WritingTexts text n ends₀ out₀ ends' (put_mid at (length out - at) out ys) (k + 1) (at + len)
        writing_more ends' p =
            let w = found in
            let f = within in
            let o = ap (put_mid at (length out - at) out) w.list ∙ over-mid out at w.text in
            rw w.long (writing-on h w.text w.there (rw w.long at f) _ ends' o (rw w.long at p))

pub end-past : (ends : List ℕ) (k v : ℕ) → length ends ≤ k → (es : List ℕ) → over ends k (v ∷ es) ≡ over ends (k + 1) es
end-past ends k v h es = over-past ends k (v ∷ es) h ∙ sym (over-past ends (k + 1) es (omega arith))
