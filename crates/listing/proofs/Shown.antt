-- What a listing shows of one finding: its message, line and column, and its words in a list.
-- Assumes nothing.
use Prim.Native.Nat.{ℕ, zero, suc, ◌+◌, ◌<◌, ◌≤◌}
use native.Mathlib.Omega.{arith}
use mathlib.Core.Path.{◌≡◌, refl, sym, ap, ◌∙◌}
use mathlib.Core.Bool.{Bool, true, false}
use mathlib.Core.List.{List, [], ◌∷◌}
use Rattle.std.specs.Prelude.{Option, Some, None}
use Rattle.std.specs.Prelude.{Result, Ok, Err}
use Rattle.refusals.specs.declared.Refusal as code
use Rattle.refusals.specs.Reasons.{refusal_of}
use lib.Dec.{ltb}
use lib.ListN.{length, get_or, take, drop}
use lib.Seq.{take_at, length-take-le}
use borrow.Author.Tests.{lt-ltb, le-ltb, ltb-true, ltb-false}
use Rattle.text.specs.Pick.{pick}
use Rattle.buffer.specs.Over.{Put, over}
use Rattle.buffer.proofs.Over.{over-fits, length_over}
use Rattle.refusals.specs.Refusal.{message_list_too_short}
use Rattle.messages.specs.Answer.{refused, written, by_room, bytes_by, message_answer_of}
use Rattle.messages.specs.Message.{Request, message_text}
use Rattle.messages.specs.Messages.{request_at}
use Rattle.definition.specs.Outcome.{smaller}
use Rattle.listing.specs.Lines.{Place, after_byte, place_from, line_and_column, finding_lines}
use Rattle.listing.specs.Columns.{column_at}
use Rattle.listing.specs.LinesAndColumns.{PlacesOf}
use Rattle.listing.specs.Listing.{message_shown, listed_finding}
use Rattle.listing.specs.Inner.{ShownIn, PutWhole, record_at, listed_of}
use Rattle.listing.specs.declared.Listed.{Listed}
use Rattle.listing.proofs.Columns.{column-past}

-- what `message_in` answers and writes
module _ (o : Option (List ℕ)) (l l' : List ℕ) (r : Result ℕ code.Refusal) (e : message_answer_of r ≡ by_room o (length l)) (f : l' ≡ bytes_by None o l) where
  pub shown-none : (x : code.Refusal) → r ≡ Err x → ShownIn (message_shown (length l) o) l' 0
  shown-none x q = record { inside = omega arith; is = go o (sym (ap message_answer_of q) ∙ e) }
    where
      go : (o : Option (List ℕ)) → refused (refusal_of x) ≡ by_room o (length l) → [] ≡ message_shown (length l) o
      go None z = refl
      go (Some y) z = test (ltb (length l) (length y)) z
        where
          test : (d : Bool) → refused (refusal_of x) ≡ pick d (refused (record { number = message_list_too_short; place = length y })) (written (length y)) → [] ≡ pick d [] y
          test true w = refl
          test false w = let z : ◌≡◌ {A = ℕ} 0 1 = cc in absurd (omega arith)

  pub shown-whole : (n : ℕ) → r ≡ Ok n → ShownIn (message_shown (length l) o) l' n
  shown-whole n q = go o f (sym (ap message_answer_of q) ∙ e)
    where
      go : (o : Option (List ℕ)) → l' ≡ bytes_by None o l → written n ≡ by_room o (length l) → ShownIn (message_shown (length l) o) l' n
      go None f z = let z : ◌≡◌ {A = ℕ} 0 1 = cc in absurd (omega arith)
      go (Some x) f z = test (ltb (length l) (length x)) refl f z
        where
          test : (d : Bool) → ltb (length l) (length x) ≡ d → l' ≡ pick d l (over l 0 x) → written n ≡ pick d (refused (record { number = message_list_too_short; place = length x })) (written (length x)) → ShownIn (pick d [] x) l' n
          test true h f w = let z : ◌≡◌ {A = ℕ} 0 1 = cc in absurd (omega arith)
          test false h f w =
              let z : n ≡ length x = cc in
              let room : length x ≤ length l = ltb-false (length l) (length x) h in
              record {
                inside = rw (f, length_over l 0 x, z) room;
                is = rw (f, z) (ap (take (length x)) (over-fits l x room) ∙ take_at x (drop (length x) l) (length x) refl);
              }

pub short-enough : (n m : ℕ) (text text' : List ℕ) → n ≤ length text' → length text' ≡ length text → length text ≤ m → length (take n text') ≤ m
short-enough n m text text' h e k = rw (length-take-le n text' h) (omega arith)

-- past the end of a source the line is that of its end
place-past : (p : Place) (s : List ℕ) (i : ℕ) → length s ≤ i → place_from p s i ≡ place_from p s (length s)
unfolding place_from
place-past p [] zero h = refl
place-past p [] (suc i) h = refl
place-past p (b ∷ s) zero h = absurd (omega arith)
place-past p (b ∷ s) (suc i) h = place-past (after_byte b p) s i (omega arith)

-- what is the same past the end as at it is the same at the smaller of a place and the end
same-smaller : (f : ℕ → ℕ) (i n : ℕ) → (n ≤ i → f i ≡ f n) → f (smaller i n) ≡ f i
same-smaller f i n past = go (ltb i n) refl
  where
    go : (d : Bool) → ltb i n ≡ d → f (pick d i n) ≡ f i
    go true h = refl
    go false h = sym (past (ltb-false i n h))

pub smaller-le : (a b : ℕ) → smaller a b ≤ b
smaller-le a b = go (ltb a b) refl
  where
    go : (d : Bool) → ltb a b ≡ d → pick d a b ≤ b
    go true h = let z = ltb-true a b h in omega arith
    go false h = omega arith

-- line and column of a place that is no later than the source's end
module _ (s lines columns : List ℕ) (p : PlacesOf s lines columns) (start i : ℕ) (e : i ≡ smaller start (length s)) where
  pub place_inside : i ≤ length s
  place_inside = rw e (smaller-le start (length s))

  pub line-there : get_or lines i 0 ≡ (line_and_column s start).line
  line-there =
      p.lines_are i place_inside
      ∙ rw e (same-smaller (λ k. (line_and_column s k).line) start (length s) (λ h. ap (λ (q : Place). q.line) (place-past (record { line = 1; column = 1 }) s start h)))

  pub column-there : get_or columns i 0 ≡ column_at s start
  column-there = p.columns_are i place_inside ∙ rw e (same-smaller (column_at s) start (length s) (column-past s start))

pub listed-is : (s lines columns : List ℕ) → PlacesOf s lines columns → (list : List ℕ) (k i : ℕ) → i ≡ smaller (record_at list k).start (length s) → record { severity = (record_at list k).severity; code = (record_at list k).code; line = get_or lines i 0; column = get_or columns i 0 } ≡ listed_of s (record_at list k)
listed-is s lines columns p list k i e = rw (line-there s lines columns p (record_at list k).start i e, column-there s lines columns p (record_at list k).start i e)

-- the lines of a finding of a list, written where they have whole room
module _ (table s t list : List ℕ) (room k : ℕ) (q : Request) (asks : q ≡ request_at list k) (text : List ℕ) (n : ℕ) (shown : ShownIn (message_shown room (message_text table s t q)) text n) (v : Listed) (is : v ≡ listed_of s (record_at list k)) where
  abbrev lines : List ℕ
  lines = finding_lines v.severity v.code v.line v.column (take n text)

  abbrev whole : List ℕ
  whole = listed_finding room table s t (record_at list k)

  are-lines : lines ≡ whole
  unfolding listed_finding
  are-lines = rw (is, shown.is, asks)

  module _ (l : List ℕ) (at end : ℕ) (ends : end ≡ at + length lines) where
    far : end ≡ at + length whole
    far = ends ∙ ap (λ (x : List ℕ). at + length x) are-lines

    pub whole-put : end ≤ length l → (l' : List ℕ) (r : ℕ) → Put lines l at l' r → PutWhole whole l at l' end
    whole-put h l' r p =
        let g : at + length whole ≤ length l = rw (sym far) h in
        record { list = p.list ∙ ap (over l at) are-lines ∙ rw (le-ltb (length l) (at + length whole) g); end = far }

    pub whole-left : length l < end → PutWhole whole l at l end
    whole-left h =
        let g : length l < at + length whole = rw (sym far) h in
        record { list = rw (lt-ltb (length l) (at + length whole) g); end = far }
