-- Head and pieces one behind another are the listing, and each piece with enough room goes on.
-- Assumes nothing.
use Prim.Native.Nat.{ℕ, zero, suc, ◌+◌, ◌*◌, ◌-◌, ◌<◌, ◌≤◌}
use native.Mathlib.Omega.{arith}
use native.Mathlib.Decide.{dec_lt}
use mathlib.Core.Path.{◌≡◌, refl, sym, ap, ◌∙◌}
use mathlib.Core.Bool.{Bool, true, false, ◌&&◌}
use mathlib.Core.List.{List, [], ◌∷◌, ◌++◌, append_assoc, append-nil}
use Rattle.std.specs.Prelude.{Option, Some, None}
use lib.Dec.{eqb, leb, ltb}
use lib.ListN.{length, take, drop, length-append, length-drop, drop_of_length-le}
use lib.Seq.{take_at, take_all, drop-drop, length-take-le}
use borrow.Author.Tests.{le-ltb, ltb-true, ltb-false, leb-true}
use Rattle.text.specs.Pick.{pick}
use Rattle.text.specs.Literal.{ascii}
use Rattle.text.proofs.Bool.{and_left, and_right}
use Rattle.text.proofs.AnyOver.{any-parts}
use Rattle.refusals.specs.Refusal.{Refusal}
use Rattle.tape.specs.Nodes.{count}
use Rattle.buffer.specs.Decimal.{decimal}
use Rattle.buffer.proofs.Decimal.{decimal-length}
use Rattle.findings.specs.Finding.{Finding}
use Rattle.findings.specs.Written.{room, whole_records, encode, findings_in}
use Rattle.findings.proofs.Overlay.{encode-length, findings-in-words}
use Rattle.definition.specs.Outcome.{Lent, of10, refusal, repeated, smaller, list_of, checked_of, Answer, checked, answer_by, answer, list_after}
use Rattle.message_texts.specs.Filled.{joined}
use Rattle.messages.specs.Message.{request_of, message_text}
use Rattle.messages.proofs.Nine.{nine-whole}
use Rattle.validate.proofs.Lists.{written-words}
use Rattle.listing.specs.Lines.{Place, after_byte, place_from, line_and_column, line, name_at, severity_names, code_names, finding_lines}
use Rattle.listing.specs.Columns.{column_at}
use Rattle.listing.specs.Listing.{is_too_large, largest_file, most_held, message_room, message_shown, listed_finding, listed_each, checked_listing, listing_by, listing}
use Rattle.listing.specs.Pieces.{head_lines, held_count, held_findings, whole_in, piece_of, next_of, pieces_of, next_after, held_texts}
use Rattle.listing.proofs.Lines.{line-length}
use Rattle.listing.proofs.Columns.{after_line, column-few}
use Rattle.listing.proofs.Shown.{smaller-le}
use Rattle.listing.proofs.Pieces.{held-length, each-length}

-- ---- Pieces of any texts

joined-split : (n : ℕ) (xs : List (List ℕ)) → joined (take n xs) ++ joined (drop n xs) ≡ joined xs
unfolding joined
joined-split zero xs = refl
joined-split (suc n) [] = refl
joined-split (suc n) (x ∷ xs) = append_assoc x (joined (take n xs)) (joined (drop n xs)) ∙ ap (x ++◌) (joined-split n xs)

whole_le : (room : ℕ) (xs : List (List ℕ)) → whole_in room xs ≤ length xs
unfolding whole_in
whole_le room [] = omega arith
whole_le room (x ∷ xs) = go (ltb room (length x)) (whole_le (room - length x) xs)
  where
    go : (d : Bool) → whole_in (room - length x) xs ≤ length xs → pick d 0 (suc (whole_in (room - length x) xs)) ≤ suc (length xs)
    go true h = omega arith
    go false h = omega arith

next_le : (xs : List (List ℕ)) (k room : ℕ) → k ≤ length xs → next_of xs k room ≤ length xs
next_le xs k room h = omega (arith, whole_le room (drop k xs), length-drop k xs)

-- pieces that reach the last text are all the texts from the k-th on
pub pieces-joined : (xs : List (List ℕ)) (k : ℕ) (rooms : List ℕ) → k ≤ length xs → next_after xs k rooms ≡ length xs → pieces_of xs k rooms ≡ joined (drop k xs)
unfolding pieces_of next_after joined
pieces-joined xs k [] h e = rw (drop_of_length-le xs {i = k} (omega arith))
pieces-joined xs k (room ∷ rooms) h e =
    let n = whole_in room (drop k xs) in
    let rest = pieces-joined xs (k + n) rooms (next_le xs k room h) e in
    ap (piece_of xs k room ++◌) (rest ∙ ap joined (sym (drop-drop n k xs))) ∙ joined-split n (drop k xs)

-- ---- Enough room

all_short : ℕ → List (List ℕ) → Bool
all_short m [] = true
all_short m (n ∷ ns) = leb (length n) m && all_short m ns

name-short : (m : ℕ) (ns : List (List ℕ)) → all_short m ns ≡ true → (k : ℕ) → length (name_at ns k) ≤ m
unfolding name_at all_short
name-short m [] h k = omega arith
name-short m (n ∷ ns) h zero = leb-true (length n) m (and_left (leb (length n) m) (all_short m ns) h)
name-short m (n ∷ ns) h (suc k) = name-short m ns (and_right (leb (length n) m) (all_short m ns) h) k

severity-short : (k : ℕ) → length (name_at severity_names k) ≤ 7
unfolding severity_names ascii all_short
severity-short k = name-short 7 severity_names refl k

code-short : (k : ℕ) → length (name_at code_names k) ≤ 26
unfolding code_names ascii all_short
code-short k = name-short 26 code_names refl k

-- a line is at most the source's length and one
line-few : (p : Place) (s : List ℕ) (n : ℕ) → (place_from p s n).line ≤ p.line + length s
unfolding place_from
line-few p s zero = omega arith
line-few p [] (suc n) = omega arith
line-few p (b ∷ s) (suc n) = go (eqb b 10) (after_line b p) (line-few (after_byte b p) s n)
  where
    go : (d : Bool) → (after_byte b p).line ≡ pick d (p.line + 1) p.line → (place_from (after_byte b p) s n).line ≤ (after_byte b p).line + length s → (place_from (after_byte b p) s n).line ≤ p.line + suc (length s)
    go true e h = omega arith
    go false e h = omega arith

shown-short : (room : ℕ) (o : Option (List ℕ)) → length (message_shown room o) ≤ room
shown-short room None = omega arith
shown-short room (Some x) = go (ltb room (length x)) refl
  where
    go : (d : Bool) → ltb room (length x) ≡ d → length (pick d [] x) ≤ room
    go true h = omega arith
    go false h = ltb-false room (length x) h

-- a finding's lines are at most 512 bytes longer than the room for its message
module _ (room : ℕ) (table s t : List ℕ) (short : length s ≤ 1048576) where
  pub listed-short : (f : Finding) → length (listed_finding room table s t f) ≤ room + 512
  unfolding listed_finding finding_lines ascii
  listed-short f =
      let at = (line_and_column s f.start).line in
      let column = column_at s f.start in
      let a = line-length "severity" (name_at severity_names f.severity) in
      let b = line-length "code" (name_at code_names f.code) in
      let c = line-length "line" (decimal at) in
      let d = line-length "column" (decimal column) in
      let shown = message_shown room (message_text table s t (request_of f)) in
      let e = line-length "message" shown in
      let digits = decimal-length at (omega (arith, line-few (record { line = 1; column = 1 }) s f.start)) in
      let digits' = decimal-length column (omega (arith, column-few s f.start)) in
      let one = length-append (line "column" (decimal column)) (line "message" shown) in
      let two = length-append (line "line" (decimal at)) (line "column" (decimal column) ++ line "message" shown) in
      let three = length-append (line "code" (name_at code_names f.code)) (line "line" (decimal at) ++ (line "column" (decimal column) ++ line "message" shown)) in
      let four = length-append (line "severity" (name_at severity_names f.severity)) (line "code" (name_at code_names f.code) ++ (line "line" (decimal at) ++ (line "column" (decimal column) ++ line "message" shown))) in
      omega (arith, severity-short f.severity, code-short f.code, shown-short room (message_text table s t (request_of f)))

  each-goes-on : (k : ℕ) (fs : List Finding) (out : ℕ) → k < length fs → room + 512 ≤ out → 1 ≤ whole_in out (drop k (listed_each room table s t fs))
  unfolding listed_each whole_in
  each-goes-on k [] out h g = absurd (omega arith)
  each-goes-on zero (f ∷ fs) out h g = rw (le-ltb out (length (listed_finding room table s t f)) (omega (arith, listed-short f))) (omega arith)
  each-goes-on (suc k) (f ∷ fs) out h g = each-goes-on k fs out (omega arith) g

  -- a piece with that much room has one finding at least, and goes no further than the last
  module _ (n : ℕ) (l : List ℕ) (h : n ≤ whole_records l) (k out : ℕ) where
    pub piece-goes-on : k < n → room + 512 ≤ out → k < next_of (listed_each room table s t (held_findings n l)) k out
    piece-goes-on g r = omega (arith, each-goes-on k (held_findings n l) out (rw (held-length n l (omega arith)) g) r)

    pub piece-ends : k ≤ n → next_of (listed_each room table s t (held_findings n l)) k out ≤ n
    piece-ends g =
        let e : length (listed_each room table s t (held_findings n l)) ≡ n = each-length room table s t (held_findings n l) ∙ held-length n l (omega arith) in
        omega (arith, e, next_le (listed_each room table s t (held_findings n l)) k out (rw e g))

-- a piece fits
whole-fits : (room : ℕ) (xs : List (List ℕ)) → length (joined (take (whole_in room xs) xs)) ≤ room
unfolding whole_in joined
whole-fits room [] = omega arith
whole-fits room (x ∷ xs) = go (ltb room (length x)) refl (whole-fits (room - length x) xs)
  where
    go : (d : Bool) → ltb room (length x) ≡ d → length (joined (take (whole_in (room - length x) xs) xs)) ≤ room - length x → length (joined (take (pick d 0 (suc (whole_in (room - length x) xs))) (x ∷ xs))) ≤ room
    go true h g = omega arith
    go false h g = omega (arith, ltb-false room (length x) h, length-append x (joined (take (whole_in (room - length x) xs) xs)))

pub piece-fits : (xs : List (List ℕ)) (k room : ℕ) → length (piece_of xs k room) ≤ room
piece-fits xs k room = whole-fits room (drop k xs)

-- ---- The listing of a document

-- the check writes no more findings than the list has room for
pub held_fits : (l : Lent) → held_count (answer l) ≤ room l.list
unfolding checked_of
held_fits l = go (refusal l)
  where
    go : (x : Option Refusal) → held_count (answer_by x (checked_of l)) ≤ room l.list
    go (Some r) = omega arith
    go None = smaller-le (length (list_of l)) (room l.list)

smaller-taken : (n : ℕ) (fs : List Finding) → smaller (length fs) n ≡ length (take n fs)
smaller-taken n fs = go (ltb (length fs) n) refl
  where
    go : (d : Bool) → ltb (length fs) n ≡ d → pick d (length fs) n ≡ length (take n fs)
    go true h = let less = ltb-true (length fs) n h in sym (ap length (take_all n fs (omega arith)))
    go false h = sym (length-take-le n fs (ltb-false (length fs) n h))

-- the findings that the list holds after a check are the first that fit
held-words : (l : Lent) → refusal l ≡ None → held_findings (checked_of l).written (list_after l) ≡ take (room l.list) (list_of l)
unfolding checked_of
held-words l e =
    let fit = take (room l.list) (list_of l) in
    let rest = drop (8 * length fit) l.list in
    ap findings_in
    (ap (λ (n : ℕ). take (8 * n) (list_after l)) (smaller-taken (room l.list) (list_of l))
    ∙ ap (take (8 * length fit)) (written-words l e)
    ∙ take_at (encode fit) rest (8 * length fit) (encode-length fit))
    ∙ findings-in-words fit

module _ (l : Lent) (small : is_too_large l.table l.source l.tape ≡ false) (seen : 4096 ≤ length l.seen) (opens : 4096 ≤ length l.open_starts) where
  few : count l.tape ≤ 4096
  few = omega (arith, (any-parts largest_file (length l.table) (length l.source) (length l.tape) small).1.1)

  -- number 10 turns back no document of files
  pub no-ten : of10 l ≡ None
  no-ten = rw (le-ltb (length l.seen) (count l.tape) (omega (arith, few)), le-ltb (length l.open_starts) (count l.tape) (omega (arith, few)))

module _ (l : Lent) (small : is_too_large l.table l.source l.tape ≡ false) (seen : 4096 ≤ length l.seen) (opens : 4096 ≤ length l.open_starts) (holds : length l.list ≡ 8 * most_held) where
  listing-is : listing l.table l.source l.tape ≡ listing_by (refusal l) (checked_listing l.table l.source l.tape (list_of l))
  unfolding listing
  listing-is = rw (small, nine-whole l (no-ten l small seen opens))

  answer_is : refusal l ≡ None → answer l ≡ checked (checked_of l)
  answer_is e = ap (λ (x : Option Refusal). answer_by x (checked_of l)) e

  held-is : refusal l ≡ None → held_texts message_room l ≡ listed_each message_room l.table l.source l.tape (take most_held (list_of l))
  held-is e =
      let each = listed_each message_room l.table l.source l.tape in
      let n : room l.list ≡ most_held = omega (arith, holds) in
      ap (λ (a : Answer). each (held_findings (held_count a) (list_after l))) (answer_is e) ∙ ap each (held-words l e ∙ ap (λ (k : ℕ). take k (list_of l)) n)

  whole-listing : (x : Option Refusal) → refusal l ≡ x → head_lines (answer l) ++ joined (held_texts message_room l) ≡ listing l.table l.source l.tape
  unfolding checked_listing checked_of joined listed_each findings_in
  whole-listing (Some r) e = rw (listing-is, e) (append-nil _)
  whole-listing None e =
      ap (λ (a : Answer). head_lines a ++ joined (held_texts message_room l)) (answer_is e)
      ∙ ap (λ (xs : List (List ℕ)). head_lines (checked (checked_of l)) ++ joined xs) (held-is e)
      ∙ sym (listing-is ∙ ap (λ (x : Option Refusal). listing_by x (checked_listing l.table l.source l.tape (list_of l))) e)

  -- the lines of all held findings in pieces, the head before them
  pub listing-joined : (rooms : List ℕ) → next_after (held_texts message_room l) 0 rooms ≡ length (held_texts message_room l) → head_lines (answer l) ++ pieces_of (held_texts message_room l) 0 rooms ≡ listing l.table l.source l.tape
  listing-joined rooms e = ap (head_lines (answer l) ++◌) (pieces-joined (held_texts message_room l) 0 rooms (omega arith) e) ∙ whole-listing (refusal l) refl

  -- enough pieces, each with room for a message and 512 bytes more, reach the last held finding
  module _ (r : ℕ) (enough : message_room + 512 ≤ r) where
    held-goes-on : (k : ℕ) → k < length (held_texts message_room l) → 1 ≤ whole_in r (drop k (held_texts message_room l))
    held-goes-on k h =
        let fs = held_findings (held_count (answer l)) (list_after l) in
        let short = (any-parts largest_file (length l.table) (length l.source) (length l.tape) small).1.0 in
        each-goes-on message_room l.table l.source l.tape (omega arith) k fs r (rw (each-length message_room l.table l.source l.tape fs) at h) enough

    texts-reached : (n k : ℕ) → k ≤ length (held_texts message_room l) → length (held_texts message_room l) ≤ k + n → next_after (held_texts message_room l) k (repeated r n) ≡ length (held_texts message_room l)
    unfolding next_after repeated
    texts-reached zero k low high = omega arith
    texts-reached (suc n) k low high = texts-reached n (next_of (held_texts message_room l) k r) (next_le (held_texts message_room l) k r low) (gone (dec_lt k (length (held_texts message_room l))))
      where
        gone : Dec (k < length (held_texts message_room l)) → length (held_texts message_room l) ≤ next_of (held_texts message_room l) k r + n
        gone (yes h) = omega (arith, held-goes-on k h)
        gone (no h) = omega arith

    -- whatever number of such pieces is at least that of the held findings
    pub listing-printed : (n : ℕ) → length (held_texts message_room l) ≤ n → head_lines (answer l) ++ pieces_of (held_texts message_room l) 0 (repeated r n) ≡ listing l.table l.source l.tape
    listing-printed n h = listing-joined (repeated r n) (texts-reached n 0 (omega arith) (omega arith))
