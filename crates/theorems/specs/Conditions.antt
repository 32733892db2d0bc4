-- Document 01, "Turned back, in checking order": the condition of each number by itself, at a place. Which of several numbers is given is `one-number` in proofs/Theorems.antt.
use Rattle.std.specs.Prelude.{ℕ, zero, suc, ◌<◌, ◌≡◌, true, false, List, [], ◌∷◌, ◌⊎◌, length}
use Rattle.text.specs.Utf8.{FirstIllFormed}
use Rattle.tape.specs.Nodes.{count}
use Rattle.tape.specs.Reading.{bad_length, bad_kind, bad_span, good_root}
use Rattle.tape.specs.Conditions.{Stops, LeftOpen}
use Rattle.table.specs.Conditions.{NumberOne}
use Rattle.numbers.specs.Label.{bad_label}
use Rattle.definition.specs.Outcome.{Lent}
use Rattle.refusals.specs.Refusal.{First, broken_links, too_deep}

-- of the numbers 1 to 10, in their order
abbrev pub conditions : Lent → List (ℕ → Type 0)
conditions l =
    -- 1: "The table text breaks its layout; place: first byte of the first bad line, or the text's length if a triple is unfinished."
    (λ place. NumberOne l.table place)
    -- 2: "The source is too long; place 0."
    ∷ (λ place. (1048576 < length l.source) × (place ≡ 0))
    -- 3: "The source isn't UTF-8; place: first byte of the first ill-formed sequence."
    ∷ (λ place. FirstIllFormed l.source place)
    -- 4: "The tape's length is 0, no multiple of 16, or over 65,535 nodes; place 0."
    ∷ (λ place. (bad_length l.tape ≡ true) × (place ≡ 0))
    -- 5: "A kind is over 8, or Root is missing at 0 or present elsewhere; place: that node."
    ∷ (λ place. First (bad_kind l.tape) 0 (count l.tape) place)
    -- 6: "A span from node 1 on leaves the source or splits a character; place: that node."
    ∷ (λ place. First (bad_span l.source l.tape) 1 (count l.tape) place)
    -- 7: "The links break module 2's reading; place: 0 for the root's link, else the close that fails, else n for an unclosed open."
    ∷ (λ place. ((good_root l.tape ≡ false) × (place ≡ 0)) ⊎ ((good_root l.tape ≡ true) × (Stops l.tape broken_links place ⊎ LeftOpen l.tape place)))
    -- 8: "A 65th open nests inside 64, root not counted; place: that node, and of 7 and 8 the smaller place is given." The reading stops once, with 7 or with 8.
    ∷ (λ place. Stops l.tape too_deep place)
    -- 9: "A Chapter or Verse name is longer than its table name and the cut splits a character; place: that node."
    ∷ (λ place. First (bad_label l.table l.source l.tape) 1 (count l.tape) place)
    -- 10: "A working list has fewer than n entries; place n."
    ∷ (λ place. ((length l.seen < count l.tape) ⊎ (length l.open_starts < count l.tape)) × (place ≡ count l.tape))
    ∷ []

-- the condition of the number k + 1 of a list; past its end there is none
abbrev pub condition_of : List (ℕ → Type 0) → ℕ → ℕ → Type 0
condition_of [] k place = ⊥
condition_of (c ∷ cs) zero place = c place
condition_of (c ∷ cs) (suc k) place = condition_of cs k place

-- the condition of a number at a place
abbrev pub Condition : Lent → ℕ → ℕ → Type 0
Condition l zero place = ⊥
Condition l (suc k) place = condition_of (conditions l) k place
