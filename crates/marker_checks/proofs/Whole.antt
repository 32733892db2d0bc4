-- All that is said of a marker, part after part.
-- Assumes nothing.
use Prim.Native.Nat.{ℕ, ◌+◌}
use mathlib.Core.Path.{◌≡◌, refl, ap, ◌∙◌}
use mathlib.Core.Bool.{Bool}
use mathlib.Core.List.{List, [], ◌++◌}
use native.Mathlib.Omega.{arith}
use lib.ListN.{length, length-append}
use Rattle.text.specs.Pick.{cut, pick}
use Rattle.tape.specs.Nodes.{node_at, span, link_at}
use Rattle.tape.specs.Forest.{forest}
use Rattle.table.specs.Entries.{Entry}
use Rattle.cursor.specs.Names.{name_of}
use Rattle.findings.specs.Finding.{Finding}
use Rattle.findings.specs.declared.Counts.{Counts}
use Rattle.findings.specs.Written.{total}
use Rattle.findings.proofs.Overlay.{counted-total, wrote-append, room-first}
use Rattle.attributes.specs.Attributes.{attributes_findings}
use Rattle.rows.specs.Row.{row_findings}
use Rattle.definition.specs.State.{WalkContext}
use Rattle.definition.specs.Checks.{Check, given, id_name, tr_name, book_code, id_checks, after_id, place_checks, content_checks}
use Rattle.state.specs.Inner.{state_of, anchor_of, counts_of, with_counts}
use Rattle.state.specs.declared.State.{State}
use Rattle.marker_checks.specs.InnerVisit.{own_at, children_at, MarkerVisited}
use Rattle.marker_checks.specs.Inner.{with_id}
use Rattle.definition.proofs.Givens.{given-append}
use Rattle.text.specs.Bytes.{equal}
use Rattle.findings.specs.Inner.{Wrote, Room}

-- the room of what follows
room_after : (fs gs : List Finding) (l l' : List ℕ) (c c' : Counts) → Wrote fs l c l' c' → Room c (fs ++ gs) → Room c' gs
room_after fs gs l l' c c' w r =
    let n : total c' ≡ total c + length fs = ap total w.counts ∙ counted-total c fs in
    let a = length-append fs gs in
    omega arith

-- three lists of checks and two of findings
module _ (a p k : List Check) (r t : List Finding) where
  parts : given (a ++ p ++ k) ++ r ++ t ≡ given a ++ given p ++ given k ++ r ++ t
  parts = ap (λ (fs : List Finding). fs ++ r ++ t) (given-append (a ++ p) k ∙ ap (λ (fs : List Finding). fs ++ given k) (given-append a p))

  module _ (l₀ : List ℕ) (c₀ : Counts) (room : Room c₀ (given (a ++ p ++ k) ++ r ++ t)) where
    all : Room c₀ (given a ++ given p ++ given k ++ r ++ t)
    all = rw parts at room

    four-parts : Room c₀ (given a ++ given p ++ given k ++ r)
    four-parts = room-first c₀ (given a ++ given p ++ given k ++ r) t all

    three-parts : Room c₀ (given a ++ given p ++ given k)
    three-parts = room-first c₀ (given a ++ given p ++ given k) r four-parts

    two-parts : Room c₀ (given a ++ given p)
    two-parts = room-first c₀ (given a ++ given p) (given k) three-parts

    pub room-id : Room c₀ (given a)
    room-id = room-first c₀ (given a) (given p) two-parts

    module _ (l₁ : List ℕ) (c₁ : Counts) (w₁ : Wrote (given a) l₀ c₀ l₁ c₁) where
      pub room-place : Room c₁ (given p)
      room-place = room_after (given a) (given p) l₀ l₁ c₀ c₁ w₁ two-parts

      module _ (l₂ : List ℕ) (c₂ : Counts) (w₂ : Wrote (given p) l₁ c₁ l₂ c₂) where
        pub room-content : Room c₂ (given k)
        room-content = room_after (given a ++ given p) (given k) l₀ l₂ c₀ c₂ (wrote-append w₁ w₂) three-parts

        module _ (l₃ : List ℕ) (c₃ : Counts) (w₃ : Wrote (given k) l₂ c₂ l₃ c₃) where
          pub room_row : Room c₃ r
          room_row = room_after (given a ++ given p ++ given k) r l₀ l₃ c₀ c₃ (wrote-append (wrote-append w₁ w₂) w₃) four-parts

          module _ (l₄ : List ℕ) (c₄ : Counts) (w₄ : Wrote r l₃ c₃ l₄ c₄) where
            pub room-attributes : Room c₄ t
            room-attributes = room_after (given a ++ given p ++ given k ++ r) t l₀ l₄ c₀ c₄ (wrote-append (wrote-append (wrote-append w₁ w₂) w₃) w₄) all

            pub wrote-all : (l₅ : List ℕ) (c₅ : Counts) → Wrote t l₄ c₄ l₅ c₅ → Wrote (given (a ++ p ++ k) ++ r ++ t) l₀ c₀ l₅ c₅
            wrote-all l₅ c₅ w₅ = rw parts (wrote-append (wrote-append (wrote-append (wrote-append w₁ w₂) w₃) w₄) w₅)

-- the parts of a marker, of its name in the table, where its children end, whether it is an `id`, and the record after that
abbrev pub id_part : List ℕ → List ℕ → ℕ → State → ℕ → Bool → List Check
id_part s t i r link named = id_checks named (state_of s t [] [] r) (book_code (forest s t (i + 1) link)) (node_at s t i)

abbrev pub place_part : List ℕ → List ℕ → ℕ → ℕ → WalkContext → Entry → List ℕ → State → List Check
place_part s t i to o e name after = place_checks name e o (anchor_of s t after.anchor i) (state_of s t [] [] after) (node_at s t i) (children_at s t i) (forest s t i to)

abbrev pub content_part : List ℕ → List ℕ → ℕ → List ℕ → ℕ → List Check
content_part s t i name link = content_checks name (node_at s t i) (forest s t (i + 1) link)

abbrev pub row_part : List ℕ → List ℕ → ℕ → List ℕ → ℕ → List Finding
row_part s t i name link = pick (equal name tr_name) (row_findings (forest s t (i + 1) link)) []

abbrev pub attribute_part : List ℕ → List ℕ → ℕ → ℕ → List Finding
attribute_part s t i link = attributes_findings i (name_of (cut (span t i) s)) (forest s t (i + 1) link)

abbrev pub said_of : List ℕ → List ℕ → ℕ → ℕ → WalkContext → Entry → State → List ℕ → ℕ → Bool → State → List Finding
said_of s t i to o e r name link named after =
    given (id_part s t i r link named ++ place_part s t i to o e name after ++ content_part s t i name link) ++ row_part s t i name link ++ attribute_part s t i link

module _ (table s t : List ℕ) (i to : ℕ) (o : WalkContext) (e : Entry) (r : State) (name : List ℕ) (link : ℕ) (named : Bool) (after : State) (name-is : name ≡ cut e.name table) (link-is : link ≡ link_at t i) (named-is : named ≡ equal name id_name) (after_is : after ≡ with_id named (book_code (forest s t (i + 1) link)) r) where
  own_is : said_of s t i to o e r name link named after ≡ own_at table s t o (anchor_of s t r.anchor i) e i to r
  unfolding after_id
  own_is = rw (after_is, named-is, name-is, link-is) refl

  pub own_room : (c : Counts) → c ≡ counts_of r → Room (counts_of r) (own_at table s t o (anchor_of s t r.anchor i) e i to r) → Room c (said_of s t i to o e r name link named after)
  own_room c e h = rw (e, own_is) h

  pub marked : (l l' : List ℕ) (c d : Counts) (q : State) → c ≡ counts_of r → q ≡ with_counts after d → Wrote (said_of s t i to o e r name link named after) l c l' d → MarkerVisited table s t o (anchor_of s t r.anchor i) e i to l r l' q
  unfolding after_id
  marked l l' c d q c-is q-is w =
      rw q-is
      (record {
        wrote = rw (c-is, own_is) at w;
        state = λ seen opens. rw (after_is, named-is, name-is, link-is) refl;
        same = record { seen = ap (λ (x : State). x.seen_len) after_is; opens = ap (λ (x : State). x.open_len) after_is; verses = ap (λ (x : State). x.verses) after_is; anchor = ap (λ (x : State). x.anchor) after_is };
        verse = ap (λ (x : State). x.expected_verse) after_is;
      })
