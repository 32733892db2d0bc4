-- The running record with one field changed: in each line the new value stands at its field's place, and the other fields are the old ones.
use Rattle.std.specs.Prelude.{ℕ, Bool, List}
use Rattle.numbers.specs.Verse.{Position}
use Rattle.definition.specs.State.{Milestone, WalkState}

-- the record by its fields, in their order
abbrev pub walk_state : Bool → Bool → Bool → Bool → Bool → ℕ → Position → List ℕ → List Milestone → ℕ → WalkState
walk_state has_id has_chapter has_verse front_matter verse_outside_warned expected_chapter expected_verse seen open_starts verses =
    record {
      has_id = has_id;
      has_chapter = has_chapter;
      has_verse = has_verse;
      front_matter = front_matter;
      verse_outside_warned = verse_outside_warned;
      expected_chapter = expected_chapter;
      expected_verse = expected_verse;
      seen = seen;
      open_starts = open_starts;
      verses = verses;
    }

abbrev pub set_has_id : Bool → WalkState → WalkState
set_has_id value st = walk_state value st.has_chapter st.has_verse st.front_matter st.verse_outside_warned st.expected_chapter st.expected_verse st.seen st.open_starts st.verses

abbrev pub set_has_chapter : Bool → WalkState → WalkState
set_has_chapter value st = walk_state st.has_id value st.has_verse st.front_matter st.verse_outside_warned st.expected_chapter st.expected_verse st.seen st.open_starts st.verses

abbrev pub set_has_verse : Bool → WalkState → WalkState
set_has_verse value st = walk_state st.has_id st.has_chapter value st.front_matter st.verse_outside_warned st.expected_chapter st.expected_verse st.seen st.open_starts st.verses

abbrev pub set_front_matter : Bool → WalkState → WalkState
set_front_matter value st = walk_state st.has_id st.has_chapter st.has_verse value st.verse_outside_warned st.expected_chapter st.expected_verse st.seen st.open_starts st.verses

abbrev pub set_verse_outside_warned : Bool → WalkState → WalkState
set_verse_outside_warned value st = walk_state st.has_id st.has_chapter st.has_verse st.front_matter value st.expected_chapter st.expected_verse st.seen st.open_starts st.verses

abbrev pub set_expected_chapter : ℕ → WalkState → WalkState
set_expected_chapter value st = walk_state st.has_id st.has_chapter st.has_verse st.front_matter st.verse_outside_warned value st.expected_verse st.seen st.open_starts st.verses

abbrev pub set_expected_verse : Position → WalkState → WalkState
set_expected_verse value st = walk_state st.has_id st.has_chapter st.has_verse st.front_matter st.verse_outside_warned st.expected_chapter value st.seen st.open_starts st.verses

abbrev pub set_seen : List ℕ → WalkState → WalkState
set_seen value st = walk_state st.has_id st.has_chapter st.has_verse st.front_matter st.verse_outside_warned st.expected_chapter st.expected_verse value st.open_starts st.verses

abbrev pub set_open_starts : List Milestone → WalkState → WalkState
set_open_starts value st = walk_state st.has_id st.has_chapter st.has_verse st.front_matter st.verse_outside_warned st.expected_chapter st.expected_verse st.seen value st.verses

abbrev pub set_verses : ℕ → WalkState → WalkState
set_verses value st = walk_state st.has_id st.has_chapter st.has_verse st.front_matter st.verse_outside_warned st.expected_chapter st.expected_verse st.seen st.open_starts value
