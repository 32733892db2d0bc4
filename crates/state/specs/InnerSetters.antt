-- The code's record with one field changed: in each line the new value stands at its field's place, and the other fields are the old ones.
use Rattle.std.specs.Prelude.{ℕ, Bool}
use Rattle.numbers.specs.declared.VersePart.{VersePart}
use Rattle.state.specs.declared.State.{State}

-- the record by its fields, in their order
abbrev pub state_by : Bool → Bool → Bool → Bool → Bool → ℕ → VersePart → ℕ → ℕ → ℕ → ℕ → ℕ → ℕ → ℕ → State
state_by has_id has_chapter has_verse front_matter verse_outside_warned expected_chapter expected_verse seen_len open_len verses anchor errors warnings infos =
    record {
      has_id = has_id;
      has_chapter = has_chapter;
      has_verse = has_verse;
      front_matter = front_matter;
      verse_outside_warned = verse_outside_warned;
      expected_chapter = expected_chapter;
      expected_verse = expected_verse;
      seen_len = seen_len;
      open_len = open_len;
      verses = verses;
      anchor = anchor;
      errors = errors;
      warnings = warnings;
      infos = infos;
    }

abbrev pub put_has_id : Bool → State → State
put_has_id value r = state_by value r.has_chapter r.has_verse r.front_matter r.verse_outside_warned r.expected_chapter r.expected_verse r.seen_len r.open_len r.verses r.anchor r.errors r.warnings r.infos

abbrev pub put_has_chapter : Bool → State → State
put_has_chapter value r = state_by r.has_id value r.has_verse r.front_matter r.verse_outside_warned r.expected_chapter r.expected_verse r.seen_len r.open_len r.verses r.anchor r.errors r.warnings r.infos

abbrev pub put_has_verse : Bool → State → State
put_has_verse value r = state_by r.has_id r.has_chapter value r.front_matter r.verse_outside_warned r.expected_chapter r.expected_verse r.seen_len r.open_len r.verses r.anchor r.errors r.warnings r.infos

abbrev pub put_front_matter : Bool → State → State
put_front_matter value r = state_by r.has_id r.has_chapter r.has_verse value r.verse_outside_warned r.expected_chapter r.expected_verse r.seen_len r.open_len r.verses r.anchor r.errors r.warnings r.infos

abbrev pub put_verse_outside_warned : Bool → State → State
put_verse_outside_warned value r = state_by r.has_id r.has_chapter r.has_verse r.front_matter value r.expected_chapter r.expected_verse r.seen_len r.open_len r.verses r.anchor r.errors r.warnings r.infos

abbrev pub put_expected_chapter : ℕ → State → State
put_expected_chapter value r = state_by r.has_id r.has_chapter r.has_verse r.front_matter r.verse_outside_warned value r.expected_verse r.seen_len r.open_len r.verses r.anchor r.errors r.warnings r.infos

abbrev pub put_expected_verse : VersePart → State → State
put_expected_verse value r = state_by r.has_id r.has_chapter r.has_verse r.front_matter r.verse_outside_warned r.expected_chapter value r.seen_len r.open_len r.verses r.anchor r.errors r.warnings r.infos

abbrev pub put_seen_len : ℕ → State → State
put_seen_len value r = state_by r.has_id r.has_chapter r.has_verse r.front_matter r.verse_outside_warned r.expected_chapter r.expected_verse value r.open_len r.verses r.anchor r.errors r.warnings r.infos

abbrev pub put_open_len : ℕ → State → State
put_open_len value r = state_by r.has_id r.has_chapter r.has_verse r.front_matter r.verse_outside_warned r.expected_chapter r.expected_verse r.seen_len value r.verses r.anchor r.errors r.warnings r.infos

abbrev pub put_verses : ℕ → State → State
put_verses value r = state_by r.has_id r.has_chapter r.has_verse r.front_matter r.verse_outside_warned r.expected_chapter r.expected_verse r.seen_len r.open_len value r.anchor r.errors r.warnings r.infos

abbrev pub put_anchor : ℕ → State → State
put_anchor value r = state_by r.has_id r.has_chapter r.has_verse r.front_matter r.verse_outside_warned r.expected_chapter r.expected_verse r.seen_len r.open_len r.verses value r.errors r.warnings r.infos

abbrev pub put_errors : ℕ → State → State
put_errors value r = state_by r.has_id r.has_chapter r.has_verse r.front_matter r.verse_outside_warned r.expected_chapter r.expected_verse r.seen_len r.open_len r.verses r.anchor value r.warnings r.infos

abbrev pub put_warnings : ℕ → State → State
put_warnings value r = state_by r.has_id r.has_chapter r.has_verse r.front_matter r.verse_outside_warned r.expected_chapter r.expected_verse r.seen_len r.open_len r.verses r.anchor r.errors value r.infos

abbrev pub put_infos : ℕ → State → State
put_infos value r = state_by r.has_id r.has_chapter r.has_verse r.front_matter r.verse_outside_warned r.expected_chapter r.expected_verse r.seen_len r.open_len r.verses r.anchor r.errors r.warnings value
