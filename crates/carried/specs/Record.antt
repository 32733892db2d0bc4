-- Document 02, K7: what the code's record means in the definition, and when "the record can't be this tape's" by what it says itself.
use Rattle.std.specs.Prelude.{Bool, ◌||◌, List, ℕ}
use Rattle.numbers.specs.Verse.{position_of}
use Rattle.definition.specs.Carried.{misplaced, number_too_large, list_too_long, bad_anchor}
use Rattle.definition.specs.Carried as carried
use Rattle.carried.specs.declared.CarriedRecord.{CarriedRecord}

abbrev pub record_of : CarriedRecord → carried.CarriedRecord
record_of r =
    record {
      place = r.place;
      has_id = r.has_id;
      has_chapter = r.has_chapter;
      has_verse = r.has_verse;
      front_matter = r.front_matter;
      verse_outside_warned = r.outside_warned;
      expected_chapter = r.expected_chapter;
      expected_verse = position_of r.expected_verse;
      seen_len = r.seen_len;
      open_len = r.open_len;
      anchor = r.anchor;
    }

-- all that `is_foreign` tests but the open starts
abbrev pub bad_record : List ℕ → List ℕ → carried.CarriedRecord → Bool
bad_record s t r = misplaced s t r || (number_too_large r || (list_too_long r || bad_anchor t r))
