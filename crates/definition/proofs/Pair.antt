-- Two documents that begin alike, so that demand 3's premises are met: a start that the longer's end takes.
-- Assumes nothing.
use Prim.Native.Nat.{ℕ, zero, suc, ◌*◌, ◌<◌, ◌≤◌}
use native.Mathlib.Omega.{arith}
use mathlib.Core.Path.{◌≡◌, refl}
use mathlib.Core.Bool.{Bool, true, false, not, false≢true, ◌&&◌, ◌||◌}
use Rattle.std.specs.Prelude.{None}
use lib.Dec.{eqb, ltb}
use borrow.Author.Tests.{eqb-true, eqb-false, eq-eqb, le-ltb}
use Rattle.text.specs.Literal.{ascii}
use Rattle.text.specs.Pick.{in_any}
use Rattle.text.specs.Blank.{blank_ranges, blank}
use Rattle.text.specs.Utf8 as utf8
use Rattle.text.specs.Bytes.{equal, all, one_of}
use Rattle.text.specs.Characters.{chars_past, bytes_before, find_byte}
use Rattle.text.specs.Words.{trim_start, kept, trim, blank_text, word_from}
use Rattle.text.proofs.Bool.{and_left, and_right}
use Rattle.tape.specs.Nodes.{half, word, byte, count, kind_at, start_at, link_at, is_open}
use Rattle.tape.specs.Reading as reading
use Rattle.tape.specs.Alike.{BeginAlike}
use Rattle.refusals.specs.Refusal.{first_bad}
use Rattle.table.specs.Lines as lines
use Rattle.table.specs.Entries as entries
use Rattle.cursor.specs.Names.{name_part}
use Rattle.cursor.specs.Info.{info_at}
use Rattle.numbers.specs.Label as label
use Rattle.definition.specs.Outcome.{Lent, refusal, repeated}
use Rattle.definition.specs.Examples as worked

-- a test of every number below n
unfoldable pub below : (ℕ → Bool) → ℕ → Bool
below p zero = true
below p (suc n) = p n && below p n

below_each : (p : ℕ → Bool) (n i : ℕ) → below p n ≡ true → i < n → p i ≡ true
unfolding below
below_each p zero i h l = absurd (omega arith)
below_each p (suc n) i h l = test (eqb i n) refl (λ k. below_each p n i (and_right (p n) (below p n) h) k)
  where
    test : (b : Bool) → eqb i n ≡ b → (i < n → p i ≡ true) → p i ≡ true
    test true e later = rw (eqb-true i n e) (and_left (p n) (below p n) h)
    test false e later = let k : i ≡ n → ⊥ = eqb-false i n e in later (omega arith)

abbrev pub shorter : Lent
shorter = worked.lent_of worked.shorter_document

abbrev pub longer : Lent
longer = worked.lent_of worked.longer_document

pub shorter-accepted : refusal shorter ≡ None
unfolding ascii worked.shorter_document worked.example_table worked.tape_of utf8.table3_7 utf8.begins utf8.width_by utf8.width_of utf8.decoded utf8.decode in_any blank_ranges blank chars_past bytes_before find_byte trim_start kept trim blank_text word_from half word equal all one_of lines.lines lines.categories lines.roles entries.position entries.entries_of entries.entries entries.nth name_part refusal repeated utf8.scan utf8.after_width utf8.first_ill_formed lines.bad_from lines.bad_table reading.step reading.read reading.tape_refusal first_bad label.splits label.label_refusal info_at
shorter-accepted = refl

pub longer-accepted : refusal longer ≡ None
unfolding ascii worked.longer_document worked.example_table worked.tape_of utf8.table3_7 utf8.begins utf8.width_by utf8.width_of utf8.decoded utf8.decode in_any blank_ranges blank chars_past bytes_before find_byte trim_start kept trim blank_text word_from half word equal all one_of lines.lines lines.categories lines.roles entries.position entries.entries_of entries.entries entries.nth name_part refusal repeated utf8.scan utf8.after_width utf8.first_ill_formed lines.bad_from lines.bad_table reading.step reading.read reading.tape_refusal first_bad label.splits label.label_refusal info_at
longer-accepted = refl

-- the bytes of the nodes are the same, and no MarkerOpen that the longer adds starts where one of the shorter's does
abbrev same_byte : ℕ → Bool
same_byte k = ltb k 16 || eqb (byte shorter.tape k) (byte longer.tape k)

abbrev apart_from : ℕ → ℕ → Bool
apart_from i j = ltb j (link_at shorter.tape 0) || not (is_open (kind_at shorter.tape i) && (is_open (kind_at longer.tape j) && eqb (start_at shorter.tape i) (start_at longer.tape j)))

same_bytes : below same_byte (16 * link_at shorter.tape 0) ≡ true
unfolding below worked.shorter_document worked.longer_document worked.tape_of half word
same_bytes = refl

all_apart : below (λ i. below (apart_from i) (count longer.tape)) (link_at shorter.tape 0) ≡ true
unfolding below worked.shorter_document worked.longer_document worked.tape_of half word
all_apart = refl

pub begin-alike : BeginAlike shorter.source shorter.tape longer.source longer.tape
unfolding ascii worked.shorter_document worked.longer_document worked.tape_of half word
begin-alike =
    record {
      alike =
          record {
            added = ascii "\\qt-e\\*";
            source = refl;
            longer = omega arith;
            nodes = λ k low high. byte_of k low (below_each same_byte (16 * link_at shorter.tape 0) k same_bytes high);
          };
      apart = λ i j one more from below-count a b e. apart_of i j from a b e (below_each (apart_from i) (count longer.tape) j (below_each (λ i. below (apart_from i) (count longer.tape)) (link_at shorter.tape 0) i all_apart more) below-count);
    }
  where
    byte_of : (k : ℕ) → 16 ≤ k → same_byte k ≡ true → byte shorter.tape k ≡ byte longer.tape k
    byte_of k low h = eqb-true (byte shorter.tape k) (byte longer.tape k) (rw (le-ltb k 16 low) at h)

    apart_of : (i j : ℕ) → link_at shorter.tape 0 ≤ j → is_open (kind_at shorter.tape i) ≡ true → is_open (kind_at longer.tape j) ≡ true → start_at shorter.tape i ≡ start_at longer.tape j → apart_from i j ≡ true → ⊥
    apart_of i j from a b e h = false≢true (rw (le-ltb j (link_at shorter.tape 0) from, a, b, eq-eqb (start_at shorter.tape i) (start_at longer.tape j) e) at h)
