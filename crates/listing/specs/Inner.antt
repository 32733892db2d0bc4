-- What the functions inside the crate promise.
use Rattle.std.specs.Prelude.{ℕ, ◌+◌, ◌*◌, ◌≤◌, ◌≡◌, List, [], ◌∷◌, ◌++◌, ltb, length, get_or, take}
use Rattle.text.specs.Pick.{pick}
use Rattle.buffer.specs.Over.{Put, over}
use Rattle.findings.specs.Finding.{Finding}
use Rattle.listing.specs.Lines.{line_and_column}
use Rattle.listing.specs.Columns.{column_at}
use Rattle.listing.specs.declared.Listed.{Listed}

-- the line of a key and a value, both as bytes
abbrev pub line_of : List ℕ → List ℕ → List ℕ
line_of key value = key ++ (0x3D ∷ value ++ (10 ∷ []))

-- written bytes, at most n of them
pub record Near (n : ℕ) (s l : List ℕ) (at : ℕ) (l' : List ℕ) (r : ℕ) : Type 0 where
  pub written : Put s l at l' r
  pub near : r ≤ at + n

-- the first r bytes of a list are these
pub record ShownIn (s text : List ℕ) (r : ℕ) : Type 0 where
  pub inside : r ≤ length text
  pub is : take r text ≡ s

-- the finding that a list holds as number k
abbrev pub record_at : List ℕ → ℕ → Finding
record_at l k =
    record {
      severity = get_or l (8 * k) 0;
      code = get_or l (8 * k + 1) 0;
      start = get_or l (8 * k + 2) 0;
      len = get_or l (8 * k + 3) 0;
      node = get_or l (8 * k + 4) 0;
      form = get_or l (8 * k + 5) 0;
      first = get_or l (8 * k + 6) 0;
      second = get_or l (8 * k + 7) 0;
    }

-- what the lines of a finding show beside its message
abbrev pub listed_of : List ℕ → Finding → Listed
listed_of s f = record { severity = f.severity; code = f.code; line = (line_and_column s f.start).line; column = column_at s f.start }

-- bytes written from a place on if they have whole room there, and the place behind them
pub record PutWhole (s l : List ℕ) (at : ℕ) (l' : List ℕ) (r : ℕ) : Type 0 where
  pub list : l' ≡ pick (ltb (length l) (at + length s)) l (over l at s)
  pub end : r ≡ at + length s
