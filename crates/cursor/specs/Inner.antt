-- What the functions of the crate require, and what the inner ones promise.
use Rattle.std.specs.Prelude.{ℕ, ◌+◌, ◌<◌, ◌≤◌, ◌≡◌, Bool, false, not, ◌&&◌, ◌||◌, List, eqb, length}
use Rattle.text.specs.Pick.{end}
use Rattle.text.specs.Words.{blank_text}
use Rattle.tape.specs.Nodes.{Node, count, start_at, len_at}
use Rattle.tape.specs.Forest.{Nested, Accepted}
use Rattle.cursor.specs.declared.NameSpan.{NameSpan}
use Rattle.cursor.specs.Names.{ends_name, name_part}

-- a node of the tape whose span lies in the source; of an accepted tape, every node but the root
pub record Spanned (s t : List ℕ) (i : ℕ) : Type 0 where
  pub inside : i < count t
  pub fits : start_at t i + len_at t i ≤ length s

-- the nodes of an accepted tape from a up to b are a run of siblings with all inside them; functions that go along a run require this
pub record Run (s t : List ℕ) (a b : ℕ) : Type 0 where
  pub accepted : Accepted s t
  pub depth : ℕ
  pub nested : Nested t depth a b
  pub from : 1 ≤ a
  pub inside : b ≤ count t

-- the place, inside the text or at its end
pub record Reached (s : List ℕ) (place r : ℕ) : Type 0 where
  pub is : r ≡ place
  pub inside : r ≤ length s

-- an ASCII byte that does not end a name
pub record PlainByte (b : ℕ) : Type 0 where
  pub ascii : b < 0x80
  pub goes_on : ends_name b ≡ false

-- where the name stands in the text
pub record Named (s : List ℕ) (r : NameSpan) : Type 0 where
  pub begins : r.start ≡ (name_part s).start
  pub stops : r.end ≡ end (name_part s)
  pub inside : r.end ≤ length s

-- a node of the kind; one whose text is blank counts if the flag says so
abbrev pub is_kind : ℕ → Bool → Node → Bool
is_kind kind blank x = eqb x.kind kind && (blank || not (blank_text x.text))
