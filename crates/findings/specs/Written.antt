-- Document 01, "A finding": "Written is the smaller of total and the list's length divided by 8, rounded down; words beyond are untouched".
use Rattle.std.specs.Prelude.{ℕ, ◌+◌, ◌*◌, ◌/◌, Bool, true, false, List, [], ◌∷◌, ◌++◌, ltb, length}
use Rattle.std.proofs.lemmas.List.Edits.{sets}
use Rattle.findings.specs.Finding.{Finding, words_of}
use Rattle.findings.specs.declared.Counts.{Counts}
use Rattle.text.specs.Pick.{pick}

abbrev pub total : Counts → ℕ
total c = c.errors + c.warnings + c.infos

-- how many whole records of eight words a list has
abbrev pub whole_records : List ℕ → ℕ
whole_records l = length l / 8

-- how many findings have room in a list
abbrev pub room : List ℕ → ℕ
room l = whole_records l

-- the finding as number k, from 0, if it has room
unfoldable pub put : List ℕ → ℕ → Finding → List ℕ
put l k f = pick (ltb k (room l)) (sets l (8 * k) (words_of f)) l

-- the findings from number k on, those that have room
unfoldable pub overlay : List ℕ → ℕ → List Finding → List ℕ
overlay l k [] = l
overlay l k (f ∷ fs) = overlay (put l k f) (k + 1) fs

-- the words of all of them, in order
unfoldable pub encode : List Finding → List ℕ
encode [] = []
encode (f ∷ fs) = words_of f ++ encode fs

-- the findings that words are, eight for each; a rest of fewer is none
unfoldable pub findings_in : List ℕ → List Finding
findings_in [] = []
findings_in (a ∷ []) = []
findings_in (a ∷ b ∷ []) = []
findings_in (a ∷ b ∷ c ∷ []) = []
findings_in (a ∷ b ∷ c ∷ d ∷ []) = []
findings_in (a ∷ b ∷ c ∷ d ∷ e ∷ []) = []
findings_in (a ∷ b ∷ c ∷ d ∷ e ∷ f ∷ []) = []
findings_in (a ∷ b ∷ c ∷ d ∷ e ∷ f ∷ g ∷ []) = []
findings_in (a ∷ b ∷ c ∷ d ∷ e ∷ f ∷ g ∷ h ∷ words) = record { severity = a; code = b; start = c; len = d; node = e; form = f; first = g; second = h } ∷ findings_in words

-- one finding, or none
abbrev pub only : Bool → Finding → List Finding
only true f = f ∷ []
only false f = []
