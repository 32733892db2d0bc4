-- What the functions inside the crate promise.
use Rattle.std.specs.Prelude.{ℕ, zero, suc, ◌+◌, ◌*◌, ◌/◌, ◌%◌, ◌<◌, ◌≤◌, ◌-◌, ◌≡◌, Bool, true, false, ◌&&◌, List, [], ◌∷◌, eqb, ltb, length, take, drop, get_or}
use Rattle.std.specs.Prelude.{Option, Some, None, Result, Ok, Err}
use Rattle.refusals.specs.Refusal.{at_place, bad_table_layout}
use Rattle.refusals.specs.declared.Refusal as code
use Rattle.refusals.specs.Reasons.{refusal_of}
use Rattle.text.specs.Pick.{Part, within, pick, cut}
use Rattle.text.specs.Inner.{eight_bytes}
use Rattle.text.specs.Characters.{find_byte}
use Rattle.table.specs.Lines.{lines, name_key, category_key, role_key, categories, roles, name_byte, bad_from}
use Rattle.table.specs.Entries.{Entry, entries_of, entries, nth}
use Rattle.table.specs.declared.DefaultAttribute.{DefaultAttribute}
use Rattle.table.specs.declared.DefaultAttribute.TheVariants.{Lemma, Gloss, Href, Loc, LinkHref, Id, Who}
use Rattle.table.specs.declared.Category.{Category}
use Rattle.table.specs.declared.Category.TheVariants.{Identification, Chapter, Verse, Paragraph, Character, Note, Milestone, Other}
use Rattle.table.specs.declared.TextRole.{TextRole}
use Rattle.table.specs.declared.TextRole.TheVariants.{Content, Excluded, Boundary}
use Rattle.table.specs.Names.{stripped_length, glued_digit, entry_named}
use Rattle.table.specs.Books.{code_from}
use Rattle.text.specs.Bytes.{all, starting, beyond}

-- the words of a list in which byte 10 ends each
abbrev pub on_word : Bool → ℕ → List (List ℕ) → List (List ℕ)
on_word true b ws = [] ∷ ws
on_word false b [] = (b ∷ []) ∷ []
on_word false b (w ∷ ws) = (b ∷ w) ∷ ws

unfoldable pub lines_of : List ℕ → List (List ℕ)
lines_of [] = []
lines_of (b ∷ s) = on_word (eqb b 10) b (lines_of s)

-- the codes of a list in which each has three bytes
unfoldable pub triples : List ℕ → List (List ℕ)
triples [] = []
triples (a ∷ []) = []
triples (a ∷ b ∷ []) = []
triples (a ∷ b ∷ c ∷ l) = (a ∷ b ∷ c ∷ []) ∷ triples l

-- what a good line says behind its key: the name's length, or the position of the word among the words
abbrev pub name_length : List ℕ → Option ℕ
name_length s = pick (within 1 16 (length s) && all name_byte s) (Some (length s)) None

-- what a line says that begins with a key
abbrev pub keyed : List ℕ → (List ℕ → Option ℕ) → List ℕ → Option ℕ
keyed key value s = pick (starting key s) (value (beyond key s)) None

abbrev pub line_value : ℕ → List ℕ → Option ℕ
line_value zero s = keyed name_key name_length s
line_value (suc zero) s = keyed category_key (code_from 0 categories) s
line_value (suc (suc j)) s = keyed role_key (code_from 0 roles) s

-- what a good line says: its value, and the place past it
abbrev pub Step : Type 0
Step = Option (ℕ × ℕ)

-- the line at the head of a text: its value and the place past it, if byte 10 ends it and it is good
abbrev pub step_by : Bool → Option ℕ → ℕ → Step
step_by true (Some v) next = Some (v, next)
step_by true None next = None
step_by false o next = None

abbrev pub step_with : (List ℕ → Option ℕ) → ℕ → List ℕ → Step
step_with value at l = step_by (ltb (find_byte (eqb 10) l) (length l)) (value (take (find_byte (eqb 10) l) l)) (at + find_byte (eqb 10) l + 1)

unfoldable pub step_of : ℕ → ℕ → List ℕ → Step
step_of j at l = step_with (line_value j) at l

-- the step of a line at a place, its end counted from the start of the table
abbrev pub further : ℕ → Step → Step
further at (Some (v, n)) = Some (v, at + n)
further at None = None

-- the end that a step counts
abbrev pub past_of : Step → ℕ
past_of (Some (v, n)) = n
past_of None = 0

-- the first eight bytes as a number, or 0 where there are fewer
abbrev pub head_of : List ℕ → ℕ
head_of s = pick (ltb (length s) 8) 0 (eight_bytes s 0)

-- what follows a key that a text begins with, or nothing
abbrev pub behind_by : Bool → List ℕ → List ℕ
behind_by true l = l
behind_by false l = []

abbrev pub behind_key : List ℕ → List ℕ → List ℕ
behind_key key l = behind_by (starting key l) (beyond key l)

-- one word holds an entry
abbrev pub pack : Entry → ℕ
pack e = e.name.start + 65536 * (e.name.len + 32 * (e.category + 8 * e.role))

-- the bounds of an entry of a table that has no bad line
pub record Sound (t : List ℕ) (e : Entry) : Type 0 where
  pub inside : e.name.start + e.name.len ≤ length t
  pub start_low : e.name.start < 65536
  pub named : 1 ≤ e.name.len
  pub short : e.name.len ≤ 16
  pub category_low : e.category < 8
  pub role_low : e.role < 3

-- the three lines of marker number m at a place are good, and the check goes on behind them
pub record LinesGood (t : List ℕ) (at : ℕ) (w next : ℕ) : Type 0 where
  pub entry : Entry
  pub word : w ≡ pack entry
  pub sound : Sound t entry
  pub inside : next ≤ length t
  pub on : at < next
  pub near : next ≤ at + 64
  pub good : (m : ℕ) → m < 512 → bad_from (length t) (3 * m) (lines at (drop at t)) ≡ bad_from (length t) (3 * (m + 1)) (lines next (drop next t))
  pub first : entries_of (lines at (drop at t)) ≡ entry ∷ entries_of (lines next (drop next t))

abbrev pub LinesRead : List ℕ → ℕ → Result (ℕ × ℕ) code.Refusal → Type 0
LinesRead t at (Ok p) = LinesGood t at p.0 p.1
LinesRead t at (Err r) = (m : ℕ) → m < 512 → at_place bad_table_layout (bad_from (length t) (3 * m) (lines at (drop at t))) ≡ Some (refusal_of r)

-- the attribute of w, wa, wg, wh, rb, xt, ref, jmp, periph, by the name's position
abbrev pub attribute_at : ℕ → DefaultAttribute
attribute_at zero = Lemma
attribute_at (suc zero) = Lemma
attribute_at (suc (suc zero)) = Lemma
attribute_at (suc (suc (suc zero))) = Lemma
attribute_at (suc (suc (suc (suc zero)))) = Gloss
attribute_at (suc (suc (suc (suc (suc zero))))) = Href
attribute_at (suc (suc (suc (suc (suc (suc zero)))))) = Loc
attribute_at (suc (suc (suc (suc (suc (suc (suc zero))))))) = LinkHref
attribute_at (suc (suc (suc (suc (suc (suc (suc (suc k)))))))) = Id

abbrev pub attribute_by : Option ℕ → Bool → Option DefaultAttribute
attribute_by (Some p) q = Some (attribute_at p)
attribute_by None q = pick q (Some Who) None

-- the category and the role at a position of their lists
abbrev pub category_at : ℕ → Category
category_at zero = Identification
category_at (suc zero) = Chapter
category_at (suc (suc zero)) = Verse
category_at (suc (suc (suc zero))) = Paragraph
category_at (suc (suc (suc (suc zero)))) = Character
category_at (suc (suc (suc (suc (suc zero))))) = Note
category_at (suc (suc (suc (suc (suc (suc zero)))))) = Milestone
category_at (suc (suc (suc (suc (suc (suc (suc k))))))) = Other

abbrev pub role_at : ℕ → TextRole
role_at zero = Content
role_at (suc zero) = Excluded
role_at (suc (suc k)) = Boundary

-- the second and the third way to look a name up
abbrev pub stripped : List ℕ → List ℕ → Option ℕ
stripped t s = pick (ltb (stripped_length s) (length s)) (entry_named t (take (stripped_length s) s)) None

abbrev pub unglued : List ℕ → List ℕ → Option ℕ
unglued t s = pick (glued_digit s) (entry_named t (take 1 s)) None

-- the first n words of the index are the table's entries, in order, and there are no others
pub record Indexed (t ix : List ℕ) (n : ℕ) : Type 0 where
  pub count : n ≡ length (entries t)
  pub few : n ≤ 512
  pub room : n ≤ length ix
  pub each : (k : ℕ) (e : Entry) → nth (entries t) k ≡ Some e → get_or ix k 0 ≡ pack e
  pub sound : (k : ℕ) (e : Entry) → nth (entries t) k ≡ Some e → Sound t e

-- what it leaves in the index where there is none
abbrev pub leaves : List ℕ → List ℕ → Result ℕ code.Refusal → Type 0
leaves t ix (Ok n) = Indexed t ix n
leaves t ix (Err r) = Unit {0}

-- where the name stands that an entry's word holds
abbrev pub name_in : ℕ → Part
name_in w = record { start = w % 65536; len = w / 65536 % 32 }

-- the bucket of a name, a number below 256: equal names have the same, and with these factors few other names do
unfoldable pub bucket_of : List ℕ → ℕ
bucket_of s = (5 * get_or s 0 0 + get_or s (length s / 2) 0 + 8 * get_or s (length s - 1) 0) % 256

-- the number of the first entry whose name has the bucket, counted from k
unfoldable pub bucket_from : List ℕ → ℕ → List Entry → ℕ → Option ℕ
bucket_from t k [] h = None
bucket_from t k (e ∷ es) h = pick (eqb (bucket_of (cut e.name t)) h) (Some k) (bucket_from t (suc k) es h)

-- the first entry, from number j on, whose name has bucket h
abbrev pub first_from : List ℕ → ℕ → ℕ → Option ℕ
first_from t h j = bucket_from t j (drop j (entries t)) h

-- an entry or none as one number
abbrev pub link_of : Option ℕ → ℕ
link_of None = 0
link_of (Some k) = k + 1

-- the first n numbers are 0
abbrev pub Cleared : ℕ → List ℕ → Type 0
Cleared n l = (h : ℕ) → h < n → get_or l h 0 ≡ 0

-- the first entry of each bucket, then for each entry the next one of its bucket
pub record Chained (t chains : List ℕ) : Type 0 where
  pub room : 768 ≤ length chains
  pub heads : (h : ℕ) → h < 256 → get_or chains h 0 ≡ link_of (first_from t h 0)
  pub nexts : (k : ℕ) (e : Entry) → nth (entries t) k ≡ Some e → get_or chains (256 + k) 0 ≡ link_of (first_from t (bucket_of (cut e.name t)) (k + 1))
