-- `lookup`, `strip_level_suffix`, `default_attribute`, and the names that some checks test for.
-- Document 01, module 3: "`lookup`: exact name; else without `strip_level_suffix`; else `v` or `c` before a digit. First equal name counts."
use Rattle.std.specs.Prelude.{ℕ, zero, suc, ◌-◌, Bool, ◌&&◌, ◌||◌, List, [], ◌∷◌, eqb, ltb, length, get_or, take}
use Rattle.std.specs.Prelude.{Option, Some, None}
use Rattle.text.specs.Pick.{cut, pick}
use Rattle.text.specs.Number.{digit}
use Rattle.table.specs.Entries.{Entry, entries}
use Rattle.table.specs.declared.MarkerId.{MarkerId}
use Rattle.table.specs.declared.DefaultAttribute.{DefaultAttribute}
use Rattle.table.specs.declared.DefaultAttribute.TheVariants.{Lemma, Gloss, Href, Loc, LinkHref, Id, Who}
use Rattle.text.specs.Literal.{ascii}
use Rattle.text.specs.Bytes.{equal, one_of, starting}

-- the number of the first entry that has the name, counted from k
unfoldable pub named_from : List ℕ → ℕ → List Entry → List ℕ → Option ℕ
named_from t k [] s = None
named_from t k (e ∷ es) s = pick (equal (cut e.name t) s) (Some k) (named_from t (suc k) es s)

abbrev pub entry_named : List ℕ → List ℕ → Option ℕ
entry_named t s = named_from t 0 (entries t) s

-- of a byte, and how many bytes are left of what follows it when the digits at its end are taken off
abbrev pub keep_before : Bool → ℕ → ℕ
keep_before is_digit zero = pick is_digit 0 1
keep_before is_digit (suc k) = suc (suc k)

-- how many bytes are left of the list when the digits at its end are taken off
unfoldable pub undigited : List ℕ → ℕ
undigited [] = 0
undigited (b ∷ s) = keep_before (digit b) (undigited s)

-- the length without a tail of a hyphen and digits: "Optional `-<digits>` (column-span tail)"
abbrev pub tail_off : List ℕ → ℕ
tail_off s =
    pick (ltb (undigited s) (length s) && (ltb 0 (undigited s) && eqb (get_or s (undigited s - 1) 0) 45)) (undigited s - 1) (length s)

-- the Rust's `strip_level_suffix`: the length of what is left. "Only treat it as a suffix if a non-empty base remains."
abbrev pub stripped_by : ℕ → ℕ → ℕ → ℕ
stripped_by base end whole = pick (ltb 0 base && ltb base end) base whole

unfoldable pub stripped_length : List ℕ → ℕ
stripped_length s = stripped_by (undigited (take (tail_off s) s)) (tail_off s) (length s)

abbrev pub first_known : Option ℕ → Option ℕ → Option ℕ
first_known (Some n) other = Some n
first_known None other = other

-- `v` or `c`, and a digit after it
abbrev pub glued_digit : List ℕ → Bool
glued_digit s = ltb 1 (length s) && ((eqb (get_or s 0 0) 118 || eqb (get_or s 0 0) 99) && digit (get_or s 1 0))

unfoldable pub looked_up : List ℕ → List ℕ → Option ℕ
looked_up t s =
    first_known (entry_named t s)
    (first_known (pick (ltb (stripped_length s) (length s)) (entry_named t (take (stripped_length s) s)) None)
    (pick (glued_digit s) (entry_named t (take 1 s)) None))

abbrev pub found_of : Option MarkerId → Option ℕ
found_of (Some m) = Some m.0
found_of None = None

-- w, wa, wg, wh
unfoldable pub lemma_names : List (List ℕ)
lemma_names =
    ascii "w"
    ∷ ascii "wa"
    ∷ ascii "wg"
    ∷ ascii "wh"
    ∷ []

abbrev pub rb : List ℕ
rb = ascii "rb"

abbrev pub xt : List ℕ
xt = ascii "xt"

abbrev pub ref : List ℕ
ref = ascii "ref"

abbrev pub jmp : List ℕ
jmp = ascii "jmp"

abbrev pub periph : List ℕ
periph = ascii "periph"

abbrev pub qt : List ℕ
qt = ascii "qt"

-- the Rust's `default_attribute`: the name of the attribute that a marker's bare value sets, if there is one
unfoldable pub default_name : List ℕ → Option (List ℕ)
default_name s =
    pick (one_of lemma_names s) (Some (ascii "lemma"))
    (pick (equal rb s) (Some (ascii "gloss"))
    (pick (equal xt s) (Some (ascii "href"))
    (pick (equal ref s) (Some (ascii "loc"))
    (pick (equal jmp s) (Some (ascii "link-href"))
    (pick (equal periph s) (Some (ascii "id"))
    (pick (starting qt s) (Some (ascii "who")) None))))))

-- what the answer says
abbrev pub attribute_name : Option DefaultAttribute → Option (List ℕ)
attribute_name (Some Lemma) = Some (ascii "lemma")
attribute_name (Some Gloss) = Some (ascii "gloss")
attribute_name (Some Href) = Some (ascii "href")
attribute_name (Some Loc) = Some (ascii "loc")
attribute_name (Some LinkHref) = Some (ascii "link-href")
attribute_name (Some Id) = Some (ascii "id")
attribute_name (Some Who) = Some (ascii "who")
attribute_name None = None

-- FRT, INT, BAK, OTH, CNC, GLO, TDX, NDX: the Rust's `is_front_matter_code`
unfoldable pub front_matter : List (List ℕ)
front_matter =
    ascii "FRT"
    ∷ ascii "INT"
    ∷ ascii "BAK"
    ∷ ascii "OTH"
    ∷ ascii "CNC"
    ∷ ascii "GLO"
    ∷ ascii "TDX"
    ∷ ascii "NDX"
    ∷ []

-- fr, ft, fk, fq, fqa, fl, fw, fp, fv, fdc, xop, xot, xnt, xdc: the Rust's `is_note_only_marker`
unfoldable pub note_only : List (List ℕ)
note_only =
    ascii "fr"
    ∷ ascii "ft"
    ∷ ascii "fk"
    ∷ ascii "fq"
    ∷ ascii "fqa"
    ∷ ascii "fl"
    ∷ ascii "fw"
    ∷ ascii "fp"
    ∷ ascii "fv"
    ∷ ascii "fdc"
    ∷ ascii "xop"
    ∷ ascii "xot"
    ∷ ascii "xnt"
    ∷ ascii "xdc"
    ∷ []
