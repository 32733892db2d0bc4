-- Document 01, "Listing": the lines of a listing. "Line and column count from 1; a line ends after byte 10". A finding's column is that of document 02 (Columns.antt).
use Rattle.std.specs.Prelude.{ℕ, zero, suc, ◌+◌, List, [], ◌∷◌, ◌++◌, eqb}
use Prim.Native.String.{String}
use Rattle.text.specs.Literal.{ascii}
use Rattle.buffer.specs.Decimal.{decimal}
use Rattle.text.specs.Pick.{pick}

-- a key, `=`, a value, byte 10
abbrev pub line : String → List ℕ → List ℕ
line key value = ascii key ++ (0x3D ∷ value ++ (10 ∷ []))

abbrev pub too_large_lines : List ℕ
too_large_lines = line "verdict" (ascii "toolarge")

-- "Refused: `verdict=refused`, `refusal=`, `place=`."
unfoldable pub refused_lines : ℕ → ℕ → List ℕ
refused_lines number place = line "verdict" (ascii "refused") ++ (line "refusal" (decimal number) ++ line "place" (decimal place))

-- "`findings=` is the total"
unfoldable pub checked_lines : ℕ → ℕ → ℕ → ℕ → List ℕ
checked_lines errors warnings infos total =
    line "verdict" (ascii "checked")
    ++ (line "errors" (decimal errors) ++ (line "warnings" (decimal warnings) ++ (line "infos" (decimal infos) ++ line "findings" (decimal total))))

-- the Rust's names, in its order, and behind them the name of document 02, K6
unfoldable pub severity_names : List (List ℕ)
severity_names = ascii "error" ∷ ascii "warning" ∷ ascii "info" ∷ []

unfoldable pub code_names : List (List ℕ)
code_names =
    ascii "UnknownMarker"
    ∷ ascii "UnclosedMarker"
    ∷ ascii "StrayCloseMarker"
    ∷ ascii "StrayBackslash"
    ∷ ascii "MissingIdMarker"
    ∷ ascii "InvalidBookCode"
    ∷ ascii "DuplicateId"
    ∷ ascii "TextBeforeId"
    ∷ ascii "MissingChapterMarker"
    ∷ ascii "InvalidChapterSequence"
    ∷ ascii "DuplicateChapter"
    ∷ ascii "InvalidVerseSequence"
    ∷ ascii "VerseOutsideParagraph"
    ∷ ascii "NoteSubmarkerOutsideNote"
    ∷ ascii "NonEmptyBlankLine"
    ∷ ascii "LeadingZeros"
    ∷ ascii "MilestoneMismatch"
    ∷ ascii "InvalidAttributes"
    ∷ ascii "MissingChapterNumber"
    ∷ ascii "MissingVerseNumber"
    ∷ ascii "CharCrossesVerseBoundary"
    ∷ ascii "EmptyFigure"
    ∷ ascii "UnquotedAttributeValue"
    ∷ ascii "MissingRequiredAttribute"
    ∷ ascii "BodyParagraphBeforeChapter"
    ∷ ascii "EmptyWordMarker"
    ∷ ascii "MissingMilestoneSelfClose"
    ∷ ascii "InvalidTableColumnSequence"
    ∷ ascii "DeprecatedMarker"
    ∷ ascii "ImplicitClose"
    ∷ ascii "UnclosedNote"
    ∷ ascii "UnclosedAtEof"
    ∷ ascii "DefaultAttributeNotDefined"
    ∷ ascii "MisplacedNumberMarker"
    ∷ ascii "MissingSpaceBeforeNumber"
    ∷ ascii "UnreadableVerseNumber"
    ∷ []

-- the k-th name, empty past the last
unfoldable pub name_at : List (List ℕ) → ℕ → List ℕ
name_at [] k = []
name_at (n ∷ ns) zero = n
name_at (n ∷ ns) (suc k) = name_at ns k

-- "The last five lines repeat per finding."
unfoldable pub finding_lines : ℕ → ℕ → ℕ → ℕ → List ℕ → List ℕ
finding_lines severity code at column message =
    line "severity" (name_at severity_names severity)
    ++ (line "code" (name_at code_names code) ++ (line "line" (decimal at) ++ (line "column" (decimal column) ++ line "message" message)))

-- the line of a byte's place, and its column as document 01 has it: "column counts bytes"
pub record Place : Type 0 where
  pub line : ℕ
  pub column : ℕ

-- "a line ends after byte 10"
abbrev pub after_byte : ℕ → Place → Place
after_byte b p = pick (eqb b 10) (record { line = p.line + 1; column = 1 }) (record { line = p.line; column = p.column + 1 })

-- the place behind the first n bytes of what stands at a place
unfoldable pub place_from : Place → List ℕ → ℕ → Place
place_from p s zero = p
place_from p [] (suc n) = p
place_from p (b ∷ s) (suc n) = place_from (after_byte b p) s n

abbrev pub line_and_column : List ℕ → ℕ → Place
line_and_column s n = place_from (record { line = 1; column = 1 }) s n

-- a place, and the length of a message, from which no sum leaves 64 bits
abbrev pub farthest : ℕ
farthest = 1152921504606846976
