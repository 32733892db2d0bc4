-- USFM's book identifiers, in the order of the Rust's `BOOK_CODES`, and `BookId::from_code`: a code's position, case-sensitive.
use Rattle.std.specs.Prelude.{ℕ, suc, List, [], ◌∷◌}
use Rattle.std.specs.Prelude.{Option, Some, None}
use Rattle.table.specs.declared.BookId.{BookId}
use Rattle.text.specs.Pick.{pick}
use Rattle.text.specs.Literal.{ascii}
use Rattle.text.specs.Bytes.{equal}

-- GEN EXO LEV NUM DEU JOS JDG RUT 1SA 2SA 1KI 2KI 1CH
-- 2CH EZR NEH EST JOB PSA PRO ECC SNG ISA JER LAM EZK
-- DAN HOS JOL AMO OBA JON MIC NAM HAB ZEP HAG ZEC MAL
-- MAT MRK LUK JHN ACT ROM 1CO 2CO GAL EPH PHP COL 1TH
-- 2TH 1TI 2TI TIT PHM HEB JAS 1PE 2PE 1JN 2JN 3JN JUD
-- REV TOB JDT ESG WIS SIR BAR LJE S3Y SUS BEL 1MA 2MA
-- 3MA 4MA 1ES 2ES MAN PS2 ODA PSS EZA 5EZ 6EZ DAG PS3
-- 2BA LBA JUB ENO 1MQ 2MQ 3MQ REP 4BA LAO FRT BAK OTH
-- INT CNC GLO TDX NDX XXA XXB XXC XXD XXE XXF XXG
unfoldable pub book_codes : List (List ℕ)
book_codes =
    ascii "GEN"
    ∷ ascii "EXO"
    ∷ ascii "LEV"
    ∷ ascii "NUM"
    ∷ ascii "DEU"
    ∷ ascii "JOS"
    ∷ ascii "JDG"
    ∷ ascii "RUT"
    ∷ ascii "1SA"
    ∷ ascii "2SA"
    ∷ ascii "1KI"
    ∷ ascii "2KI"
    ∷ ascii "1CH"
    ∷ ascii "2CH"
    ∷ ascii "EZR"
    ∷ ascii "NEH"
    ∷ ascii "EST"
    ∷ ascii "JOB"
    ∷ ascii "PSA"
    ∷ ascii "PRO"
    ∷ ascii "ECC"
    ∷ ascii "SNG"
    ∷ ascii "ISA"
    ∷ ascii "JER"
    ∷ ascii "LAM"
    ∷ ascii "EZK"
    ∷ ascii "DAN"
    ∷ ascii "HOS"
    ∷ ascii "JOL"
    ∷ ascii "AMO"
    ∷ ascii "OBA"
    ∷ ascii "JON"
    ∷ ascii "MIC"
    ∷ ascii "NAM"
    ∷ ascii "HAB"
    ∷ ascii "ZEP"
    ∷ ascii "HAG"
    ∷ ascii "ZEC"
    ∷ ascii "MAL"
    ∷ ascii "MAT"
    ∷ ascii "MRK"
    ∷ ascii "LUK"
    ∷ ascii "JHN"
    ∷ ascii "ACT"
    ∷ ascii "ROM"
    ∷ ascii "1CO"
    ∷ ascii "2CO"
    ∷ ascii "GAL"
    ∷ ascii "EPH"
    ∷ ascii "PHP"
    ∷ ascii "COL"
    ∷ ascii "1TH"
    ∷ ascii "2TH"
    ∷ ascii "1TI"
    ∷ ascii "2TI"
    ∷ ascii "TIT"
    ∷ ascii "PHM"
    ∷ ascii "HEB"
    ∷ ascii "JAS"
    ∷ ascii "1PE"
    ∷ ascii "2PE"
    ∷ ascii "1JN"
    ∷ ascii "2JN"
    ∷ ascii "3JN"
    ∷ ascii "JUD"
    ∷ ascii "REV"
    ∷ ascii "TOB"
    ∷ ascii "JDT"
    ∷ ascii "ESG"
    ∷ ascii "WIS"
    ∷ ascii "SIR"
    ∷ ascii "BAR"
    ∷ ascii "LJE"
    ∷ ascii "S3Y"
    ∷ ascii "SUS"
    ∷ ascii "BEL"
    ∷ ascii "1MA"
    ∷ ascii "2MA"
    ∷ ascii "3MA"
    ∷ ascii "4MA"
    ∷ ascii "1ES"
    ∷ ascii "2ES"
    ∷ ascii "MAN"
    ∷ ascii "PS2"
    ∷ ascii "ODA"
    ∷ ascii "PSS"
    ∷ ascii "EZA"
    ∷ ascii "5EZ"
    ∷ ascii "6EZ"
    ∷ ascii "DAG"
    ∷ ascii "PS3"
    ∷ ascii "2BA"
    ∷ ascii "LBA"
    ∷ ascii "JUB"
    ∷ ascii "ENO"
    ∷ ascii "1MQ"
    ∷ ascii "2MQ"
    ∷ ascii "3MQ"
    ∷ ascii "REP"
    ∷ ascii "4BA"
    ∷ ascii "LAO"
    ∷ ascii "FRT"
    ∷ ascii "BAK"
    ∷ ascii "OTH"
    ∷ ascii "INT"
    ∷ ascii "CNC"
    ∷ ascii "GLO"
    ∷ ascii "TDX"
    ∷ ascii "NDX"
    ∷ ascii "XXA"
    ∷ ascii "XXB"
    ∷ ascii "XXC"
    ∷ ascii "XXD"
    ∷ ascii "XXE"
    ∷ ascii "XXF"
    ∷ ascii "XXG"
    ∷ []

-- the position of the first code that equals the list, counted from k
unfoldable pub code_from : ℕ → List (List ℕ) → List ℕ → Option ℕ
code_from k [] s = None
code_from k (c ∷ cs) s = pick (equal c s) (Some k) (code_from (suc k) cs s)

unfoldable pub book_of : List ℕ → Option ℕ
book_of s = code_from 0 book_codes s

abbrev pub id_of : Option BookId → Option ℕ
id_of (Some b) = Some b.0
id_of None = None
