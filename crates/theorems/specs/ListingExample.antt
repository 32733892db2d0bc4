-- Document 01, "Listing": the example's table and its whole output. Source and nodes are those of `example1`. And two documents of document 02's: one with Greek (K3), one with verse numbers that can't be read (K6).
use Rattle.std.specs.Prelude.{List, [], ◌∷◌, ◌++◌, ℕ}
use Rattle.text.specs.Literal.{ascii}
use Rattle.tape.specs.Nodes.{root_kind, marker_open_kind, chapter_kind, verse_kind, text_kind, block_end_kind}
use Rattle.definition.specs.Examples.{Row, row}

-- "Table: id identification excluded, c chapter content, v verse content, p paragraph boundary."
unfoldable pub table_file : List ℕ
table_file =
    ascii "name=id\ncategory=identification\nrole=excluded\n"
    ++ ascii "name=c\ncategory=chapter\nrole=content\n"
    ++ ascii "name=v\ncategory=verse\nrole=content\n"
    ++ ascii "name=p\ncategory=paragraph\nrole=boundary\n"

-- "Whole output"
unfoldable pub output : List ℕ
output =
    ascii "verdict=checked\nerrors=0\nwarnings=1\ninfos=0\nfindings=1\n"
    ++ ascii "severity=warning\ncode=InvalidVerseSequence\nline=4\ncolumn=1\nmessage=expected verse 1 but found 2\n"

-- "λόγος", five code points of two bytes each, and "φῶς", whose second has three bytes
unfoldable pub logos : List ℕ
logos = 0xCE ∷ 0xBB ∷ 0xCF ∷ 0x8C ∷ 0xCE ∷ 0xB3 ∷ 0xCE ∷ 0xBF ∷ 0xCF ∷ 0x82 ∷ []

unfoldable pub phos : List ℕ
phos = 0xCF ∷ 0x86 ∷ 0xE1 ∷ 0xBF ∷ 0xB6 ∷ 0xCF ∷ 0x82 ∷ []

-- the last line is `\v 1 λόγος \v 3 φῶς`; its second verse begins at byte 32, which is the line's 17th byte and its 12th code point
unfoldable pub greek_source : List ℕ
greek_source = ascii "\\id GEN\n\\c 1\n\\p\n\\v 1 " ++ logos ++ ascii " \\v 3 " ++ phos

unfoldable pub greek_nodes : List Row
greek_nodes =
    row root_kind 0 0 44 11
    ∷ row marker_open_kind 0 0 3 3
    ∷ row text_kind 0 3 5 0
    ∷ row block_end_kind 0 8 0 0
    ∷ row chapter_kind 1 8 5 1
    ∷ row marker_open_kind 3 13 2 10
    ∷ row verse_kind 2 16 5 1
    ∷ row text_kind 0 21 11 0
    ∷ row verse_kind 2 32 5 3
    ∷ row text_kind 0 37 7 0
    ∷ row block_end_kind 3 44 0 0
    ∷ []

unfoldable pub greek_output : List ℕ
greek_output =
    ascii "verdict=checked\nerrors=0\nwarnings=1\ninfos=0\nfindings=1\n"
    ++ ascii "severity=warning\ncode=InvalidVerseSequence\nline=4\ncolumn=12\nmessage=expected verse 2 but found 3\n"

-- `abc` has no number and 4294967296 is too large; the end of `1-x` isn't read and lets its start serve
unfoldable pub unreadable_source : List ℕ
unreadable_source = ascii "\\id GEN\n\\c 1\n\\p\n\\v abc\n\\v 4294967296\n\\v 1-x\n\\v 2"

unfoldable pub unreadable_nodes : List Row
unreadable_nodes =
    row root_kind 0 0 48 11
    ∷ row marker_open_kind 0 0 3 3
    ∷ row text_kind 0 3 5 0
    ∷ row block_end_kind 0 8 0 0
    ∷ row chapter_kind 1 8 5 1
    ∷ row marker_open_kind 3 13 2 10
    ∷ row verse_kind 2 16 7 0
    ∷ row verse_kind 2 23 14 0
    ∷ row verse_kind 2 37 7 1
    ∷ row verse_kind 2 44 4 2
    ∷ row block_end_kind 3 48 0 0
    ∷ []

unfoldable pub unreadable_output : List ℕ
unreadable_output =
    ascii "verdict=checked\nerrors=0\nwarnings=2\ninfos=0\nfindings=2\n"
    ++ ascii "severity=warning\ncode=UnreadableVerseNumber\nline=4\ncolumn=1\nmessage=verse label abc has no number\n"
    ++ ascii "severity=warning\ncode=UnreadableVerseNumber\nline=5\ncolumn=1\nmessage=verse label 4294967296 is too large\n"
