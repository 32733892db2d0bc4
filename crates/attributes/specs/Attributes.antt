-- Document 01, module 5: "As `validate_attributes`; the scan ends at an unterminated quote or at a key without `=`, and goes on after an unquoted value."
use Rattle.std.specs.Prelude.{ℕ, Bool, true, false, List, [], ◌∷◌, ◌++◌, eqb, ltb, length, drop}
use Rattle.std.specs.Prelude.{Option, Some, None}
use Rattle.text.specs.Pick.{cut, pick}
use Rattle.text.specs.Blank.{blank}
use Rattle.text.specs.declared.Decoded.{Decoded}
use Rattle.text.specs.Characters.{chars, find_byte}
use Rattle.text.specs.Words.{trim}
use Rattle.tape.specs.Nodes.{Node, attribute_kind}
use Rattle.tape.specs.Forest.{Forest, end, leaf, node}
use Rattle.table.specs.Names.{default_name}
use Rattle.cursor.specs.Names.{past_one}
use Rattle.findings.specs.Finding.{Finding, Kind, error_severity, info_severity}
use Rattle.findings.specs.Codes.{invalid_attributes, empty_list_form, key_alone_form, empty_value_form, unterminated_form, unquoted_attribute_value, default_attribute_not_defined}

abbrev pub kind : ℕ → ℕ → ℕ → Kind
kind severity code form = record { severity = severity; code = code; form = form }

-- InvalidAttributes, by its forms (docs/DECISIONS.md): 0 empty list, 1 key without a value, 2 empty value (the info), 3 unterminated
abbrev pub empty_list : Kind
empty_list = kind error_severity invalid_attributes empty_list_form

abbrev pub key_alone : Kind
key_alone = kind error_severity invalid_attributes key_alone_form

abbrev pub empty_value : Kind
empty_value = kind info_severity invalid_attributes empty_value_form

abbrev pub unterminated : Kind
unterminated = kind error_severity invalid_attributes unterminated_form

-- UnquotedAttributeValue and DefaultAttributeNotDefined
abbrev pub unquoted_value : Kind
unquoted_value = kind error_severity unquoted_attribute_value 0

abbrev pub no_default : Kind
no_default = kind error_severity default_attribute_not_defined 0

-- the mode of the scan: before a key; in one; after its `=`; after the opening quote; in a quoted value; there, after a backslash; in a value without quotes
pub data Mode : Type 0 where
  between : Mode
  key : Mode
  value : Mode
  opened : Mode
  quoted : Mode
  escaping : Mode
  unquoted : Mode

-- what a character does: the scan goes on, goes on with a finding, or ends with one
pub data ScanStep : Type 0 where
  go : Mode → ScanStep
  report : Kind → Mode → ScanStep
  stop : Kind → ScanStep

-- 0x3D is `=`, 0x22 is `"`, 0x5C is `\`. A quote after a backslash is part of the value
abbrev pub in_quotes : ℕ → ScanStep
in_quotes c = pick (eqb c 0x5C) (go escaping) (go quoted)

unfoldable pub scan_step : Mode → ℕ → ScanStep
scan_step between c = pick (blank c) (go between) (pick (eqb c 0x3D) (go value) (go key))
scan_step key c = pick (eqb c 0x3D) (go value) (pick (blank c) (stop key_alone) (go key))
scan_step value c = pick (eqb c 0x22) (go opened) (pick (blank c) (report unquoted_value between) (report unquoted_value unquoted))
scan_step opened c = pick (eqb c 0x22) (report empty_value between) (in_quotes c)
scan_step quoted c = pick (eqb c 0x22) (go between) (in_quotes c)
scan_step escaping c = in_quotes c
scan_step unquoted c = pick (blank c) (go between) (go unquoted)

-- the end of the text
abbrev pub end_of_text : Mode → List Kind
end_of_text between = []
end_of_text key = key_alone ∷ []
end_of_text value = unquoted_value ∷ []
end_of_text opened = unterminated ∷ []
end_of_text quoted = unterminated ∷ []
end_of_text escaping = unterminated ∷ []
end_of_text unquoted = []

abbrev pub scan_on : ScanStep → (Mode → List Kind) → List Kind
scan_on (go m) rest = rest m
scan_on (report k m) rest = k ∷ rest m
scan_on (stop k) rest = k ∷ []

-- the findings of a list of attributes, character by character
unfoldable pub attribute_scan : Mode → List Decoded → List Kind
attribute_scan m [] = end_of_text m
attribute_scan m (c ∷ cs) = scan_on (scan_step m c.cp) (λ n. attribute_scan n cs)

-- what stands after one `|`
abbrev pub after_bar : List ℕ → List ℕ
after_bar text = drop (past_one 0x7C text 0) text

abbrev pub body : List ℕ → List ℕ
body text = cut (trim (after_bar text)) (after_bar text)

-- the marker has an attribute that a bare value sets
abbrev pub has_default : Option (List ℕ) → Bool
has_default None = false
has_default (Some name) = true

abbrev pub holds_equals : List ℕ → Bool
holds_equals s = ltb (find_byte (eqb 0x3D) s) (length s)

-- what is found of the text of one Attribute of a marker with this name as written, in order
unfoldable pub attribute_kinds : List ℕ → List ℕ → List Kind
attribute_kinds marker text =
    pick (eqb (length (body text)) 0) (empty_list ∷ [])
    (pick (holds_equals (body text)) (attribute_scan between (chars (body text)))
    (pick (has_default (default_name marker)) [] (no_default ∷ [])))

-- "DefaultAttributeNotDefined its owner's node; else 0"
unfoldable pub findings_at : ℕ → ℕ → ℕ → ℕ → List Kind → List Finding
findings_at start len number owner [] = []
findings_at start len number owner (k ∷ ks) =
    record {
      severity = k.severity;
      code = k.code;
      start = start;
      len = len;
      node = number;
      form = k.form;
      first = pick (eqb k.code default_attribute_not_defined) owner 0;
      second = 0;
    }
    ∷ findings_at start len number owner ks

abbrev pub attribute_findings : ℕ → List ℕ → Node → List Finding
attribute_findings owner marker x = findings_at x.start x.len x.number owner (attribute_kinds marker x.text)

-- of all Attributes among the children of a node
unfoldable pub attributes_findings : ℕ → List ℕ → Forest → List Finding
attributes_findings owner marker end = []
attributes_findings owner marker (leaf x r) = pick (eqb x.kind attribute_kind) (attribute_findings owner marker x) [] ++ attributes_findings owner marker r
attributes_findings owner marker (node x c r) = attributes_findings owner marker r
