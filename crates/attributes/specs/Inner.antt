-- What the functions inside the crate promise.
use Rattle.std.specs.Prelude.{ℕ, Bool, false, ◌&&◌, ◌||◌, List, [], ◌∷◌, eqb, drop}
use Rattle.text.specs.Pick.{pick}
use Rattle.text.specs.Blank.{blank}
use Rattle.tape.specs.Nodes.{Node, attribute_kind}
use Rattle.findings.specs.Finding.{Finding, Kind}
use Rattle.attributes.specs.declared.Where.{Where}
use Rattle.attributes.specs.Attributes.{attribute_findings}

-- the text begins with the byte
abbrev pub leads : ℕ → List ℕ → Bool
leads b [] = false
leads b (x ∷ s) = eqb x b

-- what a key ends before
abbrev pub ends_key : ℕ → Bool
ends_key c = eqb c 0x3D || blank c

-- a backslash with a quote after it
abbrev pub escapes : List ℕ → Bool
escapes s = leads 0x5C s && leads 0x22 (drop 1 s)

-- the finding of an Attribute, with its first number
abbrev pub finding_of_kind : Where → Kind → ℕ → Finding
finding_of_kind w k first =
    record {
      severity = k.severity;
      code = k.code;
      start = w.start;
      len = w.len;
      node = w.node;
      form = k.form;
      first = first;
      second = 0;
    }

-- of a node by itself
abbrev pub of_node : ℕ → List ℕ → Node → List Finding
of_node owner marker x = pick (eqb x.kind attribute_kind) (attribute_findings owner marker x) []
