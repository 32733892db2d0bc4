-- The name of a marker, as written.
-- Document 01, module 2: "`marker_name` drops one `\`, then one `+`, and stops before a blank, `*`, `|` or `\`."
use Rattle.std.specs.Prelude.{ℕ, ◌+◌, Bool, ◌||◌, List, eqb, get_or, drop}
use Rattle.text.specs.Pick.{Part, cut, pick}
use Rattle.text.specs.Blank.{blank}
use Rattle.text.specs.Characters.{find}

-- one byte dropped, if the list begins with it
abbrev pub past_one : ℕ → List ℕ → ℕ → ℕ
past_one b s i = pick (eqb (get_or s i 256) b) (i + 1) i

-- a blank, `*`, `|` or `\`
abbrev pub ends_name : ℕ → Bool
ends_name c = blank c || (eqb c 0x2A || (eqb c 0x7C || eqb c 0x5C))

-- where the name begins in the text of a node, and how long it is
unfoldable pub name_part : List ℕ → Part
name_part s =
    record {
      start = past_one 0x2B s (past_one 0x5C s 0);
      len = find ends_name (drop (past_one 0x2B s (past_one 0x5C s 0)) s);
    }

abbrev pub name_of : List ℕ → List ℕ
name_of s = cut (name_part s) s
