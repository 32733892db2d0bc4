-- What the inner functions promise.
use Rattle.std.specs.Prelude.{ℕ, Bool, ◌&&◌, ◌||◌}
use Rattle.tape.specs.Nodes.{Node, is_open}
use Rattle.cursor.specs.Names.{name_of}
use Rattle.attachment.specs.Attached.{is_alternate, is_published, claims}

-- an open marker whose name claims a free place
abbrev pub claims_at : ℕ → Bool → Bool → Node → Bool
claims_at kind alt pubn x = is_open x.kind && claims kind alt pubn (name_of x.text)

-- whether the places are taken, after a node
abbrev pub taken_alternate : ℕ → Bool → Node → Bool
taken_alternate kind alt x = alt || is_alternate kind (name_of x.text)

abbrev pub taken_published : ℕ → Bool → Node → Bool
taken_published kind pubn x = pubn || is_published kind (name_of x.text)
