-- What the inner functions of the crate promise.
use Rattle.std.specs.Prelude.{ℕ, Bool, false, ◌||◌, List}
use Rattle.text.specs.Pick.{pick}
use Rattle.tape.specs.Nodes.{Node, is_open, text_kind}
use Rattle.tape.specs.Forest.{Forest}
use Rattle.numbers.specs.Label.{numbered}
use Rattle.cursor.specs.Inner.{is_kind}
use Rattle.definition.specs.Checks.{front_by, has_text, has_attribute, has_markers}
use Rattle.state.specs.InnerSetters.{put_has_id, put_front_matter}
use Rattle.state.specs.declared.State.{State}

-- a Text that isn't blank, an Attribute or a marker
abbrev pub has_content : Forest → Bool
has_content f = has_text f || (has_attribute f || has_markers f)

-- a marker, a Chapter, a Verse or a Text that isn't blank: it settles if a line has content
abbrev pub settles : Node → Bool
settles x = is_open x.kind || (numbered x.kind || is_kind text_kind false x)

-- the running record after a marker that is an `id` or isn't, with the book code
abbrev pub with_id : Bool → List ℕ → State → State
with_id named code r = put_has_id (named || r.has_id) (put_front_matter (pick named (front_by code r.front_matter) r.front_matter) r)
