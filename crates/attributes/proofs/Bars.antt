-- What stands after a bar, and a marker's default attribute.
-- Assumes nothing.
use mathlib.Core.Path.{◌≡◌, refl, ◌∙◌}
use mathlib.Core.Bool.{true, false, false≢true}
use mathlib.Core.List.{List, [], ◌∷◌}
use Prim.Native.Nat.{ℕ, ◌-◌}
use lib.ListN.{length, take, drop}
use Rattle.std.specs.Prelude.{Option, Some, None, is_some}
use Rattle.table.specs.declared.DefaultAttribute.{DefaultAttribute}
use Rattle.table.specs.declared.DefaultAttribute.TheVariants.{Lemma, Gloss, Href, Loc, LinkHref, Id, Who}
use Rattle.text.proofs.Cuts.{rest_all}
use Rattle.table.specs.Names.{attribute_name}
use Rattle.attributes.specs.Attributes.{after_bar, has_default}
use Rattle.attributes.specs.Inner.{leads}

pub bar-yes : (s : List ℕ) → leads 0x7C s ≡ true → take (length s - 1) (drop 1 s) ≡ after_bar s
bar-yes [] h = absurd (false≢true h)
bar-yes (b ∷ s) h = rest_all (b ∷ s) 1 ∙ rw h

pub bar-no : (s : List ℕ) → leads 0x7C s ≡ false → s ≡ after_bar s
bar-no [] h = refl
bar-no (b ∷ s) h = rw h

pub default-there : (d : Option DefaultAttribute) → is_some d ≡ has_default (attribute_name d)
default-there None = refl
default-there (Some Lemma) = refl
default-there (Some Gloss) = refl
default-there (Some Href) = refl
default-there (Some Loc) = refl
default-there (Some LinkHref) = refl
default-there (Some Id) = refl
default-there (Some Who) = refl
