-- What the words of an index say of the entries of its table.
-- Assumes nothing.
use mathlib.Core.Path.{◌≡◌, refl, sym, ap, ◌∙◌}
use mathlib.Core.List.{List, [], ◌∷◌}
use Rattle.std.specs.Prelude.{Some, None}
use Prim.Native.Nat.{ℕ, zero, suc, ◌+◌, ◌/◌, ◌%◌, ◌<◌, ◌≤◌}
use native.Mathlib.Nat.{not-suc-le-zero, le_of_suc-le-suc}
use native.Mathlib.Omega.{arith}
use lib.ListN.{length, get_or, drop}
use Rattle.text.specs.Pick.{cut, end}
use Rattle.table.specs.declared.Category.{Category}
use Rattle.table.specs.declared.TextRole.{TextRole}
use Rattle.table.specs.declared.MarkerInfo.{MarkerInfo}
use Rattle.table.specs.Entries.{Entry, entries, nth, entry_of_info, category_of, role_of}
use Rattle.table.specs.Inner.{category_at, role_at, pack, Sound, Indexed, name_in}
use Rattle.table.proofs.Positions.{category-back, role-back}

-- past the last entry, and before its end
pub info-past : (es : List Entry) (k : ℕ) → length es ≤ k → nth es k ≡ None
unfolding nth
info-past [] k h = refl
info-past (e ∷ es) zero h = absurd (not-suc-le-zero h)
info-past (e ∷ es) (suc k) h = info-past es k (le_of_suc-le-suc h)

pub record There (es : List Entry) (k : ℕ) : Type 0 where
  pub entry : Entry
  pub is : nth es k ≡ Some entry
  pub onward : drop k es ≡ entry ∷ drop (suc k) es

pub info-there : (es : List Entry) (k : ℕ) → k < length es → There es k
unfolding nth
info-there [] k h = absurd (not-suc-le-zero h)
info-there (e ∷ es) zero h = record { entry = e; is = refl; onward = refl }
info-there (e ∷ es) (suc k) h = let r = info-there es k (le_of_suc-le-suc h) in record { entry = r.entry; is = r.is; onward = r.onward }

-- the parts of a word
pub record Unpacked (w : ℕ) (e : Entry) : Type 0 where
  pub start : w % 65536 ≡ e.name.start
  pub len : w / 65536 % 32 ≡ e.name.len
  pub category : w / 2097152 % 8 ≡ e.category
  pub role : w / 16777216 ≡ e.role

unpacked : (t : List ℕ) (w : ℕ) (e : Entry) → w ≡ pack e → Sound t e → Unpacked w e
unpacked t w e is s = record { start = omega arith; len = omega arith; category = omega arith; role = omega arith }

module _ (t ix : List ℕ) (n : ℕ) (h : Indexed t ix n) (k : ℕ) where
  -- what `name` asks of an entry that `info` gave
  pub name-inside : (m : MarkerInfo) → Some (entry_of_info m) ≡ nth (entries t) k → m.name_start + m.name_len ≤ length t
  name-inside m e = (h.sound k (entry_of_info m) (sym e)).inside

  -- the word of an entry has its name
  pub word-name : (e : Entry) → nth (entries t) k ≡ Some e → cut (name_in (get_or ix k 0)) t ≡ cut e.name t
  word-name e is = let u = unpacked t (get_or ix k 0) e (h.each k e is) (h.sound k e is) in rw (u.start, u.len)

  pub past : n ≤ k → None ≡ nth (entries t) k
  past l = sym (info-past (entries t) k (omega arith))

  module _ (l : k < n) where
    pub there : There (entries t) k
    there = info-there (entries t) k (omega arith)

    pub sound : Sound t there.entry
    sound = h.sound k there.entry there.is

    pub parts : Unpacked (get_or ix k 0) there.entry
    parts = unpacked t (get_or ix k 0) there.entry (h.each k there.entry there.is) sound

    abbrev w : ℕ
    w = get_or ix k 0

    pub inside : end (name_in w) ≤ length t
    inside = rw (parts.start, parts.len) sound.inside

    pub info-known : (c : Category) (r : TextRole) → c ≡ category_at (w / 2097152 % 8) → r ≡ role_at (w / 16777216) →
        Some (entry_of_info (record { name_start = w % 65536; name_len = w / 65536 % 32; category = c; text_role = r })) ≡ nth (entries t) k
    info-known c r e f =
        let g : category_of c ≡ there.entry.category = ap category_of e ∙ category-back (w / 2097152 % 8) (rw parts.category sound.category_low) ∙ parts.category in
        let i : role_of r ≡ there.entry.role = ap role_of f ∙ role-back (w / 16777216) (rw parts.role sound.role_low) ∙ parts.role in
        sym (there.is ∙ rw (parts.start, parts.len, g, i))
