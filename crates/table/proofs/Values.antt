-- What is known of a good line of a marker.
-- Assumes nothing.
use mathlib.Core.Path.{◌≡◌, refl}
use mathlib.Core.Bool.{Bool, true, false, ◌&&◌}
use mathlib.Core.List.{List}
use Rattle.std.specs.Prelude.{Option, Some, None}
use Prim.Native.Nat.{ℕ, zero, suc, ◌+◌, ◌<◌, ◌≤◌}
use native.Mathlib.Omega.{arith}
use lib.Dec.{leb}
use lib.ListN.{length}
use borrow.Author.Tests.{leb-true}
use Rattle.text.specs.Pick.{within, pick, known}
use Rattle.text.proofs.Rows.{within-lo, within-hi}
use Rattle.table.specs.Lines.{name_key, name_byte, good_body, category_key, categories, role_key, roles}
use Rattle.table.specs.Entries.{position}
use Rattle.table.specs.Books.{code_from}
use Rattle.table.specs.Inner.{name_length, keyed, line_value}
use Rattle.table.proofs.Words.{one-of, every, one_passes, found}
use Rattle.text.proofs.Blocks.{starts-long}
use Rattle.text.proofs.Bool.{and_left}
use Rattle.text.specs.Literal.{ascii}
use Rattle.text.specs.Bytes.{all, starting, beyond}

-- a line is good exactly if it says something
known-pick : (t : Bool) (n : ℕ) → t ≡ known (pick t (Some n) None)
known-pick true n = refl
known-pick false n = refl

keyed-known : (key : List ℕ) (value : List ℕ → Option ℕ) (s : List ℕ) (t : Bool) → t ≡ known (value (beyond key s)) → (starting key s && t) ≡ known (keyed key value s)
keyed-known key value s t e = go (starting key s)
  where
    go : (u : Bool) → (u && t) ≡ known (pick u (value (beyond key s)) None)
    go true = e
    go false = refl

pub good-known : (j : ℕ) (s : List ℕ) → good_body j s ≡ known (line_value j s)
good-known zero s = let b = beyond name_key s in keyed-known name_key name_length s _ (known-pick (within 1 16 (length b) && all name_byte b) (length b))
good-known (suc zero) s = keyed-known category_key (code_from 0 categories) s _ (one-of categories (beyond category_key s) 0)
good-known (suc (suc j)) s = keyed-known role_key (code_from 0 roles) s _ (one-of roles (beyond role_key s) 0)

pick-says : (t : Bool) (o : Option ℕ) (v : ℕ) → pick t o None ≡ Some v → (t ≡ true) × (o ≡ Some v)
pick-says true o v e = (refl, e)
pick-says false o v e = let z : ◌≡◌ {A = ℕ} 0 1 = cc in absurd (omega arith)

-- what a good name's line says
pub record Named (s : List ℕ) (v : ℕ) : Type 0 where
  pub long : length s ≡ 5 + v
  pub low : 1 ≤ v
  pub high : v ≤ 16

pub name-says : (s : List ℕ) (v : ℕ) → keyed name_key name_length s ≡ Some v → Named s v
unfolding ascii
name-says s v e =
    let b = beyond name_key s in
    let k = pick-says (starting name_key s) (name_length b) v e in
    let g = pick-says (within 1 16 (length b) && all name_byte b) (Some (length b)) v k.1 in
    let size = and_left (within 1 16 (length b)) (all name_byte b) g.0 in
    let f = g.1 in
    let is : length b ≡ v = cc in
    let long = starts-long name_key s k.0 in
    record { long = omega arith; low = rw (← is) (within-lo 1 16 (length b) size); high = rw (← is) (within-hi 1 16 (length b) size) }

-- no word is longer than m
abbrev pub shorter : ℕ → List (List ℕ) → Bool
shorter m ws = every (λ (w : List ℕ). leb (length w) m) ws

pub record Worded (key : List ℕ) (ws : List (List ℕ)) (m : ℕ) (s : List ℕ) (v : ℕ) : Type 0 where
  pub is : v ≡ position ws (beyond key s)
  pub inside : v < length ws
  pub long : length s ≤ length key + m

pub word-says : (key : List ℕ) (ws : List (List ℕ)) (m : ℕ) (s : List ℕ) (v : ℕ) → shorter m ws ≡ true → keyed key (code_from 0 ws) s ≡ Some v → Worded key ws m s v
word-says key ws m s v h e =
    let k = pick-says (starting key s) (code_from 0 ws (beyond key s)) v e in
    let a = found ws (beyond key s) 0 v k.1 in
    let b = leb-true (length (beyond key s)) m (one_passes (λ (w : List ℕ). leb (length w) m) ws (beyond key s) h a.there) in
    let l = starts-long key s k.0 in
    record { is = omega arith; inside = omega arith; long = omega arith }
