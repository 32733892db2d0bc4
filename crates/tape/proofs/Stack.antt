-- The first elements of an array as a stack, the last of them on top, and the steps of the reading over it.
-- Assumes nothing.
use mathlib.Core.Path.{◌≡◌, refl, sym, ap}
use mathlib.Core.List.{List, ◌∷◌}
use Prim.Native.Nat.{ℕ, zero, suc, ◌+◌, ◌-◌, ◌<◌, ◌≤◌}
use native.Mathlib.Numerals.{add-one}
use native.Mathlib.Omega.{arith}
use lib.ListN.{length, get_or, set, length-set}
use lib.Seq.{get_or-set_same, get_or-set_other}
use borrow.Author.Tests.{lt-ltb, le-ltb, eq-eqb, ne_eqb}
use Rattle.tape.specs.Inner.{stacked, Opened, Closed}
use Rattle.std.specs.Prelude.{Ok, Err}
use Rattle.refusals.specs.declared.Refusal as code
use Rattle.refusals.specs.declared.Reason.TheVariants as reason
use Rattle.refusals.specs.Reasons.{refusal_of}

pub stacked-length : (xs : List ℕ) (k : ℕ) → length (stacked xs k) ≡ k
stacked-length xs zero = refl
stacked-length xs (suc k) = ap suc (stacked-length xs k)

pub stacked-set : (xs : List ℕ) (j v k : ℕ) → k ≤ j → stacked (set xs j v) k ≡ stacked xs k
stacked-set xs j v zero h = refl
stacked-set xs j v (suc k) h =
    let e = stacked-set xs j v k (omega arith) in
    let g = get_or-set_other xs j k v 0 (omega arith) in
    cc

pub stacked-push : (xs : List ℕ) (j v : ℕ) → j < length xs → stacked (set xs j v) (j + 1) ≡ v ∷ stacked xs j
stacked-push xs j v h =
    let e = stacked-set xs j v j (omega arith) in
    let g = get_or-set_same xs j v 0 h in
    rw add-one (cc)

pub stacked-pop : (xs : List ℕ) (k : ℕ) → (k ≡ 0 → ⊥) → stacked xs k ≡ get_or xs (k - 1) 0 ∷ stacked xs (k - 1)
stacked-pop xs k h =
    let e : k ≡ suc (k - 1) = omega arith in
    ap (stacked xs) e

module _ (link i : ℕ) (stack : List ℕ) (depth : ℕ) (room : length stack ≡ 64) where
  pub open_full : (r : code.Refusal) → r ≡ record { reason = reason.TooDeep; place = i } → 64 ≤ depth → Opened link i stack stack depth (Err r)
  open_full r e h = record { step = rw (le-ltb (length (stacked stack depth)) 64 (rw (stacked-length stack depth) h)) (ap refusal_of e); low = tt; room = room }

  pub open_room : depth < 64 → Opened link i stack (set stack depth link) depth (Ok (depth + 1))
  open_room h =
      record {
        step = rw (lt-ltb (length (stacked stack depth)) 64 (rw (stacked-length stack depth) h)) (stacked-push stack depth link (omega arith));
        low = omega arith;
        room = simp length-set room;
      }

module _ (root i : ℕ) (stack : List ℕ) (depth : ℕ) (low : depth ≤ 64) where
  pub close-root : depth ≡ 0 → root ≡ i → Closed root i stack depth (Ok 0)
  close-root d e = record { step = rw (d, eq-eqb i root (sym e)); low = omega arith }

  pub close-top : (depth ≡ 0 → ⊥) → get_or stack (depth - 1) 0 ≡ i → Closed root i stack depth (Ok (depth - 1))
  close-top d e = record { step = rw (stacked-pop stack depth d, eq-eqb i (get_or stack (depth - 1) 0) (sym e)); low = omega arith }

  module _ (r : code.Refusal) (is : r ≡ record { reason = reason.BrokenLinks; place = i }) where
    pub close-none : depth ≡ 0 → (root ≡ i → ⊥) → Closed root i stack depth (Err r)
    close-none d e = record { step = rw (d, ne_eqb i root (λ q. e (sym q))) (ap refusal_of is); low = tt }

    pub close_other : (depth ≡ 0 → ⊥) → (get_or stack (depth - 1) 0 ≡ i → ⊥) → Closed root i stack depth (Err r)
    close_other d e = record { step = rw (stacked-pop stack depth d, ne_eqb i (get_or stack (depth - 1) 0) (λ q. e (sym q))) (ap refusal_of is); low = tt }
