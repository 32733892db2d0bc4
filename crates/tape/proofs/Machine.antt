-- The reading of opens and closes, a node at a time.
-- Assumes nothing.
use mathlib.Core.Path.{◌≡◌, refl, sym, ap, ◌∙◌}
use mathlib.Core.Bool.{Bool, true, false}
use mathlib.Core.List.{List, [], ◌∷◌}
use mathlib.Core.Logic.{◌⊎◌, inl, inr}
use Rattle.std.specs.Prelude.{Option, Some, Ok, Err}
use Prim.Native.Nat.{ℕ, zero, suc, ◌+◌, ◌-◌, ◌<◌, ◌≤◌}
use native.Mathlib.Numerals.{add-one}
use native.Mathlib.Omega.{arith}
use lib.Dec.{ltb, eqb}
use lib.ListN.{length}
use borrow.Author.Tests.{eq-eqb, ne_eqb}
use Rattle.tape.specs.Nodes.{kind_at, link_at, is_open, is_close, marker_open_kind}
use Rattle.refusals.specs.Refusal.{Refusal, refuse, broken_links, too_deep}
use Rattle.tape.specs.Reading.{Step, go, stop, opened, closed, step, resume, read}
use Rattle.tape.specs.Inner.{stacked, says, held, Depth, Low, Opened, Closed, Stepped, Held}
use Rattle.refusals.specs.declared.Refusal as code
use Rattle.text.specs.Pick.{pick}

-- a step stops with 7 or 8
abbrev pub Odd : Step → Type 0
Odd (go awaited) = Unit {0}
Odd (stop number) = (number ≡ 7) ⊎ (number ≡ 8)

opened-odd : (link : ℕ) (awaited : List ℕ) → Odd (opened link awaited)
opened-odd link awaited = choose (ltb (length awaited) 64)
  where
    choose : (b : Bool) → Odd (pick b (go (link ∷ awaited)) (stop too_deep))
    choose true = tt
    choose false = inr refl

closed-odd : (root i : ℕ) (awaited : List ℕ) → Odd (closed root i awaited)
closed-odd root i [] = choose (eqb i root)
  where
    choose : (b : Bool) → Odd (pick b (go []) (stop broken_links))
    choose true = tt
    choose false = inl refl
closed-odd root i (link ∷ awaited) = choose (eqb i link)
  where
    choose : (b : Bool) → Odd (pick b (go awaited) (stop broken_links))
    choose true = tt
    choose false = inl refl

pub step-odd : (t : List ℕ) (i : ℕ) (awaited : List ℕ) → Odd (step t i awaited)
unfolding step
step-odd t i awaited = choose (is_open (kind_at t i)) (is_close (kind_at t i))
  where
    choose : (a b : Bool) → Odd (pick a (opened (link_at t i) awaited) (pick b (closed (link_at t 0) i awaited) (go awaited)))
    choose true b = opened-odd (link_at t i) awaited
    choose false true = closed-odd (link_at t 0) i awaited
    choose false false = tt

module _ (t : List ℕ) (i : ℕ) where
  pub read_step : (n : ℕ) (awaited : List ℕ) → i < n → read t (n - i) i awaited ≡ resume (step t i awaited) i (read t (n - (i + 1)) (i + 1))
  unfolding read
  read_step n awaited h =
      let e : n - i ≡ suc (n - (i + 1)) = omega arith in
      rw (e, add-one)

  moved : (x : Step) (n : ℕ) (stack : List ℕ) (q : Depth) → held x i stack q → says t n (i + 1) stack q ≡ resume x i (read t (n - (i + 1)) (i + 1))
  moved (go awaited) n stack (Ok depth) h = ap (read t (n - (i + 1)) (i + 1)) h
  moved (go awaited) n stack (Err r) h = absurd h
  moved (stop number) n stack (Ok depth) h = absurd h
  moved (stop number) n stack (Err r) h = ap Some h

  stepped : (stack stack' : List ℕ) (depth : ℕ) (q : Depth) → held (step t i (stacked stack depth)) i stack' q → Low q → length stack' ≡ 64 → Stepped t i stack stack' (Ok depth) q
  stepped stack stack' depth q h low room =
      record { same = λ n l. moved (step t i (stacked stack depth)) n stack' q h ∙ sym (read_step n (stacked stack depth) l); low = low; room = room }

  step-open : (awaited : List ℕ) → kind_at t i ≡ marker_open_kind → step t i awaited ≡ opened (link_at t i) awaited
  unfolding step
  step-open awaited k = rw (eq-eqb (kind_at t i) marker_open_kind k)

  step-close : (awaited : List ℕ) → (kind_at t i ≡ marker_open_kind → ⊥) → is_close (kind_at t i) ≡ true → step t i awaited ≡ closed (link_at t 0) i awaited
  unfolding step
  step-close awaited k e = rw (ne_eqb (kind_at t i) marker_open_kind k, e)

  step-leaf : (awaited : List ℕ) → (kind_at t i ≡ marker_open_kind → ⊥) → is_close (kind_at t i) ≡ false → step t i awaited ≡ go awaited
  unfolding step
  step-leaf awaited k e = rw (ne_eqb (kind_at t i) marker_open_kind k, e)

-- nothing more is read once the reading has stopped
pub at-stopped : (t : List ℕ) (i : ℕ) (stack : List ℕ) (r : code.Refusal) → length stack ≡ 64 → Stepped t i stack stack (Err r) (Err r)
at-stopped t i stack r room = record { same = λ n l. refl; low = tt; room = room }

module _ (t : List ℕ) (root i kind : ℕ) (stack : List ℕ) (depth : ℕ) (pre : Held t root i kind stack (Ok depth)) where
  pub at_open : (stack' : List ℕ) (q : Depth) (link : ℕ) → kind ≡ marker_open_kind → link ≡ link_at t i → Opened link i stack stack' depth q → Stepped t i stack stack' (Ok depth) q
  at_open stack' q link k e o =
      let is : step t i (stacked stack depth) ≡ opened link (stacked stack depth) = step-open t i (stacked stack depth) (sym pre.of_kind ∙ k) ∙ rw e in
      stepped t i stack stack' depth q (rw is o.step) o.low o.room

  pub at-close : (q : Depth) → (kind ≡ marker_open_kind → ⊥) → is_close kind ≡ true → Closed root i stack depth q → Stepped t i stack stack (Ok depth) q
  at-close q k e o =
      let is : step t i (stacked stack depth) ≡ closed root i (stacked stack depth) = step-close t i (stacked stack depth) (rw (← pre.of_kind) k) (rw (← pre.of_kind) e) ∙ rw pre.link in
      stepped t i stack stack depth q (rw is o.step) o.low pre.room

  pub at_leaf : (kind ≡ marker_open_kind → ⊥) → is_close kind ≡ false → Stepped t i stack stack (Ok depth) (Ok depth)
  at_leaf k e =
      let is : step t i (stacked stack depth) ≡ go (stacked stack depth) = step-leaf t i (stacked stack depth) (rw (← pre.of_kind) k) (rw (← pre.of_kind) e) in
      stepped t i stack stack depth (Ok depth) (rw is refl) pre.low pre.room
