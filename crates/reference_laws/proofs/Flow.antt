-- Structured code in a walk by hand, with what follows it kept in the goal AS CODE, so that no walk names a piece of MIR or a postcondition. It says nothing of any one crate.
--     if-then          a branch and what follows it: each arm goes on with what follows.        switch-then    the same of a `switch` on a number that is written out
--     skip-then, exit-then     an arm that has ended
--     assoc-then       the statements of an arm, one by one
--     onto b rest      the statements of b, and then the rest, one after another.        onto-then    they run as b and then the rest do
--     loop-then        a loop, and what follows it: the turn is handed `leave`, the step from where the loop is left (`exit 1`) to what follows
--     Rooms, Dies, frees_any       a function's locals in one go at its return, each cell full (true) or empty (false)
-- Assumes `Logic`, and a `Tables` where it says so.
use mathlib.Core.Bool.{Bool, true, false, not}
use mathlib.Core.Path.{◌≡◌, refl, subst}
use mathlib.Core.Option.{Option, some, none}
use Prim.Native.Nat.{ℕ}
use mathlib.Core.List.{List, [], ◌∷◌, ◌++◌}
use mathlib.Core.WellFounded.{WellFounded}
use seplogic.Ra.Ura.{Ura}
use base.Fraction.{full_share}
use lib.Dec.{T, T_not, eqb, eqb_refl}
use mir.Syntax.{Opd as Operand, Body, Ty, assign, call, call_v, unreachable, lend_static, return, cond, skip, exit, seq, switch, block, loop, Arms, arm, default, no_default, Width}
use mir.Val.{Val, vbool, vint, has_key}
use base.Logic.{SProp, ent, via, id⊢}
use base.Fml.{froom, fdies, fat}
use prog.Wp.{Heap, Env, Calls, Loops, Tables, Out, next, exits, returns as returnsᴼ, after_seq, after_block, after_turn, branch, Wp, WpArms}
use types.Logic.{Logic}
use sound.WpLaws.{Wp-mono}
use sound.Laws.{Laws}
use types.Kit.{Item, ‵, ◌⊛◌, Goal, Post, post, any_q, runs, prop, frees, Seq, Step, step, move, split, use1, ◌$◌}
use types.Run.{Opd, first, branches, skips, jumps, blocks, loops, exec, switches_on, Below, free1, free0}

abbrev arm-if : Bool → Body → Body → Body
arm-if true b c = b
arm-if false b c = c

abbrev has-arm-if : Bool → Type 0 → Type 0
has-arm-if true P = Unit {0}
has-arm-if false P = P

-- the arm of a number that is written out, and that some arm has it
abbrev pub arm_at : Arms → ℕ → Body
arm_at (arm ks b arms) x = arm-if (has_key ks x) b (arm_at arms x)
arm_at (default b) x = b
arm_at no_default x = skip

abbrev pub has-arm : Arms → ℕ → Type 0
has-arm (arm ks b arms) x = has-arm-if (has_key ks x) (has-arm arms x)
has-arm (default b) x = Unit {0}
has-arm no_default x = ⊥

module _ {M : Type 1} (𝓤 : Ura M) (H : Heap 𝓤) where
  same_after : (X : SProp 𝓤) (Y : SProp 𝓤) (Q : Out → SProp 𝓤) (o : Out) → ent 𝓤 (after_seq 𝓤 H X Q o) (after_seq 𝓤 H X (after_seq 𝓤 H Y Q) o)
  same_after X Y Q next = id⊢ 𝓤 X
  same_after X Y Q (exits n) = id⊢ 𝓤 (Q (exits n))
  same_after X Y Q returnsᴼ = id⊢ 𝓤 (Q returnsᴼ)

  module _ (C : Calls 𝓤 H) (Λ : Loops 𝓤 H) (E : Env 𝓤 H) where
    by_key : (z : Bool) (b : Body) (arms : Arms) (x : ℕ) (Q : Out → SProp 𝓤) → (has-arm arms x → ent 𝓤 (Wp 𝓤 H C Λ E (arm_at arms x) Q) (WpArms 𝓤 H C Λ E arms x Q)) → has-arm-if z (has-arm arms x)
        → ent 𝓤 (Wp 𝓤 H C Λ E (arm-if z b (arm_at arms x)) Q) (branch 𝓤 H z (Wp 𝓤 H C Λ E b Q) (WpArms 𝓤 H C Λ E arms x Q))
    by_key true b arms x Q k _ = id⊢ 𝓤 (Wp 𝓤 H C Λ E b Q)
    by_key false b arms x Q k h = k h

    to-arm : (arms : Arms) (x : ℕ) (Q : Out → SProp 𝓤) → has-arm arms x → ent 𝓤 (Wp 𝓤 H C Λ E (arm_at arms x) Q) (WpArms 𝓤 H C Λ E arms x Q)
    to-arm (arm ks b arms) x Q h = by_key (has_key ks x) b arms x Q (λ k. to-arm arms x Q k) h
    to-arm (default b) x Q h = id⊢ 𝓤 (Wp 𝓤 H C Λ E b Q)
    to-arm no_default x Q h = absurd h

-- the statements of an arm and of what follows it, one after another
abbrev pub onto : Body → Body → Body
onto skip rest = seq skip rest
onto (seq a b) rest = onto a (onto b rest)
onto (assign p rv) rest = seq (assign p rv) rest
onto (block b) rest = seq (block b) rest
onto (loop b) rest = seq (loop b) rest
onto (cond c a b) rest = seq (cond c a b) rest
onto (switch c arms) rest = seq (switch c arms) rest
onto (exit k) rest = seq (exit k) rest
onto return rest = seq return rest
onto (call f xs d) rest = seq (call f xs d) rest
onto unreachable rest = seq unreachable rest
onto (call_v f s xs d) rest = seq (call_v f s xs d) rest
onto (lend_static p τ c) rest = seq (lend_static p τ c) rest

module _ {M : Type 1} (𝓤 : Ura M) (H : Heap 𝓤) (L : Laws 𝓤 H) (𝓣 : Tables 𝓤 H) (E : Env 𝓤 H) where
  abbrev ⟦◌⟧ : Body → (Out → SProp 𝓤) → SProp 𝓤
  ⟦ b ⟧ Q = Wp 𝓤 H 𝓣.C 𝓣.Λ E b Q

  after-mono : (X Y : SProp 𝓤) (Q : Out → SProp 𝓤) → ent 𝓤 X Y → (o : Out) → ent 𝓤 (after_seq 𝓤 H X Q o) (after_seq 𝓤 H Y Q o)
  after-mono X Y Q h next = h
  after-mono X Y Q h (exits n) = id⊢ 𝓤 (Q (exits n))
  after-mono X Y Q h returnsᴼ = id⊢ 𝓤 (Q returnsᴼ)

  pub onto-runs : (b rest : Body) (Q : Out → SProp 𝓤) → ent 𝓤 (⟦ onto b rest ⟧ Q) (⟦ seq b rest ⟧ Q)
  onto-runs skip rest Q = id⊢ 𝓤 _
  onto-runs (seq a b) rest Q =
      via 𝓤 (⟦ seq a (onto b rest) ⟧ Q) (onto-runs a (onto b rest) Q) (
      via 𝓤 (⟦ seq a (seq b rest) ⟧ Q) (Wp-mono 𝓤 H L 𝓣 E a _ _ (after-mono (⟦ onto b rest ⟧ Q) (⟦ seq b rest ⟧ Q) Q (onto-runs b rest Q)))
      (Wp-mono 𝓤 H L 𝓣 E a _ _ (same_after 𝓤 H (⟦ b ⟧ (after_seq 𝓤 H (⟦ rest ⟧ Q) Q)) (⟦ rest ⟧ Q) Q)))
  onto-runs (assign p rv) rest Q = id⊢ 𝓤 _
  onto-runs (block b) rest Q = id⊢ 𝓤 _
  onto-runs (loop b) rest Q = id⊢ 𝓤 _
  onto-runs (cond c a b) rest Q = id⊢ 𝓤 _
  onto-runs (switch c arms) rest Q = id⊢ 𝓤 _
  onto-runs (exit k) rest Q = id⊢ 𝓤 _
  onto-runs return rest Q = id⊢ 𝓤 _
  onto-runs (call f xs d) rest Q = id⊢ 𝓤 _
  onto-runs unreachable rest Q = id⊢ 𝓤 _
  onto-runs (call_v f s xs d) rest Q = id⊢ 𝓤 _
  onto-runs (lend_static p τ c) rest Q = id⊢ 𝓤 _

-- what a loop's turn is handed: where the loop is left, what follows it runs
abbrev pub Leaves : {M : Type 1} {𝓤 : Ura M} (𝓛 : Logic 𝓤) (K : Type 0) (𝓣 : Tables 𝓤 𝓛.H) (E : Env 𝓤 𝓛.H) → Body → Post 𝓤 𝓛.H → Type 2
Leaves {𝓤 = 𝓤} 𝓛 K 𝓣 E rest q = (Γ : List (Item 𝓤)) → Step K 𝓛 Γ (runs 𝓣.C 𝓣.Λ E rest q) Γ (prop (Wp 𝓤 𝓛.H 𝓣.C 𝓣.Λ E rest (post 𝓤 𝓛.H q)))

module _ {M : Type 1} {𝓤 : Ura M} {𝓛 : Logic 𝓤} {K : Type 0} {Γ : List (Item 𝓤)} {E : Env 𝓤 𝓛.H} where
  open 𝓛 use {H}

  module _ {C : Calls 𝓤 H} {Λ : Loops 𝓤 H} {q : Post 𝓤 H} where
    pub skip-then : K → {rest : Body} → Step K 𝓛 Γ (runs C Λ E rest q) Γ (runs C Λ E (seq skip rest) q)
    skip-then t = step (λ s. first t $ skips t $ record { prf = s.prf })

    pub exit-then : K → {n : ℕ} {rest : Body} → Step K 𝓛 Γ (prop (post 𝓤 H q (exits n))) Γ (runs C Λ E (seq (exit n) rest) q)
    exit-then t = step (λ s. first t $ jumps t $ record { prf = s.prf })

    pub switch-then : K → {c : Operand} {arms : Arms} {rest : Body} {w : Width} {x : ℕ} → Opd K 𝓛 Γ E c (vint w x) → has-arm arms x → Step K 𝓛 Γ (runs C Λ E (seq (arm_at arms x) rest) q) Γ (runs C Λ E (seq (switch c arms) rest) q)
    switch-then t {c} {arms} {rest} {w} {x} o h = step (λ s. first t $ switches_on t o $ record { prf = via 𝓤 (Wp 𝓤 H C Λ E (seq (arm_at arms x) rest) (post 𝓤 H q)) s.prf (to-arm 𝓤 H C Λ E arms x (after_seq 𝓤 H (Wp 𝓤 H C Λ E rest (post 𝓤 H q)) (post 𝓤 H q)) h) })

  module _ (𝓣 : Tables 𝓤 H) {q : Post 𝓤 H} where
    pub assoc-then : K → {a b rest : Body} → Step K 𝓛 Γ (runs 𝓣.C 𝓣.Λ E (seq a (seq b rest)) q) Γ (runs 𝓣.C 𝓣.Λ E (seq (seq a b) rest) q)
    assoc-then t {a} {b} {rest} = step (λ s. record {
      prf = via 𝓤 (Wp 𝓤 H 𝓣.C 𝓣.Λ E (seq a (seq b rest)) (post 𝓤 H q)) s.prf
          (Wp-mono 𝓤 H 𝓛.laws 𝓣 E a _ _ (same_after 𝓤 H (Wp 𝓤 H 𝓣.C 𝓣.Λ E b (after_seq 𝓤 H (Wp 𝓤 H 𝓣.C 𝓣.Λ E rest (post 𝓤 H q)) (post 𝓤 H q))) (Wp 𝓤 H 𝓣.C 𝓣.Λ E rest (post 𝓤 H q)) (post 𝓤 H q)));
    })

    pub onto-then : K → {b rest : Body} → Step K 𝓛 Γ (runs 𝓣.C 𝓣.Λ E (onto b rest) q) Γ (runs 𝓣.C 𝓣.Λ E (seq b rest) q)
    onto-then t {b} {rest} = step (λ s. record { prf = via 𝓤 (Wp 𝓤 H 𝓣.C 𝓣.Λ E (onto b rest) (post 𝓤 H q)) s.prf (onto-runs 𝓤 H 𝓛.laws 𝓣 E b rest (post 𝓤 H q)) })

    pub if-then : K → {c : Operand} {a b rest : Body} {y : Bool} → Opd K 𝓛 Γ E c (vbool y) → (T y → Seq K 𝓛 Γ (runs 𝓣.C 𝓣.Λ E (onto a rest) q)) → (T (not y) → Seq K 𝓛 Γ (runs 𝓣.C 𝓣.Λ E (onto b rest) q)) → Seq K 𝓛 Γ (runs 𝓣.C 𝓣.Λ E (seq (cond c a b) rest) q)
    if-then t {c} {a} {b} {rest} o held failed = first t $ branches t o (λ h. record { prf = via 𝓤 _ (held h).prf (onto-runs 𝓤 H 𝓛.laws 𝓣 E a rest (post 𝓤 H q)) }) (λ h. record { prf = via 𝓤 _ (failed h).prf (onto-runs 𝓤 H 𝓛.laws 𝓣 E b rest (post 𝓤 H q)) })

module _ {M : Type 1} {𝓤 : Ura M} {𝓛 : Logic 𝓤} {K : Type 0} {X : Type 0} {E : Env 𝓤 𝓛.H} {q : Post 𝓤 𝓛.H} where
  open 𝓛 use {H}

  pub loop-then : K → (𝓣 : Tables 𝓤 H) (≺ : X → X → Type 0) → WellFounded ≺ → (I : X → List (Item 𝓤)) {b rest : Body}
      → ((x : X) → Leaves 𝓛 K 𝓣 E rest q → Seq K 𝓛 (I x) (runs 𝓣.C 𝓣.Λ E b (any_q (after_turn 𝓤 H (Below 𝓛 ≺ I x) (after_block 𝓤 H (after_seq 𝓤 H (Wp 𝓤 H 𝓣.C 𝓣.Λ E rest (post 𝓤 H q)) (post 𝓤 H q)))))))
      → (x : X) → Seq K 𝓛 (I x) (runs 𝓣.C 𝓣.Λ E (seq (block (loop b)) rest) q)
  loop-then t 𝓣 ≺ wf I {b} {rest} turn x = first t $ blocks t $ loops t 𝓣 ≺ wf I (λ y. turn y (λ Γ. exec t 𝓣.C 𝓣.Λ E rest q)) x

-- ---- the locals at the return
module _ {M : Type 1} (𝓤 : Ura M) (H : Heap 𝓤) where
  -- the cells of E, each with a value or as room
  abbrev pub Cells : Env 𝓤 H → List (Option Val) → List (Item 𝓤)
  Cells [] vs = []
  Cells (e ∷ E) [] = ‵ (froom e.0 e.1 0) ∷ Cells E []
  Cells (e ∷ E) (none ∷ vs) = ‵ (froom e.0 e.1 0) ∷ Cells E vs
  Cells (e ∷ E) (some v ∷ vs) = ‵ (fat full_share e.0 e.1 0 v) ∷ Cells E vs

  -- that each of them may end, as one entry
  abbrev pub Dies : Ty × ℕ → Env 𝓤 H → Item 𝓤
  Dies e [] = ‵ (fdies e.0 e.1)
  Dies e (e' ∷ E) = ‵ (fdies e.0 e.1) ⊛ Dies e' E

module _ {M : Type 1} {𝓤 : Ura M} {𝓛 : Logic 𝓤} {K : Type 0} where
  open 𝓛 use {H}

  emptied : K → {τ : Ty} {l : ℕ} {v : Val} {Γ : List (Item 𝓤)} {G : Goal 𝓤 H} → Step K 𝓛 (‵ (froom τ l 0) ∷ Γ) G (‵ (fat full_share τ l 0 v) ∷ Γ) G
  emptied t {τ} {l} {v} = use1 𝓛 (‵ (froom τ l 0)) (𝓛.laws.at_room τ l 0 v)

  frees_of : K → {Γ : List (Item 𝓤)} {g : Goal 𝓤 H} (e : Ty × ℕ) (E : Env 𝓤 H) (vs : List (Option Val)) → Seq K 𝓛 Γ (frees [] g) → Seq K 𝓛 (Dies 𝓤 H e E ∷ (Cells 𝓤 H (e ∷ E) vs ++ Γ)) (frees (e ∷ E) g)
  frees_of t e [] [] s = move t (1 ∷ 0 ∷ []) $ free1 t $ s
  frees_of t e [] (none ∷ vs) s = move t (1 ∷ 0 ∷ []) $ free1 t $ s
  frees_of t e [] (some v ∷ vs) s = move t (1 ∷ 0 ∷ []) $ emptied t $ free1 t $ s
  frees_of t e (e' ∷ E) [] s = split t $ move t (2 ∷ 0 ∷ []) $ free1 t $ frees_of t e' E [] s
  frees_of t e (e' ∷ E) (none ∷ vs) s = split t $ move t (2 ∷ 0 ∷ []) $ free1 t $ frees_of t e' E vs s
  frees_of t e (e' ∷ E) (some v ∷ vs) s = split t $ move t (2 ∷ 0 ∷ []) $ emptied t $ free1 t $ frees_of t e' E vs s

  pub frees_any : K → {Γ : List (Item 𝓤)} {g : Goal 𝓤 H} {e : Ty × ℕ} {E : Env 𝓤 H} (vs : List (Option Val)) → Step K 𝓛 Γ g (Dies 𝓤 H e E ∷ (Cells 𝓤 H (e ∷ E) vs ++ Γ)) (frees (e ∷ E) g)
  frees_any t {Γ} {g} {e} {E} vs = step (λ s. frees_of t e E vs (free0 t $ s))

-- ---- a test, as a fact
pub ne_of : (a b : ℕ) → T (not (eqb a b)) → a ≡ b → ⊥
ne_of a b h e = T_not (eqb a b) h (subst (λ (y : ℕ). T (eqb a y)) e (eqb_refl a))

pub is_true : (y : Bool) → T y → y ≡ true
is_true true h = refl
is_true false h = absurd h

pub is_false : (y : Bool) → T (not y) → y ≡ false
is_false true h = absurd h
is_false false h = refl
