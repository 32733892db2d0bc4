-- What a walk by hand names, in one file: the rules of the kit and of this crate, and rules for the commonest statements. It says nothing of any one crate.
--     cell, cell_field, cell-variant     an operand that is a local, a field of one, or a field of its variant, at a position of the context.        cell-tag     the tag of one
--     sets, resets         an assignment to a local that is room, or that holds something
--     reslices             a slice is lent again: the address of its elements, and that with its length
--     arm-of               the arm of a `match` on a local that is known to be one variant
--     opens-elem, shuts-elem, back-elem, opens-ref, shuts-ref     element i of a `&mut [T]`, and what a `&mut T` leads to, opened and shut
--     calls-into, calls-into-met     a call whose result goes to a local that is room
--     lands-at, relands-at     a call's result, likewise
--     lends-array, backs-array, lends-array-shr, backs-array-shr, frees-array     a local array is lent as a `&mut [T]` or a `&[T]`, is back, and is room
--     lends_local, backs-local     a local struct is lent as a `&mut T`, and is back.        lends_part, backs-part     the first k of a `&mut [T]`, likewise
pub use mathlib.Core.Path.{◌≡◌, refl, sym, ap, subst, ◌∙◌}
pub use mathlib.Core.Bool.{Bool, true, false, not}
pub use mathlib.Core.Option.{some as full, none as empty}
pub use mathlib.Core.Logic.{◌⊎◌, inl, inr}
pub use mathlib.Core.WellFounded.InvImage.{wf as InvImage·wf}
pub use Prim.Native.Nat.{ℕ, ◌<◌, ◌≤◌, ◌^◌, ◌+◌, ◌-◌, ◌*◌, ◌/◌}
use Prim.Native.Nat.{suc}
pub use native.Mathlib.Omega.{arith}
pub use mathlib.Core.List.{[], ◌∷◌, List, ◌++◌}
pub use lib.ListN.{length, get_or, set, length-set, take, drop as skip}
pub use lib.WfN.{lt-wf_rel as Nat·lt-wfRel}
pub use lib.Dec.{T, lit<, ltb, leb, eqb, ltb→lt, nltb→le, leb→le, eqb→eq, nleb→lt}
pub use seplogic.Ra.Ura.{Ura}
pub use base.Fraction.{left as PosShare·left}
pub use base.Fraction.{right as PosShare·right}
pub use base.Fraction.{full_share}
pub use mir.Syntax.{seq, call, named, erased, mut, w8, w16, w32, w64, ty_int, ty_bool, ty_unit, ty_ptr, ty_ref, ty_array}
use mir.Syntax.{Ty, Body, Opd as Operand, field, variant, deref, copy, place as at_place, assign, switch, addr_of, aggregate, Rv as RValue, Lifetime, Mutability, Width, Arms, Tys, Tyss, Sym, ty_struct, ty_enum, int_big}
pub use mir.Val.{vunit, vint, vbool, vptr}
use mir.Val.{Val, has_ty, WT, Vals, vstruct, Fits}
pub use base.Logic.{SProp}
use base.Logic.{via, guard_i}
pub use base.Fml.{fat, froom}
use base.Fml.{GName, Share}
pub use prog.Memory.{Memory}
pub use prog.Routine.{Routine}
pub use prog.Wp.{Heap, Env, Calls, WpFn, Tables}
use prog.Wp.{Loops, spot_of}
pub use ghost.Atoms.{Atoms}
use types.Logic.{Logic}
pub use contract.Monad.{Fun, fact}
pub use contract.Running.{tables}
pub use contract.Lifetimes.{Lfts, Shares, toks}
pub use types.Kit.{Item, ‵, raw, given, cut, at_ret, runs, ◌$◌, !, by, move, keep, rewrite, done, Sq}
use types.Kit.{mean, Post as PostOf, Seq, lands, ◌⊛◌, some, later, use1, use2, split, pick, learn, await, nth, put, Step, step, Goal, Soaks}
pub use types.Run.{look, look_raw, store, store_raw, init, forget, stop, hop, fld, from, load, lit, unit_lit, false_lit, addr, of_opd, bin, un, and_then, no_more, assigns, assigns_last, first, branches, skips, jumps, calls, land_last, again}
use types.Run.{Opds, land, Opd, Rv}
pub use denote.Plain.{uint_Lawful, uint_Makes}
use types.Match.{vrt, look_tag, in_variant, live}
pub use types.Part.{agg, whole, sub, look_in}
pub use denote.Laws.{Is, shows}
pub use denote.Memory.{pointee}
use denote.Memory.{mem, cell_at, lone}
use denote.RattleType.{RattleType}
use denote.Shares.{Shares as SharedOut}
use denote.ArrayMemory.{Single}
pub use denote.Builtin.{u8, u16, u32, u64, usize, bool, unit}
pub use denote.Slice.{Room as SizeOf, slice_ty, slice_val}
pub use denote.Index.{place_is, place}
pub use denote.Steps.{only, facts, heard, nothing}
pub use denote.Triple.Spec.{triple_of}
pub use denote.Triple.Table.{cited}
pub use denote.Triple.Cycle.{measured, at_on, mutual_elim}
pub use Rattle.reference_laws.proofs.Flow.{if-then, skip-then, exit-then, assoc-then, onto, loop-then, ne_of, is_true, is_false}
use Rattle.reference_laws.proofs.Flow.{switch-then, onto-then, arm_at, has-arm}
pub use Rattle.reference_laws.proofs.Hand.{At, ptr_val, fat_val, ref, HasRef, HasMut, HasShr, part, part_length, local}
use Rattle.reference_laws.proofs.Hand.{OpenRef, OpenAt, open_ref, shut-ref, open_at, shut_at, back_at, KeptPart, lend-part, back-part, room-le, KeptLocal, lend-local, back-local}
pub use Rattle.reference_laws.proofs.Call.{of_number, of-truth, of-nothing, of_struct, of-enum, Inputs, Rule, rule-of, Met, Knows, bound_at, calls-any, calls-any-last, calls-met-last}
use Rattle.reference_laws.proofs.Call.{calls-met, Data, Terms, Copies, Facts, Every, Vs, Z, Says, After, Held, HeldAt}
pub use Rattle.reference_laws.proofs.Ends.{Facing, WalkFor, WalkIn, Leaves, walks-under, proves, proves-by, halves, whole_again, refs, inputs, ends, say, span, env-of, Stands, Dying}
use lib.Seq.{length-take-le}
pub use Rattle.reference_laws.proofs.Arrays.{Filled, as_long, array, ArrayAt, fills-array}
use Rattle.reference_laws.proofs.Arrays.{KeptArray, KeptArrayShr, lend-array, back-array, lend-array-shr, back-array-shr, free_array}
use mathlib.Core.Option.{some as is_some}
use prog.Memory.{field_of, field_at, variant_of, variant_at}
use types.Part.{Part}
use mir.Fields.{get_v}

module _ {M : Type 1} {𝓤 : Ura M} {𝓛 : Logic 𝓤} {K : Type 0} {Γ : List (Item 𝓤)} {E : Env 𝓤 𝓛.H} where
  open 𝓛 use {H}

  pub cell : K → {i : ℕ} (n : ℕ) {q : Share} {v : Val} → nth 𝓛 n Γ ≡ ‵ (fat q (spot_of 𝓤 H E i).0 (spot_of 𝓤 H E i).1 (spot_of 𝓤 H E i).2 v) → Opd K 𝓛 Γ E (copy (at_place i [])) v
  cell t n e = load t (from t (stop t)) (look t n e)

  pub cell_field : K → {i : ℕ} (n k : ℕ) {q : Share} {ν : Sym} {τs : Tys} {τ : Ty} {d : ℕ} {vs : Vals} → nth 𝓛 n Γ ≡ ‵ (fat q (ty_struct ν τs) (spot_of 𝓤 H E i).1 (spot_of 𝓤 H E i).2 (vstruct vs)) → field_of (spot_of 𝓤 H E i).0 k ≡ is_some (τ, d) → field_at 0 τs k ≡ is_some (τ, d)
      → Opd K 𝓛 Γ E (copy (at_place i (field k ∷ []))) (get_v vs k)
  cell_field t {i} n k {q} {ν} {τs} {τ} {d} {vs} e f g = load t (from t (fld t f (stop t))) (look_in t n (sub t k g (subst (λ (j : Item 𝓤). Part K 𝓛 j q (ty_struct ν τs) (spot_of 𝓤 H E i).1 (spot_of 𝓤 H E i).2 (vstruct vs) (λ u. ‵ (fat q (ty_struct ν τs) (spot_of 𝓤 H E i).1 (spot_of 𝓤 H E i).2 u))) (sym e) (whole t))))

  pub cell-variant : K → {i : ℕ} (n k j : ℕ) {q : Share} {ν : Sym} {τss : Tyss} {σ τ : Ty} {τs : Tys} {d : ℕ} {vs : Vals} → nth 𝓛 n Γ ≡ ‵ (fat q (ty_enum ν τss) (spot_of 𝓤 H E i).1 (spot_of 𝓤 H E i).2 (live k vs)) → variant_of (spot_of 𝓤 H E i).0 k ≡ is_some σ → field_of σ (suc j) ≡ is_some (τ, d)
      → variant_at τss k ≡ is_some τs → field_at 1 τs j ≡ is_some (τ, d) → Opd K 𝓛 Γ E (copy (at_place i (variant k ∷ field (suc j) ∷ []))) (get_v vs j)
  cell-variant t {i} n k j {q} {ν} {τss} {σ} {τ} {τs} {d} {vs} e f g h l = load t (from t (vrt t f (fld t g (stop t)))) (look_in t n (in_variant t k j h l (subst (λ (x : Item 𝓤). Part K 𝓛 x q (ty_enum ν τss) (spot_of 𝓤 H E i).1 (spot_of 𝓤 H E i).2 (live k vs) (λ u. ‵ (fat q (ty_enum ν τss) (spot_of 𝓤 H E i).1 (spot_of 𝓤 H E i).2 u))) (sym e) (whole t))))

  pub cell-tag : K → {i : ℕ} (n : ℕ) {q : Share} {ν : Sym} {τss : Tyss} {σ : Ty} {k k₀ : ℕ} {vs : Vals} → nth 𝓛 n Γ ≡ ‵ (fat q (ty_enum ν τss) (spot_of 𝓤 H E i).1 (spot_of 𝓤 H E i).2 (live k vs)) → variant_of (spot_of 𝓤 H E i).0 k₀ ≡ is_some σ → field_of σ 0 ≡ is_some (ty_int w8, 0)
      → Opd K 𝓛 Γ E (copy (at_place i (variant k₀ ∷ field 0 ∷ []))) (vint w8 k)
  cell-tag t {i} n {q} {ν} {τss} {σ} {k} {k₀} {vs} e f g = load t (from t (vrt t f (fld t g (stop t)))) (look_tag t n (subst (λ (x : Item 𝓤). Part K 𝓛 x q (ty_enum ν τss) (spot_of 𝓤 H E i).1 (spot_of 𝓤 H E i).2 (live k vs) (λ u. ‵ (fat q (ty_enum ν τss) (spot_of 𝓤 H E i).1 (spot_of 𝓤 H E i).2 u))) (sym e) (whole t)))

  module _ {C : Calls 𝓤 H} {Λ : Loops 𝓤 H} {q : PostOf 𝓤 H} where
    pub sets : K → {i : ℕ} {rv : RValue} {rest : Body} {v : Val} → Rv K 𝓛 Γ E rv v → (n : ℕ) → nth 𝓛 n Γ ≡ ‵ (froom (spot_of 𝓤 H E i).0 (spot_of 𝓤 H E i).1 (spot_of 𝓤 H E i).2) → T (has_ty (spot_of 𝓤 H E i).0 v) × WT v
        → Step K 𝓛 (put 𝓛 n (‵ (fat full_share (spot_of 𝓤 H E i).0 (spot_of 𝓤 H E i).1 (spot_of 𝓤 H E i).2 v)) Γ) (runs C Λ E rest q) Γ (runs C Λ E (seq (assign (at_place i []) rv) rest) q)
    sets t r n e w = assigns t r (from t (stop t)) (init t n e w)

    pub resets : K → {i : ℕ} {rv : RValue} {rest : Body} {v v₀ : Val} → Rv K 𝓛 Γ E rv v → (n : ℕ) → nth 𝓛 n Γ ≡ ‵ (fat full_share (spot_of 𝓤 H E i).0 (spot_of 𝓤 H E i).1 (spot_of 𝓤 H E i).2 v₀) → T (has_ty (spot_of 𝓤 H E i).0 v) × WT v
        → Step K 𝓛 (put 𝓛 n (‵ (fat full_share (spot_of 𝓤 H E i).0 (spot_of 𝓤 H E i).1 (spot_of 𝓤 H E i).2 v)) Γ) (runs C Λ E rest q) Γ (runs C Λ E (seq (assign (at_place i []) rv) rest) q)
    resets t r n e w = assigns t r (from t (stop t)) (store t n e w)

    pub lands-at : K → {i : ℕ} {rest : Body} {v : Val} → (n : ℕ) → nth 𝓛 n Γ ≡ ‵ (froom (spot_of 𝓤 H E i).0 (spot_of 𝓤 H E i).1 (spot_of 𝓤 H E i).2) → T (has_ty (spot_of 𝓤 H E i).0 v) × WT v
        → Step K 𝓛 (put 𝓛 n (‵ (fat full_share (spot_of 𝓤 H E i).0 (spot_of 𝓤 H E i).1 (spot_of 𝓤 H E i).2 v)) Γ) (runs C Λ E rest q) Γ (lands C Λ E (at_place i []) v rest q)
    lands-at t n e w = land t (from t (stop t)) (init t n e w)

    pub relands-at : K → {i : ℕ} {rest : Body} {v v₀ : Val} → (n : ℕ) → nth 𝓛 n Γ ≡ ‵ (fat full_share (spot_of 𝓤 H E i).0 (spot_of 𝓤 H E i).1 (spot_of 𝓤 H E i).2 v₀) → T (has_ty (spot_of 𝓤 H E i).0 v) × WT v
        → Step K 𝓛 (put 𝓛 n (‵ (fat full_share (spot_of 𝓤 H E i).0 (spot_of 𝓤 H E i).1 (spot_of 𝓤 H E i).2 v)) Γ) (runs C Λ E rest q) Γ (lands C Λ E (at_place i []) v rest q)
    relands-at t n e w = land t (from t (stop t)) (store t n e w)

-- ---- a literal that the toolchain writes with a proof of its bound
module _ {M : Type 1} {𝓤 : Ura M} {𝓛 : Logic 𝓤} {K : Type 0} {Γ : List (Item 𝓤)} {E : Env 𝓤 𝓛.H} where
  pub big-lit : K → {w : Width} {n : ℕ} → Fits w n → Opd K 𝓛 Γ E (int_big w n) (vint w n)
  big-lit t {w} {n} z = record { go = λ Kt h. via 𝓤 (Kt (vint w n)) h (guard_i 𝓤 (Fits w n) (Kt (vint w n)) z) }

-- ---- a slice that is lent again, and the arm of a `match`
-- local i of E, holding v at a share and a type, at its own type, and as room
abbrev pub Holds : {M : Type 1} (𝓤 : Ura M) (H : Heap 𝓤) → Env 𝓤 H → Share → Ty → ℕ → Val → Item 𝓤
Holds 𝓤 H E q τ i v = ‵ (fat q τ (spot_of 𝓤 H E i).1 (spot_of 𝓤 H E i).2 v)

abbrev pub Full : {M : Type 1} (𝓤 : Ura M) (H : Heap 𝓤) → Env 𝓤 H → ℕ → Val → Item 𝓤
Full 𝓤 H E i v = Holds 𝓤 H E full_share (spot_of 𝓤 H E i).0 i v

abbrev pub Empty : {M : Type 1} (𝓤 : Ura M) (H : Heap 𝓤) → Env 𝓤 H → ℕ → Item 𝓤
Empty 𝓤 H E i = ‵ (froom (spot_of 𝓤 H E i).0 (spot_of 𝓤 H E i).1 (spot_of 𝓤 H E i).2)

module _ {M : Type 1} {𝓤 : Ura M} {𝓛 : Logic 𝓤} {K : Type 0} {Γ : List (Item 𝓤)} {E : Env 𝓤 𝓛.H} where
  -- the slice s stands at a, the local i of the address at n, and the local j of the new slice at m
  open 𝓛 use {H}

  pub reslices : {C : Calls 𝓤 H} {Λ : Loops 𝓤 H} {q : PostOf 𝓤 H} → K → {i j s : ℕ} {τ τ' : Ty} {ℓ : Lifetime} {μ : Mutability} {rest : Body} {p : Share} {b o c : ℕ} (a n m : ℕ)
      → (spot_of 𝓤 H E s).0 ≡ slice_ty (ty_ref ℓ μ τ) → nth 𝓛 a Γ ≡ Holds 𝓤 H E p (slice_ty (ty_ref ℓ μ τ)) s (slice_val (b, o) c) → nth 𝓛 n Γ ≡ Empty 𝓤 H E i → T (has_ty (spot_of 𝓤 H E i).0 (vptr b o))
      → nth 𝓛 n (put 𝓛 n (Full 𝓤 H E i (vptr b o)) Γ) ≡ Full 𝓤 H E i (vptr b o) → nth 𝓛 a (put 𝓛 n (Full 𝓤 H E i (vptr b o)) Γ) ≡ Holds 𝓤 H E p (slice_ty (ty_ref ℓ μ τ)) s (slice_val (b, o) c) → nth 𝓛 m (put 𝓛 n (Full 𝓤 H E i (vptr b o)) Γ) ≡ Empty 𝓤 H E j
      → T (has_ty (spot_of 𝓤 H E j).0 (slice_val (b, o) c)) × WT (slice_val (b, o) c)
      → Step K 𝓛 (put 𝓛 m (Full 𝓤 H E j (slice_val (b, o) c)) (put 𝓛 n (Full 𝓤 H E i (vptr b o)) Γ)) (runs C Λ E rest q) Γ (runs C Λ E (seq (assign (at_place i []) (addr_of (at_place s (field 0 ∷ deref τ' ∷ [])))) (seq (assign (at_place j []) (aggregate (copy (at_place i []) ∷ copy (at_place s (field 1 ∷ [])) ∷ []))) rest)) q)
  reslices t {i} {j} {s} {τ} {τ'} {ℓ} {μ} {rest} {p} {b} {o} {c} a n m slice at_a at_n fits same-n same-a at-m typed = step (λ k.
      sets t (addr t (from t (fld t (ap (λ (σ : Ty). field_of σ 0) slice) (hop t (look_in t a (sub t 0 refl (subst (λ (x : Item 𝓤). Part K 𝓛 x p (slice_ty (ty_ref ℓ μ τ)) (spot_of 𝓤 H E s).1 (spot_of 𝓤 H E s).2 (slice_val (b, o) c) (Holds 𝓤 H E p (slice_ty (ty_ref ℓ μ τ)) s)) (sym at_a) (whole t)))) (stop t))))) n at_n (fits, tt) $
      sets t (agg t (and_then t (cell t n same-n) (and_then t (cell_field t a 1 same-a (ap (λ (σ : Ty). field_of σ 1) slice) refl) (no_more t)))) m at-m typed $ k)

  -- the local i, which holds z at n, is the variant z', whose arm runs
  pub arm-of : (𝓣 : Tables 𝓤 H) {q : PostOf 𝓤 H} → K → (D : Data) {z z' : D.row.Denot} {l : ℕ} {arms : Arms} {c : Operand} {rest : Body} {w : Width} {x : ℕ} (n : ℕ) → z ≡ z' → Is D.row z (D.val z ∷ []) → nth 𝓛 n Γ ≡ ‵ (fat full_share D.mir l 0 (D.val z))
      → Opd K 𝓛 (put 𝓛 n (‵ (fat full_share D.mir l 0 (D.val z'))) Γ) E c (vint w x) → has-arm arms x
      → (Is D.row z' (D.val z' ∷ []) → Seq K 𝓛 (put 𝓛 n (‵ (fat full_share D.mir l 0 (D.val z'))) Γ) (runs 𝓣.C 𝓣.Λ E (onto (arm_at arms x) rest) q))
      → Seq K 𝓛 Γ (runs 𝓣.C 𝓣.Λ E (seq (switch c arms) rest) q)
  arm-of 𝓣 t D {z} {z'} {l} n e is at_n tag has k =
      rewrite t n (λ (u : D.row.Denot). ‵ (fat full_share D.mir l 0 (D.val u))) e at_n $ switch-then t tag has $ onto-then 𝓣 t $
      k (subst (λ (u : D.row.Denot). Is D.row u (D.val u ∷ [])) e is)

-- ---- through a reference
module _ {M : Type 1} {𝓤 : Ura M} {𝓛 : Logic 𝓤} {K : Type 0} {Γ : List (Item 𝓤)} {G : Goal 𝓤 𝓛.H} where
  pub opens-elem : K → Soaks G → (D : Data) (p : At) (ys : List D.row.Denot) (i : ℕ) (d : D.row.Denot) → i < length ys
      → (Is D.row (get_or ys i d) (D.val (get_or ys i d) ∷ []) → Seq K 𝓛 (‵ (cell_at full_share D.row.mir (D.val (get_or ys i d) ∷ []) p.b (place (mem D.row).size p.o i)) ∷ ‵ (OpenAt D.row p ys i) ∷ Γ) G) → Seq K 𝓛 (‵ (HasMut D.row p ys) ∷ Γ) G
  opens-elem t z D p ys i d l k = use1 𝓛 (later (given (Is D.row (get_or ys i d) (D.val (get_or ys i d) ∷ [])) (‵ (cell_at full_share D.row.mir (D.val (get_or ys i d) ∷ []) p.b (place (mem D.row).size p.o i)) ⊛ ‵ (OpenAt D.row p ys i))))
      (open_at D.row 𝓛 p (λ x. D.val x ∷ []) D.tells ys i d l) $ await t z $ learn t (λ is. split t $ k is)

  pub shuts-elem : K → Soaks G → (D : Data) (p : At) (ys : List D.row.Denot) (i : ℕ) (y : D.row.Denot) → i < length ys → Is D.row y (D.val y ∷ [])
      → Step K 𝓛 (‵ (HasMut D.row p (set ys i y)) ∷ Γ) G (‵ (cell_at full_share D.row.mir (D.val y ∷ []) p.b (place (mem D.row).size p.o i)) ∷ ‵ (OpenAt D.row p ys i) ∷ Γ) G
  shuts-elem t z D p ys i y l is = step (λ s. use2 𝓛 (later (‵ (HasMut D.row p (set ys i y)))) (shut_at D.row 𝓛 p (λ x. D.val x ∷ []) D.tells (D.makes M 𝓤 𝓛) ys i y l is) $ await t z $ s)

  pub back-elem : K → Soaks G → (D : Data) (p : At) (ys : List D.row.Denot) (i : ℕ) (d : D.row.Denot) → i < length ys → Is D.row (get_or ys i d) (D.val (get_or ys i d) ∷ [])
      → Step K 𝓛 (‵ (HasMut D.row p ys) ∷ Γ) G (‵ (cell_at full_share D.row.mir (D.val (get_or ys i d) ∷ []) p.b (place (mem D.row).size p.o i)) ∷ ‵ (OpenAt D.row p ys i) ∷ Γ) G
  back-elem t z D p ys i d l is = step (λ s. use2 𝓛 (later (‵ (HasMut D.row p ys))) (back_at D.row 𝓛 p (λ x. D.val x ∷ []) D.tells (D.makes M 𝓤 𝓛) ys i d l is) $ await t z $ s)

  pub opens-ref : K → Soaks G → (D : Data) (p : At) (h : D.row.Denot) → (Is D.row h (D.val h ∷ []) → Seq K 𝓛 (‵ (cell_at full_share D.row.mir (D.val h ∷ []) p.b p.o) ∷ ‵ (OpenRef D.row p h) ∷ Γ) G) → Seq K 𝓛 (‵ (HasRef D.row p h) ∷ Γ) G
  opens-ref t z D p h k = use1 𝓛 (later (given (Is D.row h (D.val h ∷ [])) (‵ (cell_at full_share D.row.mir (D.val h ∷ []) p.b p.o) ⊛ ‵ (OpenRef D.row p h)))) (open_ref D.row 𝓛 p (λ x. D.val x ∷ []) D.tells h) $ await t z $ learn t (λ is. split t $ k is)

  pub shuts-ref : K → Soaks G → (D : Data) (p : At) (h y : D.row.Denot) → Is D.row y (D.val y ∷ []) → Step K 𝓛 (‵ (HasRef D.row p y) ∷ Γ) G (‵ (cell_at full_share D.row.mir (D.val y ∷ []) p.b p.o) ∷ ‵ (OpenRef D.row p h) ∷ Γ) G
  shuts-ref t z D p h y is = step (λ s. use2 𝓛 (later (‵ (HasRef D.row p y))) (shut-ref D.row 𝓛 p (λ x. D.val x ∷ []) D.tells (D.makes M 𝓤 𝓛) h y is) $ await t z $ s)

-- ---- a call, and its result stored
module _ {M : Type 1} {𝓤 : Ura M} {K : Type 0} (𝓛 : Logic 𝓤) {Γ : List (Item 𝓤)} {E : Env 𝓤 𝓛.H} (𝓣 : Tables 𝓤 𝓛.H) {q : PostOf 𝓤 𝓛.H} {xs : List Operand} where
  open 𝓛 use {H}

  pub calls-into-met : (F : Terms) (x : Inputs F.sorts) → K → {i : ℕ} {rest : Body} → Copies (rule-of F x).pars → Facts (rule-of F x).pars → Every (rule-of F x).requires → Met 𝓛 (rule-of F x) 𝓣.C → Opds K 𝓛 (raw (𝓣.C F.name (Vs (rule-of F x).pars) (λ v. mean 𝓛 (After 𝓛 (rule-of F x) v))) ∷ Γ) E xs (Vs (rule-of F x).pars)
      → (n : ℕ) → ((z : Z 𝓛 (rule-of F x)) → nth 𝓛 n (HeldAt 𝓤 (rule-of F x).pars z.1 ++ Γ) ≡ ‵ (froom (spot_of 𝓤 H E i).0 (spot_of 𝓤 H E i).1 (spot_of 𝓤 H E i).2)) → (spot_of 𝓤 H E i).0 ≡ F.result.mir
      → ((z : Z 𝓛 (rule-of F x)) → Says 𝓛 (rule-of F x) (F.result.val z.0) z → Seq K 𝓛 (put 𝓛 n (‵ (fat full_share (spot_of 𝓤 H E i).0 (spot_of 𝓤 H E i).1 (spot_of 𝓤 H E i).2 (F.result.val z.0))) (HeldAt 𝓤 (rule-of F x).pars z.1 ++ Γ)) (runs 𝓣.C 𝓣.Λ E rest q))
      → Seq K 𝓛 (Held 𝓛 (rule-of F x).pars ++ Γ) (runs 𝓣.C 𝓣.Λ E (seq (call F.name xs (at_place i [])) rest) q)
  calls-into-met F x t {i} ls fs req met os n room fits k = calls-met 𝓛 𝓣 F x t ls fs req met os (λ z s. lands-at t n (room z) (subst (λ (τ : Ty). T (has_ty τ (F.result.val z.0)) × WT (F.result.val z.0)) (sym fits) (F.result.typed M 𝓤 𝓛 z.0 s.0)) $ k z s)

  pub calls-into : (F : Terms) (x : Inputs F.sorts) → K → {i : ℕ} {rest : Body} → Copies (rule-of F x).pars → Facts (rule-of F x).pars → Every (rule-of F x).requires → Knows 𝓛 𝓣.C F → Opds K 𝓛 (raw (𝓣.C F.name (Vs (rule-of F x).pars) (λ v. mean 𝓛 (After 𝓛 (rule-of F x) v))) ∷ Γ) E xs (Vs (rule-of F x).pars)
      → (n : ℕ) → ((z : Z 𝓛 (rule-of F x)) → nth 𝓛 n (HeldAt 𝓤 (rule-of F x).pars z.1 ++ Γ) ≡ ‵ (froom (spot_of 𝓤 H E i).0 (spot_of 𝓤 H E i).1 (spot_of 𝓤 H E i).2)) → (spot_of 𝓤 H E i).0 ≡ F.result.mir
      → ((z : Z 𝓛 (rule-of F x)) → Says 𝓛 (rule-of F x) (F.result.val z.0) z → Seq K 𝓛 (put 𝓛 n (‵ (fat full_share (spot_of 𝓤 H E i).0 (spot_of 𝓤 H E i).1 (spot_of 𝓤 H E i).2 (F.result.val z.0))) (HeldAt 𝓤 (rule-of F x).pars z.1 ++ Γ)) (runs 𝓣.C 𝓣.Λ E rest q))
      → Seq K 𝓛 (Held 𝓛 (rule-of F x).pars ++ Γ) (runs 𝓣.C 𝓣.Λ E (seq (call F.name xs (at_place i [])) rest) q)
  calls-into F x t ls fs req known os n room fits k = calls-into-met F x t ls fs req (known x) os n room fits k

-- ---- a local, or a part of a slice, lent for a call
module _ {M : Type 1} {𝓤 : Ura M} {𝓛 : Logic 𝓤} {K : Type 0} {Γ : List (Item 𝓤)} {G : Goal 𝓤 𝓛.H} where
  pub lends-array : K → Soaks G → (R : RattleType) → Single R.mir → (n l : ℕ) → SizeOf R n → (xs : List R.Denot) → ((ν : ℕ) (δ : GName) → Seq K 𝓛 (‵ (HasMut R (array l n ν δ) xs) ∷ ‵ (KeptArray R n l ν δ) ∷ Γ) G) → Seq K 𝓛 (‵ (ArrayAt R n l xs) ∷ Γ) G
  lends-array t z R one n l room xs k = use1 𝓛 (later (some (λ (ν : ℕ). some (λ (δ : GName). ‵ (HasMut R (array l n ν δ) xs) ⊛ ‵ (KeptArray R n l ν δ))))) (lend-array R n l 𝓛 one room xs) $ await t z $ pick t (λ ν. pick t (λ δ. split t $ k ν δ))

  pub backs-array : K → Soaks G → (R : RattleType) (n l ν : ℕ) (δ : GName) (zs : List R.Denot) → Step K 𝓛 (‵ (ArrayAt R n l zs) ∷ Γ) G (‵ (HasMut R (array l n ν δ) zs) ∷ ‵ (KeptArray R n l ν δ) ∷ Γ) G
  backs-array t z R n l ν δ zs = step (λ s. use2 𝓛 (later (‵ (ArrayAt R n l zs))) (back-array R n l 𝓛 ν δ zs) $ await t z $ s)

  pub lends-array-shr : K → Soaks G → (R : RattleType) → Single R.mir → ((ν : ℕ) → SharedOut 𝓛 R (ν ∷ [])) → (n l : ℕ) → SizeOf R n → (xs : List R.Denot) → ((ν : ℕ) (δ : GName) → Seq K 𝓛 (‵ (HasShr R (array l n ν δ) xs) ∷ ‵ (KeptArrayShr R n l ν xs) ∷ Γ) G) → Seq K 𝓛 (‵ (ArrayAt R n l xs) ∷ Γ) G
  lends-array-shr t z R one law n l room xs k = use1 𝓛 (later (some (λ (ν : ℕ). some (λ (δ : GName). ‵ (HasShr R (array l n ν δ) xs) ⊛ ‵ (KeptArrayShr R n l ν xs))))) (lend-array-shr R n l 𝓛 one law room xs) $ await t z $ pick t (λ ν. pick t (λ δ. split t $ k ν δ))

  pub backs-array-shr : K → Soaks G → (R : RattleType) (n l ν : ℕ) (δ : GName) (xs : List R.Denot) → Step K 𝓛 (‵ (ArrayAt R n l xs) ∷ Γ) G (‵ (HasShr R (array l n ν δ) xs) ∷ ‵ (KeptArrayShr R n l ν xs) ∷ Γ) G
  backs-array-shr t z R n l ν δ xs = step (λ s. use2 𝓛 (later (‵ (ArrayAt R n l xs))) (back-array-shr R n l 𝓛 ν δ xs) $ await t z $ s)

  pub frees-array : K → (R : RattleType) (n l : ℕ) (xs : List R.Denot) → Step K 𝓛 (‵ (froom (ty_array (lone R.mir) n) l 0) ∷ Γ) G (‵ (ArrayAt R n l xs) ∷ Γ) G
  frees-array t R n l xs = use1 𝓛 (‵ (froom (ty_array (lone R.mir) n) l 0)) (free_array R n l 𝓛 xs)

  pub lends_local : K → Soaks G → (D : Data) (l : ℕ) (h : D.row.Denot) → D.row.mir ≡ D.mir ∷ [] → Is D.row h (D.val h ∷ []) → ((ν : ℕ) (δ : GName) → Seq K 𝓛 (‵ (HasRef D.row (local l ν δ) h) ∷ ‵ (KeptLocal D.row l ν δ) ∷ Γ) G) → Seq K 𝓛 (‵ (fat full_share D.mir l 0 (D.val h)) ∷ Γ) G
  lends_local t z D l h one is k =
      use1 𝓛 (‵ (cell_at full_share (D.mir ∷ []) (D.val h ∷ []) l 0)) (𝓛.laws.at_raw full_share D.mir l 0 (D.val h)) $ rewrite t 0 (λ (τs : List Ty). ‵ (cell_at full_share τs (D.val h ∷ []) l 0)) (sym one) refl $
      use1 𝓛 (later (some (λ (ν : ℕ). some (λ (δ : GName). ‵ (HasRef D.row (local l ν δ) h) ⊛ ‵ (KeptLocal D.row l ν δ))))) (lend-local D.row 𝓛 (λ x. D.val x ∷ []) (D.makes M 𝓤 𝓛) l h is) $ await t z $ pick t (λ ν. pick t (λ δ. split t $ k ν δ))

  pub backs-local : K → Soaks G → (D : Data) (l ν : ℕ) (δ : GName) (y : D.row.Denot) → D.row.mir ≡ D.mir ∷ [] → (Is D.row y (D.val y ∷ []) → Seq K 𝓛 (‵ (fat full_share D.mir l 0 (D.val y)) ∷ Γ) G) → Seq K 𝓛 (‵ (HasRef D.row (local l ν δ) y) ∷ ‵ (KeptLocal D.row l ν δ) ∷ Γ) G
  backs-local t z D l ν δ y one k =
      use2 𝓛 (later (given (Is D.row y (D.val y ∷ [])) (‵ (cell_at full_share D.row.mir (D.val y ∷ []) l 0)))) (back-local D.row 𝓛 (λ x. D.val x ∷ []) D.tells l ν δ y) $ await t z $ learn t (λ is.
      rewrite t 0 (λ (τs : List Ty). ‵ (cell_at full_share τs (D.val y ∷ []) l 0)) one refl $ use1 𝓛 (‵ (fat full_share D.mir l 0 (D.val y))) (𝓛.laws.raw_at full_share D.mir l 0 (D.val y)) $ k is)

  pub lends_part : K → Soaks G → (R : RattleType) (p : At) (ys : List R.Denot) (k : ℕ) → k ≤ length ys → SizeOf R (length ys) → ((ν : ℕ) (δ : GName) → Seq K 𝓛 (‵ (HasMut R (part p k ν δ) (take k ys)) ∷ ‵ (KeptPart R p k ν δ ys) ∷ Γ) G) → Seq K 𝓛 (‵ (HasMut R p ys) ∷ Γ) G
  lends_part t z R p ys k le room g =
      use1 𝓛 (later (some (λ (ν : ℕ). some (λ (δ : GName). ‵ (HasMut R (part p k ν δ) (take k ys)) ⊛ ‵ (KeptPart R p k ν δ ys))))) (lend-part R 𝓛 p ys k (length-take-le k ys le) (room-le R k (length ys) le room)) $ await t z $ pick t (λ ν. pick t (λ δ. split t $ g ν δ))

  pub backs-part : K → Soaks G → (R : RattleType) (p : At) (ys : List R.Denot) (k ν : ℕ) (δ : GName) (zs : List R.Denot) → length zs ≡ length (take k ys) → Step K 𝓛 (‵ (HasMut R p (zs ++ skip k ys)) ∷ Γ) G (‵ (HasMut R (part p k ν δ) zs) ∷ ‵ (KeptPart R p k ν δ ys) ∷ Γ) G
  backs-part t z R p ys k ν δ zs len = step (λ s. use2 𝓛 (later (‵ (HasMut R p (zs ++ skip k ys)))) (back-part R 𝓛 p ys k ν δ zs len) $ await t z $ s)
