-- A local array `[T; n]` in a walk by hand, as ONE entry of its context, lent as a slice for a call. n is a variable here, so nothing computes the elements.
--     Filled n d xs    xs is n times d (`all`), and n long (`long`).        as_long     n ≤ length xs, from length xs ≡ n
--     ArrayAt R n l xs         the local array at l holds xs, whatever its machine value
--     fills-array      `[d; n]` is assigned to a local, whose room is the context's first entry: it holds some xs that is `Filled`
--     array l n ν δ    where the slice of it is, lent for the lifetime ν under the name δ
--     lend-array, back-array           it is lent as a `&mut [T]` for a lifetime that is made for it, and is back at any last value once that is ended.        lend-array-shr, back-array-shr     as a `&[T]`, of a T that can be shared out (`denote.Shares`)
--     free_array       it is room
-- Assumes `Logic`.
use mathlib.Core.Path.{◌≡◌, refl, sym, ap, subst}
use Prim.Native.Nat.{ℕ, zero, suc, ◌≤◌}
use native.Mathlib.Nat.{le_refl}
use mathlib.Core.List.{List, [], ◌∷◌}
use lib.ListN.{length, replicate, length-replicate}
use seplogic.Ra.Ura.{Ura}
use base.Fraction.{full_share}
use mir.Syntax.{Place, Opd as Operand, Body, seq, assign, repeat, ty_array, erased}
use mir.Val.{Val}
use base.Logic.{SProp, ent, sep, ex}
use base.Fml.{GName, Fml, fsep, fat, froom, fres, flent, flft, Incl-refl}
use prog.Wp.{Env, Calls, Loops}
use types.Logic.{Logic, sem}
use types.Kit.{Item, ‵, ◌⊛◌, Post, runs, Seq, some, later, ◌$◌, ◌∵◌, !, qed, move, keep, drop, use1, use2, use3, rewrite, split, pick, fsplit, fjoin, fpick, fpack, feq_l, feq_i, await, updating, now as at_once, show, done}
use types.Run.{Opd, Finds, init, assigns}
use types.Part.{rep}
use types.SemTy.{cells, Arr}
use types.Share.{arr_parts}
use types.Tokens.{lft_new, lft_end, lent_back}
use denote.RattleType.{RattleType}
use denote.Shares.{Shares}
use denote.Shadow.{shadow, pure_i}
use denote.Laws.{Is, Makes, Lawful}
use denote.Memory.{mem, shares, cell_at, lone, part_at, part_of}
use denote.Array.{Array, each, array_val, Array-Lawful, Array-Makes}
use denote.ArrayMemory.{Single, Array-apart, Array-whole}
use denote.Index.{row, whole_in, whole_out}
use denote.Lend.{Held, lends_slice, slice_back, lends_shr_slice}
use denote.Slice.{slice_val, MutSlice, ShrSlice, heres, Room, finally, shr_slice_at, mut_slice_at, coded_holeys, res-finally}
use denote.Steps.{owned}
use Rattle.reference_laws.proofs.Hand.{At, ref, shr_ref, fat_val, HasMut, HasShr}

pub record Filled {X : Type 0} (n : ℕ) (d : X) (xs : List X) : Type 0 where
  pub all : xs ≡ replicate n d
  pub long : length xs ≡ n

pub as_long : {m n : ℕ} → m ≡ n → n ≤ m
as_long {m} {n} l = subst (λ (k : ℕ). n ≤ k) (sym l) (le_refl n)

abbrev pub array : ℕ → ℕ → ℕ → GName → At
array l n ν δ = record { κ = ν ∷ []; q = full_share; γ = δ; b = l; o = 0; n = n }

module _ (R : RattleType) (n l : ℕ) where
  abbrev pub ArrayAt : List R.Denot → Fml
  ArrayAt xs = part_at (Array R n) full_share xs l 0

  abbrev pub KeptArray : ℕ → GName → Fml
  KeptArray ν δ = flent (ν ∷ []) (Held R n l 0 δ)

  abbrev pub KeptArrayShr : ℕ → List R.Denot → Fml
  KeptArrayShr ν xs = flent (ν ∷ []) ((arr_parts (shares R) n).part full_share xs l 0)

  module _ {M : Type 1} {𝓤 : Ura M} (𝓛 : Logic 𝓤) where
    open 𝓛 use {H}

    abbrev ⟦◌⟧ : Fml → SProp 𝓤
    ⟦ P ⟧ = sem 𝓛 P

    pub lend-array : Single R.mir → Room R n → (xs : List R.Denot) → ent 𝓤 ⟦ ArrayAt xs ⟧ (H.⇛ (ex 𝓤 (λ (ν : ℕ). ex 𝓤 (λ (δ : GName). sep 𝓤 ⟦ HasMut R (array l n ν δ) xs ⟧ ⟦ KeptArray ν δ ⟧))))
    lend-array one room xs =
        qed 𝓛 (‵ (ArrayAt xs) ∷ []) ∵ updating ! $ use1 𝓛 (‵ ((arr_parts (shares R) n).part full_share xs l 0)) (Array-apart 𝓛 R full_share one n xs l 0) $ fsplit ! $ feq_l ! (λ e.
        let e' : (slice_val (l, 0) n ∷ [] ≡ slice_val (l, 0) (length xs) ∷ []) × Room R (length xs) = (ap (λ (m : ℕ). slice_val (l, 0) m ∷ []) (sym e), subst (Room R) (sym e) room) in
        use1 𝓛 (‵ (cells (mem R) xs l 0)) (whole_in 𝓛 R xs l 0) $ lft_new ! tt (λ ν. move ! (1 ∷ []) $
        use1 𝓛 (later (some (λ (δ : GName). ‵ ((MutSlice erased (ν ∷ []) R).own_val (ref (array l n ν δ) xs) (slice_val (l, 0) (length xs) ∷ [])) ⊛ ‵ (flent (ν ∷ []) (Held R (length xs) l 0 δ))))) (lends_slice 𝓛 R erased (ν ∷ []) xs l 0 e'.1) $ await ! tt $ pick ! (λ δ. split ! $
        -- [the slice; the lender's part; the token]
        rewrite ! 1 (λ (m : ℕ). ‵ (flent (ν ∷ []) (Held R m l 0 δ))) e refl $ fsplit ! $ drop ! $ pure_i ! (mut_slice_at R (ref (array l n ν δ) xs) (fat_val (array l n ν δ) ∷ [])) (tt, (tt, tt)) e' $ fjoin ! $
        at_once ! $ show ! (λ (ν' : ℕ). ex 𝓤 (λ (δ' : GName). sep 𝓤 ⟦ HasMut R (array l n ν' δ') xs ⟧ ⟦ KeptArray ν' δ' ⟧)) ν $ show ! (λ (δ' : GName). sep 𝓤 ⟦ HasMut R (array l n ν δ') xs ⟧ ⟦ KeptArray ν δ' ⟧) δ $
        move ! (0 ∷ 2 ∷ []) $ fjoin ! $ done !)))

    pub back-array : (ν : ℕ) (δ : GName) (zs : List R.Denot) → ent 𝓤 (sep 𝓤 ⟦ HasMut R (array l n ν δ) zs ⟧ ⟦ KeptArray ν δ ⟧) (H.⇛ ⟦ ArrayAt zs ⟧)
    back-array ν δ zs =
        qed 𝓛 (‵ (HasMut R (array l n ν δ) zs) ∷ ‵ (KeptArray ν δ) ∷ []) ∵ updating ! $ fsplit ! $ fsplit ! $ drop ! $ fsplit ! $
        -- [obs; the borrow; the token; what is kept]
        use1 𝓛 (‵ (fres δ ((coded_holeys R).code (heres R zs)))) (𝓛.names.obs-res δ ((coded_holeys R).code (heres R zs))) $ use1 𝓛 (‵ (finally R δ zs)) (res-finally 𝓛 erased (ν ∷ []) R δ zs) $ move ! (2 ∷ []) $ lft_end ! tt $
        move ! (0 ∷ 3 ∷ 1 ∷ []) $ use3 𝓛 (later (‵ ((Arr (mem R) n).own_at zs l 0))) (slice_back 𝓛 R (ν ∷ []) δ zs n l 0) $ await ! tt $ fsplit ! $ move ! (1 ∷ []) $ use1 𝓛 (‵ (row R full_share zs l 0)) (whole_out 𝓛 R zs l 0) $
        move ! (1 ∷ 0 ∷ []) $ fjoin ! $ use1 𝓛 (‵ (ArrayAt zs)) (Array-whole 𝓛 R full_share n zs l 0) $ at_once ! $ keep ! (0 ∷ []) $ done !

    pub lend-array-shr : Single R.mir → ((ν : ℕ) → Shares 𝓛 R (ν ∷ [])) → Room R n → (xs : List R.Denot) → ent 𝓤 ⟦ ArrayAt xs ⟧ (H.⇛ (ex 𝓤 (λ (ν : ℕ). ex 𝓤 (λ (δ : GName). sep 𝓤 ⟦ HasShr R (array l n ν δ) xs ⟧ ⟦ KeptArrayShr ν xs ⟧))))
    lend-array-shr one law room xs =
        qed 𝓛 (‵ (ArrayAt xs) ∷ []) ∵ updating ! $ use1 𝓛 (‵ ((arr_parts (shares R) n).part full_share xs l 0)) (Array-apart 𝓛 R full_share one n xs l 0) $ fsplit ! $ feq_l ! (λ e.
        let e' : (slice_val (l, 0) n ∷ [] ≡ slice_val (l, 0) (length xs) ∷ []) × Room R (length xs) = (ap (λ (m : ℕ). slice_val (l, 0) m ∷ []) (sym e), subst (Room R) (sym e) room) in
        feq_i ! ℕ (length xs) (length xs) refl $ fjoin ! $ lft_new ! tt (λ ν. move ! (1 ∷ 0 ∷ []) $
        use2 𝓛 (later ((‵ ((ShrSlice erased (ν ∷ []) R).own_val (shr_ref (array l n ν 0) xs) (slice_val (l, 0) (length xs) ∷ [])) ⊛ ‵ (flent (ν ∷ []) ((arr_parts (shares R) (length xs)).part full_share xs l 0))) ⊛ ‵ (flft (ν ∷ []) full_share)))
        (lends_shr_slice 𝓛 R erased (ν ∷ []) full_share xs l 0 e'.1 (ν ∷ []) (law ν) ((ν ∷ [], full_share) ∷ []) (Incl-refl (ν ∷ [])) (Incl-refl (ν ∷ []))) $ await ! tt $ split ! $ split ! $
        -- [the slice; the lender's part; the token]
        rewrite ! 1 (λ (m : ℕ). ‵ (flent (ν ∷ []) ((arr_parts (shares R) m).part full_share xs l 0))) e refl $ fsplit ! $ drop ! $ pure_i ! (shr_slice_at R (shr_ref (array l n ν 0) xs) (fat_val (array l n ν 0) ∷ [])) (tt, (tt, tt)) e' $ fjoin ! $
        at_once ! $ show ! (λ (ν' : ℕ). ex 𝓤 (λ (δ' : GName). sep 𝓤 ⟦ HasShr R (array l n ν' δ') xs ⟧ ⟦ KeptArrayShr ν' xs ⟧)) ν $ show ! (λ (δ' : GName). sep 𝓤 ⟦ HasShr R (array l n ν δ') xs ⟧ ⟦ KeptArrayShr ν xs ⟧) 0 $
        move ! (0 ∷ 2 ∷ []) $ fjoin ! $ done !))

    pub back-array-shr : (ν : ℕ) (δ : GName) (xs : List R.Denot) → ent 𝓤 (sep 𝓤 ⟦ HasShr R (array l n ν δ) xs ⟧ ⟦ KeptArrayShr ν xs ⟧) (H.⇛ ⟦ ArrayAt xs ⟧)
    back-array-shr ν δ xs =
        qed 𝓛 (‵ (HasShr R (array l n ν δ) xs) ∷ ‵ (KeptArrayShr ν xs) ∷ []) ∵ updating ! $ fsplit ! $ drop ! $ lft_end ! tt $ lent_back ! tt $ use1 𝓛 (‵ (ArrayAt xs)) (Array-whole 𝓛 R full_share n xs l 0) $ at_once ! $ done !

    pub free_array : (xs : List R.Denot) → ent 𝓤 ⟦ ArrayAt xs ⟧ ⟦ froom (ty_array (lone R.mir) n) l 0 ⟧
    unfolding part_of
    free_array xs =
        qed 𝓛 (‵ (ArrayAt xs) ∷ []) ∵ fpick ! (λ vs. fsplit ! $ move ! (1 ∷ []) $ fpick ! (λ us. fsplit ! $ fsplit ! $ feq_l ! (λ e. drop ! $ drop ! $
        rewrite ! 0 (λ (ws : List Val). ‵ (cell_at full_share (ty_array (lone R.mir) n ∷ []) ws l 0)) e refl $
        use1 𝓛 (‵ (fat full_share (ty_array (lone R.mir) n) l 0 (array_val us))) (𝓛.laws.raw_at full_share (ty_array (lone R.mir) n) l 0 (array_val us)) $
        use1 𝓛 (‵ (froom (ty_array (lone R.mir) n) l 0)) (𝓛.laws.at_room (ty_array (lone R.mir) n) l 0 (array_val us)) $ done !)))

-- the machine value of n times one value
each-is : (R : RattleType) (n : ℕ) (d : R.Denot) (v : Val) → Is R d (v ∷ []) → shadow (each R.Denot R.own_val (replicate n d) (replicate n v))
each-is R zero d v is = tt
each-is R (suc n) d v is = (is, each-is R n d v is)

repeat-is : (R : RattleType) (n : ℕ) (d : R.Denot) (v : Val) → Is R d (v ∷ []) → Is (Array R n) (replicate n d) (array_val (replicate n v) ∷ [])
repeat-is R n d v is = (replicate n v, ((refl, length-replicate n d), each-is R n d v is))

module _ {M : Type 1} {𝓤 : Ura M} {𝓛 : Logic 𝓤} {K : Type 0} {Γ : List (Item 𝓤)} {E : Env 𝓤 𝓛.H} {C : Calls 𝓤 𝓛.H} {Λ : Loops 𝓤 𝓛.H} {q : Post 𝓤 𝓛.H} where
  pub fills-array : K → (R : RattleType) → Makes 𝓛 R (Is R) → Lawful 𝓛 R → (n l : ℕ) (d : R.Denot) (v : Val) → Is R d (v ∷ []) → {x : Operand} {p : Place} {rest : Body}
      → Opd K 𝓛 (‵ (froom (ty_array (lone R.mir) n) l 0) ∷ Γ) E x v → Finds K 𝓛 (‵ (froom (ty_array (lone R.mir) n) l 0) ∷ Γ) E p (ty_array (lone R.mir) n, l, 0)
      → ((xs : List R.Denot) → Filled n d xs → Seq K 𝓛 (‵ (ArrayAt R n l xs) ∷ Γ) (runs C Λ E rest q)) → Seq K 𝓛 (‵ (froom (ty_array (lone R.mir) n) l 0) ∷ Γ) (runs C Λ E (seq (assign p (repeat x n)) rest) q)
  unfolding part_of
  fills-array t R mk L n l d v is o f k =
      assigns t (rep t n o) f (init t 0 refl ((Array-Lawful 𝓛 R L n).typed (replicate n d) (array_val (replicate n v) ∷ []) (repeat-is R n d v is)).0) $
      use1 𝓛 (‵ (cell_at full_share (Array R n).mir (array_val (replicate n v) ∷ []) l 0)) (𝓛.laws.at_raw full_share (ty_array (lone R.mir) n) l 0 (array_val (replicate n v))) $
      owned t (Array R n) (Is (Array R n)) (Array-Makes 𝓛 R mk n) (replicate n d) (array_val (replicate n v) ∷ []) (repeat-is R n d v is) $ move t (1 ∷ 0 ∷ []) $ fjoin t $
      fpack t (List Val) (λ us. fsep (cell_at full_share (Array R n).mir us l 0) ((Array R n).own_val (replicate n d) us)) (array_val (replicate n v) ∷ []) $
      k (replicate n d) (record { all = refl; long = length-replicate n d })
