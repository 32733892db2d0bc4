-- What a walk by hand holds of a reference parameter, as ONE entry of its context, with the steps that a call and an access make of it. It says nothing of any one crate.
--     At               where a reference parameter is: its lifetime κ, the share q of κ's token, its ghost name γ, its place (b, o), and a slice's count n
--     HasRef p h       the `&mut T` at p, at the value h, with its token.        HasMut p ys     the `&mut [T]`.        HasShr p ys     the `&[T]`
--     ref p h, shr_ref p h     the `&mut` and the `&` themselves
--     lent p ν δ       the same place, lent again for the lifetime ν under the name δ
--     KeptRef, KeptMut     what the holder keeps meanwhile
--     lend-ref, back-ref, lend-mut, back-mut, lend-shr, back_shr      a call: what is held is lent again for a lifetime that is made for it, and is back once that has ended, at the last value. A `&[T]` is copied, by the laws of T's row
--     open_ref, shut-ref       a struct behind a `&mut`: its cell, and back, at any value.        open_at, shut_at, back_at     element i of a `&mut [T]`, likewise
-- Assumes `Logic`.
use mathlib.Core.Path.{◌≡◌, refl, sym, ap, subst, ◌∙◌}
use Prim.Native.Nat.{ℕ, ◌<◌, ◌≤◌, ◌+◌}
use native.Mathlib.Nat.{lt_of_le_of_lt, mul-le-mul_right}
use mathlib.Core.List.{List, [], ◌∷◌, ◌++◌}
use lib.ListN.{length, get_or, set, length-set, take, drop as skip, length-append, take-append-drop}
use borrow.Table.Elements.{at, cut_app, join_app}
use seplogic.Ra.Ura.{Ura}
use base.Fraction.{full_share}
use mir.Syntax.{erased}
use mir.Val.{Val, vptr}
use base.Logic.{SProp, ent, sep, ex, guard}
use base.Fml.{Lft, GName, Share, Fml, fsep, flft, fobs, fauth, fres, flent, fobor}
use types.Logic.{Logic, sem}
use types.Kit.{‵, ◌⊛◌, some, later, ◌$◌, ◌∵◌, !, qed, move, keep, use1, use2, use3, rewrite, drop, split, pick, fsplit, fsplit3, fjoin, fjoin3, fpick, fpack, feq_l, feq_i, frame, await, updating, check, now as at_once, show, done}
use types.Tokens.{lft_new, lft_end}
use types.SemTy.{cells, Arr, Body}
use denote.RattleType.{RattleType, RowLaws}
use denote.Shadow.{pure_l, pure_i}
use denote.Laws.{Is, Tells, Makes, shows}
use denote.Memory.{mem, cell_at, shares, part_of}
use denote.Ref.{Bor, MutBor, MutRef}
use denote.Slice.{slice_val, MutSlice, ShrSlice, heres, Room, finally, mut_slice_at, coded_holeys, shr_slice_copy, res-finally}
use denote.Lend.{Held, lends_slice, slice_back}
use denote.Lend as lend
use denote.Index.{row, others, place, whole_out, whole_in, opens_slice, closes_slice, elem_out, elem_put, elem_back}
use denote.Steps.{opens, closes, owned, peeks}
use denote.Struct.Steps.{spelt}

pub record At : Type 0 where
  pub κ : Lft
  pub q : Share
  pub γ : GName
  pub b : ℕ
  pub o : ℕ
  pub n : ℕ

abbrev pub lent : At → ℕ → GName → At
lent p ν δ = record { κ = ν ∷ []; q = full_share; γ = δ; b = p.b; o = p.o; n = p.n }

abbrev pub ptr_val : At → Val
ptr_val p = vptr p.b p.o

abbrev pub fat_val : At → Val
fat_val p = slice_val (p.b, p.o) p.n

abbrev pub ref : {X : Type 0} → At → X → MutBor X
ref p h = record { ref_ptr = (p.b, p.o); ghost_name = p.γ; now = h }

abbrev pub shr_ref : {X : Type 0} → At → X → Bor X
shr_ref p h = record { ref_ptr = (p.b, p.o); now = h }

module _ (R : RattleType) where
  abbrev pub HasRef : At → R.Denot → Fml
  HasRef p h = fsep ((MutRef erased p.κ R).own_val (ref p h) (ptr_val p ∷ [])) (flft p.κ p.q)

  abbrev pub HasMut : At → List R.Denot → Fml
  HasMut p ys = fsep ((MutSlice erased p.κ R).own_val (ref p ys) (fat_val p ∷ [])) (flft p.κ p.q)

  abbrev pub HasShr : At → List R.Denot → Fml
  HasShr p ys = fsep ((ShrSlice erased p.κ R).own_val (shr_ref p ys) (fat_val p ∷ [])) (flft p.κ p.q)

  abbrev pub KeptRef : At → ℕ → GName → R.Denot → Fml
  KeptRef p ν δ h = lend.LentAgain R p.κ (ν ∷ []) p.q p.γ p.b p.o δ h

  abbrev pub KeptMut : At → ℕ → GName → List R.Denot → Fml
  KeptMut p ν δ ys = fsep (mut_slice_at R (ref p ys) (fat_val p ∷ [])) (fsep (flent (ν ∷ []) (Held R (length ys) p.b p.o δ)) (fsep (fobor p.κ p.q (Held R (length ys) p.b p.o p.γ)) (fsep (fobs p.γ ((coded_holeys R).code (heres R ys))) (fauth p.γ ((coded_holeys R).code (heres R ys))))))

  abbrev pub KeptShr : At → List R.Denot → Fml
  KeptShr p ys = (ShrSlice erased p.κ R).own_val (shr_ref p ys) (fat_val p ∷ [])

  -- a struct behind a `&mut`, opened
  abbrev pub OpenRef : At → R.Denot → Fml
  OpenRef p h = fsep (fobor p.κ p.q (Body (mem R) p.b p.o p.γ)) (fsep (fobs p.γ (R.coded.code h)) (fauth p.γ (R.coded.code h)))

  -- element i of a `&mut [T]`, taken out
  abbrev pub OpenAt : At → List R.Denot → ℕ → Fml
  OpenAt p ys i = fsep (mut_slice_at R (ref p ys) (fat_val p ∷ [])) (fsep (others (shares R) full_share ys i p.b p.o) (fsep (fobor p.κ p.q (Held R (length ys) p.b p.o p.γ)) (fsep (fobs p.γ ((coded_holeys R).code (heres R ys))) (fauth p.γ ((coded_holeys R).code (heres R ys))))))

  module _ {M : Type 1} {𝓤 : Ura M} (𝓛 : Logic 𝓤) (p : At) where
    open 𝓛 use {H, A}

    abbrev ⟦◌⟧ : Fml → SProp 𝓤
    ⟦ P ⟧ = sem 𝓛 P

    pub lend-ref : (h : R.Denot) → ent 𝓤 ⟦ HasRef p h ⟧ (H.⇛ (ex 𝓤 (λ (ν : ℕ). ex 𝓤 (λ (δ : GName). sep 𝓤 ⟦ HasRef (lent p ν δ) h ⟧ ⟦ KeptRef p ν δ h ⟧))))
    lend-ref h =
        qed 𝓛 (‵ (HasRef p h) ∷ []) ∵ updating ! $ fsplit ! $ lft_new ! tt (λ ν. move ! (1 ∷ 2 ∷ []) $
        use2 𝓛 (later (some (λ (δ : GName). ‵ ((MutRef erased (ν ∷ []) R).own_val (ref (lent p ν δ) h) (ptr_val p ∷ [])) ⊛ ‵ (KeptRef p ν δ h)))) (lend.lends_again 𝓛 R erased p.κ (ν ∷ []) p.q p.γ p.b p.o erased h) $ await ! tt $ pick ! (λ δ. split ! $
        at_once ! $ show ! (λ (ν' : ℕ). ex 𝓤 (λ (δ' : GName). sep 𝓤 ⟦ HasRef (lent p ν' δ') h ⟧ ⟦ KeptRef p ν' δ' h ⟧)) ν $ show ! (λ (δ' : GName). sep 𝓤 ⟦ HasRef (lent p ν δ') h ⟧ ⟦ KeptRef p ν δ' h ⟧) δ $
        move ! (0 ∷ 2 ∷ []) $ fjoin ! $ done !))

    pub back-ref : (ν : ℕ) (δ : GName) (h y : R.Denot) → ent 𝓤 (sep 𝓤 (A.lft (ν ∷ []) full_share) (sep 𝓤 (A.res δ (R.coded.code y)) ⟦ KeptRef p ν δ h ⟧)) (H.⇛ ⟦ HasRef p y ⟧)
    back-ref ν δ h y =
        qed 𝓛 (‵ (flft (ν ∷ []) full_share) ∷ ‵ (fres δ (R.coded.code y)) ∷ ‵ (KeptRef p ν δ h) ∷ []) ∵ updating ! $ lft_end ! tt $ move ! (0 ∷ 2 ∷ 1 ∷ []) $
        use3 𝓛 (later (‵ ((MutRef erased p.κ R).own_val (ref p y) (ptr_val p ∷ [])) ⊛ ‵ (flft p.κ p.q))) (lend.comes_back 𝓛 R erased p.κ (ν ∷ []) p.q p.γ p.b p.o δ h y) $ await ! tt $ split ! $ at_once ! $ fjoin ! $ done !

    pub lend-mut : (ys : List R.Denot) → ent 𝓤 ⟦ HasMut p ys ⟧ (H.⇛ (ex 𝓤 (λ (ν : ℕ). ex 𝓤 (λ (δ : GName). sep 𝓤 ⟦ HasMut (lent p ν δ) ys ⟧ ⟦ KeptMut p ν δ ys ⟧))))
    lend-mut ys =
        qed 𝓛 (‵ (HasMut p ys) ∷ []) ∵ updating ! $ fsplit ! $ fsplit ! $ pure_l ! (mut_slice_at R (ref p ys) (fat_val p ∷ [])) (λ e. fsplit ! $ opens_slice ! tt R ys p.b p.o $
        use1 𝓛 (‵ (cells (mem R) ys p.b p.o)) (whole_in 𝓛 R ys p.b p.o) $ lft_new ! tt (λ ν. move ! (1 ∷ []) $
        use1 𝓛 (later (some (λ (δ : GName). ‵ ((MutSlice erased (ν ∷ []) R).own_val (ref (lent p ν δ) ys) (slice_val (p.b, p.o) (length ys) ∷ [])) ⊛ ‵ (flent (ν ∷ []) (Held R (length ys) p.b p.o δ))))) (lends_slice 𝓛 R erased (ν ∷ []) ys p.b p.o e.1) $ await ! tt $ pick ! (λ δ. split ! $
        -- [the new slice; the lender's part; the token; the open borrow; obs; auth]
        fsplit ! $ drop ! $ pure_i ! (mut_slice_at R (ref (lent p ν δ) ys) (fat_val p ∷ [])) (tt, (tt, tt)) e $ fjoin ! $
        at_once ! $ show ! (λ (ν' : ℕ). ex 𝓤 (λ (δ' : GName). sep 𝓤 ⟦ HasMut (lent p ν' δ') ys ⟧ ⟦ KeptMut p ν' δ' ys ⟧)) ν $ show ! (λ (δ' : GName). sep 𝓤 ⟦ HasMut (lent p ν δ') ys ⟧ ⟦ KeptMut p ν δ' ys ⟧) δ $
        move ! (0 ∷ 2 ∷ []) $ fjoin ! $ frame ! $ move ! (2 ∷ 3 ∷ []) $ fjoin ! $ move ! (2 ∷ 0 ∷ []) $ fjoin ! $ move ! (1 ∷ 0 ∷ []) $ fjoin ! $ pure_i ! (mut_slice_at R (ref p ys) (fat_val p ∷ [])) (tt, (tt, tt)) e $ fjoin ! $ done !)))

    pub back-mut : (ν : ℕ) (δ : GName) (ys zs : List R.Denot) → length zs ≡ length ys → ent 𝓤 (sep 𝓤 (A.lft (ν ∷ []) full_share) (sep 𝓤 ⟦ finally R δ zs ⟧ ⟦ KeptMut p ν δ ys ⟧)) (H.⇛ ⟦ HasMut p zs ⟧)
    back-mut ν δ ys zs l =
        qed 𝓛 (‵ (flft (ν ∷ []) full_share) ∷ ‵ (finally R δ zs) ∷ ‵ (KeptMut p ν δ ys) ∷ []) ∵ updating ! $ lft_end ! tt $ move ! (2 ∷ []) $ fsplit ! $ pure_l ! (mut_slice_at R (ref p ys) (fat_val p ∷ [])) (λ e. fsplit ! $ move ! (2 ∷ 0 ∷ 3 ∷ []) $
        use3 𝓛 (later (‵ ((Arr (mem R) (length ys)).own_at zs p.b p.o))) (slice_back 𝓛 R (ν ∷ []) δ zs (length ys) p.b p.o) $ await ! tt $ fsplit ! $ drop ! $ use1 𝓛 (‵ (row R full_share zs p.b p.o)) (whole_out 𝓛 R zs p.b p.o) $
        move ! (1 ∷ []) $ fsplit ! $ move ! (1 ∷ []) $ fsplit ! $ move ! (3 ∷ 2 ∷ 0 ∷ 1 ∷ []) $ closes_slice ! tt R ys zs l p.b p.o $ at_once ! $
        fjoin ! $ pure_i ! (mut_slice_at R (ref p zs) (fat_val p ∷ [])) (tt, (tt, tt)) (e.0 ∙ ap (λ (m : ℕ). slice_val (p.b, p.o) m ∷ []) (sym l), subst (Room R) (sym l) e.1) $ fjoin ! $ fjoin ! $ done !)

    pub lend-shr : RowLaws R → (ys : List R.Denot) → ent 𝓤 ⟦ HasShr p ys ⟧ (sep 𝓤 ⟦ HasShr p ys ⟧ ⟦ KeptShr p ys ⟧)
    lend-shr L ys =
        qed 𝓛 (‵ (HasShr p ys) ∷ []) ∵ fsplit ! $ use1 𝓛 (‵ (KeptShr p ys) ⊛ ‵ (KeptShr p ys)) ((shr_slice_copy 𝓛 erased p.κ R L).twice (shr_ref p ys) (fat_val p ∷ [])) $ split ! $ move ! (0 ∷ 2 ∷ []) $ fjoin ! $ done !

    pub back_shr : (ys : List R.Denot) → ent 𝓤 (sep 𝓤 (A.lft p.κ p.q) ⟦ KeptShr p ys ⟧) ⟦ HasShr p ys ⟧
    back_shr ys = qed 𝓛 (‵ (flft p.κ p.q) ∷ ‵ (KeptShr p ys) ∷ []) ∵ move ! (1 ∷ 0 ∷ []) $ fjoin ! $ done !

    module _ (vals : R.Denot → List Val) (tl : Tells R (Is R) vals) where
      pub open_ref : (h : R.Denot) → ent 𝓤 ⟦ HasRef p h ⟧ (H.⇛ (guard 𝓤 (Is R h (vals h)) (sep 𝓤 ⟦ cell_at full_share R.mir (vals h) p.b p.o ⟧ ⟦ OpenRef p h ⟧)))
      open_ref h =
          qed 𝓛 (‵ (HasRef p h) ∷ []) ∵ updating ! $ fsplit ! $ fsplit3 ! $ feq_l ! (λ _. opens ! tt R {h = h} p.b p.o (λ vs. spelt ! R (Is R) (shows 𝓛 R) vals tl full_share h vs p.b p.o $
          move ! (1 ∷ []) $ peeks ! R (Is R) (shows 𝓛 R) h (vals h) (λ is. drop ! $ at_once ! $ check ! is $ frame ! $ move ! (1 ∷ 2 ∷ []) $ fjoin ! $ move ! (1 ∷ 0 ∷ []) $ fjoin ! $ done !)))

      pub shut-ref : Makes 𝓛 R (Is R) → (h y : R.Denot) → Is R y (vals y) → ent 𝓤 (sep 𝓤 ⟦ cell_at full_share R.mir (vals y) p.b p.o ⟧ ⟦ OpenRef p h ⟧) (H.⇛ ⟦ HasRef p y ⟧)
      shut-ref mk h y is =
          qed 𝓛 (‵ (cell_at full_share R.mir (vals y) p.b p.o) ∷ ‵ (OpenRef p h) ∷ []) ∵ updating ! $ move ! (1 ∷ []) $ fsplit3 ! $ owned ! R (Is R) mk y (vals y) is $ move ! (4 ∷ 0 ∷ []) $
          closes ! tt R y (vals y) p.b p.o $ at_once ! $ feq_i ! (List Val) (ptr_val p ∷ []) (ptr_val p ∷ []) refl $ fjoin3 ! $ fjoin ! $ done !

      pub open_at : (ys : List R.Denot) (i : ℕ) (d : R.Denot) → i < length ys
          → ent 𝓤 ⟦ HasMut p ys ⟧ (H.⇛ (guard 𝓤 (Is R (get_or ys i d) (vals (get_or ys i d))) (sep 𝓤 ⟦ cell_at full_share R.mir (vals (get_or ys i d)) p.b (place (mem R).size p.o i) ⟧ ⟦ OpenAt p ys i ⟧)))
      open_at ys i d l =
          qed 𝓛 (‵ (HasMut p ys) ∷ []) ∵ updating ! $ fsplit ! $ fsplit ! $ move ! (1 ∷ []) $ fsplit ! $ move ! (0 ∷ 1 ∷ 3 ∷ []) $ opens_slice ! tt R ys p.b p.o $
          elem_out ! R (Is R) (shows 𝓛 R) vals tl full_share ys i d p.b p.o l (λ is.
          -- [the element; what it owns; the others; the open borrow; obs; auth; the slice's fact]
          at_once ! $ check ! is $ frame ! $ drop ! $ move ! (2 ∷ 3 ∷ []) $ fjoin ! $ move ! (2 ∷ 0 ∷ []) $ fjoin ! $ move ! (1 ∷ 0 ∷ []) $ fjoin ! $ move ! (1 ∷ 0 ∷ []) $ fjoin ! $ done !)

      module _ (mk : Makes 𝓛 R (Is R)) where
        pub shut_at : (ys : List R.Denot) (i : ℕ) (y : R.Denot) → i < length ys → Is R y (vals y)
            → ent 𝓤 (sep 𝓤 ⟦ cell_at full_share R.mir (vals y) p.b (place (mem R).size p.o i) ⟧ ⟦ OpenAt p ys i ⟧) (H.⇛ ⟦ HasMut p (set ys i y) ⟧)
        shut_at ys i y l is =
            qed 𝓛 (‵ (cell_at full_share R.mir (vals y) p.b (place (mem R).size p.o i)) ∷ ‵ (OpenAt p ys i) ∷ []) ∵ updating ! $ move ! (1 ∷ []) $ fsplit ! $ pure_l ! (mut_slice_at R (ref p ys) (fat_val p ∷ [])) (λ e. fsplit ! $ move ! (1 ∷ []) $ fsplit3 ! $
            -- [the open borrow; obs; auth; the others; the cell]
            owned ! R (Is R) mk y (vals y) is $ move ! (5 ∷ 0 ∷ 4 ∷ []) $ elem_put ! R full_share ys i y (vals y) p.b p.o l $ closes_slice ! tt R ys (set ys i y) (length-set ys i y) p.b p.o $ at_once ! $
            fjoin ! $ pure_i ! (mut_slice_at R (ref p (set ys i y)) (fat_val p ∷ [])) (tt, (tt, tt)) (e.0 ∙ ap (λ (m : ℕ). slice_val (p.b, p.o) m ∷ []) (sym (length-set ys i y)), subst (Room R) (sym (length-set ys i y)) e.1) $ fjoin ! $ fjoin ! $ done !)

        pub back_at : (ys : List R.Denot) (i : ℕ) (d : R.Denot) → i < length ys → Is R (get_or ys i d) (vals (get_or ys i d))
            → ent 𝓤 (sep 𝓤 ⟦ cell_at full_share R.mir (vals (get_or ys i d)) p.b (place (mem R).size p.o i) ⟧ ⟦ OpenAt p ys i ⟧) (H.⇛ ⟦ HasMut p ys ⟧)
        back_at ys i d l is =
            qed 𝓛 (‵ (cell_at full_share R.mir (vals (get_or ys i d)) p.b (place (mem R).size p.o i)) ∷ ‵ (OpenAt p ys i) ∷ []) ∵ updating ! $ move ! (1 ∷ []) $ fsplit ! $ pure_l ! (mut_slice_at R (ref p ys) (fat_val p ∷ [])) (λ e. fsplit ! $ move ! (1 ∷ []) $ fsplit3 ! $
            owned ! R (Is R) mk (get_or ys i d) (vals (get_or ys i d)) is $ move ! (5 ∷ 0 ∷ 4 ∷ []) $ elem_back ! R full_share ys i d (vals (get_or ys i d)) p.b p.o l $ closes_slice ! tt R ys ys refl p.b p.o $ at_once ! $
            fjoin ! $ pure_i ! (mut_slice_at R (ref p ys) (fat_val p ∷ [])) (tt, (tt, tt)) e $ fjoin ! $ fjoin ! $ done !)

-- ---- a local struct that is lent for a call
abbrev pub local : ℕ → ℕ → GName → At
local l ν δ = record { κ = ν ∷ []; q = full_share; γ = δ; b = l; o = 0; n = 0 }

abbrev pub KeptLocal : RattleType → ℕ → ℕ → GName → Fml
KeptLocal R l ν δ = flent (ν ∷ []) (Body (mem R) l 0 δ)

module _ (R : RattleType) {M : Type 1} {𝓤 : Ura M} (𝓛 : Logic 𝓤) (vals : R.Denot → List Val) where
  open 𝓛 use {H}

  pub lend-local : Makes 𝓛 R (Is R) → (l : ℕ) (h : R.Denot) → Is R h (vals h)
      → ent 𝓤 (sem 𝓛 (cell_at full_share R.mir (vals h) l 0)) (H.⇛ (ex 𝓤 (λ (ν : ℕ). ex 𝓤 (λ (δ : GName). sep 𝓤 (sem 𝓛 (HasRef R (local l ν δ) h)) (sem 𝓛 (KeptLocal R l ν δ))))))
  unfolding part_of
  lend-local mk l h is =
      qed 𝓛 (‵ (cell_at full_share R.mir (vals h) l 0) ∷ []) ∵ updating ! $ owned ! R (Is R) mk h (vals h) is $ move ! (1 ∷ 0 ∷ []) $ fjoin ! $ fpack ! (List Val) (λ us. fsep (cell_at full_share R.mir us l 0) (R.own_val h us)) (vals h) $
      lft_new ! tt (λ ν. move ! (1 ∷ []) $ use1 𝓛 (later (some (λ (δ : GName). ‵ ((MutRef erased (ν ∷ []) R).own_val (ref (local l ν δ) h) (vptr l 0 ∷ [])) ⊛ ‵ (KeptLocal R l ν δ)))) (lend.lends_ref 𝓛 R erased (ν ∷ []) h l 0) $ await ! tt $ pick ! (λ δ. split ! $
      at_once ! $ show ! (λ (ν' : ℕ). ex 𝓤 (λ (δ' : GName). sep 𝓤 (sem 𝓛 (HasRef R (local l ν' δ') h)) (sem 𝓛 (KeptLocal R l ν' δ')))) ν $ show ! (λ (δ' : GName). sep 𝓤 (sem 𝓛 (HasRef R (local l ν δ') h)) (sem 𝓛 (KeptLocal R l ν δ'))) δ $
      move ! (0 ∷ 2 ∷ []) $ fjoin ! $ done !))

  pub back-local : Tells R (Is R) vals → (l ν : ℕ) (δ : GName) (y : R.Denot)
      → ent 𝓤 (sep 𝓤 (sem 𝓛 (HasRef R (local l ν δ) y)) (sem 𝓛 (KeptLocal R l ν δ))) (H.⇛ (guard 𝓤 (Is R y (vals y)) (sem 𝓛 (cell_at full_share R.mir (vals y) l 0))))
  unfolding part_of
  back-local tl l ν δ y =
      qed 𝓛 (‵ (HasRef R (local l ν δ) y) ∷ ‵ (KeptLocal R l ν δ) ∷ []) ∵ updating ! $ fsplit ! $ fsplit3 ! $ feq_l ! (λ _.
      -- [obs; the borrow; the token; the lender's part]
      use1 𝓛 (‵ (fres δ (R.coded.code y))) (𝓛.names.obs-res δ (R.coded.code y)) $ move ! (2 ∷ []) $ lft_end ! tt $ move ! (0 ∷ 3 ∷ 1 ∷ []) $
      use3 𝓛 (later (‵ ((mem R).own_at y l 0))) (lend.ref_back 𝓛 R (ν ∷ []) δ y l 0) $ await ! tt $ fpick ! (λ vs. fsplit ! $ spelt ! R (Is R) (shows 𝓛 R) vals tl full_share y vs l 0 $
      move ! (1 ∷ []) $ peeks ! R (Is R) (shows 𝓛 R) y (vals y) (λ is. at_once ! $ check ! is $ keep ! (1 ∷ []) $ done !)))

-- ---- the first k of a `&mut [T]`, `&mut s[..k]`, lent
abbrev pub part : At → ℕ → ℕ → GName → At
part p k ν δ = record { κ = ν ∷ []; q = full_share; γ = δ; b = p.b; o = p.o; n = k }

pub room-le : (R : RattleType) (k n : ℕ) → k ≤ n → Room R n → Room R k
room-le R k n h r = (lt_of_le_of_lt h r.0, lt_of_le_of_lt (mul-le-mul_right (mem R).size h) r.1)

pub part_length : {X : Type 0} (ys zs : List X) (k : ℕ) → length zs ≡ length (take k ys) → length (zs ++ skip k ys) ≡ length ys
part_length ys zs k l = length-append zs (skip k ys) ∙ ap (λ (n : ℕ). n + length (skip k ys)) l ∙ sym (length-append (take k ys) (skip k ys)) ∙ ap length (take-append-drop k ys)

module _ (R : RattleType) where
  abbrev pub KeptPart : At → ℕ → ℕ → GName → List R.Denot → Fml
  KeptPart p k ν δ ys = fsep (mut_slice_at R (ref p ys) (fat_val p ∷ [])) (fsep (flent (ν ∷ []) (Held R (length (take k ys)) p.b p.o δ)) (fsep (cells (mem R) (skip k ys) p.b (at p.o (mem R).size (length (take k ys)))) (fsep (fobor p.κ p.q (Held R (length ys) p.b p.o p.γ)) (fsep (fobs p.γ ((coded_holeys R).code (heres R ys))) (fauth p.γ ((coded_holeys R).code (heres R ys)))))))

  module _ {M : Type 1} {𝓤 : Ura M} (𝓛 : Logic 𝓤) (p : At) where
    open 𝓛 use {H}

    pub lend-part : (ys : List R.Denot) (k : ℕ) → length (take k ys) ≡ k → Room R k
        → ent 𝓤 (sem 𝓛 (HasMut R p ys)) (H.⇛ (ex 𝓤 (λ (ν : ℕ). ex 𝓤 (λ (δ : GName). sep 𝓤 (sem 𝓛 (HasMut R (part p k ν δ) (take k ys))) (sem 𝓛 (KeptPart p k ν δ ys))))))
    lend-part ys k l room =
        let e' : (slice_val (p.b, p.o) k ∷ [] ≡ slice_val (p.b, p.o) (length (take k ys)) ∷ []) × Room R (length (take k ys)) = (ap (λ (m : ℕ). slice_val (p.b, p.o) m ∷ []) (sym l), subst (Room R) (sym l) room) in
        qed 𝓛 (‵ (HasMut R p ys) ∷ []) ∵ updating ! $ fsplit ! $ fsplit ! $ pure_l ! (mut_slice_at R (ref p ys) (fat_val p ∷ [])) (λ e. fsplit ! $ opens_slice ! tt R ys p.b p.o $
        use1 𝓛 (‵ (cells (mem R) ys p.b p.o)) (whole_in 𝓛 R ys p.b p.o) $ rewrite ! 0 (λ (l' : List R.Denot). ‵ (cells (mem R) l' p.b p.o)) (sym (take-append-drop k ys)) refl $
        use1 𝓛 (‵ (cells (mem R) (take k ys) p.b p.o) ⊛ ‵ (cells (mem R) (skip k ys) p.b (at p.o (mem R).size (length (take k ys))))) (cut_app 𝓛 (mem R) (take k ys) (skip k ys) p.b p.o) $ split ! $ lft_new ! tt (λ ν. move ! (1 ∷ []) $
        use1 𝓛 (later (some (λ (δ : GName). ‵ ((MutSlice erased (ν ∷ []) R).own_val (ref (part p k ν δ) (take k ys)) (slice_val (p.b, p.o) (length (take k ys)) ∷ [])) ⊛ ‵ (flent (ν ∷ []) (Held R (length (take k ys)) p.b p.o δ))))) (lends_slice 𝓛 R erased (ν ∷ []) (take k ys) p.b p.o e'.1) $ await ! tt $ pick ! (λ δ. split ! $
        -- [the new slice; the lender's part; the token; the rest's cells; the open borrow; obs; auth]
        fsplit ! $ drop ! $ pure_i ! (mut_slice_at R (ref (part p k ν δ) (take k ys)) (fat_val (part p k ν δ) ∷ [])) (tt, (tt, tt)) e' $ fjoin ! $
        at_once ! $ show ! (λ (ν' : ℕ). ex 𝓤 (λ (δ' : GName). sep 𝓤 (sem 𝓛 (HasMut R (part p k ν' δ') (take k ys))) (sem 𝓛 (KeptPart p k ν' δ' ys)))) ν $ show ! (λ (δ' : GName). sep 𝓤 (sem 𝓛 (HasMut R (part p k ν δ') (take k ys))) (sem 𝓛 (KeptPart p k ν δ' ys))) δ $
        move ! (0 ∷ 2 ∷ []) $ fjoin ! $ frame ! $ move ! (3 ∷ 4 ∷ []) $ fjoin ! $ move ! (3 ∷ 0 ∷ []) $ fjoin ! $ move ! (2 ∷ 0 ∷ []) $ fjoin ! $ move ! (1 ∷ 0 ∷ []) $ fjoin ! $ pure_i ! (mut_slice_at R (ref p ys) (fat_val p ∷ [])) (tt, (tt, tt)) e $ fjoin ! $ done !)))

    pub back-part : (ys : List R.Denot) (k ν : ℕ) (δ : GName) (zs : List R.Denot) → length zs ≡ length (take k ys)
        → ent 𝓤 (sep 𝓤 (sem 𝓛 (HasMut R (part p k ν δ) zs)) (sem 𝓛 (KeptPart p k ν δ ys))) (H.⇛ (sem 𝓛 (HasMut R p (zs ++ skip k ys))))
    back-part ys k ν δ zs l =
        qed 𝓛 (‵ (HasMut R (part p k ν δ) zs) ∷ ‵ (KeptPart p k ν δ ys) ∷ []) ∵ updating ! $ fsplit ! $ fsplit ! $ drop ! $ fsplit ! $
        -- [obs; the borrow; the token; what is kept]
        use1 𝓛 (‵ (fres δ ((coded_holeys R).code (heres R zs)))) (𝓛.names.obs-res δ ((coded_holeys R).code (heres R zs))) $ use1 𝓛 (‵ (finally R δ zs)) (res-finally 𝓛 erased (ν ∷ []) R δ zs) $ move ! (2 ∷ []) $ lft_end ! tt $
        move ! (3 ∷ []) $ fsplit ! $ pure_l ! (mut_slice_at R (ref p ys) (fat_val p ∷ [])) (λ e. fsplit ! $
        -- [the lender's part; the rest that is kept; dead; the last list; the borrow]
        move ! (2 ∷ 0 ∷ 3 ∷ []) $ use3 𝓛 (later (‵ ((Arr (mem R) (length (take k ys))).own_at zs p.b p.o))) (slice_back 𝓛 R (ν ∷ []) δ zs (length (take k ys)) p.b p.o) $ await ! tt $ fsplit ! $ drop ! $
        move ! (1 ∷ []) $ fsplit ! $ rewrite ! 0 (λ (m : ℕ). ‵ (cells (mem R) (skip k ys) p.b (at p.o (mem R).size m))) (sym l) refl $ move ! (2 ∷ 0 ∷ []) $
        use2 𝓛 (‵ (cells (mem R) (zs ++ skip k ys) p.b p.o)) (join_app 𝓛 (mem R) zs (skip k ys) p.b p.o) $ use1 𝓛 (‵ (row R full_share (zs ++ skip k ys) p.b p.o)) (whole_out 𝓛 R (zs ++ skip k ys) p.b p.o) $
        move ! (1 ∷ []) $ fsplit3 ! $ move ! (3 ∷ 0 ∷ 1 ∷ 2 ∷ []) $ closes_slice ! tt R ys (zs ++ skip k ys) (part_length ys zs k l) p.b p.o $ at_once ! $
        fjoin ! $ pure_i ! (mut_slice_at R (ref p (zs ++ skip k ys)) (fat_val p ∷ [])) (tt, (tt, tt)) (e.0 ∙ ap (λ (m : ℕ). slice_val (p.b, p.o) m ∷ []) (sym (part_length ys zs k l)), subst (Room R) (sym (part_length ys zs k l)) e.1) $ fjoin ! $ fjoin ! $ keep ! (0 ∷ []) $ done !)
