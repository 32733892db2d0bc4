-- The two ends of a walk by hand, as laws over the list of the function's parameters. It says nothing of any one crate.
--     Leaves ρ v, Enters ρ vss     what a function owes at its return, at the machine value v, and what it has at its entry, at the machine values vss: the `post` and the `pre` of its contract, by computation. LeavesBy T, EntersBy T: beside the tokens T
--     Quiet ps         nothing is said at exit of what is passed by value: `tt` shows it
--     leaves           what a walk holds at its return, and its clauses, give `Leaves`.        ends     the same as a rule: the locals are freed too
--     Facing ss X      X of what is passed, under each parameter and what is known of it at entry
--     Takes ls ps      the locals after the result are of the parameters' types: a `refl` for each plain value shows it
--     WalkFor, WalkIn  a walk: from `Begun`, where the locals are there and the arguments are stored, through the function's body to `Leaves`
--     walks, walks-under, proves, proves-by      a walk is a proof of the contract: of the MIR; of the MIR, under what else is known (a cycle of calls); of the function's own entry; the same from other tokens than one for each reference (`halves`: a lifetime that two references have)
--     env-of, Stands   where a walk stands at a loop's head, a join or a cut.        say      a fact is put there.        span      positions in a row
-- Assumes `Logic`.
use mathlib.Core.Path.{◌≡◌, refl, sym, ap, subst}
use Prim.Native.Nat.{ℕ, zero, suc}
use mathlib.Core.List.{List, [], ◌∷◌, ◌++◌}
use mathlib.Core.Bool.{Bool, true, false}
use mathlib.Core.Option.{Option, some as full, none}
use lib.Dec.{T}
use base.Fraction as PosShare
use base.Fraction.{full_share}
use lib.ListN.{length}
use seplogic.Ra.Ura.{Ura}
use mir.Syntax.{Ty, Local, local, Fn, return, erased}
use mir.Val.{Val, has_ty, WT}
use base.Logic.{SProp, ent, sep, ex, emp, id⊢, via, fst∗, snd∗, mono_l, mono_r, ex_i, ex_e}
use base.Fml.{Fml, Lft, Share, ftrue, ffalse, feq, flt, fsep, fand, for, fwand, fex, fall, fupd, fat, froom, fdies, flft, fdead, fobs, fauth, fres, fbor, fobor, flent, fshr_bor, fhide, fleft, fown, finv, fnamed, ftok, fkid, fme, fsent}
use prog.Wp.{Heap, Env, Calls, Loops, WpFn, Closed, returns as returnsᴼ, at_return}
use prog.Model.{Model}
use prog.Routine.{Callee, Env as Named}
use types.Logic.{Logic, sem}
use contract.Monad.{fact, fact_i, fact_use}
use contract.Lifetimes.{Lfts, Shares}
use contract.Running.{Running, tables, tables_of}
use sound.WpLaws.{WpFn-mono}
use types.Kit.{Item, ‵, raw, Step, some, given, later, rewrite, Post, post, Seq, mean, ⋆, push, pop, ++⊢, ⊢++, Goal, allocs, params', passes, runs, at_ret, Sq, ◌⊛◌, ◌$◌, ◌∵◌, !, qed, by, move, keep, drop, use0, use1, use2, split, join, fsplit, fsplit3, fjoin, feq_i, suffices, frame, updating, now as at_once, show, done}
use types.Run.{enter, alloc0, alloc1, params1, pass0, pass1, init, look, returns_within}
use denote.Memory.{mem}
use denote.Lend.{Held as Borrowed}
use types.SemTy.{Body as Referent}
use denote.Exit.{yes, Exit, unchanged, leaves as leavesᴱ, Last, left}
use denote.Laws.{Is, shows}
use denote.Ref.{Bor, MutBor, MutRef, mut_Tells}
use denote.Slice.{MutSlice, ShrSlice, Room, finally, res-finally, coded_holeys, heres, mut_slice_Tells, shr_slice_Tells}
use denote.Steps.{owned, nothing}
use Rattle.reference_laws.proofs.Flow.{Cells, Dies, frees_any}
use Rattle.reference_laws.proofs.Hand.{At, ref, shr_ref, ptr_val, fat_val, HasRef, HasMut, HasShr}
use Rattle.reference_laws.proofs.Call.{Par, by-val, by_shr, by-same, by-mut, by-ref, Each, Vss, Vs, Fins, Zs, seen, Told, Every, Rule, clauses, hear-all, say-all, HeldAt, Held, Sort, val, shr, same, mut, ref', Inputs, Terms, first-life, pars-of, rule-of}

-- ---- a value that was passed and of which nothing is said at exit
abbrev quiet_then : {X : Type 0} → Exit X → Type 0 → Type 0
quiet_then unchanged P = P
quiet_then (leavesᴱ L l S s z) P = ⊥

abbrev last_of : {X : Type 0} (e : Exit X) (d : X) (P : Type 0) → quiet_then e P → Last e d
last_of unchanged d P q = tt
last_of (leavesᴱ L l S s z) d P q = absurd q

abbrev rest_of : {X : Type 0} (e : Exit X) (P : Type 0) → quiet_then e P → P
rest_of unchanged P q = q
rest_of (leavesᴱ L l S s z) P q = absurd q

left-of : {M : Type 1} {𝓤 : Ura M} (𝓛 : Logic 𝓤) {X : Type 0} (e : Exit X) (d : X) (P : Type 0) (q : quiet_then e P) → ent 𝓤 (emp 𝓤) (sem 𝓛 (left e d (last_of e d P q)))
left-of {𝓤 = 𝓤} 𝓛 unchanged d P q = id⊢ 𝓤 (emp 𝓤)
left-of 𝓛 (leavesᴱ L l S s z) d P q = absurd q

abbrev pub Quiet : List Par → Type 0
Quiet [] = Unit {0}
Quiet (by-val D d ∷ ps) = quiet_then (D.row.exit yes) (Quiet ps)
Quiet (by_shr R p ys ∷ ps) = Quiet ps
Quiet (by-same R p ys κ ∷ ps) = Quiet ps
Quiet (by-mut R p ys ∷ ps) = Quiet ps
Quiet (by-ref R p h ∷ ps) = Quiet ps

-- the last values, as the contract binds them
abbrev finals : (ps : List Par) → Quiet ps → Zs ps → Fins ps
finals [] q zs = tt
finals (by-val D d ∷ ps) q zs = (last_of (D.row.exit yes) d (Quiet ps) q, finals ps (rest_of (D.row.exit yes) (Quiet ps) q) zs)
finals (by_shr R p ys ∷ ps) q zs = (tt, finals ps q zs)
finals (by-same R p ys κ ∷ ps) q zs = (tt, finals ps q zs)
finals (by-mut R p ys ∷ ps) q zs = (zs.0, finals ps q zs.1)
finals (by-ref R p h ∷ ps) q zs = (zs.0, finals ps q zs.1)

seen-finals : (ps : List Par) (q : Quiet ps) (zs : Zs ps) → seen ps (finals ps q zs) ≡ zs
seen-finals [] q zs = refl
seen-finals (by-val D d ∷ ps) q zs = seen-finals ps (rest_of (D.row.exit yes) (Quiet ps) q) zs
seen-finals (by_shr R p ys ∷ ps) q zs = seen-finals ps q zs
seen-finals (by-same R p ys κ ∷ ps) q zs = seen-finals ps q zs
seen-finals (by-mut R p ys ∷ ps) q zs = ap (λ (z : Zs ps). (zs.0, z)) (seen-finals ps q zs.1)
seen-finals (by-ref R p h ∷ ps) q zs = ap (λ (z : Zs ps). (zs.0, z)) (seen-finals ps q zs.1)

-- what is said of the last values
abbrev pub LeftsIn : (ps : List Par) → Fins ps → Fml
LeftsIn [] ws = ftrue
LeftsIn (by-val D d ∷ ps) ws = fsep (left (D.row.exit yes) d ws.0) (LeftsIn ps ws.1)
LeftsIn (by_shr R p ys ∷ ps) ws = fsep ftrue (LeftsIn ps ws.1)
LeftsIn (by-same R p ys κ ∷ ps) ws = fsep ftrue (LeftsIn ps ws.1)
LeftsIn (by-mut R p ys ∷ ps) ws = fsep (fsep (fsep (finally R p.γ ws.0) (feq ℕ (length ws.0) (length ys))) (fbor p.κ (Borrowed R (length ys) p.b p.o p.γ))) (LeftsIn ps ws.1)
LeftsIn (by-ref R p h ∷ ps) ws = fsep (fsep (fres p.γ (R.coded.code ws.0)) (fbor p.κ (Referent (mem R) p.b p.o p.γ))) (LeftsIn ps ws.1)

-- what the parameters own at entry, at the machine values vss
abbrev pub OwnsIn : (ps : List Par) → Each ps → Fml
OwnsIn [] vss = ftrue
OwnsIn (by-val D d ∷ ps) vss = fsep (D.row.own_val d vss.0) (OwnsIn ps vss.1)
OwnsIn (by_shr R p ys ∷ ps) vss = fsep ((ShrSlice erased p.κ R).own_val (shr_ref p ys) vss.0) (OwnsIn ps vss.1)
OwnsIn (by-same R p ys κ ∷ ps) vss = fsep ((ShrSlice erased p.κ R).own_val (shr_ref p ys) vss.0) (OwnsIn ps vss.1)
OwnsIn (by-mut R p ys ∷ ps) vss = fsep ((MutSlice erased p.κ R).own_val (ref p ys) vss.0) (OwnsIn ps vss.1)
OwnsIn (by-ref R p h ∷ ps) vss = fsep ((MutRef erased p.κ R).own_val (ref p h) vss.0) (OwnsIn ps vss.1)

abbrev pub flat-of : (ps : List Par) → Each ps → List Val
flat-of [] vss = []
flat-of (p ∷ ps) vss = vss.0 ++ flat-of ps vss.1

flat-Vss : (ps : List Par) → flat-of ps (Vss ps) ≡ Vs ps
flat-Vss [] = refl
flat-Vss (p ∷ ps) = ap (λ (vs : List Val). Vs (p ∷ []) ++ vs) (flat-Vss ps)

module _ {M : Type 1} {𝓤 : Ura M} (𝓛 : Logic 𝓤) where
  -- a token for each reference
  open 𝓛 use {H, A}

  abbrev pub ToksIn : List Par → SProp 𝓤
  ToksIn [] = emp 𝓤
  ToksIn (by-val D d ∷ ps) = ToksIn ps
  ToksIn (by_shr R p ys ∷ ps) = sep 𝓤 (A.lft p.κ p.q) (ToksIn ps)
  ToksIn (by-same R p ys κ ∷ ps) = sep 𝓤 (A.lft p.κ p.q) (ToksIn ps)
  ToksIn (by-mut R p ys ∷ ps) = sep 𝓤 (A.lft p.κ p.q) (ToksIn ps)
  ToksIn (by-ref R p h ∷ ps) = sep 𝓤 (A.lft p.κ p.q) (ToksIn ps)

  abbrev Said : (ρ : Rule) → ρ.result.row.Denot → Fins ρ.pars → SProp 𝓤
  Said ρ r ws = sep 𝓤 (sem 𝓛 (LeftsIn ρ.pars ws)) (clauses 𝓤 (ρ.ensures r (seen ρ.pars ws)))

  -- beside the tokens T
  abbrev EndedBy : SProp 𝓤 → (ρ : Rule) → Val → ρ.result.row.Denot → SProp 𝓤
  EndedBy T ρ v r = sep 𝓤 (sep 𝓤 T (sem 𝓛 (ρ.result.row.own_val r (v ∷ [])))) (ex 𝓤 (Said ρ r))

  abbrev pub LeavesBy : SProp 𝓤 → Rule → Val → SProp 𝓤
  LeavesBy T ρ v = H.⇛ (ex 𝓤 (EndedBy T ρ v))

  abbrev pub EntersBy : SProp 𝓤 → (ρ : Rule) → Each ρ.pars → SProp 𝓤
  EntersBy T ρ vss = sep 𝓤 (sep 𝓤 T (sem 𝓛 (OwnsIn ρ.pars vss))) (clauses 𝓤 ρ.requires)

  abbrev Ended : (ρ : Rule) → Val → ρ.result.row.Denot → SProp 𝓤
  Ended ρ = EndedBy (ToksIn ρ.pars) ρ

  abbrev pub Leaves : Rule → Val → SProp 𝓤
  Leaves ρ = LeavesBy (ToksIn ρ.pars) ρ

  abbrev pub Enters : (ρ : Rule) → Each ρ.pars → SProp 𝓤
  Enters ρ = EntersBy (ToksIn ρ.pars) ρ

  module _ where
    give-up : (ps : List Par) (q : Quiet ps) (zs : Zs ps) (E : Type 0) → Told ps zs E → ent 𝓤 (⋆ 𝓛 (HeldAt 𝓤 ps zs)) (sep 𝓤 (ToksIn ps) (sem 𝓛 (LeftsIn ps (finals ps q zs))))
    give-up [] q zs E e = qed 𝓛 [] ∵ nothing ! $ nothing ! $ frame ! $ done !
    give-up (by-val D d ∷ ps) q zs E e =
        let q' : Quiet ps = rest_of (D.row.exit yes) (Quiet ps) q in
        qed 𝓛 (raw (⋆ 𝓛 (HeldAt 𝓤 ps zs)) ∷ []) ∵ use1 𝓛 (raw (ToksIn ps) ⊛ ‵ (LeftsIn ps (finals ps q' zs))) (give-up ps q' zs E e) $ split ! $ frame ! $
        use0 𝓛 (‵ (left (D.row.exit yes) d (last_of (D.row.exit yes) d (Quiet ps) q))) (left-of 𝓛 (D.row.exit yes) d (Quiet ps) q) $ fjoin ! $ done !
    give-up (by_shr R p ys ∷ ps) q zs E e = via 𝓤 (sep 𝓤 (sem 𝓛 (HasShr R p ys)) (⋆ 𝓛 (HeldAt 𝓤 ps zs))) (pop 𝓛 (‵ (HasShr R p ys)) (HeldAt 𝓤 ps zs)) (
        qed 𝓛 (‵ (HasShr R p ys) ∷ raw (⋆ 𝓛 (HeldAt 𝓤 ps zs)) ∷ []) ∵ fsplit ! $ drop ! $ move ! (1 ∷ []) $ use1 𝓛 (raw (ToksIn ps) ⊛ ‵ (LeftsIn ps (finals ps q zs))) (give-up ps q zs E e) $ split ! $
        move ! (2 ∷ 0 ∷ []) $ join ! $ frame ! $ nothing ! $ fjoin ! $ done !)
    give-up (by-same R p ys κ ∷ ps) q zs E e = via 𝓤 (sep 𝓤 (sem 𝓛 (HasShr R p ys)) (⋆ 𝓛 (HeldAt 𝓤 ps zs))) (pop 𝓛 (‵ (HasShr R p ys)) (HeldAt 𝓤 ps zs)) (
        qed 𝓛 (‵ (HasShr R p ys) ∷ raw (⋆ 𝓛 (HeldAt 𝓤 ps zs)) ∷ []) ∵ fsplit ! $ drop ! $ move ! (1 ∷ []) $ use1 𝓛 (raw (ToksIn ps) ⊛ ‵ (LeftsIn ps (finals ps q zs))) (give-up ps q zs E e) $ split ! $
        move ! (2 ∷ 0 ∷ []) $ join ! $ frame ! $ nothing ! $ fjoin ! $ done !)
    give-up (by-mut R p ys ∷ ps) q zs E e = via 𝓤 (sep 𝓤 (sem 𝓛 (HasMut R p zs.0)) (⋆ 𝓛 (HeldAt 𝓤 ps zs.1))) (pop 𝓛 (‵ (HasMut R p zs.0)) (HeldAt 𝓤 ps zs.1)) (
        qed 𝓛 (‵ (HasMut R p zs.0) ∷ raw (⋆ 𝓛 (HeldAt 𝓤 ps zs.1)) ∷ []) ∵ fsplit ! $ fsplit ! $ move ! (1 ∷ []) $ fsplit ! $
        -- [its name's value; its borrow; its place; its token; the rest]
        use1 𝓛 (‵ (fres p.γ ((coded_holeys R).code (heres R zs.0)))) (𝓛.names.obs-res p.γ ((coded_holeys R).code (heres R zs.0))) $ use1 𝓛 (‵ (finally R p.γ zs.0)) (res-finally 𝓛 erased p.κ R p.γ zs.0) $
        move ! (4 ∷ []) $ use1 𝓛 (raw (ToksIn ps) ⊛ ‵ (LeftsIn ps (finals ps q zs.1))) (give-up ps q zs.1 E e.1) $ split ! $
        -- [tokens; said; its last list; its borrow; its place; its token]
        move ! (5 ∷ 0 ∷ []) $ join ! $ frame ! $ feq_i ! ℕ (length zs.0) (length ys) e.0 $ move ! (2 ∷ 0 ∷ []) $ fjoin ! $
        rewrite ! 2 (λ (m : ℕ). ‵ (fbor p.κ (Borrowed R m p.b p.o p.γ))) e.0 refl $ move ! (0 ∷ 2 ∷ []) $ fjoin ! $ fjoin ! $ keep ! (0 ∷ []) $ done !)
    give-up (by-ref R p h ∷ ps) q zs E e = via 𝓤 (sep 𝓤 (sem 𝓛 (HasRef R p zs.0)) (⋆ 𝓛 (HeldAt 𝓤 ps zs.1))) (pop 𝓛 (‵ (HasRef R p zs.0)) (HeldAt 𝓤 ps zs.1)) (
        qed 𝓛 (‵ (HasRef R p zs.0) ∷ raw (⋆ 𝓛 (HeldAt 𝓤 ps zs.1)) ∷ []) ∵ fsplit ! $ fsplit3 ! $ move ! (1 ∷ []) $
        use1 𝓛 (‵ (fres p.γ (R.coded.code zs.0))) (𝓛.names.obs-res p.γ (R.coded.code zs.0)) $
        move ! (4 ∷ []) $ use1 𝓛 (raw (ToksIn ps) ⊛ ‵ (LeftsIn ps (finals ps q zs.1))) (give-up ps q zs.1 E e) $ split ! $
        move ! (5 ∷ 0 ∷ []) $ join ! $ frame ! $ move ! (1 ∷ 3 ∷ []) $ fjoin ! $ fjoin ! $ keep ! (0 ∷ []) $ done !)

    pub leaves : (ρ : Rule) → Quiet ρ.pars → (r : ρ.result.row.Denot) → Is ρ.result.row r (ρ.result.val r ∷ []) → (zs : Zs ρ.pars) → Told ρ.pars zs (Unit {0}) → Every (ρ.ensures r zs)
        → ent 𝓤 (⋆ 𝓛 (HeldAt 𝓤 ρ.pars zs)) (Leaves ρ (ρ.result.val r))
    leaves ρ q r is zs kept e =
        let ws : Fins ρ.pars = finals ρ.pars q zs in
        let e' : Every (ρ.ensures r (seen ρ.pars ws)) = subst (λ (z : Zs ρ.pars). Every (ρ.ensures r z)) (sym (seen-finals ρ.pars q zs)) e in
        qed 𝓛 (raw (⋆ 𝓛 (HeldAt 𝓤 ρ.pars zs)) ∷ []) ∵ updating ! $ use1 𝓛 (raw (ToksIn ρ.pars) ⊛ ‵ (LeftsIn ρ.pars ws)) (give-up ρ.pars q zs (Unit {0}) kept) $ split ! $ at_once ! $
        show ! (Ended ρ (ρ.result.val r)) r $ owned ! ρ.result.row (Is ρ.result.row) (ρ.result.makes M 𝓤 𝓛) r (ρ.result.val r ∷ []) is $ move ! (1 ∷ 0 ∷ []) $ join ! $ frame ! $
        show ! (Said ρ r) ws $ frame ! $ use0 𝓛 (raw (clauses 𝓤 (ρ.ensures r (seen ρ.pars ws)))) (say-all 𝓤 (ρ.ensures r (seen ρ.pars ws)) e') $ done !

-- ---- the entry
-- a lifetime and a share for each reference
abbrev pub refs : List Sort → ℕ
refs [] = zero
refs (val D ∷ ss) = refs ss
refs (shr R ∷ ss) = suc (refs ss)
refs (same R ∷ ss) = suc (refs ss)
refs (mut R ∷ ss) = suc (refs ss)
refs (ref' R ∷ ss) = suc (refs ss)

abbrev pub Passed : List Sort → Type 0
Passed [] = Unit {0}
Passed (val D ∷ ss) = D.row.Denot × Passed ss
Passed (shr R ∷ ss) = Bor (List R.Denot) × Passed ss
Passed (same R ∷ ss) = Bor (List R.Denot) × Passed ss
Passed (mut R ∷ ss) = MutBor (List R.Denot) × Passed ss
Passed (ref' R ∷ ss) = MutBor R.Denot × Passed ss

abbrev slice_at : {X : Type 0} → Lft → Share → MutBor (List X) → At
slice_at κ q x = record { κ = κ; q = q; γ = x.ghost_name; b = x.ref_ptr.0; o = x.ref_ptr.1; n = length x.now }

abbrev shr_slice_at : {X : Type 0} → Lft → Share → Bor (List X) → At
shr_slice_at κ q x = record { κ = κ; q = q; γ = zero; b = x.ref_ptr.0; o = x.ref_ptr.1; n = length x.now }

abbrev ref-at : {X : Type 0} → Lft → Share → MutBor X → At
ref-at κ q x = record { κ = κ; q = q; γ = x.ghost_name; b = x.ref_ptr.0; o = x.ref_ptr.1; n = zero }

-- what a walk is over, of what the contract binds
abbrev pub inputs : (ss : List Sort) → Lfts (refs ss) → Shares (refs ss) → Passed ss → Inputs ss
inputs [] κs qs a = tt
inputs (val D ∷ ss) κs qs a = (a.0, inputs ss κs qs a.1)
inputs (shr R ∷ ss) κs qs a = ((shr_slice_at κs.0 qs.0 a.0, a.0.now), inputs ss κs.1 qs.1 a.1)
inputs (same R ∷ ss) κs qs a = ((shr_slice_at κs.0 qs.0 a.0, a.0.now), inputs ss κs.1 qs.1 a.1)
inputs (mut R ∷ ss) κs qs a = ((slice_at κs.0 qs.0 a.0, a.0.now), inputs ss κs.1 qs.1 a.1)
inputs (ref' R ∷ ss) κs qs a = ((ref-at κs.0 qs.0 a.0, a.0.now), inputs ss κs.1 qs.1 a.1)

-- each parameter, and what is known of it
abbrev pub Facing : (ss : List Sort) → (Inputs ss → Type 1) → Type 1
Facing [] X = X tt
Facing (val D ∷ ss) X = (d : D.row.Denot) → D.fact d → Facing ss (λ x. X (d, x))
Facing (shr R ∷ ss) X = (p : At) (ys : List R.Denot) → Room R p.n → p.n ≡ length ys → Facing ss (λ x. X ((p, ys), x))
Facing (same R ∷ ss) X = (p : At) (ys : List R.Denot) → Room R p.n → p.n ≡ length ys → Facing ss (λ x. X ((p, ys), x))
Facing (mut R ∷ ss) X = (p : At) (ys : List R.Denot) → Room R p.n → p.n ≡ length ys → Facing ss (λ x. X ((p, ys), x))
Facing (ref' R ∷ ss) X = (p : At) (h : R.Denot) → Facing ss (λ x. X ((p, h), x))

-- the relation of each parameter
abbrev pub Related : (ps : List Par) → Each ps → Type 0
Related [] vss = Unit {0}
Related (by-val D d ∷ ps) vss = Is D.row d vss.0 × Related ps vss.1
Related (by_shr R p ys ∷ ps) vss = Is (ShrSlice erased p.κ R) (shr_ref p ys) vss.0 × Related ps vss.1
Related (by-same R p ys κ ∷ ps) vss = Is (ShrSlice erased p.κ R) (shr_ref p ys) vss.0 × Related ps vss.1
Related (by-mut R p ys ∷ ps) vss = Is (MutSlice erased p.κ R) (ref p ys) vss.0 × Related ps vss.1
Related (by-ref R p h ∷ ps) vss = Is (MutRef erased p.κ R) (ref p h) vss.0 × Related ps vss.1

abbrev given_by : Lft → (ss : List Sort) → Lfts (refs ss) → Shares (refs ss) → Passed ss → List Par
given_by κ ss κs qs a = pars-of κ ss (inputs ss κs qs a)

-- the machine values can only be those
spelled : (κ : Lft) (ss : List Sort) (κs : Lfts (refs ss)) (qs : Shares (refs ss)) (a : Passed ss) (vss : Each (given_by κ ss κs qs a)) → Related (given_by κ ss κs qs a) vss → vss ≡ Vss (given_by κ ss κs qs a)
spelled κ [] κs qs a vss g = refl
spelled κ (val D ∷ ss) κs qs a vss g = λ i. (D.tells a.0 vss.0 g.0 i, spelled κ ss κs qs a.1 vss.1 g.1 i)
spelled κ (shr R ∷ ss) κs qs a vss g = λ i. (shr_slice_Tells erased κs.0 R a.0 vss.0 g.0 i, spelled κ ss κs.1 qs.1 a.1 vss.1 g.1 i)
spelled κ (same R ∷ ss) κs qs a vss g = λ i. (shr_slice_Tells erased κs.0 R a.0 vss.0 g.0 i, spelled κ ss κs.1 qs.1 a.1 vss.1 g.1 i)
spelled κ (mut R ∷ ss) κs qs a vss g = λ i. (mut_slice_Tells erased κs.0 R a.0 vss.0 g.0 i, spelled κ ss κs.1 qs.1 a.1 vss.1 g.1 i)
spelled κ (ref' R ∷ ss) κs qs a vss g = λ i. (mut_Tells erased κs.0 R a.0 vss.0 g.0 i, spelled κ ss κs.1 qs.1 a.1 vss.1 g.1 i)

faced : (κ : Lft) (ss : List Sort) (X : Inputs ss → Type 1) → Facing ss X → (κs : Lfts (refs ss)) (qs : Shares (refs ss)) (a : Passed ss) → Related (given_by κ ss κs qs a) (Vss (given_by κ ss κs qs a)) → X (inputs ss κs qs a)
faced κ [] X w κs qs a g = w
faced κ (val D ∷ ss) X w κs qs a g = faced κ ss (λ x. X (a.0, x)) (w a.0 (D.known a.0 g.0)) κs qs a.1 g.1
faced κ (shr R ∷ ss) X w κs qs a g = let p : At = shr_slice_at κs.0 qs.0 a.0 in faced κ ss (λ x. X ((p, a.0.now), x)) (w p a.0.now g.0.0.1 refl) κs.1 qs.1 a.1 g.1
faced κ (same R ∷ ss) X w κs qs a g = let p : At = shr_slice_at κs.0 qs.0 a.0 in faced κ ss (λ x. X ((p, a.0.now), x)) (w p a.0.now g.0.0.1 refl) κs.1 qs.1 a.1 g.1
faced κ (mut R ∷ ss) X w κs qs a g = let p : At = slice_at κs.0 qs.0 a.0 in faced κ ss (λ x. X ((p, a.0.now), x)) (w p a.0.now g.0.0.1 refl) κs.1 qs.1 a.1 g.1
faced κ (ref' R ∷ ss) X w κs qs a g = let p : At = ref-at κs.0 qs.0 a.0 in faced κ ss (λ x. X ((p, a.0.now), x)) (w p a.0.now) κs.1 qs.1 a.1 g.1

module _ {M : Type 1} {𝓤 : Ura M} (𝓛 : Logic 𝓤) where
  both : (P Q : SProp 𝓤) (φ ψ : Type 0) → ent 𝓤 P (fact 𝓤 φ) → ent 𝓤 Q (fact 𝓤 ψ) → ent 𝓤 (sep 𝓤 P Q) (fact 𝓤 (φ × ψ))
  both P Q φ ψ h k = fact_use 𝓤 φ (via 𝓤 P (fst∗ 𝓤 P Q) h) (λ x. fact_use 𝓤 ψ (via 𝓤 Q (snd∗ 𝓤 P Q) k) (λ y. fact_i 𝓤 (φ × ψ) (sep 𝓤 P Q) (x, y)))

  related : (ps : List Par) (vss : Each ps) → ent 𝓤 (sem 𝓛 (OwnsIn ps vss)) (fact 𝓤 (Related ps vss))
  related [] vss = fact_i 𝓤 (Unit {0}) (emp 𝓤) tt
  related (by-val D d ∷ ps) vss = both _ _ _ _ (shows 𝓛 D.row d vss.0) (related ps vss.1)
  related (by_shr R p ys ∷ ps) vss = both _ _ _ _ (shows 𝓛 (ShrSlice erased p.κ R) (shr_ref p ys) vss.0) (related ps vss.1)
  related (by-same R p ys κ ∷ ps) vss = both _ _ _ _ (shows 𝓛 (ShrSlice erased p.κ R) (shr_ref p ys) vss.0) (related ps vss.1)
  related (by-mut R p ys ∷ ps) vss = both _ _ _ _ (shows 𝓛 (MutSlice erased p.κ R) (ref p ys) vss.0) (related ps vss.1)
  related (by-ref R p h ∷ ps) vss = both _ _ _ _ (shows 𝓛 (MutRef erased p.κ R) (ref p h) vss.0) (related ps vss.1)

  module _ where
    take-up : (ps : List Par) → ent 𝓤 (sep 𝓤 (ToksIn 𝓛 ps) (sem 𝓛 (OwnsIn ps (Vss ps)))) (⋆ 𝓛 (Held 𝓛 ps))
    take-up [] = fst∗ 𝓤 (emp 𝓤) (emp 𝓤)
    take-up (by-val D d ∷ ps) = qed 𝓛 (raw (ToksIn 𝓛 ps) ∷ ‵ (fsep (D.row.own_val d (D.val d ∷ [])) (OwnsIn ps (Vss ps))) ∷ []) ∵ move ! (1 ∷ []) $ fsplit ! $ drop ! $ move ! (1 ∷ 0 ∷ []) $ use2 𝓛 (raw (⋆ 𝓛 (Held 𝓛 ps))) (take-up ps) $ done !
    take-up (by_shr R p ys ∷ ps) = qed 𝓛 ((‵ (flft p.κ p.q) ⊛ raw (ToksIn 𝓛 ps)) ∷ ‵ (fsep ((ShrSlice erased p.κ R).own_val (shr_ref p ys) (fat_val p ∷ [])) (OwnsIn ps (Vss ps))) ∷ []) ∵ split ! $ move ! (2 ∷ []) $ fsplit ! $ move ! (3 ∷ 1 ∷ []) $ use2 𝓛 (raw (⋆ 𝓛 (Held 𝓛 ps))) (take-up ps) $
        move ! (1 ∷ 2 ∷ []) $ fjoin ! $ suffices ! _ (push 𝓛 (‵ (HasShr R p ys)) (Held 𝓛 ps)) $ done !
    take-up (by-same R p ys κ ∷ ps) = qed 𝓛 ((‵ (flft p.κ p.q) ⊛ raw (ToksIn 𝓛 ps)) ∷ ‵ (fsep ((ShrSlice erased p.κ R).own_val (shr_ref p ys) (fat_val p ∷ [])) (OwnsIn ps (Vss ps))) ∷ []) ∵ split ! $ move ! (2 ∷ []) $ fsplit ! $ move ! (3 ∷ 1 ∷ []) $ use2 𝓛 (raw (⋆ 𝓛 (Held 𝓛 ps))) (take-up ps) $
        move ! (1 ∷ 2 ∷ []) $ fjoin ! $ suffices ! _ (push 𝓛 (‵ (HasShr R p ys)) (Held 𝓛 ps)) $ done !
    take-up (by-mut R p ys ∷ ps) = qed 𝓛 ((‵ (flft p.κ p.q) ⊛ raw (ToksIn 𝓛 ps)) ∷ ‵ (fsep ((MutSlice erased p.κ R).own_val (ref p ys) (fat_val p ∷ [])) (OwnsIn ps (Vss ps))) ∷ []) ∵ split ! $ move ! (2 ∷ []) $ fsplit ! $ move ! (3 ∷ 1 ∷ []) $ use2 𝓛 (raw (⋆ 𝓛 (Held 𝓛 ps))) (take-up ps) $
        move ! (1 ∷ 2 ∷ []) $ fjoin ! $ suffices ! _ (push 𝓛 (‵ (HasMut R p ys)) (Held 𝓛 ps)) $ done !
    take-up (by-ref R p h ∷ ps) = qed 𝓛 ((‵ (flft p.κ p.q) ⊛ raw (ToksIn 𝓛 ps)) ∷ ‵ (fsep ((MutRef erased p.κ R).own_val (ref p h) (ptr_val p ∷ [])) (OwnsIn ps (Vss ps))) ∷ []) ∵ split ! $ move ! (2 ∷ []) $ fsplit ! $ move ! (3 ∷ 1 ∷ []) $ use2 𝓛 (raw (⋆ 𝓛 (Held 𝓛 ps))) (take-up ps) $
        move ! (1 ∷ 2 ∷ []) $ fjoin ! $ suffices ! _ (push 𝓛 (‵ (HasRef R p h)) (Held 𝓛 ps)) $ done !

-- ---- the locals: allocated, and the arguments stored
module _ {M : Type 1} (𝓤 : Ura M) (H : Heap 𝓤) where
  abbrev pub Allocs : List Local → (Env 𝓤 H → Type 1) → Type 1
  Allocs [] X = X []
  Allocs (local τ h ∷ ls) X = (b : ℕ) → Allocs ls (λ E. X ((τ, b) ∷ E))

  abbrev pub Dying : Env 𝓤 H → Item 𝓤
  Dying [] = ‵ ftrue
  Dying (e ∷ E) = Dies 𝓤 H e E

  each_local : (ls : List Local) (X Y : Env 𝓤 H → Type 1) → ((E : Env 𝓤 H) → X E → Y E) → Allocs ls X → Allocs ls Y
  each_local [] X Y f k = f [] k
  each_local (local τ h ∷ ls) X Y f k = λ b. each_local ls (λ E. X ((τ, b) ∷ E)) (λ E. Y ((τ, b) ∷ E)) (λ E. f ((τ, b) ∷ E)) (k b)

  abbrev Typeds : Env 𝓤 H → List Val → Type 0
  Typeds E [] = Unit {0}
  Typeds [] (v ∷ vs) = ⊥
  Typeds (e ∷ E) (v ∷ vs) = (T (has_ty e.0 v) × WT v) × Typeds E vs

abbrev holds_then : Bool → Type 0 → Type 0
holds_then true P = P
holds_then false P = ⊥

holds_of : (z : Bool) (P : Type 0) → holds_then z P → T z × P
holds_of true P h = (tt, h)
holds_of false P h = absurd h

-- the locals after the result are of the parameters' types: a `refl` for each plain value shows it
abbrev pub Takes : List Local → List Par → Type 0
Takes ls [] = Unit {0}
Takes [] (p ∷ ps) = ⊥
Takes (local τ h ∷ ls) (by-val D d ∷ ps) = (τ ≡ D.mir) × Takes ls ps
Takes (local τ h ∷ ls) (by_shr R p ys ∷ ps) = holds_then (has_ty τ (fat_val p)) (Takes ls ps)
Takes (local τ h ∷ ls) (by-same R p ys κ ∷ ps) = holds_then (has_ty τ (fat_val p)) (Takes ls ps)
Takes (local τ h ∷ ls) (by-mut R p ys ∷ ps) = holds_then (has_ty τ (fat_val p)) (Takes ls ps)
Takes (local τ h ∷ ls) (by-ref R p h' ∷ ps) = holds_then (has_ty τ (ptr_val p)) (Takes ls ps)

abbrev Fitting : List Par → Type 0
Fitting [] = Unit {0}
Fitting (by-val D d ∷ ps) = Is D.row d (D.val d ∷ []) × Fitting ps
Fitting (by_shr R p ys ∷ ps) = Room R p.n × Fitting ps
Fitting (by-same R p ys κ ∷ ps) = Room R p.n × Fitting ps
Fitting (by-mut R p ys ∷ ps) = Room R p.n × Fitting ps
Fitting (by-ref R p h ∷ ps) = Fitting ps

fitting : (κ : Lft) (ss : List Sort) (κs : Lfts (refs ss)) (qs : Shares (refs ss)) (a : Passed ss) → Related (given_by κ ss κs qs a) (Vss (given_by κ ss κs qs a)) → Fitting (given_by κ ss κs qs a)
fitting κ [] κs qs a g = tt
fitting κ (val D ∷ ss) κs qs a g = (g.0, fitting κ ss κs qs a.1 g.1)
fitting κ (shr R ∷ ss) κs qs a g = (g.0.0.1, fitting κ ss κs.1 qs.1 a.1 g.1)
fitting κ (same R ∷ ss) κs qs a g = (g.0.0.1, fitting κ ss κs.1 qs.1 a.1 g.1)
fitting κ (mut R ∷ ss) κs qs a g = (g.0.0.1, fitting κ ss κs.1 qs.1 a.1 g.1)
fitting κ (ref' R ∷ ss) κs qs a g = fitting κ ss κs.1 qs.1 a.1 g.1

abbrev fulls : List Val → List (Option Val)
fulls [] = []
fulls (v ∷ vs) = full v ∷ fulls vs

module _ {M : Type 1} {𝓤 : Ura M} (𝓛 : Logic 𝓤) where
  open 𝓛 use {H}

  typed-all : (ls : List Local) (ps : List Par) (X : Env 𝓤 H → Type 1) → Takes ls ps → Fitting ps → Allocs 𝓤 H ls (λ E. Typeds 𝓤 H E (Vs ps) → X E) → Allocs 𝓤 H ls X
  typed-all ls [] X t f k = each_local 𝓤 H ls (λ E. Unit {0} → X E) X (λ E x. x tt) k
  typed-all [] (p ∷ ps) X t f k = absurd t
  typed-all (local τ h ∷ ls) (by-val D d ∷ ps) X t f k = λ b. typed-all ls ps (λ E. X ((τ, b) ∷ E)) t.1 f.1
      (each_local 𝓤 H ls (λ E. Typeds 𝓤 H ((τ, b) ∷ E) (D.val d ∷ Vs ps) → X ((τ, b) ∷ E)) (λ E. Typeds 𝓤 H E (Vs ps) → X ((τ, b) ∷ E)) (λ E x ts. x (subst (λ (σ : Ty). T (has_ty σ (D.val d)) × WT (D.val d)) (sym t.0) (D.typed M 𝓤 𝓛 d f.0), ts)) (k b))
  typed-all (local τ h ∷ ls) (by_shr R p ys ∷ ps) X t f k = let z : T (has_ty τ (fat_val p)) × Takes ls ps = holds_of (has_ty τ (fat_val p)) (Takes ls ps) t in λ b. typed-all ls ps (λ E. X ((τ, b) ∷ E)) z.1 f.1
      (each_local 𝓤 H ls (λ E. Typeds 𝓤 H ((τ, b) ∷ E) (fat_val p ∷ Vs ps) → X ((τ, b) ∷ E)) (λ E. Typeds 𝓤 H E (Vs ps) → X ((τ, b) ∷ E)) (λ E x ts. x ((z.0, (tt, (record { fits = f.0.0 }, tt))), ts)) (k b))
  typed-all (local τ h ∷ ls) (by-same R p ys κ ∷ ps) X t f k = let z : T (has_ty τ (fat_val p)) × Takes ls ps = holds_of (has_ty τ (fat_val p)) (Takes ls ps) t in λ b. typed-all ls ps (λ E. X ((τ, b) ∷ E)) z.1 f.1
      (each_local 𝓤 H ls (λ E. Typeds 𝓤 H ((τ, b) ∷ E) (fat_val p ∷ Vs ps) → X ((τ, b) ∷ E)) (λ E. Typeds 𝓤 H E (Vs ps) → X ((τ, b) ∷ E)) (λ E x ts. x ((z.0, (tt, (record { fits = f.0.0 }, tt))), ts)) (k b))
  typed-all (local τ h ∷ ls) (by-mut R p ys ∷ ps) X t f k = let z : T (has_ty τ (fat_val p)) × Takes ls ps = holds_of (has_ty τ (fat_val p)) (Takes ls ps) t in λ b. typed-all ls ps (λ E. X ((τ, b) ∷ E)) z.1 f.1
      (each_local 𝓤 H ls (λ E. Typeds 𝓤 H ((τ, b) ∷ E) (fat_val p ∷ Vs ps) → X ((τ, b) ∷ E)) (λ E. Typeds 𝓤 H E (Vs ps) → X ((τ, b) ∷ E)) (λ E x ts. x ((z.0, (tt, (record { fits = f.0.0 }, tt))), ts)) (k b))
  typed-all (local τ h ∷ ls) (by-ref R p h' ∷ ps) X t f k = let z : T (has_ty τ (ptr_val p)) × Takes ls ps = holds_of (has_ty τ (ptr_val p)) (Takes ls ps) t in λ b. typed-all ls ps (λ E. X ((τ, b) ∷ E)) z.1 f
      (each_local 𝓤 H ls (λ E. Typeds 𝓤 H ((τ, b) ∷ E) (ptr_val p ∷ Vs ps) → X ((τ, b) ∷ E)) (λ E. Typeds 𝓤 H E (Vs ps) → X ((τ, b) ∷ E)) (λ E x ts. x ((z.0, tt), ts)) (k b))

  lift : (i : Item 𝓤) (Δ Γ : List (Item 𝓤)) → ent 𝓤 (⋆ 𝓛 (Δ ++ (i ∷ Γ))) (⋆ 𝓛 (i ∷ (Δ ++ Γ)))
  lift i Δ Γ = via 𝓤 (sep 𝓤 (⋆ 𝓛 Δ) (⋆ 𝓛 (i ∷ Γ))) (⊢++ 𝓛 Δ (i ∷ Γ)) (via 𝓤 (sep 𝓤 (⋆ 𝓛 Δ) (sep 𝓤 (mean 𝓛 i) (⋆ 𝓛 Γ))) (mono_r 𝓤 (⋆ 𝓛 Δ) (pop 𝓛 i Γ))
      (qed 𝓛 (raw (⋆ 𝓛 Δ) ∷ i ∷ raw (⋆ 𝓛 Γ) ∷ []) ∵ suffices ! _ (push 𝓛 i (Δ ++ Γ)) $ move ! (1 ∷ []) $ frame ! $ by ! (++⊢ 𝓛 Δ Γ)))

  sink : (i : Item 𝓤) (Δ Γ : List (Item 𝓤)) → ent 𝓤 (⋆ 𝓛 (i ∷ (Δ ++ Γ))) (⋆ 𝓛 (Δ ++ (i ∷ Γ)))
  sink i Δ Γ = via 𝓤 (sep 𝓤 (mean 𝓛 i) (⋆ 𝓛 (Δ ++ Γ))) (pop 𝓛 i (Δ ++ Γ)) (via 𝓤 (sep 𝓤 (mean 𝓛 i) (sep 𝓤 (⋆ 𝓛 Δ) (⋆ 𝓛 Γ))) (mono_r 𝓤 (mean 𝓛 i) (⊢++ 𝓛 Δ Γ))
      (qed 𝓛 (i ∷ raw (⋆ 𝓛 Δ) ∷ raw (⋆ 𝓛 Γ) ∷ []) ∵ suffices ! _ (++⊢ 𝓛 Δ (i ∷ Γ)) $ move ! (1 ∷ []) $ frame ! $ by ! (push 𝓛 i Γ)))

  more-dies : (e : Ty × ℕ) (E : Env 𝓤 H) → ent 𝓤 (sep 𝓤 (H.dies e.0 e.1) (mean 𝓛 (Dying 𝓤 H E))) (mean 𝓛 (Dying 𝓤 H (e ∷ E)))
  more-dies e [] = fst∗ 𝓤 (H.dies e.0 e.1) (emp 𝓤)
  more-dies e (e' ∷ E) = id⊢ 𝓤 _

  gathers : (e : Ty × ℕ) (E : Env 𝓤 H) (Γ : List (Item 𝓤)) → ent 𝓤 (⋆ 𝓛 (Dying 𝓤 H E ∷ (Cells 𝓤 H E [] ++ (‵ (froom e.0 e.1 0) ∷ ‵ (fdies e.0 e.1) ∷ Γ)))) (⋆ 𝓛 (Dying 𝓤 H (e ∷ E) ∷ (Cells 𝓤 H (e ∷ E) [] ++ Γ)))
  gathers e E Γ =
      let D : SProp 𝓤 = mean 𝓛 (Dying 𝓤 H E) in let r : Item 𝓤 = ‵ (froom e.0 e.1 0) in let d : Item 𝓤 = ‵ (fdies e.0 e.1) in let Δ : List (Item 𝓤) = Cells 𝓤 H E [] in
      via 𝓤 (sep 𝓤 D (⋆ 𝓛 (Δ ++ (r ∷ d ∷ Γ)))) (pop 𝓛 (Dying 𝓤 H E) (Δ ++ (r ∷ d ∷ Γ))) (
      via 𝓤 (sep 𝓤 D (⋆ 𝓛 (r ∷ (Δ ++ (d ∷ Γ))))) (mono_r 𝓤 D (lift r Δ (d ∷ Γ))) (
      via 𝓤 (sep 𝓤 D (sep 𝓤 (mean 𝓛 r) (⋆ 𝓛 (Δ ++ (d ∷ Γ))))) (mono_r 𝓤 D (pop 𝓛 r (Δ ++ (d ∷ Γ)))) (
      via 𝓤 (sep 𝓤 D (sep 𝓤 (mean 𝓛 r) (⋆ 𝓛 (d ∷ (Δ ++ Γ))))) (mono_r 𝓤 D (mono_r 𝓤 (mean 𝓛 r) (lift d Δ Γ))) (
      via 𝓤 (sep 𝓤 D (sep 𝓤 (mean 𝓛 r) (sep 𝓤 (mean 𝓛 d) (⋆ 𝓛 (Δ ++ Γ))))) (mono_r 𝓤 D (mono_r 𝓤 (mean 𝓛 r) (pop 𝓛 d (Δ ++ Γ)))) (
      qed 𝓛 (Dying 𝓤 H E ∷ r ∷ d ∷ raw (⋆ 𝓛 (Δ ++ Γ)) ∷ []) ∵ move ! (2 ∷ 0 ∷ []) $ use2 𝓛 (Dying 𝓤 H (e ∷ E)) (more-dies e E) $ frame ! $ by ! (push 𝓛 r (Δ ++ Γ)))))))

  alloc_all : (ls : List Local) (Kt : Env 𝓤 H → Goal 𝓤 H) (Γ : List (Item 𝓤)) → Allocs 𝓤 H ls (λ E. Sq 𝓛 (Dying 𝓤 H E ∷ (Cells 𝓤 H E [] ++ Γ)) (Kt E)) → Sq 𝓛 Γ (allocs ls Kt)
  alloc_all [] Kt Γ k = alloc0 ! $ nothing ! $ k
  alloc_all (local τ h ∷ ls) Kt Γ k = alloc1 ! (λ b. alloc_all ls (λ E. Kt ((τ, b) ∷ E)) (‵ (froom τ b 0) ∷ ‵ (fdies τ b) ∷ Γ)
      (each_local 𝓤 H ls (λ E. Sq 𝓛 (Dying 𝓤 H ((τ, b) ∷ E) ∷ (Cells 𝓤 H ((τ, b) ∷ E) [] ++ Γ)) (Kt ((τ, b) ∷ E))) (λ E. Sq 𝓛 (Dying 𝓤 H E ∷ (Cells 𝓤 H E [] ++ (‵ (froom τ b 0) ∷ ‵ (fdies τ b) ∷ Γ))) (Kt ((τ, b) ∷ E)))
      (λ E s. record { prf = via 𝓤 _ (gathers (τ, b) E Γ) s.prf }) (k b)))

  pass_all : (E : Env 𝓤 H) (vs : List Val) (g : Goal 𝓤 H) (Γ : List (Item 𝓤)) → Typeds 𝓤 H E vs → Sq 𝓛 (Cells 𝓤 H E (fulls vs) ++ Γ) g → Sq 𝓛 (Cells 𝓤 H E [] ++ Γ) (passes E vs g)
  pass_all [] [] g Γ t s = pass0 ! $ s
  pass_all (e ∷ E) [] g Γ t s = pass0 ! $ s
  pass_all [] (v ∷ vs) g Γ t s = absurd t
  pass_all (e ∷ E) (v ∷ vs) g Γ t s = pass1 ! (init ! 0 refl t.0) $ record {
    prf = via 𝓤 _ (sink (‵ (fat full_share e.0 e.1 0 v)) (Cells 𝓤 H E []) Γ)
        (pass_all E vs g (‵ (fat full_share e.0 e.1 0 v) ∷ Γ) t.1 (record { prf = via 𝓤 _ (lift (‵ (fat full_share e.0 e.1 0 v)) (Cells 𝓤 H E (fulls vs)) Γ) s.prf })).prf;
  }

  -- what a walk has when its body begins: that its locals may end, their cells, and what it holds
  abbrev pub Begun : Env 𝓤 H → List Val → List (Item 𝓤) → List (Item 𝓤)
  Begun E vs Γ = Dying 𝓤 H E ∷ (Cells 𝓤 H E (none ∷ fulls vs) ++ Γ)

  store-all : (E : Env 𝓤 H) (vs : List Val) (g : Goal 𝓤 H) (Γ : List (Item 𝓤)) → (e : Ty × ℕ) → Typeds 𝓤 H E vs → Sq 𝓛 (Begun (e ∷ E) vs Γ) g → Sq 𝓛 (Dying 𝓤 H (e ∷ E) ∷ (Cells 𝓤 H (e ∷ E) [] ++ Γ)) (params' (e ∷ E) vs g)
  store-all E vs g Γ e t s =
      let D : Item 𝓤 = Dying 𝓤 H (e ∷ E) in let r : Item 𝓤 = ‵ (froom e.0 e.1 0) in let Δ : List (Item 𝓤) = Cells 𝓤 H E [] in let Δ' : List (Item 𝓤) = Cells 𝓤 H E (fulls vs) in
      let s' : Sq 𝓛 (r ∷ D ∷ (Δ' ++ Γ)) g = move ! (1 ∷ 0 ∷ []) $ s in
      params1 ! $ move ! (1 ∷ 0 ∷ []) $ record {
        prf = via 𝓤 _ (via 𝓤 _ (pop 𝓛 r (D ∷ (Δ ++ Γ))) (via 𝓤 _ (mono_r 𝓤 (mean 𝓛 r) (sink D Δ Γ)) (via 𝓤 _ (push 𝓛 r (Δ ++ (D ∷ Γ))) (sink r Δ (D ∷ Γ)))))
            (pass_all E vs g (r ∷ D ∷ Γ) t (record { prf = via 𝓤 _ (via 𝓤 _ (lift r Δ' (D ∷ Γ)) (via 𝓤 _ (pop 𝓛 r (Δ' ++ (D ∷ Γ))) (via 𝓤 _ (mono_r 𝓤 (mean 𝓛 r) (lift D Δ' Γ)) (push 𝓛 r (D ∷ (Δ' ++ Γ)))))) s'.prf })).prf;
      }

  abbrev pub TakesIn : List Local → List Par → Type 0
  TakesIn [] ps = ⊥
  TakesIn (l ∷ ls) ps = Takes ls ps

  begin-all : (ls : List Local) (ps : List Par) (Kt : Env 𝓤 H → Goal 𝓤 H) (Γ : List (Item 𝓤)) → TakesIn ls ps → Fitting ps → Allocs 𝓤 H ls (λ E. Sq 𝓛 (Begun E (Vs ps) Γ) (Kt E)) → Sq 𝓛 Γ (allocs ls (λ E. params' E (Vs ps) (Kt E)))
  begin-all [] ps Kt Γ t f k = absurd t
  begin-all (local τ h ∷ ls) ps Kt Γ t f k = alloc_all (local τ h ∷ ls) (λ E. params' E (Vs ps) (Kt E)) Γ (λ b.
      typed-all ls ps (λ E. Sq 𝓛 (Dying 𝓤 H ((τ, b) ∷ E) ∷ (Cells 𝓤 H ((τ, b) ∷ E) [] ++ Γ)) (params' ((τ, b) ∷ E) (Vs ps) (Kt ((τ, b) ∷ E)))) t f
      (each_local 𝓤 H ls (λ E. Sq 𝓛 (Begun ((τ, b) ∷ E) (Vs ps) Γ) (Kt ((τ, b) ∷ E))) (λ E. Typeds 𝓤 H E (Vs ps) → Sq 𝓛 (Dying 𝓤 H ((τ, b) ∷ E) ∷ (Cells 𝓤 H ((τ, b) ∷ E) [] ++ Γ)) (params' ((τ, b) ∷ E) (Vs ps) (Kt ((τ, b) ∷ E))))
      (λ E s ts. store-all E (Vs ps) (Kt ((τ, b) ∷ E)) Γ (τ, b) ts s) (k b)))

-- ---- a walk is a proof of the contract
module _ {M : Type 1} {𝓤 : Ura M} (𝓛 : Logic 𝓤) (C : Calls 𝓤 𝓛.H) (Λ : Loops 𝓤 𝓛.H) (f : Fn) (F : Terms) where
  -- the code, from where its body begins
  open 𝓛 use {H}

  abbrev pub WalkIn : Inputs F.sorts → Type 1
  WalkIn x = Allocs 𝓤 H f.locals (λ E. Sq 𝓛 (Begun 𝓛 E (Vs (rule-of F x).pars) (Held 𝓛 (rule-of F x).pars)) (runs C Λ E f.body (at_ret E (Leaves 𝓛 (rule-of F x)))))

  abbrev pub WalkFor : Inputs F.sorts → Type 1
  WalkFor x = Every (rule-of F x).requires → WalkIn x

  module _ (κs : Lfts (refs F.sorts)) (qs : Shares (refs F.sorts)) (a : Passed F.sorts) where
    abbrev xᵢ : Inputs F.sorts
    xᵢ = inputs F.sorts κs qs a

    abbrev ρᵢ : Rule
    ρᵢ = rule-of F xᵢ

    pub walk_from : (vss : Each ρᵢ.pars) → TakesIn 𝓛 f.locals ρᵢ.pars → (Related ρᵢ.pars (Vss ρᵢ.pars) → WalkFor xᵢ) → ent 𝓤 (Enters 𝓛 ρᵢ vss) (WpFn 𝓤 H C Λ f (flat-of ρᵢ.pars vss) (Leaves 𝓛 ρᵢ))
    walk_from vss takes w =
        let TO : SProp 𝓤 = sep 𝓤 (ToksIn 𝓛 ρᵢ.pars) (sem 𝓛 (OwnsIn ρᵢ.pars vss)) in
        let κ : Lft = first-life F.sorts xᵢ in
        fact_use 𝓤 (Every ρᵢ.requires) (via 𝓤 (clauses 𝓤 ρᵢ.requires) (snd∗ 𝓤 TO (clauses 𝓤 ρᵢ.requires)) (hear-all 𝓤 ρᵢ.requires)) (λ req.
        via 𝓤 TO (fst∗ 𝓤 TO (clauses 𝓤 ρᵢ.requires)) (
        fact_use 𝓤 (Related ρᵢ.pars vss) (via 𝓤 (sem 𝓛 (OwnsIn ρᵢ.pars vss)) (snd∗ 𝓤 (ToksIn 𝓛 ρᵢ.pars) (sem 𝓛 (OwnsIn ρᵢ.pars vss))) (related 𝓛 ρᵢ.pars vss)) (λ g.
        let e : vss ≡ Vss ρᵢ.pars = spelled κ F.sorts κs qs a vss g in
        let g' : Related ρᵢ.pars (Vss ρᵢ.pars) = subst (Related ρᵢ.pars) e g in
        subst (λ (us : Each ρᵢ.pars). ent 𝓤 (sep 𝓤 (ToksIn 𝓛 ρᵢ.pars) (sem 𝓛 (OwnsIn ρᵢ.pars us))) (WpFn 𝓤 H C Λ f (flat-of ρᵢ.pars us) (Leaves 𝓛 ρᵢ))) (sym e)
        (subst (λ (vs : List Val). ent 𝓤 (sep 𝓤 (ToksIn 𝓛 ρᵢ.pars) (sem 𝓛 (OwnsIn ρᵢ.pars (Vss ρᵢ.pars)))) (WpFn 𝓤 H C Λ f vs (Leaves 𝓛 ρᵢ))) (sym (flat-Vss ρᵢ.pars))
        (via 𝓤 (⋆ 𝓛 (Held 𝓛 ρᵢ.pars)) (take-up 𝓛 ρᵢ.pars) (qed 𝓛 (Held 𝓛 ρᵢ.pars) ∵ enter ! C Λ f (Vs ρᵢ.pars) (Leaves 𝓛 ρᵢ) $
        begin-all 𝓛 f.locals ρᵢ.pars (λ E. runs C Λ E f.body (at_ret E (Leaves 𝓛 ρᵢ))) (Held 𝓛 ρᵢ.pars) takes (fitting κ F.sorts κs qs a g') (w g' req)))))))

    pub walks : (vss : Each ρᵢ.pars) → TakesIn 𝓛 f.locals ρᵢ.pars → Facing F.sorts WalkFor → ent 𝓤 (Enters 𝓛 ρᵢ vss) (WpFn 𝓤 H C Λ f (flat-of ρᵢ.pars vss) (Leaves 𝓛 ρᵢ))
    walks vss takes w = walk_from vss takes (λ g. faced (first-life F.sorts xᵢ) F.sorts WalkFor w κs qs a g)

    -- a walk under what else is known of what is passed, as in a cycle of calls
    pub walks-under : (P : Inputs F.sorts → Type 1) → P xᵢ → (vss : Each ρᵢ.pars) → TakesIn 𝓛 f.locals ρᵢ.pars → Facing F.sorts (λ x. P x → WalkFor x) → ent 𝓤 (Enters 𝓛 ρᵢ vss) (WpFn 𝓤 H C Λ f (flat-of ρᵢ.pars vss) (Leaves 𝓛 ρᵢ))
    walks-under P p vss takes w = walk_from vss takes (λ g. faced (first-life F.sorts xᵢ) F.sorts (λ x. P x → WalkFor x) w κs qs a g p)

-- a function's theorem, at its own entry
module _ {M : Type 1} {𝓤 : Ura M} (𝓛 : Logic 𝓤) (𝓜 : Model 𝓤 𝓛.H) (𝓡 : Running 𝓤 𝓛.H 𝓜) (γ : Named) where
  open 𝓛 use {H}

  pub proves : (k : Callee) (f : Fn) → Closed 𝓤 H (tables 𝓤 H 𝓜 𝓡 γ).C (tables 𝓤 H 𝓜 𝓡 γ).Λ k f → (F : Terms) (κs : Lfts (refs F.sorts)) (qs : Shares (refs F.sorts)) (a : Passed F.sorts) (vss : Each (rule-of F (inputs F.sorts κs qs a)).pars)
      → TakesIn 𝓛 f.locals (rule-of F (inputs F.sorts κs qs a)).pars → Facing F.sorts (WalkFor 𝓛 (tables 𝓤 H 𝓜 𝓡 γ).C (tables 𝓤 H 𝓜 𝓡 γ).Λ f F)
      → ent 𝓤 (Enters 𝓛 (rule-of F (inputs F.sorts κs qs a)) vss) ((tables 𝓤 H 𝓜 𝓡 γ).C k (flat-of (rule-of F (inputs F.sorts κs qs a)).pars vss) (Leaves 𝓛 (rule-of F (inputs F.sorts κs qs a))))
  proves k f closed F κs qs a vss takes w = via 𝓤 _ (walks 𝓛 (tables 𝓤 H 𝓜 𝓡 γ).C (tables 𝓤 H 𝓜 𝓡 γ).Λ f F κs qs a vss takes w) (closed _ _)

-- ---- the return
-- a lifetime that two references have: its token is held by halves
module _ {M : Type 1} {𝓤 : Ura M} (𝓛 : Logic 𝓤) (κ : Lft) (q : Share) (R : SProp 𝓤) where
  open 𝓛 use {A}

  pub halves : ent 𝓤 (sep 𝓤 (A.lft κ q) R) (sep 𝓤 (A.lft κ (PosShare.left q)) (sep 𝓤 (A.lft κ (PosShare.right q)) R))
  halves = qed 𝓛 (‵ (flft κ q) ∷ raw R ∷ []) ∵ use1 𝓛 (‵ (flft κ (PosShare.left q)) ⊛ ‵ (flft κ (PosShare.right q))) (𝓛.lfts.lft_split κ q) $ split ! $ done !

  pub whole_again : ent 𝓤 (sep 𝓤 (A.lft κ (PosShare.left q)) (sep 𝓤 (A.lft κ (PosShare.right q)) R)) (sep 𝓤 (A.lft κ q) R)
  whole_again = qed 𝓛 (‵ (flft κ (PosShare.left q)) ∷ ‵ (flft κ (PosShare.right q)) ∷ raw R ∷ []) ∵ use2 𝓛 (‵ (flft κ q)) (𝓛.lfts.lft_join κ q) $ done !

module _ {M : Type 1} {𝓤 : Ura M} (𝓛 : Logic 𝓤) (𝓜 : Model 𝓤 𝓛.H) (𝓡 : Running 𝓤 𝓛.H 𝓜) (γ : Named) where
  -- the same from other tokens T than one for each reference
  open 𝓛 use {H}

  pub proves-by : (k : Callee) (f : Fn) → Closed 𝓤 H (tables 𝓤 H 𝓜 𝓡 γ).C (tables 𝓤 H 𝓜 𝓡 γ).Λ k f → (F : Terms) (κs : Lfts (refs F.sorts)) (qs : Shares (refs F.sorts)) (a : Passed F.sorts) (vss : Each (rule-of F (inputs F.sorts κs qs a)).pars)
      (T : SProp 𝓤) → ent 𝓤 T (ToksIn 𝓛 (rule-of F (inputs F.sorts κs qs a)).pars) → ent 𝓤 (ToksIn 𝓛 (rule-of F (inputs F.sorts κs qs a)).pars) T
      → TakesIn 𝓛 f.locals (rule-of F (inputs F.sorts κs qs a)).pars
      → (Related (rule-of F (inputs F.sorts κs qs a)).pars (Vss (rule-of F (inputs F.sorts κs qs a)).pars) → WalkFor 𝓛 (tables 𝓤 H 𝓜 𝓡 γ).C (tables 𝓤 H 𝓜 𝓡 γ).Λ f F (inputs F.sorts κs qs a))
      → ent 𝓤 (EntersBy 𝓛 T (rule-of F (inputs F.sorts κs qs a)) vss) ((tables 𝓤 H 𝓜 𝓡 γ).C k (flat-of (rule-of F (inputs F.sorts κs qs a)).pars vss) (LeavesBy 𝓛 T (rule-of F (inputs F.sorts κs qs a))))
  unfolding tables_of
  proves-by k f closed F κs qs a vss T there back takes w =
      let ρ : Rule = rule-of F (inputs F.sorts κs qs a) in
      via 𝓤 (Enters 𝓛 ρ vss) (mono_l 𝓤 (clauses 𝓤 ρ.requires) (mono_l 𝓤 (sem 𝓛 (OwnsIn ρ.pars vss)) there)) (
      via 𝓤 _ (walk_from 𝓛 (tables 𝓤 H 𝓜 𝓡 γ).C (tables 𝓤 H 𝓜 𝓡 γ).Λ f F κs qs a vss takes w) (
      via 𝓤 _ (WpFn-mono 𝓤 H 𝓛.laws (tables_of 𝓤 H 𝓜 (tables 𝓤 H 𝓜 𝓡 γ)) f (flat-of ρ.pars vss) (Leaves 𝓛 ρ) (LeavesBy 𝓛 T ρ)
      (λ v. 𝓛.laws.⇛_mono _ _ (ex_e 𝓤 (Ended 𝓛 ρ v) (λ r. via 𝓤 (EndedBy 𝓛 T ρ v r) (mono_l 𝓤 (ex 𝓤 (Said 𝓛 ρ r)) (mono_l 𝓤 (sem 𝓛 (ρ.result.row.own_val r (v ∷ []))) back)) (ex_i 𝓤 (EndedBy 𝓛 T ρ v) r)))))
      (closed _ _)))

-- the locals of a function at their blocks
abbrev pub env-of : List Local → List ℕ → List (Ty × ℕ)
env-of [] bs = []
env-of (local τ h ∷ ls) [] = []
env-of (local τ h ∷ ls) (b ∷ bs) = (τ, b) ∷ env-of ls bs

-- where a walk stands: a fact, that the locals E may end, their cells, and what is held
abbrev pub Stands : {M : Type 1} (𝓤 : Ura M) (H : Heap 𝓤) → Type 0 → Env 𝓤 H → List (Option Val) → List (Item 𝓤) → List (Item 𝓤)
Stands 𝓤 H φ E vs Γ = raw (fact 𝓤 φ) ∷ Dying 𝓤 H E ∷ (Cells 𝓤 H E vs ++ Γ)

-- k, k + 1, .. (n of them), and then the rest
abbrev pub span : ℕ → ℕ → List ℕ → List ℕ
span k zero is = is
span k (suc n) is = k ∷ span (suc k) n is

abbrev stored : Fml → Option Val
stored ftrue = none
stored ffalse = none
stored (feq X x y) = none
stored (flt m n) = none
stored (fsep P Q) = none
stored (fand P Q) = none
stored (for P Q) = none
stored (fwand P Q) = none
stored (fex X F) = none
stored (fall X F) = none
stored (fupd P) = none
stored (fat q τ b o v) = full v
stored (froom τ b o) = none
stored (fdies τ b) = none
stored (flft κ q) = none
stored (fdead κ) = none
stored (fobs γ g) = none
stored (fauth γ g) = none
stored (fres γ g) = none
stored (fbor κ P) = none
stored (fobor κ q P) = none
stored (flent κ P) = none
stored (fshr_bor κ F) = none
stored (fhide P) = none
stored (fleft q τ τs b o) = none
stored (fown A γ x) = none
stored (finv P) = none
stored (fnamed n P) = none
stored (ftok m) = none
stored (fkid h a) = none
stored (fme t) = none
stored (fsent x) = none

module _ {M : Type 1} {𝓤 : Ura M} where
  abbrev stored-in : Item 𝓤 → Option Val
  stored-in (‵ F) = stored F
  stored-in (raw P) = none
  stored-in (i ⊛ j) = none
  stored-in (some F) = none
  stored-in (given φ i) = none
  stored-in (later i) = none

  -- what the cells of E hold: they are the entries of Γ from here on
  abbrev contents : List (Ty × ℕ) → List (Item 𝓤) → List (Option Val)
  contents [] Γ = []
  contents (e ∷ E) [] = []
  contents (e ∷ E) (i ∷ Γ) = stored-in i ∷ contents E Γ

  abbrev past2 : List (Item 𝓤) → List (Item 𝓤)
  past2 [] = []
  past2 (i ∷ []) = []
  past2 (i ∷ j ∷ Γ) = Γ

module _ {M : Type 1} {𝓤 : Ura M} {𝓛 : Logic 𝓤} {K : Type 0} {Γ : List (Item 𝓤)} {C : Calls 𝓤 𝓛.H} {Λ : Loops 𝓤 𝓛.H} {q : Post 𝓤 𝓛.H} {e : Ty × ℕ} {E : Env 𝓤 𝓛.H} where
  -- a return, where the context is: that the locals may end, their cells, and what is held, in the parameters' order
  open 𝓛 use {H}

  pub ends : K → (ρ : Rule) → post 𝓤 H q returnsᴼ ≡ at_return 𝓤 H (e ∷ E) (Leaves 𝓛 ρ) returnsᴼ → Quiet ρ.pars → (r : ρ.result.row.Denot) → Is ρ.result.row r (ρ.result.val r ∷ []) → (zs : Zs ρ.pars) → Told ρ.pars zs (Unit {0}) → Every (ρ.ensures r zs)
      → Γ ≡ Dies 𝓤 H e E ∷ (Cells 𝓤 H (e ∷ E) (full (ρ.result.val r) ∷ contents E (past2 Γ)) ++ HeldAt 𝓤 ρ.pars zs) → Seq K 𝓛 Γ (runs C Λ (e ∷ E) return q)
  ends t ρ to quiet r is zs kept said at = subst (λ (Δ : List (Item 𝓤)). Seq K 𝓛 Δ (runs C Λ (e ∷ E) return q)) (sym at)
      (returns_within t (Leaves 𝓛 ρ) to (look t 1 refl) $ frees_any t (full (ρ.result.val r) ∷ contents E (past2 Γ)) $ by t (leaves 𝓛 ρ quiet r is zs kept said))

module _ {M : Type 1} {𝓤 : Ura M} {𝓛 : Logic 𝓤} {K : Type 0} {Γ : List (Item 𝓤)} {G : Goal 𝓤 𝓛.H} where
  -- a fact is put into the context
  pub say : K → (φ : Type 0) → φ → Step K 𝓛 (raw (fact 𝓤 φ) ∷ Γ) G Γ G
  say t φ x = use0 𝓛 (raw (fact 𝓤 φ)) (fact_i 𝓤 φ (emp 𝓤) x)
