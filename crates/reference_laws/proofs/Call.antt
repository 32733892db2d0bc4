-- A call from a walk by hand, as ONE law over the list of the callee's parameters. It says nothing of any one crate.
--     Data             plain data: its row, its one MIR type and machine value, and the laws of that.        of_number, of-truth, of-nothing, of_struct, of-enum
--     Terms            a function's contract, whatever is passed: its symbol, a `Sort` for each parameter (`val` plain data, `shr` a `&[T]`, `mut` a `&mut [T]`, `ref'` a `&mut T`, `same` a `&[T]` at the lifetime of the first reference), its result, and its clauses over the values passed, the result and the last value of each `&mut`
--     Inputs ss        what is passed: a value, with its place if it is a reference.        rule-of F x      the contract there, a `Rule` over `Par`s
--     Chosen ps        what a call makes for each `&mut`: the lifetime for which it is lent again, and its ghost name
--     Ks, Qs, As, Vss  the lifetimes, the shares, the arguments and their machine values: `bound_at ps cs` is the ghost of the callee's triple
--     Facts ps         each plain value fits its type
--     Copies ps        the laws of T's row for each `&[T]`, of which a call passes a copy
--     Zs ps            the last value of each `&mut`.        Held, HeldAt      what the walk holds of the parameters, at entry and at exit
--     Told ps zs E     the length of each `&mut [T]` is kept, and E
--     Met ρ C          the callee's contract, with its clauses as facts in a row: it IS the triple of its signature, by computation.        Knows C F     at everything that may be passed.        Known F S c     that it is the contract of the signature S with the clauses c
--     lend-all, back-all     every reference is lent again; every reference is back
--     calls-any, calls-any-last, calls-met, calls-met-last      the rule of a walk, from `Knows`, or from `Met` at this call. `Walk.antt`'s `calls-into` stores the result too
-- Assumes `Logic`.
-- what a callee's file names beside
use mathlib.Core.Path.{◌≡◌, refl, sym, ap, subst}
use Prim.Native.Nat.{ℕ, zero, suc, ◌<◌, ◌^◌}
pub use mathlib.Core.List.{[], ◌∷◌}
use mathlib.Core.List.{List, ◌++◌}
use lib.ListN.{length}
use seplogic.Ra.Ura.{Ura}
pub use mir.Syntax.{w8, w16, w32, w64}
use base.Logic.{SProp, ent, sep, ex, emp, guard, id⊢, via, emp∗, fst∗, snd∗, mono∗}
use prog.Memory.{Memory}
use prog.Routine.{Routine, Env as Named}
use prog.Wp.{Calls, Env, Loops, Tables}
use types.Logic.{Logic, sem}
use contract.Monad.{Fun, fact, fact_i, fact_use}
use contract.Notation.{connectives}
pub use denote.Builtin.{u8, u16, u32, u64, usize}
use denote.Triple.Statement.{Triple}
use denote.Triple.Spec.{triple_of, Spec}
pub use denote.Triple.Table.{cited}
use Rattle.reference_laws.proofs.Hand.{At, lent, ptr_val, fat_val, ref, shr_ref, HasRef, HasMut, HasShr, KeptRef, KeptMut, KeptShr, lend-ref, back-ref, lend-mut, back-mut, lend-shr, back_shr}
use base.Fraction.{full_share}
use mir.Syntax.{Callee, Width, Ty, Body, Place, Opd as Operand, seq, call, erased, ty_int, ty_bool, ty_unit}
use mir.Val.{Val, vunit, vbool, vint, bits, has_ty, WT}
use lib.Dec.{T}
use base.Fml.{Fml, Lft, GName, ftrue, fsep, feq, flft, fres, fbor}
use sound.WpLaws.{FmC, fm_of}
use contract.Lifetimes.{Lfts, Shares}
use types.Kit.{Item, ‵, raw, given, mean, ⋆, push, pop, cut, Post as PostOf, Seq, runs, lands, settles, ◌⊛◌, some, later, ◌$◌, ◌∵◌, !, qed, by, move, keep, drop, use0, use1, use2, use3, split, split3, join, pick, learn, rewrite, fsplit, fjoin, feq_l, suffices, frame, check, await, updating, now as at_once, show, done}
use types.Run.{Opds, calls, Calls-last}
use denote.Exit.{yes, Last, left}
use denote.Memory.{mem}
use denote.Lend.{Held as Borrowed}
use types.SemTy.{Body as Referent}
use denote.RattleType.{RattleType, RowLaws}
use prog.Model.{Model}
use contract.Running.{Running, tables}
use denote.Signature.{Signature}
use denote.Laws.{Is, Tells, Makes, shows}
use denote.Plain.{UInt, Boolean, Nothing, uint_Makes, uint_Tells, uint_Lawful, bool_Makes, bool_Tells, Nothing-Tells, Nothing-Makes}
use denote.Ref.{Bor, MutBor, MutRef}
use denote.Slice.{MutSlice, ShrSlice, finally}
use denote.Steps.{only, owned, facts, nothing}
use denote.Struct.Struct.{Plains}
use denote.Struct.Declared as S
use denote.Struct.Laws as LL
use denote.Enum.Enum.{Plainss, Few}
use denote.Enum.Declared as N
use denote.Enum.Laws as EL

-- what is owned of a plain value is had for nothing, in every model
abbrev pub Made : RattleType → Type 2
Made R = (M : Type 1) (𝓤 : Ura M) (𝓛 : Logic 𝓤) → Makes 𝓛 R (Is R)

abbrev first_of : List Ty → Ty
first_of [] = ty_unit
first_of (τ ∷ τs) = τ

-- plain data: its row, its one MIR type, its one machine value, and the laws of that
pub record Data : Type 2 where
  pub row : RattleType
  pub mir : Ty
  pub val : row.Denot → Val
  pub tells : Tells row (Is row) (λ d. val d ∷ [])
  pub makes : Made row
  pub fact : row.Denot → Type 0
  pub known : (d : row.Denot) → Is row d (val d ∷ []) → fact d
  pub typed : (M : Type 1) (𝓤 : Ura M) (𝓛 : Logic 𝓤) (d : row.Denot) → Is row d (val d ∷ []) → T (has_ty mir (val d)) × WT (val d)

abbrev pub of_number : Width → Data
of_number w = record { row = UInt w; mir = ty_int w; val = vint w; tells = uint_Tells w; makes = λ M 𝓤 𝓛. uint_Makes 𝓛 w; fact = λ n. n < 2 ^ bits w; known = λ d p. p.1; typed = λ M 𝓤 𝓛 d p. ((uint_Lawful 𝓛 w).typed d (vint w d ∷ []) p).0 }

abbrev pub of-truth : Data
of-truth = record { row = Boolean; mir = ty_bool; val = vbool; tells = bool_Tells; makes = λ M 𝓤 𝓛. bool_Makes 𝓛; fact = λ _. Unit {0}; known = λ d p. tt; typed = λ M 𝓤 𝓛 d p. (tt, tt) }

abbrev pub of-nothing : Data
of-nothing = record { row = Nothing; mir = ty_unit; val = λ _. vunit; tells = Nothing-Tells; makes = λ M 𝓤 𝓛. Nothing-Makes 𝓛; fact = λ _. Unit {0}; known = λ d p. tt; typed = λ M 𝓤 𝓛 d p. (tt, tt) }

abbrev pub of_struct : (T : S.Declared) → LL.Laws T → Plains (S.fields T) → Data
of_struct T L pl = record { row = S.row T; mir = first_of (S.row T).mir; val = LL.val T L; tells = LL.tells T L; makes = λ M 𝓤 𝓛. LL.makes T pl 𝓛; fact = λ d. Is (S.row T) d (LL.val T L d ∷ []); known = λ d p. p; typed = λ M 𝓤 𝓛 d p. ((LL.lawful T L 𝓛).typed d (LL.val T L d ∷ []) p).0 }

abbrev pub of-enum : (T : N.Declared) → EL.Laws T → Plainss (N.variants T) → Few (N.shape T) → Data
of-enum T L pl few = record { row = N.row T; mir = first_of (N.row T).mir; val = EL.val T L; tells = EL.tells T L; makes = λ M 𝓤 𝓛. EL.makes T pl 𝓛; fact = λ d. Is (N.row T) d (EL.val T L d ∷ []); known = λ d p. p; typed = λ M 𝓤 𝓛 d p. ((EL.lawful T L 𝓛 few).typed d (EL.val T L d ∷ []) p).0 }

pub data Par : Type 2 where
  by-val : (D : Data) → D.row.Denot → Par
  by_shr : (R : RattleType) → At → List R.Denot → Par
  by-same : (R : RattleType) → At → List R.Denot → Lft → Par
  by-mut : (R : RattleType) → At → List R.Denot → Par
  by-ref : (R : RattleType) → At → R.Denot → Par

-- ---- what a call makes, passes and leaves
abbrev pub Chosen : List Par → Type 0
Chosen [] = Unit {0}
Chosen (by-val D d ∷ ps) = Chosen ps
Chosen (by_shr R p ys ∷ ps) = Chosen ps
Chosen (by-same R p ys κ ∷ ps) = Chosen ps
Chosen (by-mut R p ys ∷ ps) = ℕ × (GName × Chosen ps)
Chosen (by-ref R p h ∷ ps) = ℕ × (GName × Chosen ps)

-- how many lifetimes
abbrev pub lives : List Par → ℕ
lives [] = zero
lives (by-val D d ∷ ps) = lives ps
lives (by_shr R p ys ∷ ps) = suc (lives ps)
lives (by-same R p ys κ ∷ ps) = lives ps
lives (by-mut R p ys ∷ ps) = suc (lives ps)
lives (by-ref R p h ∷ ps) = suc (lives ps)

abbrev pub Ks : (ps : List Par) → Chosen ps → Lfts (lives ps)
Ks [] cs = tt
Ks (by-val D d ∷ ps) cs = Ks ps cs
Ks (by_shr R p ys ∷ ps) cs = (p.κ, Ks ps cs)
Ks (by-same R p ys κ ∷ ps) cs = Ks ps cs
Ks (by-mut R p ys ∷ ps) cs = (cs.0 ∷ [], Ks ps cs.1.1)
Ks (by-ref R p h ∷ ps) cs = (cs.0 ∷ [], Ks ps cs.1.1)

abbrev pub Qs : (ps : List Par) → Chosen ps → Shares (lives ps)
Qs [] cs = tt
Qs (by-val D d ∷ ps) cs = Qs ps cs
Qs (by_shr R p ys ∷ ps) cs = (p.q, Qs ps cs)
Qs (by-same R p ys κ ∷ ps) cs = Qs ps cs
Qs (by-mut R p ys ∷ ps) cs = (full_share, Qs ps cs.1.1)
Qs (by-ref R p h ∷ ps) cs = (full_share, Qs ps cs.1.1)

abbrev pub Args : List Par → Type 0
Args [] = Unit {0}
Args (by-val D d ∷ ps) = D.row.Denot × Args ps
Args (by_shr R p ys ∷ ps) = Bor (List R.Denot) × Args ps
Args (by-same R p ys κ ∷ ps) = Bor (List R.Denot) × Args ps
Args (by-mut R p ys ∷ ps) = MutBor (List R.Denot) × Args ps
Args (by-ref R p h ∷ ps) = MutBor R.Denot × Args ps

abbrev pub As : (ps : List Par) → Chosen ps → Args ps
As [] cs = tt
As (by-val D d ∷ ps) cs = (d, As ps cs)
As (by_shr R p ys ∷ ps) cs = (shr_ref p ys, As ps cs)
As (by-same R p ys κ ∷ ps) cs = (shr_ref p ys, As ps cs)
As (by-mut R p ys ∷ ps) cs = (ref (lent p cs.0 cs.1.0) ys, As ps cs.1.1)
As (by-ref R p h ∷ ps) cs = (ref (lent p cs.0 cs.1.0) h, As ps cs.1.1)

abbrev pub Each : List Par → Type 0
Each [] = Unit {0}
Each (p ∷ ps) = List Val × Each ps

abbrev passed : Par → Val
passed (by-val D d) = D.val d
passed (by_shr R p ys) = fat_val p
passed (by-same R p ys κ) = fat_val p
passed (by-mut R p ys) = fat_val p
passed (by-ref R p h) = ptr_val p

abbrev pub Vss : (ps : List Par) → Each ps
Vss [] = tt
Vss (p ∷ ps) = (passed p ∷ [], Vss ps)

abbrev pub Vs : List Par → List Val
Vs [] = []
Vs (p ∷ ps) = passed p ∷ Vs ps

abbrev pub Facts : List Par → Type 0
Facts [] = Unit {0}
Facts (by-val D d ∷ ps) = Is D.row d (D.val d ∷ []) × Facts ps
Facts (by_shr R p ys ∷ ps) = Facts ps
Facts (by-same R p ys κ ∷ ps) = (p.κ ≡ κ) × Facts ps
Facts (by-mut R p ys ∷ ps) = Facts ps
Facts (by-ref R p h ∷ ps) = Facts ps

-- a `&[T]` that is passed is copied, by the two laws of its elements' row
abbrev pub Copies : List Par → Type 2
Copies [] = Unit {2}
Copies (by-val D d ∷ ps) = Copies ps
Copies (by_shr R p ys ∷ ps) = RowLaws R × Copies ps
Copies (by-same R p ys κ ∷ ps) = RowLaws R × Copies ps
Copies (by-mut R p ys ∷ ps) = Copies ps
Copies (by-ref R p h ∷ ps) = Copies ps

abbrev pub Owns : (ps : List Par) → Chosen ps → Fml
Owns [] cs = ftrue
Owns (by-val D d ∷ ps) cs = fsep (D.row.own_val d (D.val d ∷ [])) (Owns ps cs)
Owns (by_shr R p ys ∷ ps) cs = fsep ((ShrSlice erased p.κ R).own_val (shr_ref p ys) (fat_val p ∷ [])) (Owns ps cs)
Owns (by-same R p ys κ ∷ ps) cs = fsep ((ShrSlice erased κ R).own_val (shr_ref p ys) (fat_val p ∷ [])) (Owns ps cs)
Owns (by-mut R p ys ∷ ps) cs = fsep ((MutSlice erased (cs.0 ∷ []) R).own_val (ref (lent p cs.0 cs.1.0) ys) (fat_val p ∷ [])) (Owns ps cs.1.1)
Owns (by-ref R p h ∷ ps) cs = fsep ((MutRef erased (cs.0 ∷ []) R).own_val (ref (lent p cs.0 cs.1.0) h) (ptr_val p ∷ [])) (Owns ps cs.1.1)

-- what the walk keeps meanwhile
abbrev pub Kept : (ps : List Par) → Chosen ps → Fml
Kept [] cs = ftrue
Kept (by-val D d ∷ ps) cs = Kept ps cs
Kept (by_shr R p ys ∷ ps) cs = fsep (KeptShr R p ys) (Kept ps cs)
Kept (by-same R p ys κ ∷ ps) cs = fsep (HasShr R p ys) (Kept ps cs)
Kept (by-mut R p ys ∷ ps) cs = fsep (KeptMut R p cs.0 cs.1.0 ys) (Kept ps cs.1.1)
Kept (by-ref R p h ∷ ps) cs = fsep (KeptRef R p cs.0 cs.1.0 h) (Kept ps cs.1.1)

-- what the contract binds at exit, and what it says of that. It hands back each `&mut`'s borrow, closed
abbrev pub Fins : List Par → Type 0
Fins [] = Unit {0}
Fins (by-val D d ∷ ps) = Last (D.row.exit yes) d × Fins ps
Fins (by_shr R p ys ∷ ps) = Unit {0} × Fins ps
Fins (by-same R p ys κ ∷ ps) = Unit {0} × Fins ps
Fins (by-mut R p ys ∷ ps) = List R.Denot × Fins ps
Fins (by-ref R p h ∷ ps) = R.Denot × Fins ps

abbrev pub Lefts : (ps : List Par) → Chosen ps → Fins ps → Fml
Lefts [] cs ws = ftrue
Lefts (by-val D d ∷ ps) cs ws = fsep (left (D.row.exit yes) d ws.0) (Lefts ps cs ws.1)
Lefts (by_shr R p ys ∷ ps) cs ws = fsep ftrue (Lefts ps cs ws.1)
Lefts (by-same R p ys κ ∷ ps) cs ws = fsep ftrue (Lefts ps cs ws.1)
Lefts (by-mut R p ys ∷ ps) cs ws = fsep (fsep (fsep (finally R cs.1.0 ws.0) (feq ℕ (length ws.0) (length ys))) (fbor (cs.0 ∷ []) (Borrowed R (length ys) p.b p.o cs.1.0))) (Lefts ps cs.1.1 ws.1)
Lefts (by-ref R p h ∷ ps) cs ws = fsep (fsep (fres cs.1.0 (R.coded.code ws.0)) (fbor (cs.0 ∷ []) (Referent (mem R) p.b p.o cs.1.0))) (Lefts ps cs.1.1 ws.1)

abbrev pub Zs : List Par → Type 0
Zs [] = Unit {0}
Zs (by-val D d ∷ ps) = Zs ps
Zs (by_shr R p ys ∷ ps) = Zs ps
Zs (by-same R p ys κ ∷ ps) = Zs ps
Zs (by-mut R p ys ∷ ps) = List R.Denot × Zs ps
Zs (by-ref R p h ∷ ps) = R.Denot × Zs ps

abbrev pub seen : (ps : List Par) → Fins ps → Zs ps
seen [] ws = tt
seen (by-val D d ∷ ps) ws = seen ps ws.1
seen (by_shr R p ys ∷ ps) ws = seen ps ws.1
seen (by-same R p ys κ ∷ ps) ws = seen ps ws.1
seen (by-mut R p ys ∷ ps) ws = (ws.0, seen ps ws.1)
seen (by-ref R p h ∷ ps) ws = (ws.0, seen ps ws.1)

abbrev pub Told : (ps : List Par) → Zs ps → Type 0 → Type 0
Told [] zs E = E
Told (by-val D d ∷ ps) zs E = Told ps zs E
Told (by_shr R p ys ∷ ps) zs E = Told ps zs E
Told (by-same R p ys κ ∷ ps) zs E = Told ps zs E
Told (by-mut R p ys ∷ ps) zs E = (length zs.0 ≡ length ys) × Told ps zs.1 E
Told (by-ref R p h ∷ ps) zs E = Told ps zs.1 E

-- what the callee's contract binds, at a call
abbrev pub bound_at : (ps : List Par) → Chosen ps → (Lfts (lives ps) × Shares (lives ps) × Unit {0} × Args ps × Each ps) × Unit {0}
bound_at ps cs = ((Ks ps cs, Qs ps cs, tt, As ps cs, Vss ps), tt)

-- ---- clauses in a row
abbrev pub Every : List (Type 0) → Type 0
Every [] = Unit {0}
Every (φ ∷ []) = φ
Every (φ ∷ ψ ∷ φs) = φ × Every (ψ ∷ φs)

-- a callee
pub record Rule : Type 2 where
  pub name : Callee
  pub pars : List Par
  pub result : Data
  pub requires : List (Type 0)
  pub ensures : result.row.Denot → Zs pars → List (Type 0)

-- ---- a function's contract, whatever is passed
-- `val` plain data, `shr` a `&[T]`, `mut` a `&mut [T]`, `ref` a `&mut T`; `same` a `&[T]` at the lifetime of the first reference
pub data Sort : Type 2 where
  val : Data → Sort
  shr : RattleType → Sort
  same : RattleType → Sort
  mut : RattleType → Sort
  ref' : RattleType → Sort

abbrev pub Now : Sort → Type 0
Now (val D) = D.row.Denot
Now (shr R) = List R.Denot
Now (same R) = List R.Denot
Now (mut R) = List R.Denot
Now (ref' R) = R.Denot

-- a function of the values passed
abbrev pub Over : List Sort → Type 1 → Type 1
Over [] X = X
Over (s ∷ ss) X = Now s → Over ss X

-- the last values
abbrev pub Lasts : List Sort → Type 0
Lasts [] = Unit {0}
Lasts (val D ∷ ss) = Lasts ss
Lasts (shr R ∷ ss) = Lasts ss
Lasts (same R ∷ ss) = Lasts ss
Lasts (mut R ∷ ss) = List R.Denot × Lasts ss
Lasts (ref' R ∷ ss) = R.Denot × Lasts ss

pub record Terms : Type 2 where
  pub name : Callee
  pub sorts : List Sort
  pub result : Data
  pub requires : Over sorts (List (Type 0))
  pub ensures : Over sorts (result.row.Denot → Lasts sorts → List (Type 0))

abbrev pub stated-as : Callee → (result : Data) (sorts : List Sort) → Over sorts (List (Type 0)) → Over sorts (result.row.Denot → Lasts sorts → List (Type 0)) → Terms
stated-as name result sorts requires ensures = record { name = name; sorts = sorts; result = result; requires = requires; ensures = ensures }

-- what is passed: a place and a value for each reference
abbrev pub Input : Sort → Type 0
Input (val D) = D.row.Denot
Input (shr R) = At × List R.Denot
Input (same R) = At × List R.Denot
Input (mut R) = At × List R.Denot
Input (ref' R) = At × R.Denot

abbrev pub Inputs : List Sort → Type 0
Inputs [] = Unit {0}
Inputs (s ∷ ss) = Input s × Inputs ss

abbrev now_of : (s : Sort) → Input s → Now s
now_of (val D) x = x
now_of (shr R) x = x.1
now_of (same R) x = x.1
now_of (mut R) x = x.1
now_of (ref' R) x = x.1

abbrev pub over : {X : Type 1} (ss : List Sort) → Over ss X → Inputs ss → X
over [] f x = f
over (s ∷ ss) f x = over ss (f (now_of s x.0)) x.1

abbrev par-of : Lft → (s : Sort) → Input s → Par
par-of κ (val D) x = by-val D x
par-of κ (shr R) x = by_shr R x.0 x.1
par-of κ (same R) x = by-same R x.0 x.1 κ
par-of κ (mut R) x = by-mut R x.0 x.1
par-of κ (ref' R) x = by-ref R x.0 x.1

abbrev pub pars-of : Lft → (ss : List Sort) → Inputs ss → List Par
pars-of κ [] x = []
pars-of κ (s ∷ ss) x = par-of κ s x.0 ∷ pars-of κ ss x.1

abbrev pub first-life : (ss : List Sort) → Inputs ss → Lft
first-life [] x = []
first-life (val D ∷ ss) x = first-life ss x.1
first-life (shr R ∷ ss) x = x.0.0.κ
first-life (same R ∷ ss) x = x.0.0.κ
first-life (mut R ∷ ss) x = x.0.0.κ
first-life (ref' R ∷ ss) x = x.0.0.κ

abbrev pub lasts-of : (κ : Lft) (ss : List Sort) (x : Inputs ss) → Zs (pars-of κ ss x) → Lasts ss
lasts-of κ [] x z = tt
lasts-of κ (val D ∷ ss) x z = lasts-of κ ss x.1 z
lasts-of κ (shr R ∷ ss) x z = lasts-of κ ss x.1 z
lasts-of κ (same R ∷ ss) x z = lasts-of κ ss x.1 z
lasts-of κ (mut R ∷ ss) x z = (z.0, lasts-of κ ss x.1 z.1)
lasts-of κ (ref' R ∷ ss) x z = (z.0, lasts-of κ ss x.1 z.1)

abbrev pub rule-of : (F : Terms) → Inputs F.sorts → Rule
rule-of F x = record {
  name = F.name;
  pars = pars-of (first-life F.sorts x) F.sorts x;
  result = F.result;
  requires = over F.sorts F.requires x;
  ensures = λ r z. over F.sorts F.ensures x r (lasts-of (first-life F.sorts x) F.sorts x z);
}

-- all of some facts, in a row
abbrev pub clauses : {M : Type 1} (𝓤 : Ura M) → List (Type 0) → SProp 𝓤
clauses 𝓤 [] = (connectives 𝓤).⊤ₛ
clauses 𝓤 (φ ∷ []) = (connectives 𝓤).⌜◌⌝ φ
clauses 𝓤 (φ ∷ ψ ∷ φs) = (connectives 𝓤).◌∗◌ ((connectives 𝓤).⌜◌⌝ φ) (clauses 𝓤 (ψ ∷ φs))

module _ {M : Type 1} (𝓤 : Ura M) where
  pub hear-all : (φs : List (Type 0)) → ent 𝓤 (clauses 𝓤 φs) (fact 𝓤 (Every φs))
  hear-all [] = fact_i 𝓤 (Unit {0}) (emp 𝓤) tt
  hear-all (φ ∷ []) = id⊢ 𝓤 (fact 𝓤 φ)
  hear-all (φ ∷ ψ ∷ φs) = fact_use 𝓤 φ (fst∗ 𝓤 (fact 𝓤 φ) (clauses 𝓤 (ψ ∷ φs))) (λ x. fact_use 𝓤 (Every (ψ ∷ φs)) (via 𝓤 (clauses 𝓤 (ψ ∷ φs)) (snd∗ 𝓤 (fact 𝓤 φ) (clauses 𝓤 (ψ ∷ φs))) (hear-all (ψ ∷ φs)))
      (λ y. fact_i 𝓤 (φ × Every (ψ ∷ φs)) (sep 𝓤 (fact 𝓤 φ) (clauses 𝓤 (ψ ∷ φs))) (x, y)))

  pub say-all : (φs : List (Type 0)) → Every φs → ent 𝓤 (emp 𝓤) (clauses 𝓤 φs)
  say-all [] x = id⊢ 𝓤 (emp 𝓤)
  say-all (φ ∷ []) x = fact_i 𝓤 φ (emp 𝓤) x
  say-all (φ ∷ ψ ∷ φs) x = via 𝓤 (sep 𝓤 (emp 𝓤) (emp 𝓤)) (emp∗ 𝓤 (emp 𝓤)) (mono∗ 𝓤 (fact_i 𝓤 φ (emp 𝓤) x.0) (say-all (ψ ∷ φs) x.1))

  abbrev pub HeldAt : (ps : List Par) → Zs ps → List (Item 𝓤)
  HeldAt [] zs = []
  HeldAt (by-val D d ∷ ps) zs = HeldAt ps zs
  HeldAt (by_shr R p ys ∷ ps) zs = ‵ (HasShr R p ys) ∷ HeldAt ps zs
  HeldAt (by-same R p ys κ ∷ ps) zs = ‵ (HasShr R p ys) ∷ HeldAt ps zs
  HeldAt (by-mut R p ys ∷ ps) zs = ‵ (HasMut R p zs.0) ∷ HeldAt ps zs.1
  HeldAt (by-ref R p h ∷ ps) zs = ‵ (HasRef R p zs.0) ∷ HeldAt ps zs.1

-- the values at entry
abbrev pub starts : (ps : List Par) → Zs ps
starts [] = tt
starts (by-val D d ∷ ps) = starts ps
starts (by_shr R p ys ∷ ps) = starts ps
starts (by-same R p ys κ ∷ ps) = starts ps
starts (by-mut R p ys ∷ ps) = (ys, starts ps)
starts (by-ref R p h ∷ ps) = (h, starts ps)

module _ {M : Type 1} {𝓤 : Ura M} (𝓛 : Logic 𝓤) where
  open 𝓛 use {A}

  abbrev pub Held : List Par → List (Item 𝓤)
  Held ps = HeldAt 𝓤 ps (starts ps)

  abbrev pub Toks : (ps : List Par) → Chosen ps → SProp 𝓤
  Toks [] cs = emp 𝓤
  Toks (by-val D d ∷ ps) cs = Toks ps cs
  Toks (by_shr R p ys ∷ ps) cs = sep 𝓤 (A.lft p.κ p.q) (Toks ps cs)
  Toks (by-same R p ys κ ∷ ps) cs = Toks ps cs
  Toks (by-mut R p ys ∷ ps) cs = sep 𝓤 (A.lft (cs.0 ∷ []) full_share) (Toks ps cs.1.1)
  Toks (by-ref R p h ∷ ps) cs = sep 𝓤 (A.lft (cs.0 ∷ []) full_share) (Toks ps cs.1.1)

  abbrev Lending : (ps : List Par) → Chosen ps → SProp 𝓤
  Lending ps cs = sep 𝓤 (Toks ps cs) (sep 𝓤 (sem 𝓛 (Owns ps cs)) (sem 𝓛 (Kept ps cs)))

  abbrev Lent : (ps : List Par) → Item 𝓤
  Lent ps = later (some (λ (cs : Chosen ps). raw (Toks ps cs) ⊛ (‵ (Owns ps cs) ⊛ ‵ (Kept ps cs))))

  module _ where
    pub lend-all : (ps : List Par) → Copies ps → Facts ps → ent 𝓤 (⋆ 𝓛 (Held ps)) (mean 𝓛 (Lent ps))
    lend-all [] ls fs = qed 𝓛 [] ∵ updating ! $ nothing ! $ nothing ! $ nothing ! $ at_once ! $ show ! (Lending []) tt $ frame ! $ done !
    lend-all (by-val D d ∷ ps) ls fs =
        qed 𝓛 (raw (⋆ 𝓛 (Held ps)) ∷ []) ∵ updating ! $ use1 𝓛 (Lent ps) (lend-all ps ls fs.1) $ await ! tt $ pick ! (λ cs. split3 ! $ at_once ! $
        show ! (Lending (by-val D d ∷ ps)) cs $ frame ! $ owned ! D.row (Is D.row) (D.makes M 𝓤 𝓛) d (D.val d ∷ []) fs.0 $ fjoin ! $ done !)
    lend-all (by_shr R p ys ∷ ps) ls fs = via 𝓤 (sep 𝓤 (sem 𝓛 (HasShr R p ys)) (⋆ 𝓛 (Held ps))) (pop 𝓛 (‵ (HasShr R p ys)) (Held ps)) (
        qed 𝓛 (‵ (HasShr R p ys) ∷ raw (⋆ 𝓛 (Held ps)) ∷ []) ∵ updating ! $ use1 𝓛 (‵ (HasShr R p ys) ⊛ ‵ (KeptShr R p ys)) (lend-shr R 𝓛 p ls.0 ys) $ split ! $ fsplit ! $ move ! (3 ∷ []) $
        use1 𝓛 (Lent ps) (lend-all ps ls.1 fs) $ await ! tt $ pick ! (λ cs. split3 ! $
        -- [tokens; owned; kept; the slice; its token; its copy]
        at_once ! $ show ! (Lending (by_shr R p ys ∷ ps)) cs $ move ! (4 ∷ 0 ∷ []) $ join ! $ frame ! $ move ! (2 ∷ 0 ∷ []) $ fjoin ! $ frame ! $ move ! (1 ∷ 0 ∷ []) $ fjoin ! $ done !))
    lend-all (by-same R p ys κ ∷ ps) ls fs = via 𝓤 (sep 𝓤 (sem 𝓛 (HasShr R p ys)) (⋆ 𝓛 (Held ps))) (pop 𝓛 (‵ (HasShr R p ys)) (Held ps)) (
        qed 𝓛 (‵ (HasShr R p ys) ∷ raw (⋆ 𝓛 (Held ps)) ∷ []) ∵ updating ! $ use1 𝓛 (‵ (HasShr R p ys) ⊛ ‵ (KeptShr R p ys)) (lend-shr R 𝓛 p ls.0 ys) $ split ! $ move ! (1 ∷ []) $
        rewrite ! 0 (λ (κ' : Lft). ‵ ((ShrSlice erased κ' R).own_val (shr_ref p ys) (fat_val p ∷ []))) fs.0 refl $ move ! (2 ∷ []) $
        use1 𝓛 (Lent ps) (lend-all ps ls.1 fs.1) $ await ! tt $ pick ! (λ cs. split3 ! $
        -- [tokens; owned; kept; the slice at κ; what is held]
        at_once ! $ show ! (Lending (by-same R p ys κ ∷ ps)) cs $ frame ! $ move ! (2 ∷ 0 ∷ []) $ fjoin ! $ frame ! $ move ! (1 ∷ 0 ∷ []) $ fjoin ! $ done !))
    lend-all (by-mut R p ys ∷ ps) ls fs = via 𝓤 (sep 𝓤 (sem 𝓛 (HasMut R p ys)) (⋆ 𝓛 (Held ps))) (pop 𝓛 (‵ (HasMut R p ys)) (Held ps)) (
        qed 𝓛 (‵ (HasMut R p ys) ∷ raw (⋆ 𝓛 (Held ps)) ∷ []) ∵ updating ! $ use1 𝓛 (later (some (λ (ν : ℕ). some (λ (δ : GName). ‵ (HasMut R (lent p ν δ) ys) ⊛ ‵ (KeptMut R p ν δ ys))))) (lend-mut R 𝓛 p ys) $ await ! tt $
        pick ! (λ ν. pick ! (λ δ. split ! $ fsplit ! $ move ! (3 ∷ []) $ use1 𝓛 (Lent ps) (lend-all ps ls fs) $ await ! tt $ pick ! (λ cs. split3 ! $
        -- [tokens; owned; kept; the slice; its token; what is kept of it]
        at_once ! $ show ! (Lending (by-mut R p ys ∷ ps)) (ν, (δ, cs)) $ move ! (4 ∷ 0 ∷ []) $ join ! $ frame ! $ move ! (2 ∷ 0 ∷ []) $ fjoin ! $ frame ! $ move ! (1 ∷ 0 ∷ []) $ fjoin ! $ done !))))
    lend-all (by-ref R p h ∷ ps) ls fs = via 𝓤 (sep 𝓤 (sem 𝓛 (HasRef R p h)) (⋆ 𝓛 (Held ps))) (pop 𝓛 (‵ (HasRef R p h)) (Held ps)) (
        qed 𝓛 (‵ (HasRef R p h) ∷ raw (⋆ 𝓛 (Held ps)) ∷ []) ∵ updating ! $ use1 𝓛 (later (some (λ (ν : ℕ). some (λ (δ : GName). ‵ (HasRef R (lent p ν δ) h) ⊛ ‵ (KeptRef R p ν δ h))))) (lend-ref R 𝓛 p h) $ await ! tt $
        pick ! (λ ν. pick ! (λ δ. split ! $ fsplit ! $ move ! (3 ∷ []) $ use1 𝓛 (Lent ps) (lend-all ps ls fs) $ await ! tt $ pick ! (λ cs. split3 ! $
        at_once ! $ show ! (Lending (by-ref R p h ∷ ps)) (ν, (δ, cs)) $ move ! (4 ∷ 0 ∷ []) $ join ! $ frame ! $ move ! (2 ∷ 0 ∷ []) $ fjoin ! $ frame ! $ move ! (1 ∷ 0 ∷ []) $ fjoin ! $ done !))))

    abbrev Lending-in : (ps : List Par) → Chosen ps → Fins ps → List (Item 𝓤)
    Lending-in ps cs ws = raw (Toks ps cs) ∷ ‵ (Lefts ps cs ws) ∷ ‵ (Kept ps cs) ∷ []

    abbrev Returned : (ps : List Par) → Zs ps → Type 0 → Item 𝓤
    Returned ps zs E = later (given (Told ps zs E) (raw (⋆ 𝓛 (HeldAt 𝓤 ps zs))))

    pub back-all : (ps : List Par) (cs : Chosen ps) (ws : Fins ps) (E : Type 0) → E → ent 𝓤 (⋆ 𝓛 (Lending-in ps cs ws)) (mean 𝓛 (Returned ps (seen ps ws) E))
    back-all [] cs ws E e = qed 𝓛 (raw (emp 𝓤) ∷ ‵ ftrue ∷ ‵ ftrue ∷ []) ∵ updating ! $ at_once ! $ check ! e $ keep ! (0 ∷ []) $ done !
    back-all (by-val D d ∷ ps) cs ws E e =
        qed 𝓛 (raw (Toks ps cs) ∷ ‵ (fsep (left (D.row.exit yes) d ws.0) (Lefts ps cs ws.1)) ∷ ‵ (Kept ps cs) ∷ []) ∵ updating ! $ move ! (1 ∷ []) $ fsplit ! $ drop ! $ move ! (1 ∷ 0 ∷ []) $
        use3 𝓛 (Returned ps (seen ps ws.1) E) (back-all ps cs ws.1 E e) $ await ! tt $ at_once ! $ done !
    back-all (by_shr R p ys ∷ ps) cs ws E e =
        qed 𝓛 ((‵ (flft p.κ p.q) ⊛ raw (Toks ps cs)) ∷ ‵ (fsep ftrue (Lefts ps cs ws.1)) ∷ ‵ (fsep (KeptShr R p ys) (Kept ps cs)) ∷ []) ∵ updating ! $ split ! $ move ! (2 ∷ []) $ fsplit ! $ drop ! $ move ! (3 ∷ []) $ fsplit ! $
        -- [the slice; kept; said; its token; tokens]
        move ! (3 ∷ 0 ∷ []) $ use2 𝓛 (‵ (HasShr R p ys)) (back_shr R 𝓛 p ys) $ move ! (3 ∷ 2 ∷ 1 ∷ []) $
        use3 𝓛 (Returned ps (seen ps ws.1) E) (back-all ps cs ws.1 E e) $ await ! tt $ learn ! (λ t. at_once ! $ check ! t $
        suffices ! (sep 𝓤 (sem 𝓛 (HasShr R p ys)) (⋆ 𝓛 (HeldAt 𝓤 ps (seen ps ws.1)))) (push 𝓛 (‵ (HasShr R p ys)) (HeldAt 𝓤 ps (seen ps ws.1))) $ move ! (1 ∷ 0 ∷ []) $ done !)
    back-all (by-same R p ys κ ∷ ps) cs ws E e =
        qed 𝓛 (raw (Toks ps cs) ∷ ‵ (fsep ftrue (Lefts ps cs ws.1)) ∷ ‵ (fsep (HasShr R p ys) (Kept ps cs)) ∷ []) ∵ updating ! $ move ! (1 ∷ []) $ fsplit ! $ drop ! $ move ! (2 ∷ []) $ fsplit ! $
        -- [the slice; kept; said; tokens]
        move ! (3 ∷ 2 ∷ 1 ∷ []) $ use3 𝓛 (Returned ps (seen ps ws.1) E) (back-all ps cs ws.1 E e) $ await ! tt $ learn ! (λ t. at_once ! $ check ! t $
        suffices ! (sep 𝓤 (sem 𝓛 (HasShr R p ys)) (⋆ 𝓛 (HeldAt 𝓤 ps (seen ps ws.1)))) (push 𝓛 (‵ (HasShr R p ys)) (HeldAt 𝓤 ps (seen ps ws.1))) $ move ! (1 ∷ 0 ∷ []) $ done !)
    back-all (by-mut R p ys ∷ ps) cs ws E e =
        qed 𝓛 ((‵ (flft (cs.0 ∷ []) full_share) ⊛ raw (Toks ps cs.1.1)) ∷ ‵ (Lefts (by-mut R p ys ∷ ps) cs ws) ∷ ‵ (fsep (KeptMut R p cs.0 cs.1.0 ys) (Kept ps cs.1.1)) ∷ []) ∵ updating ! $
        split ! $ move ! (2 ∷ []) $ fsplit ! $ fsplit ! $ move ! (1 ∷ []) $ drop ! $ fsplit ! $ move ! (1 ∷ []) $ feq_l ! (λ len. move ! (4 ∷ []) $ fsplit ! $
        -- [what is kept of it; kept; its last list; said; its token; tokens]
        move ! (4 ∷ 2 ∷ 0 ∷ []) $ use3 𝓛 (later (‵ (HasMut R p ws.0))) (back-mut R 𝓛 p cs.0 cs.1.0 ys ws.0 len) $ await ! tt $ move ! (3 ∷ 2 ∷ 1 ∷ []) $
        use3 𝓛 (Returned ps (seen ps ws.1) E) (back-all ps cs.1.1 ws.1 E e) $ await ! tt $ learn ! (λ t. at_once ! $ check ! (len, t) $
        suffices ! (sep 𝓤 (sem 𝓛 (HasMut R p ws.0)) (⋆ 𝓛 (HeldAt 𝓤 ps (seen ps ws.1)))) (push 𝓛 (‵ (HasMut R p ws.0)) (HeldAt 𝓤 ps (seen ps ws.1))) $ move ! (1 ∷ 0 ∷ []) $ done !))
    back-all (by-ref R p h ∷ ps) cs ws E e =
        qed 𝓛 ((‵ (flft (cs.0 ∷ []) full_share) ⊛ raw (Toks ps cs.1.1)) ∷ ‵ (Lefts (by-ref R p h ∷ ps) cs ws) ∷ ‵ (fsep (KeptRef R p cs.0 cs.1.0 h) (Kept ps cs.1.1)) ∷ []) ∵ updating ! $
        split ! $ move ! (2 ∷ []) $ fsplit ! $ fsplit ! $ move ! (1 ∷ []) $ drop ! $ move ! (4 ∷ []) $ fsplit ! $
        -- [what is kept of it; kept; its last value; said; its token; tokens]
        move ! (4 ∷ 2 ∷ 0 ∷ []) $ use3 𝓛 (later (‵ (HasRef R p ws.0))) (back-ref R 𝓛 p cs.0 cs.1.0 h ws.0) $ await ! tt $ move ! (3 ∷ 2 ∷ 1 ∷ []) $
        use3 𝓛 (Returned ps (seen ps ws.1) E) (back-all ps cs.1.1 ws.1 E e) $ await ! tt $ learn ! (λ t. at_once ! $ check ! t $
        suffices ! (sep 𝓤 (sem 𝓛 (HasRef R p ws.0)) (⋆ 𝓛 (HeldAt 𝓤 ps (seen ps ws.1)))) (push 𝓛 (‵ (HasRef R p ws.0)) (HeldAt 𝓤 ps (seen ps ws.1))) $ move ! (1 ∷ 0 ∷ []) $ done !)

-- ---- a callee's contract
module _ {M : Type 1} {𝓤 : Ura M} (𝓛 : Logic 𝓤) (ρ : Rule) where
  open 𝓛 use {H}

  abbrev pub Z : Type 0
  Z = ρ.result.row.Denot × Zs ρ.pars

  -- what the walk learns at the machine value v of the result
  abbrev pub Says : Val → Z → Type 0
  Says v z = Is ρ.result.row z.0 (v ∷ []) × Told ρ.pars z.1 (Every (ρ.ensures z.0 z.1))

  abbrev pub After : Val → Item 𝓤
  After v = later (some (λ (z : Z). given (Says v z) (raw (⋆ 𝓛 (HeldAt 𝓤 ρ.pars z.1)))))

  abbrev Exit : Chosen ρ.pars → Val → ρ.result.row.Denot → Fins ρ.pars → SProp 𝓤
  Exit cs v r ws = sep 𝓤 (sem 𝓛 (Lefts ρ.pars cs ws)) (clauses 𝓤 (ρ.ensures r (seen ρ.pars ws)))

  abbrev Done : Chosen ρ.pars → Val → SProp 𝓤
  Done cs v = H.⇛ (ex 𝓤 (λ (r : ρ.result.row.Denot). sep 𝓤 (sep 𝓤 (Toks 𝓛 ρ.pars cs) (sem 𝓛 (ρ.result.row.own_val r (v ∷ [])))) (ex 𝓤 (Exit cs v r))))

  -- the contract, at what a call makes
  abbrev pub Met : Calls 𝓤 H → Type 1
  Met C = (cs : Chosen ρ.pars) → ent 𝓤 (sep 𝓤 (sep 𝓤 (Toks 𝓛 ρ.pars cs) (sem 𝓛 (Owns ρ.pars cs))) (clauses 𝓤 ρ.requires)) (C ρ.name (Vs ρ.pars) (Done cs))

  module _ (C : Calls 𝓤 H) (fm : FmC 𝓤 H 𝓛.laws C) (ls : Copies ρ.pars) (fs : Facts ρ.pars) (req : Every ρ.requires) (met : Met C) where
    returns : (cs : Chosen ρ.pars) (v : Val) → ent 𝓤 (sep 𝓤 (Done cs v) (sem 𝓛 (Kept ρ.pars cs))) (mean 𝓛 (After v))
    returns cs v =
        qed 𝓛 (later (some (λ (r : ρ.result.row.Denot). (raw (Toks 𝓛 ρ.pars cs) ⊛ ‵ (ρ.result.row.own_val r (v ∷ []))) ⊛ some (λ (ws : Fins ρ.pars). ‵ (Lefts ρ.pars cs ws) ⊛ raw (clauses 𝓤 (ρ.ensures r (seen ρ.pars ws)))))) ∷ ‵ (Kept ρ.pars cs) ∷ []) ∵ updating ! $
        await ! tt $ pick ! (λ r. split ! $ split ! $ move ! (1 ∷ []) $ facts ! ρ.result.row (Is ρ.result.row) (shows 𝓛 ρ.result.row) r (v ∷ []) (λ is. move ! (1 ∷ []) $ pick ! (λ ws. split ! $ move ! (1 ∷ []) $
        use1 𝓛 (given (Every (ρ.ensures r (seen ρ.pars ws))) (‵ ftrue)) (hear-all 𝓤 (ρ.ensures r (seen ρ.pars ws))) $ learn ! (λ e. drop ! $ move ! (1 ∷ 0 ∷ []) $
        use3 𝓛 (Returned 𝓛 ρ.pars (seen ρ.pars ws) (Every (ρ.ensures r (seen ρ.pars ws)))) (back-all 𝓛 ρ.pars cs ws (Every (ρ.ensures r (seen ρ.pars ws))) e) $ await ! tt $ learn ! (λ t. at_once ! $
        show ! (λ (z : Z). guard 𝓤 (Says v z) (⋆ 𝓛 (HeldAt 𝓤 ρ.pars z.1))) (r, seen ρ.pars ws) $ check ! (is, t) $ done !)))))

    pub called : ent 𝓤 (⋆ 𝓛 (Held 𝓛 ρ.pars)) (H.⇛ (C ρ.name (Vs ρ.pars) (λ v. mean 𝓛 (After v))))
    called =
        qed 𝓛 (raw (⋆ 𝓛 (Held 𝓛 ρ.pars)) ∷ []) ∵ updating ! $ use1 𝓛 (Lent 𝓛 ρ.pars) (lend-all 𝓛 ρ.pars ls fs) $ await ! tt $ pick ! (λ cs. split3 ! $
        join ! $ use0 𝓛 (raw (clauses 𝓤 ρ.requires)) (say-all 𝓤 ρ.requires req) $ move ! (1 ∷ 0 ∷ []) $ use2 𝓛 (raw (C ρ.name (Vs ρ.pars) (Done cs))) (met cs) $ at_once ! $
        by ! (fm ρ.name (Vs ρ.pars) (Done cs) (λ v. mean 𝓛 (After v)) (sem 𝓛 (Kept ρ.pars cs)) (returns cs)))

module _ {M : Type 1} {𝓤 : Ura M} {K : Type 0} (𝓛 : Logic 𝓤) {Γ : List (Item 𝓤)} {E : Env 𝓤 𝓛.H} {C : Calls 𝓤 𝓛.H} {Λ : Loops 𝓤 𝓛.H} {q : PostOf 𝓤 𝓛.H} {dst : Place} {xs : List Operand} where
  open 𝓛 use {H}

  module _ (fm : FmC 𝓤 H 𝓛.laws C) where
    calls_by : (ρ : Rule) → K → {rest : Body} → Copies ρ.pars → Facts ρ.pars → Every ρ.requires → Met 𝓛 ρ C → Opds K 𝓛 (raw (C ρ.name (Vs ρ.pars) (λ v. mean 𝓛 (After 𝓛 ρ v))) ∷ Γ) E xs (Vs ρ.pars)
        → ((z : Z 𝓛 ρ) → Says 𝓛 ρ (ρ.result.val z.0) z → Seq K 𝓛 (HeldAt 𝓤 ρ.pars z.1 ++ Γ) (lands C Λ E dst (ρ.result.val z.0) rest q)) → Seq K 𝓛 (Held 𝓛 ρ.pars ++ Γ) (runs C Λ E (seq (call ρ.name xs dst) rest) q)
    calls_by ρ t {rest} ls fs req met os k =
        cut (Held 𝓛 ρ.pars) (later (raw (C ρ.name (Vs ρ.pars) (λ v. mean 𝓛 (After 𝓛 ρ v)))) ∷ []) Γ (called 𝓛 ρ C fm ls fs req met) $ await t tt $
        calls t fm (After 𝓛 ρ) os (λ v. await t tt $ pick t (λ z. learn t (λ s. cut (raw (⋆ 𝓛 (HeldAt 𝓤 ρ.pars z.1)) ∷ []) (HeldAt 𝓤 ρ.pars z.1) Γ (id⊢ 𝓤 _) $
        let e : v ∷ [] ≡ ρ.result.val z.0 ∷ [] = ρ.result.tells z.0 (v ∷ []) s.0 in
        subst (λ (u : Val). Seq K 𝓛 (HeldAt 𝓤 ρ.pars z.1 ++ Γ) (lands C Λ E dst u rest q)) (sym (ap only e)) (k z (subst (Is ρ.result.row z.0) e s.0, s.1)))))

    calls-by-last : (ρ : Rule) → K → Copies ρ.pars → Facts ρ.pars → Every ρ.requires → Met 𝓛 ρ C → Opds K 𝓛 (raw (C ρ.name (Vs ρ.pars) (λ v. mean 𝓛 (After 𝓛 ρ v))) ∷ Γ) E xs (Vs ρ.pars)
        → ((z : Z 𝓛 ρ) → Says 𝓛 ρ (ρ.result.val z.0) z → Seq K 𝓛 (HeldAt 𝓤 ρ.pars z.1 ++ Γ) (settles E dst (ρ.result.val z.0) q)) → Seq K 𝓛 (Held 𝓛 ρ.pars ++ Γ) (runs C Λ E (call ρ.name xs dst) q)
    calls-by-last ρ t ls fs req met os k =
        cut (Held 𝓛 ρ.pars) (later (raw (C ρ.name (Vs ρ.pars) (λ v. mean 𝓛 (After 𝓛 ρ v)))) ∷ []) Γ (called 𝓛 ρ C fm ls fs req met) $ await t tt $
        Calls-last t fm (After 𝓛 ρ) os (λ v. await t tt $ pick t (λ z. learn t (λ s. cut (raw (⋆ 𝓛 (HeldAt 𝓤 ρ.pars z.1)) ∷ []) (HeldAt 𝓤 ρ.pars z.1) Γ (id⊢ 𝓤 _) $
        let e : v ∷ [] ≡ ρ.result.val z.0 ∷ [] = ρ.result.tells z.0 (v ∷ []) s.0 in
        subst (λ (u : Val). Seq K 𝓛 (HeldAt 𝓤 ρ.pars z.1 ++ Γ) (settles E dst u q)) (sym (ap only e)) (k z (subst (Is ρ.result.row z.0) e s.0, s.1)))))

-- a function's contract holds of its entry in a table of calls
abbrev pub Knows : {M : Type 1} {𝓤 : Ura M} (𝓛 : Logic 𝓤) → Calls 𝓤 𝓛.H → Terms → Type 1
Knows 𝓛 C F = (x : Inputs F.sorts) → Met 𝓛 (rule-of F x) C

-- a signature and its clauses are a function's contract: what is proved of its routine is all that a walk asks to know
abbrev pub Known : (F : Terms) (S : Signature) → ((M : Type 1) (𝓤 : Ura M) (𝓛 : Logic 𝓤) → (Memory → SProp 𝓤) → (Routine → Fun 𝓤) → Spec 𝓤 S) → Type 2
Known F S spec =
    (M : Type 1) (𝓤 : Ura M) (𝓛 : Logic 𝓤) (𝓜 : Model 𝓤 𝓛.H) (𝓡 : Running 𝓤 𝓛.H 𝓜) (γ : Named) (r : Routine) → γ F.name ≡ r → Triple 𝓤 (𝓡.run r) (triple_of 𝓛 S (spec M 𝓤 𝓛 𝓜.mem 𝓡.returns))
    → Knows 𝓛 (tables 𝓤 𝓛.H 𝓜 𝓡 γ).C F

module _ {M : Type 1} {𝓤 : Ura M} {K : Type 0} (𝓛 : Logic 𝓤) {Γ : List (Item 𝓤)} {E : Env 𝓤 𝓛.H} (𝓣 : Tables 𝓤 𝓛.H) {q : PostOf 𝓤 𝓛.H} {dst : Place} {xs : List Operand} where
  -- of one call
  open 𝓛 use {H}

  pub calls-met : (F : Terms) (x : Inputs F.sorts) → K → {rest : Body} → Copies (rule-of F x).pars → Facts (rule-of F x).pars → Every (rule-of F x).requires → Met 𝓛 (rule-of F x) 𝓣.C → Opds K 𝓛 (raw (𝓣.C F.name (Vs (rule-of F x).pars) (λ v. mean 𝓛 (After 𝓛 (rule-of F x) v))) ∷ Γ) E xs (Vs (rule-of F x).pars)
      → ((z : Z 𝓛 (rule-of F x)) → Says 𝓛 (rule-of F x) (F.result.val z.0) z → Seq K 𝓛 (HeldAt 𝓤 (rule-of F x).pars z.1 ++ Γ) (lands 𝓣.C 𝓣.Λ E dst (F.result.val z.0) rest q)) → Seq K 𝓛 (Held 𝓛 (rule-of F x).pars ++ Γ) (runs 𝓣.C 𝓣.Λ E (seq (call F.name xs dst) rest) q)
  calls-met F x t ls fs req met os k = calls_by 𝓛 (fm_of 𝓤 H 𝓛.laws 𝓣) (rule-of F x) t ls fs req met os k

  pub calls-met-last : (F : Terms) (x : Inputs F.sorts) → K → Copies (rule-of F x).pars → Facts (rule-of F x).pars → Every (rule-of F x).requires → Met 𝓛 (rule-of F x) 𝓣.C → Opds K 𝓛 (raw (𝓣.C F.name (Vs (rule-of F x).pars) (λ v. mean 𝓛 (After 𝓛 (rule-of F x) v))) ∷ Γ) E xs (Vs (rule-of F x).pars)
      → ((z : Z 𝓛 (rule-of F x)) → Says 𝓛 (rule-of F x) (F.result.val z.0) z → Seq K 𝓛 (HeldAt 𝓤 (rule-of F x).pars z.1 ++ Γ) (settles E dst (F.result.val z.0) q)) → Seq K 𝓛 (Held 𝓛 (rule-of F x).pars ++ Γ) (runs 𝓣.C 𝓣.Λ E (call F.name xs dst) q)
  calls-met-last F x t ls fs req met os k = calls-by-last 𝓛 (fm_of 𝓤 H 𝓛.laws 𝓣) (rule-of F x) t ls fs req met os k

  -- of a function whose contract is known
  pub calls-any : (F : Terms) (x : Inputs F.sorts) → K → {rest : Body} → Copies (rule-of F x).pars → Facts (rule-of F x).pars → Every (rule-of F x).requires → Knows 𝓛 𝓣.C F → Opds K 𝓛 (raw (𝓣.C F.name (Vs (rule-of F x).pars) (λ v. mean 𝓛 (After 𝓛 (rule-of F x) v))) ∷ Γ) E xs (Vs (rule-of F x).pars)
      → ((z : Z 𝓛 (rule-of F x)) → Says 𝓛 (rule-of F x) (F.result.val z.0) z → Seq K 𝓛 (HeldAt 𝓤 (rule-of F x).pars z.1 ++ Γ) (lands 𝓣.C 𝓣.Λ E dst (F.result.val z.0) rest q)) → Seq K 𝓛 (Held 𝓛 (rule-of F x).pars ++ Γ) (runs 𝓣.C 𝓣.Λ E (seq (call F.name xs dst) rest) q)
  calls-any F x t ls fs req known os k = calls-met F x t ls fs req (known x) os k

  pub calls-any-last : (F : Terms) (x : Inputs F.sorts) → K → Copies (rule-of F x).pars → Facts (rule-of F x).pars → Every (rule-of F x).requires → Knows 𝓛 𝓣.C F → Opds K 𝓛 (raw (𝓣.C F.name (Vs (rule-of F x).pars) (λ v. mean 𝓛 (After 𝓛 (rule-of F x) v))) ∷ Γ) E xs (Vs (rule-of F x).pars)
      → ((z : Z 𝓛 (rule-of F x)) → Says 𝓛 (rule-of F x) (F.result.val z.0) z → Seq K 𝓛 (HeldAt 𝓤 (rule-of F x).pars z.1 ++ Γ) (settles E dst (F.result.val z.0) q)) → Seq K 𝓛 (Held 𝓛 (rule-of F x).pars ++ Γ) (runs 𝓣.C 𝓣.Λ E (call F.name xs dst) q)
  calls-any-last F x t ls fs req known os k = calls-met-last F x t ls fs req (known x) os k
