-- The laws at work, from a contract to a theorem. It says nothing of any one crate.
--     sample(out: &mut [u8], at: usize, s: &[u8], n: &mut u64) -> u64       a contract with a parameter of each sort but `same`.        terms, signature, spec     its `Terms`, and what the toolchain makes of such a contract
--     known            the first is the second by computation, so a walk may call it
--     lender, function, walk, lender_meets      a function with the same contract, which lends all that it has to `sample`: its code, its walk, and that it meets its contract
--     two<'a>(s: &'a [u8], t: &'a [u8]) -> u64      two references of one lifetime.        known₂, meets₂     the same of it, and that a walk of any code f proves it: the token is held by halves
--     copies, shared-out      what a call with a `&[u8]` and the lending of a local array as one ask of the element type
-- Assumes `Logic`, and a `Model` and a `Running` where it says so.
use mathlib.Core.Path.{◌≡◌, refl}
use Prim.Native.Nat.{ℕ, ◌≤◌}
use lib.ListN.{length}
use seplogic.Ra.Ura.{Ura}
use mir.Syntax.{Fn, fn₀, local, value_local, named, imm, mut as mut-of, ty_int, ty_ref, seq, call, return, copy, place}
use prog.Model.{Model}
use prog.Wp.{Closed, Tables}
use contract.Lifetimes.{Lfts, Shares as Parts}
use contract.Running.{Running, tables, tables_of}
use types.Logic.{Logic}
use base.Logic.{sep, emp}
use base.Fraction.{full_share}
use base.Fraction as PosShare
use denote.Builtin.{SliceRefOf, SliceRefMutOf, RefMutOf}
use types.Kit.{◌$◌, !, move}
use types.Run.{and_then, no_more}
use denote.Plain.{uint_row_laws}
use denote.Copied.{uint_Copied}
use denote.Shares.{Shares}
use denote.Slice.{slice_ty}
use denote.Exit.{yes}
use denote.Signature.{Signature, plain}
use denote.Triple.Spec.{Spec, Meets, exits}
use Rattle.reference_laws.proofs.Call.{Terms, stated-as, val, shr, same, mut, ref', of_number, w8, w64, u8, u64, usize, [], ◌∷◌, Known, Knows, Copies, bound_at, rule-of, Inputs, cited, clauses}
use Rattle.reference_laws.proofs.Ends.{Facing, TakesIn, WalkFor, proves, proves-by, inputs, halves, whole_again, ends, span}
use Rattle.reference_laws.proofs.Walk.{cell, calls-into}

abbrev pub terms : Terms
terms = stated-as (fn₀ "sample") (of_number w64)
    (mut u8 ∷ val (of_number w64) ∷ shr u8 ∷ ref' u64 ∷ [])
    (λ out₀ at₀ s₀ n₀. (at₀ ≤ length out₀) ∷ (length s₀ ≤ n₀) ∷ [])
    (λ out₀ at₀ s₀ n₀ r z. (length z.0 ≡ length out₀) ∷ (z.1.0 ≡ r) ∷ [])

abbrev pub signature : Signature
signature = record {
  lifetimes = 3;
  outlives = [];
  params =
      SliceRefMutOf (0 ∷ []) tt (plain (λ κs. u8)) (λ κs. tt)
      ∷ plain (λ κs. usize)
      ∷ SliceRefOf (1 ∷ []) tt (plain (λ κs. u8)) (λ κs. tt)
      ∷ RefMutOf (2 ∷ []) tt (plain (λ κs. u64)) (λ κs. tt)
      ∷ [];
  result = plain (λ κs. u64);
}

abbrev pub spec : {M : Type 1} {𝓤 : Ura M} (𝓛 : Logic 𝓤) → Spec 𝓤 signature
spec {𝓤 = 𝓤} 𝓛 κs (out, (at, (s, (n, end)))) = record {
  ghost = Unit {0};
  requires = λ _. clauses 𝓤 ((at ≤ length out.now) ∷ (length s.now ≤ n.now) ∷ []);
  ensures = λ _ r. exits 𝓛 signature (yes, (yes, (yes, (yes, tt)))) κs (out, (at, (s, (n, end)))) (λ (out', (_, (_, (n', _)))).
      clauses 𝓤 ((length out'.now ≡ length out.now) ∷ (n'.now ≡ r) ∷ []));
}

pub known : Known terms signature (λ M 𝓤 𝓛 at_mem run. spec 𝓛)
known M 𝓤 𝓛 𝓜 𝓡 γ r at met x cs = cited 𝓤 𝓛.H _ 𝓜 𝓡 γ terms.name r at met (bound_at (rule-of terms x).pars cs)

-- ---- a function that lends all that it has to `sample`, walked: its contract is the same
abbrev pub lender : Terms
lender = stated-as (fn₀ "lender") terms.result terms.sorts terms.requires terms.ensures

abbrev pub function : Fn
function = record {
  lifetimes = 3;
  outlives = [];
  ty_params = [];
  givens = 0;
  params = 4;
  locals =
      local (ty_int w64) value_local
      ∷ local (slice_ty (ty_ref (named 0) mut-of (ty_int w8))) value_local
      ∷ local (ty_int w64) value_local
      ∷ local (slice_ty (ty_ref (named 1) imm (ty_int w8))) value_local
      ∷ local (ty_ref (named 2) mut-of (ty_int w64)) value_local
      ∷ [];
  body = seq (call (fn₀ "sample") (copy (place 1 []) ∷ copy (place 2 []) ∷ copy (place 3 []) ∷ copy (place 4 []) ∷ []) (place 0 [])) return;
}

-- what is shared is copied
pub copies : (x : Inputs terms.sorts) → Copies (rule-of terms x).pars
copies x = (uint_row_laws w8, tt)

module _ {M : Type 1} {𝓤 : Ura M} (𝓛 : Logic 𝓤) (𝓣 : Tables 𝓤 𝓛.H) (sample-known : Knows 𝓛 𝓣.C terms) where
  pub walk : Facing lender.sorts (WalkFor 𝓛 𝓣.C 𝓣.Λ function lender)
  walk out-at out₀ out-room out-n at₀ at-fits s-at s₀ s-room s-n n-at n₀ req l0 l1 l2 l3 l4 =
      let x : Inputs terms.sorts = ((out-at, out₀), (at₀, ((s-at, s₀), ((n-at, n₀), tt)))) in
      move ! (6 ∷ 7 ∷ 8 ∷ []) $
      calls-into 𝓛 𝓣 terms x ! (copies x) ((refl, at-fits), tt) req sample-known (and_then ! (cell ! 3 refl) (and_then ! (cell ! 4 refl) (and_then ! (cell ! 5 refl) (and_then ! (cell ! 6 refl) (no_more !))))) 4 (λ _. refl) refl (λ z s.
      move ! (span 3 6 []) $ ends ! (rule-of lender x) refl tt z.0 s.0 z.1 (s.1.0, tt) s.1.1 refl)

-- so the function meets its contract, where `sample` meets its own
pub lender_meets : {M : Type 1} (𝓤 : Ura M) (𝓛 : Logic 𝓤) (𝓜 : Model 𝓤 𝓛.H) (𝓡 : Running 𝓤 𝓛.H 𝓜) → Closed 𝓤 𝓛.H (tables 𝓤 𝓛.H 𝓜 𝓡 𝓡.env).C (tables 𝓤 𝓛.H 𝓜 𝓡 𝓡.env).Λ lender.name function
    → Meets 𝓛 signature (𝓡.run (𝓡.env terms.name)) (spec 𝓛) → Meets 𝓛 signature (𝓡.run (𝓡.env lender.name)) (spec 𝓛)
unfolding tables_of
lender_meets 𝓤 𝓛 𝓜 𝓡 closed met y = proves 𝓛 𝓜 𝓡 𝓡.env lender.name function closed lender y.0.0 y.0.1 y.0.3 y.0.4 (refl, tt)
    (walk 𝓛 (tables_of 𝓤 𝓛.H 𝓜 (tables 𝓤 𝓛.H 𝓜 𝓡 𝓡.env)) (known _ 𝓤 𝓛 𝓜 𝓡 𝓡.env _ refl met))

-- a local array of bytes is lent as a `&[u8]`
pub shared-out : {M : Type 1} {𝓤 : Ura M} (𝓛 : Logic 𝓤) (ν : ℕ) → Shares 𝓛 u8 (ν ∷ [])
shared-out 𝓛 ν = (uint_Copied 𝓛 w8).shares full_share (ν ∷ [])

-- ---- two references of one lifetime, whose token is held by halves
--     two<'a>(s: &'a [u8], t: &'a [u8]) -> u64
abbrev pub terms₂ : Terms
terms₂ = stated-as (fn₀ "two") (of_number w64) (shr u8 ∷ same u8 ∷ []) (λ s₀ t₀. []) (λ s₀ t₀ r z. (r ≤ length s₀) ∷ [])

abbrev pub signature₂ : Signature
signature₂ = record {
  lifetimes = 1;
  outlives = [];
  params = SliceRefOf (0 ∷ []) tt (plain (λ κs. u8)) (λ κs. tt) ∷ SliceRefOf (0 ∷ []) tt (plain (λ κs. u8)) (λ κs. tt) ∷ [];
  result = plain (λ κs. u64);
}

abbrev pub spec₂ : {M : Type 1} {𝓤 : Ura M} (𝓛 : Logic 𝓤) → Spec 𝓤 signature₂
spec₂ {𝓤 = 𝓤} 𝓛 κs (s, (t, end)) = record {
  ghost = Unit {0};
  requires = λ _. clauses 𝓤 [];
  ensures = λ _ r. exits 𝓛 signature₂ (yes, (yes, tt)) κs (s, (t, end)) (λ _. clauses 𝓤 ((r ≤ length s.now) ∷ []));
}

pub known₂ : Known terms₂ signature₂ (λ M 𝓤 𝓛 at_mem run. spec₂ 𝓛)
known₂ M 𝓤 𝓛 𝓜 𝓡 γ r at met x cs = cited 𝓤 𝓛.H _ 𝓜 𝓡 γ terms₂.name r at met (bound_at (rule-of terms₂ x).pars cs)

pub meets₂ : {M : Type 1} {𝓤 : Ura M} (𝓛 : Logic 𝓤) (𝓜 : Model 𝓤 𝓛.H) (𝓡 : Running 𝓤 𝓛.H 𝓜) (f : Fn) → Closed 𝓤 𝓛.H (tables 𝓤 𝓛.H 𝓜 𝓡 𝓡.env).C (tables 𝓤 𝓛.H 𝓜 𝓡 𝓡.env).Λ terms₂.name f
    → ((x : Inputs terms₂.sorts) → TakesIn 𝓛 f.locals (rule-of terms₂ x).pars) → ((x : Inputs terms₂.sorts) → WalkFor 𝓛 (tables 𝓤 𝓛.H 𝓜 𝓡 𝓡.env).C (tables 𝓤 𝓛.H 𝓜 𝓡 𝓡.env).Λ f terms₂ x)
    → Meets 𝓛 signature₂ (𝓡.run (𝓡.env terms₂.name)) (spec₂ 𝓛)
meets₂ {𝓤 = 𝓤} 𝓛 𝓜 𝓡 f closed takes w y =
    let κ = y.0.0.0 in let q = y.0.1.0 in let κs : Lfts 2 = (κ, (κ, tt)) in let qs : Parts 2 = (PosShare.left q, (PosShare.right q, tt)) in
    proves-by 𝓛 𝓜 𝓡 𝓡.env terms₂.name f closed terms₂ κs qs y.0.3 y.0.4 (sep 𝓤 (𝓛.A.lft κ q) (emp 𝓤)) (halves 𝓛 κ q (emp 𝓤)) (whole_again 𝓛 κ q (emp 𝓤))
    (takes (inputs terms₂.sorts κs qs y.0.3)) (λ _. w (inputs terms₂.sorts κs qs y.0.3))
