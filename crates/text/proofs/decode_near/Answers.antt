-- `text::decode_near` meets its contract.
use Prim.Native.Nat.{ℕ}
use lib.ListN.{drop}
use mathlib.Core.Bool.{Bool}
use mathlib.Core.Path.{◌≡◌, ap, ◌∙◌}
use native.Mathlib.Omega.{arith}
use Rattle.text.proofs.Decode.{decode-3}
use Rattle.text.proofs.Scan.{within_text}
use Rattle.text.specs.Pick.{pick}
use Rattle.text.specs.Utf8.{width_of}
use Rattle.text.proofs.decode_near.Goals as goal

pub of_three-requires : goal.of_three-requires
of_three-requires c =
    let a = c.args in
    let w : width_of (drop a.at a.s.now) ≡ 3 = c.three_at.ensures ∙ ap (λ (t : Bool). pick t 3 0) c.if-three_at.true in
    omega (arith, w, within_text a.s.now a.at (omega arith))

pub returns-in-225-to-227 : goal.returns-in-225-to-227
returns-in-225-to-227 c =
    let a = c.args in
    let w : width_of (drop a.at a.s.now) ≡ 3 = c.three_at.ensures ∙ ap (λ (t : Bool). pick t 3 0) c.if-three_at.true in
    ap (λ (n : ℕ). record { cp = n; width = 3 }) c.of_three.ensures ∙ decode-3 a.s.now a.at c.requires w
