-- What holds of the six kinds of findings that attributes can have holds of all that are found of an attribute.
-- Assumes nothing.
use Prim.Native.Nat.{ℕ}
use mathlib.Core.Bool.{Bool, true, false}
use mathlib.Core.List.{List, [], ◌∷◌}
use lib.Dec.{eqb}
use lib.ListN.{length}
use Rattle.text.specs.Blank.{blank}
use Rattle.text.specs.Characters.{chars}
use Rattle.text.specs.declared.Decoded.{Decoded}
use Rattle.table.specs.Names.{default_name}
use Rattle.findings.specs.Finding.{Kind}
use Rattle.attributes.specs.Attributes.{empty_list, key_alone, empty_value, unterminated, unquoted_value, no_default, Mode, between, key, value, opened, quoted, escaping, unquoted, in_quotes, ScanStep, go, report, stop, scan_step, end_of_text, scan_on, attribute_scan, body, has_default, holds_equals, attribute_kinds}
use Rattle.text.specs.Pick.{pick, AllOf}

pub record OfAttributes (P : Kind → Type 0) : Type 0 where
  pub empty-list : P empty_list
  pub key-alone : P key_alone
  pub empty-value : P empty_value
  pub not-ended : P unterminated
  pub not-quoted : P unquoted_value
  pub no-default : P no_default

module _ (P : Kind → Type 0) (six : OfAttributes P) where
  abbrev InStep : ScanStep → Type 0
  InStep (go m) = Unit {0}
  InStep (report k m) = P k
  InStep (stop k) = P k

  in-pick : (b : Bool) (x y : ScanStep) → InStep x → InStep y → InStep (pick b x y)
  in-pick true x y p q = p
  in-pick false x y p q = q

  in-quotes : (c : ℕ) → InStep (in_quotes c)
  in-quotes c = in-pick (eqb c 0x5C) (go escaping) (go quoted) tt tt

  in_step : (m : Mode) (c : ℕ) → InStep (scan_step m c)
  unfolding scan_step
  in_step between c = in-pick (blank c) _ _ tt (in-pick (eqb c 0x3D) _ _ tt tt)
  in_step key c = in-pick (eqb c 0x3D) _ _ tt (in-pick (blank c) _ _ six.key-alone tt)
  in_step value c = in-pick (eqb c 0x22) _ _ tt (in-pick (blank c) _ _ six.not-quoted six.not-quoted)
  in_step opened c = in-pick (eqb c 0x22) _ _ six.empty-value (in-quotes c)
  in_step quoted c = in-pick (eqb c 0x22) _ _ tt (in-quotes c)
  in_step escaping c = in-quotes c
  in_step unquoted c = in-pick (blank c) _ _ tt tt

  at_end : (m : Mode) → AllOf P (end_of_text m)
  at_end between = tt
  at_end key = (six.key-alone, tt)
  at_end value = (six.not-quoted, tt)
  at_end opened = (six.not-ended, tt)
  at_end quoted = (six.not-ended, tt)
  at_end escaping = (six.not-ended, tt)
  at_end unquoted = tt

  resumed : (x : ScanStep) (rest : Mode → List Kind) → InStep x → ((m : Mode) → AllOf P (rest m)) → AllOf P (scan_on x rest)
  resumed (go m) rest p h = h m
  resumed (report k m) rest p h = (p, h m)
  resumed (stop k) rest p h = (p, tt)

  scanned : (m : Mode) (cs : List Decoded) → AllOf P (attribute_scan m cs)
  unfolding attribute_scan
  scanned m [] = at_end m
  scanned m (c ∷ cs) = resumed (scan_step m c.cp) (λ n. attribute_scan n cs) (in_step m c.cp) (λ n. scanned n cs)

  pub all_kinds : (marker text : List ℕ) → AllOf P (attribute_kinds marker text)
  unfolding attribute_kinds
  all_kinds marker text = by (eqb (length (body text)) 0) (holds_equals (body text)) (has_default (default_name marker))
    where
      by : (a b c : Bool) → AllOf P (pick a (empty_list ∷ []) (pick b (attribute_scan between (chars (body text))) (pick c [] (no_default ∷ []))))
      by true b c = (six.empty-list, tt)
      by false true c = scanned between (chars (body text))
      by false false true = tt
      by false false false = (six.no-default, tt)
