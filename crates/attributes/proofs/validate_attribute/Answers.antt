-- `attributes::validate_attribute` meets its contract.
use mathlib.Core.Bool.{true, not}
use mathlib.Core.List.{List, [], ◌∷◌, ◌++◌}
use mathlib.Core.Path.{◌≡◌, refl, ap, ◌∙◌}
use Rattle.attributes.proofs.Owed.{at, Owing, owing-start, owing-as, owing-room, owing-wrote, owing-end}
use Rattle.attributes.proofs.Whole.{kinds-none, kinds-scan, kinds-bare}
use Rattle.attributes.proofs.Bars.{default-there}
use Rattle.attributes.specs.Attributes.{empty_list, no_default, between, attribute_scan, body, has_default, attribute_kinds}
use Rattle.attributes.specs.Inner.{finding_of_kind}
use Rattle.cursor.specs.Names.{name_of}
use Rattle.findings.specs.Finding.{Kind, finding_of}
use Rattle.table.specs.Names.{default_name}
use Rattle.text.specs.Characters.{chars}
use Rattle.text.specs.Pick.{cut, pick}
use Rattle.text.specs.Words.{trim}
use Rattle.attributes.proofs.validate_attribute.Goals as goal

pub push_error-requires : goal.push_error-requires
push_error-requires c =
    let is_body : c.trim-body.result.now ≡ body c.args.text.now = c.trim-body.ensures ∙ ap (λ (s : List _). cut (trim s) s) c.after_bar.ensures in
    let Due : List Kind → Type 0 = λ ks. let a = c.args in Owing a.w (at a.w (attribute_kinds (name_of a.marker.now) a.text.now)) a.list.now a.c ks a.list.now a.c in
    let due_all : Due (attribute_kinds (name_of c.args.marker.now) c.args.text.now) = let a = c.args in owing-start a.w (attribute_kinds (name_of a.marker.now) a.text.now) a.list.now a.c c.requires in
    let due-none : Due (empty_list ∷ []) = let a = c.args in owing-as (kinds-none (name_of a.marker.now) a.text.now c.trim-body.result.now is_body c.if-body-eq0.true) due_all in
    owing-room empty_list true [] (finding_of_kind c.args.w empty_list 0) refl due-none

pub returns-then-body-eq0 : goal.returns-then-body-eq0
returns-then-body-eq0 c =
    let is_body : c.trim-body.result.now ≡ body c.args.text.now = c.trim-body.ensures ∙ ap (λ (s : List _). cut (trim s) s) c.after_bar.ensures in
    let Due : List Kind → Type 0 = λ ks. let a = c.args in Owing a.w (at a.w (attribute_kinds (name_of a.marker.now) a.text.now)) a.list.now a.c ks a.list.now a.c in
    let due_all : Due (attribute_kinds (name_of c.args.marker.now) c.args.text.now) = let a = c.args in owing-start a.w (attribute_kinds (name_of a.marker.now) a.text.now) a.list.now a.c c.requires in
    let due-none : Due (empty_list ∷ []) = let a = c.args in owing-as (kinds-none (name_of a.marker.now) a.text.now c.trim-body.result.now is_body c.if-body-eq0.true) due_all in
    owing-end (owing-wrote empty_list true [] (finding_of_kind c.args.w empty_list 0) refl due-none c.push_error.ensures)

pub scan_list-requires : goal.scan_list-requires
scan_list-requires c =
    let is_body : c.trim-body.result.now ≡ body c.args.text.now = c.trim-body.ensures ∙ ap (λ (s : List _). cut (trim s) s) c.after_bar.ensures in
    let is-scan : attribute_kinds (name_of c.args.marker.now) c.args.text.now ≡ attribute_scan between (chars c.trim-body.result.now) = let a = c.args in kinds-scan (name_of a.marker.now) a.text.now c.trim-body.result.now is_body c.if-body-eq0.false c.find_byte.result c.find_byte.ensures c.if-find_byte-body.true in
    rw is-scan at c.requires

pub returns-then-find_byte-body : goal.returns-then-find_byte-body
returns-then-find_byte-body c =
    let is_body : c.trim-body.result.now ≡ body c.args.text.now = c.trim-body.ensures ∙ ap (λ (s : List _). cut (trim s) s) c.after_bar.ensures in
    let is-scan : attribute_kinds (name_of c.args.marker.now) c.args.text.now ≡ attribute_scan between (chars c.trim-body.result.now) = let a = c.args in kinds-scan (name_of a.marker.now) a.text.now c.trim-body.result.now is_body c.if-body-eq0.false c.find_byte.result c.find_byte.ensures c.if-find_byte-body.true in
    rw is-scan c.scan_list.ensures

pub push_if-requires : goal.push_if-requires
push_if-requires c =
    let is_body : c.trim-body.result.now ≡ body c.args.text.now = c.trim-body.ensures ∙ ap (λ (s : List _). cut (trim s) s) c.after_bar.ensures in
    let Due : List Kind → Type 0 = λ ks. let a = c.args in Owing a.w (at a.w (attribute_kinds (name_of a.marker.now) a.text.now)) a.list.now a.c ks a.list.now a.c in
    let due_all : Due (attribute_kinds (name_of c.args.marker.now) c.args.text.now) = let a = c.args in owing-start a.w (attribute_kinds (name_of a.marker.now) a.text.now) a.list.now a.c c.requires in
    let due-bare : Due (pick (not c.is_some-known.result) (no_default ∷ []) [] ++ []) = let a = c.args in let e = c in owing-as (kinds-bare (name_of a.marker.now) a.text.now e.trim-body.result.now is_body e.if-body-eq0.false e.find_byte.result e.find_byte.ensures c.is_some-known.result (c.is_some-known.ensures ∙ default-there _ ∙ ap has_default (c.default_attribute.ensures ∙ ap default_name c.name_of.ensures)) e.if-find_byte-body.false) due_all in
    owing-room no_default (not c.is_some-known.result) [] (finding_of c.finding-bare.result) c.finding-bare.ensures due-bare

pub returns : goal.returns
returns c =
    let is_body : c.trim-body.result.now ≡ body c.args.text.now = c.trim-body.ensures ∙ ap (λ (s : List _). cut (trim s) s) c.after_bar.ensures in
    let Due : List Kind → Type 0 = λ ks. let a = c.args in Owing a.w (at a.w (attribute_kinds (name_of a.marker.now) a.text.now)) a.list.now a.c ks a.list.now a.c in
    let due_all : Due (attribute_kinds (name_of c.args.marker.now) c.args.text.now) = let a = c.args in owing-start a.w (attribute_kinds (name_of a.marker.now) a.text.now) a.list.now a.c c.requires in
    let due-bare : Due (pick (not c.is_some-known.result) (no_default ∷ []) [] ++ []) = let a = c.args in let e = c in owing-as (kinds-bare (name_of a.marker.now) a.text.now e.trim-body.result.now is_body e.if-body-eq0.false e.find_byte.result e.find_byte.ensures c.is_some-known.result (c.is_some-known.ensures ∙ default-there _ ∙ ap has_default (c.default_attribute.ensures ∙ ap default_name c.name_of.ensures)) e.if-find_byte-body.false) due_all in
    owing-end (owing-wrote no_default (not c.is_some-known.result) [] (finding_of c.finding-bare.result) c.finding-bare.ensures due-bare c.push_if.ensures)
