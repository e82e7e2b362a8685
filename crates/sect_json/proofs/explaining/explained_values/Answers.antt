use Rattle.std.proofs.Common.{◌≡◌, length, map, refl, sym, ap, subst, ◌∙◌, arith}
use Rattle.serde_json.specs.View.{view}
use Rattle.sect_types.specs.{Programs.{ProgramView}, Sections.{sections_of}}
use Rattle.sect_names.specs.Schemes.{SchemeView}
use Rattle.sect_json.specs.steps.Explained.{AreExplained}
use Rattle.sect_json.proofs.{Rows.{view_more}, Telling.{none_explained, one_more_explained}}
use Rattle.sect_json.proofs.explaining.explained_values.Goals as goal

pub loop-section-init : goal.loop-section-init
loop-section-init c =
    subst (AreExplained c.args.compiled.now 0) (ap (map view) (sym c.new-values.ensures.items))
    (none_explained c.args.compiled.now)

pub loop-section-preserved : goal.loop-section-preserved
loop-section-preserved c =
    let v = c.in_ok-explained_value.field-0 in
    let values = c.loop-section.values.items in
    one_more_explained c.args.compiled.now c.loop-section.section (map view values) (map view c.push.new.self.items)
    (view v) c.loop-section.invariant c.in_ok-explained_value.ensures
    (view_more values c.push.new.self.items v (view v) c.in_ok-push.ensures.items refl)

pub returns : goal.returns
returns c =
    let v = c.args.compiled.now in
    let program = c.program.ensures ∙ ap (λ (s : SchemeView). s.program) c.scheme.ensures in
    let count = c.section_count-section-end.ensures.count
    ∙ ap (λ (p : ProgramView). length (sections_of p.texts)) program in
    let all : c.loop-section.section ≡ length (sections_of v.scheme.program.texts) =
    omega (arith, c.loop-section-test.false, c.loop-section.auto.section-end, count) in
    subst (λ n. AreExplained v n (map view c.loop-section.values.items)) all c.loop-section.invariant
