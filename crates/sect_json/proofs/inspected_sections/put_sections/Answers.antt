use Rattle.std.proofs.{Common.{◌≡◌, [], ◌∷◌, ◌++◌, length, refl, sym, ap, subst, ◌∙◌, arith}, lemmas.List.{append-nil}}
use Rattle.sect_types.specs.{Programs.{ProgramView}, Sections.{sections_of}}
use Rattle.sect_names.specs.Schemes.{SchemeView}
use Rattle.sect_json.specs.{Inspecting.{IsSectionInspected}, Values.{AreTold}}
use Rattle.sect_json.proofs.{Rows.{told_none, told_more}, Texts.{element_next, elements_closed}}
use Rattle.sect_json.proofs.inspected_sections.put_sections.Goals as goal

pub loop-section-init : goal.loop-section-init
loop-section-init c =
    let of = c.args.of.now in
    record {
      sections = [];
      inspected = told_none (IsSectionInspected of.compiled.now of.source.now of.spans.now);
      written = sym (append-nil c.push.new.self.items);
    }

pub loop-section-preserved : goal.loop-section-preserved
loop-section-preserved c =
    let of = c.args.of.now in
    let had = c.loop-section.invariant in
    let told = c.in_ok-put_section.ensures in
    record {
      sections = had.sections ++ told.0 ∷ [];
      inspected = told_more (IsSectionInspected of.compiled.now of.source.now of.spans.now) c.loop-section.section
          had.sections (had.sections ++ told.0 ∷ []) told.0 had.inspected told.1 refl;
      written = element_next c.loop-section.section _ _ _ _ had.sections told.0 had.inspected.many had.written
          c.in_ok-put_comma.ensures told.2;
    }

pub returns : goal.returns
returns c =
    let of = c.args.of.now in
    let v = of.compiled.now in
    let had = c.loop-section.invariant in
    let program = c.program.ensures ∙ ap (λ (s : SchemeView). s.program) c.scheme.ensures in
    let count = c.section_count-section-end.ensures.count
    ∙ ap (λ (p : ProgramView). length (sections_of p.texts)) program in
    let all : c.loop-section.section ≡ length (sections_of v.scheme.program.texts) =
    omega (arith, c.loop-section-test.false, c.loop-section.auto.section-end, count) in
    record {
      sections = had.sections;
      inspected = subst (λ n. AreTold (IsSectionInspected v of.source.now of.spans.now) n had.sections) all
          had.inspected;
      written = elements_closed _ _ _ _ had.sections c.in_ok-push.ensures.items had.written
          c.in_ok-push-2.ensures.items;
    }
