use Rattle.std.proofs.{Common.{refl, ap, sym, subst, ◌∙◌}, lemmas.Result.{on_ok_weaker}}
use Rattle.std.specs.List.{flat_map}
use Rattle.sect_front.specs.Front.{IsSpelled}
use Rattle.sect_types.specs.Programs.{ProgramView}
use Rattle.sect_names.specs.Schemes.{SchemeView}
use Rattle.sect_places.specs.NodeSpans.{AreNodeSpans}
use Rattle.sect_editor.specs.{Marks.{section_numbers}, Symbols.{section_symbols}}
use Rattle.sect_editor.proofs.symbols.put_sections.Goals as goal

pub node_spans-requires : goal.node_spans-requires
node_spans-requires c =
    subst (λ (p : ProgramView). IsSpelled c.args.source.now p.source)
    (sym (c.program.ensures ∙ ap (λ (s : SchemeView). s.program) c.scheme.ensures)) c.requires

pub put_marked_sections-requires : goal.put_marked_sections-requires
put_marked_sections-requires c =
    subst (λ (p : ProgramView). AreNodeSpans c.args.source.now p c.in_ok-spans.spans)
    (c.program.ensures ∙ ap (λ (s : SchemeView). s.program) c.scheme.ensures) c.in_ok-spans.ensures

pub returns : goal.returns
returns c =
    let v = c.args.compiled.now in
    let source = c.args.source.now in
    let spans = c.in_ok-spans.spans in
    on_ok_weaker c.put_marked_sections.result (λ h. (
      flat_map (section_symbols v source spans) (section_numbers v),
      (
        spans,
        subst (λ (p : ProgramView). AreNodeSpans source p spans)
            (c.program.ensures ∙ ap (λ (s : SchemeView). s.program) c.scheme.ensures) c.in_ok-spans.ensures,
        refl,
      ),
      h,
    )) c.put_marked_sections.ensures
