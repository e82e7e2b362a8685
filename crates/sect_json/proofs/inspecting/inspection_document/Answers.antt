use Rattle.std.proofs.Common.{List, [], ◌∷◌, ◌++◌, ℕ, length, sym, ap, subst, ◌∙◌}
use Rattle.serde_json.specs.Written.{compact_text}
use Rattle.sect_front.specs.{Front.{IsSpelled}, TreeView.{TreeView}}
use Rattle.sect_types.specs.{Programs.{ProgramView}, Sections.{sections_of}}
use Rattle.sect_names.specs.Schemes.{SchemeView}
use Rattle.sect_places.specs.{NameSpans.{AreNameSpans}, NodeSpans.{AreNodeSpans}, declared.name_use.NameSpan.{NameSpan}}
use Rattle.sect_emit.specs.Compiled.{program_of}
use Rattle.sect_json.specs.{Inspecting.{IsSectionInspected, inspection_json}, Values.{AreTold}}
use Rattle.sect_json.specs.steps.Inspected.{AreNamesWithin}
use Rattle.sect_json.proofs.inspecting.inspection_document.Goals as goal

pub node_spans-requires : goal.node_spans-requires
node_spans-requires c =
    subst (λ (p : ProgramView). IsSpelled c.args.source.now p.source)
    (sym (c.program-program.ensures ∙ ap (λ (s : SchemeView). s.program) c.scheme.ensures)) c.requires

pub tree_names-requires : goal.tree_names-requires
tree_names-requires c =
    let program = c.program-program.ensures ∙ ap (λ (s : SchemeView). s.program) c.scheme.ensures in
    subst (IsSpelled c.args.source.now) (sym (c.tree.ensures.tree ∙ ap (λ (p : ProgramView). p.source) program))
    c.requires

pub put_program-requires : goal.put_program-requires
put_program-requires c =
    let source = c.args.source.now in
    let spans = c.in_ok-spans.spans in
    let program = c.program-program.ensures ∙ ap (λ (s : SchemeView). s.program) c.scheme.ensures in
    record {
      placed = subst (λ (s : List ℕ). AreNodeSpans s (program_of c.args.compiled.now) spans)
          (sym c.in_ok-lines.ensures)
          (subst (λ (p : ProgramView). AreNodeSpans source p spans) program c.in_ok-spans.ensures);
      named = subst (λ (s : List ℕ). AreNamesWithin (length s) c.as_slice.result.now) (sym c.in_ok-lines.ensures)
          (subst (λ (ns : List NameSpan). AreNamesWithin (length source) ns) (sym c.as_slice.ensures.value)
          c.in_ok-names.ensures.proper);
    }

pub returns : goal.returns
returns c =
    let v = c.args.compiled.now in
    let source = c.args.source.now in
    let spans = c.in_ok-spans.spans in
    let names = c.as_slice.result.now in
    let program = c.program-program.ensures ∙ ap (λ (s : SchemeView). s.program) c.scheme.ensures in
    let tree = c.tree.ensures.tree ∙ ap (λ (p : ProgramView). p.source) program in
    let told = c.in_ok-put_program.ensures in
    let same = c.in_ok-lines.ensures in
    record {
      spans = spans;
      placed = subst (λ (p : ProgramView). AreNodeSpans source p spans) program c.in_ok-spans.ensures;
      names = names;
      named = subst (AreNameSpans source v.scheme.program.source) (sym c.as_slice.ensures.value)
          (subst (λ (t : TreeView). AreNameSpans source t c.in_ok-names.names.items) tree c.in_ok-names.ensures);
      classes = told.classes;
      parted = told.parted;
      sections = told.sections;
      inspected = subst (λ (s : List ℕ). AreTold (IsSectionInspected v s spans)
          (length (sections_of (program_of v).texts)) told.sections) same told.inspected;
      printed = c.in_ok-push.ensures.items ∙ ap (λ (r : List ℕ). r ++ 10 ∷ []) (told.written
          ∙ (ap (λ (s : List ℕ). c.new-out.result.items
          ++ compact_text (inspection_json v s spans names told.classes told.sections)) same
          ∙ ap (λ (r : List ℕ). r ++ compact_text (inspection_json v source spans names told.classes told.sections))
          c.new-out.ensures.items));
    }
