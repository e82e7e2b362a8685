use Rattle.std.proofs.{Common.{List, ◌++◌, map, codes, append_assoc, ap, subst, ◌∙◌}, lemmas.Result.{on_ok_weaker}}
use Rattle.serde_json.specs.{View.{view}, Written.{has_float}}
use Rattle.serde_json.proofs.Views.{view-Array}
use Rattle.sect_front.specs.{TreeView.{TreeView}, declared.tree.Procedure.{Procedure}}
use Rattle.sect_types.specs.Programs.{ProgramView}
use Rattle.sect_names.specs.Schemes.{SchemeView}
use Rattle.sect_points.specs.Partitions.{ClassesView}
use Rattle.sect_json.specs.{Calls.{procedure_json}, Sites.{AreClasses}, Values.{count, list}}
use Rattle.sect_json.specs.steps.Writes.{member_text}
use Rattle.sect_json.proofs.{Plain.{plain_map}, PlainCalls.{plain_procedure}, PlainSites.{plain_classes}}
use Rattle.sect_json.proofs.inspecting.put_head.Goals as goal

pub put_member-requires : goal.put_member-requires
put_member-requires c =
    ap has_float (view-Array c.in_ok-class_values.field-0)
    ∙ plain_classes c.classes.result.now.numbers (map view c.in_ok-class_values.field-0.items)
    c.in_ok-class_values.ensures

pub put_member-requires-3 : goal.put_member-requires-3
put_member-requires-3 c =
    let of = c.args.of.now in
    ap has_float (view-Array c.in_ok-procedure_values.field-0 ∙ ap list c.in_ok-procedure_values.ensures)
    ∙ plain_map (procedure_json of.source.now of.names.now) (plain_procedure of.source.now of.names.now)
    c.procedures-procedures.result.now

pub returns : goal.returns
returns c =
    let of = c.args.of.now in
    let v = of.compiled.now in
    let old = c.args.out.now.items in
    let scheme = c.scheme-scheme.ensures in
    let program = c.program.ensures ∙ ap (λ (s : SchemeView). s.program) scheme in
    let procedures = c.procedures-procedures.ensures
    ∙ ap (λ (t : TreeView). t.procedures) (c.tree.ensures.tree ∙ ap (λ (p : ProgramView). p.source) program) in
    let told = map view c.in_ok-class_values.field-0.items in
    let first = c.put_member.new.out.items in
    let second = c.put_member-2.new.out.items in
    let of_procedures = λ (ps : List Procedure). list (map (procedure_json of.source.now of.names.now) ps) in
    let a = member_text 123 (codes "classes") (list told) in
    let b = member_text 44 (codes "k") (count v.scheme.most) in
    let d = member_text 44 (codes "procedures") (of_procedures v.scheme.program.source.procedures) in
    on_ok_weaker c.put_member-3.result (λ h. record {
      classes = told;
      parted = subst (λ (k : ClassesView). AreClasses k.numbers told)
          (c.classes.ensures ∙ ap (λ (s : SchemeView). s.classes) scheme) c.in_ok-class_values.ensures;
      written = h
          ∙ (ap (λ x. second ++ member_text 44 (codes "procedures") x)
          (view-Array c.in_ok-procedure_values.field-0 ∙ ap list c.in_ok-procedure_values.ensures
          ∙ ap of_procedures procedures)
          ∙ (ap (λ r. r ++ d) (c.in_ok-put_member-2.ensures
          ∙ (ap (λ x. first ++ member_text 44 (codes "k") x) (c.from.ensures
          ∙ ap count (c.k.ensures ∙ ap (λ (s : SchemeView). s.most) scheme))
          ∙ ap (λ r. r ++ b) (c.in_ok-put_member.ensures
          ∙ ap (λ x. old ++ member_text 123 (codes "classes") x) (view-Array c.in_ok-class_values.field-0))))
          ∙ (append_assoc (old ++ a) b d ∙ append_assoc old a (b ++ d))));
    }) c.put_member-3.ensures
