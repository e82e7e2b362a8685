use Rattle.std.proofs.{Common.{◌≡◌, ℕ, List, ap, subst, ◌∙◌}, lemmas.Result.{IfOk-weaker}}
use Rattle.sect_types.specs.Programs.{ProgramView, sites_of}
use Rattle.sect_points.specs.Partitions.{ClassesView}
use Rattle.sect_names.specs.Schemes.{SchemeView}
use Rattle.sect_editor.specs.Hovering.{AreSitesOf, record_numbers}
use Rattle.sect_editor.proofs.objects.declared_sites.Goals as goal

pub returns-clause-sites : goal.returns-clause-sites
returns-clause-sites c =
    let v = c.args.compiled.now in
    let r = c.args.referrer in
    let program = c.program-2.ensures ∙ ap (λ (s : SchemeView). s.program) c.scheme-scheme.ensures in
    let classes = c.classes.ensures ∙ ap (λ (s : SchemeView). s.classes) c.scheme-scheme.ensures in
    let records : c.as_slice.result.now ≡ record_numbers v =
    c.as_slice.ensures.value ∙ c.in_ok-records.ensures
    ∙ ap (λ (p : ProgramView). sites_of p.globals p.texts) program in
    IfOk-weaker c.sites_of.result _ _
    (λ sites h. subst (λ (rs : List ℕ). AreSitesOf rs v.scheme.classes.sets r sites.items) records
    (subst (λ (k : ClassesView). AreSitesOf c.as_slice.result.now k.sets r sites.items) classes h))
    c.sites_of.ensures.sites
