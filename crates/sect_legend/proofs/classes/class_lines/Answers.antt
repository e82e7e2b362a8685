use Rattle.std.proofs.Common.{◌∙◌, IfOk, ap, map, subst}
use Rattle.std.specs.String.{string_bytes}
use Rattle.sect_points.specs.Partitions.{ClassesView}
use Rattle.sect_names.specs.Schemes.{SchemeView}
use Rattle.sect_legend.specs.Legend.{AreClassLines, mark_of, site_names}
use Rattle.sect_legend.proofs.classes.class_lines.Goals as goal

pub returns : goal.returns
returns c =
    let of = c.args.places.now in
    let v = of.compiled.now in
    let names = site_names v (mark_of of) of.source.now of.spans.now.sections in
    subst (λ (k : ClassesView). IfOk c.lines_of.result (λ text. AreClassLines k.numbers names (string_bytes text)))
    (c.classes.ensures ∙ ap (λ (s : SchemeView). s.classes) c.scheme.ensures)
    (subst (λ ns. IfOk c.lines_of.result (λ text. AreClassLines c.classes.result.now.numbers ns (string_bytes text)))
    (ap (map string_bytes) c.as_slice.ensures.value ∙ c.in_ok-names.ensures) c.lines_of.ensures)
