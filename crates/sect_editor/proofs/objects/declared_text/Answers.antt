use Rattle.std.proofs.Common.{◌≡◌, ◌++◌, ap, subst, ◌∙◌, append_assoc}
use Rattle.std.specs.{Prelude.{codes}, String.{string_bytes}}
use Rattle.sect_points.specs.Partitions.{ClassesView}
use Rattle.sect_names.specs.Schemes.{SchemeView}
use Rattle.sect_editor.specs.declared.objects.Referrer.{Referrer}
use Rattle.sect_editor.specs.Hovering.{AreSitesOf, record_numbers, declaration_line, class_lines}
use Rattle.sect_editor.proofs.objects.declared_text.Goals as goal

pub returns : goal.returns
returns c =
    let v = c.args.compiled.now in
    let classes = v.scheme.classes in
    let sites = c.in_ok-sites.sites.items in
    let line = declaration_line c.args.names.now c.args.declared.now in
    let told = class_lines classes.numbers sites in
    let same = c.classes.ensures ∙ ap (λ (s : SchemeView). s.classes) c.scheme.ensures in
    let first : string_bytes c.put_declaration.new.text ≡ codes "```\n" ++ line =
    c.in_ok-put_declaration.ensures ∙ ap (λ l. l ++ line) c.in_ok-text.ensures.ok in
    let second : string_bytes c.put_sites.new.text ≡ codes "```\n" ++ (line ++ told) =
    c.in_ok-put_sites.ensures
    ∙ (ap (λ ss. string_bytes c.put_declaration.new.text ++ class_lines c.classes.result.now.numbers ss)
    c.as_slice.ensures.value
    ∙ (ap (λ (k : ClassesView). string_bytes c.put_declaration.new.text ++ class_lines k.numbers sites) same
    ∙ (ap (λ l. l ++ told) first ∙ append_assoc (codes "```\n") line told))) in (
      sites,
      subst (λ (r : Referrer). AreSitesOf (record_numbers v) classes.sets r sites) c.referrer_of.ensures
          c.in_ok-sites.ensures.sites,
      c.in_ok-push_str.ensures.bytes ∙ ap (λ l. l ++ codes "```\n") second,
    )
