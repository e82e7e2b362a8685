use Rattle.std.proofs.{Common.{◌≡◌, ◌∙◌, length, sym, ap, arith}, lemmas.List.{length-map}}
use Rattle.sect_front.specs.declared.tree.Declaration.{Declaration}
use Rattle.sect_types.specs.Programs.{ProgramView}
use Rattle.sect_names.specs.Schemes.{SchemeView}
use Rattle.sect_store.specs.Printing.{fields_at}
use Rattle.sect_json.proofs.Sited.{few_fields}
use Rattle.sect_json.proofs.sites.site_fields.Goals as goal

pub fields_value-requires : goal.fields_value-requires
fields_value-requires c =
    let p = c.program-program.result.now in
    let is : p ≡ c.args.printer.now =
    c.program-program.ensures ∙ (ap (λ (s : SchemeView). s.program) c.scheme.ensures ∙ sym c.requires) in
    omega (
      arith,
      length-map c.fields.result.now (λ (d : Declaration). d.name),
      ap length c.fields.ensures,
      few_fields p c.tree-facts.ensures.numbers c.facts.ensures.limits c.args.site,
      ap (λ (q : ProgramView). length (fields_at q c.args.site)) is,
    )
