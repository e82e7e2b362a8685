use Rattle.std.proofs.Common.{◌≡◌, sym, ap, ◌∙◌, length, rules}
use Rattle.sect_points.specs.Paths.{base_of, fields_of}
use Rattle.sect_names.proofs.Paths.{variable_parts}
use Rattle.sect_names.proofs.shared.Telling.{variable_tells}
use Rattle.sect_names.proofs.path.Path.is_variable.Goals as goal

pub returns-then-eq : goal.returns-then-eq
returns-then-eq c =
    let p = c.args.self.now in
    let v = c.args.variable in
    let base : base_of p ≡ v = sym c.base.ensures
    ∙ (variable_tells c.base.result v).0 (sym c.eq.ensures ∙ c.if-eq.true) in
    let long = ap length c.fields.ensures.fields in (
      λ t. variable_parts p v base (let e = c.is_empty.ensures in search rules),
      λ e. let none =
          ap (λ q. length (fields_of q)) e in let is = c.is_empty.ensures in search rules,
    )
