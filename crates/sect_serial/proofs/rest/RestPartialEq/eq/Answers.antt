use Rattle.std.proofs.{Common.{◌∙◌, sym}, lemmas.Bool.Decides.{same_from_decides}}
use Rattle.sect_serial.specs.Comparing.{text_tells}
use Rattle.sect_serial.proofs.rest.RestPartialEq.eq.Goals as goal

pub returns : goal.returns
returns c =
    let tells = text_tells c.args.self.now c.args.other.now in
    let same = c.same_statements.ensures in
    same_from_decides c.same_statements.result _ (
      λ t. sym c.left_in.ensures ∙ same.0 t ∙ c.left_in-2.ensures,
      λ e. same.1 (c.left_in.ensures ∙ e ∙ sym c.left_in-2.ensures),
    ) tells
