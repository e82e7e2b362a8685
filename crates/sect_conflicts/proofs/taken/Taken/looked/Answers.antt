use Rattle.std.proofs.Common.{◌≡◌, ◌∙◌, ◌++◌, ap}
use Rattle.std.specs.List.{flat_map}
use Rattle.sect_conflicts.specs.{Taken.{looked_of}, steps.Taking.{section_fields}}
use Rattle.sect_conflicts.proofs.TakenKeys.{looked_shown}
use Rattle.sect_conflicts.proofs.taken.Taken.looked.Goals as goal

pub returns : goal.returns
returns c =
    let sections = c.as_slice.result.now in
    c.in_ok-add_sections.ensures ∙ ap (λ fs. fs ++ flat_map section_fields sections) c.new-fields.ensures.items
    ∙ ap (flat_map section_fields) c.as_slice.ensures.value ∙ looked_shown c.self.inside.sections.items
    ∙ ap looked_of c.self.view_is
