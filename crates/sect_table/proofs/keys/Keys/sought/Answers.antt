use Rattle.std.proofs.Common.{ap, sym, ◌∙◌}
use Rattle.sect_table.specs.steps.Keys.{place_in}
use Rattle.sect_table.proofs.Numbers.{found_place, no_place}
use Rattle.sect_table.proofs.keys.Keys.sought.Goals as goal

pub returns-in-Some-clause-place : goal.returns-in-Some-clause-place
returns-in-Some-clause-place c = found_place c.args.key c.self.inside.set.keys c.in-Some.number c.in-Some.ensures.index
    ∙ ap (place_in c.args.key) c.self.view_is

pub returns-in-None-clause-place : goal.returns-in-None-clause-place
returns-in-None-clause-place c =
    c.len.ensures.len ∙ (sym (no_place c.args.key c.self.inside.set.keys c.in-None.ensures.index)
    ∙ ap (place_in c.args.key) c.self.view_is)
