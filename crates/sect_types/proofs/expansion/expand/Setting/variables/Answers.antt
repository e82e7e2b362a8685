use Rattle.std.proofs.{lemmas.Bool.{ltb-true}, lemmas.Option.{slice_get_read}, Common.{refl, length, ap, sym, ◌∙◌}}
use Rattle.std.specs.Prelude.{map}
use Rattle.sect_types.specs.steps.{Threads.{variables_shown}, Expanding.{SettingView}}
use Rattle.sect_types.proofs.Fronts.{variables_found}
use Rattle.sect_types.proofs.expansion.expand.Setting.variables.Goals as goal

pub returns : goal.returns
returns c p e =
    let all = c.self.inside.variables.now in
    let look = rw c.unwrap.ensures at c.get.ensures.lookup in
    let there = slice_get_read all (length all) c.args.number c.unwrap.result.now refl
    (ltb-true c.args.number (length all) (sym look.0)) look.1 in
    variables_found c.args.self.now.procedures all c.args.number p c.unwrap.result.now
    (c.self.invariant.of_variables ∙ ap (λ (w : SettingView). map variables_shown w.procedures) c.self.view_is) e there
