use Rattle.std.proofs.Common.{◌∙◌, ap}
use Rattle.sect_types.specs.{Rules.{declared_in}, Items.{variables}}
use Rattle.sect_types.specs.declared.rules.place.Place.TheVariants.{InProcedure}
use Rattle.sect_types.specs.steps.{Standing.{StandingView}, Threads.{VariablesView}}
use Rattle.sect_types.proofs.ThreadLemmas.{walks_at, walks_in}
use Rattle.sect_types.proofs.program.walk_procedure.Goals as goal

pub returns : goal.returns
returns c =
    let t = c.args.context.now.tree.now in
    let p = c.args.procedure.now in
    let list = c.as_slice-list.result.now in
    let standing = c.in_procedure-standing.result in
    walks_at (declared_in t) (variables p) list (InProcedure c.args.number) standing.at p.body c.args.spot.now
    c.walk_block.new.spot c.walk_block.result
    (c.as_slice-list.ensures ∙ ap (λ (v : VariablesView). v.list) c.requires.variables)
    (ap (λ (s : StandingView). s.at) c.in_procedure-standing.ensures)
    (walks_in t list standing.at p.body c.new-scope.result standing.procedures c.args.spot.now c.walk_block.new.spot
    c.walk_block.result c.new-scope.ensures
    (ap (λ (s : StandingView). s.procedures) c.in_procedure-standing.ensures ∙ c.requires.context.procedures)
    c.walk_block.ensures)
