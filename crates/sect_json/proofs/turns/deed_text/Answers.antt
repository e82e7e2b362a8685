use Rattle.std.proofs.{Common.{◌++◌, sym, ap, subst, ◌∙◌}, lemmas.Result.{IfOk-weaker}}
use Rattle.sect_emit.specs.Graphed.{graphed_deed}
use Rattle.sect_world.specs.Standings.{IsStandingThere}
use Rattle.sect_json.specs.Turns.{deed_at}
use Rattle.sect_json.proofs.turns.deed_text.Goals as goal

pub put_graphed_node-requires : goal.put_graphed_node-requires
put_graphed_node-requires c = subst (IsStandingThere c.args.compiled.now) c.in-At.is c.requires

pub returns-in_ok-put_graphed_node-in-At : goal.returns-in_ok-put_graphed_node-in-At
returns-in_ok-put_graphed_node-in-At c =
    let deed = graphed_deed c.args.compiled.now c.in-At.graph c.in-At.node in
    c.in_ok-put_graphed_node-in-At.ensures
    ∙ (ap (λ bs. bs ++ deed) c.new-text.ensures.bytes ∙ ap (deed_at c.args.compiled.now) (sym c.in-At.is))

pub returns-in-Broken : goal.returns-in-Broken
returns-in-Broken c =
    IfOk-weaker c.from_str.result _ _ (λ text h. h ∙ ap (deed_at c.args.compiled.now) (sym c.in-Broken.is))
    c.from_str.ensures.ok
