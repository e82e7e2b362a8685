-- What stands where a thread stands is what it runs next.
use Rattle.std.proofs.Common.{sym, ap, subst, ◌∙◌}
use Rattle.sect_world.specs.Standings.{IsStandingThere}
use Rattle.sect_json.specs.steps.Changing.{IsNextAction, standing_action}
use Rattle.sect_json.proofs.Changed.{stands_so}
use Rattle.sect_json.proofs.changes.next_action.Goals as goal

pub action_at-requires : goal.action_at-requires
action_at-requires c =
    subst (λ z. IsStandingThere z c.standing-standing.result) (sym c.compiled.ensures) c.standing-standing.ensures.there

pub returns : goal.returns
returns c =
    let w = c.args.world.now in
    let d = c.standing-standing.result in
    subst (IsNextAction w.compiled w.state c.args.thread)
    (sym (c.action_at.ensures ∙ ap (λ z. standing_action z d) c.compiled.ensures))
    (stands_so w.compiled w.state c.args.thread d c.facts.ensures.compiled c.standing-standing.ensures)
