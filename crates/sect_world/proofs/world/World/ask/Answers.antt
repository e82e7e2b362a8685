-- A thread that asks comes to hold the key, or is blocked.
use Rattle.std.proofs.Common.{[], refl, sym, ◌∙◌, subst}
use Rattle.sect_lemmas.proofs.Options.{some_injective}
use Rattle.sect_emit.specs.Plan.{grip}
use Rattle.sect_world.specs.{Worlds.{WorldView}, Waiting.{Asks}, Moments.{world_at}}
use Rattle.sect_world.specs.steps.Taking.{Wishes, turn_by}
use Rattle.sect_world.proofs.{Viewing.{TurnsInto, still_room}, Waiting.{asker, world_asked}}
use Rattle.sect_world.proofs.world.World.ask.Goals as goal

pub ask-requires-clause-held : goal.ask-requires-clause-held
ask-requires-clause-held c =
    let asks = subst (λ (z : WorldView). Asks z.state c.args.thread c.requires.0 c.requires.1) (sym c.self.view_is)
    c.requires.2 in
    (asker _ _ _ _ _ _ _ _ c.self.invariant.0 c.args.thread c.requires.0 c.requires.1 asks).within

pub ask-requires-clause-room : goal.ask-requires-clause-room
ask-requires-clause-room c =
    let asks = subst (λ (z : WorldView). Asks z.state c.args.thread c.requires.0 c.requires.1) (sym c.self.view_is)
    c.requires.2 in
    let q = asker _ _ _ _ _ _ _ _ c.self.invariant.0 c.args.thread c.requires.0 c.requires.1 asks in
    (q.runner, q.at, q.room)

pub ask-requires-clause-wishes : goal.ask-requires-clause-wishes
ask-requires-clause-wishes c r at =
    let asks = subst (λ (z : WorldView). Asks z.state c.args.thread c.requires.0 c.requires.1) (sym c.self.view_is)
    c.requires.2 in
    let q = asker _ _ _ _ _ _ _ _ c.self.invariant.0 c.args.thread c.requires.0 c.requires.1 asks in
    let same = some_injective q.runner r (sym q.at ∙ at) in
    (grip c.requires.0 c.requires.1, subst (λ z. Wishes z (grip c.requires.0 c.requires.1)) same q.wishes, q.unheld)

-- the answer is a turn
turned : (c : goal.After-turned_by)
    → TurnsInto (world_at c.self.inside.compiled.now c.self.inside.moment) c.args.thread
    (turn_by c.in_ok-answer.answer) c.self.inside.compiled.now c.self.inside.moment.fuel c.ask.new.trace.items
    c.self.inside.moment.order.items c.self.inside.moment.store c.self.inside.moment.output.items
    c.ask.new.runners.items c.ask.new.table []
turned c =
    let asks = subst (λ (z : WorldView). Asks z.state c.args.thread c.requires.0 c.requires.1) (sym c.self.view_is)
    c.requires.2 in
    let q = asker _ _ _ _ _ _ _ _ c.self.invariant.0 c.args.thread c.requires.0 c.requires.1 asks in
    let asked = c.in_ok-answer.ensures.ok q.runner q.at (grip c.requires.0 c.requires.1) q.wishes in
    world_asked _ _ _ _ _ _ _ _ _ _ _ c.self.inside.moment.let_in.granted.items c.self.invariant.0 c.args.thread
    c.requires.0 c.requires.1 c.in_ok-answer.answer asks asked c.ask.ensures.kept

pub invariant_of-self-2 : goal.invariant_of-self-2
invariant_of-self-2 c = (
  (turned c).world,
  still_room _ _ _ _ _ _ _ _ c.self.invariant.0.as_many_held (turned c).world.as_many_held refl
      c.clear.ensures.capacity c.self.invariant.1,
  c.self.invariant.2,
)

pub returns-clause-ok : goal.returns-clause-ok
returns-clause-ok c = rw (← c.self.view_is, c.turned_by.ensures, c.clear.ensures.items) (turned c).turned
