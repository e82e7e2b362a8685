use Rattle.std.proofs.Common.{Ok, Err, [], ◌∷◌, ℕ, List, ap, subst, ◌≡◌, false}
use Rattle.sect_types.specs.{Rules.{declared_in}, Items.{Item, AThread, local_items, block_items}}
use Rattle.sect_types.specs.declared.rules.place.Place.TheVariants.{InThread}
use Rattle.sect_types.specs.steps.{Judging.{judge}, Standing.{StandingView}}
use Rattle.sect_types.proofs.ThreadLemmas.{walks_body, walks_at, walks_in, handed_on}
use Rattle.sect_types.proofs.program.pass_thread.Goals as goal

pub returns-in_err-walk_block-clause-walks : goal.returns-in_err-walk_block-clause-walks
returns-in_err-walk_block-clause-walks c =
    let d = declared_in c.args.context.now.tree.now in
    let h = c.args.thread.now in
    let e = c.in_err-walk_block.field-0.0 in
    handed_on d (λ w. AThread h.name c.args.names.now ∷ local_items [] h.locals
    (block_items h.locals (InThread false 1) h.body w)) c.args.spot.now c.walk_block.new.spot e
    c.from_residual-in_err-walk_block.result c.from_residual-in_err-walk_block.ensures.1
    (walks_body {A = ℕ} d (AThread h.name c.args.names.now) h.locals (InThread false 1) h.body c.args.spot.now
    c.pass.new.spot c.locals.new.spot c.walk_block.new.spot (Err e)
    c.in_ok-pass.ensures.walks
    (subst (λ l. (w : List Item) → judge d c.pass.new.spot (local_items [] l w)
    ≡ judge d c.locals.new.spot w) c.as_slice-list.ensures c.in_ok-own.ensures.walks)
    (walks_at {A = ℕ} d h.locals c.as_slice-list.result.now (InThread false 1) c.args.standing.now.at h.body
    c.locals.new.spot c.walk_block.new.spot (Err e) c.as_slice-list.ensures
    (ap (λ (s : StandingView). s.at) c.requires.standing)
    (walks_in {A = ℕ} c.args.context.now.tree.now c.as_slice-list.result.now c.args.standing.now.at h.body
    c.new-scope.result c.args.standing.now.procedures c.locals.new.spot c.walk_block.new.spot (Err e)
    c.new-scope.ensures (ap (λ (s : StandingView). s.procedures) c.requires.standing) c.in_err-walk_block.ensures)))

pub returns-clause-walks : goal.returns-clause-walks
returns-clause-walks c =
    let d = declared_in c.args.context.now.tree.now in
    let h = c.args.thread.now in
    walks_body {A = ℕ} d (AThread h.name c.args.names.now) h.locals (InThread false 1) h.body c.args.spot.now
    c.pass.new.spot c.locals.new.spot c.walk_block.new.spot (Ok 0)
    c.in_ok-pass.ensures.walks
    (subst (λ l. (w : List Item) → judge d c.pass.new.spot (local_items [] l w)
    ≡ judge d c.locals.new.spot w) c.as_slice-list.ensures c.in_ok-own.ensures.walks)
    (walks_at {A = ℕ} d h.locals c.as_slice-list.result.now (InThread false 1) c.args.standing.now.at h.body
    c.locals.new.spot c.walk_block.new.spot (Ok 0) c.as_slice-list.ensures
    (ap (λ (s : StandingView). s.at) c.requires.standing)
    (walks_in {A = ℕ} c.args.context.now.tree.now c.as_slice-list.result.now c.args.standing.now.at h.body
    c.new-scope.result c.args.standing.now.procedures c.locals.new.spot c.walk_block.new.spot (Ok 0)
    c.new-scope.ensures (ap (λ (s : StandingView). s.procedures) c.requires.standing) c.in_ok-walk_block.ensures))
