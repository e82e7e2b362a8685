-- The thread is there.
use Rattle.std.proofs.{Common.{◌≡◌, ap, ◌∙◌, arith}, lemmas.Option.{slice_get_within, get_or_from_slice_get}}
use Rattle.sect_lemmas.proofs.Changed.{set_changed}
use Rattle.sect_world.specs.declared.runner.Runner.{Runner}
use Rattle.sect_world.specs.steps.Taking.{advanced}
use Rattle.sect_world.proofs.asking.take.Goals as goal

pub index_mut-requires : goal.index_mut-requires
index_mut-requires c = let within =
    slice_get_within c.args.runners.now.items c.args.grant.thread c.requires.thread.0 c.requires.thread.1 in
    omega (arith, c.args.runners.now.ok)

pub overflow_add-index_mut : goal.overflow_add-index_mut
overflow_add-index_mut c =
    let is : c.index_mut.result.now ≡ c.requires.thread.0 = c.index_mut.ensures.value
    ∙ get_or_from_slice_get c.args.runners.now.items c.args.grant.thread c.requires.thread.0 c.index_mut.result.now
    c.requires.thread.1 in
    let n = ap (λ (r : Runner). r.taken) is in
    omega (arith, c.requires.thread.2)

pub returns-clause-runners : goal.returns-clause-runners
returns-clause-runners c = set_changed c.args.grant.thread c.index_mut.result.now advanced c.args.runners.now.items
    c.index_mut.ensures.value
