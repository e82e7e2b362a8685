use Rattle.std.proofs.{Common.{[], get_or, refl, sym, ap, ◌∙◌, ◌&&◌}, lemmas.Option.{get_or_from_slice_get}}
use Rattle.sect_table.specs.Contents.{held_by}
use Rattle.sect_emit.specs.Plan.{meets, object_wishes}
use Rattle.sect_world.specs.Waiting.{grips}
use Rattle.sect_world.proofs.Wishing.{meets_parts}
use Rattle.sect_world.proofs.outside.is_met.Goals as goal

pub returns-then-meets : goal.returns-then-meets
returns-then-meets c =
    let held = grips (held_by c.args.table.now c.args.entrant.thread) in
    let s = c.args.store.now in
    let locals = c.args.runner.now.work.locals in
    c.has_objects.ensures
    ∙ ap (λ b. b && meets held (object_wishes s locals c.set.result.now)) (sym c.if-meets.true ∙ c.meets.ensures)
    ∙ meets_parts held c.part.result.now c.set.result.now s locals c.args.compiled.now.parts c.args.compiled.now.sets
    c.args.entrant.section
    (get_or_from_slice_get c.args.compiled.now.parts c.args.entrant.section c.part.result.now [] c.part.ensures)
    (get_or_from_slice_get c.args.compiled.now.sets c.args.entrant.section c.set.result.now [] c.set.ensures)

pub returns-else-meets : goal.returns-else-meets
returns-else-meets c =
    let held = grips (held_by c.args.table.now c.args.entrant.thread) in
    let s = c.args.store.now in
    let locals = c.args.runner.now.work.locals in
    let locks = get_or c.args.compiled.now.sets c.args.entrant.section [] in
    c.if-meets.false
    ∙ ap (λ b. b && meets held (object_wishes s locals locks)) (sym c.if-meets.false ∙ c.meets.ensures)
    ∙ meets_parts held c.part.result.now locks s locals c.args.compiled.now.parts c.args.compiled.now.sets
    c.args.entrant.section
    (get_or_from_slice_get c.args.compiled.now.parts c.args.entrant.section c.part.result.now [] c.part.ensures) refl
