use Rattle.std.proofs.Common.{◌≡◌, ◌<◌, [], length, take, get_or, arith, subst, sym}
use Rattle.std.proofs.lemmas.List.{take_all, get_or_default}
use Rattle.sect_modes.specs.declared.mode.Mode.TheVariants.{IntentionShared}
use Rattle.sect_emit.specs.Plan.{grip}
use Rattle.sect_modes.specs.declared.key.Key.TheVariants as key
use Rattle.sect_conflicts.specs.{Conflicts.{Selects}, Selecting.{Adds}, Taken.{IsKeyMet}}
use Rattle.sect_conflicts.proofs.shared.Selecting.{adds_nothing, adds_all}
use Rattle.sect_conflicts.proofs.{Profiling.{given_at}, OtherSections.{adds_next}}
use Rattle.sect_conflicts.proofs.taken.taken_part.Goals as goal

pub part-keys-requires : goal.part-keys-requires
part-keys-requires c = omega (arith, c.requires.within, c.facts.ensures.compiled.part_count)

pub loop-grip-init : goal.loop-grip-init
loop-grip-init c =
    let met = IsKeyMet c.args.others.now.compiled.now c.args.others.now.thread in
    subst (Adds met [] []) (sym c.new-part.ensures.items) (adds_nothing met [])

pub loop-grip-preserved : goal.loop-grip-preserved
loop-grip-preserved c =
    let keys = c.part-keys.result.now in
    let i = c.loop-grip.grip-index in
    let d = grip key.All IntentionShared in
    let within : i < length keys = omega arith in
    adds_next (IsKeyMet c.args.others.now.compiled.now c.args.others.now.thread) keys i (get_or keys i d) []
    c.loop-grip.part.items c.add_key.new.part.items within (get_or_default keys i d (get_or keys i d) within)
    c.loop-grip.invariant c.in_ok-add_key.ensures

pub returns : goal.returns
returns c =
    let met = IsKeyMet c.args.others.now.compiled.now c.args.others.now.thread in
    let keys = c.part-keys.result.now in
    let i = c.loop-grip.grip-index in
    subst (λ xs. Selects met xs c.loop-grip.part.items)
    (sym (given_at c.args.others.now.compiled.now.parts c.args.section keys c.part-keys.ensures))
    (subst (λ xs. Selects met xs c.loop-grip.part.items) (take_all i keys (omega arith))
    (adds_all met (take i keys) c.loop-grip.part.items c.loop-grip.invariant))
