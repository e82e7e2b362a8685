use Rattle.std.proofs.Common.{◌≡◌, List, Vec, Global, ◌+◌, ◌++◌, ◌∷◌, [], map, ◌<◌, length, arith, take, sym, ap, ◌∙◌}
use Rattle.std.proofs.{Common.{subst}, lemmas.List.{map-append}}
use Rattle.sect_infer.specs.Sets.{LocksView}
use Rattle.sect_lemmas.specs.Lists.{Has}
use Rattle.sect_emit.specs.steps.{Inferred.{entries_of, AreFixedParts}, Wishes.{IsClassedLock}}
use Rattle.sect_emit.proofs.{Wholes.{one_part, classed_entry}, Adding.{take_next}}
use Rattle.sect_emit.specs.{declared.plan.Grip.{Grip}, Plan.{IsFixedPart}}
use Rattle.sect_names.specs.declared.lock.Lock.{Lock}
use Rattle.sect_emit.proofs.compiling.all_parts.Goals as goal

pub fixed_part-requires : goal.fixed_part-requires
fixed_part-requires c =
    let all = c.args.all.now in
    let i = c.loop-locks.locks-index in
    let within : i < length all = omega arith in
    subst (λ ls. (l : _) → Has ls l → IsClassedLock c.args.scheme.now l) (sym c.entry.ensures)
    (classed_entry c.args.scheme.now all c.facts.ensures c.requires i c.locks-item.result within c.locks-item.is)

pub loop-locks-preserved : goal.loop-locks-preserved
loop-locks-preserved c =
    let s = c.args.scheme.now in
    let all = c.args.all.now in
    let i = c.loop-locks.locks-index in
    let within : i < length all = omega arith in
    let locks = c.locks-item.result in
    let part = c.in_ok-fixed_part.field-0 in
    let entry : LocksView → List Lock = λ x. x.entry in
    let items : Vec Grip Global → List Grip = λ v. v.items in
    let sets : entries_of (take (i + 1) all) ≡ entries_of (take i all) ++ locks.entry ∷ [] =
    ap entries_of (take_next all i locks within c.locks-item.is) ∙ map-append entry (take i all) (locks ∷ []) in
    let parts : map items c.push.new.self.items ≡ map items c.loop-locks.parts.items ++ part.items ∷ [] =
    ap (map items) c.in_ok-push.ensures.items ∙ map-append items c.loop-locks.parts.items (part ∷ []) in
    let fixed = subst (λ ls. IsFixedPart s ls part.items) c.entry.ensures c.in_ok-fixed_part.ensures in
    subst (λ xs. AreFixedParts s xs (map items c.push.new.self.items)) (sym sets)
    (subst (AreFixedParts s (entries_of (take i all) ++ locks.entry ∷ [])) (sym parts)
    (one_part s (entries_of (take i all)) (map items c.loop-locks.parts.items) locks.entry part.items
    c.loop-locks.invariant fixed))
