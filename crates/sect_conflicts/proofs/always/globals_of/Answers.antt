use Rattle.std.proofs.Common.{◌≡◌, ◌+◌, ◌-◌, ◌<◌, ◌++◌, ◌∷◌, [], List, length, drop, arith, refl, sym, ap, ◌∙◌, subst}
use Rattle.std.proofs.lemmas.List.{append-nil}
use Rattle.sect_lemmas.proofs.Elements.{drop_next}
use Rattle.sect_names.specs.declared.lock.Lock.{Lock}
use Rattle.sect_emit.specs.Plan.{gathered}
use Rattle.sect_conflicts.specs.steps.Steady.{global_wish, global_wishes}
use Rattle.sect_names.specs.declared.lock.Lock.TheVariants as lock
use Rattle.sect_conflicts.proofs.always.globals_of.Goals as goal

-- the global of a lock comes before those of the others
wishes_of_first : (l : Lock) (ls : List Lock) → global_wishes (l ∷ []) ++ global_wishes ls ≡ global_wishes (l ∷ ls)
wishes_of_first lock.All ls = refl
wishes_of_first (lock.Class c r) ls = refl
wishes_of_first (lock.Path p e) ls = ap (λ gs. gs ++ global_wishes ls) (append-nil (global_wish p e))

pub loop-place-preserved : goal.loop-place-preserved
loop-place-preserved c =
    let locks = c.args.locks.now in
    let place = c.loop-place.place - 1 in
    let within : place < length locks = omega arith in
    let next : place + 1 ≡ c.loop-place.place = omega arith in
    let l = c.index-locks-place.result in
    let rest = drop (place + 1) locks in
    let before = subst (λ n. c.loop-place.globals.items ≡ gathered (global_wishes (drop n locks))) (sym next)
    c.loop-place.invariant in
    c.in_ok-add_global.ensures (global_wishes rest) before
    ∙ ap gathered (wishes_of_first l rest)
    ∙ sym (ap (λ ls. gathered (global_wishes ls)) (drop_next locks place l within c.index-locks-place.is))
