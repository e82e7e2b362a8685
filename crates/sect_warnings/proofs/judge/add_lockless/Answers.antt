use Rattle.std.proofs.{Common.{rules, ◌≡◌, [], sym, ◌∙◌, true≢false}, lemmas.Option.{get_or_from_slice_get}}
use Rattle.sect_conflicts.specs.Conflicts.{set_at}
use Rattle.sect_conflicts.proofs.shared.Selecting.{adds_one, adds_none}
use Rattle.sect_warnings.specs.{declared.warning.Finding.TheVariants.{NoLock}, Warnings.{IsDue, warning}}
use Rattle.sect_warnings.proofs.judge.add_lockless.Goals as goal

pub returns-then-prints : goal.returns-then-prints
returns-then-prints c =
    adds_none (IsDue c.args.compiled.now) (warning c.args.section c.args.item NoLock) c.args.found.now.items
    (λ due. true≢false (sym c.if-prints.true ∙ c.prints.ensures ∙ due.1))

pub returns-in_ok-push : goal.returns-in_ok-push
returns-in_ok-push c =
    let v = c.args.compiled.now in
    let set : set_at v c.args.section ≡ c.set.result.now =
    get_or_from_slice_get v.sets c.args.section c.set.result.now [] c.set.ensures in
    adds_one (IsDue v) (warning c.args.section c.args.item NoLock) c.args.found.now.items _
    (set ∙ c.has_none.ensures.0 c.if-has_none.true, sym c.prints.ensures ∙ c.if-prints.false) (search rules)

pub returns-else-has_none : goal.returns-else-has_none
returns-else-has_none c =
    let v = c.args.compiled.now in
    let set : set_at v c.args.section ≡ c.set.result.now =
    get_or_from_slice_get v.sets c.args.section c.set.result.now [] c.set.ensures in
    adds_none (IsDue v) (warning c.args.section c.args.item NoLock) c.args.found.now.items
    (λ due. true≢false (sym (c.has_none.ensures.1 (sym set ∙ due.0)) ∙ c.if-has_none.false))
