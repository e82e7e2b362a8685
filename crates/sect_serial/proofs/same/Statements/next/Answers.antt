use Rattle.std.proofs.Common.{◌≡◌, ◌∙◌, ◌-◌, sym, ap, arith, length, take, drop, Some, slice_get}
use Rattle.std.proofs.lemmas.Option.{slice_get-get_or}
use Rattle.sect_types.specs.{Statements.{joined}, Texts.{step_then, statements_of}}
use Rattle.sect_serial.specs.steps.Rests.{after_first, rest_of}
use Rattle.sect_serial.proofs.{RestLemmas.{joined_step, full_take}, Comparing.{after, has_steps, part_next, headed}}
use Rattle.sect_serial.proofs.same.Statements.next.Goals as goal

pub unreachable-requires : goal.unreachable-requires
unreachable-requires c =
    let ks = c.self.inside.parts.now in
    let n = length ks - 1 in
    let some = c.in-len1-up-parts.len_at_least in
    let none = c.in_default-steps.len_below in
    let at : slice_get ks n ≡ Some (statements_of c.steps.result.now) =
    slice_get-get_or ks n _ (omega (arith, some)) ∙ ap Some (sym c.part-item.is ∙ sym c.steps.ensures) in
    absurd (has_steps ks n c.steps.result.now c.self.invariant at (omega (arith, none)))

pub invariant_of-self-2 : goal.invariant_of-self-2
invariant_of-self-2 c = full_take c.self.inside.parts.now (length c.self.inside.parts.now - 1) c.self.invariant

-- the statements begin with the first step of the last part
began : (c : goal.After-below-1) → c.args.self.now ≡ step_then c.step-item-2.result
    (joined (statements_of (take (length c.steps.result.now - 1) (drop 1 c.steps.result.now)))
    (rest_of (take (length c.self.inside.parts.now - 1) c.self.inside.parts.now)))
began c =
    let ks = c.self.inside.parts.now in
    let n = length ks - 1 in
    let s = c.step-item-2.result in
    let k = statements_of (take (length c.steps.result.now - 1) (drop 1 c.steps.result.now)) in
    let some = c.in-len1-up-parts.len_at_least in
    let none = c.in_default.len_below in
    let part : statements_of c.steps.result.now ≡ step_then s k =
    ap statements_of (headed c.steps.result.now s c.in-len1-up-steps.len_at_least c.step-item-2.is) in
    let at : slice_get ks n ≡ Some (step_then s k) =
    slice_get-get_or ks n _ (omega (arith, some)) ∙ ap Some (sym c.part-item.is ∙ sym c.steps.ensures ∙ part) in
    sym c.self.view_is
    ∙ part_next c.self.inside.steps.now ks n (step_then s k) (omega (arith, none)) (omega (arith, some)) at
    ∙ joined_step s k (rest_of (take n ks))

pub returns-clause-rest : goal.returns-clause-rest
returns-clause-rest c = sym (ap after_first (began c) ∙ after c.step-item-2.result _)

pub returns-clause-next : goal.returns-clause-next
returns-clause-next c = began c ∙ ap (step_then c.step-item-2.result) (returns-clause-rest c)
