use Rattle.std.proofs.Common.{rules, arith, ◌≡◌, ◌-◌, ◌<◌, ap, sym, ◌∙◌, subst, refl, length, vec_len, take, slice_get}
use Rattle.std.proofs.{Common.{Some, suc}, lemmas.List.{take-set}}
use Rattle.sect_types.specs.Statements.{Stop, joined}
use Rattle.sect_serial.specs.steps.Rests.{rest_of, AreFull, after_first}
use Rattle.sect_lemmas.proofs.Changed.{get_there}
use Rattle.sect_serial.proofs.RestLemmas.{rest_last, rest_set, full_last, full_take, full_set, after_joined}
use Rattle.sect_serial.proofs.RestLemmas.{stopped}
use Rattle.sect_serial.proofs.rest.Rest.advance.Goals as goal

-- the parts left
left_items : (c : goal.After-pop)
    → c.pop.new.self.items ≡ take (vec_len c.self.inside.parts - 1) c.self.inside.parts.items
left_items c = c.pop.ensures.rest
    ∙ take-set c.self.inside.parts.items (vec_len c.self.inside.parts - 1) c.advance.new.self

pub invariant_of-self : goal.invariant_of-self
invariant_of-self c =
    subst AreFull (sym (left_items c))
    (full_take c.self.inside.parts.items (vec_len c.self.inside.parts - 1) c.self.invariant)

pub invariant_of-self-else-is_empty : goal.invariant_of-self-else-is_empty
invariant_of-self-else-is_empty c =
    full_set c.self.inside.parts.items (vec_len c.self.inside.parts - 1) c.advance.new.self
    (sym c.is_empty.ensures ∙ c.if-is_empty.false) c.self.invariant

pub returns-then-is_empty : goal.returns-then-is_empty
returns-then-is_empty c =
    let ks = c.self.inside.parts.items in
    let n = vec_len c.self.inside.parts - 1 in
    let k = c.in-Some.part.now in
    let exact : length ks ≡ vec_len c.self.inside.parts = search rules in
    let some : 0 < vec_len c.self.inside.parts = c.in-Some.ensures.variant.0 refl in
    let long : length ks ≡ suc n = omega arith in
    let got : slice_get ks n ≡ Some k = get_there n k ks (omega arith) c.in-Some.ensures.value in
    let stop : after_first k ≡ Stop =
    sym c.advance.ensures ∙ stopped c.advance.new.self (sym c.is_empty.ensures ∙ c.if-is_empty.true) in
    ap rest_of (left_items c)
    ∙ sym (ap (λ r. joined r (rest_of (take n ks))) stop)
    ∙ sym (after_joined k (rest_of (take n ks)) (full_last ks n k c.self.invariant got))
    ∙ ap after_first (sym (rest_last ks n k long got) ∙ c.self.view_is)

pub returns-else-is_empty : goal.returns-else-is_empty
returns-else-is_empty c =
    let ks = c.self.inside.parts.items in
    let n = vec_len c.self.inside.parts - 1 in
    let k = c.in-Some.part.now in
    let exact : length ks ≡ vec_len c.self.inside.parts = search rules in
    let some : 0 < vec_len c.self.inside.parts = c.in-Some.ensures.variant.0 refl in
    let long : length ks ≡ suc n = omega arith in
    let got : slice_get ks n ≡ Some k = get_there n k ks (omega arith) c.in-Some.ensures.value in
    rest_set ks n c.advance.new.self long
    ∙ ap (λ r. joined r (rest_of (take n ks))) c.advance.ensures
    ∙ sym (after_joined k (rest_of (take n ks)) (full_last ks n k c.self.invariant got))
    ∙ ap after_first (sym (rest_last ks n k long got) ∙ c.self.view_is)
