use Rattle.std.proofs.Common.{◌∙◌, ap, nat_eq, take}
use Rattle.std.specs.Cmp.Lexicographic.{pointwise}
use Rattle.sect_front.proofs.NamesLemmas.{same_fields, one_length, other_length}
use Rattle.sect_front.proofs.name.NamePartialEq.eq.Goals as goal

pub returns-then-self-other : goal.returns-then-self-other
returns-then-self-other c =
    let one = c.self.inside in
    let other = c.other.inside in
    c.are_equal.ensures ∙ (one_length one.bytes other.bytes one.len other.len c.if-self-other.true
    ∙ (same_fields one.bytes other.bytes one.len other.len c.self.invariant c.other.invariant
    ∙ (ap (λ v. pointwise nat_eq v (take other.len other.bytes)) c.self.view_is
    ∙ ap (pointwise nat_eq c.args.self.now) c.other.view_is)))

pub returns-else-self-other : goal.returns-else-self-other
returns-else-self-other c =
    let one = c.self.inside in
    let other = c.other.inside in
    other_length one.bytes other.bytes one.len other.len c.if-self-other.false
    ∙ (same_fields one.bytes other.bytes one.len other.len c.self.invariant c.other.invariant
    ∙ (ap (λ v. pointwise nat_eq v (take other.len other.bytes)) c.self.view_is
    ∙ ap (pointwise nat_eq c.args.self.now) c.other.view_is))
