use Rattle.std.proofs.Common.{◌≡◌, ◌&&◌, ◌∙◌, sym, ap, subst}
use Rattle.std.specs.Prelude.{nat_eq}
use Rattle.sect_lemmas.specs.Lists.{Has}
use Rattle.sect_lemmas.proofs.Membership.{Has-slice_get}
use Rattle.sect_places.specs.{declared.name_use.NameSpan.{NameSpan}, Declarations.{is_call}}
use Rattle.sect_lint.proofs.Circling.{position_found, some_weaker, same_item, get_found}
use Rattle.sect_lint.proofs.circle.link_at.Goals as goal

pub returns-clause-item : goal.returns-clause-item
returns-clause-item c =
    let here = position_found (λ n. nat_eq n.used.item c.args.item && is_call n.used.role) c.args.names.now
    c.in_ok-call_at.field-0 (sym c.in_ok-call_at.ensures.is) in
    let x = c.index-names-branch.result in
    let same : x ≡ here.0 =
    get_found c.args.names.now c.in_ok-call_at.field-0 x here.0 c.index-names-branch.is here.1 in
    some_weaker c.link_of.result _ _
    (λ l e. ap (λ (n : NameSpan). n.used.item) (e ∙ same) ∙ same_item here.0 c.args.item here.2)
    c.link_of.ensures.called

pub returns-clause-there : goal.returns-clause-there
returns-clause-there c =
    let here = position_found (λ n. nat_eq n.used.item c.args.item && is_call n.used.role) c.args.names.now
    c.in_ok-call_at.field-0 (sym c.in_ok-call_at.ensures.is) in
    let x = c.index-names-branch.result in
    let same : x ≡ here.0 =
    get_found c.args.names.now c.in_ok-call_at.field-0 x here.0 c.index-names-branch.is here.1 in
    some_weaker c.link_of.result _ _
    (λ l e. subst (Has c.args.names.now) (sym (e ∙ same)) (Has-slice_get c.args.names.now _ here.0 here.1))
    c.link_of.ensures.called
