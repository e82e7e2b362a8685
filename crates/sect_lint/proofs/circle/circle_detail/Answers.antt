use Rattle.std.proofs.Common.{◌∙◌, List, sym, subst, arith}
use Rattle.sect_lemmas.specs.Lists.{Has}
use Rattle.sect_places.specs.{Declarations.{is_procedure}, declared.name_use.NameSpan.{NameSpan}}
use Rattle.sect_lint.specs.steps.Linked.{IsLink, AreLinks, AreNext}
use Rattle.sect_lint.proofs.Circling.{filter_has, links_below}
use Rattle.sect_lint.proofs.circle.circle_detail.Goals as goal

pub next_calls-requires : goal.next_calls-requires
next_calls-requires c =
    let links = subst (AreLinks c.args.names.now c.as_slice-2.result.now) (sym c.as_slice-3.ensures.value)
    c.in_ok-links.ensures in
    links_below c.args.names.now c.as_slice-2.result.now c.as_slice-3.result.now c.len-2.result links
    (omega (arith, c.as_slice-2.ensures.len, c.len-2.ensures))

pub circle_of-requires-clause-declared : goal.circle_of-requires-clause-declared
circle_of-requires-clause-declared c = λ d h.
    filter_has (λ (n : NameSpan). is_procedure n.used.role) c.args.names.now d
    (subst (λ (ds : List NameSpan). Has ds d) (c.as_slice-4.ensures.value ∙ c.in_ok-declared.ensures) h)

pub circle_of-requires-clause-next : goal.circle_of-requires-clause-next
circle_of-requires-clause-next c = λ q l e.
    let next = subst (AreNext c.as_slice-3.result.now) (sym c.as_slice-5.ensures.value) c.in_ok-next.ensures.next in
    let links = subst (AreLinks c.args.names.now c.as_slice-2.result.now) (sym c.as_slice-3.ensures.value)
    c.in_ok-links.ensures in
    let found = next q l e in
    let known = links l found.0 in (
      known.0,
      subst (λ (ds : List NameSpan). IsLink ds l) (c.as_slice-2.ensures.value ∙ sym c.as_slice-4.ensures.value) known.1,
      found.1,
    )
