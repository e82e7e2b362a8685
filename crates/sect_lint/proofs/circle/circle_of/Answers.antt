use Rattle.std.proofs.Common.{◌≡◌, [], ◌∷◌, ◌++◌, Some, true, refl, sym, ap, subst, ◌∙◌, arith}
use Rattle.std.proofs.lemmas.Option.{slice_get_within}
use Rattle.std.specs.Prelude.{slice_get}
use Rattle.sect_lemmas.proofs.{Membership.{Has-slice_get}, Places.{one_at}}
use Rattle.sect_places.specs.declared.name_use.NameSpan.{NameSpan}
use Rattle.sect_lint.specs.Calls.{Leads, is_call_in}
use Rattle.sect_lint.proofs.Circling.{leads_more, read_some}
use Rattle.sect_lint.proofs.circle.circle_of.Goals as goal

pub loop-step-init : goal.loop-step-init
loop-step-init c =
    let names = c.args.names.now in
    let declared = c.args.declared.now in
    let x = c.args.link in
    let l = c.requires.link.1 in
    record {
      others = [];
      are = c.in_ok-calls.ensures.items;
      from = l.caller;
      first = l.from;
      to = l.called;
      last = l.to;
      below = slice_get_within declared x.to l.called l.to;
      leads = subst (Leads names l.caller l.called) (sym c.in_ok-calls.ensures.items)
          (leads_more names l.caller l.caller l.called [] x.call refl c.requires.link.0 l.stands
          (c.requires.declared l.called (Has-slice_get declared x.to l.called l.to)) l.named);
    }

pub loop-step-preserved : goal.loop-step-preserved
loop-step-preserved c =
    let names = c.args.names.now in
    let declared = c.args.declared.now in
    let x = c.in-Some.more in
    let was = c.loop-step.invariant in
    let at = c.loop-step.at in
    let step = c.requires.next at x
    (read_some c.args.next.now at c.index-next-at.result x c.index-next-at.is c.in-Some.is
    (omega (arith, was.below, c.requires.many))) in
    let l = step.1 in
    let same : l.caller ≡ was.to =
    one_at declared at l.caller was.to (subst (λ q. slice_get declared q ≡ Some l.caller) step.2 l.from) was.last in
    record {
      others = was.others ++ x.call ∷ [];
      are = c.in_ok-push.ensures.items ∙ ap (λ xs. xs ++ x.call ∷ []) was.are;
      from = was.from;
      first = was.first;
      to = l.called;
      last = l.to;
      below = slice_get_within declared x.to l.called l.to;
      leads = subst (Leads names was.from l.called) (sym c.in_ok-push.ensures.items)
          (leads_more names was.from was.to l.called c.loop-step.calls.items x.call was.leads step.0
          (subst (λ (d : NameSpan). is_call_in d.used.item x.call ≡ true) same l.stands)
          (c.requires.declared l.called (Has-slice_get declared x.to l.called l.to)) l.named);
    }

pub returns-then-at-link : goal.returns-then-at-link
returns-then-at-link c =
    let was = c.loop-step.invariant in
    let declared = c.args.declared.now in
    let same : was.to ≡ was.from = one_at declared c.args.link.from was.to was.from
    (subst (λ q. slice_get declared q ≡ Some was.to) c.if-at-link.true was.last) was.first in
    record {
      first = c.args.link.call;
      others = was.others;
      are = was.are;
      stands = refl;
      procedure = was.from;
      leads = subst (λ (d : NameSpan). Leads c.args.names.now was.from d c.loop-step.calls.items) same was.leads;
    }
