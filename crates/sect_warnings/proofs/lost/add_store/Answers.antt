use Rattle.std.proofs.Common.{◌∙◌, sym, subst, true≢false}
use Rattle.sect_lemmas.specs.Lists.{Has}
use Rattle.sect_lemmas.proofs.Finding.{any_tells}
use Rattle.sect_flows.specs.contracts.point.LocalAtPartialEq.TheImpl.{ghosts as the_local_eq}
use Rattle.sect_flows.proofs.shared.Telling.{local_tells}
use Rattle.sect_conflicts.proofs.shared.Selecting.{adds_one, adds_none}
use Rattle.sect_warnings.specs.{Lost.{IsLost, local_there}, steps.Losing.{MayBeLost}}
use Rattle.sect_warnings.proofs.lost.add_store.Goals as goal

pub returns-in_ok-push-clause-added : goal.returns-in_ok-push-clause-added
returns-in_ok-push-clause-added c =
    let v = c.args.of.compiled.now in
    let load = c.args.loaded.now.load in
    let store = c.args.store.now in
    let keys = c.in_ok-reached.reached.keys in
    let may : MayBeLost v load store =
    c.may_be_lost.ensures.0 c.if-not-may_be_lost.false in
    let there : Has keys (local_there store) =
    subst (Has keys) c.local_there.ensures ((any_tells the_local_eq.eq local_tells keys c.local_there.result).0
    (sym c.contains-is_lost.ensures ∙ c.if-is_lost.true)) in
    adds_one (IsLost v) (record { load = load; store = store }) c.args.found.now.items c.push.new.self.items
    (record {
      field = may.field;
      thread = may.thread;
      blind = may.blind;
      flows = (c.in_ok-reached.ensures (local_there store)).0 there;
    }) c.in_ok-push.ensures.items

pub returns-else-is_lost-clause-added : goal.returns-else-is_lost-clause-added
returns-else-is_lost-clause-added c =
    let v = c.args.of.compiled.now in
    let load = c.args.loaded.now.load in
    let store = c.args.store.now in
    let keys = c.in_ok-reached.reached.keys in
    adds_none (IsLost v) (record { load = load; store = store }) c.args.found.now.items
    (λ lost. true≢false (sym ((any_tells the_local_eq.eq local_tells keys c.local_there.result).1
    (subst (Has keys) (sym c.local_there.ensures) ((c.in_ok-reached.ensures (local_there store)).1 lost.flows)))
    ∙ sym c.contains-is_lost.ensures ∙ c.if-is_lost.false))
