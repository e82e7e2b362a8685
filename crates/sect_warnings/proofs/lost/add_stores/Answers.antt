use Rattle.std.proofs.Common.{◌∷◌, [], get_or, sym, ◌∙◌, subst}
use Rattle.std.specs.Prelude.{IfSome}
use Rattle.sect_names.specs.declared.lock.Effect.TheVariants.{Write}
use Rattle.sect_conflicts.specs.Selecting.{Adds}
use Rattle.sect_warnings.specs.declared.{access.Access.{Access}}
use Rattle.sect_warnings.specs.{Lost.{IsLost, no_access}, steps.Losing.{IsReached}}
use Rattle.sect_warnings.proofs.Losing.{in_section_at, next_store}
use Rattle.sect_warnings.proofs.lost.add_stores.Goals as goal

pub add_store-requires-clause-store : goal.add_store-requires-clause-store
add_store-requires-clause-store c =
    in_section_at Write c.args.of.compiled.now c.args.of.stores.now c.loop-store.store-index no_access
    c.requires.accesses.1 c.loop-store-test.true

pub add_store-requires-clause-reached : goal.add_store-requires-clause-reached
add_store-requires-clause-reached c =
    subst (λ (l : Access). IfSome c.loop-store.loaded.reached (λ set. IsReached c.args.of.compiled.now l set.keys))
    (sym c.loop-store.invariant.load) c.loop-store.invariant.reached

pub loop-store-preserved : goal.loop-store-preserved
loop-store-preserved c =
    let v = c.args.of.compiled.now in
    let load = c.args.load.now in
    let same = c.loop-store.invariant.load in
    let stores = c.args.of.stores.now in
    let k = c.loop-store.store-index in
    record {
      added = next_store (IsLost v) load stores k no_access c.args.found.now.items c.loop-store.found.items
          c.add_store.new.found.items c.loop-store-test.true c.loop-store.invariant.added
          (subst (λ (l : Access). Adds (IsLost v) (record { load = l; store = get_or stores k no_access } ∷ [])
          c.loop-store.found.items c.add_store.new.found.items) same c.in_ok-add_store.ensures.added);
      load = c.in_ok-add_store.ensures.load ∙ same;
      reached = subst (λ (l : Access). IfSome c.add_store.new.loaded.reached (λ set. IsReached v l set.keys)) same
          c.in_ok-add_store.ensures.reached;
    }
