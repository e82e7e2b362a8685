use Rattle.std.proofs.Common.{List, refl, subst}
use Rattle.sect_lemmas.specs.Lists.{Has}
use Rattle.sect_names.specs.Needed.{end_locks}
use Rattle.sect_check.specs.declared.claims.ChainClaim.{ChainClaim}
use Rattle.sect_check.proofs.Chaining.{broken_at}
use Rattle.sect_check.proofs.chains.judge_chain.Goals as goal

pub chain_of-requires-clause-below : goal.chain_of-requires-clause-below
chain_of-requires-clause-below c = rw c.as_slice.ensures c.requires.below

pub first_wrong-requires : goal.first_wrong-requires
first_wrong-requires c = λ a h.
    let chain = c.in-Some.chain.now in
    c.requires.lawful chain (subst (λ (xs : List ChainClaim). Has xs chain) c.as_slice.ensures c.in-Some.ensures.0) a h

pub returns-in-Some-2 : goal.returns-in-Some-2
returns-in-Some-2 c =
    let section = c.args.section in
    let chain = c.in-Some.chain.now in
    let found = subst (λ (xs : List ChainClaim). Has xs chain) c.as_slice.ensures c.in-Some.ensures.0 in (
      refl,
      broken_at section.scheme.now section.thread (end_locks section.locking) section.flow.now c.args.claims.now
          c.args.number c.args.lock.now chain (found, c.in-Some.ensures.1)
          chain.links refl c.in_ok-first_wrong.field-0 c.in-Some-2.step
          c.in-Some-2.is c.in_ok-first_wrong.ensures,
    )
