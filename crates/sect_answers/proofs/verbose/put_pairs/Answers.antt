use Rattle.std.proofs.Common.{sym, subst}
use Rattle.sect_lemmas.specs.Lists.{Has}
use Rattle.sect_lemmas.proofs.Membership.{Has-get_or}
use Rattle.sect_conflicts.proofs.shared.PathNames.{conflicts_named}
use Rattle.sect_answers.proofs.Conflicting.{first_within, second_within}
use Rattle.sect_answers.proofs.verbose.put_pairs.Goals as goal

pub put_pair-requires-clause-first : goal.put_pair-requires-clause-first
put_pair-requires-clause-first c =
    let pairs = c.args.pairs.now in
    let x = c.pair-item.result in
    first_within c.args.places.now.compiled.now pairs x c.requires.told
    (subst (Has pairs) (sym c.pair-item.is) (Has-get_or pairs c.loop-pair.pair-index x c.loop-pair-test.true))

pub put_pair-requires-clause-second : goal.put_pair-requires-clause-second
put_pair-requires-clause-second c =
    let pairs = c.args.pairs.now in
    let x = c.pair-item.result in
    second_within c.args.places.now.compiled.now pairs x c.requires.told
    (subst (Has pairs) (sym c.pair-item.is) (Has-get_or pairs c.loop-pair.pair-index x c.loop-pair-test.true))

pub put_pair-requires-clause-named : goal.put_pair-requires-clause-named
put_pair-requires-clause-named c =
    let pairs = c.args.pairs.now in
    let x = c.pair-item.result in
    conflicts_named c.args.places.now.compiled.now c.facts.ensures.compiled pairs c.requires.told x
    (subst (Has pairs) (sym c.pair-item.is) (Has-get_or pairs c.loop-pair.pair-index x c.loop-pair-test.true))
