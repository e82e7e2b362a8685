use Rattle.std.proofs.Common.{sym, subst}
use Rattle.sect_lemmas.specs.Lists.{Has}
use Rattle.sect_lemmas.proofs.Membership.{Has-get_or}
use Rattle.sect_emit.proofs.explaining.put_chains.Goals as goal

pub put_chain-requires-clause-named : goal.put_chain-requires-clause-named
put_chain-requires-clause-named c =
    let chains = c.args.chains.now in
    c.requires.named c.chain-item.result (subst (Has chains) (sym c.chain-item.is)
    (Has-get_or chains c.loop-chain.chain-index c.chain-item.result c.loop-chain-test.true))
