use Rattle.std.proofs.Common.{sym, subst, arith}
use Rattle.sect_lemmas.specs.Lists.{Has}
use Rattle.sect_lemmas.proofs.Membership.{Has-get_or}
use Rattle.sect_json.specs.Explaining.{chain_json}
use Rattle.sect_json.proofs.Rows.{map_all}
use Rattle.sect_json.proofs.explaining.chains_value.Goals as goal

pub chain_value-requires-clause-named : goal.chain_value-requires-clause-named
chain_value-requires-clause-named c =
    let chains = c.args.chains.now in
    let x = c.chain-item.result in
    c.requires.named x
    (subst (Has chains) (sym c.chain-item.is) (Has-get_or chains c.loop-chain.chain-index x c.loop-chain-test.true))

pub returns : goal.returns
returns c =
    map_all (chain_json c.args.compiled.now c.args.section) c.args.chains.now c.loop-chain.chain-index
    c.loop-chain.values (omega arith) c.loop-chain.invariant
