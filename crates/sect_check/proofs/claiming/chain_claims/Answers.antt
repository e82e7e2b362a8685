use Rattle.std.proofs.Common.{arith, refl}
use Rattle.sect_check.specs.Meaning.{DenotesChain}
use Rattle.sect_check.proofs.Resolving.{refuses}
use Rattle.sect_check.proofs.claiming.chain_claims.Goals as goal

pub returns-in_err-chain_claim : goal.returns-in_err-chain_claim
returns-in_err-chain_claim c =
    let n = c.args.naming.now in
    refuses (DenotesChain n.scheme n.thread) c.args.chains.now c.loop-chain.chain-index
    c.chain-item.result c.chain-item.result c.from_residual.result c.in_err-chain_claim.field-0.0 (omega arith)
    c.chain-item.is refl c.from_residual.ensures.1 c.in_err-chain_claim.ensures
