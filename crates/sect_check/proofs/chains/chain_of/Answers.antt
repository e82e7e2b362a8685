use Rattle.std.proofs.{Common.{length, sym, arith, refl}, lemmas.Bool.{ltb-false, ltb-true}}
use Rattle.std.proofs.lemmas.Option.{slice_get_read}
use Rattle.sect_lemmas.proofs.Membership.{Has-slice_get}
use Rattle.sect_check.proofs.Numbering.{no_more, another_there}
use Rattle.sect_check.proofs.chains.chain_of.Goals as goal

pub returns-in_err-chain : goal.returns-in_err-chain
returns-in_err-chain c =
    let chains = c.args.chains.now in
    let past = ltb-false c.args.number (length chains) (sym c.in_err-chain.ensures.lookup.0) in
    rw c.from_residual.ensures (λ h. let low =
    no_more chains c.requires.rise c.args.number c.requires.below past h.0 h.1 in omega (arith, low, h.2))

pub returns-then-chain-number : goal.returns-then-chain-number
returns-then-chain-number c =
    let chains = c.args.chains.now in
    let look = c.in_ok-chain.ensures.lookup in
    let chain = c.in_ok-chain.chain.now in
    let at = slice_get_read chains (length chains) c.args.number chain refl
    (ltb-true c.args.number (length chains) (sym look.0)) look.1 in
    (Has-slice_get chains c.args.number chain at, c.if-chain-number.true)

pub returns-else-chain-number : goal.returns-else-chain-number
returns-else-chain-number c =
    let chains = c.args.chains.now in
    let look = c.in_ok-chain.ensures.lookup in
    let chain = c.in_ok-chain.chain.now in
    let at = slice_get_read chains (length chains) c.args.number chain refl
    (ltb-true c.args.number (length chains) (sym look.0)) look.1 in
    another_there chains c.requires.rise c.args.number c.requires.below chain at c.if-chain-number.false
