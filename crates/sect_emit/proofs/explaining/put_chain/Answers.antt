use Rattle.std.proofs.Common.{◌<◌, length, arith, sym, subst}
use Rattle.sect_lemmas.specs.Lists.{Has}
use Rattle.sect_lemmas.proofs.Membership.{Has-get_or}
use Rattle.sect_emit.proofs.explaining.put_chain.Goals as goal

pub put_step-requires-clause-named : goal.put_step-requires-clause-named
put_step-requires-clause-named c =
    let links = c.links-link-items.result.now in
    let i = c.loop-link.link-index in
    let within : i < length links = omega arith in
    let has = subst (Has links) (sym c.link-item.is) (Has-get_or links i c.link-item.result within) in
    c.requires.named.1 c.link-item.result (subst (λ xs. Has xs c.link-item.result) c.links-link-items.ensures has)
