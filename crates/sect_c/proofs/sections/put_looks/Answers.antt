use Rattle.std.proofs.Common.{◌<◌, length, arith, sym, subst}
use Rattle.sect_lemmas.specs.Lists.{Has}
use Rattle.sect_lemmas.proofs.Membership.{Has-get_or}
use Rattle.sect_c.proofs.sections.put_looks.Goals as goal

pub put_look-requires : goal.put_look-requires
put_look-requires c =
    let locks = c.args.paths.now in
    let i = c.loop-lock.lock-index in
    let within : i < length locks = omega arith in
    c.requires c.lock-item.result (subst (Has locks) (sym c.lock-item.is)
    (Has-get_or locks i c.lock-item.result within))
