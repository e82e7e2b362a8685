use Rattle.std.proofs.Common.{◌-◌, length, subst, sym, arith}
use Rattle.sect_lemmas.specs.Lists.{Has}
use Rattle.sect_lemmas.proofs.Membership.{Has-get_or}
use Rattle.sect_points.proofs.row.Row.has.Goals as goal

pub returns-then-is_same : goal.returns-then-is_same
returns-then-is_same c _ =
    let items = c.as_slice-statements.result.now in
    let p = c.index-statements-count.result in
    let at = length items - 1 - c.loop-later.later in
    let has : Has items p = subst (Has items) (sym c.index-statements-count.is) (Has-get_or items at p
    (omega (arith, c.loop-later-test.true))) in
    subst (Has c.args.self.now) (c.is_same.ensures c.if-is_same.true)
    (subst (λ xs. Has xs p) c.as_slice-statements.ensures has)
