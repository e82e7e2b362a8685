use Rattle.std.proofs.Common.{length, sym, subst, ap, arith}
use Rattle.sect_lemmas.specs.Lists.{Has}
use Rattle.sect_lemmas.proofs.Membership.{Has-get_or}
use Rattle.sect_draw.proofs.tables.table.Goals as goal

pub put_row-requires : goal.put_row-requires
put_row-requires c =
    let rows = c.args.rows.now in
    let row = c.row-item.result in
    let has = subst (Has rows) (sym c.row-item.is) (Has-get_or rows c.loop-row.row-index row c.loop-row-test.true) in
    let cells = c.requires row has in
    let here = ap length c.as_slice.ensures.value in
    let widths = ap length c.as_slice-in-loop-row.ensures.value in
    record { count = omega (arith, cells, here, widths, c.in_ok-widths.ensures.count, c.in_ok-widths.widths.ok) }
