use Rattle.std.proofs.Common.{◌≡◌, subst, sym, arith}
use Rattle.sect_lemmas.specs.Lists.{Has}
use Rattle.sect_points.specs.steps.Readers.{row_of, row_at}
use Rattle.sect_points.proofs.ReaderLaws.{found_each, row_found}
use Rattle.sect_points.proofs.readers.Readers.of_growth.Goals as goal

row_is : (c : goal.After-as_slice) → row_at c.self.inside.rows.items (row_of c.self.inside.locals c.args.growth) ≡ c.as_slice.result.now
row_is c =
    row_found c.self.inside.rows.items c.growth_row-row.result (row_of c.self.inside.locals c.args.growth) c.index.result.now
    c.as_slice.result.now c.growth_row-row.ensures.row
    (omega (arith, c.growth_row-row.ensures.there, c.self.invariant.1.long)) c.as_slice.ensures c.index.ensures

pub returns-clause-each : goal.returns-clause-each
returns-clause-each c new p has reads =
    subst (λ l. Has l p) (row_is c)
    (found_each c.self.inside.locals c.self.inside.all.items c.self.inside.rows.items c.self.invariant.1 c.args.growth new p
    (subst (λ l. Has l p) (sym c.self.view_is) has) reads)

pub returns-clause-only : goal.returns-clause-only
returns-clause-only c p has = subst (λ l. Has l p) c.self.view_is
    (c.self.invariant.1.only (row_of c.self.inside.locals c.args.growth) p (subst (λ l. Has l p) (sym (row_is c)) has))
