use Rattle.std.proofs.Common.{arith, ◌≡◌, ◌-◌, ap, sym, ◌∙◌, suc}
use Rattle.sect_types.specs.Meaning.{WorkView}
use Rattle.sect_store.proofs.work.Work.pay.Goals as goal

pub returns : goal.returns
returns c =
    let n = c.self.inside.fuel - 1 in
    let left : c.self.inside.fuel ≡ suc n = omega arith in (
      n,
      ap (λ (w : WorkView). w.fuel) (sym c.self.view_is)
          ∙ left,
      ap (λ (w : WorkView). record w { fuel = n }) c.self.view_is,
      omega arith,
    )
