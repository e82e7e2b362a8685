use Rattle.std.proofs.Common.{◌∙◌, sym}
use Rattle.sect_store.specs.Parts.{written}
use Rattle.sect_store.proofs.Parting.{load_leaves}
use Rattle.sect_store.proofs.part.run_apart.Goals as goal

pub returns-in-Some-look-clause-comes : goal.returns-in-Some-look-clause-comes
returns-in-Some-look-clause-comes c = λ p t s part. (
  part,
  load_leaves p t c.args.action.now c.in-Load.target c.in-Load.base c.in-Load.field c.args.work.now
      c.assign-in-Load.new.self (written s c.args.part.now.writes.items) c.in-Refers.name c.in-Some-look.datum
      c.in-Load.is (sym c.base.ensures ∙ c.in-Refers.is)
      (c.in-Some-look.ensures (written s c.args.part.now.writes.items) part) c.assign-in-Load.ensures,
)
