use Rattle.sect_store.proofs.Parting.{part_written}
use Rattle.sect_store.proofs.part.Part.write.Goals as goal

pub returns-clause-ok : goal.returns-clause-ok
returns-clause-ok c = λ s part.
    part_written s c.args.self.now.cells.items c.args.self.now.writes.items c.update_all.new.cells.items
    c.push.new.self.items c.args.name c.args.field c.args.datum c.in_ok-push.ensures.items c.update_all.ensures part
