use Rattle.sect_cert.proofs.WriteLaws.{path_written}
use Rattle.sect_cert.proofs.writing.put_path.Goals as goal

pub returns : goal.returns
returns c = path_written c.args.path.now c.loop-field.field-index _ _ c.put_base.new.out.items c.in_ok-put_base.ensures
    (rw c.as_slice-field-items.ensures at c.loop-field-test.false)
    (rw c.as_slice-field-items.ensures at c.loop-field.invariant)
