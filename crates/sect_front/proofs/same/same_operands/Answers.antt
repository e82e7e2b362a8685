use Rattle.std.proofs.{Common.{sym}, lemmas.Slice.Eq.{slice_eq-Decides}}
use Rattle.sect_front.proofs.Sameness.{operand_tells}
use Rattle.sect_front.proofs.same.same_operands.Goals as goal

pub returns : goal.returns
returns c = rw (sym c.as_slice.ensures, sym c.as_slice-2.ensures)
    (slice_eq-Decides operand_tells c.as_slice.result.now c.as_slice-2.result.now c.eq.result c.eq.ensures)
