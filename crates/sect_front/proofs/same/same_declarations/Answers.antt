use Rattle.std.proofs.{Common.{sym}, lemmas.Slice.Eq.{slice_eq-Decides}}
use Rattle.sect_front.proofs.Sameness.{declaration_tells}
use Rattle.sect_front.proofs.same.same_declarations.Goals as goal

pub returns : goal.returns
returns c = rw (sym c.as_slice.ensures, sym c.as_slice-2.ensures)
    (slice_eq-Decides declaration_tells c.as_slice.result.now c.as_slice-2.result.now c.eq.result c.eq.ensures)
