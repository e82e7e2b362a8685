use Rattle.sect_names.specs.Schemes.{SchemeView}
use Rattle.sect_infer.specs.Numberings.{AreClassed}
use Rattle.sect_infer.specs.steps.Putting.{IsBroad}
use Rattle.sect_infer.proofs.Telling.{IsAsLong, AreToldBefore}
use Rattle.sect_infer.proofs.numbering.Numbering.tell_below.Given as goal

abbrev pub invariant-loop-other : goal.invariant-loop-other
invariant-loop-other l = record {
  long : IsAsLong l.fn.self l.self;
  told : (s : SchemeView) → IsBroad l.big → AreClassed s l.fn.self
      → AreToldBefore s l.fn.self l.self l.big l.number l.other;
}
