-- The writer has the text of the report.
use Rattle.std.proofs.Common.{inl, inr, subst, refl}
use Rattle.std.specs.Io.KnownBytes.{Appends}
use Rattle.sect_command.proofs.dispatch.report_told.Goals as goal

pub returns-in-Ok : goal.returns-in-Ok
returns-in-Ok g c = elim c.is_written.ensures [
  | inl failed ↦ absurd cc
  | inr written ↦ inr (
    c.in-Ok.report,
    c.in-Ok.is,
    record {
      ends = refl;
      complains = refl;
      text = subst (Appends (g.O.Write.contents c.args.output.now) (g.O.Write.contents c.is_written.new.output))
          c.as_slice.ensures.value written.1;
    },
  )
]
