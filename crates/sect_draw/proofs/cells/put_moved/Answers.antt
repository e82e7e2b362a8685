use Rattle.std.proofs.Common.{◌<◌, length, sym, subst, inr}
use Rattle.sect_lemmas.specs.Lists.{Has}
use Rattle.sect_types.specs.Programs.{ProgramView}
use Rattle.sect_draw.proofs.cells.put_moved.Goals as goal

pub put_lets-requires : goal.put_lets-requires
put_lets-requires c = λ e has.
    subst (λ (p : ProgramView). e.thread < length p.texts) (sym c.program.ensures)
    (c.requires.told.threads e (subst (λ es. Has es e) (sym c.in-Some.ensures.cases.0) (inr has)))
