use Rattle.sect_names.proofs.Generating.{no_access, an_access}
use Rattle.sect_names.proofs.scheme.Scheme.access.Goals as goal

pub returns-in-None : goal.returns-in-None
returns-in-None c = no_access c.args.self.now c.args.variable c.args.of c.args.effect c.class_of_variable.result
    c.class_of_variable.ensures c.in-None.is

pub returns-in-Some : goal.returns-in-Some
returns-in-Some c = rw (c.new.ensures, c.locked_for-locked.ensures, c.guard.ensures, c.guards.ensures)
    (an_access c.args.self.now c.args.variable c.args.of c.args.effect c.class_of_variable.result c.in-Some.field-0
    c.class_of_variable.ensures c.in-Some.is)
