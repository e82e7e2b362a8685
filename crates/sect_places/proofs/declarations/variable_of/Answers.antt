use Rattle.std.proofs.Common.{ap, sym, ◌∙◌}
use Rattle.std.specs.Option.{option_or}
use Rattle.sect_places.specs.Declarations.{global_of}
use Rattle.sect_places.proofs.declarations.variable_of.Goals as goal

pub returns-in-Some-clause-is : goal.returns-in-Some-clause-is
returns-in-Some-clause-is c =
    ap (λ o. option_or o (global_of c.args.names.now c.args.name.now)) (sym c.in-Some.is ∙ c.local_of.ensures.is)

pub returns-in-None-clause-is : goal.returns-in-None-clause-is
returns-in-None-clause-is c =
    c.global_of.ensures.is
    ∙ ap (λ o. option_or o (global_of c.args.names.now c.args.name.now)) (sym c.in-None.is ∙ c.local_of.ensures.is)
