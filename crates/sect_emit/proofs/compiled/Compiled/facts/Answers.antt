use Rattle.std.proofs.Common.{subst}
use Rattle.sect_types.specs.{First.{IsTyped}, Programs.{ProgramView, IsOfTree}}
use Rattle.sect_emit.specs.Compiled.{CompiledView, IsCompiled, AreSetsLeast}
use Rattle.sect_emit.proofs.Wholes.{compiled, sets_least}
use Rattle.sect_emit.proofs.compiled.Compiled.facts.Goals as goal

pub returns-clause-compiled : goal.returns-clause-compiled
returns-clause-compiled c = subst IsCompiled c.self.view_is
    (compiled c.self.inside.scheme c.self.inside.locks.items _ c.facts.ensures c.self.invariant
    (subst (λ (p : ProgramView). IsTyped p.source) c.program.ensures c.tree-facts.ensures.typed)
    (subst IsOfTree c.program.ensures c.tree-facts.ensures.numbers))

pub returns-clause-typed : goal.returns-clause-typed
returns-clause-typed c = subst (λ (v : CompiledView). IsTyped v.scheme.program.source) c.self.view_is
    (subst (λ (p : ProgramView). IsTyped p.source) c.program.ensures c.tree-facts.ensures.typed)

pub returns-clause-of_tree : goal.returns-clause-of_tree
returns-clause-of_tree c = subst (λ (v : CompiledView). IsOfTree v.scheme.program) c.self.view_is
    (subst IsOfTree c.program.ensures c.tree-facts.ensures.numbers)

pub returns-clause-least : goal.returns-clause-least
returns-clause-least c = subst AreSetsLeast c.self.view_is
    (sets_least c.self.inside.scheme c.self.inside.locks.items _ c.facts.ensures c.self.invariant)
