use Rattle.std.proofs.Common.{None, sym, ap, subst, ◌∙◌}
use Rattle.sect_types.specs.{First.{IsTyped}, Programs.{ProgramView}}
use Rattle.sect_types.specs.declared.declarations.local_name.LocalName.{LocalName}
use Rattle.sect_check.specs.Names.{local_named}
use Rattle.sect_check.specs.steps.Resolving.{NamingView}
use Rattle.sect_check.proofs.LocalLaws.{global_found, no_global_found}
use Rattle.sect_check.proofs.naming.Naming.variable_named.Goals as goal

pub returns-in-Some : goal.returns-in-Some
returns-in-Some c =
    let n = c.args.self.now in
    let same = c.program.ensures ∙ ap (λ (v : NamingView). v.scheme.program) c.self.view_is in
    let typed = subst (λ (p : ProgramView). IsTyped p.source) same c.tree-facts.ensures.typed in
    sym (global_found n.scheme.program.source typed n.thread c.in-Some.number c.args.name.now (sym c.in-Some.ensures))

pub returns : goal.returns
returns c =
    let n = c.args.self.now in
    let name : LocalName = record { name = c.args.name.now; call = None } in
    let same = c.program-2.ensures ∙ ap (λ (v : NamingView). v.scheme.program) c.self.view_is in
    c.local_named.ensures
    ∙ ap (λ (p : ProgramView). local_named p.source c.self.inside.thread name) same
    ∙ ap (λ t. local_named n.scheme.program.source t name) (ap (λ (v : NamingView). v.thread) c.self.view_is)
    ∙ sym (no_global_found n.scheme.program.source n.thread c.args.name.now (sym c.in_default.ensures))
