use Rattle.std.proofs.Common.{◌≡◌, subst}
use Rattle.std.specs.Prelude.{List, Some, IfOk, slice_get}
use Rattle.sect_types.specs.Sections.{SectionView, sections_of}
use Rattle.sect_graph.specs.declared.flow.Node.{Node}
use Rattle.sect_names.specs.{declared.lock.Lock.{Lock}, Needed.{end_of}}
use Rattle.sect_chains.specs.Chains.{AreChains}
use Rattle.sect_emit.specs.Compiled.{CompiledView}
use Rattle.sect_emit.proofs.Wholes.{entry_at, kept_at}
use Rattle.sect_emit.proofs.compiled.Compiled.chains.Goals as goal

pub found-requires-clause-inferred : goal.found-requires-clause-inferred
found-requires-clause-inferred c =
    let kept = kept_at c.self.inside.scheme c.self.inside.locks.items _ c.self.invariant c.args.self.now c.self.view_is
    c.args.section c.index.result.now c.requires c.index.ensures in
    c.self.invariant.inferred.each c.args.section c.index.result.now kept

pub returns-clause-chains : goal.returns-clause-chains
returns-clause-chains c =
    let s = c.self.inside.scheme in
    let i = c.args.section in
    let locks = c.index.result.now in
    let kept = kept_at s c.self.inside.locks.items _ c.self.invariant c.args.self.now c.self.view_is i locks c.requires
    c.index.ensures in
    subst
    (λ (v : CompiledView). (of : SectionView) (g : List Node) (set : List Lock)
    → slice_get (sections_of v.scheme.program.texts) i ≡ Some of → slice_get v.scheme.graphs.sections i ≡ Some g
    → slice_get v.sets i ≡ Some set
    → IfOk c.found.result (λ chains. AreChains v.scheme of.thread (end_of v.scheme i) g set chains.items))
    c.self.view_is
    (λ of g set at graph taken.
    subst (λ (e : List Lock). IfOk c.found.result (λ chains. AreChains s of.thread (end_of s i) g e chains.items))
    (entry_at c.self.inside.locks.items i locks set kept taken)
    (c.found.ensures.chains of g at graph))
