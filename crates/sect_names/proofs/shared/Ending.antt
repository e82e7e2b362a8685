-- Sections that are read by their numbers, and their ends.
use Rattle.std.proofs.{Common.{◌≡◌, ℕ, List, Some, ap, subst}, lemmas.Option.{get_or_from_slice_get}}
use Rattle.std.specs.Prelude.{slice_get}
use Rattle.sect_front.specs.declared.tree.Locking.{Locking}
use Rattle.sect_types.specs.{Programs.{ProgramView}, Sections.{SectionView, sections_of}}
use Rattle.sect_graph.specs.{declared.flow.Node.{Node}, Graphs.{GraphView}}
use Rattle.sect_names.specs.{Schemes.{SchemeView}, Needed.{end_locks, end_of}}
use Rattle.sect_front.specs.declared.tree.Locking.TheVariants as locking

-- a section that is read from a scheme's program, and the graph that is read from its graphs
pub section_read : (s : SchemeView) (i : ℕ) (p : ProgramView) (q : GraphView) (of : SectionView) (g : List Node)
    → p ≡ s.program → slice_get (sections_of p.texts) i ≡ Some of → q ≡ s.graphs → slice_get q.sections i ≡ Some g
    → (slice_get (sections_of s.program.texts) i ≡ Some of) × (slice_get s.graphs.sections i ≡ Some g)
section_read s i p q of g is_p section is_q graph = (
  subst (λ (z : ProgramView). slice_get (sections_of z.texts) i ≡ Some of) is_p section,
  subst (λ (z : GraphView). slice_get z.sections i ≡ Some g) is_q graph,
)

-- what the end of a section generates goes by which locks it takes
pub end_is : (s : SchemeView) (i : ℕ) (p : ProgramView) (l : Locking) → p ≡ s.program → slice_get p.lockings i ≡ Some l
    → end_of s i ≡ end_locks l
end_is s i p l is at = ap end_locks (get_or_from_slice_get s.program.lockings i l locking.Inferred
    (subst (λ (z : ProgramView). slice_get z.lockings i ≡ Some l) is at))
