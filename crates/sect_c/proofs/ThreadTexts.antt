-- Whole threads in C can be read back.
use Rattle.std.proofs.Common.{◌≡◌, ◌<◌, ℕ, List, [], ◌++◌, refl, codes, length, map}
use Rattle.std.proofs.Common.{sym, ◌∙◌, arith, append_assoc, slice_index_or}
use Rattle.sect_types.specs.Programs.{ProgramView}
use Rattle.sect_emit.specs.Listing.{by_number}
use Rattle.sect_graph.specs.Layout.{flow_nodes}
use Rattle.sect_types.specs.Sections.{sections_of}
use Rattle.sect_types.specs.Statements.{TextView}
use Rattle.sect_emit.specs.Compiled.{CompiledView, program_of}
use Rattle.sect_conflicts.specs.Taken.{TakenView, looked_of}
use Rattle.sect_c.specs.Told.{AreNames, NamesTell, DeclareAlike}
use Rattle.sect_c.specs.Said.{node_said}
use Rattle.sect_c.specs.Pairs.{EachFrom, PairsFrom}
use Rattle.sect_c.specs.Statements.{node_c}
use Rattle.sect_c.specs.Back.{standing}
use Rattle.sect_c.specs.Whole.{TopsAlike, IsOneSection, IsOneThread}
use Rattle.sect_c.proofs.Premises.{IsThere, FitsGraph, FitsSection}
use Rattle.sect_c.specs.Sections.{own_section_c, thread_opening_c, exit_c, thread_c}
use Rattle.sect_types.specs.declared.expansion.action.Field.{Field}
use Rattle.sect_graph.specs.declared.flow.Node.{Node}
use Rattle.sect_c.proofs.Reading.{Reads, Any, ends, behind, parted}
use Rattle.sect_c.proofs.Lines.{place_read, NoElse}
use Rattle.sect_c.proofs.Graphs.{IsNode, node_or_exit, thread_exit, graph_read, each_fits}
use Rattle.sect_c.proofs.Locals.{of_tops, opening_read, alike_by}
use Rattle.sect_c.proofs.Owned.{own_read}
use Rattle.sect_emit.specs.declared.graphs.GraphOf.TheVariants as graph

pub exit_read : (u k l : ℕ) → k < 65536 → l < 65536 → Reads Any (exit_c u k) (exit_c u l) (k ≡ l)
exit_read u k l a b =
    ends (behind (codes " ") (place_read (graph.Thread u) k l a b)) (codes ": me->end = end;\n  return;\n") (λ xs. refl)

exit_or_else : (u k : ℕ) (xs : List ℕ) → NoElse (exit_c u k ++ xs)
exit_or_else u k xs ys e = parted (exit_c u k) (codes "  else ") xs ys refl e

exit_or_node : (r : ProgramView) (looks : List Field) (u k m n : ℕ) (x : Node) (xs ys : List ℕ) → m < 65536
    → IsNode r u n x → exit_c u m ++ xs ≡ node_c r looks (standing (graph.Thread u) u k) n x ++ ys → ⊥
exit_or_node r looks u k m n x xs ys a is e =
    node_or_exit r looks (graph.Thread u) u k m n x (codes ": me->end = end;\n  return;\n") xs ys a is.0 refl
    thread_exit e

regroup : (a b c d e xs : List ℕ) → (a ++ (b ++ c) ++ d ++ e) ++ xs ≡ a ++ (b ++ (c ++ (d ++ (e ++ xs))))
regroup a b c d e xs = simp append_assoc

module _ (c d : CompiledView) (taken given : TakenView) (np : AreNames (program_of c).source)
    (nq : AreNames (program_of d).source) (tell : NamesTell (program_of c))
    (tops : TopsAlike (program_of c) (program_of d))
    (count : length (sections_of (program_of c).texts) ≡ length (sections_of (program_of d).texts))
    (own : EachFrom (FitsSection c taken) 0 (sections_of (program_of c).texts))
    (their : EachFrom (FitsSection d given) 0 (sections_of (program_of d).texts)) where
  abbrev p : ProgramView
  p = program_of c

  abbrev q : ProgramView
  q = program_of d

  -- the locals of a thread refer to records that are there
  abbrev pub LocalsThere : ProgramView → ℕ → Type 0
  LocalsThere r u = EachFrom (λ x t. IsThere r t) 0 (slice_index_or r.locals u [])

  pub thread_read : (u : ℕ) (x y : TextView) → LocalsThere p u → LocalsThere q u → FitsGraph p u (flow_nodes x)
      → FitsGraph q u (flow_nodes y)
      → Reads Any (thread_c c taken u x) (thread_c d given u y) (IsOneThread c d taken given u x y)
  thread_read u x y a b f g = record {
    read = λ xs ys s t e.
        let k = length (flow_nodes x) in
        let l = length (flow_nodes y) in
        let n1 = by_number (node_c p (looked_of taken) (standing (graph.Thread u) u k)) 0 (flow_nodes x) in
        let n2 = by_number (node_c q (looked_of given) (standing (graph.Thread u) u l)) 0 (flow_nodes y) in
        let s1 = by_number (own_section_c c taken u) 0 (sections_of (program_of c).texts) in
        let s2 = by_number (own_section_c d given u) 0 (sections_of (program_of d).texts) in
        let first = (opening_read p q np nq tell (of_tops p q tops) u a b).read
        (n1 ++ (exit_c u k ++ (s1 ++ (codes "}\n" ++ xs)))) (n2 ++ (exit_c u l ++ (s2 ++ (codes "}\n" ++ ys)))) tt
        tt
        (sym (regroup (thread_opening_c p u) n1 (exit_c u k) s1 (codes "}\n") xs)
        ∙ (e ∙ regroup (thread_opening_c q u) n2 (exit_c u l) s2 (codes "}\n") ys)) in
        let alike = alike_by p q np nq tell tops u first.0 in
        let nodes = (graph_read p q np nq u alike tell (graph.Thread u) k l f.few g.few (looked_of taken)
        (looked_of given)
        (flow_nodes x) (flow_nodes y) (each_fits p u 0 (flow_nodes x) (omega (arith, f.few)) f.each)
        (each_fits q u 0 (flow_nodes y) (omega (arith, g.few)) g.each)).read
        (exit_c u k ++ (s1 ++ (codes "}\n" ++ xs))) (exit_c u l ++ (s2 ++ (codes "}\n" ++ ys))) (
          (λ n z zs is h. exit_or_node p (looked_of taken) u k k n z (s1 ++ (codes "}\n" ++ xs)) zs f.few is h),
          (λ n z zs is h. exit_or_node q (looked_of given) u l k n z (s1 ++ (codes "}\n" ++ xs)) zs f.few is h),
          exit_or_else u k (s1 ++ (codes "}\n" ++ xs)),
        ) (
          (λ n z zs is h. exit_or_node p (looked_of taken) u k l n z (s2 ++ (codes "}\n" ++ ys)) zs g.few is h),
          (λ n z zs is h. exit_or_node q (looked_of given) u l l n z (s2 ++ (codes "}\n" ++ ys)) zs g.few is h),
          exit_or_else u l (s2 ++ (codes "}\n" ++ ys)),
        ) first.1 in
        let exit = (exit_read u k l f.few g.few).read (s1 ++ (codes "}\n" ++ xs)) (s2 ++ (codes "}\n" ++ ys)) tt tt
        nodes.1 in
        let sections = own_read c d taken given np nq tell u alike 0 (sections_of (program_of c).texts)
        (sections_of (program_of d).texts) count own their xs ys exit.1 in
        (one u x y alike nodes.0 sections.0, sections.1);
  }
    where
      one : (u : ℕ) (x y : TextView) → DeclareAlike p q u → map node_said (flow_nodes x) ≡ map node_said (flow_nodes y)
          → PairsFrom (IsOneSection taken given u) 0 (sections_of p.texts) (sections_of q.texts)
          → IsOneThread c d taken given u x y
      one u x y a b e = record { locals = a.locals; names = a.local_names; graph = b; sections = e }
