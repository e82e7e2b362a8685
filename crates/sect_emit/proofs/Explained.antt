-- The lines of sections, each with the chains of its locks.
use Rattle.std.proofs.Common.{◌≡◌, ℕ, ◌+◌, List, [], ◌∷◌, ◌++◌, Some, length, length-append, sym, ap, ◌∙◌, subst, arith}
use Rattle.std.proofs.{Common.{inl, inr}, lemmas.Option.{slice_get_within, slice_get-get_or, get_or_from_slice_get}}
use Rattle.std.specs.Prelude.{slice_get, slice_index_or, option_map}
use Rattle.sect_lemmas.proofs.Places.{pushed_at}
use Rattle.sect_types.specs.{Programs.{ProgramView}, Sections.{SectionView, sections_of}, Statements.{Stop}}
use Rattle.sect_places.specs.declared.lines.NodeLine.{NodeLine}
use Rattle.sect_graph.specs.{declared.flow.Node.{Node}, Layout.{flow_nodes}}
use Rattle.sect_names.specs.{declared.link.Link.{Link}, declared.lock.Lock.{Lock}, Needed.{end_of}}
use Rattle.sect_chains.specs.Chains.{AreChains}
use Rattle.sect_emit.specs.Compiled.{CompiledView, IsCompiled}
use Rattle.sect_emit.specs.Explaining.{deed_text, explained_lines, section_at, section_deed, section_explained}
use Rattle.sect_emit.specs.{Explaining.{IsChained, IsExplained}, Listing.{by_number}}
use Rattle.sect_emit.proofs.shared.Numbered.{one_behind}

-- the section that stands there
module _ (v : CompiledView) (i : ℕ) (s : SectionView)
    (at : slice_get (sections_of v.scheme.program.texts) i ≡ Some s) where
  pub section_here : section_at v i ≡ s
  section_here = get_or_from_slice_get (sections_of v.scheme.program.texts) i s (record { thread = 0; body = Stop }) at

  -- what a node of its graph does
  pub deed_here : (p : ProgramView) (g : List Node) (n : ℕ) → p ≡ v.scheme.program → g ≡ flow_nodes s.body
      → deed_text p.source s.thread (option_map (λ x. x.label) (slice_get g n)) ≡ section_deed v i n
  deed_here p g n program graph =
      ap (λ (q : ProgramView). deed_text q.source s.thread (option_map (λ x. x.label) (slice_get g n))) program
      ∙ (ap (λ h. deed_text v.scheme.program.source s.thread (option_map (λ x. x.label) (slice_get h n))) graph
      ∙ ap (λ (x : SectionView). deed_text v.scheme.program.source x.thread
      (option_map (λ y. y.label) (slice_get (flow_nodes x.body) n))) (sym section_here))

  -- its lock set
  pub set_here : IsCompiled v → slice_get v.sets i ≡ Some (slice_index_or v.sets i [])
  set_here compiled =
      let within = slice_get_within (sections_of v.scheme.program.texts) i s at in
      slice_get-get_or v.sets i [] (omega (arith, within, compiled.set_count))

  -- the chains that were found for that
  pub chained_here : (g : List Node) (chains : List (List Link)) → g ≡ flow_nodes s.body
      → AreChains v.scheme s.thread (end_of v.scheme i) g (slice_index_or v.sets i []) chains → IsChained v i chains
  chained_here g chains graph found =
      let set = slice_index_or v.sets i [] in
      subst (λ (x : SectionView). AreChains v.scheme x.thread (end_of v.scheme i) (flow_nodes x.body) set chains)
      (sym section_here) (subst (λ h. AreChains v.scheme s.thread (end_of v.scheme i) h set chains) graph found)

-- a section with the chains that were found for its locks
pub explained : (v : CompiledView) → IsCompiled v → (p : ProgramView) → p ≡ v.scheme.program
    → (i : ℕ) (s : SectionView) (g : List Node) → slice_get (sections_of v.scheme.program.texts) i ≡ Some s
    → g ≡ flow_nodes s.body → (all : List (List NodeLine)) (lines : List NodeLine) → lines ≡ slice_index_or all i []
    → (old new : List ℕ) (given chains : List (List Link)) → given ≡ chains
    → new ≡ old ++ explained_lines p.source i s.thread g lines given
    → ((set : List Lock) → slice_get v.sets i ≡ Some set
    → AreChains v.scheme s.thread (end_of v.scheme i) g set chains)
    → (x : List (List Link)) × IsChained v i x × (new ≡ old ++ section_explained v all i x)
explained v compiled p program i s g at graph all lines placed old new given chains same put found =
    let here = section_here v i s at in (
      chains,
      chained_here v i s at g chains graph (found (slice_index_or v.sets i []) (set_here v i s at compiled)),
      put ∙ (ap (λ (q : ProgramView). old ++ explained_lines q.source i s.thread g lines given) program
          ∙ (ap (λ cs. old ++ explained_lines v.scheme.program.source i s.thread g lines cs) same
          ∙ (ap (λ ls. old ++ explained_lines v.scheme.program.source i s.thread g ls chains) placed
          ∙ (ap (λ h. old
          ++ explained_lines v.scheme.program.source i s.thread h (slice_index_or all i []) chains) graph
          ∙ ap (λ (x : SectionView). old
          ++ explained_lines v.scheme.program.source i x.thread (flow_nodes x.body) (slice_index_or all i []) chains)
          (sym here))))),
    )

-- those of the first sections, and those of the next
pub one_explained : (v : CompiledView) (lines : List (List NodeLine)) (n : ℕ) (old new : List ℕ)
    → IsExplained v lines n old → (x : List (List Link)) → IsChained v n x → new ≡ old ++ section_explained v lines n x
    → IsExplained v lines (n + 1) new
one_explained v lines n old new had x chained put = record {
  all = had.all ++ x ∷ [];
  chained = λ i chains at. elim (pushed_at had.all x chains i at) [
    | inl is ↦ subst (IsChained v i) is.1 (subst (λ m. IsChained v m x) (sym (is.0 ∙ had.counted)) chained)
    | inr before ↦ had.chained i chains before
  ];
  counted = omega (arith, length-append had.all (x ∷ []), had.counted);
  printed = put ∙ (ap (λ o. o ++ section_explained v lines n x) had.printed
      ∙ (ap (λ m. by_number (section_explained v lines) 0 had.all ++ section_explained v lines m x) count
      ∙ sym (one_behind (section_explained v lines) 0 had.all x)));
}
  where
    count : n ≡ 0 + length had.all
    count = omega (arith, had.counted)
