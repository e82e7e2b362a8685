-- A runner says where its thread stands, and with what it works.
use Rattle.std.proofs.Common.{◌≡◌, ℕ, ◌<◌, List, length, Some, inl, inr, refl, sym, ap, ◌∙◌}
use Rattle.std.proofs.lemmas.Option.{get_or_from_slice_get, slice_get_within}
use Rattle.std.specs.Prelude.{ℤ, slice_get}
use Rattle.sect_types.specs.{Statements.{TextView, Stop}, Sections.{SectionView, sections_of}, Store.{StoreView}}
use Rattle.sect_lemmas.proofs.Places.{at_of}
use Rattle.sect_graph.specs.Rests.{rest_at}
use Rattle.sect_table.specs.{declared.claims.Hold.{Hold}, Contents.{Contents}}
use Rattle.sect_emit.specs.{Compiled.{CompiledView, program_of}, Graphed.{text_at, graphed_text}}
use Rattle.sect_emit.specs.State.{Running}
use Rattle.sect_world.specs.{declared.event.Event.{Event}, declared.runner.Runner.{Runner}}
use Rattle.sect_world.specs.{declared.runner.Phase.{Phase}, Sights.{work_of, work_in}}
use Rattle.sect_world.specs.Standings.{StandsAt, IsStandingThere, IsStanding, standing_by}
use Rattle.sect_world.specs.Viewing.{body_at, body_in, position_of, thread_of, state_of, IsSited, IsWorld}
use Rattle.sect_world.proofs.Viewing.{seen_at}
use Rattle.sect_emit.specs.declared.graphs.GraphOf.TheVariants as graphed
use Rattle.sect_world.specs.declared.runner.Phase.TheVariants as phase

-- the body of a section of the program
body_is : (c : CompiledView) (i : ℕ) → i < length (sections_of (program_of c).texts)
    → body_at c i ≡ graphed_text c (graphed.Section i)
body_is c i there =
    let all = sections_of (program_of c).texts in
    let x = at_of all i there in
    ap body_in x.1
    ∙ sym (ap (λ (z : SectionView). z.body)
    (get_or_from_slice_get all i x.0 (record { thread = 0; body = Stop }) x.1))

module _ (c : CompiledView) (t : ℕ) (text : TextView) (hs : List Hold) (r : Runner) (same : text_at c t ≡ text) where
  -- where nothing has broken its section off, it stands at a node
  stands_by : (p : Phase) → r.phase ≡ p → IsSited c p → StandsAt c t (thread_of c text r hs) (standing_by t p r.node)
  stands_by phase.Outside is sited =
      (refl, inl (ap (position_of c) is), ap (λ k. rest_at k r.node) (sym same))
  stands_by phase.Entered is sited =
      (refl, inr (ap (position_of c) is), ap (λ k. rest_at k r.node) (sym same))
  stands_by (phase.Running i j) is sited =
      ap (position_of c) is ∙ ap (λ k. Running i (rest_at k j)) (body_is c i sited)
  stands_by (phase.Faulted i why) is sited = (i, ap (position_of c) is)

  there_by : t < length (program_of c).texts → (p : Phase) → IsSited c p → IsStandingThere c (standing_by t p r.node)
  there_by within phase.Outside sited = within
  there_by within phase.Entered sited = within
  there_by within (phase.Running i j) sited = sited
  there_by within (phase.Faulted i why) sited = tt

module _ (c : CompiledView) (fuel : ℕ) (trace : List Event) (order : List ℕ) (store : StoreView) (output : List ℤ)
    (rs : List Runner) (table : Contents) (w : IsWorld c fuel trace order store output rs table) (t : ℕ) (r : Runner)
    (at : slice_get rs t ≡ Some r) where
  pub works_so : r.work ≡ work_of (state_of c store output rs table.held) t
  works_so =
      let s = seen_at c (program_of c).texts rs table.held t r w.as_many w.as_many_held at in
      sym (ap work_in s.4)

  pub stands_so : IsStanding c (state_of c store output rs table.held) t (standing_by t r.phase r.node)
  stands_so =
      let s = seen_at c (program_of c).texts rs table.held t r w.as_many w.as_many_held at in
      let within = slice_get_within (program_of c).texts t s.0 s.2 in
      record {
        thread = thread_of c s.0 r s.1;
        is = s.4;
        stands = stands_by c t s.0 s.1 r (get_or_from_slice_get (program_of c).texts t s.0 Stop s.2) r.phase refl
            (w.sited t r at);
        there = there_by c t s.0 s.1 r (get_or_from_slice_get (program_of c).texts t s.0 Stop s.2) within r.phase
            (w.sited t r at);
      }
