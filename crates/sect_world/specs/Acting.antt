-- Acts of one thread in a row, and a stretch of a section that is run apart. `World::commit` cites it.
use Rattle.std.specs.Prelude.{◌≡◌, ◌<◌, ℕ, zero, suc, true, List, [], Result, Ok, Err, length, replicate}
use Rattle.sect_types.specs.{declared.meaning.store.Fault.{Fault}, Sections.{sections_of}, Store.{StoreView}}
use Rattle.sect_types.specs.Meaning.{WorkView, begins_step}
use Rattle.sect_graph.specs.Rests.{rest_at}
use Rattle.sect_store.specs.Parts.{ShowsAll, written, IsPartOf}
use Rattle.sect_emit.specs.Compiled.{CompiledView, program_of}
use Rattle.sect_world.specs.{declared.event.Deed.TheVariants.{Act}, declared.event.Event.{Event}, Events.{step_in}}
use Rattle.sect_world.specs.{Viewing.{body_at}, declared.runner.Phase.{Phase}, declared.runner.Runner.{Runner}}
use Rattle.sect_world.specs.declared.apart.Apart.{Apart}
use Rattle.sect_world.specs.steps.Moves.{Goes, grips_by}
use Rattle.sect_world.specs.declared.runner.Phase.TheVariants as phase

-- so many `act` events of thread t
abbrev pub acts_of : ℕ → ℕ → List Event
acts_of n t = replicate n (record { thread = t; deed = Act })

-- where a thread in section i is after a step
abbrev pub phase_by : ℕ → Result ℕ Fault → Phase
phase_by i (Ok m) = phase.Running i m
phase_by i (Err why) = phase.Faulted i why

-- the runner in this phase, with this work
abbrev pub moved_to : Runner → Phase → WorkView → Runner
moved_to runner q v = record {
  phase = q;
  node = runner.node;
  work = v;
  ended = runner.ended;
  wanted = runner.wanted;
  taken = runner.taken;
}

-- one act of thread t, at node j of section i, by which it comes to hold no key: from the work u and the store z to the
-- phase q, the work v and the store r
abbrev pub ActsOnce : CompiledView → ℕ → ℕ → ℕ → WorkView → StoreView → Phase → WorkView → StoreView → Type 0
ActsOnce c t i j u z q v r =
    (begins_step (rest_at (body_at c i) j) ≡ true)
    × (grips_by c t u.made (step_in c t (rest_at (body_at c i) j) u z) ≡ [])
    × ((went : Result ℕ Fault) × Goes (rest_at (body_at c i)) t z (step_in c t (rest_at (body_at c i) j) u z) went v r
    × (q ≡ phase_by i went))

-- so many acts of thread t in section i lead from the phase p, the work w and the store s to the phase q, the work v
-- and the store r
abbrev pub Acts : CompiledView → ℕ → ℕ → ℕ → Phase → WorkView → StoreView → Phase → WorkView → StoreView → Type 0
Acts c t i zero p w s q v r = (q ≡ p) × (v ≡ w) × (r ≡ s)
Acts c t i (suc n) p w s q v r =
    (j : ℕ) × (u : WorkView) × (z : StoreView) × Acts c t i n p w s (phase.Running i j) u z
    × ActsOnce c t i j u z q v r

-- a stretch of a section: in each store that shows what it knew when it began, its acts lead from there to where it has
-- come, and to that store after its writes
pub record IsApart (c : CompiledView) (a : Apart) : Type 0 where
  pub sited : a.section < length (sections_of (program_of c).texts)
  pub acts : (s : StoreView) → ShowsAll s a.known.items
      → IsPartOf a.part s
      × Acts c a.thread a.section a.acts (phase.Running a.section a.node) a.start s a.phase a.work
      (written s a.part.writes.items)
