-- Local steps of one thread in a row, and a stretch of its code outside sections that is run apart.
-- `World::commit_local` cites it.
use Rattle.std.specs.Prelude.{◌≡◌, ◌<◌, ℕ, zero, suc, true, List, Option, None, Result, Ok, Err, length}
use Rattle.std.specs.Prelude.{replicate}
use Rattle.sect_types.specs.{declared.meaning.store.End.{End}, declared.meaning.store.Fault.{Fault}}
use Rattle.sect_types.specs.{Meaning.{WorkView, begins_step}, Whole.{FrameView, settled, failed, local_step}}
use Rattle.sect_graph.specs.Rests.{rest_at}
use Rattle.sect_emit.specs.{Compiled.{CompiledView, program_of}, Graphed.{text_at}}
use Rattle.sect_world.specs.{declared.event.Deed.TheVariants.{Local}, declared.event.Event.{Event}}
use Rattle.sect_world.specs.declared.runner.Runner.{Runner}
use Rattle.sect_world.specs.declared.local_stretch.LocalStretch.{LocalStretch}

-- so many `local` events of thread t
abbrev pub locals_of : ℕ → ℕ → List Event
locals_of n t = replicate n (record { thread = t; deed = Local })

-- thread t outside sections, at node j of its own graph, with this work, and how it has ended, if it has
abbrev pub frame_at : CompiledView → ℕ → ℕ → WorkView → Option End → FrameView
frame_at c t j w e = record { text = rest_at (text_at c t) j; work = w; ended = e }

-- the runner there
abbrev pub gone_to : Runner → ℕ → WorkView → Option End → Runner
gone_to runner j v e = record {
  phase = runner.phase;
  node = j;
  work = v;
  ended = e;
  wanted = runner.wanted;
  taken = runner.taken;
}

-- where thread t is after a step at node j, and how it has ended then, if it has
abbrev pub IsAfterStep : CompiledView → ℕ → ℕ → Result ℕ Fault → ℕ → Option End → Type 0
IsAfterStep c t j (Ok m) at e = (w : WorkView) → frame_at c t at w e ≡ settled (rest_at (text_at c t) m) w
IsAfterStep c t j (Err why) at e = (w : WorkView) → frame_at c t at w e ≡ failed why (rest_at (text_at c t) j) w

-- one local step of thread t: from node j and the work u to node m and the work v; it has ended so then, if it has
abbrev pub StepsOnce : CompiledView → ℕ → ℕ → WorkView → ℕ → WorkView → Option End → Type 0
StepsOnce c t j u m v e =
    (begins_step (rest_at (text_at c t) j) ≡ true)
    × (frame_at c t m v e ≡ local_step (program_of c) t (frame_at c t j u None))

-- so many of them; only the last may end the thread
abbrev pub Steps : CompiledView → ℕ → ℕ → ℕ → WorkView → ℕ → WorkView → Option End → Type 0
Steps c t zero j w m v e = (m ≡ j) × (v ≡ w) × (e ≡ None)
Steps c t (suc n) j w m v e =
    (i : ℕ) × (u : WorkView) × Steps c t n j w i u None × StepsOnce c t i u m v e

-- a stretch outside sections: its steps lead from where it begins to where it has come
pub record IsLocalStretch (c : CompiledView) (l : LocalStretch) : Type 0 where
  pub within : l.thread < length (program_of c).texts
  pub steps : Steps c l.thread l.steps l.node l.start l.at l.work l.ended
