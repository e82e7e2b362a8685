-- What sections take of their plans is enough.
use Rattle.std.specs.Prelude.{ℕ, [], slice_index_or}
use Rattle.sect_types.specs.{Store.{StoreView}, Meaning.{WorkView}}
use Rattle.sect_emit.specs.{Plan.{plan_of}, State.{plan_at}, Compiled.{CompiledView}}
use Rattle.sect_conflicts.specs.{Laws.{IsSectionOver}, Taken.{TakenView, AreTaken}}
use Rattle.sect_world.specs.Loose.{Covers}

-- a thread before section i that holds what the section takes covers its plan: of each key of the plan it holds at
-- least as much, or may leave it out
abbrev pub TakenKeysAreEnough : CompiledView → Type 0
TakenKeysAreEnough c =
    (taken : TakenView) → AreTaken c taken → (i : ℕ) (store : StoreView) (w : WorkView)
    → (over : IsSectionOver c i store w)
    → Covers c over.section.thread store
    (plan_of (slice_index_or taken.parts i []) (slice_index_or taken.paths i []) store w.locals)
    (plan_at c i store w.locals)
