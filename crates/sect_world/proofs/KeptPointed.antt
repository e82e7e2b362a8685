-- In well kept states references lie in their sets, and texts are those of their threads.
use Rattle.std.proofs.{Common.{◌≡◌, inl, inr, ℕ, ◌++◌, Some, subst, arith}, lemmas.Option.{slice_get_within}}
use Rattle.std.specs.Prelude.{slice_get}
use Rattle.sect_lemmas.specs.Lists.{Has}
use Rattle.sect_lemmas.proofs.Membership.{Has-cases}
use Rattle.sect_types.specs.{declared.expansion.action.Action.{Action}, Sections.{sections_of}}
use Rattle.sect_types.specs.Statements.{TextView, Stop, Do, Choose, Loop, Section}
use Rattle.sect_points.specs.Flow.{actions_of}
use Rattle.sect_names.specs.Walks.{StandsInThread}
use Rattle.sect_emit.specs.{Pointed.{IsPointedStore, IsPointed}, Compiled.{CompiledView, program_of}}
use Rattle.sect_emit.specs.State.{Running, ThreadState, State, IsThread}
use Rattle.sect_world.specs.Kept.{Each, AreGripsKept, IsAt, IsWellKept}

-- what holds of each statement holds of those that are listed
each_action : (A : Action → Type 0) (S : ℕ → TextView → Type 0) (k : TextView) → Each A S k → (a : Action)
    → Has (actions_of k) a → A a
each_action A S Stop each a h = absurd h
each_action A S (Do b r) each a h = elim h [ inl e ↦ subst A e each.0 | inr j ↦ each_action A S r each.1 a j ]
each_action A S (Choose c p q r) each a h = elim (Has-cases (actions_of p) (actions_of q ++ actions_of r) a h) [
  | inl j ↦ each_action A S p each.0 a j
  | inr j ↦ elim (Has-cases (actions_of q) (actions_of r) a j)
      [ inl j ↦ each_action A S q each.1 a j | inr j ↦ each_action A S r each.2 a j ]
]
each_action A S (Loop c p r) each a h =
    elim (Has-cases (actions_of p) (actions_of r) a h)
    [ inl j ↦ each_action A S p each.0 a j | inr j ↦ each_action A S r each.1 a j ]
each_action A S (Section i p r) each a h =
    elim (Has-cases (actions_of p) (actions_of r) a h)
    [ inl j ↦ each_action A S p each.1 a j | inr j ↦ each_action A S r each.2 a j ]

-- in a well kept state the store's references lie in their sets
pub pointed_store : (c : CompiledView) (s : State) → IsWellKept c s → IsPointedStore c.scheme s.store
pointed_store c s kept = kept.store.pointed

module _ (c : CompiledView) (s : State) (kept : IsWellKept c s) (t : ℕ) (th : ThreadState) (at : IsThread s t th) where
  -- and so do those of each thread
  pub pointed_thread : IsPointed c.scheme t s.store th.frame.work
  pointed_thread = record {
    objects = pointed_store c s kept;
    locals = (kept.threads t th at).work.locals;
    row = omega (arith, slice_get_within s.threads t th at, kept.as_many, kept.store.rows);
    made = (kept.threads t th at).work.made;
  }

  -- what a thread has still to run of a section is the thread's text
  pub stands_inside : (i : ℕ) (k : TextView) → th.position ≡ Running i k → StandsInThread c.scheme t k
  stands_inside i k running a h =
      let text = subst (λ p. IsAt c s.store t p th) running (kept.threads t th at).at in
      each_action _ _ k text.listed a h

  -- the section that it stands before is one of the program
  pub its_section : (i : ℕ) (body rest : TextView) → th.frame.text ≡ Section i body rest
      → slice_get (sections_of (program_of c).texts) i ≡ Some (record { thread = t; body = body })
  its_section i body rest is =
      let listed =
      subst (Each _ (λ j b. slice_get (sections_of (program_of c).texts) j ≡ Some
      (record { thread = t; body = b }))) is (kept.threads t th at).text.listed in
      listed.0

  -- the objects whose keys it holds are there
  pub held_kept : AreGripsKept s.store th.held
  held_kept = (kept.threads t th at).held
