-- What a move makes of a thread is what the machine does to it, so it is a turn.
use Rattle.std.proofs.Common.{◌≡◌, ◌≢◌, inl, inr, option_map, ℕ, ◌<◌, List, [], ◌∷◌, ◌++◌, length, drop, true, false}
use Rattle.std.proofs.{Common.{true≢false, Some, refl, sym, ◌∙◌, ap, subst}, lemmas.Bool.{cases_lt}}
use Rattle.std.proofs.lemmas.Option.{slice_get_within}
use Rattle.std.specs.Prelude.{ℤ, slice_get, slice_set}
use Rattle.sect_types.specs.{Statements.{TextView, Stop, Do, Choose, Loop, Section}, Sections.{sections_of}}
use Rattle.sect_types.specs.{Store.{StoreView}, Sound.{IsSound}, Programs.{environment_at}, Meaning.{begins_step}}
use Rattle.sect_types.specs.{Whole.{local_step}, declared.expansion.action.Label.{Label}}
use Rattle.sect_types.specs.declared.meaning.store.ObjectName.TheVariants.{Made}
use Rattle.sect_lemmas.specs.Lists.{put_at}
use Rattle.sect_lemmas.proofs.{Options.{some_injective}, Places.{at_of}}
use Rattle.sect_graph.specs.{declared.flow.Node.{Node}, Rests.{Begins, rest_at}}
use Rattle.sect_table.specs.Contents.{Contents, held_by, entry_of}
use Rattle.sect_emit.specs.{Plan.{meets, key_of}, Compiled.{CompiledView, IsCompiled, program_of}, Graphed.{text_at}}
use Rattle.sect_emit.specs.State.{Outside, Entered, Running, Faulted, ThreadState, State, IsThread, plan_at}
use Rattle.sect_world.specs.{declared.event.Deed.TheVariants.{Local, Enter, Begin, Act}, declared.event.Event.{Event}}
use Rattle.sect_world.specs.{declared.runner.Phase.{Phase}, declared.runner.Runner.{Runner}}
use Rattle.sect_world.specs.declared.turned.Turned.TheVariants.{Moved}
use Rattle.sect_world.specs.Events.{IsFree, IsReady, with_frame, entering, beginning, acting, step_in, changed_by}
use Rattle.sect_world.specs.{Kept.{IsTextOf, IsThreadKept, IsAt}, Waiting.{grips}}
use Rattle.sect_world.specs.Viewing.{body_at, body_in, position_of, frame_of, thread_of, threads_of, state_of}
use Rattle.sect_world.specs.Viewing.{shown, IsSited, IsWorld}
use Rattle.sect_world.specs.steps.Moves.{HoldsMore, IsNext, grips_by}
use Rattle.sect_world.proofs.{FreshKeys.{next_key_free}, FreshGrips.{looked_up}, KeptStates.{runs_are_well_kept}}
use Rattle.sect_world.proofs.{NodeSteps.{at_exit, at_end, section_graph, thread_graph}, Turning.{standing, went_on}}
use Rattle.sect_world.proofs.Viewing.{world_fits, TurnsInto}
use Rattle.sect_world.specs.declared.runner.Phase.TheVariants as phase
use Rattle.sect_world.specs.declared.turned.EventKind.TheVariants as kind

-- what a node begins, its label says
next_of : (rest : ℕ → TextView) (x : Node) (k : TextView) (l : Label) → Begins rest x k → x.label ≡ l → IsNext l k
next_of rest x Stop l b is = absurd b
next_of rest x (Do a r) l b is = subst (λ z. IsNext z (Do a r)) (sym (ap (λ (y : Node). y.label) b.1) ∙ is) refl
next_of rest x (Choose d p q r) l b is =
    subst (λ z. IsNext z (Choose d p q r)) (sym (ap (λ (y : Node). y.label) b.2) ∙ is) refl
next_of rest x (Loop d p r) l b is = subst (λ z. IsNext z (Loop d p r)) (sym (ap (λ (y : Node). y.label) b.2) ∙ is) refl
next_of rest x (Section i p r) l b is =
    subst (λ z. IsNext z (Section i p r)) (sym (ap (λ (y : Node). y.label) b.1) ∙ is) (p, r, refl)

-- a text that begins a step isn't at its end
pub begins_on : (k : TextView) → begins_step k ≡ true → k ≢ Stop
begins_on k begins off = true≢false (sym begins ∙ ap begins_step off)

-- nor is one that begins a section
pub section_on : (k : TextView) (i : ℕ) (body rest : TextView) → k ≡ Section i body rest → k ≢ Stop
section_on k i body rest is off = let no_end : Section i body rest ≡ Stop = sym is ∙ off in cc

module _ (c : CompiledView) (is : IsCompiled c) (t : ℕ) (within : t < length (program_of c).texts) (j : ℕ)
    (on : rest_at (text_at c t) j ≢ Stop)
    (g : List Node) (g_at : slice_get c.scheme.graphs.threads t ≡ Some g) where
  -- where something is left to do, the node is one of the graph
  pub before_exit_of : j < length g
  before_exit_of = elim (cases_lt j (length g))
      [ inl lt ↦ lt | inr past ↦ absurd (on (at_exit c is t g j within g_at past)) ]

  -- whose label says with what it begins
  pub next_of_node : (l : Label) → option_map (λ (x : Node). x.label) (slice_get g j) ≡ Some l
      → IsNext l (rest_at (text_at c t) j)
  next_of_node l shown =
      let x = at_of g j before_exit_of in
      next_of (rest_at (text_at c t)) x.0 (rest_at (text_at c t) j) l
      ((thread_graph c is t within g g_at).running.begins j x.0 x.1)
      (looked_up (λ (y : Node). y.label) (slice_get g j) x.0 l x.1 shown)

-- a runner that is seen in a section is in one of the program
running_sited : (c : CompiledView) (s : Phase) (n : ℕ) (k : TextView) → position_of c s ≡ Running n k → IsSited c s
    → n < length (sections_of (program_of c).texts)
running_sited c phase.Outside n k e is = absurd (let off : Outside ≡ Running n k = e in cc)
running_sited c phase.Entered n k e is = absurd (let off : Entered ≡ Running n k = e in cc)
running_sited c (phase.Running i j) n k e is =
    let both : Running i (rest_at (body_at c i) j) ≡ Running n k = e in
    let same : i ≡ n = cc in
    subst (λ m. m < length (sections_of (program_of c).texts)) same is
running_sited c (phase.Faulted i why) n k e is = absurd (let off : Faulted i why ≡ Running n k = e in cc)

module _ (c : CompiledView) (fuel : ℕ) (trace : List Event) (order : List ℕ) (store : StoreView) (output : List ℤ)
    (rs : List Runner) (table : Contents)
    (w : IsWorld c fuel trace order store output rs table) (t : ℕ) (th : ThreadState)
    (at : IsThread (state_of c store output rs table.held) t th)
    (r : Runner) (r_at : slice_get rs t ≡ Some r) where
  -- the thread by its runner
  pub stands : th ≡ thread_of c (text_at c t) r (held_by table t)
  stands =
      let x = standing c fuel trace order store output rs table w t th at in
      x.is ∙ ap (λ z. thread_of c (text_at c t) z (held_by table t)) (some_injective x.runner r (sym x.at ∙ r_at))

  -- what is kept of it
  pub kept : IsThreadKept c store t th
  kept = (runs_are_well_kept c w.compiled fuel trace (state_of c store output rs table.held) w.run).threads t th at

  pub text_is : th.frame.text ≡ rest_at (text_at c t) r.node
  text_is = ap (λ (z : ThreadState). z.frame.text) stands

  -- where something is left to do, its node is one of its graph
  pub before : th.frame.text ≢ Stop → (g : List Node) → slice_get c.scheme.graphs.threads t ≡ Some g → r.node < length g
  before on g g_at = before_exit_of c w.compiled t (standing c fuel trace order store output rs table w t th at).within
      r.node (λ off. on (text_is ∙ off)) g g_at

  -- its text is sound
  pub sound : IsSound (environment_at (program_of c) t) false (rest_at (text_at c t) r.node)
  sound = subst (IsSound (environment_at (program_of c) t) false) text_is kept.text.sound

  -- the section before which it stands is one of the program
  pub listed : (i : ℕ) (body rest : TextView) → th.frame.text ≡ Section i body rest
      → slice_get (sections_of (program_of c).texts) i ≡ Some (record { thread = t; body = body })
  listed i body rest is = (subst (λ k. IsTextOf (program_of c) t false k) is kept.text).listed.0

  pub section_there : (i : ℕ) (body rest : TextView) → th.frame.text ≡ Section i body rest
      → i < length (sections_of (program_of c).texts)
  section_there i body rest is = slice_get_within (sections_of (program_of c).texts) i _ (listed i body rest is)

  -- so is the one in which it is
  pub running_there : (n : ℕ) (k : TextView) → th.position ≡ Running n k → n < length (sections_of (program_of c).texts)
  running_there n k e = running_sited c r.phase n k (sym (ap (λ (z : ThreadState). z.position) stands) ∙ e)
      (w.sited t r r_at)

  -- of which a sound text is left
  pub text_inside : (n : ℕ) (k : TextView) → th.position ≡ Running n k → IsTextOf (program_of c) t true k
  text_inside n k e = subst (λ p. IsAt c store t p th) e kept.at

  -- all of whose body is to run at its first node
  whole_body : (i : ℕ) (body rest : TextView) → th.frame.text ≡ Section i body rest → rest_at (body_at c i) 0 ≡ body
  whole_body i body rest is =
      let there = section_there i body rest is in
      let g = at_of c.scheme.graphs.sections i
      (subst (λ n. i < n) (sym w.compiled.scheme.graphed.section_count) there) in
      (section_graph c w.compiled i there g.0 g.1).running.start ∙ ap body_in (listed i body rest is)

  module _ (made trace' : List Event) (rs' : List Runner) (lets lets' : List ℕ) (made_is : made ≡ trace) (q : Runner)
      (rs_is : rs' ≡ slice_set rs t q) (lets_is : lets' ≡ []) where
    -- outside sections
    pub turns_local : IsFree th → begins_step th.frame.text ≡ true
        → trace' ≡ made ++ record { thread = t; deed = Local } ∷ []
        → frame_of (text_at c t) q ≡ local_step (program_of c) t (frame_of (text_at c t) r) → q.phase ≡ r.phase
        → q.wanted ≡ r.wanted → q.taken ≡ r.taken
        → TurnsInto (shown c fuel trace order store output rs table.held lets) t (Moved kind.Local) c fuel trace' order
        store output rs' table lets'
    turns_local free begins trace_is framed staged wanted count =
        let new : thread_of c (text_at c t) q (held_by table t) ≡ with_frame (local_step (program_of c) t th.frame) th =
        (λ i. record {
          position = position_of c (staged i);
          frame = framed i;
          wanted =
              drop (count i) (wanted i).items;
          held = grips (held_by table t);
        })
        ∙ ap (λ (z : ThreadState). with_frame (local_step (program_of c) t z.frame) z) (sym stands) in
        went_on c fuel trace made trace' order store store output rs rs' table table lets lets' w t th at
        (λ k m entered wants. let off : Outside ≡ Entered = sym free.0 ∙ entered in cc) Local refl refl q
        (subst (IsSited c) (sym staged) (w.sited t r r_at)) [] refl (
          free,
          begins,
          ap (λ z. record {
            store = store;
            output = output;
            threads =
                put_at t z (threads_of c (program_of c).texts rs table.held);
          }) new,
        )
        made_is trace_is rs_is lets_is

    -- into a section
    pub turns_in : (n : ℕ) (body rest : TextView) → IsFree th → th.frame.text ≡ Section n body rest
        → trace' ≡ made ++ record { thread = t; deed = Enter } ∷ []
        → q.phase ≡ phase.Entered → drop q.taken q.wanted.items ≡ plan_at c n store r.work.locals
        → frame_of (text_at c t) q ≡ frame_of (text_at c t) r
        → TurnsInto (shown c fuel trace order store output rs table.held lets) t (Moved kind.Enter) c fuel trace' order
        store output rs' table lets'
    turns_in n body rest free text trace_is staged wanted framed =
        let new : thread_of c (text_at c t) q (held_by table t) ≡ entering (plan_at c n store th.frame.work.locals) th =
        (λ i. record {
          position = position_of c (staged i);
          frame = framed i;
          wanted = wanted i;
          held =
              grips (held_by table t);
        })
        ∙ ap (λ (z : ThreadState). entering (plan_at c n store z.frame.work.locals) z) (sym stands) in
        went_on c fuel trace made trace' order store store output rs rs' table table lets lets' w t th at
        (λ k m entered wants. let off : Outside ≡ Entered = sym free.0 ∙ entered in cc) Enter refl refl q
        (subst (IsSited c) (sym staged) tt) [] refl (
          n,
          body,
          rest,
          free,
          text,
          ap
              (λ z. record {
                store = store;
                output = output;
                threads =
                    put_at t z (threads_of c (program_of c).texts rs table.held);
              }) new,
        )
        made_is trace_is rs_is lets_is

    -- to its beginning
    pub turns_begun : (n : ℕ) (body rest : TextView) → IsReady th n body rest
        → meets th.held (plan_at c n store th.frame.work.locals) ≡ true
        → trace' ≡ made ++ record { thread = t; deed = Begin } ∷ []
        → q.phase ≡ phase.Running n 0 → rest_at (text_at c t) q.node ≡ rest → q.wanted ≡ r.wanted → q.taken ≡ r.taken
        → q.work ≡ r.work → q.ended ≡ r.ended
        → TurnsInto (shown c fuel trace order store output rs table.held lets) t (Moved kind.Begin) c fuel trace' order
        store output rs' table lets'
    turns_begun n body rest ready met trace_is staged after wanted count worked ended =
        let new : thread_of c (text_at c t) q (held_by table t) ≡ beginning n body rest th =
        (λ i. record {
          position = position_of c (staged i);
          frame = record { text = after i; work = worked i; ended = ended i };
          wanted = drop (count i) (wanted i).items;
          held = grips (held_by table t);
        })
        ∙ (ap (λ z. record {
          position = Running n z;
          frame =
              record { text = rest; work = r.work; ended = r.ended };
          wanted = drop r.taken r.wanted.items;
          held =
              grips (held_by table t);
        }) (whole_body n body rest ready.text)
        ∙ ap (beginning n body rest) (sym stands)) in
        went_on c fuel trace made trace' order store store output rs rs' table table lets lets' w t th at
        (λ k m entered wants. let off : [] ≡ _ ∷ wants.0 = sym ready.wanted ∙ wants.1 in cc) Begin refl refl q
        (subst (IsSited c) (sym staged) (section_there n body rest ready.text)) [] refl (
          n,
          body,
          rest,
          ready,
          met,
          ap
              (λ z. record {
                store = store;
                output = output;
                threads =
                    put_at t z (threads_of c (program_of c).texts rs table.held);
              }) new,
        )
        made_is trace_is rs_is lets_is

    -- and through it
    pub turns_inside : (n : ℕ) (k : TextView) (store' : StoreView) (table' : Contents) → th.position ≡ Running n k
        → begins_step k ≡ true → trace' ≡ made ++ record { thread = t; deed = Act } ∷ []
        → ((text : TextView) → thread_of c text q (held_by table' t) ≡ acting c t n (step_in c t k r.work store)
        (thread_of c text r (held_by table t)))
        → store' ≡ changed_by t (step_in c t k r.work store) store
        → HoldsMore t (grips_by c t r.work.made (step_in c t k r.work store)) table table' → IsSited c q.phase
        → TurnsInto (shown c fuel trace order store output rs table.held lets) t (Moved kind.Act) c fuel trace' order
        store' output rs' table' lets'
    turns_inside n k store' table' running begins trace_is acts stored more is_sited =
        let s : State = state_of c store output rs table.held in
        let new : thread_of c (text_at c t) q (held_by table' t) ≡ acting c t n (step_in c t k th.frame.work store) th =
        acts (text_at c t) ∙ ap (λ (z : ThreadState). acting c t n (step_in c t k z.frame.work store) z) (sym stands) in
        let changed : store' ≡ changed_by t (step_in c t k th.frame.work store) store =
        stored ∙ ap (λ (z : ThreadState). changed_by t (step_in c t k z.frame.work store) store) (sym stands) in
        went_on c fuel trace made trace' order store store' output rs rs' table table' lets lets' w t th at
        (λ l m entered wants. let off : Running n k ≡ Entered = sym running ∙ entered in cc) Act refl refl q is_sited
        (grips_by c t r.work.made (step_in c t k r.work store)) more (
          n,
          k,
          running,
          begins,
          λ i. record {
            store = changed i;
            output = output;
            threads =
                put_at t (new i) (threads_of c (program_of c).texts rs table.held);
          },
        )
        made_is trace_is rs_is lets_is

  -- what the next step in section n needs: where something is left to do, its node is one of the section's graph
  pub before_end : (n j : ℕ) → n < length (sections_of (program_of c).texts)
      → begins_step (rest_at (body_at c n) j) ≡ true → (g : List Node) → slice_get c.scheme.graphs.sections n ≡ Some g
      → j < length g
  before_end n j there begins g g_at = elim (cases_lt j (length g)) [
    | inl lt ↦ lt
    | inr past ↦ absurd (begins_on (rest_at (body_at c n) j) begins (at_end c w.compiled n g j there g_at past))
  ]

  -- and the key of the object that it makes next is free
  pub free_key : ((entry_of (key_of (Made t r.work.made)) table.entries).holders ≡ [])
      × ((entry_of (key_of (Made t r.work.made)) table.entries).waiters ≡ [])
  free_key =
      let s : State = state_of c store output rs table.held in
      let well = runs_are_well_kept c w.compiled fuel trace s w.run in
      let count = ap (λ (z : ThreadState). z.frame.work.made) (sym stands) ∙ kept.work.made in
      subst (λ n. ((entry_of (key_of (Made t n)) table.entries).holders ≡ [])
      × ((entry_of (key_of (Made t n)) table.entries).waiters ≡ [])) (sym count)
      (next_key_free c table s t well w.tabled (world_fits c fuel trace order store output rs table w))
