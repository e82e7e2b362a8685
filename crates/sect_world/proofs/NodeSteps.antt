-- A step of a thread at a node of its text's graph is the next step of what is still to run there.
use Rattle.std.proofs.Common.{rules, ◌≡◌, ◌<◌, ◌≤◌, ◌∷◌, ◌++◌, [], ℕ, true, false, List, Some, None}
use Rattle.std.proofs.Common.{Result, Ok, Err, IfOk, length, drop, refl, sym, ap, ◌∙◌, subst, arith, true≢false}
use Rattle.std.proofs.lemmas.List.{get_or-set_same, map-append}
use Rattle.std.proofs.lemmas.Option.{get_or_from_slice_get}
use Rattle.std.specs.Prelude.{slice_get, slice_index_or}
use Rattle.sect_types.specs.{declared.meaning.store.End.TheVariants.{Done}, declared.meaning.store.Fault.{Fault}}
use Rattle.sect_types.specs.{Environments.{Environment}, Programs.{ProgramView}, Sections.{sections_of}}
use Rattle.sect_types.specs.{Sound.{IsSound}, Statements.{TextView, Stop, Do, Choose, Loop, Section}, Store.{StoreView}}
use Rattle.sect_types.specs.Meaning.{WorkView, Next, On, Off, next, looks, found_at, begins_step, after_change}
use Rattle.sect_types.specs.Whole.{settled, failed, frame_after}
use Rattle.sect_lemmas.proofs.Places.{at_of}
use Rattle.sect_graph.specs.{declared.flow.Node.{Node}, declared.flow.Successors.{Successors}, Graphs.{IsGraphOf}}
use Rattle.sect_graph.specs.Rests.{Begins, rest_at}
use Rattle.sect_graph.proofs.shared.Rests.{past_end}
use Rattle.sect_table.specs.{declared.claims.Hold.{Hold}, Contents.{Contents, held_by, hold_of}}
use Rattle.sect_emit.specs.{declared.plan.Grip.{Grip}, Plan.{grip}, Compiled.{CompiledView, IsCompiled, program_of}}
use Rattle.sect_emit.specs.{State.{ThreadState, Running, Faulted}, Graphed.{text_at}}
use Rattle.sect_world.specs.{declared.runner.Phase.{Phase}, declared.runner.Runner.{Runner}}
use Rattle.sect_world.specs.{Events.{acting, changed_by}, Kept.{IsTextOf}, Waiting.{grips}}
use Rattle.sect_world.specs.Viewing.{body_in, body_at, thread_of}
use Rattle.sect_world.specs.steps.Moves.{Goes, IsStep, HoldsMore, StepsLocally, chosen, grips_by}
use Rattle.sect_world.proofs.LocalSteps.{local_looks, local_quiet, IsQuiet}
use Rattle.sect_world.specs.declared.runner.Phase.TheVariants as phase

-- a node that begins a step isn't a section
pub step_label : (rest : ℕ → TextView) (x : Node) (k : TextView) → begins_step k ≡ true → Begins rest x k
    → IsStep x.label
step_label rest x Stop e b = absurd b
step_label rest x (Do a r) e b = subst (λ (y : Node). IsStep y.label) (sym b.1) tt
step_label rest x (Choose t p q r) e b = subst (λ (y : Node). IsStep y.label) (sym b.2) tt
step_label rest x (Loop t p r) e b = subst (λ (y : Node). IsStep y.label) (sym b.2) tt
step_label rest x (Section i p r) e b = absurd (true≢false (sym e))

-- within a section nothing else begins
pub steps_within : (e : Environment) (rest : ℕ → TextView) (x : Node) (k : TextView) → IsSound e true k
    → Begins rest x k → begins_step k ≡ true
steps_within e rest x Stop sound b = absurd b
steps_within e rest x (Do a r) sound b = refl
steps_within e rest x (Choose t p q r) sound b = refl
steps_within e rest x (Loop t p r) sound b = refl
steps_within e rest x (Section i p r) sound b = absurd (true≢false sound.0)

-- something is left where a node begins it
pub not_stopped : (rest : ℕ → TextView) (x : Node) (k : TextView) → Begins rest x k → (w : WorkView)
    → settled k w ≡ record { text = k; work = w; ended = None }
not_stopped rest x Stop b w = absurd b
not_stopped rest x (Do a r) b w = refl
not_stopped rest x (Choose t p q r) b w = refl
not_stopped rest x (Loop t p r) b w = refl
not_stopped rest x (Section i p r) b w = refl

module _ (c : CompiledView) (is : IsCompiled c) where
  -- the nodes of a section's graph
  pub section_graph : (i : ℕ) → i < length (sections_of (program_of c).texts) → (g : List Node)
      → slice_get c.scheme.graphs.sections i ≡ Some g → IsGraphOf (body_at c i) g
  section_graph i within g at =
      let s = at_of (sections_of (program_of c).texts) i within in
      subst (λ z. IsGraphOf z g) (sym (ap body_in s.1)) (is.scheme.graphed.sections i s.0 g s.1 at)

  -- those of a thread's
  pub thread_graph : (t : ℕ) → t < length (program_of c).texts → (g : List Node)
      → slice_get c.scheme.graphs.threads t ≡ Some g → IsGraphOf (text_at c t) g
  thread_graph t within g at =
      let text = at_of (program_of c).texts t within in
      subst (λ z. IsGraphOf z g) (sym (get_or_from_slice_get (program_of c).texts t text.0 Stop text.1))
      (is.scheme.graphed.threads t text.0 g text.1 at)

  -- within a section each node is a statement or a test, which begins what is left there
  pub inside_step : (t i j : ℕ) (g : List Node) (x : Node) → i < length (sections_of (program_of c).texts)
      → slice_get c.scheme.graphs.sections i ≡ Some g → slice_get g j ≡ Some x
      → IsTextOf (program_of c) t true (rest_at (body_at c i) j)
      → Begins (rest_at (body_at c i)) x (rest_at (body_at c i) j) × (begins_step (rest_at (body_at c i) j) ≡ true)
  inside_step t i j g x within graph at text =
      let b = (section_graph i within g graph).running.begins j x at in
      (b, steps_within _ (rest_at (body_at c i)) x (rest_at (body_at c i) j) text.sound b)

  -- what is left past the last node of a thread, and before it
  pub at_exit : (t : ℕ) (g : List Node) (j : ℕ) → t < length (program_of c).texts
      → slice_get c.scheme.graphs.threads t ≡ Some g → length g ≤ j → rest_at (text_at c t) j ≡ Stop
  at_exit t g j within graph past =
      let is_graph = thread_graph t within g graph in
      past_end (text_at c t) j Stop (let n = is_graph.count in omega (arith, n))

  pub before_exit : (t : ℕ) (g : List Node) (j : ℕ) → t < length (program_of c).texts
      → slice_get c.scheme.graphs.threads t ≡ Some g → j < length g → (w : WorkView)
      → settled (rest_at (text_at c t) j) w ≡ record { text = rest_at (text_at c t) j; work = w; ended = None }
  before_exit t g j within graph before w =
      let x = at_of g j before in
      not_stopped (rest_at (text_at c t)) x.0 (rest_at (text_at c t) j)
      ((thread_graph t within g graph).running.begins j x.0 x.1) w

  -- the same within a section
  pub at_end : (i : ℕ) (g : List Node) (j : ℕ) → i < length (sections_of (program_of c).texts)
      → slice_get c.scheme.graphs.sections i ≡ Some g → length g ≤ j → rest_at (body_at c i) j ≡ Stop
  at_end i g j within graph past =
      let is_graph = section_graph i within g graph in
      past_end (body_at c i) j Stop (let n = is_graph.count in omega (arith, n))

-- a thread that comes to hold more
pub more_held : (t : ℕ) (gs : List Grip) (old new : Contents) → t < length old.held → HoldsMore t gs old new
    → grips (held_by new t) ≡ grips (held_by old t) ++ gs
more_held t [] old new within same = ap (λ (z : Contents). grips (held_by z t)) same ∙ sym (search rules)
more_held t (g ∷ []) old new within a =
    ap (λ z. grips (slice_index_or z t [])) a.0.1
    ∙ ap grips (get_or-set_same old.held t (held_by old t ++ hold_of g.key g.mode ∷ []) [] within)
    ∙ map-append (λ (z : Hold). grip z.key z.mode) (held_by old t) (hold_of g.key g.mode ∷ [])
more_held t (g ∷ h ∷ gs) old new within a = absurd a

-- where a thread in section i has come to
abbrev pub stage_by : ℕ → Result ℕ Fault → Phase
stage_by i (Ok m) = phase.Running i m
stage_by i (Err why) = phase.Faulted i why

-- what it is then
pub acted : (c : CompiledView) (t i : ℕ) (n : Next) (went : Result ℕ Fault) (text : TextView) (old : Runner)
    (v : WorkView) (s r : StoreView) (hs hs' : List Hold)
    → Goes (rest_at (body_at c i)) t s n went v r → grips hs' ≡ grips hs ++ grips_by c t old.work.made n
    → thread_of c text (record old { phase = stage_by i went; work = v }) hs' ≡ acting c t i n (thread_of c text old hs)
acted c t i (On k w change) (Ok m) text old v s r hs hs' goes held =
    let made : TextView → WorkView → List Grip → ThreadState = λ k' w' gs. record {
      position = Running i k';
      frame = record { text = rest_at text old.node; work = w'; ended = old.ended };
      wanted = drop old.taken old.wanted.items;
      held = gs;
    } in
    ap (λ z. made z v (grips hs')) goes.0 ∙ ap (λ z. made k z (grips hs')) goes.1 ∙ ap (made k w) held
acted c t i (On k w change) (Err f) text old v s r hs hs' goes held = absurd goes
acted c t i (Off why w) (Ok m) text old v s r hs hs' goes held = absurd goes
acted c t i (Off why w) (Err f) text old v s r hs hs' goes held =
    let made : Fault → WorkView → List Grip → ThreadState = λ f' w' gs. record {
      position = Faulted i f';
      frame = record { text = rest_at text old.node; work = w'; ended = old.ended };
      wanted = drop old.taken old.wanted.items;
      held = gs;
    } in
    ap (λ z. made z v (grips hs')) goes.0 ∙ ap (λ z. made why z (grips hs')) goes.1
    ∙ ap (made why w) (held ∙ search rules)

-- and the store
pub acted_store : (rest : ℕ → TextView) (t : ℕ) (s r : StoreView) (n : Next) (went : Result ℕ Fault) (v : WorkView)
    → Goes rest t s n went v r → r ≡ changed_by t n s
acted_store rest t s r (On k w change) (Ok m) v goes = goes.2
acted_store rest t s r (On k w change) (Err f) v goes = absurd goes
acted_store rest t s r (Off why w) (Ok m) v goes = absurd goes
acted_store rest t s r (Off why w) (Err f) v goes = goes.2

-- a step outside sections does what the next step of what is left does
pub steps_locally : (c : CompiledView) (t : ℕ) (e : Environment) (k : TextView) (w : WorkView) (s r : StoreView)
    (went : Result ℕ Fault) (v : WorkView) → IsSound e false k
    → Goes (rest_at (text_at c t)) t s (next (program_of c) t k (found_at s (looks k w)) w) went v r
    → StepsLocally c t k w s r went v
steps_locally c t e k w s r went v sound goes =
    by (next (program_of c) t k None w) went refl (local_quiet (program_of c) e t k w sound)
    (subst (λ n. Goes (rest_at (text_at c t)) t s n went v r) (sym (local_looks (program_of c) e t k w s sound)) goes)
  where
    by : (n : Next) (went : Result ℕ Fault) → next (program_of c) t k None w ≡ n → IsQuiet w n
        → Goes (rest_at (text_at c t)) t s n went v r → StepsLocally c t k w s r went v
    by (On l u change) (Ok m) is quiet g = record {
      store = g.2 ∙ ap (after_change t s) quiet.0;
      on = λ m' same. let here : m ≡ m' = cc in
          ap (λ j. settled (rest_at (text_at c t) j) v) (sym here) ∙ ap (λ z. settled z v) g.0 ∙ ap (settled l) g.1
          ∙ ap (frame_after k) (sym is);
      off = λ why same. absurd (let e : Ok m ≡ Err why = same in cc);
    }
    by (On l u change) (Err why) is quiet g = absurd g
    by (Off why u) (Ok m) is quiet g = absurd g
    by (Off why u) (Err f') is quiet g = record {
      store = g.2;
      on = λ m same. absurd (let e : Err f' ≡ Ok m = same in cc);
      off = λ why' same. let here : f' ≡ why' = cc in
          ap (λ z. failed z k v) (sym here) ∙ ap (λ z. failed z k v) g.0 ∙ ap (failed why k) g.1
          ∙ ap (frame_after k) (sym is);
    }

-- it goes on with what is left
pub settled_at_exit : (k : TextView) (w : WorkView) → k ≡ Stop
    → record { text = k; work = w; ended = Some Done } ≡ settled k w
settled_at_exit k w e = ap (λ z. record { text = z; work = w; ended = Some Done }) e ∙ ap (λ z. settled z w) (sym e)

-- after a section the thread goes on where its node leads
pub after_node : (rest : ℕ → TextView) (x : Node) (i : ℕ) (body k : TextView) (to : Successors) (n : ℕ)
    → Begins rest x (Section i body k) → x.next ≡ to → n ≡ chosen to true → rest n ≡ k
after_node rest x i body k to n b next is =
    ap rest (is ∙ ap (λ z. chosen z true) (sym next ∙ ap (λ (y : Node). y.next) b.1)) ∙ b.2

-- so of whatever running its node comes to
pub all_locally : (c : CompiledView) (t : ℕ) (e : Environment) (k : TextView) (w : WorkView) (s r : StoreView)
    (v : WorkView) (p : ProgramView) → p ≡ program_of c → IsSound e false k
    → (g : List Node) (j : ℕ) (x : Node) → slice_get g j ≡ Some x → Begins (rest_at (text_at c t)) x k
    → begins_step k ≡ true
    → {E : Type 0} (o : Result (Result ℕ Fault) E)
    → IfOk o (λ went. (rest : ℕ → TextView) (l : TextView) (y : Node) → slice_get g j ≡ Some y → Begins rest y l
    → begins_step l ≡ true
    → Goes rest t s (next p t l (found_at s (looks l w)) w) went v r)
    → IfOk o (λ went. StepsLocally c t k w s r went v)
all_locally c t e k w s r v p same sound g j x at b step (Ok went) does =
    steps_locally c t e k w s r went v sound
    (subst (λ q. Goes (rest_at (text_at c t)) t s (next q t k (found_at s (looks k w)) w) went v r) same
    (does (rest_at (text_at c t)) k x at b step))
all_locally c t e k w s r v p same sound g j x at b step (Err f) does = tt
