-- What a thread's next step does to the store, by the node at which it stands.
use Rattle.std.proofs.Common.{◌≡◌, ℕ, zero, suc, ◌+◌, ◌<◌, Bool, true, false, if◌then◌else◌, List, [], ◌∷◌, map, length}
use Rattle.std.proofs.Common.{Option, Some, None, option_map, inl, inr, refl, sym, ap, ◌∙◌, subst, arith}
use Rattle.std.proofs.lemmas.{Bool.{cases_lt}, Option.{get_or_from_slice_get, slice_get_past}}
use Rattle.std.specs.Prelude.{slice_index_or}
use Rattle.sect_lemmas.proofs.Places.{at_of}
use Rattle.sect_front.specs.declared.tree.Operator.{Operator}
use Rattle.sect_types.specs.{declared.expansion.action.Condition.{Condition}, declared.expansion.action.Value.{Value}}
use Rattle.sect_types.specs.{declared.expansion.action.Action.{Action}, declared.expansion.action.Base.{Base}}
use Rattle.sect_types.specs.{declared.expansion.action.Field.{Field}, Programs.{ProgramView}, Store.{ObjectView}}
use Rattle.sect_types.specs.declared.meaning.store.Datum.TheVariants.{Number}
use Rattle.sect_types.specs.{Statements.{TextView, Stop, Do, Choose, Loop, Section}, Store.{StoreView}}
use Rattle.sect_types.specs.Sections.{SectionView, sections_of}
use Rattle.sect_types.specs.Meaning.{WorkView, Change, Unchanged, Added, Came, Went, Fell, going, taken, paid, one}
use Rattle.sect_types.specs.Meaning.{found_at, looked, done, loaded, stored, assigned, fresh, fits, result_of}
use Rattle.sect_types.specs.Meaning.{integer_of, value_datum, base_datum, name_in, first_datum}
use Rattle.sect_graph.specs.{declared.flow.Node.{Node}, Graphs.{IsGraphOf}, Layout.{flow_nodes}}
use Rattle.sect_graph.specs.Rests.{Begins, rest_at}
use Rattle.sect_graph.proofs.shared.Rests.{past_end}
use Rattle.sect_emit.specs.{Compiled.{CompiledView, IsCompiled, program_of}, Graphed.{graphed_nodes, graphed_text}}
use Rattle.sect_emit.specs.State.{Position, Running, Faulted, ThreadState, State, IsThread}
use Rattle.sect_types.specs.declared.meaning.store.Fault.{Fault}
use Rattle.sect_world.specs.{Events.{step_in}, Sights.{work_in}, Standings.{IsBetween, IsStanding}}
use Rattle.sect_world.specs.declared.standing.Standing.{Standing}
use Rattle.sect_world.specs.declared.standing.Standing.TheVariants.{At, Broken}
use Rattle.sect_types.specs.declared.declarations.types.ValueType.{ValueType}
use Rattle.sect_types.specs.declared.meaning.store.ObjectName.{ObjectName}
use Rattle.sect_json.specs.{Values.{by_place}, Changes.{placed_json, change_of, change_at, change_in, next_change}}
use Rattle.sect_json.specs.steps.Changing.{first_json, action_in, node_action, standing_action}
use Rattle.sect_json.specs.steps.Changing.{action_change, came_change, IsNextAction}
use Rattle.sect_emit.specs.declared.graphs.GraphOf.TheVariants as graphed
use Rattle.sect_types.specs.declared.expansion.action.Action.TheVariants as action
use Rattle.sect_types.specs.declared.meaning.store.Fault.TheVariants as fault

-- the fields of an object that is just made
pub by_place_map : (p : ProgramView) (o : ObjectName) (names : List (List ℕ)) (n : ℕ) (types : List ValueType)
    → by_place (first_json p o names) n types ≡ by_place (placed_json p o names) n (map first_datum types)
by_place_map p o names n [] = refl
by_place_map p o names n (t ∷ types) =
    ap (λ ds. placed_json p o names n (first_datum t) ∷ ds) (by_place_map p o names (n + 1) types)

going_change : (rest : TextView) (m : Came) → change_of (going rest m) ≡ came_change m
going_change rest (Went w change) = refl
going_change rest (Fell why w) = refl

-- a test changes nothing
tests_nothing : (n : ℕ) (d : Condition) (p q : TextView) (w : WorkView) → change_of (taken n d p q w) ≡ Unchanged
tests_nothing zero d p q w = refl
tests_nothing (suc n) d p q w = refl

module _ (c : CompiledView) (t : ℕ) (w : WorkView) (s : StoreView) where
  -- what a node begins does what its statement does
  begun : (rest : ℕ → TextView) (x : Node) (k : TextView) → Begins rest x k
      → change_of (step_in c t k w s) ≡ action_change (program_of c) t s w (action_in (Some x.label))
  begun rest x Stop b = absurd b
  begun rest x (Do a r) b =
      going_change r (one (program_of c) t a (found_at s (looked a w.locals)) w)
      ∙ sym (ap (λ (y : Node). action_change (program_of c) t s w (action_in (Some y.label))) b.1)
  begun rest x (Choose d p q r) b =
      tests_nothing w.fuel d _ _ w
      ∙ sym (ap (λ (y : Node). action_change (program_of c) t s w (action_in (Some y.label))) b.2)
  begun rest x (Loop d p r) b =
      tests_nothing w.fuel d _ _ w
      ∙ sym (ap (λ (y : Node). action_change (program_of c) t s w (action_in (Some y.label))) b.2)
  begun rest x (Section i p r) b =
      sym (ap (λ (y : Node). action_change (program_of c) t s w (action_in (Some y.label))) b.1)

  -- outside sections nothing changes, nor where a fault has broken one off
  between_none : (p : Position) → IsBetween p → change_at c t s w p ≡ Unchanged
  between_none p (inl is) = ap (change_at c t s w) is
  between_none p (inr is) = ap (change_at c t s w) is

-- where fuel is left, one unit of it is paid
paid_on : (n : ℕ) (w : WorkView) (go : WorkView → Came) → 0 < n → (m : ℕ) × (paid n w go ≡ go (record w { fuel = m }))
paid_on zero w go some = absurd (omega (arith, some))
paid_on (suc n) w go some = (n, refl)

either_nothing : (b : Bool) (x y : Came) → came_change x ≡ Unchanged → came_change y ≡ Unchanged
    → came_change (if b then x else y) ≡ Unchanged
either_nothing true x y e f = e
either_nothing false x y e f = f

loads_nothing : (x f : ℕ) (found : Option ObjectView) (w : WorkView) → came_change (loaded x f found w) ≡ Unchanged
loads_nothing x f None w = refl
loads_nothing x f (Some o) w = refl

module _ (p : ProgramView) (t : ℕ) (s : StoreView) (w : WorkView) where
  -- where no fuel is left nothing is done
  pub without_fuel : (a : Action) → w.fuel ≡ 0 → Unchanged ≡ action_change p t s w (Some a)
  without_fuel a none =
      sym (ap (λ n. came_change (paid n w (done p t a (found_at s (looked a w.locals))))) none)

  module _ (some : 0 < w.fuel) where
    came_by : (a : Action) → (m : ℕ) × (action_change p t s w (Some a)
        ≡ came_change (done p t a (found_at s (looked a w.locals)) (record w { fuel = m })))
    came_by a =
        let q = paid_on w.fuel w (done p t a (found_at s (looked a w.locals))) some in (q.0, ap came_change q.1)

    -- what each statement does
    pub assigns : (x : ℕ) (v : Value) → Unchanged ≡ action_change p t s w (Some (action.Assign x v))
    assigns x v = sym (came_by (action.Assign x v)).1

    pub computes : (x : ℕ) (v : Value) (o : Operator) (u : Value)
        → Unchanged ≡ action_change p t s w (Some (action.Compute x v o u))
    computes x v o u =
        let a = came_by (action.Compute x v o u) in
        let n = result_of o (integer_of (value_datum w.locals v)) (integer_of (value_datum w.locals u)) in
        sym (a.1 ∙ either_nothing (fits n) (Went (assigned x (Number n) (record w { fuel = a.0 })) Unchanged)
        (Fell fault.Overflow (record w { fuel = a.0 })) refl refl)

    pub makes : (x r site : ℕ)
        → Added (fresh site (slice_index_or p.records r [])) ≡ action_change p t s w (Some (action.New x r site))
    makes x r site = sym (came_by (action.New x r site)).1

    pub loads : (x : ℕ) (b : Base) (f : Field) → Unchanged ≡ action_change p t s w (Some (action.Load x b f))
    loads x b f =
        let a = came_by (action.Load x b f) in
        let found = found_at s (looked (action.Load x b f) w.locals) in
        sym (a.1 ∙ loads_nothing x f.number found (record w { fuel = a.0 }))

    pub stores : (b : Base) (f : Field) (v : Value) (told : Change) → ((u : WorkView) → told
        ≡ came_change (stored f.number (value_datum w.locals v) (name_in (base_datum w.locals b)) u))
        → told ≡ action_change p t s w (Some (action.Store b f v))
    stores b f v told is = let a = came_by (action.Store b f v) in is (record w { fuel = a.0 }) ∙ sym a.1

    pub prints : (v : Value) → Unchanged ≡ action_change p t s w (Some (action.Print v))
    prints v = sym (came_by (action.Print v)).1

-- the graph of a section
section_graph : (c : CompiledView) → IsCompiled c → (i : ℕ) → i < length (sections_of (program_of c).texts)
    → IsGraphOf (graphed_text c (graphed.Section i)) (graphed_nodes c (graphed.Section i))
section_graph c is i there =
    let all = sections_of (program_of c).texts in
    let x = at_of all i there in
    let own = ap (λ (z : SectionView). z.body)
    (get_or_from_slice_get all i x.0 (record { thread = 0; body = Stop }) x.1) in
    let graphs = is.scheme.graphed in
    let g = at_of c.scheme.graphs.sections i (omega (arith, graphs.section_count, there)) in
    let shown = graphs.sections i x.0 g.0 x.1 g.1 in
    subst (λ k. IsGraphOf k (flow_nodes k)) (sym own) (subst (IsGraphOf x.0.body) shown.nodes shown)

module _ (c : CompiledView) (s : State) (t : ℕ) (th : ThreadState) (here : IsThread s t th) where
  at_thread : next_change c s t ≡ change_at c t s.store th.frame.work th.position
  at_thread = ap (change_in c s t) here

  -- a thread in a section does what the statement does at whose node it stands
  in_section : IsCompiled c → (i n : ℕ) → i < length (sections_of (program_of c).texts)
      → th.position ≡ Running i (rest_at (graphed_text c (graphed.Section i)) n)
      → IsNextAction c s t (node_action c (graphed.Section i) n)
  in_section is i n there stands =
      let of = graphed.Section i in
      let text = graphed_text c of in
      let g = section_graph c is i there in
      let step = at_thread ∙ ap (change_at c t s.store th.frame.work) stands in
      let act = λ (w : WorkView). action_change (program_of c) t s.store w (node_action c of n) in
      step ∙ (elim (cases_lt n (length (graphed_nodes c of))) [
        | inl lt ↦ let x = at_of (graphed_nodes c of) n lt in
            begun c t th.frame.work s.store (rest_at text) x.0 (rest_at text n) (g.running.begins n x.0 x.1)
            ∙ sym (ap (λ o. action_change (program_of c) t s.store th.frame.work
            (action_in (option_map (λ (y : Node). y.label) o))) x.1)
        | inr past ↦
            ap (λ k. change_of (step_in c t k th.frame.work s.store))
            (past_end text n Stop (let m = g.count in omega (arith, m, past)))
            ∙ sym (ap (λ o. action_change (program_of c) t s.store th.frame.work
            (action_in (option_map (λ (y : Node). y.label) o))) (slice_get_past (graphed_nodes c of) n past))
      ] ∙ sym (ap act (ap work_in here)))

  -- between sections nothing changes
  in_between : IsBetween th.position → IsNextAction c s t None
  in_between between = at_thread ∙ between_none c t th.frame.work s.store th.position between

  in_fault : (i : ℕ) (why : Fault) → th.position ≡ Faulted i why → IsNextAction c s t None
  in_fault i why is = at_thread ∙ ap (change_at c t s.store th.frame.work) is

-- the next step does what the statement does at which the thread stands
pub stands_so : (c : CompiledView) (s : State) (t : ℕ) (d : Standing) → IsCompiled c → IsStanding c s t d
    → IsNextAction c s t (standing_action c d)
stands_so c s t (At (graphed.Thread u) n) is st = in_between c s t st.thread st.is st.stands.1
stands_so c s t (At (graphed.Section i) n) is st = in_section c s t st.thread st.is is i n st.there st.stands
stands_so c s t (Broken why) is st = in_fault c s t st.thread st.is st.stands.0 why st.stands.1
