-- One step more of a stretch outside sections that is run apart.
use Rattle.std.proofs.Common.{◌≡◌, ℕ, zero, suc, ◌+◌, ◌<◌, List, [], ◌∷◌, Option, Some, None, true, Result, Ok, Err}
use Rattle.std.proofs.Common.{refl, sym}
use Rattle.std.proofs.Common.{ap, ◌∙◌, subst, add-one, slice_get, length}
use Rattle.sect_types.specs.{declared.meaning.store.Fault.{Fault}, declared.meaning.store.End.{End}}
use Rattle.sect_types.specs.declared.meaning.store.ObjectName.{ObjectName}
use Rattle.sect_types.specs.declared.meaning.store.ObjectName.TheVariants.{Global, Made}
use Rattle.sect_types.specs.{Statements.{TextView}, Store.{StoreView}, Whole.{settled, failed, frame_after}}
use Rattle.sect_types.specs.Meaning.{WorkView, Next, On, Off, next, found_at, looks, begins_step}
use Rattle.sect_graph.specs.{declared.flow.Node.{Node}, Rests.{Begins, rest_at}}
use Rattle.sect_emit.specs.{Compiled.{CompiledView, IsCompiled, program_of}, Graphed.{text_at}}
use Rattle.sect_world.specs.{declared.local_stretch.LocalStretch.{LocalStretch}, steps.Moves.{Goes, IsStep}}
use Rattle.sect_world.specs.Locals.{frame_at, IsAfterStep, IsLocalStretch, StepsOnce, Steps}
use Rattle.sect_world.proofs.{NodeSteps.{thread_graph}, Stretching.{step_begins}}

-- a store without objects
abbrev pub no_store : StoreView
no_store = record { globals = []; made = [] }

-- in which nothing is found
none_found : (o : Option ObjectName) → found_at no_store o ≡ None
none_found None = refl
none_found (Some (Global g)) = refl
none_found (Some (Made t n)) = refl

-- where the thread is after the step is where the step leads
after_frame : (c : CompiledView) (t j : ℕ) (s r : StoreView) (n : Next) (went : Result ℕ Fault) (v : WorkView) (at : ℕ)
    (e : Option End) → Goes (rest_at (text_at c t)) t s n went v r → IsAfterStep c t j went at e
    → frame_at c t at v e ≡ frame_after (rest_at (text_at c t) j) n
after_frame c t j s r (On k w change) (Ok m) v at e goes after =
    after v ∙ ap (λ z. settled z v) goes.0 ∙ ap (settled k) goes.1
after_frame c t j s r (On k w change) (Err why) v at e goes after = absurd goes
after_frame c t j s r (Off why w) (Ok m) v at e goes after = absurd goes
after_frame c t j s r (Off why w) (Err f) v at e goes after =
    after v ∙ ap (λ z. failed z (rest_at (text_at c t) j) v) goes.0 ∙ ap (failed why (rest_at (text_at c t) j)) goes.1

-- one step more
pub one_step_more : (c : CompiledView) → IsCompiled c → (a b : LocalStretch) (g : List Node) (x : Node)
    (went : Result ℕ Fault) (r : StoreView) → IsLocalStretch c a → a.ended ≡ None
    → slice_get c.scheme.graphs.threads a.thread ≡ Some g → slice_get g a.at ≡ Some x → IsStep x.label
    → ((rest : ℕ → TextView) (k : TextView) (y : Node) → slice_get g a.at ≡ Some y → Begins rest y k
    → begins_step k ≡ true
    → Goes rest a.thread no_store (next (program_of c) a.thread k (found_at no_store (looks k a.work)) a.work) went
    b.work r)
    → IsAfterStep c a.thread a.at went b.at b.ended
    → b.thread ≡ a.thread → b.node ≡ a.node → b.start ≡ a.start → b.steps ≡ a.steps + 1 → IsLocalStretch c b
one_step_more c is a b g x went r old alive graph at step goes after same_thread same_node same_start counted =
    let rest : ℕ → TextView = rest_at (text_at c a.thread) in
    let k : TextView = rest_at (text_at c a.thread) a.at in
    let begins : Begins rest x (rest_at (text_at c a.thread) a.at) =
    (thread_graph c is a.thread old.within g graph).running.begins a.at x at in
    let starts : begins_step (rest_at (text_at c a.thread) a.at) ≡ true =
    step_begins rest x (rest_at (text_at c a.thread) a.at) begins step in
    let frame = after_frame c a.thread a.at no_store r _ went b.work b.at b.ended (goes rest k x at begins starts)
    after in
    let same : frame_after k (next (program_of c) a.thread k (found_at no_store (looks k a.work)) a.work)
    ≡ frame_after k (next (program_of c) a.thread k None a.work) =
    ap (λ o. frame_after k (next (program_of c) a.thread k o a.work)) (none_found (looks k a.work)) in
    let before : Steps c a.thread a.steps a.node a.start a.at a.work None =
    subst (Steps c a.thread a.steps a.node a.start a.at a.work) alive old.steps in
    let once : StepsOnce c a.thread a.at a.work b.at b.work b.ended = (starts, frame ∙ same) in
    let all : Steps c a.thread (suc a.steps) a.node a.start b.at b.work b.ended = (a.at, a.work, before, once) in
    record {
      within = subst (λ t. t < length (program_of c).texts) (sym same_thread) old.within;
      steps = rw (same_thread, same_node, same_start, counted, add-one a.steps) all;
    }
