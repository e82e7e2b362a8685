-- What a loose run comes to a run of the machine comes to: each thread enters, takes its keys and begins in one piece.
use Rattle.std.proofs.Common.{true≢false, ◌≡◌, ◌≢◌, ◌<◌, ◌⊎◌, inl, inr, ◌++◌, ◌∙◌, refl, sym, ap, subst, ℕ, zero, suc}
use Rattle.std.proofs.Common.{Bool, true, false, List, [], ◌∷◌, length, map, Option, Some, None, if◌then◌else◌}
use Rattle.std.proofs.lemmas.List.{append-nil, append_assoc}
use Rattle.std.specs.Prelude.{⊤, ℤ, slice_get}
use Rattle.sect_lemmas.specs.{Lists.{Has, put_at}, Numbers.{same_number}}
use Rattle.sect_lemmas.proofs.{Options.{some_injective, none_or_some}, Replaced.{put_same, put_other, at-put_at}}
use Rattle.sect_lemmas.proofs.Replaced.{slice_get-map}
use Rattle.sect_lemmas.proofs.Replaced.{same_number-refl, same_number-false, same_number-true, same_number-eq}
use Rattle.sect_types.specs.{declared.meaning.store.Fault.{Fault}}
use Rattle.sect_types.specs.{Statements.{TextView, Section}, Store.{StoreView}}
use Rattle.sect_types.specs.Meaning.{WorkView, Next, On, Off, begins_step}
use Rattle.sect_types.specs.Whole.{FrameView, RunsWhole, local_step, first_frames}
use Rattle.sect_modes.specs.{declared.mode.Mode.{Mode}, declared.key.Key.{Key}, Mode.{are_compatible, is_at_least}}
use Rattle.sect_conflicts.proofs.shared.Stronger.{both_stronger}
use Rattle.sect_emit.specs.{declared.plan.Grip.{Grip}, Plan.{grip, is_met, held_mode}}
use Rattle.sect_emit.specs.{Compiled.{CompiledView, IsCompiled, AreSetsLeast, program_of}, Pointed.{ObjectsStay}}
use Rattle.sect_emit.specs.State.{Position, Outside, Entered, Running, ThreadState, State, IsThread, outside, plan_at}
use Rattle.sect_emit.specs.State.{start, with_thread}
use Rattle.sect_emit.proofs.shared.{Plans.{mode_is_there}, Modes.{sharing_turned, met_mode}}
use Rattle.sect_emit.proofs.shared.Grips.{held_append}
use Rattle.sect_world.specs.{declared.event.Event.{Event}, declared.event.Deed.{Deed}, Secured.{Good}}
use Rattle.sect_world.specs.Together.{taken, taken_after, taken_by}
use Rattle.sect_conflicts.specs.Laws.{IsSectionOver, PlansNeverClash}
use Rattle.sect_world.specs.Events.{Happens, all_but, lets_in, acting, changed_by, step_in, grips_of}
use Rattle.sect_world.specs.Events.{beginning, with_frame, frame_out, IsFree, IsOver, giving_back}
use Rattle.sect_world.specs.{Runs.{IsRun, leaver, order_of}, Kept.{IsWellKept, IsPlaced, AreCompatible}}
use Rattle.sect_world.specs.Loose.{LooseDeed, Local, Hold, Begin, Act, Leave, LooseEvent, MayHold, MayBeLeftOut}
use Rattle.sect_world.specs.Loose.{Covers, holding, MayLoosely, LooselyRunsTo}
use Rattle.sect_world.specs.Loose.{loose_leaver, loose_order_of, places_of, EveryLooseRunIsStrict}
use Rattle.sect_world.specs.Loose.{EveryLooseRunIsSerial, LookedPathsStay, IsOnTheWay, IsNeededPath}
use Rattle.sect_world.proofs.{Claims.{all_but_of, lets_of}, KeptStates.{runs_are_well_kept}, Closing.{runs_are_serial}}
use Rattle.sect_world.proofs.LoneSteps.{put_twice, put_back, meets_itself}
use Rattle.sect_world.proofs.{LongerRuns.{run_on, order_of-more}, GoodRuns.{runs_are_good}}
use Rattle.sect_world.proofs.OwnObjects.{all_keep, plan_unasked, way_stays}
use Rattle.sect_world.proofs.{GoodRuns.{good_holds_enough}, AllowedChanges.{IsAllowed, asked_is_allowed}}
use Rattle.sect_world.proofs.StepChanges.{change_is_asked}
use Rattle.sect_world.specs.{Held.{next_access}, Accesses.{change_in, Asks}}
use Rattle.sect_types.specs.{declared.expansion.action.Field.{Field}, Meaning.{found_at, looks}}
use Rattle.sect_points.specs.Paths.{PathView, var, dot}
use Rattle.sect_names.specs.{Along.{GoesBy}}
use Rattle.sect_emit.specs.Plan.{path_datum}
use Rattle.sect_world.proofs.{AllowedChanges.{sites_stay}, KeptPointed.{pointed_thread, its_section}}
use Rattle.sect_world.specs.declared.event.Deed.TheVariants as deed

-- the thread with these keys, wanting nothing
abbrev pub with_keys : List Grip → ThreadState → ThreadState
with_keys keys th = record { position = th.position; frame = th.frame; wanted = []; held = keys }

-- the threads, each with its own keys
abbrev pub shadow : (ℕ → List Grip) → List ThreadState → List ThreadState
shadow keys [] = []
shadow keys (th ∷ ths) = with_keys (keys 0) th ∷ shadow (λ n. keys (suc n)) ths

abbrev pub strict : (ℕ → List Grip) → State → State
strict keys s = record { store = s.store; output = s.output; threads = shadow keys s.threads }

-- the keys of thread t are these
abbrev pub keys_with : ℕ → List Grip → (ℕ → List Grip) → ℕ → List Grip
keys_with t mine keys u = if same_number t u then mine else keys u

shadow_put : (t : ℕ) (mine : List Grip) (keys : ℕ → List Grip) (th : ThreadState) (ths : List ThreadState)
    → put_at t (with_keys mine th) (shadow keys ths) ≡ shadow (keys_with t mine keys) (put_at t th ths)
shadow_put t mine keys th [] = refl
shadow_put zero mine keys th (x ∷ ths) = refl
shadow_put (suc t) mine keys th (x ∷ ths) =
    ap (λ z. with_keys (keys 0) x ∷ z) (shadow_put t mine (λ n. keys (suc n)) th ths)

shadow_at : (t : ℕ) (keys : ℕ → List Grip) (th : ThreadState) (ths : List ThreadState) → slice_get ths t ≡ Some th
    → slice_get (shadow keys ths) t ≡ Some (with_keys (keys t) th)
shadow_at t keys th [] at = absurd (none_or_some th at)
shadow_at zero keys th (x ∷ ths) at = ap (λ z. Some (with_keys (keys 0) z)) (some_injective x th at)
shadow_at (suc t) keys th (x ∷ ths) at = shadow_at t (λ n. keys (suc n)) th ths at

-- whose shadow a thread is
shadow_of : (t : ℕ) (keys : ℕ → List Grip) (own : ThreadState) (ths : List ThreadState)
    → slice_get (shadow keys ths) t ≡ Some own
    → (th : ThreadState) × (slice_get ths t ≡ Some th) × (with_keys (keys t) th ≡ own)
shadow_of t keys own [] at = absurd (none_or_some own at)
shadow_of zero keys own (x ∷ ths) at = (x, refl, some_injective (with_keys (keys 0) x) own at)
shadow_of (suc t) keys own (x ∷ ths) at = shadow_of t (λ n. keys (suc n)) own ths at

shadow_start : (fs : List FrameView) → shadow (λ n. []) (map outside fs) ≡ map outside fs
shadow_start [] = refl
shadow_start (f ∷ fs) = ap (λ z. outside f ∷ z) (shadow_start fs)

shadow_places : (keys : ℕ → List Grip) (ths : List ThreadState) → places_of (shadow keys ths) ≡ places_of ths
shadow_places keys [] = refl
shadow_places keys (th ∷ ths) =
    ap (λ z. record { position = th.position; frame = th.frame } ∷ z) (shadow_places (λ n. keys (suc n)) ths)

shadow_ends : (keys : ℕ → List Grip) (ths : List ThreadState)
    → map (λ (th : ThreadState). th.frame.ended) (shadow keys ths) ≡ map (λ (th : ThreadState). th.frame.ended) ths
shadow_ends keys [] = refl
shadow_ends keys (th ∷ ths) = ap (λ z. th.frame.ended ∷ z) (shadow_ends (λ n. keys (suc n)) ths)

-- a run comes to this state; sections have been left in this order; and this is what the threads have taken
pub record Came (c : CompiledView) (fuel : ℕ) (order : List ℕ) (s : State) (took : ℕ → List Grip) : Type 0 where
  pub trace : List Event
  pub run : IsRun c fuel trace s
  pub ordered : order_of trace ≡ order
  pub takes : (u : ℕ) → taken u trace ≡ took u

taken-append : (u : ℕ) (es fs : List Event) (gs : List Grip)
    → taken_after u (es ++ fs) gs ≡ taken_after u fs (taken_after u es gs)
taken-append u [] fs gs = refl
taken-append u (e ∷ es) fs gs = taken-append u es fs (if same_number e.thread u then taken_by e.deed gs else gs)

-- thread t does this, and has taken these then
came_next : (c : CompiledView) (fuel : ℕ) (order : List ℕ) (s after : State) (took : ℕ → List Grip) (t : ℕ)
    (gs mine : List Grip) (d : Deed) → Came c fuel order s (keys_with t gs took)
    → Happens c s (record { thread = t; deed = d }) after → taken_by d gs ≡ mine
    → Came c fuel (order ++ leaver t d) after (keys_with t mine took)
came_next c fuel order s after took t gs mine d came happens gains = record {
  trace = came.trace ++ e ∷ [];
  run = run_on c fuel came.trace s after e came.run happens;
  ordered = order_of-more came.trace e ∙ ap (λ os. os ++ leaver t d) came.ordered;
  takes = λ u. taken-append u came.trace (e ∷ []) [] ∙ by u (same_number t u) refl;
} where
  e : Event
  e = record { thread = t; deed = d }

  by : (u : ℕ) (b : Bool) → same_number t u ≡ b
      → (if b then taken_by d (taken u came.trace) else taken u came.trace) ≡ (if b then mine else took u)
  by u true is = ap (taken_by d) (came.takes u ∙ ap (λ b. if b then gs else took u) is) ∙ gains
  by u false is = came.takes u ∙ ap (λ b. if b then gs else took u) is

-- a deed that is no leaving
came_on : (c : CompiledView) (fuel : ℕ) (order : List ℕ) (s after : State) (took : ℕ → List Grip) (t : ℕ)
    (gs mine : List Grip) (d : Deed) → Came c fuel order s (keys_with t gs took)
    → Happens c s (record { thread = t; deed = d }) after → taken_by d gs ≡ mine → leaver t d ≡ []
    → Came c fuel order after (keys_with t mine took)
came_on c fuel order s after took t gs mine d came happens gains none =
    subst (λ os. Came c fuel os after (keys_with t mine took))
    (ap (λ os. order ++ os) none ∙ append-nil order)
    (came_next c fuel order s after took t gs mine d came happens gains)

came_itself : (c : CompiledView) (fuel : ℕ) (order : List ℕ) (s : State) (took : ℕ → List Grip) (t : ℕ)
    → Came c fuel order s took → Came c fuel order s (keys_with t (took t) took)
came_itself c fuel order s took t came = record {
  trace = came.trace;
  run = came.run;
  ordered = came.ordered;
  takes = λ u. came.takes u ∙ by u (same_number t u) refl;
} where
  by : (u : ℕ) (b : Bool) → same_number t u ≡ b → took u ≡ (if b then took t else took u)
  by u true is = ap took (sym (same_number-true t u is))
  by u false is = refl

-- each of these keys is of the plan that a section of thread u had in an earlier state
pub record IsAskedBy (c : CompiledView) (u : ℕ) (store : StoreView) (g : Grip) : Type 0 where
  pub section : ℕ
  pub before : StoreView
  pub work : WorkView
  pub over : IsSectionOver c section before work
  pub own : over.section.thread ≡ u
  pub stay : ObjectsStay before store
  pub has : Has (plan_at c section before work.locals) g

-- of a loose state: a run of the machine comes to the same with fewer keys; what its threads have taken is covered, and
-- of their plans
pub record Follows (c : CompiledView) (fuel : ℕ) (order : List ℕ) (s : State) : Type 0 where
  pub keys : ℕ → List Grip
  pub took : ℕ → List Grip
  pub reached : Came c fuel order (strict keys s) took
  pub covered : (u : ℕ) (th : ThreadState) → IsThread s u th → Covers c u s.store th.held (took u)
  pub asked : (u : ℕ) (g : Grip) → Has (took u) g → IsAskedBy c u s.store g
  pub idle : (u : ℕ) (th : ThreadState) → IsThread s u th → th.position ≡ Outside → took u ≡ []
  pub compatible : AreCompatible s

stays_on : (a b d : StoreView) → ObjectsStay a b → ObjectsStay b d → ObjectsStay a d
stays_on a b d f g o x at = let y = f o x at in let z = g o y.0 y.1 in (z.0, z.1, z.2 ∙ y.2)

covers_on : (c : CompiledView) (t : ℕ) (before now : StoreView) (held wanted : List Grip) → ObjectsStay before now
    → Covers c t before held wanted → Covers c t now held wanted
covers_on c t before now held wanted stay covers k m e = by (covers k m e) where
  by : (is_met (held_mode k held) m ≡ true) ⊎ MayBeLeftOut c t before k m
      → (is_met (held_mode k held) m ≡ true) ⊎ MayBeLeftOut c t now k m
  by (inl met) = inl met
  by (inr out) = inr (λ j earlier later w over other mine theirs.
      out j earlier later w over other (stays_on before now later stay mine) theirs)

asked_on : (c : CompiledView) (u : ℕ) (before now : StoreView) (g : Grip) → ObjectsStay before now
    → IsAskedBy c u before g → IsAskedBy c u now g
asked_on c u before now g stay a = record {
  section = a.section;
  before = a.before;
  work = a.work;
  over = a.over;
  own = a.own;
  stay = stays_on a.before before now a.stay stay;
  has = a.has;
}

covers_nothing : (c : CompiledView) (t : ℕ) (store : StoreView) (held : List Grip) → Covers c t store held []
covers_nothing c t store held k m e = absurd e

-- two modes of which stronger ones are compatible
weaker_share : (a b m n : Mode) → is_at_least a m ≡ true → is_at_least b n ≡ true → are_compatible a b ≡ true
    → are_compatible m n ≡ true
weaker_share a b m n e f share = by (are_compatible m n) refl where
  by : (x : Bool) → are_compatible m n ≡ x → are_compatible m n ≡ true
  by true is = is
  by false is = absurd (true≢false (sym share ∙ both_stronger a b m n e f is))

-- what goes by a beginning of a path goes by the path
goes_on : (p r q : PathView) (h g : Field) → GoesBy p r h → GoesBy r q g → GoesBy p q g
goes_on (var v) r q h g later goes = absurd later
goes_on (dot e k) r q h g (inl (is, same)) goes = inr (subst (λ z. GoesBy z q g) is goes)
goes_on (dot e k) r q h g (inr later) goes = inr (goes_on e r q h g later goes)

module _ (c : CompiledView) (ok : IsCompiled c) (least : AreSetsLeast c) (never : PlansNeverClash c) (fuel : ℕ)
    (order : List ℕ) (s : State) (f : Follows c fuel order s) (t : ℕ) (th : ThreadState) (at : IsThread s t th) where
  abbrev own : ThreadState
  own = with_keys (f.keys t) th

  own_at : IsThread (strict f.keys s) t own
  own_at = shadow_at t f.keys th s.threads at

  good : Good c (strict f.keys s)
  good = runs_are_good c ok fuel f.reached.trace (strict f.keys s) f.reached.run

  kept : IsWellKept c (strict f.keys s)
  kept = good.kept

  -- outside a section it holds nothing in the strict run
  no_keys : th.position ≡ Outside → f.keys t ≡ []
  no_keys out = by th.position out (kept.threads t own own_at).asks where
    by : (p : Position) → p ≡ Outside → IsPlaced p own → f.keys t ≡ []
    by p e placed = (subst (λ q. IsPlaced q own) e placed).0

  begins_here : Came c fuel order (strict f.keys s) (keys_with t (f.took t) f.took)
  begins_here = came_itself c fuel order (strict f.keys s) f.took t f.reached

  -- thread t has become `new`, with those keys in the strict run, of which it has taken these
  goes : (order' : List ℕ) (store : StoreView) (output : List ℤ) (new : ThreadState) (mine gains : List Grip)
      → Came c fuel order' (record {
        store = store;
        output = output;
        threads = put_at t (with_keys mine new) (shadow f.keys s.threads);
      }) (keys_with t gains f.took)
      → ObjectsStay s.store store → Covers c t store new.held gains
      → ((g : Grip) → Has gains g → IsAskedBy c t store g) → (new.position ≡ Outside → gains ≡ [])
      → MayHold s t new.held → Follows c fuel order' (record { store = store; output = output; threads = put_at t new s.threads })
  goes order' store output new mine gains reached stay covers asks rests may = record {
    keys = keys_with t mine f.keys;
    took = keys_with t gains f.took;
    reached = subst (λ ths. Came c fuel order' (record { store = store; output = output; threads = ths })
        (keys_with t gains f.took)) (shadow_put t mine f.keys new s.threads) reached;
    covered = λ u other there. cover u other (at-put_at t u new other s.threads there);
    asked = λ u g has. ask u g (same_number t u) refl has;
    idle = λ u other there out. rest u other (at-put_at t u new other s.threads there) out;
    compatible = λ u v one other k m n apart is_one is_other e g.
        go u v one other k m n apart (at-put_at t u new one s.threads is_one)
        (at-put_at t v new other s.threads is_other) e g;
  } where
    cover : (u : ℕ) (other : ThreadState) → ((t ≡ u) × (new ≡ other)) ⊎ ((t ≢ u) × (slice_get s.threads u ≡ Some other))
        → Covers c u store other.held (keys_with t gains f.took u)
    cover u other (inl (here, is)) =
        subst (λ v. Covers c v store other.held (keys_with t gains f.took v)) here
        (subst (λ x. Covers c t store x.held (keys_with t gains f.took t)) is
        (subst (λ b. Covers c t store new.held (if b then gains else f.took t)) (sym (same_number-refl t)) covers))
    cover u other (inr (apart, there)) =
        subst (λ b. Covers c u store other.held (if b then gains else f.took u)) (sym (same_number-false t u apart))
        (covers_on c u s.store store other.held (f.took u) stay (f.covered u other there))

    rest : (u : ℕ) (other : ThreadState) → ((t ≡ u) × (new ≡ other)) ⊎ ((t ≢ u) × (slice_get s.threads u ≡ Some other))
        → other.position ≡ Outside → keys_with t gains f.took u ≡ []
    rest u other (inl (here, is)) out =
        ap (λ b. if b then gains else f.took u) (same_number-eq t u here)
        ∙ rests (ap (λ (x : ThreadState). x.position) is ∙ out)
    rest u other (inr (apart, there)) out =
        ap (λ b. if b then gains else f.took u) (same_number-false t u apart) ∙ f.idle u other there out

    ask : (u : ℕ) (g : Grip) (b : Bool) → same_number t u ≡ b → Has (if b then gains else f.took u) g
        → IsAskedBy c u store g
    ask u g true is has = subst (λ v. IsAskedBy c v store g) (same_number-true t u is) (asks g has)
    ask u g false is has = asked_on c u s.store store g stay (f.asked u g has)

    go : (u v : ℕ) (one other : ThreadState) (k : Key) (m n : Mode) → u ≢ v
        → ((t ≡ u) × (new ≡ one)) ⊎ ((t ≢ u) × (slice_get s.threads u ≡ Some one))
        → ((t ≡ v) × (new ≡ other)) ⊎ ((t ≢ v) × (slice_get s.threads v ≡ Some other))
        → held_mode k one.held ≡ Some m → held_mode k other.held ≡ Some n → are_compatible m n ≡ true
    go u v one other k m n apart (inl (a, x)) (inl (b, y)) e g = absurd (apart (sym a ∙ b))
    go u v one other k m n apart (inl (a, x)) (inr (b, y)) e g =
        may v other k m n b y (ap (λ z. held_mode k z.held) x ∙ e) g
    go u v one other k m n apart (inr (a, x)) (inl (b, y)) e g =
        sharing_turned m n ∙ may u one k n m a x (ap (λ z. held_mode k z.held) y ∙ g) e
    go u v one other k m n apart (inr (a, x)) (inr (b, y)) e g = f.compatible u v one other k m n apart x y e g

  same_stays : ObjectsStay s.store s.store
  same_stays o x there = (x, there, refl)

  -- what it holds goes with the others
  holds_well : MayHold s t th.held
  holds_well u other k m n apart there e g = f.compatible t u th other k m n apart at there e g

  -- the state in which it is another
  abbrev changed : ThreadState → State
  changed new = with_thread t new (strict f.keys s)

  -- it goes on from one to the next
  changes : (new next : ThreadState) → with_thread t next (strict f.keys s) ≡ with_thread t next (changed new)
  changes new next = ap (λ ths. record { store = s.store; output = s.output; threads = ths })
      (sym (put_twice t new next (shadow f.keys s.threads)))

  changed_at : (new : ThreadState) → IsThread (changed new) t new
  changed_at new = put_same t own new (shadow f.keys s.threads) own_at

  -- it stands before a section, and these keys of its plan it holds or leaves out
  module _ (i : ℕ) (body rest : TextView) (out : th.position ≡ Outside) (text : th.frame.text ≡ Section i body rest)
      (near : Key → Type 0)
      (covers : (k : Key) (m : Mode) → Has (plan_at c i s.store th.frame.work.locals) (grip k m) → near k
      → (is_met (held_mode k th.held) m ≡ true) ⊎ MayBeLeftOut c t s.store k m) where
    abbrev plan_near : List Grip
    plan_near = plan_at c i s.store th.frame.work.locals

    over_now : IsSectionOver c i s.store th.frame.work
    over_now = record {
      section = record { thread = t; body = body };
      at = its_section c (strict f.keys s) kept t own own_at i body rest text;
      pointed = pointed_thread c (strict f.keys s) kept t own own_at;
    }

    -- what another thread has taken goes with it: both hold their keys, or one leaves its own out
    taken_goes : (u : ℕ) (other : ThreadState) (k : Key) (m n : Mode) → t ≢ u → IsThread s u other
        → near k → Has plan_near (grip k m) → Has (f.took u) (grip k n) → are_compatible m n ≡ true
    unfolding over_now
    taken_goes u other k m n apart there is_near mine theirs =
        by (covers k m mine is_near) (f.covered u other there k n theirs)
      where
        or_clash : (a b : Mode) → (are_compatible a b ≡ false → ⊥) → are_compatible a b ≡ true
        or_clash a b never_apart = by (are_compatible a b) refl where
          by : (x : Bool) → are_compatible a b ≡ x → are_compatible a b ≡ true
          by true is = is
          by false is = absurd (never_apart is)

        by : (is_met (held_mode k th.held) m ≡ true) ⊎ MayBeLeftOut c t s.store k m
            → (is_met (held_mode k other.held) n ≡ true) ⊎ MayBeLeftOut c u s.store k n → are_compatible m n ≡ true
        by held (inr out) = sharing_turned m n ∙ or_clash n m (λ clash. out i s.store s.store th.frame.work over_now apart
            same_stays same_stays (k, n, m, inl refl, mine, clash))
        by (inr out) (inl held) =
            let a = f.asked u (grip k n) theirs in
            or_clash m n (λ clash. out a.section a.before s.store a.work a.over (λ same. apart (sym same ∙ a.own))
            same_stays a.stay (k, m, n, inl refl, a.has, clash))
        by (inl mine) (inl theirs) =
            let a = met_mode (held_mode k th.held) m mine in
            let b = met_mode (held_mode k other.held) n theirs in
            weaker_share a.0 b.0 m n a.2 b.2 (f.compatible t u th other k a.0 b.0 apart at there a.1 b.1)

    -- a step of another thread leaves what a path denotes, the way along which it holds
    way : (r : PathView) → IsNeededPath c t i body r
        → ((k : Key) → IsOnTheWay c s.store th.frame.work.locals r k → near k)
        → (u : ℕ) (other : ThreadState) → IsThread s u other → t ≢ u → (j : ℕ) (k : TextView)
        → other.position ≡ Running j k
        → path_datum (changed_by u (step_in c u k other.frame.work s.store) s.store) th.frame.work.locals r
        ≡ path_datum s.store th.frame.work.locals r
    way r (p, e, needed, begins) on_way u other there apart j k running =
        by (step_in c u k other.frame.work s.store) refl
      where
        theirs : ThreadState
        theirs = with_keys (f.keys u) other

        is_other : IsThread (strict f.keys s) u (with_keys (f.keys u) other)
        is_other = shadow_at u f.keys other s.threads there

        within : (q : PathView) (g : Field) → GoesBy r q g → GoesBy p q g
        within q g goes = elim begins [
          | inl same ↦ subst (λ z. GoesBy z q g) same goes
          | inr (h, later) ↦ goes_on p r q h g later goes
        ]

        allowed : (x : Next) → step_in c u k other.frame.work s.store ≡ x
            → IsAllowed c s.store (f.keys u) (change_in x)
        allowed x is =
            asked_is_allowed c s.store (f.keys u) (change_in x) (next_access k other.frame.work)
            (subst (λ (y : Next). Asks (change_in y) (next_access k other.frame.work)) is
            (change_is_asked (program_of c) u k (found_at s.store (looks k other.frame.work)) other.frame.work))
            (λ a does. good_holds_enough c ok (strict f.keys s) good u (with_keys (f.keys u) other) j k a is_other
            running does)

        by : (x : Next) → step_in c u k other.frame.work s.store ≡ x
            → path_datum (changed_by u x s.store) th.frame.work.locals r ≡ path_datum s.store th.frame.work.locals r
        by (Off why v) is = refl
        by (On rest' v change) is =
            way_stays c ok least never (strict f.keys s) good u t (with_keys (f.keys u) other) own
            (λ same. apart (sym same)) is_other own_at (taken u f.reached.trace)
            (all_keep c ok least never fuel f.reached.trace (strict f.keys s) f.reached.run u
            (with_keys (f.keys u) other) is_other) i body rest text near
            (λ a m n is_near asks has. taken_goes u other a m n apart there is_near asks
            (subst (λ l. Has l (grip a n)) (f.reached.takes u) has))
            p e needed r within
            (λ q g z goes at_z a one. on_way a (λ o same. (q, g, z, goes, at_z, one o same)))
            change (allowed (On rest' v change) is)

  -- what its plan asks for goes with what the others hold in the strict run
  module _ (i : ℕ) (body rest : TextView) (out : th.position ≡ Outside) (text : th.frame.text ≡ Section i body rest)
      (covers : Covers c t s.store th.held (plan_at c i s.store th.frame.work.locals)) where
    abbrev plan : List Grip
    plan = plan_at c i s.store th.frame.work.locals

    all_goes : (u : ℕ) (other : ThreadState) (k : Key) (m n : Mode) → t ≢ u → IsThread s u other
        → Has plan (grip k m) → Has (f.took u) (grip k n) → are_compatible m n ≡ true
    all_goes u other k m n apart there mine theirs = taken_goes i body rest out text (λ x. ⊤)
        (λ a b has any. covers a b has) u other k m n apart there tt mine theirs

    -- so does all that it holds in the strict run: what it has made there is asked for by nobody
    goes_with : (u : ℕ) (other : ThreadState) (k : Key) (m n : Mode) → t ≢ u → IsThread s u other
        → Has plan (grip k m) → held_mode k (f.keys u) ≡ Some n → are_compatible n m ≡ true
    goes_with u other k m n apart there mine theirs =
        let is_other = shadow_at u f.keys other s.threads there in
        let keeps = all_keep c ok least never fuel f.reached.trace (strict f.keys s) f.reached.run u
        (with_keys (f.keys u) other) is_other in
        elim (keeps.keys (grip k n) (mode_is_there k n (f.keys u) theirs)) [
          | inl took ↦ sharing_turned n m
              ∙ all_goes u other k m n apart there mine (subst (λ l. Has l (grip k n)) (f.reached.takes u) took)
          | inr (inside, (e, past, is)) ↦ absurd (plan_unasked c ok least never (strict f.keys s) good u t
              (with_keys (f.keys u) other) own (λ same. apart (sym same)) is_other own_at (taken u f.reached.trace) keeps
              i body rest text (λ x. ⊤)
              (λ j a b any asks has. all_goes u other j a b apart there asks
              (subst (λ l. Has l (grip j b)) (f.reached.takes u) has)) (λ x. tt)
              e m past (subst (λ j. Has plan (grip j m)) is mine))
        ]

    -- so each key can be taken
    let_in : (now : ThreadState) (k : Key) (m : Mode) → Has plan (grip k m)
        → all_but t (lets_in k m) (changed now).threads ≡ true
    let_in now k m e = all_but_of t (lets_in k m) (changed now).threads (λ u own' there apart.
        let other = shadow_of u f.keys own' s.threads
        (sym (put_other t u now (shadow f.keys s.threads) (λ same. apart (sym same))) ∙ there) in
        lets_of (held_mode k own'.held) m (λ n g.
        goes_with u other.0 k m n (λ same. apart (sym same)) other.1 e
        (ap (λ z. held_mode k z.held) other.2 ∙ g)))

    abbrev entered : List Grip → List Grip → ThreadState
    entered ws hs = record { position = Entered; frame = th.frame; wanted = ws; held = hs }

    take_all : (ws hs : List Grip) → ((g : Grip) → Has ws g → Has plan g)
        → Came c fuel order (changed (entered ws hs)) (keys_with t hs f.took)
        → Came c fuel order (changed (entered [] (hs ++ ws))) (keys_with t (hs ++ ws) f.took)
    take_all [] hs each came =
        subst (λ held. Came c fuel order (changed (entered [] held)) (keys_with t held f.took))
        (sym (append-nil hs)) came
    take_all (w ∷ ws) hs each came =
        subst (λ held. Came c fuel order (changed (entered [] held)) (keys_with t held f.took))
        (append_assoc hs (w ∷ []) ws)
        (take_all ws (hs ++ w ∷ []) (λ g there. each g (inr there))
        (came_on c fuel order (changed (entered (w ∷ ws) hs)) (changed (entered ws (hs ++ w ∷ []))) f.took t hs
        (hs ++ w ∷ []) (deed.Take w.key w.mode) came (
          entered (w ∷ ws) hs,
          changed_at (entered (w ∷ ws) hs),
          (
            ws,
            refl,
            refl,
            let_in (entered (w ∷ ws) hs) w.key w.mode (each w (inl refl)),
            changes (entered (w ∷ ws) hs) (entered ws (hs ++ w ∷ [])),
          ),
        ) refl refl))

    -- it enters, takes all keys and begins
    begin : f.keys t ≡ [] → f.took t ≡ [] → IsFree th
        → Came c fuel order (changed (with_keys plan (beginning i body rest th))) (keys_with t plan f.took)
    begin none idle free =
        let in_first = came_on c fuel order (strict f.keys s) (changed (entered plan (f.keys t))) f.took t (f.took t)
        (f.took t) deed.Enter begins_here
        (own, own_at, (i, body, rest, free, text, refl)) refl refl in
        let first = subst (λ hs. Came c fuel order (changed (entered plan [])) (keys_with t hs f.took)) idle
        (subst (λ hs. Came c fuel order (changed (entered plan hs)) (keys_with t (f.took t) f.took)) none in_first) in
        let placed = ((runs_are_well_kept c ok fuel first.trace (changed (entered plan [])) first.run).threads t
        (entered plan []) (changed_at (entered plan []))).asks in
        let all = take_all plan [] (λ g has. has) first in
        came_on c fuel order (changed (entered [] plan)) (changed (with_keys plan (beginning i body rest th))) f.took t
        plan plan deed.Begin all (
          entered [] plan,
          changed_at (entered [] plan),
          (
            i,
            body,
            rest,
            record { entered = refl; wanted = refl; text = text },
            meets_itself plan placed.1,
            changes (entered [] plan) (with_keys plan (beginning i body rest th)),
          ),
        ) refl refl

    begun : IsFree th → Follows c fuel order (with_thread t (beginning i body rest th) s)
    unfolding over_now
    begun free = goes order s.store s.output (beginning i body rest th) plan plan
        (begin (no_keys out) (f.idle t th at out) free) same_stays covers
        (λ g has. record {
          section = i;
          before = s.store;
          work = th.frame.work;
          over = over_now i body rest out text (λ x. ⊤) (λ a b has any. covers a b has);
          own = refl;
          stay = same_stays;
          has = has;
        }) (λ e. absurd cc) holds_well

  -- a step in the section
  act : (i : ℕ) (k : TextView) (more : List Grip) (n : Next) → step_in c t k th.frame.work s.store ≡ n
      → th.position ≡ Running i k → begins_step k ≡ true → MayHold s t (th.held ++ more)
      → Follows c fuel order (record {
        store = changed_by t n s.store;
        output = s.output;
        threads = put_at t (holding (th.held ++ more) (acting c t i n th)) s.threads;
      })
  act i k more n is running begins may = go n
      (came_on c fuel order (strict f.keys s)
      (record {
        store = changed_by t n s.store;
        output = s.output;
        threads = put_at t (acting c t i n own) (shadow f.keys s.threads);
      })
      f.took t (f.took t) (f.took t) deed.Act begins_here (
        own,
        own_at,
        (
          i,
          k,
          running,
          begins,
          ap (λ z. record {
            store = changed_by t z s.store;
            output = s.output;
            threads = put_at t (acting c t i z own) (shadow f.keys s.threads);
          }) (sym is),
        ),
      ) refl refl)
    where
      row : t < length s.store.made
      row = (pointed_thread c (strict f.keys s) kept t own own_at).row

      grown : (store : StoreView) → ObjectsStay s.store store → Covers c t store (th.held ++ more) (f.took t)
      grown store stay j m has = first (covers_on c t s.store store th.held (f.took t) stay (f.covered t th at) j m has)
        where
          first : (is_met (held_mode j th.held) m ≡ true) ⊎ MayBeLeftOut c t store j m
              → (is_met (held_mode j (th.held ++ more)) m ≡ true) ⊎ MayBeLeftOut c t store j m
          first (inl met) =
              let a = met_mode (held_mode j th.held) m met in
              inl (ap (λ z. is_met z m) (held_append j th.held more a.0 a.1) ∙ a.2)
          first (inr out) = inr out

      go : (n : Next)
          → Came c fuel order (record {
            store = changed_by t n s.store;
            output = s.output;
            threads = put_at t (acting c t i n own) (shadow f.keys s.threads);
          }) (keys_with t (f.took t) f.took)
          → Follows c fuel order (record {
            store = changed_by t n s.store;
            output = s.output;
            threads = put_at t (holding (th.held ++ more) (acting c t i n th)) s.threads;
          })
      go (On k' w change) came =
          let n = On k' w change in
          let stay = sites_stay t s.store row change in
          goes order (changed_by t n s.store) s.output (holding (th.held ++ more) (acting c t i n th))
          (f.keys t ++ grips_of c t th.frame.work.made change) (f.took t) came stay
          (grown (changed_by t n s.store) stay)
          (λ g has. asked_on c t s.store (changed_by t n s.store) g stay (f.asked t g has)) (λ e. absurd cc) may
      go (Off why w) came =
          let n = Off why w in
          goes order s.store s.output (holding (th.held ++ more) (acting c t i n th)) (f.keys t) (f.took t) came
          same_stays (grown s.store same_stays) (f.asked t) (λ e. absurd cc) may

  -- it leaves
  leave : (how : Option Fault) → IsOver th.position how
      → Follows c fuel (order ++ t ∷ []) (record {
        store = s.store;
        output = s.output ++ th.frame.work.printed;
        threads = put_at t (with_frame (frame_out how th.frame) (record th { position = Outside })) s.threads;
      })
  leave how over = goes (order ++ t ∷ []) s.store (s.output ++ th.frame.work.printed)
      (with_frame (frame_out how th.frame) (record th { position = Outside })) [] []
      (came_next c fuel order (strict f.keys s) (record {
        store = s.store;
        output = s.output ++ th.frame.work.printed;
        threads = put_at t (with_frame (frame_out how th.frame) (giving_back own)) (shadow f.keys s.threads);
      }) f.took t (f.took t) [] deed.Leave begins_here (own, own_at, (how, over, refl)) refl)
      same_stays (covers_nothing c t s.store th.held) (λ g none. absurd none) (λ e. refl) holds_well

  -- a step outside sections
  local : IsFree th → begins_step th.frame.text ≡ true
      → Follows c fuel order (with_thread t (with_frame (local_step (program_of c) t th.frame) th) s)
  local free begins =
      let new = with_frame (local_step (program_of c) t th.frame) th in
      goes order s.store s.output new (f.keys t) (f.took t)
      (came_on c fuel order (strict f.keys s) (changed (with_keys (f.keys t) new)) f.took t (f.took t) (f.took t)
      deed.Local begins_here (own, own_at, (free, begins, refl)) refl refl)
      same_stays (f.covered t th at) (f.asked t) (f.idle t th at) holds_well

  -- it changes its keys
  hold : (keys : List Grip) → th.position ≡ Outside → MayHold s t keys
      → Follows c fuel order (with_thread t (holding keys th) s)
  hold keys out may =
      goes order s.store s.output (holding keys th) (f.keys t) (f.took t)
      (subst (λ ths. Came c fuel order (record { store = s.store; output = s.output; threads = ths })
      (keys_with t (f.took t) f.took)) same begins_here)
      same_stays (subst (Covers c t s.store keys) (sym (f.idle t th at out)) (covers_nothing c t s.store keys))
      (f.asked t) (f.idle t th at) may
    where
      same : shadow f.keys s.threads ≡ put_at t own (shadow f.keys s.threads)
      same = sym (put_back t own (shadow f.keys s.threads) own_at)

  -- nobody has left
  stay : (after next : State) → after ≡ next → Follows c fuel order next → Follows c fuel (order ++ []) after
  stay after next is g = subst (λ os. Follows c fuel os after) (sym (append-nil order))
      (subst (Follows c fuel order) (sym is) g)

  loosely : (d : LooseDeed) (after : State) → MayLoosely c s t th d after
      → Follows c fuel (order ++ loose_leaver t d) after
  loosely Local after (free, begins, is) = stay after _ is (local free begins)
  loosely (Hold keys) after (out, may, is) = stay after _ is (hold keys out may)
  loosely Begin after (i, body, rest, free, text, covers, is) =
      stay after _ is (begun i body rest free.0 text covers free)
  loosely (Act more) after (i, k, running, begins, may, is) =
      stay after _ is (act i k more (step_in c t k th.frame.work s.store) refl running begins may)
  loosely Leave after (how, over, is) = subst (Follows c fuel (order ++ t ∷ [])) (sym is) (leave how over)

-- so the events of a loose run lead on
all_follow : (c : CompiledView) → IsCompiled c → AreSetsLeast c → PlansNeverClash c → (fuel : ℕ)
    (es : List LooseEvent) (order : List ℕ) (s after : State) → Follows c fuel order s → LooselyRunsTo c s es after → Follows c fuel (order ++ loose_order_of es) after
all_follow c ok least never fuel [] order s after f leads =
    subst (λ os. Follows c fuel os after) (sym (append-nil order)) (subst (Follows c fuel order) leads f)
all_follow c ok least never fuel (e ∷ es) order s after f (between, (th, at, may), leads) =
    subst (λ os. Follows c fuel os after) (append_assoc order (loose_leaver e.thread e.deed) (loose_order_of es))
    (all_follow c ok least never fuel es (order ++ loose_leaver e.thread e.deed) between after
    (loosely c ok least never fuel order s f e.thread th at e.deed between may) leads)

-- from the start
first_follows : (c : CompiledView) (fuel : ℕ) → Follows c fuel [] (start c fuel)
first_follows c fuel = record {
  keys = λ t. [];
  took = λ t. [];
  reached = record { trace = []; run = sym same; ordered = refl; takes = λ u. refl };
  covered = λ t th at. covers_nothing c t (start c fuel).store th.held;
  asked = λ u g none. absurd none;
  idle = λ u th at out. refl;
  compatible = λ t u th other k m n apart at there e g.
      absurd (none_or_some m (sym (nothing t th at k) ∙ e));
} where
  frames : List FrameView
  frames = first_frames fuel (program_of c).texts (program_of c).locals

  same : strict (λ t. []) (start c fuel) ≡ start c fuel
  same = ap (λ ths. record { store = (start c fuel).store; output = []; threads = ths }) (shadow_start frames)

  nothing : (t : ℕ) (th : ThreadState) → IsThread (start c fuel) t th → (k : Key) → held_mode k th.held ≡ None
  nothing t th at k =
      let f = slice_get-map outside frames t th at in ap (λ z. held_mode k z.held) (sym f.2)

pub loose_runs_are_strict : (c : CompiledView) → IsCompiled c → AreSetsLeast c → PlansNeverClash c
    → EveryLooseRunIsStrict c
loose_runs_are_strict c ok least never fuel loose s run =
    let f = all_follow c ok least never fuel loose [] (start c fuel) s (first_follows c fuel) run in (
      f.reached.trace,
      strict f.keys s,
      f.reached.run,
      record { store = refl; output = refl; places = shadow_places f.keys s.threads },
      f.reached.ordered,
    )

pub loose_runs_are_serial : (c : CompiledView) → IsCompiled c → AreSetsLeast c → PlansNeverClash c
    → EveryLooseRunIsSerial c
loose_runs_are_serial c ok least never fuel loose s e run complete =
    let f = all_follow c ok least never fuel loose [] (start c fuel) s (first_follows c fuel) run in
    subst (λ os. RunsWhole (program_of c) fuel os e) f.reached.ordered
    (runs_are_serial c ok fuel f.reached.trace (strict f.keys s) e f.reached.run (record {
      store = complete.store;
      output = complete.output;
      ends = shadow_ends f.keys s.threads ∙ complete.ends;
    }))

pub looked_paths_stay : (c : CompiledView) → IsCompiled c → AreSetsLeast c → PlansNeverClash c → LookedPathsStay c
looked_paths_stay c ok least never fuel loose s after happened run (other, there, may) t th at apart out i body rest text
    p needed covers = by happened.deed may where
      f : Follows c fuel (loose_order_of loose) s
      f = all_follow c ok least never fuel loose [] (start c fuel) s (first_follows c fuel) run

      same : (next : State) → after ≡ next → next.store ≡ s.store
          → path_datum after.store th.frame.work.locals p ≡ path_datum s.store th.frame.work.locals p
      same next is store = ap (λ (z : State). path_datum z.store th.frame.work.locals p) is
          ∙ ap (λ z. path_datum z th.frame.work.locals p) store

      by : (d : LooseDeed) → MayLoosely c s happened.thread other d after
          → path_datum after.store th.frame.work.locals p ≡ path_datum s.store th.frame.work.locals p
      by Local (idle, begins, is) = same _ is refl
      by (Hold keys) (stands, goes_too, is) = same _ is refl
      by Begin (j, its, after_it, idle, reads, covered, is) = same _ is refl
      by (Act more) (j, k, running, begins, goes_too, is) =
          ap (λ (z : State). path_datum z.store th.frame.work.locals p) is
          ∙ way c ok least never fuel (loose_order_of loose) s f t th at i body rest out text
          (IsOnTheWay c s.store th.frame.work.locals p) covers p needed (λ a near. near) happened.thread other there
          apart j k running
      by Leave (how, over, is) = same _ is refl
