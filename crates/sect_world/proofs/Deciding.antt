-- What may happen, tested: `after` gives the state that an event leads to, where it is enabled.
-- Only `EventRows`, which tests definitions, cites it.
use Rattle.std.proofs.Common.{◌≡◌, ℕ, Bool, true, false, refl, sym, ap, ◌∙◌, List, [], ◌∷◌, Option, Some, None}
use Rattle.std.proofs.{Common.{true≢false}, lemmas.Bool.{and_parts, and_from}}
use Rattle.std.specs.Prelude.{◌&&◌, slice_get, if◌then◌else◌}
use Rattle.sect_types.specs.{Statements.{TextView, Stop, Section}, declared.meaning.store.Fault.{Fault}}
use Rattle.sect_types.specs.{declared.meaning.store.End.{End}, Meaning.{begins_step}, Whole.{local_step}}
use Rattle.sect_modes.specs.{declared.mode.Mode.{Mode}, declared.key.Key.{Key}, Key.{is_same_key}}
use Rattle.sect_emit.specs.{declared.plan.Grip.{Grip}, Plan.{grip, meets}, Compiled.{CompiledView, program_of}}
use Rattle.sect_emit.specs.State.{Position, Outside, Entered, Running, Faulted, ThreadState, State, plan_at}
use Rattle.sect_emit.specs.State.{with_thread}
use Rattle.sect_world.specs.declared.event.Deed.{Deed}
use Rattle.sect_world.specs.declared.event.Deed.TheVariants.{Local, Enter, Take, Begin, Again, Act, Leave}
use Rattle.sect_world.specs.declared.event.Event.{Event}
use Rattle.sect_world.specs.Events.{all_but, lets_in, IsOver, entering, taking, beginning, giving_back, with_frame}
use Rattle.sect_world.specs.{Events.{after_act, after_leave, step_in, MayDo, Happens}, Runs.{RunsTo}}
use Rattle.sect_lemmas.proofs.Options.{some_injective, none_or_some}
use Rattle.sect_modes.proofs.shared.Keys.{same_key, key_itself}
use Rattle.sect_modes.specs.declared.mode.Mode.TheVariants as mode

abbrev same_mode : Mode → Mode → Bool
same_mode mode.IntentionShared mode.IntentionShared = true
same_mode mode.IntentionExclusive mode.IntentionExclusive = true
same_mode mode.Shared mode.Shared = true
same_mode mode.SharedIntentionExclusive mode.SharedIntentionExclusive = true
same_mode mode.Exclusive mode.Exclusive = true
same_mode _ _ = false

one_mode : (m n : Mode) → same_mode m n ≡ true → m ≡ n
one_mode mode.IntentionShared mode.IntentionShared e = refl
one_mode mode.IntentionExclusive mode.IntentionExclusive e = refl
one_mode mode.Shared mode.Shared e = refl
one_mode mode.SharedIntentionExclusive mode.SharedIntentionExclusive e = refl
one_mode mode.Exclusive mode.Exclusive e = refl
one_mode _ _ e = absurd (true≢false (sym e))

-- each kind, with what it tests taken apart
abbrev local_from : State → Position → Option End → Bool → Option State
local_from to Outside None true = Some to
local_from to _ _ _ = None

abbrev enter_from : (ℕ → State) → Position → Option End → TextView → Option State
enter_from to Outside None (Section i body rest) = Some (to i)
enter_from to _ _ _ = None

abbrev take_from : (List Grip → State) → Key → Mode → Position → List Grip → Bool → Option State
take_from to k m Entered (g ∷ gs) true = if is_same_key g.key k && same_mode g.mode m then Some (to gs) else None
take_from to k m _ _ _ = None

abbrev begin_from : (ℕ → Bool) → (ℕ → TextView → TextView → State) → Position → List Grip → TextView → Option State
begin_from met to Entered [] (Section i body rest) = if met i then Some (to i body rest) else None
begin_from met to _ _ _ = None

abbrev again_from : (ℕ → Bool) → State → Position → List Grip → TextView → Option State
again_from met to Entered [] (Section i body rest) = if met i then None else Some to
again_from met to _ _ _ = None

abbrev act_from : (ℕ → TextView → State) → Position → Option State
act_from to (Running i k) = if begins_step k then Some (to i k) else None
act_from to _ = None

abbrev leave_from : (Option Fault → State) → Position → Option State
leave_from to (Running i Stop) = Some (to None)
leave_from to (Faulted i why) = Some (to (Some why))
leave_from to _ = None

-- what a deed of the thread leads to, if it may happen
abbrev pub done_by : CompiledView → State → ℕ → ThreadState → Deed → Option State
done_by c s t th Local = local_from (with_thread t (with_frame (local_step (program_of c) t th.frame) th) s) th.position
    th.frame.ended (begins_step th.frame.text)
done_by c s t th Enter = enter_from (λ i. with_thread t (entering (plan_at c i s.store th.frame.work.locals) th) s)
    th.position th.frame.ended th.frame.text
done_by c s t th (Take k m) = take_from (λ rest. with_thread t (taking k m rest th) s) k m th.position th.wanted
    (all_but t (lets_in k m) s.threads)
done_by c s t th Begin =
    begin_from (λ i. meets th.held (plan_at c i s.store th.frame.work.locals))
    (λ i body rest. with_thread t (beginning i body rest th) s) th.position th.wanted th.frame.text
done_by c s t th Again = again_from (λ i. meets th.held (plan_at c i s.store th.frame.work.locals))
    (with_thread t (giving_back th) s) th.position th.wanted th.frame.text
done_by c s t th Act = act_from (λ i k. after_act c t i th (step_in c t k th.frame.work s.store) s) th.position
done_by c s t th Leave = leave_from (λ how. after_leave t how th s) th.position

abbrev by_thread : CompiledView → State → ℕ → Deed → Option ThreadState → Option State
by_thread c s t d None = None
by_thread c s t d (Some th) = done_by c s t th d

-- what an event leads to, if it may happen
abbrev pub after : CompiledView → State → Event → Option State
after c s e = by_thread c s e.thread e.deed (slice_get s.threads e.thread)

abbrev on_from : Option State → (State → Option State) → Option State
on_from None go = None
on_from (Some s) go = go s

-- what events lead to, if each may happen
abbrev pub ran : CompiledView → List Event → State → Option State
ran c [] s = Some s
ran c (e ∷ es) s = on_from (after c s e) (ran c es)

local_sound : (to s' : State) (p : Position) (e : Option End) (b : Bool) → local_from to p e b ≡ Some s'
    → (p ≡ Outside) × (e ≡ None) × (b ≡ true) × (s' ≡ to)
local_sound to s' Outside None true is = (refl, refl, refl, sym (some_injective to s' is))
local_sound to s' _ _ _ is = absurd (none_or_some s' is)

enter_sound : (to : ℕ → State) (s' : State) (p : Position) (e : Option End) (k : TextView)
    → enter_from to p e k ≡ Some s' → (i : ℕ) × (body : TextView) × (rest : TextView) × (p ≡ Outside) × (e ≡ None)
    × (k ≡ Section i body rest) × (s' ≡ to i)
enter_sound to s' Outside None (Section i body rest) is =
    (i, body, rest, refl, refl, refl, sym (some_injective (to i) s' is))
enter_sound to s' _ _ _ is = absurd (none_or_some s' is)

take_sound : (to : List Grip → State) (s' : State) (k : Key) (m : Mode) (p : Position) (gs : List Grip) (b : Bool)
    → take_from to k m p gs b ≡ Some s' → (rest : List Grip) × (p ≡ Entered) × (gs ≡ grip k m ∷ rest) × (b ≡ true)
    × (s' ≡ to rest)
take_sound to s' k m Entered (g ∷ gs) true is = by (is_same_key g.key k && same_mode g.mode m) refl is where
  by : (x : Bool) → (is_same_key g.key k && same_mode g.mode m) ≡ x → (if x then Some (to gs) else None) ≡ Some s'
      → (rest : List Grip) × (Entered ≡ Entered) × (g ∷ gs ≡ grip k m ∷ rest) × (true ≡ true) × (s' ≡ to rest)
  by true e is' =
      let h = and_parts (is_same_key g.key k) (same_mode g.mode m) e in (
        gs,
        refl,
        ap (λ x. grip x g.mode ∷ gs) (same_key g.key k h.0) ∙ ap (λ x. grip k x ∷ gs) (one_mode g.mode m h.1),
        refl,
        sym (some_injective (to gs) s' is'),
      )
  by false e is' = absurd (none_or_some s' is')
take_sound to s' k m _ _ _ is = absurd (none_or_some s' is)

abbrev Ready : (ℕ → Bool) → Bool → (ℕ → TextView → TextView → State) → Position → List Grip → TextView → State → Type 0
Ready met b to p gs k s' = (i : ℕ) × (body : TextView) × (rest : TextView) × (p ≡ Entered) × (gs ≡ [])
    × (k ≡ Section i body rest) × (met i ≡ b) × (s' ≡ to i body rest)

begin_sound : (met : ℕ → Bool) (to : ℕ → TextView → TextView → State) (s' : State) (p : Position) (gs : List Grip)
    (k : TextView) → begin_from met to p gs k ≡ Some s' → Ready met true to p gs k s'
begin_sound met to s' Entered [] (Section i body rest) is = by (met i) refl is where
  by : (x : Bool) → met i ≡ x → (if x then Some (to i body rest) else None) ≡ Some s'
      → Ready met true to Entered [] (Section i body rest) s'
  by true e is' = (i, body, rest, refl, refl, refl, e, sym (some_injective (to i body rest) s' is'))
  by false e is' = absurd (none_or_some s' is')
begin_sound met to s' _ _ _ is = absurd (none_or_some s' is)

again_sound : (met : ℕ → Bool) (to s' : State) (p : Position) (gs : List Grip) (k : TextView)
    → again_from met to p gs k ≡ Some s' → Ready met false (λ i body rest. to) p gs k s'
again_sound met to s' Entered [] (Section i body rest) is = by (met i) refl is where
  by : (x : Bool) → met i ≡ x → (if x then None else Some to) ≡ Some s'
      → Ready met false (λ i body rest. to) Entered [] (Section i body rest) s'
  by true e is' = absurd (none_or_some s' is')
  by false e is' = (i, body, rest, refl, refl, refl, e, sym (some_injective to s' is'))
again_sound met to s' _ _ _ is = absurd (none_or_some s' is)

act_sound : (to : ℕ → TextView → State) (s' : State) (p : Position) → act_from to p ≡ Some s'
    → (i : ℕ) × (k : TextView) × (p ≡ Running i k) × (begins_step k ≡ true) × (s' ≡ to i k)
act_sound to s' (Running i k) is = by (begins_step k) refl is where
  by : (x : Bool) → begins_step k ≡ x → (if x then Some (to i k) else None) ≡ Some s'
      → (j : ℕ) × (l : TextView) × (Running i k ≡ Running j l) × (begins_step l ≡ true) × (s' ≡ to j l)
  by true e is' = (i, k, refl, e, sym (some_injective (to i k) s' is'))
  by false e is' = absurd (none_or_some s' is')
act_sound to s' _ is = absurd (none_or_some s' is)

leave_sound : (to : Option Fault → State) (s' : State) (p : Position) → leave_from to p ≡ Some s'
    → (how : Option Fault) × IsOver p how × (s' ≡ to how)
leave_sound to s' (Running i Stop) is = (None, (i, refl), sym (some_injective (to None) s' is))
leave_sound to s' (Faulted i why) is = (Some why, (i, refl), sym (some_injective (to (Some why)) s' is))
leave_sound to s' _ is = absurd (none_or_some s' is)

done_sound : (c : CompiledView) (s s' : State) (t : ℕ) (th : ThreadState) (d : Deed) → done_by c s t th d ≡ Some s'
    → MayDo c s t th d s'
done_sound c s s' t th Local is =
    let h = local_sound (with_thread t (with_frame (local_step (program_of c) t th.frame) th) s) s' th.position
    th.frame.ended (begins_step th.frame.text) is in
    ((h.0, h.1), h.2, h.3)
done_sound c s s' t th Enter is =
    let h = enter_sound (λ i. with_thread t (entering (plan_at c i s.store th.frame.work.locals) th) s) s' th.position
    th.frame.ended th.frame.text is in
    (h.0, h.1, h.2, (h.3, h.4), h.5, h.6)
done_sound c s s' t th (Take k m) is =
    take_sound (λ rest. with_thread t (taking k m rest th) s) s' k m th.position th.wanted
    (all_but t (lets_in k m) s.threads) is
done_sound c s s' t th Begin is =
    let h = begin_sound (λ i. meets th.held (plan_at c i s.store th.frame.work.locals))
    (λ i body rest. with_thread t (beginning i body rest th) s) s' th.position th.wanted th.frame.text is in
    (h.0, h.1, h.2, record { entered = h.3; wanted = h.4; text = h.5 }, h.6, h.7)
done_sound c s s' t th Again is =
    let h = again_sound (λ i. meets th.held (plan_at c i s.store th.frame.work.locals))
    (with_thread t (giving_back th) s) s' th.position th.wanted th.frame.text is in
    (h.0, h.1, h.2, record { entered = h.3; wanted = h.4; text = h.5 }, h.6, h.7)
done_sound c s s' t th Act is =
    act_sound (λ i k. after_act c t i th (step_in c t k th.frame.work s.store) s) s' th.position is
done_sound c s s' t th Leave is = leave_sound (λ how. after_leave t how th s) s' th.position is

-- what is computed happens
pub after_sound : (c : CompiledView) (s s' : State) (e : Event) → after c s e ≡ Some s' → Happens c s e s'
after_sound c s s' e is = by (slice_get s.threads e.thread) refl is where
  by : (o : Option ThreadState) → slice_get s.threads e.thread ≡ o → by_thread c s e.thread e.deed o ≡ Some s'
      → Happens c s e s'
  by None at is' = absurd (none_or_some s' is')
  by (Some th) at is' = (th, at, done_sound c s s' e.thread th e.deed is')

-- what the test answers along a list of events is a run
pub ran_sound : (c : CompiledView) (es : List Event) (s s' : State) → ran c es s ≡ Some s' → RunsTo c s es s'
ran_sound c [] s s' is = some_injective s s' is
ran_sound c (e ∷ es) s s' is = by (after c s e) refl is (λ r. ran_sound c es r s') where
  by : (o : Option State) → after c s e ≡ o → on_from o (ran c es) ≡ Some s'
      → ((r : State) → ran c es r ≡ Some s' → RunsTo c r es s') → RunsTo c s (e ∷ es) s'
  by None at is' more = absurd (none_or_some s' is')
  by (Some r) at is' more = (r, after_sound c s r e at, more r is')

mode_itself : (m : Mode) → same_mode m m ≡ true
mode_itself mode.IntentionShared = refl
mode_itself mode.IntentionExclusive = refl
mode_itself mode.Shared = refl
mode_itself mode.SharedIntentionExclusive = refl
mode_itself mode.Exclusive = refl

local_complete : (to : State) (p : Position) (e : Option End) (b : Bool) → p ≡ Outside → e ≡ None → b ≡ true
    → local_from to p e b ≡ Some to
local_complete to p e b x y z = ap (λ q. local_from to q e b) x ∙ ap (λ f. local_from to Outside f b) y
    ∙ ap (local_from to Outside None) z

enter_complete : (to : ℕ → State) (p : Position) (e : Option End) (k : TextView) (i : ℕ) (body rest : TextView)
    → p ≡ Outside → e ≡ None → k ≡ Section i body rest → enter_from to p e k ≡ Some (to i)
enter_complete to p e k i body rest x y z = ap (λ q. enter_from to q e k) x ∙ ap (λ f. enter_from to Outside f k) y
    ∙ ap (enter_from to Outside None) z

take_complete : (to : List Grip → State) (k : Key) (m : Mode) (p : Position) (gs rest : List Grip) (b : Bool)
    → p ≡ Entered → gs ≡ grip k m ∷ rest → b ≡ true → take_from to k m p gs b ≡ Some (to rest)
take_complete to k m p gs rest b x y z =
    ap (λ q. take_from to k m q gs b) x ∙ ap (λ hs. take_from to k m Entered hs b) y
    ∙ ap (take_from to k m Entered (grip k m ∷ rest)) z
    ∙ ap (λ a. if a then Some (to rest) else None)
    (and_from (is_same_key k k) (same_mode m m) (key_itself k) (mode_itself m))

begin_complete : (met : ℕ → Bool) (to : ℕ → TextView → TextView → State) (p : Position) (gs : List Grip) (k : TextView)
    (i : ℕ) (body rest : TextView)
    → p ≡ Entered → gs ≡ [] → k ≡ Section i body rest → met i ≡ true → begin_from met to p gs k ≡ Some (to i body rest)
begin_complete met to p gs k i body rest x y z e =
    ap (λ q. begin_from met to q gs k) x ∙ ap (λ hs. begin_from met to Entered hs k) y
    ∙ ap (begin_from met to Entered []) z ∙ ap (λ b. if b then Some (to i body rest) else None) e

again_complete : (met : ℕ → Bool) (to : State) (p : Position) (gs : List Grip) (k : TextView) (i : ℕ)
    (body rest : TextView)
    → p ≡ Entered → gs ≡ [] → k ≡ Section i body rest → met i ≡ false → again_from met to p gs k ≡ Some to
again_complete met to p gs k i body rest x y z e =
    ap (λ q. again_from met to q gs k) x ∙ ap (λ hs. again_from met to Entered hs k) y
    ∙ ap (again_from met to Entered []) z ∙ ap (λ b. if b then None else Some to) e

act_complete : (to : ℕ → TextView → State) (p : Position) (i : ℕ) (k : TextView) → p ≡ Running i k
    → begins_step k ≡ true → act_from to p ≡ Some (to i k)
act_complete to p i k x e = ap (act_from to) x ∙ ap (λ b. if b then Some (to i k) else None) e

done_complete : (c : CompiledView) (s s' : State) (t : ℕ) (th : ThreadState) (d : Deed) → MayDo c s t th d s'
    → done_by c s t th d ≡ Some s'
done_complete c s s' t th Local d =
    local_complete (with_thread t (with_frame (local_step (program_of c) t th.frame) th) s) th.position th.frame.ended
    (begins_step th.frame.text) d.0.0 d.0.1 d.1 ∙ ap Some (sym d.2)
done_complete c s s' t th Enter d =
    enter_complete (λ i. with_thread t (entering (plan_at c i s.store th.frame.work.locals) th) s) th.position
    th.frame.ended th.frame.text d.0 d.1 d.2 d.3.0 d.3.1 d.4 ∙ ap Some (sym d.5)
done_complete c s s' t th (Take k m) d =
    take_complete (λ rest. with_thread t (taking k m rest th) s) k m th.position th.wanted d.0
    (all_but t (lets_in k m) s.threads) d.1 d.2 d.3 ∙ ap Some (sym d.4)
done_complete c s s' t th Begin d =
    begin_complete (λ i. meets th.held (plan_at c i s.store th.frame.work.locals))
    (λ i body rest. with_thread t (beginning i body rest th) s) th.position th.wanted th.frame.text d.0 d.1 d.2
    d.3.entered d.3.wanted d.3.text d.4 ∙ ap Some (sym d.5)
done_complete c s s' t th Again d =
    again_complete (λ i. meets th.held (plan_at c i s.store th.frame.work.locals)) (with_thread t (giving_back th) s)
    th.position th.wanted th.frame.text d.0 d.1 d.2
    d.3.entered d.3.wanted d.3.text d.4 ∙ ap Some (sym d.5)
done_complete c s s' t th Act d =
    act_complete (λ i k. after_act c t i th (step_in c t k th.frame.work s.store) s) th.position d.0 d.1 d.2 d.3
    ∙ ap Some (sym d.4)
done_complete c s s' t th Leave d = by d.0 d.1 d.2 where
  by : (how : Option Fault) → IsOver th.position how → s' ≡ after_leave t how th s
      → leave_from (λ how. after_leave t how th s) th.position ≡ Some s'
  by None over is = ap (leave_from (λ how. after_leave t how th s)) over.1 ∙ ap Some (sym is)
  by (Some why) over is = ap (leave_from (λ how. after_leave t how th s)) over.1 ∙ ap Some (sym is)

-- and what happens is what the test answers: an event leads to one state
pub after_complete : (c : CompiledView) (s s' : State) (e : Event) → Happens c s e s' → after c s e ≡ Some s'
after_complete c s s' e h = ap (by_thread c s e.thread e.deed) h.1 ∙ done_complete c s s' e.thread h.0 e.deed h.2

-- an event leads to one state
pub one_state : (c : CompiledView) (s a b : State) (e : Event) → Happens c s e a → Happens c s e b → a ≡ b
one_state c s a b e x y = some_injective a b (sym (after_complete c s a e x) ∙ after_complete c s b e y)
