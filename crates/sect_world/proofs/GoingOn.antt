-- While some thread hasn't ended, some event is enabled.
use Rattle.std.proofs.Common.{◌≡◌, ◌≢◌, ℕ, zero, suc, Bool, true, false, refl, sym, ap, subst, ◌⊎◌, inl, inr, ⊎_elim}
use Rattle.std.proofs.Common.{List, [], ◌∷◌, Option, Some, None, true≢false}
use Rattle.std.specs.{Prelude.{slice_get, ◌&&◌}, List.{list_all}}
use Rattle.sect_types.specs.{Statements.{TextView, Stop, Do, Choose, Loop, Section}, Programs.{environment_at}}
use Rattle.sect_types.specs.{Sound.{IsSound}, declared.meaning.store.End.{End}, Meaning.{begins_step}}
use Rattle.sect_types.specs.Whole.{has_ended}
use Rattle.sect_modes.specs.{declared.mode.Mode.{Mode}, declared.key.Key.{Key}}
use Rattle.sect_emit.specs.{declared.plan.Grip.{Grip}, Plan.{grip, held_mode, meets}}
use Rattle.sect_emit.specs.Compiled.{CompiledView, IsCompiled, program_of}
use Rattle.sect_emit.specs.State.{Position, Outside, Entered, Running, Faulted, ThreadState, State, IsThread, plan_at}
use Rattle.sect_world.specs.declared.event.Deed.{Deed}
use Rattle.sect_world.specs.declared.event.Deed.TheVariants.{Local, Enter, Take, Begin, Again, Act, Leave}
use Rattle.sect_world.specs.{Events.{all_but, lets, lets_in, MayDo}, Blocked.{IsBlocked, CanGoOn}}
use Rattle.sect_world.specs.{Laws.{SomethingHappens}, Kept.{IsAt, IsThreadKept, IsWellKept}}
use Rattle.sect_lemmas.proofs.Options.{some_injective, none_or_some}
use Rattle.sect_world.proofs.{Stuck.{none_stuck}, KeptStates.{runs_are_well_kept}}

abbrev IsFound : {X : Type 0} → ℕ → (X → Bool) → List X → Type 0
IsFound {X} t test xs = (u : ℕ) × (x : X) × (t ≢ u) × (slice_get xs u ≡ Some x) × (test x ≡ false)

one_fails : {X : Type 0} (test : X → Bool) (xs : List X) → list_all test xs ≡ false
    → (u : ℕ) × (x : X) × (slice_get xs u ≡ Some x) × (test x ≡ false)
one_fails test [] e = absurd (true≢false e)
one_fails {X = X} test (y ∷ xs) e = by (test y) refl e (one_fails test xs) where
  by : (b : Bool) → test y ≡ b → (b && list_all test xs) ≡ false
      → (list_all test xs ≡ false → (u : ℕ) × (x : X) × (slice_get xs u ≡ Some x) × (test x ≡ false))
      → (u : ℕ) × (x : X) × (slice_get (y ∷ xs) u ≡ Some x) × (test x ≡ false)
  by true is e' more = let r = more e' in (suc r.0, r.1, r.2, r.3)
  by false is e' more = (zero, y, refl, is)

zero_or_more : (n : ℕ) → zero ≡ suc n → ⊥
zero_or_more n e = subst IsZero e tt where
  IsZero : ℕ → Type 0
  IsZero zero = Unit {0}
  IsZero (suc m) = ⊥

less_one : ℕ → ℕ
less_one zero = zero
less_one (suc n) = n

same_less : (n m : ℕ) → suc n ≡ suc m → n ≡ m
unfolding less_one
same_less n m e = ap less_one e

another_fails : {X : Type 0} (t : ℕ) (test : X → Bool) (xs : List X) → all_but t test xs ≡ false → IsFound t test xs
another_fails t test [] e = absurd (true≢false e)
another_fails zero test (y ∷ xs) e = let r = one_fails test xs e in (suc r.0, r.1, zero_or_more r.0, r.2, r.3)
another_fails (suc t) test (y ∷ xs) e = by (test y) refl e (another_fails t test xs) where
  by : (b : Bool) → test y ≡ b → (b && all_but t test xs) ≡ false → (all_but t test xs ≡ false → IsFound t test xs)
      → IsFound (suc t) test (y ∷ xs)
  by true is e' more = let r = more e' in (suc r.0, r.1, λ same. r.2 (same_less t r.0 same), r.3, r.4)
  by false is e' more = (zero, y, λ same. zero_or_more t (sym same), refl, is)

module _ (c : CompiledView) (s : State) where
  abbrev Goes : ThreadState → Type 0
  Goes th = (has_ended th.frame.ended ≡ true) ⊎ (CanGoOn c s ⊎ IsBlocked s th)

  goes : (t : ℕ) (th : ThreadState) (d : Deed) (after : State) → IsThread s t th → MayDo c s t th d after → Goes th
  goes t th d after at does = inr (inl (record { thread = t; deed = d }, after, (th, at, does)))

  goes_outside : (t : ℕ) (th : ThreadState) → IsThread s t th → th.position ≡ Outside → IsAt c s.store t Outside th
      → Goes th
  goes_outside t th at p k = by th.frame.ended refl th.frame.text refl where
    by : (o : Option End) → th.frame.ended ≡ o → (text : TextView) → th.frame.text ≡ text → Goes th
    by (Some e) ended text is = inl (ap has_ended ended)
    by None ended Stop is = absurd (k.1 ended is)
    by None ended (Do a r) is = goes t th Local _ at ((p, ended), ap begins_step is, refl)
    by None ended (Choose d a b r) is = goes t th Local _ at ((p, ended), ap begins_step is, refl)
    by None ended (Loop d a r) is = goes t th Local _ at ((p, ended), ap begins_step is, refl)
    by None ended (Section i b r) is = goes t th Enter _ at (i, b, r, (p, ended), is, refl)

  waits_for : (t : ℕ) (th : ThreadState) (k : Key) (m : Mode) (rest : List Grip) → IsThread s t th
      → th.wanted ≡ grip k m ∷ rest → IsFound t (lets_in k m) s.threads → IsBlocked s th
  waits_for t th k m rest at wants f = by (held_mode k f.1.held) refl f.4 where
    by : (o : Option Mode) → held_mode k f.1.held ≡ o → lets o m ≡ false → IsBlocked s th
    by None h e = absurd (true≢false e)
    by (Some n) h e = record {
      key = k;
      mode = m;
      first = (rest, wants);
      asker = t;
      asking = th;
      asker_is = at;
      asked = m;
      asks = (rest, wants);
      holder = f.0;
      holding = f.1;
      holder_is = f.3;
      other = λ same. f.2 (sym same);
      held = n;
      holds = h;
      against = e;
    }

  goes_entered : (t : ℕ) (th : ThreadState) → IsThread s t th → th.position ≡ Entered → IsAt c s.store t Entered th
      → Goes th
  goes_entered t th at p k = by th.wanted refl where
    i : ℕ
    i = k.2.0

    ready : th.wanted ≡ [] → (b : Bool) → meets th.held (plan_at c k.2.0 s.store th.frame.work.locals) ≡ b → Goes th
    ready none true e = goes t th Begin _ at
        (k.2.0, k.2.1, k.2.2, record { entered = p; wanted = none; text = k.2.3 }, e, refl)
    ready none false e = goes t th Again _ at
        (k.2.0, k.2.1, k.2.2, record { entered = p; wanted = none; text = k.2.3 }, e, refl)

    asks : (g : Grip) (rest : List Grip) → th.wanted ≡ g ∷ rest → (b : Bool)
        → all_but t (lets_in g.key g.mode) s.threads ≡ b → Goes th
    asks g rest wants true e = goes t th (Take g.key g.mode) _ at (rest, p, wants, e, refl)
    asks g rest wants false e = inr
        (inr (waits_for t th g.key g.mode rest at wants (another_fails t (lets_in g.key g.mode) s.threads e)))

    by : (gs : List Grip) → th.wanted ≡ gs → Goes th
    by [] e = ready e (meets th.held (plan_at c k.2.0 s.store th.frame.work.locals)) refl
    by (g ∷ rest) e = asks g rest e (all_but t (lets_in g.key g.mode) s.threads) refl

  goes_running : (t i : ℕ) (k : TextView) (th : ThreadState) → IsThread s t th → th.position ≡ Running i k
      → IsSound (environment_at (program_of c) t) true k → Goes th
  goes_running t i Stop th at p sound = goes t th Leave _ at (None, (i, p), refl)
  goes_running t i (Do a r) th at p sound = goes t th Act _ at (i, Do a r, p, refl, refl)
  goes_running t i (Choose d a b r) th at p sound = goes t th Act _ at (i, Choose d a b r, p, refl, refl)
  goes_running t i (Loop d a r) th at p sound = goes t th Act _ at (i, Loop d a r, p, refl, refl)
  goes_running t i (Section j a r) th at p sound = absurd (true≢false sound.0)

  each_goes : (t : ℕ) (th : ThreadState) → IsThread s t th → IsThreadKept c s.store t th → Goes th
  each_goes t th at k = by th.position refl k.at where
    by : (p : Position) → th.position ≡ p → IsAt c s.store t p th → Goes th
    by Outside p a = goes_outside t th at p a
    by Entered p a = goes_entered t th at p a
    by (Running i r) p a = goes_running t i r th at p a.sound
    by (Faulted i why) p a = goes t th Leave _ at (Some why, (i, p), refl)

  -- some event is enabled, or no thread of the list can go on
  some_or_none : (ts : List ThreadState) → ((t : ℕ) (th : ThreadState) → slice_get ts t ≡ Some th → Goes th)
      → CanGoOn c s ⊎ ((t : ℕ) (th : ThreadState) → slice_get ts t ≡ Some th → (has_ended th.frame.ended ≡ true)
      ⊎ IsBlocked s th)
  some_or_none [] all = inr (λ t th e. absurd (none_or_some th e))
  some_or_none (x ∷ ts) all = by (all zero x refl) (some_or_none ts (λ t th e. all (suc t) th e)) where
    at_front : ((has_ended x.frame.ended ≡ true) ⊎ IsBlocked s x)
        → ((t : ℕ) (th : ThreadState) → slice_get ts t ≡ Some th → (has_ended th.frame.ended ≡ true) ⊎ IsBlocked s th)
        → (t : ℕ) (th : ThreadState) → slice_get (x ∷ ts) t ≡ Some th → (has_ended th.frame.ended ≡ true)
        ⊎ IsBlocked s th
    at_front h more zero th e = subst (λ (z : ThreadState). (has_ended z.frame.ended ≡ true) ⊎ IsBlocked s z)
        (some_injective x th e) h
    at_front h more (suc t) th e = more t th e

    by : Goes x → CanGoOn c s ⊎ ((t : ℕ) (th : ThreadState) → slice_get ts t ≡ Some th
        → (has_ended th.frame.ended ≡ true) ⊎ IsBlocked s th)
        → CanGoOn c s ⊎ ((t : ℕ) (th : ThreadState) → slice_get (x ∷ ts) t ≡ Some th → (has_ended th.frame.ended ≡ true)
        ⊎ IsBlocked s th)
    by (inr (inl can)) rest = inl can
    by h (inl can) = inl can
    by (inl ended) (inr more) = inr (at_front (inl ended) more)
    by (inr (inr blocked)) (inr more) = inr (at_front (inr blocked) more)

  can_go_on : IsWellKept c s → (t : ℕ) (th : ThreadState) → IsThread s t th → has_ended th.frame.ended ≡ false
      → CanGoOn c s
  can_go_on k t th at alive =
      ⊎_elim (λ can. can)
      (λ each. absurd (none_stuck s (λ u x there. (k.threads u x there).asks)
      (record { some = t; some_thread = th; some_is = at; alive = alive; each = each })))
      (some_or_none s.threads (λ u x there. each_goes u x there (k.threads u x there)))

-- while some thread hasn't ended, some event is enabled
pub something_happens : (c : CompiledView) → IsCompiled c → SomethingHappens c
something_happens c is fuel trace s r t th at alive =
    can_go_on c s (runs_are_well_kept c is fuel trace s r) t th at alive
