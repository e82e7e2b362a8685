-- Where threads ask for keys in order, no state is stuck.
use Rattle.std.proofs.Common.{◌≡◌, ℕ, zero, suc, Bool, true, false, refl, sym, ap, ◌∙◌, subst, ◌⊎◌, inl, inr, ⊎_elim}
use Rattle.std.proofs.Common.{true≢false, List, [], ◌∷◌, ◌++◌, Some}
use Rattle.std.specs.Prelude.{slice_get}
use Rattle.sect_modes.specs.{declared.mode.Mode.{Mode}, declared.key.Key.{Key}, Key.{is_key_below}}
use Rattle.sect_emit.specs.{declared.plan.Grip.{Grip}, Plan.{grip, held_mode, Ascends}}
use Rattle.sect_emit.specs.Compiled.{CompiledView, IsCompiled}
use Rattle.sect_emit.specs.State.{Position, Outside, Entered, Running, Faulted, ThreadState, State, IsThread}
use Rattle.sect_types.specs.Whole.{has_ended}
use Rattle.sect_world.specs.{Blocked.{WantsFirst, IsBlocked, IsStuck}, Laws.{NoStateIsStuck}}
use Rattle.sect_world.specs.Kept.{IsPlaced, AsksInOrder}
use Rattle.sect_lemmas.proofs.Options.{some_injective, none_or_some}
use Rattle.sect_emit.proofs.shared.{Keys.{not_below_itself, below_along}, Plans.{mode_is_there, ascending_across}}
use Rattle.sect_world.proofs.KeptStates.{runs_are_well_kept}

nothing_first : (g : Grip) (gs : List Grip) → g ∷ gs ≡ [] → ⊥
nothing_first g gs e = subst IsNone (sym e) tt where
  IsNone : List Grip → Type 0
  IsNone [] = Unit {0}
  IsNone (x ∷ xs) = ⊥

-- who holds a key hasn't ended
holder_lives : (th : ThreadState) (k : Key) (m : Mode) → AsksInOrder th → held_mode k th.held ≡ Some m
    → has_ended th.frame.ended ≡ false
holder_lives th k m a h = by th.position a where
  by : (p : Position) → IsPlaced p th → has_ended th.frame.ended ≡ false
  by Outside q = absurd (none_or_some m (subst (λ gs. held_mode k gs ≡ Some m) q.0 h))
  by Entered q = ap has_ended q.0
  by (Running i r) q = ap has_ended q.0
  by (Faulted i why) q = ap has_ended q.0

-- and what it holds is below what it wants first
held_below : (th : ThreadState) (k h : Key) (m n : Mode) → AsksInOrder th → WantsFirst th k m
    → held_mode h th.held ≡ Some n → is_key_below h k ≡ true
held_below th k h m n a w e = by th.position a where
  by : (p : Position) → IsPlaced p th → is_key_below h k ≡ true
  by Outside q = absurd (nothing_first (grip k m) w.0 (sym w.1 ∙ q.1))
  by Entered q = ascending_across th.held (grip k m ∷ w.0) (subst (λ gs. Ascends (th.held ++ gs)) w.1 q.1) (grip h n)
      (grip k m) (mode_is_there h n th.held e) (inl refl)
  by (Running i r) q = absurd (nothing_first (grip k m) w.0 (sym w.1 ∙ q.1))
  by (Faulted i why) q = absurd (nothing_first (grip k m) w.0 (sym w.1 ∙ q.1))

-- a first wanted key of a thread that hasn't ended, with no greater one
record Greatest (ts : List ThreadState) : Type 0 where
  key : Key
  mode : Mode
  at : ℕ
  thread : ThreadState
  is_at : slice_get ts at ≡ Some thread
  alive : has_ended thread.frame.ended ≡ false
  wants : WantsFirst thread key mode
  none_above : (t : ℕ) (th : ThreadState) (k : Key) (m : Mode) → slice_get ts t ≡ Some th
      → has_ended th.frame.ended ≡ false → WantsFirst th k m → is_key_below key k ≡ true → ⊥

abbrev NobodyWants : List ThreadState → Type 0
NobodyWants ts = (t : ℕ) (th : ThreadState) (k : Key) (m : Mode) → slice_get ts t ≡ Some th
    → has_ended th.frame.ended ≡ false → WantsFirst th k m → ⊥

-- the first thread counts for nothing
skip_greatest : (th : ThreadState) (ts : List ThreadState)
    → ((k : Key) (m : Mode) → has_ended th.frame.ended ≡ false → WantsFirst th k m → ⊥) → Greatest ts ⊎ NobodyWants ts
    → Greatest (th ∷ ts) ⊎ NobodyWants (th ∷ ts)
skip_greatest th ts none (inl g) =
    inl (record {
      key = g.key;
      mode = g.mode;
      at = suc g.at;
      thread = g.thread;
      is_at = g.is_at;
      alive =
          g.alive;
      wants = g.wants;
      none_above = above;
    }) where
      above : (t : ℕ) (u : ThreadState) (k : Key) (m : Mode) → slice_get (th ∷ ts) t ≡ Some u
          → has_ended u.frame.ended ≡ false → WantsFirst u k m → is_key_below g.key k ≡ true → ⊥
      above zero u k m a e w l = let same = some_injective th u a in
          none k m (ap (λ x. has_ended x.frame.ended) same ∙ e) (subst (λ x. WantsFirst x k m) (sym same) w)
      above (suc t) u k m a e w l = g.none_above t u k m a e w l
skip_greatest th ts none (inr n) = inr nobody where
  nobody : NobodyWants (th ∷ ts)
  nobody zero u k m a e w = let same = some_injective th u a in
      none k m (ap (λ x. has_ended x.frame.ended) same ∙ e) (subst (λ x. WantsFirst x k m) (sym same) w)
  nobody (suc t) u k m a e w = n t u k m a e w

first_key : Key → List Grip → Key
first_key d [] = d
first_key d (g ∷ gs) = g.key

one_first : (th : ThreadState) (k j : Key) (m n : Mode) → WantsFirst th k m → WantsFirst th j n → k ≡ j
unfolding first_key
one_first th k j m n w v = ap (first_key k) (sym w.1 ∙ v.1)

join_greatest : (th : ThreadState) (ts : List ThreadState) (k0 : Key) (m0 : Mode) → has_ended th.frame.ended ≡ false
    → WantsFirst th k0 m0 → Greatest ts ⊎ NobodyWants ts → Greatest (th ∷ ts)
join_greatest th ts k0 m0 live w0 (inl g) = by (is_key_below g.key k0) refl where
  key_is : (u : ThreadState) (k : Key) (m : Mode) → th ≡ u → WantsFirst u k m → k ≡ k0
  key_is u k m same w = one_first th k k0 m m0 (subst (λ x. WantsFirst x k m) (sym same) w) w0

  by : (b : Bool) → is_key_below g.key k0 ≡ b → Greatest (th ∷ ts)
  by true is = record {
    key = k0;
    mode = m0;
    at = zero;
    thread = th;
    is_at = refl;
    alive = live;
    wants =
        w0;
    none_above = above;
  } where
    above : (t : ℕ) (u : ThreadState) (k : Key) (m : Mode) → slice_get (th ∷ ts) t ≡ Some u
        → has_ended u.frame.ended ≡ false → WantsFirst u k m → is_key_below k0 k ≡ true → ⊥
    above zero u k m a e w l = not_below_itself k0
        (subst (λ x. is_key_below k0 x ≡ true) (key_is u k m (some_injective th u a) w) l)
    above (suc t) u k m a e w l = g.none_above t u k m a e w (below_along g.key k0 k is l)
  by false is = record {
    key = g.key;
    mode = g.mode;
    at = suc g.at;
    thread = g.thread;
    is_at = g.is_at;
    alive =
        g.alive;
    wants = g.wants;
    none_above = above;
  } where
    above : (t : ℕ) (u : ThreadState) (k : Key) (m : Mode) → slice_get (th ∷ ts) t ≡ Some u
        → has_ended u.frame.ended ≡ false → WantsFirst u k m → is_key_below g.key k ≡ true → ⊥
    above zero u k m a e w l = true≢false
        (sym l ∙ ap (is_key_below g.key) (key_is u k m (some_injective th u a) w) ∙ is)
    above (suc t) u k m a e w l = g.none_above t u k m a e w l
join_greatest th ts k0 m0 live w0 (inr n) =
    record { key = k0; mode = m0; at = zero; thread = th; is_at = refl; alive = live; wants = w0; none_above = above }
  where
    above : (t : ℕ) (u : ThreadState) (k : Key) (m : Mode) → slice_get (th ∷ ts) t ≡ Some u
        → has_ended u.frame.ended ≡ false → WantsFirst u k m → is_key_below k0 k ≡ true → ⊥
    above zero u k m a e w l = not_below_itself k0
        (subst (λ x. is_key_below k0 x ≡ true)
        (one_first th k k0 m m0 (subst (λ x. WantsFirst x k m) (sym (some_injective th u a)) w) w0) l)
    above (suc t) u k m a e w l = n t u k m a e w

greatest_key : (ts : List ThreadState) → Greatest ts ⊎ NobodyWants ts
greatest_key [] = inr (λ t th k m a e w. none_or_some th a)
greatest_key (th ∷ ts) = by (greatest_key ts) (has_ended th.frame.ended) refl th.wanted refl where
  by : Greatest ts ⊎ NobodyWants ts → (b : Bool) → has_ended th.frame.ended ≡ b → (gs : List Grip) → th.wanted ≡ gs
      → Greatest (th ∷ ts) ⊎ NobodyWants (th ∷ ts)
  by rest true e gs w = skip_greatest th ts (λ k m f v. true≢false (sym e ∙ f)) rest
  by rest false e [] w = skip_greatest th ts (λ k m f v. nothing_first (grip k m) v.0 (sym v.1 ∙ w)) rest
  by rest false e (g ∷ gs) w = inl (join_greatest th ts g.key g.mode e (gs, w) rest)

-- all threads ask in key order
abbrev AllAskInOrder : State → Type 0
AllAskInOrder s = (t : ℕ) (th : ThreadState) → IsThread s t th → AsksInOrder th

-- where all ask in order, some thread can go on
pub none_stuck : (s : State) → AllAskInOrder s → IsStuck s → ⊥
none_stuck s ordered k = ⊎_elim greatest nobody (greatest_key s.threads) where
  live : (t : ℕ) (th : ThreadState) → IsThread s t th → has_ended th.frame.ended ≡ false → IsBlocked s th
  live t th a e = ⊎_elim (λ f. absurd (true≢false (sym f ∙ e))) (λ b. b) (k.each t th a)

  nobody : NobodyWants s.threads → ⊥
  nobody n = let b = live k.some k.some_thread k.some_is k.alive in
      n k.some k.some_thread b.key b.mode k.some_is k.alive b.first

  greatest : Greatest s.threads → ⊥
  greatest g =
      let b = live g.at g.thread g.is_at g.alive in
      let on = holder_lives b.holding b.key b.held (ordered b.holder b.holding b.holder_is) b.holds in
      let c = live b.holder b.holding b.holder_is on in
      let below = held_below b.holding c.key b.key c.mode b.held (ordered b.holder b.holding b.holder_is) c.first
      b.holds in
      g.none_above b.holder b.holding c.key c.mode b.holder_is on c.first
      (subst (λ x. is_key_below x c.key ≡ true) (one_first g.thread b.key g.key b.mode g.mode b.first g.wants)
      below)

-- no state of a run is stuck
pub no_state_is_stuck : (c : CompiledView) → IsCompiled c → NoStateIsStuck c
no_state_is_stuck c is fuel trace s r =
    none_stuck s (λ t th at. ((runs_are_well_kept c is fuel trace s r).threads t th at).asks)
