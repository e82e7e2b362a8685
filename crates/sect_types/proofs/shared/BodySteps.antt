-- What statements leave, step by step.
use Rattle.std.proofs.Common.{◌≡◌, ℕ, ℤ, zero, suc, ◌<◌, ◌≤◌, Option, Some, None, Bool, true, false, refl, sym, ap, ◌∙◌}
use Rattle.std.proofs.Common.{arith, if◌then◌else◌, true≢false}
use Rattle.sect_types.specs.{declared.expansion.action.Condition.{Condition}, declared.expansion.action.Action.{Action}}
use Rattle.sect_types.specs.{Statements.{TextView, Stop, Do, Choose, Loop, Section, joined}, Programs.{ProgramView}}
use Rattle.sect_types.specs.{declared.meaning.store.ObjectName.{ObjectName}, Sound.{IsSound}}
use Rattle.sect_types.specs.{declared.meaning.store.Datum.TheVariants.{Number}, Store.{ObjectView, StoreView}}
use Rattle.sect_types.specs.Meaning.{WorkView, Came, Went, Fell, Unchanged, after_change, assigned, name_in, base_datum}
use Rattle.sect_types.specs.Meaning.{value_datum, integer_of, result_of, fits, computed, stored, done, paid, one}
use Rattle.sect_types.specs.Meaning.{looked, looks, found_at, Next, On, Off, going, taken, next, is_true}
use Rattle.sect_types.specs.Whole.{Left, Through, Broken, and_then, left_by, tested, turns, body_of}
use Rattle.sect_types.specs.Environments.{Environment}
use Rattle.sect_types.specs.declared.expansion.action.Action.TheVariants as action
use Rattle.sect_types.specs.declared.meaning.store.Fault.TheVariants as fault

-- what a next step and all that comes after it leave
abbrev pub left_after : ProgramView → ℕ → StoreView → Next → Left
left_after p t s (On k w c) = body_of p t k w (after_change t s c)
left_after p t s (Off why w) = Broken why w s

-- three parts, one after another
and_then_twice : (a : Left) (f g : WorkView → StoreView → Left)
    → and_then (and_then a f) g ≡ and_then a (λ w s. and_then (f w s) g)
and_then_twice (Through w s) f g = refl
and_then_twice (Broken why w s) f g = refl

-- equal tails
same_after : (a : Left) (f g : WorkView → StoreView → Left) → ((w : WorkView) (s : StoreView) → f w s ≡ g w s)
    → and_then a f ≡ and_then a g
same_after (Through w s) f g h = h w s
same_after (Broken why w s) f g h = refl

-- in two parts: where each tail is the two parts of it, so is the whole
in_two : (a : Left) (whole first second : WorkView → StoreView → Left)
    → ((w : WorkView) (s : StoreView) → whole w s ≡ and_then (first w s) second)
    → and_then a whole ≡ and_then (and_then a first) second
in_two a whole first second h = same_after a whole (λ w s. and_then (first w s) second) h
    ∙ sym (and_then_twice a first second)

-- what statements in two parts leave
pub body_of-joined : (p : ProgramView) (t : ℕ) (k l : TextView) (w : WorkView) (s : StoreView)
    → body_of p t (joined k l) w s ≡ and_then (body_of p t k w s) (body_of p t l)
body_of-joined p t Stop l w s = refl
body_of-joined p t (Do a r) l w s =
    in_two (left_by t s (one p t a (found_at s (looked a w.locals)) w)) (body_of p t (joined r l)) (body_of p t r)
    (body_of p t l) (body_of-joined p t r l)
body_of-joined p t (Choose c y n r) l w s =
    in_two (tested w.fuel c (body_of p t y) (body_of p t n) w s) (body_of p t (joined r l)) (body_of p t r)
    (body_of p t l) (body_of-joined p t r l)
body_of-joined p t (Loop c b r) l w s =
    in_two (turns (suc w.fuel) c (body_of p t b) w s) (body_of p t (joined r l)) (body_of p t r) (body_of p t l)
    (body_of-joined p t r l)
body_of-joined p t (Section i b r) l w s = body_of-joined p t r l w s

-- no more fuel is left than this
abbrev Within : ℕ → Left → Type 0
Within n (Through w s) = w.fuel ≤ n
Within n (Broken why w s) = Unit {0}

-- a greater bound
within_more : (n m : ℕ) (a : Left) → n ≤ m → Within n a → Within m a
within_more n m (Through w s) le h = omega (arith, le, h)
within_more n m (Broken why w s) le h = tt

-- two parts, one after another
within_then : (n : ℕ) (a : Left) (f : WorkView → StoreView → Left) → Within n a
    → ((w : WorkView) (s : StoreView) → Within w.fuel (f w s)) → Within n (and_then a f)
within_then n (Through w s) f h g = within_more w.fuel n (f w s) h (g w s)
within_then n (Broken why w s) f h g = tt

-- a statement takes no more than its unit
done_within : (p : ProgramView) (t n : ℕ) (a : Action) (w : WorkView) (s : StoreView) (found : Option ObjectView)
    → w.fuel ≤ n → Within n (left_by t s (done p t a found w))
done_within p t n (action.Assign x v) w s found le = le
done_within p t n (action.Compute x v o u) w s found le =
    by (result_of o (integer_of (value_datum w.locals v)) (integer_of (value_datum w.locals u))) where
      by : (z : ℤ) → Within n (left_by t s (computed x z w))
      by z = fit (fits z) where
        fit : (b : Bool) → Within n (left_by t s
            (if b then Went (assigned x (Number z) w) Unchanged else Fell fault.Overflow w))
        fit true = le
        fit false = tt
done_within p t n (action.New x r site) w s found le = le
done_within p t n (action.Load x b f) w s None le = tt
done_within p t n (action.Load x b f) w s (Some o) le = le
done_within p t n (action.Store b f v) w s found le = by (name_in (base_datum w.locals b)) where
  by : (o : Option ObjectName) → Within n (left_by t s (stored f.number (value_datum w.locals v) o w))
  by None = tt
  by (Some o) = le
done_within p t n (action.Print v) w s found le = le

-- with its unit
one_within : (p : ProgramView) (t : ℕ) (a : Action) (w : WorkView) (s : StoreView) (found : Option ObjectView)
    → Within w.fuel (left_by t s (one p t a found w))
one_within p t a w s found = by w.fuel where
  by : (n : ℕ) → Within n (left_by t s (paid n w (done p t a found)))
  by zero = tt
  by (suc n) = done_within p t (suc n) a (record w { fuel = n }) s found (omega arith)

-- a test
tested_within : (n : ℕ) (c : Condition) (good bad : WorkView → StoreView → Left) (w : WorkView) (s : StoreView)
    → ((v : WorkView) (r : StoreView) → Within v.fuel (good v r))
    → ((v : WorkView) (r : StoreView) → Within v.fuel (bad v r)) → Within n (tested n c good bad w s)
tested_within zero c good bad w s g b = tt
tested_within (suc n) c good bad w s g b = by (is_true w.locals c) where
  by : (holds : Bool) → Within (suc n) (if holds then good (record w { fuel = n }) s else bad (record w { fuel = n }) s)
  by true = within_more n (suc n) (good (record w { fuel = n }) s) (omega arith) (g (record w { fuel = n }) s)
  by false = within_more n (suc n) (bad (record w { fuel = n }) s) (omega arith) (b (record w { fuel = n }) s)

-- a loop
turns_within : (n : ℕ) (c : Condition) (round : WorkView → StoreView → Left)
    → ((w : WorkView) (s : StoreView) → Within w.fuel (round w s))
    → (w : WorkView) (s : StoreView) → Within w.fuel (turns n c round w s)
turns_within zero c round h w s = tt
turns_within (suc n) c round h w s =
    tested_within w.fuel c (λ v r. and_then (round v r) (turns n c round)) Through w s
    (λ v r. within_then v.fuel (round v r) (turns n c round) (h v r) (turns_within n c round h)) (λ v r. omega arith)

-- statements never leave more fuel than there was
body_within : (p : ProgramView) (t : ℕ) (k : TextView) (w : WorkView) (s : StoreView)
    → Within w.fuel (body_of p t k w s)
body_within p t Stop w s = omega arith
body_within p t (Do a r) w s =
    within_then w.fuel (left_by t s (one p t a (found_at s (looked a w.locals)) w)) (body_of p t r)
    (one_within p t a w s (found_at s (looked a w.locals))) (body_within p t r)
body_within p t (Choose c y n r) w s =
    within_then w.fuel (tested w.fuel c (body_of p t y) (body_of p t n) w s) (body_of p t r)
    (tested_within w.fuel c (body_of p t y) (body_of p t n) w s (body_within p t y) (body_within p t n))
    (body_within p t r)
body_within p t (Loop c b r) w s =
    within_then w.fuel (turns (suc w.fuel) c (body_of p t b) w s) (body_of p t r)
    (turns_within (suc w.fuel) c (body_of p t b) (body_within p t b) w s) (body_within p t r)
body_within p t (Section i b r) w s = body_within p t r w s

-- a bound on the rounds that is above the fuel is as good as another
turns_alike : (n m : ℕ) (c : Condition) (round : WorkView → StoreView → Left)
    → ((w : WorkView) (s : StoreView) → Within w.fuel (round w s))
    → (w : WorkView) (s : StoreView) → w.fuel < n → w.fuel < m → turns n c round w s ≡ turns m c round w s
turns_alike zero m c round h w s a b = absurd (omega (arith, a))
turns_alike (suc n) zero c round h w s a b = absurd (omega (arith, b))
turns_alike (suc n) (suc m) c round h w s a b = by_fuel (λ v r. turns_alike n m c round h v r) w.fuel a b where
  again : (k : ℕ) → ((v : WorkView) (r : StoreView) → v.fuel ≤ k → turns n c round v r ≡ turns m c round v r)
      → (l : Left) → Within k l
      → and_then l (turns n c round) ≡ and_then l (turns m c round)
  again k same (Through v r) i = same v r i
  again k same (Broken why v r) i = refl

  by_fuel : ((v : WorkView) (r : StoreView) → v.fuel < n → v.fuel < m → turns n c round v r ≡ turns m c round v r)
      → (k : ℕ) → k < suc n → k < suc m
      → tested k c (λ v r. and_then (round v r) (turns n c round)) Through w s ≡ tested k c
      (λ v r. and_then (round v r) (turns m c round)) Through w s
  by_fuel same zero a b = refl
  by_fuel same (suc k) a b = by (is_true w.locals c) where
    by : (holds : Bool)
        → (if holds then and_then (round (record w { fuel = k }) s) (turns n c round) else Through
        (record w { fuel = k }) s)
        ≡ (if holds then and_then (round (record w { fuel = k }) s) (turns m c round) else Through
        (record w { fuel = k }) s)
    by true = again k (λ v r le. same v r (omega (arith, a, le)) (omega (arith, b, le)))
        (round (record w { fuel = k }) s) (h (record w { fuel = k }) s)
    by false = refl

-- a loop's first round, and the rest
turns_step : (p : ProgramView) (t : ℕ) (c : Condition) (b r : TextView) (w : WorkView) (s : StoreView) (n : ℕ)
    → and_then (tested n c (λ v q. and_then (body_of p t b v q) (turns n c (body_of p t b))) Through w s)
    (body_of p t r)
    ≡ left_after p t s (taken n c (joined b (Loop c b r)) r w)
turns_step p t c b r w s zero = refl
turns_step p t c b r w s (suc n) = by (is_true w.locals c) where
  rest : (l : Left) → Within n l
      → and_then (and_then l (turns (suc n) c (body_of p t b))) (body_of p t r) ≡ and_then l (body_of p t (Loop c b r))
  rest (Through v q) le =
      ap (λ l. and_then l (body_of p t r))
      (turns_alike (suc n) (suc v.fuel) c (body_of p t b) (body_within p t b) v q (omega (arith, le)) (omega arith))
  rest (Broken why v q) le = refl

  by : (holds : Bool)
      → and_then (if holds then and_then (body_of p t b (record w { fuel = n }) s)
      (turns (suc n) c (body_of p t b)) else Through (record w { fuel = n }) s) (body_of p t r)
      ≡ body_of p t (if holds then joined b (Loop c b r) else r) (record w { fuel = n }) s
  by true =
      rest (body_of p t b (record w { fuel = n }) s) (body_within p t b (record w { fuel = n }) s)
      ∙ sym (body_of-joined p t b (Loop c b r) (record w { fuel = n }) s)
  by false = refl

-- an `if` and the rest
choice_step : (p : ProgramView) (t : ℕ) (c : Condition) (y z r : TextView) (w : WorkView) (s : StoreView) (n : ℕ)
    → and_then (tested n c (body_of p t y) (body_of p t z) w s) (body_of p t r) ≡ left_after p t s
    (taken n c (joined y r) (joined z r) w)
choice_step p t c y z r w s zero = refl
choice_step p t c y z r w s (suc n) = by (is_true w.locals c) where
  by : (holds : Bool)
      → and_then (if holds then body_of p t y (record w { fuel = n }) s else body_of p t z (record w { fuel = n }) s)
      (body_of p t r)
      ≡ body_of p t (if holds then joined y r else joined z r) (record w { fuel = n }) s
  by true = sym (body_of-joined p t y r (record w { fuel = n }) s)
  by false = sym (body_of-joined p t z r (record w { fuel = n }) s)

-- a statement and the rest
went_on : (p : ProgramView) (t : ℕ) (r : TextView) (s : StoreView) (came : Came)
    → and_then (left_by t s came) (body_of p t r) ≡ left_after p t s (going r came)
went_on p t r s (Went w c) = refl
went_on p t r s (Fell why w) = refl

-- what statements leave is what is left after their next step
pub step_keeps : (p : ProgramView) (t : ℕ) (k : TextView) (w : WorkView) (s : StoreView)
    → body_of p t k w s ≡ left_after p t s (next p t k (found_at s (looks k w)) w)
step_keeps p t Stop w s = refl
step_keeps p t (Do a r) w s = went_on p t r s (one p t a (found_at s (looked a w.locals)) w)
step_keeps p t (Choose c y z r) w s = choice_step p t c y z r w s w.fuel
step_keeps p t (Loop c b r) w s = turns_step p t c b r w s w.fuel
step_keeps p t (Section i b r) w s = refl

-- outside sections a sound statement looks into no object
pub looks_nowhere : (e : Environment) (k : TextView) (w : WorkView) → IsSound e false k → looks k w ≡ None
looks_nowhere e Stop w h = refl
looks_nowhere e (Do (action.Assign x v) k) w h = refl
looks_nowhere e (Do (action.Compute x v o u) k) w h = refl
looks_nowhere e (Do (action.New x r site) k) w h = refl
looks_nowhere e (Do (action.Load x b f) k) w h = absurd (true≢false h.1)
looks_nowhere e (Do (action.Store b f v) k) w h = absurd (true≢false h.1)
looks_nowhere e (Do (action.Print v) k) w h = refl
looks_nowhere e (Choose c p q k) w h = refl
looks_nowhere e (Loop c p k) w h = refl
looks_nowhere e (Section i p k) w h = refl
