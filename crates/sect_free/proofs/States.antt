-- States between sections once local code is run, and what follows them.
use Rattle.std.proofs.Common.{◌≡◌, ◌≤◌, ◌+◌, ◌-◌, inl, inr, ℕ, ℤ, zero, suc, List, [], ◌∷◌, ◌++◌, map, Option, Some}
use Rattle.std.proofs.Common.{None, Bool, true, false, refl, sym, ap, subst, ◌∙◌, arith, if◌then◌else◌, slice_get}
use Rattle.sect_types.specs.{Statements.{TextView, Stop, Do, Choose, Loop, Section}, Programs.{ProgramView}}
use Rattle.sect_types.specs.{Meaning.{WorkView}, Store.{StoreView}}
use Rattle.sect_types.specs.Whole.{Left, FrameView, RunView, ahead, all_ahead, has_ended, body_of, in_order, begun}
use Rattle.sect_types.specs.Whole.{frame_left, printed_left, after_section, section_by, section_in}
use Rattle.sect_types.specs.Whole.{section_of_thread, run_section, option_then}
use Rattle.sect_lemmas.specs.Lists.{put_at}
use Rattle.sect_lemmas.proofs.Options.{some_injective, none_or_some, mapped}
use Rattle.sect_types.proofs.shared.RunningAhead.{get-all_ahead}
use Rattle.sect_free.proofs.MoreSteps.{more_frame, FrameHelped, ahead_helped, ahead_lacks}
use Rattle.sect_free.proofs.MoreSections.{more_frames, more_run, RunHelped, order_helped, begun_more}
use Rattle.sect_types.specs.declared.meaning.store.End.{End}
use Rattle.sect_types.specs.declared.meaning.store.End.TheVariants.{Failed}
use Rattle.sect_types.specs.Whole.{SerialEndView, EndsAs, RunsWhole}
use Rattle.sect_lemmas.specs.Lists.{Has}
use Rattle.sect_free.specs.States.{FrameLacks, Lacks, run_on, bare_frame, bare}
use Rattle.sect_free.specs.{Freely.{LacksNone, RunsFreely}, States.{FuturesAreOfStates}}
use Rattle.sect_free.proofs.Freely.{fuel_only_helps}
use Rattle.sect_types.specs.declared.meaning.store.Fault.TheVariants as fault

-- a state by its parts
abbrev pub state : StoreView → List ℤ → List FrameView → RunView
state s o fs = record { store = s; output = o; frames = fs }

pub alike : (s r : StoreView) (o q : List ℤ) (fs gs : List FrameView) → s ≡ r → o ≡ q → fs ≡ gs
    → state s o fs ≡ state r q gs
alike s r o q fs gs x y z = λ i. state (x i) (y i) (z i)

pub joined : {X : Type 0} (x y : X) (xs ys : List X) → x ≡ y → xs ≡ ys → x ∷ xs ≡ y ∷ ys
joined x y xs ys e h = λ i. e i ∷ h i

-- the numbers of threads are counted from the first
from_zero : (t : ℕ) → 0 + t ≡ t
from_zero t = omega arith

-- a frame put among those whose local code is run
all_put : (p : ProgramView) (k t : ℕ) (f : FrameView) (fs : List FrameView)
    → all_ahead p k (put_at t f fs) ≡ put_at t (ahead p (k + t) f) (all_ahead p k fs)
all_put p k t f [] = refl
all_put p k zero f (x ∷ fs) = let e : k ≡ k + zero = omega arith in
    ap (λ n. ahead p n f ∷ all_ahead p (k + 1) fs) e
all_put p k (suc t) f (x ∷ fs) = let e : k + 1 + t ≡ k + suc t = omega arith in
    ap (λ gs. ahead p k x ∷ gs)
    (all_put p (k + 1) t f fs ∙ ap (λ n. put_at t (ahead p n f) (all_ahead p (k + 1) fs)) e)

put_ahead : (p : ProgramView) (t : ℕ) (f : FrameView) (fs : List FrameView)
    → all_ahead p 0 (put_at t f fs) ≡ put_at t (ahead p t f) (all_ahead p 0 fs)
put_ahead p t f fs = all_put p 0 t f fs ∙ ap (λ n. put_at t (ahead p n f) (all_ahead p 0 fs)) (from_zero t)

-- a thread's frame among them
pub at_ahead : (p : ProgramView) (fs : List FrameView) (t : ℕ) (f : FrameView) → slice_get fs t ≡ Some f
    → slice_get (all_ahead p 0 fs) t ≡ Some (ahead p t f)
at_ahead p fs t f at =
    get-all_ahead p 0 fs t ∙ ap (mapped (ahead p (0 + t))) at ∙ ap (λ n. Some (ahead p n f)) (from_zero t)

from_ahead : (p : ProgramView) (fs : List FrameView) (t : ℕ) (a : FrameView) → slice_get (all_ahead p 0 fs) t ≡ Some a
    → (f : FrameView) × (slice_get fs t ≡ Some f) × (ahead p t f ≡ a)
from_ahead p fs t a e = by (slice_get fs t) refl where
  by : (o : Option FrameView) → slice_get fs t ≡ o → (f : FrameView) × (slice_get fs t ≡ Some f) × (ahead p t f ≡ a)
  by None at = absurd (none_or_some a (sym (get-all_ahead p 0 fs t ∙ ap (mapped (ahead p (0 + t))) at) ∙ e))
  by (Some f) at = (f, at, some_injective (ahead p t f) a (sym (at_ahead p fs t f at) ∙ e))

-- states that are one once local code is run
abbrev AreAlike : ProgramView → RunView → RunView → Type 0
AreAlike p x y = run_on p x ≡ run_on p y

-- what a section leaves of them
left_alike : (p : ProgramView) (t : ℕ) (rest : TextView) (l m : Left) (x y : RunView) → AreAlike p x y → l ≡ m
    → AreAlike p (after_section t rest l x) (after_section t rest m y)
left_alike p t rest l m x y same e =
    ap (λ l. run_on p (after_section t rest l x)) e
    ∙ alike _ _ _ _ _ _ refl (ap (λ (r : RunView). r.output ++ printed_left m) same)
    (put_ahead p t (frame_left rest m) x.frames
    ∙ ap (λ (r : RunView). put_at t (ahead p t (frame_left rest m)) r.frames) same
    ∙ sym (put_ahead p t (frame_left rest m) y.frames))

-- one leads to such a state as the other does
abbrev Follows : ProgramView → RunView → Option RunView → Type 0
Follows p x o = (y : RunView) × (o ≡ Some y) × AreAlike p x y

section_alike : (p : ProgramView) (t : ℕ) (k : TextView) (w : WorkView) (x y z : RunView) → AreAlike p x y
    → section_by p t k w x ≡ Some z → Follows p z (section_by p t k w y)
section_alike p t Stop w x y z same e = absurd (none_or_some z e)
section_alike p t (Do a k) w x y z same e = absurd (none_or_some z e)
section_alike p t (Choose c b n k) w x y z same e = absurd (none_or_some z e)
section_alike p t (Loop c b k) w x y z same e = absurd (none_or_some z e)
section_alike p t (Section i part rest) w x y z same e = (
  after_section t rest (body_of p t part w y.store) y,
  refl,
  ap (run_on p) (sym (some_injective _ z e))
      ∙ left_alike p t rest (body_of p t part w x.store) (body_of p t part w y.store) x y same
      (ap (λ (r : RunView). body_of p t part w r.store) same),
)

in_alike : (p : ProgramView) (t : ℕ) (f : FrameView) (x y z : RunView) → AreAlike p x y
    → section_in p t f x ≡ Some z → Follows p z (section_in p t f y)
in_alike p t f x y z same e = by (has_ended f.ended) e where
  by : (b : Bool) → (if b then None else section_by p t f.text f.work x) ≡ Some z
      → Follows p z (if b then None else section_by p t f.text f.work y)
  by true e = absurd (none_or_some z e)
  by false e = section_alike p t f.text f.work x y z same e

run_alike : (p : ProgramView) (t : ℕ) (x y z : RunView) → AreAlike p x y
    → run_section p t x ≡ Some z → Follows p z (run_section p t y)
run_alike p t x y z same e = by (slice_get x.frames t) refl e where
  by : (o : Option FrameView) → slice_get x.frames t ≡ o → section_of_thread p t o x ≡ Some z
      → Follows p z (run_section p t y)
  by None at e = absurd (none_or_some z e)
  by (Some f) at e =
      let there = from_ahead p y.frames t (ahead p t f)
      (ap (λ (r : RunView). slice_get r.frames t) (sym same) ∙ at_ahead p x.frames t f at) in
      subst (λ o. Follows p z (section_of_thread p t o y)) (sym there.1)
      (subst (λ a. Follows p z (section_in p t a y)) (sym there.2) (in_alike p t (ahead p t f) x y z same e))

order_alike : (p : ProgramView) (order : List ℕ) (x y z : RunView) → AreAlike p x y
    → in_order p order x ≡ Some z → Follows p z (in_order p order y)
order_alike p [] x y z same e = (y, refl, ap (run_on p) (sym (some_injective x z e)) ∙ same)
order_alike p (t ∷ ts) x y z same e = by (λ a b. order_alike p ts a b z) (run_section p t x) refl e where
  by : ((a b : RunView) → AreAlike p a b → in_order p ts a ≡ Some z → Follows p z (in_order p ts b))
      → (o : Option RunView) → run_section p t x ≡ o → option_then o (in_order p ts) ≡ Some z
      → Follows p z (in_order p (t ∷ ts) y)
  by again None ran e = absurd (none_or_some z e)
  by again (Some a) ran e =
      let b = run_alike p t x y a same ran in
      subst (λ o. Follows p z (option_then o (in_order p ts))) (sym b.1) (again a b.0 b.2 e)

-- two orders, one behind the other
order_joined : (p : ProgramView) (xs ys : List ℕ) (s : RunView)
    → in_order p (xs ++ ys) s ≡ option_then (in_order p xs s) (in_order p ys)
order_joined p [] ys s = refl
order_joined p (t ∷ ts) ys s = by (λ x. order_joined p ts ys x) (run_section p t s) where
  by : ((x : RunView) → in_order p (ts ++ ys) x ≡ option_then (in_order p ts x) (in_order p ys)) → (o : Option RunView)
      → option_then o (in_order p (ts ++ ys)) ≡ option_then (option_then o (in_order p ts)) (in_order p ys)
  by again None = refl
  by again (Some x) = again x

pub behind : (p : ProgramView) (xs ys : List ℕ) (s r : RunView) → in_order p xs s ≡ Some r
    → in_order p (xs ++ ys) s ≡ in_order p ys r
behind p xs ys s r e = order_joined p xs ys s ∙ ap (λ o. option_then o (in_order p ys)) e

-- local code with more fuel
all_more : (p : ProgramView) (ds : ℕ → ℕ) (k : ℕ) (fs : List FrameView)
    → ((t : ℕ) (f : FrameView) → slice_get (all_ahead p k fs) t ≡ Some f → FrameLacks f → ⊥)
    → all_ahead p k (more_frames ds fs) ≡ more_frames ds (all_ahead p k fs)
all_more p ds k [] none = refl
all_more p ds k (f ∷ fs) none =
    joined _ _ _ _ (own (ahead_helped p k (ds 0) f)) (all_more p (λ k. ds (suc k)) (k + 1) fs (λ t g. none (suc t) g))
  where
    own : FrameHelped (ds 0) (ahead p k f) (ahead p k (more_frame (ds 0) f))
        → ahead p k (more_frame (ds 0) f) ≡ more_frame (ds 0) (ahead p k f)
    own (inl lacks) = absurd (none 0 (ahead p k f) refl lacks)
    own (inr same) = same

pub on_more : (p : ProgramView) (ds : ℕ → ℕ) (s : RunView) → (Lacks (run_on p s) → ⊥)
    → run_on p (more_run ds s) ≡ more_run ds (run_on p s)
on_more p ds s none =
    ap (λ fs. state s.store s.output fs) (all_more p ds 0 s.frames (λ t f at lacks. none (t, f, at, lacks)))

-- who lacks fuel lacks it once local code is run
lacks_on : (p : ProgramView) (s : RunView) → Lacks s → Lacks (run_on p s)
lacks_on p s (t, f, at, lacks) = (t, ahead p t f, at_ahead p s.frames t f at, ahead_lacks p t f lacks)

-- and whoever lacks it with more lacks it with less
from_more : (ds : ℕ → ℕ) (fs : List FrameView) (t : ℕ) (g : FrameView) → slice_get (more_frames ds fs) t ≡ Some g
    → (f : FrameView) × (slice_get fs t ≡ Some f) × (more_frame (ds t) f ≡ g)
from_more ds [] t g at = absurd (none_or_some g at)
from_more ds (f ∷ fs) zero g at = (f, refl, some_injective (more_frame (ds 0) f) g at)
from_more ds (f ∷ fs) (suc t) g at = from_more (λ k. ds (suc k)) fs t g at

pub lacks_more : (ds : ℕ → ℕ) (r : RunView) → Lacks (more_run ds r) → Lacks r
lacks_more ds r (t, g, at, lacks) =
    let f = from_more ds r.frames t g at in
    (t, f.0, f.1, ap (λ (x : FrameView). x.ended) f.2 ∙ lacks)

-- a frame with this fuel
abbrev with_fuel : ℕ → FrameView → FrameView
with_fuel n f = record f { work = record f.work { fuel = n } }

pub more_nothing : (fs : List FrameView) → more_frames (λ k. 0) fs ≡ fs
more_nothing [] = refl
more_nothing (f ∷ fs) = let e : 0 + f.work.fuel ≡ f.work.fuel = omega arith in
    joined _ _ _ _ (ap (λ n. with_fuel n f) e) (more_nothing fs)

-- all the fuel of these frames
abbrev pub total : List FrameView → ℕ
total [] = 0
total (f ∷ fs) = f.work.fuel + total fs

abbrev consed : ℕ → (ℕ → ℕ) → ℕ → ℕ
consed d ds zero = d
consed d ds (suc k) = ds k

split : {X : Type 0} (x y : X) (xs ys : List X) → x ∷ xs ≡ y ∷ ys → (x ≡ y) × (xs ≡ ys)
split x y xs ys e = (cc, cc)

-- frames that are the same but for the fuel, with enough of it, are the others with more
pub regained : (n : ℕ) (ds : ℕ → ℕ) (fs gs : List FrameView) → map bare_frame fs ≡ map bare_frame gs → total gs ≤ n
    → (es : ℕ → ℕ) × (more_frames (λ k. n) (more_frames ds fs) ≡ more_frames es gs)
regained n ds [] [] e le = ((λ k. 0), refl)
regained n ds [] (g ∷ gs) e le = absurd (cc)
regained n ds (f ∷ fs) [] e le = absurd (cc)
regained n ds (f ∷ fs) (g ∷ gs) e le =
    let both = split (bare_frame f) (bare_frame g) (map bare_frame fs) (map bare_frame gs) e in
    let rest = regained n (λ k. ds (suc k)) fs gs both.1 (omega (arith, le)) in
    let d = n + (ds 0 + f.work.fuel) - g.work.fuel in
    let fuel : n + (ds 0 + f.work.fuel) ≡ d + g.work.fuel = omega (arith, le) in (
      consed d rest.0,
      joined _ _ _ _
          (ap (with_fuel (n + (ds 0 + f.work.fuel))) both.0 ∙ ap (λ m. with_fuel m g) fuel) rest.1,
    )

-- the round from a state with more fuel
pub round_more : (p : ProgramView) (round : List ℕ) (ds : ℕ → ℕ) (a b s : RunView) → in_order p round a ≡ Some b
    → (Lacks (run_on p a) → ⊥) → (Lacks (run_on p b) → ⊥) → run_on p s ≡ more_run ds (run_on p a)
    → (y : RunView) × (in_order p round s ≡ Some y) × (run_on p y ≡ more_run ds (run_on p b))
round_more p round ds a b s ran first second on = by (order_helped p ds round a b ran) where
  by : RunHelped ds b (in_order p round (more_run ds a))
      → (y : RunView) × (in_order p round s ≡ Some y) × (run_on p y ≡ more_run ds (run_on p b))
  by (inl lacks) = absurd (second (lacks_on p b lacks))
  by (inr same) =
      let y = order_alike p round (more_run ds a) s (more_run ds b) (on_more p ds a first ∙ sym on) same in
      (y.0, y.1, sym y.2 ∙ on_more p ds b second)

-- the whole order with n units more
pub order_more : (p : ProgramView) (n fuel : ℕ) (order : List ℕ) (y : RunView)
    → in_order p order (begun p fuel) ≡ Some y → (Lacks (run_on p y) → ⊥)
    → in_order p order (begun p (n + fuel)) ≡ Some (more_run (λ k. n) y)
order_more p n fuel order y ran none = by (order_helped p (λ k. n) order (begun p fuel) y ran) where
  by : RunHelped (λ k. n) y (in_order p order (more_run (λ k. n) (begun p fuel)))
      → in_order p order (begun p (n + fuel)) ≡ Some (more_run (λ k. n) y)
  by (inl lacks) = absurd (none (lacks_on p y lacks))
  by (inr same) = ap (in_order p order) (sym (begun_more p n fuel)) ∙ same

-- a state without its fuel, which more fuel doesn't change
bare_more : (ds : ℕ → ℕ) (fs : List FrameView) → map bare_frame (more_frames ds fs) ≡ map bare_frame fs
bare_more ds [] = refl
bare_more ds (f ∷ fs) = ap (λ gs. bare_frame f ∷ gs) (bare_more (λ k. ds (suc k)) fs)

-- nor how its threads have ended
ended_more : (ds : ℕ → ℕ) (fs : List FrameView)
    → map (λ (f : FrameView). f.ended) (more_frames ds fs) ≡ map (λ (f : FrameView). f.ended) fs
ended_more ds [] = refl
ended_more ds (f ∷ fs) = ap (λ es. f.ended ∷ es) (ended_more (λ k. ds (suc k)) fs)

-- a thread that has ended for want of fuel is among the ends
end_shows : (t : ℕ) (fs : List FrameView) (ends : List End) (f : FrameView)
    → map (λ (g : FrameView). g.ended) fs ≡ map Some ends → slice_get fs t ≡ Some f → FrameLacks f
    → Has ends (Failed fault.Fuel)
end_shows t [] ends f e at lacks = absurd (none_or_some f at)
end_shows t (g ∷ fs) [] f e at lacks = absurd (cc)
end_shows zero (g ∷ fs) (x ∷ ends) f e at lacks =
    let heads = (split g.ended (Some x) (map (λ (g : FrameView). g.ended) fs) (map Some ends) e).0 in
    inl (some_injective x (Failed fault.Fuel)
    (sym heads ∙ ap (λ (g : FrameView). g.ended) (some_injective g f at) ∙ lacks))
end_shows (suc t) (g ∷ fs) (x ∷ ends) f e at lacks =
    inr (end_shows t fs ends f (split g.ended (Some x) (map (λ (g : FrameView). g.ended) fs) (map Some ends) e).1 at
    lacks)

-- what has come to this end comes to it with more fuel
ends_more : (p : ProgramView) (ds : ℕ → ℕ) (y z : RunView) (e : SerialEndView)
    → run_on p y ≡ more_run ds (run_on p z) → EndsAs p z e → EndsAs p y e
ends_more p ds y z e on end = record {
  store = end.store ∙ sym (ap (λ (r : RunView). r.store) on);
  output = end.output ∙ sym (ap (λ (r : RunView). r.output) on);
  ends = ap (λ (r : RunView). map (λ (f : FrameView). f.ended) r.frames) on
      ∙ ended_more ds (run_on p z).frames ∙ end.ends;
}

-- a state that is another one but for the fuel has more than that with enough of it
raised : (p : ProgramView) (a s : RunView) → (Lacks (run_on p s) → ⊥) → bare (run_on p s) ≡ bare (run_on p a)
    → (es : ℕ → ℕ) × (run_on p (more_run (λ k. total (run_on p a).frames) s) ≡ more_run es (run_on p a))
raised p a s none same =
    let n = total (run_on p a).frames in
    let es = regained n (λ k. 0) (run_on p s).frames (run_on p a).frames (ap (λ (r : RunView). r.frames) same)
    (omega arith) in (
      es.0,
      on_more p (λ k. n) s none
          ∙ alike _ _ _ _ _ _ (ap (λ (r : RunView). r.store) same) (ap (λ (r : RunView). r.output) same)
          (ap (more_frames (λ k. n)) (sym (more_nothing (run_on p s).frames)) ∙ es.1),
    )

-- what follows a state follows each that is the same but for the fuel
follow_more : (p : ProgramView) (order other : List ℕ) (n : ℕ) (a s z : RunView) (e : SerialEndView)
    → in_order p order a ≡ Some z → (Lacks (run_on p a) → ⊥) → EndsAs p z e → LacksNone e.ends
    → in_order p other (begun p n) ≡ Some s → (Lacks (run_on p s) → ⊥) → bare (run_on p s) ≡ bare (run_on p a)
    → RunsFreely p (other ++ order) e
follow_more p order other n a s z e ran first end none led lacks same =
    let es = raised p a s lacks same in
    let m = total (run_on p a).frames in
    let last : Lacks (run_on p z) → ⊥ = λ l. none (end_shows l.0 (run_on p z).frames e.ends l.1 end.ends l.2 l.3) in
    let y = round_more p order es.0 a z (more_run (λ k. m) s) ran first last es.1 in (
      m + n,
      (
        y.0,
        behind p other order (begun p (m + n)) (more_run (λ k. m) s) (order_more p m n other s led lacks) ∙ y.1,
        ends_more p es.0 y.0 z e y.2 end,
      ),
      none,
    )

pub futures_are_of_states : FuturesAreOfStates
futures_are_of_states p before other m n r q led also same order e (fuel, ran, none) =
    follow_more p order other n a s z e
    (sym (behind p before order (begun p (fuel + m)) a (order_more p fuel m before led.ran.0 led.ran.1 first))
    ∙ raised_run.1) (λ l. first (lacks_more (λ k. fuel) (run_on p led.ran.0) (subst Lacks on l))) raised_run.2 none
    also.ran.1 (λ l. also.lacks (subst Lacks (sym also.ran.2) l)) alike_states where
      first : Lacks (run_on p led.ran.0) → ⊥
      first l = led.lacks (subst Lacks (sym led.ran.2) l)

      a : RunView
      a = more_run (λ k. fuel) led.ran.0

      s : RunView
      s = also.ran.0

      raised_run : RunsWhole p (fuel + m) (before ++ order) e
      raised_run = fuel_only_helps p fuel (fuel + m) (before ++ order) e (omega arith) ran none

      z : RunView
      z = raised_run.0

      on : run_on p a ≡ more_run (λ k. fuel) (run_on p led.ran.0)
      on = on_more p (λ k. fuel) led.ran.0 first

      alike_states : bare (run_on p s) ≡ bare (run_on p a)
      alike_states =
          ap bare (sym also.ran.2) ∙ sym same ∙ ap bare led.ran.2
          ∙ sym (alike _ _ _ _ _ _ refl refl (bare_more (λ k. fuel) (run_on p led.ran.0).frames))
          ∙ ap bare (sym on)
