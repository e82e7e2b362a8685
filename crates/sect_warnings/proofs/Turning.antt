-- Where a path gets too long along the chain of a class lock.
use Rattle.std.proofs.Common.{◌≡◌, ◌<◌, ℕ, zero, suc, List, [], ◌∷◌, length, Option, Some, None, false, refl, sym, ap}
use Rattle.std.proofs.{Common.{◌∙◌, subst, inl, inr, arith, get_or}, lemmas.List.Sums.{position_or_len_is}}
use Rattle.std.proofs.{lemmas.Bool.{lt-ltb}, lemmas.Option.{slice_get-get_or, slice_get_within, get_or_from_slice_get}}
use Rattle.std.specs.{Prelude.{slice_get, cond, nat_lt}, List.{position}}
use Rattle.sect_lemmas.specs.Lists.{Has}
use Rattle.sect_types.specs.declared.expansion.action.Label.{Label}
use Rattle.sect_graph.specs.declared.flow.Node.{Node}
use Rattle.sect_points.specs.Paths.{PathView}
use Rattle.sect_names.specs.{declared.link.Link.{Link}, declared.lock.Effect.{Effect}, declared.lock.Lock.{Lock}}
use Rattle.sect_names.specs.{Schemes.{SchemeView, guard_of}, Carrying.{Generated, Makes, CarriedBack}}
use Rattle.sect_names.specs.Chains.{AreLinked, LinksTo}
use Rattle.sect_warnings.specs.ClassLocks.{class_lock}
use Rattle.sect_warnings.specs.steps.Reasons.{is_on_path}
use Rattle.sect_types.specs.declared.expansion.action.Action.TheVariants as action
use Rattle.sect_types.specs.declared.expansion.action.Label.TheVariants as label
use Rattle.sect_names.specs.declared.lock.Effect.TheVariants as effect
use Rattle.sect_names.specs.declared.lock.Lock.TheVariants as lock

-- to make an object no class is locked for reading or writing
not_to_make : (s : SchemeView) (o : Option ℕ) (i n : ℕ) (e : Effect) → Makes s o i (class_lock n e) → ⊥
not_to_make s None i n effect.Read (m, at, is) = absurd cc
not_to_make s None i n effect.Write (m, at, is) = absurd cc
not_to_make s (Some g) i n e is = absurd cc

-- and no statement needs such a lock of itself
not_generated : (s : SchemeView) (t : ℕ) (step : Label) (n : ℕ) (e : Effect) → Generated s t step (class_lock n e) → ⊥
not_generated s t (label.Act (action.Assign x v)) n e h = h
not_generated s t (label.Act (action.Compute x v o w)) n e h = h
not_generated s t (label.Act (action.New x r i)) n e h = not_to_make s (guard_of s.guards r) i n e h
not_generated s t (label.Act (action.Load x b f)) n e (classed, is) = absurd cc
not_generated s t (label.Act (action.Store b f v)) n e (classed, is) = absurd cc
not_generated s t (label.Act (action.Print v)) n e h = h
not_generated s t (label.Test c) n e h = h
not_generated s t (label.Section i) n e h = h

-- the lock on a class at one step, and behind it one on a path, the first of the chain
pub record Turn (s : SchemeView) (t : ℕ) (g : List Node) (n : ℕ) (e : Effect) (chain : List Link) : Type 0 where
  pub place : ℕ
  pub here : Link
  pub next : Link
  pub path : PathView
  pub effect : Effect
  pub first : slice_get chain place ≡ Some here
  pub second : slice_get chain (suc place) ≡ Some next
  pub on_class : here.lock ≡ class_lock n e
  pub on_path : next.lock ≡ lock.Path path effect
  pub links : LinksTo s t g here next
  pub before : (k : ℕ) (b : Link) → k < suc place → slice_get chain k ≡ Some b → is_on_path b.lock ≡ false

class_is_none : (n : ℕ) (e : Effect) (l : Lock) → l ≡ class_lock n e → is_on_path l ≡ false
class_is_none n e l is = ap is_on_path is

module _ (s : SchemeView) (t : ℕ) (last : List Lock) (g : List Node) (n : ℕ) (e : Effect)
    (ended : (l : Lock) → Has last l → lock.All ≡ l)
  where
    -- before the first step of a chain stands one more whose lock is on the class
    earlier : (a : Link) (links : List Link) → a.lock ≡ class_lock n e → (m : ℕ)
        → ((k : ℕ) (b : Link) → k < m → slice_get links k ≡ Some b → is_on_path b.lock ≡ false) → (k : ℕ) (b : Link)
        → k < suc m → slice_get (a ∷ links) k ≡ Some b → is_on_path b.lock ≡ false
    earlier a links is m before zero b below at =
        let same : a ≡ b = cc in class_is_none n e b.lock (subst (λ (x : Link). x.lock ≡ class_lock n e) same is)
    earlier a links is m before (suc k) b below at = before k b (omega (arith, below)) at

    later : (a : Link) (links : List Link) → a.lock ≡ class_lock n e → Turn s t g n e links
        → Turn s t g n e (a ∷ links)
    later a links is turn = record {
      place = suc turn.place;
      here = turn.here;
      next = turn.next;
      path = turn.path;
      effect = turn.effect;
      first = turn.first;
      second = turn.second;
      on_class = turn.on_class;
      on_path = turn.on_path;
      links = turn.links;
      before = earlier a links is (suc turn.place) turn.before;
    }

    none_before : (links : List Link) (k : ℕ) (b : Link) → k < 0 → slice_get links k ≡ Some b
        → is_on_path b.lock ≡ false
    none_before links k b below at = absurd (omega (arith, below))

    -- by the lock of the step behind
    turn_by : (a b : Link) (links : List Link) → a.lock ≡ class_lock n e → LinksTo s t g a b
        → (b.lock ≡ class_lock n e → Turn s t g n e (b ∷ links)) → (l : Lock) → b.lock ≡ l
        → Turn s t g n e (a ∷ b ∷ links)
    turn_by a b links is to rest lock.All eq =
        let all : a.lock ≡ lock.All = subst (λ m. CarriedBack s t to.0.label m a.lock) eq to.3 in absurd cc
    turn_by a b links is to rest (lock.Class c r) eq =
        let same : a.lock ≡ lock.Class c r = subst (λ m. CarriedBack s t to.0.label m a.lock) eq to.3 in
        later a (b ∷ links) is (rest (eq ∙ sym same ∙ is))
    turn_by a b links is to rest (lock.Path p f) eq = record {
      place = 0;
      here = a;
      next = b;
      path = p;
      effect = f;
      first = refl;
      second = refl;
      on_class = is;
      on_path = eq;
      links = to;
      before = earlier a (b ∷ links) is 0 (none_before (b ∷ links));
    }

    -- the chain of such a lock has such a step
    pub turning : (a : Link) (links : List Link) → a.lock ≡ class_lock n e → AreLinked s t last g a links
        → Turn s t g n e (a ∷ links)
    turning a [] is (inl (x, at, made)) = absurd (not_generated s t x.label n e (subst (Generated s t x.label) is made))
    turning a [] is (inr (exit, has)) = let all : lock.All ≡ a.lock = ended a.lock has in absurd cc
    turning a (b ∷ links) is (to, rest) = turn_by a b links is to (λ eq. turning b links eq rest) b.lock refl

    -- it is the first whose lock is on a path
    pub turn_found : (chain : List Link) (turn : Turn s t g n e chain)
        → position (λ (a : Link). is_on_path a.lock) chain ≡ Some (suc turn.place)
    turn_found chain turn =
        let within = slice_get_within chain (suc turn.place) turn.next turn.second in
        let at = position_or_len_is (λ (a : Link). is_on_path a.lock) chain (suc turn.place) turn.next
        (omega (arith, within))
        (λ k below. turn.before k (get_or chain k turn.next) below
        (slice_get-get_or chain k turn.next (omega (arith, below, within))))
        (λ lt. ap is_on_path (ap (λ (x : Link). x.lock)
        (get_or_from_slice_get chain (suc turn.place) turn.next turn.next
        turn.second) ∙ turn.on_path)) in
        subst (λ m. cond (nat_lt m (length chain)) (Some m) None ≡ Some (suc turn.place)) (sym at)
        (ap (λ b. cond b (Some (suc turn.place)) None) (lt-ltb (suc turn.place) (length chain) within))
