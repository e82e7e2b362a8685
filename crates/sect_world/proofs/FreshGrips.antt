-- Which step of a thread brings it a key: a `new` for which fuel is left and whose record nothing guards.
use Rattle.std.proofs.Common.{◌≡◌, ◌<◌, [], ℕ, zero, suc, Bool, true, false, List, Option, Some, None, Result, Ok, Err}
use Rattle.std.proofs.Common.{OnOk, OnErr, refl, sym, ap, ◌∙◌, subst, arith}
use Rattle.std.specs.Prelude.{option_map, if◌then◌else◌, ℤ}
use Rattle.sect_types.specs.{declared.expansion.action.Action.{Action}, declared.expansion.action.Condition.{Condition}}
use Rattle.sect_types.specs.declared.expansion.action.Label.TheVariants.{Act, Test, Section as WholeSection}
use Rattle.sect_types.specs.declared.meaning.store.ObjectName.{ObjectName}
use Rattle.sect_types.specs.declared.meaning.store.ObjectName.TheVariants.{Made}
use Rattle.sect_types.specs.{Statements.{TextView, Stop, Do, Choose, Loop, Section}, Programs.{ProgramView}}
use Rattle.sect_types.specs.{Store.{ObjectView, StoreView, add}, declared.meaning.store.Datum.TheVariants.{Number}}
use Rattle.sect_types.specs.Meaning.{WorkView, Came, Went, Fell, Unchanged, Added, assigned, On, done, paid, one, going}
use Rattle.sect_types.specs.Meaning.{taken, next, looked, looks, found_at, fits, computed, stored, result_of}
use Rattle.sect_types.specs.Meaning.{integer_of, value_datum, base_datum, name_in}
use Rattle.sect_lemmas.proofs.Options.{some_injective}
use Rattle.sect_graph.specs.{declared.flow.Node.{Node}, declared.flow.Successors.{Successors}}
use Rattle.sect_graph.specs.{declared.flow.Successors.TheVariants.{Next as To}, Rests.{Begins}}
use Rattle.sect_names.specs.Schemes.{guard_of}
use Rattle.sect_names.proofs.shared.Placing.{statement_sited}
use Rattle.sect_points.specs.Statements.{thread_action}
use Rattle.sect_modes.specs.declared.mode.Mode.TheVariants.{Exclusive}
use Rattle.sect_table.specs.{declared.claims.Answer.TheVariants.{Granted}, Contents.{Contents}, Answers.{IsAnswered}}
use Rattle.sect_table.specs.Sound.{IsKept}
use Rattle.sect_emit.specs.{declared.plan.Grip.{Grip}, Plan.{key_of}, Compiled.{CompiledView, IsCompiled, program_of}}
use Rattle.sect_emit.proofs.shared.TypedPrograms.{typed_program}
use Rattle.sect_world.specs.{Events.{guard_at, fresh_grip, grips_of, step_in}, Kept.{IsTextOf}}
use Rattle.sect_world.specs.declared.inside.Making.{Making}
use Rattle.sect_world.specs.steps.Moves.{Goes, GivesKey, HoldsMore, chosen, grips_by, object_by}
use Rattle.sect_world.proofs.MetPlans.{guard_of_site}
use Rattle.sect_types.specs.declared.expansion.action.Action.TheVariants as action
use Rattle.sect_types.specs.declared.meaning.store.Fault.TheVariants as fault

-- a node that does a statement begins statements with it
pub record BeginsWith (rest : ℕ → TextView) (x : Node) (a : Action) (k : TextView) : Type 0 where
  pub to : ℕ
  pub after : TextView
  pub text : k ≡ Do a after
  pub next : x.next ≡ To to
  pub leads : rest to ≡ after

test_is_no_act : (d : Condition) (a : Action) → Test d ≡ Act a → ⊥
test_is_no_act d a e = cc

section_is_no_act : (i : ℕ) (a : Action) → WholeSection i ≡ Act a → ⊥
section_is_no_act i a e = cc

pub begins_with : (rest : ℕ → TextView) (x : Node) (a : Action) (k : TextView) → Begins rest x k → x.label ≡ Act a
    → BeginsWith rest x a k
begins_with rest x a Stop b is = absurd b
begins_with rest x a (Do d r) b is =
    let same : d ≡ a = (let e : Act d ≡ Act a = sym (ap (λ (y : Node). y.label) b.1) ∙ is in cc) in
    record { to = b.0; after = r; text = ap (λ z. Do z r) same; next = ap (λ (y : Node). y.next) b.1; leads = b.2 }
begins_with rest x a (Choose d p q r) b is = absurd (test_is_no_act d a (sym (ap (λ (y : Node). y.label) b.2) ∙ is))
begins_with rest x a (Loop d p r) b is = absurd (test_is_no_act d a (sym (ap (λ (y : Node). y.label) b.2) ∙ is))
begins_with rest x a (Section i p r) b is = absurd (section_is_no_act i a (sym (ap (λ (y : Node). y.label) b.1) ∙ is))

-- what holds at any rate holds where there is a value
pub if_ok : {A B : Type 0} {P : Type 0} (r : Result A B) → P → OnOk r P
if_ok (Ok x) p = p
if_ok (Err e) p = tt

-- and what holds at any rate holds where there is an error
pub if_err : {A B : Type 0} {P : Type 0} (r : Result A B) → P → OnErr r P
if_err (Ok x) p = tt
if_err (Err e) p = p

-- the node is the one that was looked up
pub looked_up : {A B : Type 0} (f : A → B) (o : Option A) (x : A) (y : B) → o ≡ Some x → option_map f o ≡ Some y
    → f x ≡ y
looked_up f o x y is shown = some_injective (f x) y (sym (ap (option_map f) is) ∙ shown)

-- a `new` goes on after it, with one object more
pub new_goes : (c : CompiledView) (p : ProgramView) → p ≡ program_of c
    → (t : ℕ) (w v : WorkView) (s : StoreView) (new : Making) (rest : ℕ → TextView) (k : TextView) (x : Node)
    (to : Successors) (n : ℕ)
    → x.label ≡ Act (action.New new.target new.of new.site) → x.next ≡ to → n ≡ chosen to true → Begins rest x k
    → ((found : Option ObjectView)
    → one p t (action.New new.target new.of new.site) found w ≡ Went v (Added (object_by p new.of new.site)))
    → Goes rest t s (step_in c t k w s) (Ok n) v (add s t (object_by p new.of new.site))
new_goes c p is t w v s new rest k x to n label successors number begins does =
    let a = action.New new.target new.of new.site in
    let b = begins_with rest x a k begins label in
    let m : n ≡ b.to = number ∙ ap (λ z. chosen z true) (sym successors ∙ b.next) in
    let step : step_in c t k w s ≡ On b.after v (Added (object_by p new.of new.site)) =
    ap (λ z. step_in c t z w s) b.text ∙ ap (λ q. going b.after (one q t a (found_at s (looked a w.locals)) w)) (sym is)
    ∙ ap (going b.after) (does (found_at s (looked a w.locals))) in
    subst (λ z. Goes rest t s z (Ok n) v (add s t (object_by p new.of new.site))) (sym step)
    (ap rest m ∙ b.leads, refl, refl)

-- nothing guards an object that is made for a record that nothing guards
site_guard : (c : CompiledView) → IsCompiled c → (t : ℕ) (target of site : ℕ) (after : TextView)
    → IsTextOf (program_of c) t true (Do (action.New target of site) after)
    → guard_at c site ≡ guard_of c.scheme.guards of
site_guard c is t target of site after text =
    guard_of_site c site of (statement_sited (program_of c) (typed_program c is)
    (thread_action t (action.New target of site)) text.listed.0)

-- and it brings the key of its object
pub new_holds : (c : CompiledView) → IsCompiled c → (p : ProgramView) → p ≡ program_of c
    → (t : ℕ) (w v : WorkView) (s : StoreView) (new : Making) (rest : ℕ → TextView) (k : TextView) (x : Node)
    (old after : Contents) → x.label ≡ Act (action.New new.target new.of new.site)
    → guard_of c.scheme.guards new.of ≡ None → Begins rest x k → IsTextOf (program_of c) t true k
    → ((found : Option ObjectView)
    → one p t (action.New new.target new.of new.site) found w ≡ Went v (Added (object_by p new.of new.site)))
    → IsAnswered Granted t (key_of (Made t w.made)) Exclusive old after → IsKept after
    → HoldsMore t (grips_by c t w.made (step_in c t k w s)) old after
new_holds c compiled p is t w v s new rest k x old after label free begins text does answered kept =
    let a = action.New new.target new.of new.site in
    let b = begins_with rest x a k begins label in
    let step : step_in c t k w s ≡ On b.after v (Added (object_by p new.of new.site)) =
    ap (λ z. step_in c t z w s) b.text ∙ ap (λ q. going b.after (one q t a (found_at s (looked a w.locals)) w)) (sym is)
    ∙ ap (going b.after) (does (found_at s (looked a w.locals))) in
    let none : guard_at c new.site ≡ None =
    site_guard c compiled t new.target new.of new.site b.after (subst (IsTextOf (program_of c) t true) b.text text)
    ∙ free in
    let grips = ap (grips_by c t w.made) step ∙ ap (λ g. fresh_grip g t w.made) none in
    subst (λ gs. HoldsMore t gs old after) (sym grips) (answered, kept)

module _ (c : CompiledView) (t n : ℕ) where
  -- the keys that what a statement comes to brings
  came_grips : Came → List Grip
  came_grips (Went v change) = grips_of c t n change
  came_grips (Fell why v) = []

  -- where it makes an object, a guard keeps it
  abbrev IsGuarded : Action → Type 0
  IsGuarded a = (target of site : ℕ) → a ≡ action.New target of site → guard_at c site ≡ None → ⊥

  computed_grips : (x : ℕ) (m : ℤ) (w : WorkView) → came_grips (computed x m w) ≡ []
  unfolding came_grips
  computed_grips x m w = by (fits m) where
    by : (b : Bool) → came_grips (if b then Went (assigned x (Number m) w) Unchanged else Fell fault.Overflow w) ≡ []
    by true = refl
    by false = refl

  done_grips : (a : Action) (found : Option ObjectView) (w : WorkView) → IsGuarded a
      → came_grips (done (program_of c) t a found w) ≡ []
  unfolding came_grips
  done_grips (action.Assign x v) found w kept = refl
  done_grips (action.Compute x v o u) found w kept =
      computed_grips x (result_of o (integer_of (value_datum w.locals v)) (integer_of (value_datum w.locals u))) w
  done_grips (action.New x r site) found w kept = by (guard_at c site) refl where
    by : (g : Option ℕ) → guard_at c site ≡ g → fresh_grip g t n ≡ []
    by None e = absurd (kept x r site refl e)
    by (Some g) e = refl
  done_grips (action.Load x b f) None w kept = refl
  done_grips (action.Load x b f) (Some o) w kept = refl
  done_grips (action.Store b f v) found w kept = by (name_in (base_datum w.locals b)) where
    by : (o : Option ObjectName) → came_grips (stored f.number (value_datum w.locals v) o w) ≡ []
    by None = refl
    by (Some o) = refl
  done_grips (action.Print v) found w kept = refl

  one_grips : (a : Action) (found : Option ObjectView) (w : WorkView) → (0 < w.fuel → IsGuarded a)
      → came_grips (one (program_of c) t a found w) ≡ []
  unfolding came_grips
  one_grips a found w kept = by w.fuel refl where
    by : (m : ℕ) → w.fuel ≡ m → came_grips (paid m w (done (program_of c) t a found)) ≡ []
    by zero e = refl
    by (suc m) e = done_grips a found (record w { fuel = m })
        (kept (let some : 0 < suc m = omega arith in subst (λ z. 0 < z) (sym e) some))

  going_grips : (r : TextView) (came : Came) → grips_by c t n (going r came) ≡ came_grips came
  unfolding came_grips
  going_grips r (Went v change) = refl
  going_grips r (Fell why v) = refl

  taken_grips : (m : ℕ) (d : Condition) (a b : TextView) (w : WorkView) → grips_by c t n (taken m d a b w) ≡ []
  taken_grips zero d a b w = refl
  taken_grips (suc m) d a b w = refl

  next_grips : (k : TextView) (found : Option ObjectView) (w : WorkView)
      → ((a : Action) (r : TextView) → k ≡ Do a r → 0 < w.fuel → IsGuarded a)
      → grips_by c t n (next (program_of c) t k found w) ≡ []
  next_grips Stop found w kept = refl
  next_grips (Do a r) found w kept = going_grips r (one (program_of c) t a found w)
      ∙ one_grips a found w (kept a r refl)
  next_grips (Choose d p q r) found w kept = taken_grips w.fuel d _ _ w
  next_grips (Loop d p r) found w kept = taken_grips w.fuel d _ _ w
  next_grips (Section i p r) found w kept = refl

begun_label : (rest : ℕ → TextView) (x : Node) (a : Action) (r : TextView) → Begins rest x (Do a r) → x.label ≡ Act a
begun_label rest x a r b = ap (λ (y : Node). y.label) b.1

-- any other step brings none
pub others_hold : (c : CompiledView) → IsCompiled c
    → (t : ℕ) (w : WorkView) (s : StoreView) (rest : ℕ → TextView) (k : TextView) (x : Node) (table : Contents)
    → GivesKey c.scheme.guards w.fuel x.label None → Begins rest x k → IsTextOf (program_of c) t true k
    → HoldsMore t (grips_by c t w.made (step_in c t k w s)) table table
others_hold c is t w s rest k x table none begins text =
    subst (λ gs. HoldsMore t gs table table) (sym (next_grips c t w.made k (found_at s (looks k w)) w guarded)) refl
  where
    guarded : (a : Action) (r : TextView) → k ≡ Do a r → 0 < w.fuel → IsGuarded c t w.made a
    guarded a r e fuel target of site e' free =
        let at : k ≡ Do (action.New target of site) r = e ∙ ap (λ z. Do z r) e' in
        let label = begun_label rest x (action.New target of site) r (subst (Begins rest x) at begins) in
        none target of site label fuel
        (sym (site_guard c is t target of site r (subst (IsTextOf (program_of c) t true) at text)) ∙ free)
