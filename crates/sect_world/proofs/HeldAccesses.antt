-- What a thread has secured of a text allows the access of its first statement.
use Rattle.std.proofs.Common.{◌≡◌, inl, inr, ℕ, zero, suc, List, true, Option, Some, None, refl, sym, ap, ◌∙◌, subst}
use Rattle.std.proofs.lemmas.Bool.{or_cases, or_left, or_right}
use Rattle.sect_types.specs.{declared.expansion.action.Base.{Base}, declared.expansion.action.Action.{Action}}
use Rattle.sect_types.specs.Statements.{TextView, Stop, Do, Choose, Loop, Section}
use Rattle.sect_types.specs.{declared.meaning.store.ObjectName.{ObjectName}, declared.meaning.store.Datum.{Datum}}
use Rattle.sect_types.specs.{declared.meaning.store.Datum.TheVariants.{Number, Null, Refers}, Store.{StoreView}}
use Rattle.sect_types.specs.Meaning.{WorkView, base_datum, name_in}
use Rattle.sect_points.specs.{Paths.{var}, PathClasses.{variable_of}}
use Rattle.sect_names.specs.{declared.lock.Effect.{Effect}, declared.lock.Lock.{Lock}, Needed.{end_of}}
use Rattle.sect_names.specs.{Schemes.{IsScheme, guard_of}, Carrying.{Generated}, Records.{IsTypedProgram}}
use Rattle.sect_names.specs.{Walks.{StandsInThread}, Along.{read_for}}
use Rattle.sect_emit.specs.{Pointed.{IsPointed}, NeededAccesses.{LooksLocked, MakesLocked}, declared.plan.Grip.{Grip}}
use Rattle.sect_emit.specs.{Plan.{held_mode, is_met, path_datum}, Compiled.{CompiledView, program_of}}
use Rattle.sect_emit.specs.ModeTests.{is_writing, passes}
use Rattle.sect_names.proofs.shared.Walking.{needed_step}
use Rattle.sect_emit.proofs.shared.{NeedingAccesses.{access_needed}, Modes.{met_mode}}
use Rattle.sect_modes.specs.{declared.mode.Mode.TheVariants.{IntentionExclusive}, Mode.{is_making}}
use Rattle.sect_world.specs.Held.{holds_all, mode_of_class, class_mode_in, is_held, locked_object, guard_or, may_write}
use Rattle.sect_world.specs.Held.{may_make, may_make_by, Access, Loading, Storing, Making, may, load_of, store_of}
use Rattle.sect_world.specs.{Held.{access_of, if_paid, access_in}, Secured.{may_by, Secured, AllSecured}}
use Rattle.sect_world.proofs.{Holding.{locked_is}, MetPlans.{guard_of_site, guard_is_there, guard_or_itself}}
use Rattle.sect_types.specs.declared.expansion.action.Base.TheVariants as base
use Rattle.sect_types.specs.declared.expansion.action.Action.TheVariants as action
use Rattle.sect_types.specs.declared.expansion.action.Label.TheVariants as label
use Rattle.sect_points.specs.declared.holders.Variable.TheVariants as variable
use Rattle.sect_names.specs.declared.lock.Effect.TheVariants as effect
use Rattle.sect_names.specs.declared.lock.Right.TheVariants as right
use Rattle.sect_names.specs.declared.lock.Lock.TheVariants as lock
use Rattle.sect_modes.specs.declared.key.Key.TheVariants as key
use Rattle.sect_types.specs.declared.meaning.store.ObjectName.TheVariants as object

loading : (d : Datum) (x : Access) → load_of (name_in d) ≡ Some x → (o : ObjectName) × (d ≡ Refers o) × (x ≡ Loading o)
loading (Number n) x e = absurd cc
loading Null x e = absurd cc
loading (Refers o) x e = let same : Loading o ≡ x = cc in (o, refl, sym same)

storing : (d : Datum) (x : Access) → store_of (name_in d) ≡ Some x → (o : ObjectName) × (d ≡ Refers o) × (x ≡ Storing o)
storing (Number n) x e = absurd cc
storing Null x e = absurd cc
storing (Refers o) x e = let same : Storing o ≡ x = cc in (o, refl, sym same)

base_path : (t : ℕ) (s : StoreView) (locals : List Datum) (b : Base)
    → path_datum s locals (var (variable_of t b)) ≡ base_datum locals b
base_path t s locals (base.Local x) = refl
base_path t s locals (base.Global g) = refl

module _ (c : CompiledView) (scheme : IsScheme c.scheme) (typed : IsTypedProgram (program_of c)) (t : ℕ) (s : StoreView)
    (w : WorkView) (pointed : IsPointed c.scheme t s w) (held : List Grip) (i : ℕ) where
  -- where the locks that a statement generates are secured, it may access the object of its base
  base_secured : (a : Action) (b : Base) (r : ℕ) (e : Effect)
      → ((l : Lock) → Generated c.scheme t (label.Act a) l → Secured c s w.locals held l)
      → LooksLocked c.scheme t s w a b r e
      → (o : ObjectName) → base_datum w.locals b ≡ Refers o → may_by e c s held o ≡ true
  base_secured a b r e secured looks o is =
      let h = looks o is in
      let g = guard_of c.scheme.guards r in
      guard_or_itself c scheme typed t s w pointed held r g refl (var (variable_of t b)) e o h.0.0 h.0.1 h.0.2
      (secured (lock.Path (read_for g (var (variable_of t b))) e) h.1) (base_path t s w.locals b ∙ is)

  -- and make an object of its site
  making_secured : (a : Action) (r site : ℕ) (g : Option ℕ) → guard_of c.scheme.guards r ≡ g
      → ((l : Lock) → Generated c.scheme t (label.Act a) l → Secured c s w.locals held l)
      → MakesLocked c.scheme t a g site → may_make_by c s held site g ≡ true
  making_secured a r site None is secured (n, class, generated) =
      elim (or_cases (holds_all held) (is_met (held_mode (key.Class n) held) IntentionExclusive)
      (secured (lock.Class n right.Make) generated)) [
        | inl all ↦ or_left (holds_all held) (passes is_making (mode_of_class c held site)) all
        | inr met ↦
            let k = met_mode (held_mode (key.Class n) held) IntentionExclusive met in
            or_right (holds_all held) (passes is_making (mode_of_class c held site))
            (subst (λ o. passes is_making o ≡ true) (sym (ap (class_mode_in held) class ∙ k.1)) k.2)
      ]
  making_secured a r site (Some g) is secured generated =
      let y = guard_is_there c s scheme pointed.objects r g is in
      let itself : locked_object c s (object.Global g) ≡ object.Global g = locked_is c s (object.Global g) y.0 y.1
      ∙ ap (λ z. guard_or z (object.Global g)) y.2 in
      let write : may_write c s held (object.Global g) ≡ true =
      secured (lock.Path (var (variable.Global g)) effect.Write) generated (object.Global g) refl in
      subst (λ q. is_held c is_writing is_writing s held q ≡ true) itself write

  -- what the first statement needs of itself is secured
  first_secured : (a : Action) (rest : TextView) → AllSecured c s t i w.locals held (Do a rest) → (l : Lock)
      → Generated c.scheme t (label.Act a) l → Secured c s w.locals held l
  first_secured a rest secured l h =
      secured l ((needed_step c.scheme t (end_of c.scheme i) (Do a rest) l).1
      (inr (label.Act a, rest, (refl, refl), inl h)))

  -- so it may make its access
  pub access_is_held : (a : Action) (rest : TextView) → StandsInThread c.scheme t (Do a rest)
      → AllSecured c s t i w.locals held (Do a rest)
      → (x : Access) → access_of a w.locals ≡ Some x → may c s held x ≡ true
  access_is_held (action.Assign y v) rest stands secured x e = absurd cc
  access_is_held (action.Compute y v o u) rest stands secured x e = absurd cc
  access_is_held (action.New y r site) rest stands secured x e =
      let same : Making site ≡ x = cc in
      let needs = access_needed c.scheme scheme typed t s w pointed (action.New y r site)
      (stands (action.New y r site) (inl refl)) in
      let makes : may_make c s held site ≡ true =
      subst (λ g. may_make_by c s held site g ≡ true) (sym (guard_of_site c site r needs.0))
      (making_secured (action.New y r site) r site (guard_of c.scheme.guards r) refl
      (first_secured (action.New y r site) rest secured) needs.1) in
      subst (λ z. may c s held z ≡ true) same makes
  access_is_held (action.Load y b f) rest stands secured x e =
      let o = loading (base_datum w.locals b) x e in
      let needs = access_needed c.scheme scheme typed t s w pointed (action.Load y b f)
      (stands (action.Load y b f) (inl refl)) in
      subst (λ z. may c s held z ≡ true) (sym o.2)
      (base_secured (action.Load y b f) b f.of effect.Read (first_secured (action.Load y b f) rest secured) needs
      o.0 o.1)
  access_is_held (action.Store b f v) rest stands secured x e =
      let o = storing (base_datum w.locals b) x e in
      let needs = access_needed c.scheme scheme typed t s w pointed (action.Store b f v)
      (stands (action.Store b f v) (inl refl)) in
      subst (λ z. may c s held z ≡ true) (sym o.2)
      (base_secured (action.Store b f v) b f.of effect.Write (first_secured (action.Store b f v) rest secured) needs
      o.0 o.1)
  access_is_held (action.Print v) rest stands secured x e = absurd cc

  -- and so may the next step of a text
  pub next_access_is_held : (k : TextView) → StandsInThread c.scheme t k → AllSecured c s t i w.locals held k
      → (fuel : ℕ) (x : Access) → if_paid fuel (access_in k w.locals) ≡ Some x → may c s held x ≡ true
  next_access_is_held k stands secured zero x e = absurd cc
  next_access_is_held Stop stands secured (suc fuel) x e = absurd cc
  next_access_is_held (Do a rest) stands secured (suc fuel) x e = access_is_held a rest stands secured x e
  next_access_is_held (Choose d yes_part no_part rest) stands secured (suc fuel) x e = absurd cc
  next_access_is_held (Loop d part rest) stands secured (suc fuel) x e = absurd cc
  next_access_is_held (Section i part rest) stands secured (suc fuel) x e = absurd cc
