-- What is secured: what a covering lock or a plan that is met secures, and what that allows.
use Rattle.std.proofs.Common.{◌≡◌, inl, inr, ℕ, List, Bool, true, ◌||◌, Option, Some, None, refl, sym, ap, ◌∙◌, subst}
use Rattle.std.proofs.{lemmas.Option.{get_or_from_slice_get}, lemmas.Bool.{or_cases, or_left, or_right}}
use Rattle.std.specs.Prelude.{slice_get}
use Rattle.sect_lemmas.specs.Lists.{Has}
use Rattle.sect_types.specs.{Programs.{sites_of, all_made}, Statements.{TextView}}
use Rattle.sect_types.specs.{declared.expansion.action.Field.{Field}, declared.meaning.store.ObjectName.{ObjectName}}
use Rattle.sect_types.specs.declared.meaning.store.Datum.TheVariants.{Refers}
use Rattle.sect_types.specs.{Store.{ObjectView, StoreView, object_at}, Meaning.{WorkView}}
use Rattle.sect_points.specs.{Paths.{PathView}, Partitions.{HasClass}}
use Rattle.sect_names.specs.{declared.lock.Effect.{Effect}, declared.lock.Lock.{Lock}, Schemes.{IsScheme, guard_of}}
use Rattle.sect_names.specs.{Locks.{Allows, Covers, PathTo, IsOwn}, Records.{IsTypedProgram, SiteOf, IsNeedable}}
use Rattle.sect_names.specs.{Walks.{StandsInThread}, Needed.{end_of}, Along.{NeededIn, GoesBy, read_for}}
use Rattle.sect_emit.specs.{Pointed.{IsPointedStore, IsPointed}, declared.plan.Grip.{Grip}}
use Rattle.sect_emit.specs.Plan.{IsFixedPart, plan_of, path_datum, held_mode, is_met, meets, class_mode, object_mode}
use Rattle.sect_emit.specs.{Compiled.{CompiledView, program_of}, ModeTests.{passes, is_reading_object, is_writing}}
use Rattle.sect_lemmas.proofs.Elements.{slice_get-left}
use Rattle.sect_names.proofs.shared.{Walking.{reads_in}, Ends.{end_needable, end_reads}, Needing.{needed_needable}}
use Rattle.sect_names.proofs.shared.Beginning.{begins_to, begins_own}
use Rattle.sect_emit.proofs.shared.Pointing.{denoted}
use Rattle.sect_emit.proofs.shared.Modes.{at_least_along, writing_is, met_mode, met_less, allows_mode, grants_mode}
use Rattle.sect_emit.proofs.shared.{Modes.{includes_mode}, Grips.{path_met, class_met, all_met}}
use Rattle.sect_modes.specs.{declared.mode.Mode.{Mode}, declared.mode.Mode.TheVariants.{Exclusive}}
use Rattle.sect_modes.specs.Mode.{is_at_least, is_reading}
use Rattle.sect_world.specs.Events.{guard_at}
use Rattle.sect_world.specs.Held.{holds_all, class_mode_in, is_held, locked_object, guard_or, may_read}
use Rattle.sect_world.specs.{Kept.{AreGripsKept}, Secured.{may_by, Secured, AllSecured}}
use Rattle.sect_world.proofs.Holding.{IsHeldBy, held_is, is_held_so, locked_is}
use Rattle.sect_points.proofs.shared.ClassLaws.{path_classes}
use Rattle.sect_names.specs.declared.lock.Effect.TheVariants as effect
use Rattle.sect_names.specs.declared.lock.Lock.TheVariants as lock
use Rattle.sect_modes.specs.declared.key.Key.TheVariants as key
use Rattle.sect_types.specs.declared.meaning.store.ObjectName.TheVariants as object

-- the modes of a key and of a class that are enough for an effect
abbrev pub key_test : Effect → Mode → Bool
key_test effect.Read m = is_reading_object m
key_test effect.Write m = is_writing m

-- what a class must pass for an effect
abbrev pub class_test : Effect → Mode → Bool
class_test effect.Read m = is_reading m
class_test effect.Write m = is_writing m

class_allows : (e : Effect) (n : Mode) → is_at_least n (object_mode e) ≡ true → class_test e n ≡ true
class_allows effect.Read n h = h
class_allows effect.Write n h = h

key_allows : (e : Effect) (m : Mode) → is_reading_object m ≡ true → is_at_least m (object_mode e) ≡ true
    → key_test e m ≡ true
key_allows effect.Read m of h = of
key_allows effect.Write m of h = h

key_less : (e f : Effect) → Allows e f → (m : Mode) → key_test e m ≡ true → key_test f m ≡ true
key_less effect.Read effect.Read allows m h = h
key_less effect.Read effect.Write allows m h = absurd allows
key_less effect.Write effect.Read allows m h = subst (λ z. is_reading_object z ≡ true) (sym (writing_is m h)) refl
key_less effect.Write effect.Write allows m h = h

class_less : (e f : Effect) → Allows e f → (m : Mode) → class_test e m ≡ true → class_test f m ≡ true
class_less effect.Read effect.Read allows m h = h
class_less effect.Read effect.Write allows m h = absurd allows
class_less effect.Write effect.Read allows m h = subst (λ z. is_reading z ≡ true) (sym (writing_is m h)) refl
class_less effect.Write effect.Write allows m h = h

module _ (c : CompiledView) (s : StoreView) (held : List Grip) where
  may_to : (e : Effect) (o : ObjectName) → may_by e c s held o ≡ true
      → is_held c (key_test e) (class_test e) s held (locked_object c s o) ≡ true
  may_to effect.Read o h = h
  may_to effect.Write o h = h

  may_from : (e : Effect) (o : ObjectName) → is_held c (key_test e) (class_test e) s held (locked_object c s o) ≡ true
      → may_by e c s held o ≡ true
  may_from effect.Read o h = h
  may_from effect.Write o h = h

  -- an object that nothing guards is locked by its own key or class
  pub may_itself : (e : Effect) (o : ObjectName) (x : ObjectView) → object_at s o ≡ Some x → guard_at c x.site ≡ None
      → IsHeldBy c (key_test e) (class_test e) held o x → may_by e c s held o ≡ true
  may_itself e o x at none by =
      let same : locked_object c s o ≡ o = locked_is c s o x at ∙ ap (λ g. guard_or g o) none in
      may_from e o (subst (λ q. is_held c (key_test e) (class_test e) s held q ≡ true) (sym same)
      (is_held_so c (key_test e) (class_test e) s held o x at by))

  -- what allows to write allows to read
  may_less : (e f : Effect) → Allows e f → (o : ObjectName) → may_by e c s held o ≡ true → may_by f c s held o ≡ true
  may_less e f allows o h =
      let was = held_is c (key_test e) (class_test e) s held (locked_object c s o) (may_to e o h) in
      may_from f o (is_held_so c (key_test f) (class_test f) s held (locked_object c s o) was.0 was.1 (elim was.2 [
        | inl all ↦ inl all
        | inr (inl (m, is, passed)) ↦ inr (inl (m, is, key_less e f allows m passed))
        | inr (inr (m, is, passed)) ↦ inr (inr (m, is, class_less e f allows m passed))
      ]))

  -- two objects with one lock
  may_same : (e : Effect) (o q : ObjectName) → locked_object c s o ≡ locked_object c s q → may_by e c s held q ≡ true
      → may_by e c s held o ≡ true
  may_same e o q same h = may_from e o
      (subst (λ z. is_held c (key_test e) (class_test e) s held z ≡ true) (sym same) (may_to e q h))

  -- an object of a class that is held
  pub may_by_class : (e : Effect) (n : ℕ) (m : Mode) (o : ObjectName) (x : ObjectView) → object_at s o ≡ Some x
      → guard_at c x.site ≡ None
      → slice_get c.scheme.classes.numbers x.site ≡ Some n → is_met (held_mode (key.Class n) held) m ≡ true
      → is_at_least m (object_mode e) ≡ true → may_by e c s held o ≡ true
  may_by_class e n m o x at none class met enough =
      let k = met_mode (held_mode (key.Class n) held) m met in
      may_itself e o x at none
      (inr (inr (
        k.0,
        ap (class_mode_in held) class
            ∙ k.1,
        class_allows e k.0 (at_least_along k.0 m (object_mode e) k.2 enough),
      )))

-- what is met in X allows to write
met_writes : (o : Option Mode) → is_met o Exclusive ≡ true → passes is_writing o ≡ true
met_writes None h = h
met_writes (Some n) h = h

-- the guard of the record of a site
pub guard_of_site : (c : CompiledView) (site r : ℕ) → SiteOf (program_of c) site r
    → guard_at c site ≡ guard_of c.scheme.guards r
guard_of_site c site r is = ap (guard_of c.scheme.guards)
    (get_or_from_slice_get (sites_of (program_of c).globals (program_of c).texts) site r 0 is)

-- the object of a guard is there, and nothing guards it
pub guard_is_there : (c : CompiledView) (s : StoreView) → IsScheme c.scheme → IsPointedStore c.scheme s → (r g : ℕ)
    → guard_of c.scheme.guards r ≡ Some g
    → (y : ObjectView) × (object_at s (object.Global g) ≡ Some y) × (guard_at c y.site ≡ None)
guard_is_there c s scheme objects r g is =
    let u = scheme.unguarded r g is in
    let y = objects.globals g u.declared in
    let of : SiteOf (program_of c) g u.own =
    slice_get-left (program_of c).globals (all_made (program_of c).texts) g u.own u.of_own in
    (y.0, y.1, ap (guard_at c) y.2 ∙ guard_of_site c g u.own of ∙ u.none)

-- a thread over a store, with the keys that it holds
module _ (c : CompiledView) (scheme : IsScheme c.scheme) (typed : IsTypedProgram (program_of c)) (t : ℕ) (s : StoreView)
    (w : WorkView) (pointed : IsPointed c.scheme t s w) (held : List Grip) where
  -- what a path of the thread denotes, whose record nothing guards
  pub denotes : (p : PathView) (e : Effect) → IsNeedable c.scheme t (lock.Path p e) → (o : ObjectName)
      → path_datum s w.locals p ≡ Refers o
      → (x : ObjectView) × (object_at s o ≡ Some x) × (guard_at c x.site ≡ None)
  denotes p e (own, (r, to, free)) o is =
      let k = denoted c.scheme scheme typed t s w pointed p r o to own is in
      (k.0, k.1, guard_of_site c k.0.site r k.3 ∙ free)

  -- a class that is held allows to access what a path of the class denotes
  class_allows_path : (n : ℕ) (m : Mode) (p : PathView) (e : Effect) → HasClass c.scheme.classes p n
      → is_met (held_mode (key.Class n) held) m ≡ true → is_at_least m (object_mode e) ≡ true
      → IsNeedable c.scheme t (lock.Path p e) → Secured c s w.locals held (lock.Path p e)
  class_allows_path n m p e class met enough (own, (r, to, free)) o is =
      let k = denoted c.scheme scheme typed t s w pointed p r o to own is in
      let same : k.4.0 ≡ n = (path_classes c.scheme.classes scheme.parted).one p k.4.0 n k.4.1 class in
      may_by_class c s held e n m o k.0 k.1 (guard_of_site c k.0.site r k.3 ∙ free) (k.4.2 ∙ ap (λ z. Some z) same) met
      enough

  -- who holds all objects in X may access what a path of the thread denotes
  all_secures : (p : PathView) (e : Effect) → IsNeedable c.scheme t (lock.Path p e) → holds_all held ≡ true
      → Secured c s w.locals held (lock.Path p e)
  all_secures p e own all o is = let x = denotes p e own o is in may_itself c s held e o x.0 x.1 x.2 (inl all)

  -- a lock that covers another secures what that one does
  pub what_covers_secures : (big l : Lock) → IsNeedable c.scheme t l → Covers c.scheme big l
      → Secured c s w.locals held big → Secured c s w.locals held l
  what_covers_secures lock.All lock.All own covers secured = secured
  what_covers_secures lock.All (lock.Class d q) own covers secured =
      or_left (holds_all held) (is_met (held_mode (key.Class d) held) (class_mode q)) secured
  what_covers_secures lock.All (lock.Path q f) own covers secured = all_secures q f own secured
  what_covers_secures (lock.Class n r) lock.All own covers secured = absurd covers
  what_covers_secures (lock.Path p e) lock.All own covers secured = absurd covers
  what_covers_secures (lock.Path p e) (lock.Path q f) own (same, allows) secured = λ o is.
      may_less c s held e f allows o (secured o (subst (λ z. path_datum s w.locals z ≡ Refers o) (sym same) is))
  what_covers_secures (lock.Class n r) (lock.Path q f) own (class, grants) secured =
      elim (or_cases (holds_all held) (is_met (held_mode (key.Class n) held) (class_mode r)) secured) [
        | inl all ↦ all_secures q f own all
        | inr met ↦ class_allows_path n (class_mode r) q f class met (grants_mode r f grants) own
      ]
  what_covers_secures (lock.Class n r) (lock.Class d q) own (same, includes) secured =
      subst (λ z. (holds_all held || is_met (held_mode (key.Class z) held) (class_mode q)) ≡ true) same
      (elim (or_cases (holds_all held) (is_met (held_mode (key.Class n) held) (class_mode r)) secured) [
        | inl all ↦ or_left (holds_all held) (is_met (held_mode (key.Class n) held) (class_mode q)) all
        | inr met ↦ or_right (holds_all held) (is_met (held_mode (key.Class n) held) (class_mode q))
            (met_less (held_mode (key.Class n) held) (class_mode r) (class_mode q) met (includes_mode r q includes))
      ])
  what_covers_secures (lock.Path p e) (lock.Class d q) own covers secured = absurd covers

  -- a plan that is met secures what a lock of its set covers
  pub a_met_plan_secures : (locks : List Lock) (part : List Grip) → IsFixedPart c.scheme locks part
      → meets held (plan_of part locks s w.locals) ≡ true → AreGripsKept s held
      → (big l : Lock) → Has locks big → IsNeedable c.scheme t l → Covers c.scheme big l → Secured c s w.locals held l
  a_met_plan_secures locks part is met of (lock.Class n r) l has own covers =
      what_covers_secures (lock.Class n r) l own covers
      (or_right (holds_all held) (is_met (held_mode (key.Class n) held) (class_mode r))
      (class_met c.scheme locks part is s w.locals held met n r has))
  a_met_plan_secures locks part is met of lock.All l has own covers =
      what_covers_secures lock.All l own covers
      (met_writes (held_mode key.All held) (all_met c.scheme locks part is s w.locals held met has))
  a_met_plan_secures locks part is met of (lock.Path p e) lock.All has own covers = absurd covers
  a_met_plan_secures locks part is met of (lock.Path p e) (lock.Class d q) has own covers = absurd covers
  a_met_plan_secures locks part is met of (lock.Path p e) (lock.Path q f) has own (same, allows) = λ o at.
      let x = denotes q f own o at in
      let m = path_met c.scheme locks part is s w.locals held met p e o has
      (subst (λ z. path_datum s w.locals z ≡ Refers o) (sym same) at) in
      may_itself c s held f o x.0 x.1 x.2
      (inr
      (inl (
        m.0,
        m.1,
        key_allows f m.0 (of o m.0 m.1).1
            (at_least_along m.0 (object_mode e) (object_mode f) m.2 (allows_mode e f allows)),
      )))

  -- an object may be accessed where its own lock is secured, or that of its record's guard
  pub guard_or_itself : (r : ℕ) (g : Option ℕ) → guard_of c.scheme.guards r ≡ g
      → (q : PathView) (e : Effect) (o : ObjectName) (x : ObjectView) → object_at s o ≡ Some x
      → SiteOf (program_of c) x.site r
      → Secured c s w.locals held (lock.Path (read_for g q) e) → path_datum s w.locals q ≡ Refers o
      → may_by e c s held o ≡ true
  guard_or_itself r None none q e o x at of secured is = secured o is
  guard_or_itself r (Some g) some q e o x at of secured is =
      let y = guard_is_there c s scheme pointed.objects r g some in
      let one : locked_object c s o ≡ object.Global g =
      locked_is c s o x at ∙ ap (λ z. guard_or z o) (guard_of_site c x.site r of ∙ some) in
      let other : locked_object c s (object.Global g) ≡ object.Global g = locked_is c s (object.Global g) y.0 y.1
      ∙ ap (λ z. guard_or z (object.Global g)) y.2 in
      may_same c s held e o (object.Global g) (one ∙ sym other) (secured (object.Global g) refl)

  -- the lock for reading through a path is one of the thread
  reads_own : (r : ℕ) (g : Option ℕ) → guard_of c.scheme.guards r ≡ g → (q : PathView) → IsOwn t q
      → PathTo (program_of c) q r → IsNeedable c.scheme t (lock.Path (read_for g q) effect.Read)
  reads_own r None none q own to = (own, (r, to, none))
  reads_own r (Some g) some q own to = let u = scheme.unguarded r g some in (tt, (u.own, u.of_own, u.none))

  -- who has secured what a text of section i needs may read what a beginning of a needed path denotes
  pub beginnings_are_held : (i : ℕ) (k : TextView) → StandsInThread c.scheme t k → AllSecured c s t i w.locals held k
      → (p q : PathView) (f : Field) (e : Effect) → NeededIn c.scheme t (end_of c.scheme i) k (lock.Path p e)
      → GoesBy p q f → (o : ObjectName) → path_datum s w.locals q ≡ Refers o
      → ((x : ObjectView) × (object_at s o ≡ Some x)) × (may_read c s held o ≡ true)
  beginnings_are_held i k stands secured p q f e needed goes o is =
      let last = end_of c.scheme i in
      let m = reads_in c.scheme scheme t last (end_reads c.scheme i) k stands p q f e needed goes in
      let of = needed_needable c.scheme t scheme typed last (end_needable c.scheme t i) k stands (lock.Path p e)
      needed in
      let own = begins_own t p q f of.0 goes in
      let to = begins_to c.scheme p q f of.1.0 of.1.1 goes in
      let x = denoted c.scheme scheme typed t s w pointed q f.of o to own is in
      let g = guard_of c.scheme.guards f.of in
      let read = what_covers_secures m.0 (lock.Path (read_for g q) effect.Read) (reads_own f.of g refl q own to) m.2
      (secured m.0 m.1) in
      ((x.0, x.1), guard_or_itself f.of g refl q effect.Read o x.0 x.1 x.3 read is)
