-- A section has fewer locks than there are numbers.
use Rattle.std.proofs.Common.{◌≡◌, ℕ, zero, suc, ◌+◌, ◌*◌, ◌<◌, ◌≤◌, List, [], ◌∷◌, ◌++◌, map, length, length-append}
use Rattle.std.proofs.Common.{Option, Some, None, refl, sym, ap, ◌∙◌, subst, inl, inr, arith, slice_get}
use Rattle.std.proofs.{lemmas.List.{length-map, get_or_past}, lemmas.List.Elements.{All-get_or}, lemmas.Bool.{cases_lt}}
use Rattle.std.proofs.lemmas.Option.{slice_get_within, get_or_from_slice_get}
use Rattle.std.specs.{Prelude.{slice_index_or}, List.{flat_map}}
use Rattle.sect_types.specs.declared.declarations.limits.TheConstants.{MOST_ALL_LOCALS, MOST_FIELDS, MOST_GLOBALS}
use Rattle.sect_types.specs.declared.declarations.limits.TheConstants.{MOST_SITES}
use Rattle.sect_types.specs.{Programs.{ProgramView, IsWithinLimits, sites_of}, Sound.{type_in}}
use Rattle.sect_types.specs.{declared.expansion.action.Field.{Field}, declared.declarations.types.ValueType.{ValueType}}
use Rattle.sect_types.specs.declared.declarations.types.ValueType.TheVariants.{Int, Refers}
use Rattle.sect_lemmas.specs.Lists.{Has}
use Rattle.sect_lemmas.proofs.{Membership.{Has-left, Has-right}, Listing.{Has-map, Has-flat_map, below, Has-below}}
use Rattle.sect_points.specs.declared.holders.Variable.{Variable}
use Rattle.sect_points.specs.{declared.holders.Variable.TheVariants.{Global, Local}, Paths.{PathView, var, dot}}
use Rattle.sect_names.specs.{declared.lock.Lock.{Lock}, Schemes.{SchemeView, IsScheme}, Order.{AreInOrder, LockBefore}}
use Rattle.sect_names.specs.Locks.{depth, IsField, PathTo, IsOwn, IsPathIn, IsLockOf}
use Rattle.sect_names.proofs.shared.{Sounding.{path_there}, Uniqueness.{lock_once}}
use Rattle.sect_names.specs.declared.lock.Effect.TheVariants as effect
use Rattle.sect_names.specs.declared.lock.Right.TheVariants as right
use Rattle.sect_names.specs.declared.lock.Lock.TheVariants as lock

-- a list without one of its elements
without : {X : Type 0} (xs : List X) (x : X) → Has xs x → (rest : List X) × (length xs ≡ length rest + 1)
    × ((y : X) → (y ≡ x → ⊥) → Has xs y → Has rest y)
without [] x h = absurd h
without (z ∷ xs) x (inl e) = (xs, (omega arith), λ y other h. elim h [ inl f ↦ absurd (other (sym f ∙ e)) | inr k ↦ k ])
without (z ∷ xs) x (inr h) =
    let r = without xs x h in
    (z ∷ r.0, (let e = r.1 in omega (arith, e)), λ y other k. elim k [ inl f ↦ inl f | inr m ↦ inr (r.2 y other m) ])

-- locks in order that stand in a list are no more than it has
pub no_more : (xs big : List Lock) → AreInOrder xs → ((l : Lock) → Has xs l → Has big l) → length xs ≤ length big
no_more [] big order sub = omega arith
no_more (x ∷ xs) big order sub =
    let w = without big x (sub x (inl refl)) in
    let rest = no_more xs w.0 order.1
    (λ y h. w.2 y (λ e. let b = subst (LockBefore x) e (order.0 y h) in lock_once x x b b) (sub y (inr h))) in
    omega (arith, rest, w.1)

length-below : (n : ℕ) → length (below n) ≡ n
length-below zero = refl
length-below (suc n) = let e = length-below n in omega (arith, e)

module _ {X Y : Type 0} (f : X → List Y) where
  length-twice : ((x : X) → length (f x) ≡ 2) → (xs : List X) → length (flat_map f xs) ≡ 2 * length xs
  length-twice e [] = refl
  length-twice e (x ∷ xs) = let a = e x in let b = length-twice e xs in
      omega (arith, a, b, length-append (f x) (flat_map f xs))

  length-thrice : ((x : X) → length (f x) ≡ 3) → (xs : List X) → length (flat_map f xs) ≡ 3 * length xs
  length-thrice e [] = refl
  length-thrice e (x ∷ xs) = let a = e x in let b = length-thrice e xs in
      omega (arith, a, b, length-append (f x) (flat_map f xs))

  length-by_fields : ((x : X) → length (f x) ≡ MOST_FIELDS) → (xs : List X)
      → length (flat_map f xs) ≡ MOST_FIELDS * length xs
  length-by_fields e [] = refl
  length-by_fields e (x ∷ xs) = let a = e x in let b = length-by_fields e xs in
      omega (arith, a, b, length-append (f x) (flat_map f xs))

-- the number of the record to whose objects a type refers
abbrev number_of : Option ValueType → ℕ
number_of None = 0
number_of (Some Int) = 0
number_of (Some (Refers r)) = r

module _ (p : ProgramView) (t : ℕ) where
  -- the record to whose objects a path refers
  abbrev reach : PathView → ℕ
  reach (var (Global g)) = slice_index_or p.globals g 0
  reach (var (Local u x)) = number_of (slice_get (slice_index_or p.locals u []) x)
  reach (dot q f) = number_of (type_in (slice_get p.records f.of) f.number)

  reaches : (q : PathView) (r : ℕ) → PathTo p q r → reach q ≡ r
  reaches (var (Global g)) r to = get_or_from_slice_get p.globals g r 0 to
  reaches (var (Local u x)) r to = ap number_of to
  reaches (dot q f) r to = ap number_of to.1

  abbrev field_at : ℕ → ℕ → Field
  field_at r n = record { of = r; number = n }

  -- the paths that go on from one by a field
  abbrev longer : PathView → List PathView
  longer q = map (λ n. dot q (field_at (reach q) n)) (below MOST_FIELDS)

  abbrev own_locals : List PathView
  own_locals = map (λ x. var (Local t x)) (below (length (slice_index_or p.locals t [])))

  abbrev bases : List PathView
  bases = map (λ g. var (Global g)) (below (length p.globals)) ++ own_locals

  abbrev paths : ℕ → List PathView
  paths zero = bases
  paths (suc k) = bases ++ flat_map longer (paths k)

  module _ (limits : IsWithinLimits p) where
    few_bases : length bases ≤ MOST_GLOBALS + MOST_ALL_LOCALS
    few_bases =
        let locals : length (slice_index_or p.locals t []) ≤ MOST_ALL_LOCALS =
        elim (cases_lt t (length p.locals)) [
          | inl there ↦
              All-get_or (λ (ts : List ValueType). length ts ≤ MOST_ALL_LOCALS) p.locals t [] there limits.few_locals
          | inr past ↦ omega (arith, ap length (get_or_past p.locals t [] past))
        ] in
        let globals : length p.globals ≤ MOST_GLOBALS = limits.few_globals in
        omega (
          arith,
          locals,
          globals,
          length-append (map (λ g. var (Global g)) (below (length p.globals))) own_locals,
          length-map (below (length p.globals)) (λ g. var (Global g)),
          length-map (below (length (slice_index_or p.locals t []))) (λ x. var (Local t x)),
          length-below (length p.globals),
          length-below (length (slice_index_or p.locals t [])),
        )

    one_by_field : (q : PathView) → length (longer q) ≡ MOST_FIELDS
    one_by_field q = length-map (below MOST_FIELDS) (λ n. dot q (field_at (reach q) n))

    more_paths : (k : ℕ) → length (paths (suc k)) ≤ MOST_GLOBALS + MOST_ALL_LOCALS + MOST_FIELDS * length (paths k)
    more_paths k =
        let b = few_bases in
        let l = length-by_fields longer one_by_field (paths k) in
        omega (arith, b, l, length-append bases (flat_map longer (paths k)))

    few_paths : (k : ℕ) → k ≤ 3 → length (paths k) ≤ 19293504
    few_paths zero most = let b = few_bases in omega (arith, b)
    few_paths (suc zero) most = let b = few_bases in let m = more_paths 0 in omega (arith, b, m)
    few_paths (suc (suc zero)) most = let b = few_bases in let m = more_paths 0 in let n = more_paths 1 in
        omega (arith, b, m, n)
    few_paths (suc (suc (suc zero))) most = let b = few_bases in let m = more_paths 0 in let n = more_paths 1 in
        let o = more_paths 2 in omega (arith, b, m, n, o)
    few_paths (suc (suc (suc (suc k)))) most = absurd (omega (arith, most))

    has_base : (v : Variable) (r : ℕ) → IsOwn t (var v) → PathTo p (var v) r → Has bases (var v)
    has_base (Global g) r own to =
        Has-left (map (λ g. var (Global g)) (below (length p.globals))) own_locals (var (Global g))
        (Has-map (λ g. var (Global g)) (below (length p.globals)) g
        (Has-below (length p.globals) g (slice_get_within p.globals g r to)))
    has_base (Local u x) r own to =
        let at = subst (λ w. slice_get (slice_index_or p.locals w []) x ≡ Some (Refers r)) own to in
        let within = slice_get_within (slice_index_or p.locals t []) x (Refers r) at in
        subst (λ w. Has bases (var (Local w x))) (sym own)
        (Has-right (map (λ g. var (Global g)) (below (length p.globals))) own_locals (var (Local t x))
        (Has-map (λ y. var (Local t y)) (below (length (slice_index_or p.locals t []))) x
        (Has-below (length (slice_index_or p.locals t [])) x within)))

    few_in_record : (f : Field) → IsField p f → f.number < MOST_FIELDS
    few_in_record f there =
        let few = All-get_or (λ (ts : List ValueType). length ts ≤ MOST_FIELDS) p.records f.of []
        (slice_get_within p.records f.of there.0 there.1) limits.few_fields in
        omega (arith, there.2, few, ap length (get_or_from_slice_get p.records f.of there.0 [] there.1))

    has_path : (k : ℕ) (q : PathView) (r : ℕ) → IsOwn t q → PathTo p q r → depth q ≤ k → Has (paths k) q
    has_path zero (var v) r own to few = has_base v r own to
    has_path zero (dot q f) r own to few = absurd (omega (arith, few))
    has_path (suc k) (var v) r own to few = Has-left bases (flat_map longer (paths k)) (var v) (has_base v r own to)
    has_path (suc k) (dot q f) r own to few =
        let here = has_path k q f.of own to.0 (omega (arith, few)) in
        let at : field_at (reach q) f.number ≡ f = ap (λ n. field_at n f.number) (reaches q f.of to.0) in
        let goes = Has-map (λ n. dot q (field_at (reach q) n)) (below MOST_FIELDS) f.number
        (Has-below MOST_FIELDS f.number (few_in_record f (path_there p (dot q f) r to).1)) in
        Has-right bases (flat_map longer (paths k)) (dot q f)
        (Has-flat_map longer (paths k) q (dot q f) here (subst (λ g. Has (longer q) (dot q g)) at goes))

abbrev on_path : PathView → List Lock
on_path q = lock.Path q effect.Read ∷ lock.Path q effect.Write ∷ []

abbrev on_class : ℕ → List Lock
on_class c = lock.Class c right.Read ∷ lock.Class c right.Write ∷ lock.Class c right.Make ∷ []

module _ (s : SchemeView) (scheme : IsScheme s) (limits : IsWithinLimits s.program) (t : ℕ) where
  -- the locks that a section of the thread may take
  abbrev own_locks : List Lock
  own_locks = lock.All ∷ (flat_map on_path (paths s.program t s.most) ++ flat_map on_class s.classes.numbers)

  on_own_path : (q : PathView) (l : Lock) → IsPathIn s t q → Has (on_path q) l → Has own_locks l
  on_own_path q l is h =
      inr (Has-left (flat_map on_path (paths s.program t s.most)) (flat_map on_class s.classes.numbers) l
      (Has-flat_map on_path (paths s.program t s.most) q l
      (has_path s.program t limits s.most q is.of is.own is.refers is.short) h))

  on_its_class : (c : ℕ) (l : Lock) → Has s.classes.numbers c → Has (on_class c) l → Has own_locks l
  on_its_class c l there h =
      inr (Has-right (flat_map on_path (paths s.program t s.most)) (flat_map on_class s.classes.numbers) l
      (Has-flat_map on_class s.classes.numbers c l there h))

  has_lock : (l : Lock) → IsLockOf s t l → Has own_locks l
  has_lock lock.All h = inl refl
  has_lock (lock.Path q effect.Read) h = on_own_path q (lock.Path q effect.Read) h (inl refl)
  has_lock (lock.Path q effect.Write) h = on_own_path q (lock.Path q effect.Write) h (inr (inl refl))
  has_lock (lock.Class c right.Read) h = on_its_class c (lock.Class c right.Read) h (inl refl)
  has_lock (lock.Class c right.Write) h = on_its_class c (lock.Class c right.Write) h (inr (inl refl))
  has_lock (lock.Class c right.Make) h = on_its_class c (lock.Class c right.Make) h (inr (inr (inl refl)))

  few_own : length own_locks ≤ 4294967296
  few_own =
      let paths_few = few_paths s.program t limits s.most scheme.most in
      let sites : length (sites_of s.program.globals s.program.texts) ≤ MOST_SITES = limits.few_sites in
      let numbers : length s.classes.numbers ≡ length (sites_of s.program.globals s.program.texts) =
      scheme.parted.sites ∙ scheme.sites in
      omega (
        arith,
        paths_few,
        sites,
        numbers,
        length-append (flat_map on_path (paths s.program t s.most)) (flat_map on_class s.classes.numbers),
        length-twice on_path (λ q. refl) (paths s.program t s.most),
        length-thrice on_class (λ c. refl) s.classes.numbers,
      )

  -- a set of them in order has no more than there are numbers
  pub few_locks : (locks : List Lock) → AreInOrder locks → ((l : Lock) → Has locks l → IsLockOf s t l)
      → length locks ≤ 4294967296
  few_locks locks order lawful = let n = no_more locks own_locks order (λ l h. has_lock l (lawful l h)) in
      let m = few_own in omega (arith, n, m)
