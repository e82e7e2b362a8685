-- Each site in a set is of the record of what holds it, and the sites of a class have one record.
use Rattle.std.proofs.Common.{◌≡◌, ℕ, zero, suc, List, [], ◌∷◌, ◌++◌, length, get_or, Option, Some, None, refl, sym, ap}
use Rattle.std.proofs.{Common.{◌∙◌, subst, inl, inr, arith}, lemmas.Bool.{cases_eq, cases_lt}}
use Rattle.std.proofs.lemmas.List.{get_or_past}
use Rattle.std.proofs.lemmas.Option.{slice_get_within, slice_get-get_or, get_or_from_slice_get, same_Some}
use Rattle.std.specs.Prelude.{slice_get, slice_index, slice_index_or}
use Rattle.sect_lemmas.specs.Lists.{Has}
use Rattle.sect_lemmas.proofs.{Membership.{Has-left, Has-right, Has-cases}, Elements.{slice_get-left}}
use Rattle.sect_types.specs.Programs.{ProgramView, environment_at, sites_of}
use Rattle.sect_types.specs.Sound.{reference_to, type_at, type_in, field_type, HasType, IsSoundAction}
use Rattle.sect_types.specs.declared.declarations.types.ValueType.{ValueType}
use Rattle.sect_types.specs.declared.declarations.types.ValueType.TheVariants.{Int, Refers}
use Rattle.sect_types.specs.{declared.expansion.action.Base.{Base}, declared.expansion.action.Value.{Value}}
use Rattle.sect_types.specs.declared.expansion.action.Action.{Action}
use Rattle.sect_points.specs.{declared.holders.Fact.{Fact}, declared.holders.Holder.{Holder}}
use Rattle.sect_points.specs.declared.holders.Holder.TheVariants.{Local, Slot}
use Rattle.sect_points.specs.Flow.{Family, ValueHas, BaseHas, Moved, Within, IsClosed, fact, family_of}
use Rattle.sect_points.specs.{Paths.{var, dot}, Partitions.{Together, Respects}, Sets.{InSets}}
use Rattle.sect_points.specs.Statements.{thread_actions}
use Rattle.sect_points.proofs.shared.SolvingLaws.{moved_more}
use Rattle.sect_names.specs.{Schemes.{SchemeView, IsScheme}, Locks.{VariableTo, FieldTo}}
use Rattle.sect_names.specs.Records.{IsTypedProgram, SiteOf, LocalsFit, FieldsFit, PathsFit, ClassesHaveOneRecord}
use Rattle.sect_names.proofs.{Facts.{where_so, so_there, there_so}, Typing.{same_refers}}
use Rattle.sect_names.proofs.shared.Typing.{same_type, reference_of}
use Rattle.sect_names.proofs.shared.Placing.{MakesOwn, statement_sound, statement_sited}
use Rattle.sect_types.specs.declared.expansion.action.Base.TheVariants as base
use Rattle.sect_types.specs.declared.expansion.action.Value.TheVariants as value
use Rattle.sect_types.specs.declared.expansion.action.Action.TheVariants as action
use Rattle.sect_points.specs.declared.holders.Variable.TheVariants as variable

-- what a list is made of, element by element with its index
abbrev each : {A B : Type 0} → (ℕ → A → List B) → List A → List B
each g [] = []
each g (x ∷ xs) = g zero x ++ each (λ k. g (suc k)) xs

has_each : {A B : Type 0} (g : ℕ → A → List B) (xs : List A) (y : B) → Has (each g xs) y
    → (j : ℕ) × (x : A) × (slice_get xs j ≡ Some x) × Has (g j x) y
has_each g [] y h = absurd h
has_each g (x ∷ xs) y h = elim (Has-cases (g zero x) (each (λ k. g (suc k)) xs) y h) [
  | inl k ↦ (zero, x, refl, k)
  | inr k ↦ (let r = has_each (λ k. g (suc k)) xs y k in (suc r.0, r.1, r.2, r.3))
]

each_has : {A B : Type 0} (g : ℕ → A → List B) (xs : List A) (j : ℕ) (x : A) (y : B) → slice_get xs j ≡ Some x
    → Has (g j x) y → Has (each g xs) y
each_has g [] j x y e h = absurd cc
each_has g (z ∷ xs) zero x y e h = let is : z ≡ x = cc in
    Has-left (g zero z) (each (λ k. g (suc k)) xs) y (subst (λ w. Has (g zero w) y) (sym is) h)
each_has g (z ∷ xs) (suc j) x y e h =
    Has-right (g zero z) (each (λ k. g (suc k)) xs) y (each_has (λ k. g (suc k)) xs j x y e h)

-- the facts that sites of the type's record are held here
abbrev facts_to : List ℕ → Holder → ValueType → List Fact
facts_to sites h Int = []
facts_to sites h (Refers r) = each (λ s q. where_so (cases_eq q r) (fact h s)) sites

has_facts : (sites : List ℕ) (h k : Holder) (ty : ValueType) (s : ℕ) → Has (facts_to sites k ty) (fact h s)
    → (k ≡ h) × ((r : ℕ) × (ty ≡ Refers r) × (slice_get sites s ≡ Some r))
has_facts sites h k Int s has = absurd has
has_facts sites h k (Refers r) s has =
    let e = has_each (λ s q. where_so (cases_eq q r) (fact k s)) sites (fact h s) has in
    let o = there_so (cases_eq e.1 r) (fact k e.0) (fact h s) e.3 in (
      ap (λ (x : Fact). x.holder) o.1,
      (r, refl, subst (λ j. slice_get sites j ≡ Some r) (ap (λ (x : Fact). x.site) o.1) (e.2 ∙ ap (λ x. Some x) o.0)),
    )

facts_has : (sites : List ℕ) (h : Holder) (r s : ℕ) → slice_get sites s ≡ Some r
    → Has (facts_to sites h (Refers r)) (fact h s)
facts_has sites h r s e = each_has (λ s q. where_so (cases_eq q r) (fact h s)) sites s r (fact h s) e
    (so_there (cases_eq r r) (fact h s) refl)

abbrev fields_in : Option (List ValueType) → List ValueType
fields_in None = []
fields_in (Some ts) = ts

field_in : (o : Option (List ValueType)) (f : ℕ) → slice_get (fields_in o) f ≡ type_in o f
field_in None f = refl
field_in (Some ts) f = refl

module _ (p : ProgramView) where
  abbrev sites : List ℕ
  sites = sites_of p.globals p.texts

  -- the site is of the record of what holds it
  abbrev IsOfType : Family
  IsOfType (Local t x) s = (r : ℕ) × VariableTo p (variable.Local t x) r × SiteOf p s r
  IsOfType (Slot o f) s = (q r : ℕ) × SiteOf p o q × FieldTo p q f r × SiteOf p s r

  abbrev local_facts : List Fact
  local_facts = each (λ t row. each (λ x ty. facts_to sites (Local t x) ty) row) p.locals

  abbrev slot_facts : List Fact
  slot_facts = each (λ o q. each (λ f ty. facts_to sites (Slot o f) ty) (fields_in (slice_get p.records q))) sites

  abbrev all_facts : List Fact
  all_facts = local_facts ++ slot_facts

  in_row : (t x : ℕ) (ty : ValueType) → slice_get (slice_index_or p.locals t []) x ≡ Some ty
      → slice_get p.locals t ≡ Some (get_or p.locals t [])
  in_row t x ty e = elim (cases_lt t (length p.locals)) [
    | inl there ↦ slice_get-get_or p.locals t [] there
    | inr past ↦ absurd (let w = slice_get_within (slice_index_or p.locals t []) x ty e in
        omega (arith, w, ap length (get_or_past p.locals t [] past)))
  ]

  of_type_has : (h : Holder) (s : ℕ) → IsOfType h s → Has all_facts (fact h s)
  of_type_has (Local t x) s (r, to, of) =
      Has-left local_facts slot_facts (fact (Local t x) s)
      (each_has (λ t row. each (λ x ty. facts_to sites (Local t x) ty) row) p.locals t (get_or p.locals t [])
      (fact (Local t x) s) (in_row t x (Refers r) to)
      (each_has (λ x ty. facts_to sites (Local t x) ty) (get_or p.locals t []) x (Refers r) (fact (Local t x) s) to
      (facts_has sites (Local t x) r s of)))
  of_type_has (Slot o f) s (q, r, own, to, of) =
      Has-right local_facts slot_facts (fact (Slot o f) s)
      (each_has (λ o q. each (λ f ty. facts_to sites (Slot o f) ty) (fields_in (slice_get p.records q))) sites o q
      (fact (Slot o f) s) own
      (each_has (λ f ty. facts_to sites (Slot o f) ty) (fields_in (slice_get p.records q)) f (Refers r)
      (fact (Slot o f) s) (field_in (slice_get p.records q) f ∙ to) (facts_has sites (Slot o f) r s of)))

  of_local : (t x : ℕ) (row : List ValueType) (ty : ValueType) (r s : ℕ) → slice_get p.locals t ≡ Some row
      → slice_get row x ≡ Some ty → ty ≡ Refers r → SiteOf p s r → IsOfType (Local t x) s
  of_local t x row ty r s at e is of = (
    r,
    ap (λ (l : List ValueType). slice_get l x) (get_or_from_slice_get p.locals t row [] at) ∙ e
        ∙ ap (λ y. Some y) is,
    of,
  )

  of_slot : (o f q : ℕ) (ty : ValueType) (r s : ℕ) → SiteOf p o q
      → slice_get (fields_in (slice_get p.records q)) f ≡ Some ty → ty ≡ Refers r → SiteOf p s r → IsOfType (Slot o f) s
  of_slot o f q ty r s own e is of = (q, r, own, sym (field_in (slice_get p.records q) f) ∙ e ∙ ap (λ y. Some y) is, of)

  has_of_type : (h : Holder) (s : ℕ) → Has all_facts (fact h s) → IsOfType h s
  has_of_type h s has = elim (Has-cases local_facts slot_facts (fact h s) has) [
    | inl k ↦
        let a = has_each (λ t row. each (λ x ty. facts_to sites (Local t x) ty) row) p.locals (fact h s) k in
        let b = has_each (λ x ty. facts_to sites (Local a.0 x) ty) a.1 (fact h s) a.3 in
        let c = has_facts sites h (Local a.0 b.0) b.1 s b.3 in
        subst (λ k. IsOfType k s) c.0 (of_local a.0 b.0 a.1 b.1 c.1.0 s a.2 b.2 c.1.1 c.1.2)
    | inr k ↦
        let a = has_each (λ o q. each (λ f ty. facts_to sites (Slot o f) ty) (fields_in (slice_get p.records q))) sites
        (fact h s) k in
        let b = has_each (λ f ty. facts_to sites (Slot a.0 f) ty) (fields_in (slice_get p.records a.1)) (fact h s)
        a.3 in
        let c = has_facts sites h (Slot a.0 b.0) b.1 s b.3 in
        subst (λ k. IsOfType k s) c.0 (of_slot a.0 b.0 a.1 b.1 c.1.0 s a.2 b.2 c.1.1 c.1.2)
  ]

  site_of_global : (g r : ℕ) → slice_get p.globals g ≡ Some r → SiteOf p g r
  site_of_global g r e = slice_get-left p.globals _ g r e

  base_site : (t : ℕ) (b : Base) (q o : ℕ) → type_at (environment_at p t) b ≡ Some (Refers q) → BaseHas IsOfType t b o
      → SiteOf p o q
  base_site t (base.Local x) q o e (r, to, of) =
      subst (SiteOf p o) (same_refers r q
      (same_type (slice_get (slice_index_or p.locals t []) x) (Refers r) (Refers q) to e)) of
  base_site t (base.Global g) q o e is =
      subst (λ k. SiteOf p k q) (sym is) (site_of_global g q (reference_of (slice_get p.globals g) q e))

  global_type : (o : Option ℕ) (ty : ValueType) → reference_to o ≡ Some ty → (r : ℕ) × (ty ≡ Refers r) × (o ≡ Some r)
  global_type None ty e = absurd cc
  global_type (Some r) ty e = (r, (let is : Refers r ≡ ty = cc in sym is), refl)

  value_site : (t : ℕ) (v : Value) (ty : ValueType) (s : ℕ) → HasType (environment_at p t) v ty
      → ValueHas IsOfType t v s → (r : ℕ) × (ty ≡ Refers r) × SiteOf p s r
  value_site t (value.Number n) ty s h k = absurd k
  value_site t value.Null ty s h k = absurd k
  value_site t (value.Local x) ty s h (r, to, of) =
      (r, same_type (slice_get (slice_index_or p.locals t []) x) ty (Refers r) h to, of)
  value_site t (value.Global g) ty s h is = let r = global_type (slice_get p.globals g) ty h in
      (r.0, r.1, subst (λ k. SiteOf p k r.0) (sym is) (site_of_global g r.0 r.2))

  moved_typed : (t : ℕ) (a : Action) → IsSoundAction (environment_at p t) a → MakesOwn p a
      → Within (Moved IsOfType t a) IsOfType
  moved_typed t (action.Assign x v) sound own h s (is, k) =
      let r = value_site t v sound.0 s sound.2 k in
      subst (λ (y : Holder). IsOfType y s) (sym is) (r.0, sound.1 ∙ ap (λ y. Some y) r.1, r.2)
  moved_typed t (action.Compute x v o w) sound own h s k = absurd k
  moved_typed t (action.New x r i) sound own h s (is, at) =
      subst (λ (y : Holder). IsOfType y s) (sym is) (r, sound.1, subst (λ k. SiteOf p k r) (sym at) own)
  moved_typed t (action.Load x b f) sound own h s (is, (o, base_has, (q, r, of_base, to, of))) =
      let same : q ≡ f.of = same_Some q f.of (sym of_base ∙ base_site t b f.of o sound.1 base_has) in
      let ty : sound.0 ≡ Refers r = same_type (field_type (environment_at p t) f) sound.0 (Refers r) sound.2
      (subst (λ k. FieldTo p k f.number r) same to) in
      subst (λ (y : Holder). IsOfType y s) (sym is) (r, sound.3 ∙ ap (λ y. Some y) ty, of)
  moved_typed t (action.Store b f v) sound own h s (o, base_has, is, k) =
      let r = value_site t v sound.0 s sound.3 k in
      subst (λ (y : Holder). IsOfType y s) (sym is)
      (f.of, r.0, base_site t b f.of o sound.1 base_has, sound.2 ∙ ap (λ y. Some y) r.1, r.2)
  moved_typed t (action.Print v) sound own h s k = absurd k

  facts_closed : IsTypedProgram p → IsClosed (family_of all_facts) (thread_actions p)
  facts_closed typed q there h s moved =
      of_type_has h s (moved_typed q.thread q.action (statement_sound p typed q there) (statement_sited p typed q there)
      h s
      (moved_more (family_of all_facts) IsOfType q.thread q.action has_of_type h s moved))

module _ (s : SchemeView) (scheme : IsScheme s) (typed : IsTypedProgram s.program) where
  of_type : (h : Holder) (site : ℕ) → InSets s.classes.sets h site → IsOfType s.program h site
  of_type h site at = has_of_type s.program h site
      (scheme.flow.within (all_facts s.program) (facts_closed s.program typed) h site at)

  -- each site in a local's set is of the local's record
  pub locals_fit : LocalsFit s
  locals_fit t x site at = of_type (Local t x) site at

  -- each site in the set of a field is of the field's record
  pub fields_fit : FieldsFit s
  fields_fit o f site at = of_type (Slot o f) site at

  -- each site of a typed path is of the path's record
  pub paths_fit : PathsFit s
  paths_fit (var (variable.Global g)) r site to is =
      subst (λ k. SiteOf s.program k r) (sym is) (site_of_global s.program g r to)
  paths_fit (var (variable.Local t x)) r site to at =
      let k = locals_fit t x site at in
      subst (SiteOf s.program site) (same_refers k.0 r
      (same_type (slice_get (slice_index_or s.program.locals t []) x) (Refers k.0) (Refers r) k.1 to)) k.2
  paths_fit (dot q f) r site (to, field) (o, has, at) =
      let k = fields_fit o f.number site at in
      let same : k.0 ≡ f.of = same_Some k.0 f.of (sym k.2 ∙ paths_fit q f.of o to has) in
      let also = subst (λ n. FieldTo s.program n f.number k.1) same k.3 in
      subst (SiteOf s.program site) (same_refers k.1 r
      (same_type (type_in (slice_get s.program.records f.of) f.number) (Refers k.1) (Refers r) also field)) k.4

  abbrev records : List ℕ
  records = sites_of s.program.globals s.program.texts

  index_of : (site r : ℕ) → SiteOf s.program site r → slice_index records site ≡ r
  index_of site r of = get_or_from_slice_get records site r 0 of

  records_respect : Respects (InSets s.classes.sets) records
  records_respect (Local t x) (Local u y) a b h k (tu, xy) =
      let i = locals_fit t x a h in
      let j = locals_fit u y b k in
      let to : VariableTo s.program (variable.Local t x) j.0 =
      subst (λ n. VariableTo s.program (variable.Local n x) j.0) (sym tu)
      (subst (λ n. VariableTo s.program (variable.Local u n) j.0) (sym xy) j.1) in
      index_of a i.0 i.2 ∙ same_refers i.0 j.0
      (same_type (slice_get (slice_index_or s.program.locals t []) x) (Refers i.0) (Refers j.0) i.1 to)
      ∙ sym (index_of b j.0 j.2)
  records_respect (Slot o f) (Slot q g) a b h k (fg, together) =
      let i = fields_fit o f a h in
      let j = fields_fit q g b k in
      let own : i.0 ≡ j.0 = sym (index_of o i.0 i.2) ∙ together ∙ index_of q j.0 j.2 in
      let to : FieldTo s.program i.0 f j.1 =
      subst (λ n. FieldTo s.program n f j.1) (sym own) (subst (λ n. FieldTo s.program j.0 n j.1) (sym fg) j.3) in
      index_of a i.1 i.4 ∙ same_refers i.1 j.1
      (same_type (type_in (slice_get s.program.records i.0) f) (Refers i.1) (Refers j.1) i.3 to)
      ∙ sym (index_of b j.1 j.4)
  records_respect (Local t x) (Slot q g) a b h k e = absurd e
  records_respect (Slot o f) (Local u y) a b h k e = absurd e

  -- the sites of a class have one record
  pub classes_fit : ClassesHaveOneRecord s
  classes_fit a b n q r at_a at_b of_a of_b =
      let together : Together s.classes.numbers a b = get_or_from_slice_get s.classes.numbers a n 0 at_a
      ∙ sym (get_or_from_slice_get s.classes.numbers b n 0 at_b) in
      let same = scheme.parted.finest.finest records records_respect a b (slice_get_within s.classes.numbers a n at_a)
      (slice_get_within s.classes.numbers b n at_b) together in
      sym (index_of a q of_a) ∙ same ∙ index_of b r of_b
