-- What a path denotes after a step, something that it is carried back to denoted before it, or the step makes it.
use Rattle.std.proofs.Common.{true≢false, ◌≡◌, ◌⊎◌, ℕ, List, [], Option, Some, None, Bool, true, false, refl, sym, ap}
use Rattle.std.proofs.{Common.{◌∙◌, subst, inl, inr}, lemmas.Option.{same_Some}}
use Rattle.std.specs.Prelude.{slice_get, slice_index_or, pos, if◌then◌else◌}
use Rattle.sect_types.specs.{Programs.{environment_at}, Sound.{IsSoundAction}}
use Rattle.sect_types.specs.{declared.declarations.types.ValueType.{ValueType}, declared.expansion.action.Base.{Base}}
use Rattle.sect_types.specs.{declared.expansion.action.Value.{Value}, declared.expansion.action.Field.{Field}}
use Rattle.sect_types.specs.{declared.expansion.action.Action.{Action}, declared.expansion.action.Label.{Label}}
use Rattle.sect_types.specs.{declared.meaning.store.ObjectName.{ObjectName}, declared.meaning.store.Datum.{Datum}}
use Rattle.sect_types.specs.declared.meaning.store.Datum.TheVariants.{Number, Null, Refers}
use Rattle.sect_types.specs.Store.{ObjectView, StoreView, object_at, row, count, with_field, write, add, same_name}
use Rattle.sect_types.specs.Meaning.{WorkView, local_datum, datum_or_null, value_datum, fresh}
use Rattle.sect_points.specs.declared.holders.Variable.{Variable}
use Rattle.sect_points.specs.{declared.holders.Variable.TheVariants.{Global, Local}, Paths.{PathView, var, dot}}
use Rattle.sect_points.specs.{Partitions.{HasClass}, PathClasses.{variable_of, variable_in}, Statements.{thread_action}}
use Rattle.sect_names.specs.Schemes.{SchemeView, IsScheme}
use Rattle.sect_names.specs.{Carrying.{Replaced, AreOfOneClass, BeforeStore, BeforeAssignment}, Laws.{IsProgramStep}}
use Rattle.sect_names.specs.{Locks.{VariableTo, PathTo, IsOwn}, Records.{IsTypedProgram, SiteOf}}
use Rattle.sect_lemmas.specs.Lists.{put_at}
use Rattle.sect_emit.specs.Plan.{field_datum, field_of, variable_datum, path_datum}
use Rattle.sect_emit.specs.Pointed.{IsPointed, StepsTo, DenotedBefore}
use Rattle.sect_names.proofs.shared.{Placing.{statement_sound}, Typing.{base_to}, Owning.{own_base}}
use Rattle.sect_lemmas.proofs.{Options.{mapped}, Elements.{is_past}}
use Rattle.sect_types.proofs.shared.Stores.{object_at-write, object_at-add, same_name-true, same_name-eq}
use Rattle.sect_types.proofs.shared.Data.{fresh_refers, refers_injective}
use Rattle.sect_emit.proofs.Pointing.{base_variable}
use Rattle.sect_emit.proofs.shared.Pointing.{is_reference, put_or_kept, HasDone, action_done, step_pointed}
use Rattle.sect_emit.proofs.shared.Pointing.{denoted}
use Rattle.sect_types.specs.declared.expansion.action.Value.TheVariants as value
use Rattle.sect_types.specs.declared.expansion.action.Action.TheVariants as action
use Rattle.sect_types.specs.declared.expansion.action.Label.TheVariants as label
use Rattle.sect_types.specs.declared.meaning.store.ObjectName.TheVariants as object

-- over an assignment of d to the local x: where `source` denotes d, and fields of objects are as before
module _ (t x : ℕ) (source : Option PathView) (d : Datum) (store after : StoreView) (locals : List Datum)
    (Special : ObjectName → Type 0) where
  abbrev FromSource : ObjectName → Type 0
  FromSource o = ((z : PathView) × (source ≡ Some z) × (path_datum store locals z ≡ Refers o)) ⊎ Special o

  abbrev Found : PathView → ObjectName → Type 0
  Found p o = ((q : PathView) × Replaced (Local t x) source p q × (path_datum store locals q ≡ Refers o))
      ⊎ ((p ≡ var (Local t x)) × Special o)

  module _ (put : (o : ObjectName) → d ≡ Refers o → FromSource o)
      (fields : (b : ObjectName) (f : ℕ) (o : ObjectName) → field_of after (Refers b) f ≡ Refers o
      → field_of store (Refers b) f ≡ Refers o)
      (empty : (b : ObjectName) (f : ℕ) (o : ObjectName) → Special b → field_of store (Refers b) f ≡ Refers o → ⊥) where
    found_local : (u y : ℕ) (o : ObjectName) → u ≡ t → local_datum (put_at x d locals) y ≡ Refers o
        → Found (var (Local u y)) o
    found_local u y o own e = elim (put_or_kept x d locals y o e) [
      | inl (same, k) ↦
          let here : Local u y ≡ Local t x = ap (λ n. Local n y) own ∙ ap (Local t) (sym same) in
          elim (put o k) [ inl (z, is, v) ↦ inl (z, inl (here, is), v) | inr special ↦ inr (ap var here, special) ]
      | inr (other, k) ↦ inl (var (Local u y), inr (λ e. other (let is : y ≡ x = cc in sym is), refl), k)
    ]

    found : (p : PathView) (o : ObjectName) → IsOwn t p → path_datum after (put_at x d locals) p ≡ Refers o → Found p o
    found (var (Global g)) o own e = inl (var (Global g), inr (λ e. absurd cc, refl), e)
    found (var (Local u y)) o own e = found_local u y o own e
    found (dot p f) o own e = by (path_datum after (put_at x d locals) p) refl e (λ b k. found p b own k)
      where
        on : (b : ObjectName) → field_of after (Refers b) f.number ≡ Refers o → Found p b → Found (dot p f) o
        on b e (inl (q, before, v)) = inl
            (dot q f, (q, before, refl), ap (λ y. field_of store y f.number) v ∙ fields b f.number o e)
        on b e (inr (is, special)) = absurd (empty b f.number o special (fields b f.number o e))

        by : (c : Datum) → path_datum after (put_at x d locals) p ≡ c → field_of after c f.number ≡ Refers o
            → ((b : ObjectName) → path_datum after (put_at x d locals) p ≡ Refers b → Found p b) → Found (dot p f) o
        by (Number n) is e ih = absurd (is_reference Null o e)
        by Null is e ih = absurd (is_reference Null o e)
        by (Refers b) is e ih = on b e (ih b is)

-- where nothing takes the base's place, a path with another base is itself
none_replaced : (x : Variable) (p q : PathView) → Replaced x None p q → q ≡ p
none_replaced x (var v) q h = elim h [ inl a ↦ (let is = a.1 in absurd cc) | inr b ↦ b.1 ]
none_replaced x (dot p f) q (r, before, is) = is ∙ ap (λ z. dot z f) (none_replaced x p r before)

-- what a field holds after a write: what was written, or what it held
abbrev FieldAfter : StoreView → ObjectName → ℕ → Datum → ObjectName → ℕ → ObjectName → Type 0
FieldAfter s z f w b g o = ((b ≡ z) × (g ≡ f) × (w ≡ Refers o))
    ⊎ (((b ≡ z) × (g ≡ f) → ⊥) × (field_of s (Refers b) g ≡ Refers o))

field_after : (s : StoreView) (z : ObjectName) (f : ℕ) (w : Datum) (b : ObjectName) (g : ℕ) (o : ObjectName)
    → field_of (write s z f w) (Refers b) g ≡ Refers o → FieldAfter s z f w b g o
field_after s z f w b g o h = by (same_name z b) refl (ap (λ x. field_datum x g) (sym (object_at-write s z b f w)) ∙ h)
  where
    same : z ≡ b → (x : Option ObjectView) → object_at s b ≡ x → field_datum (mapped (with_field f w) x) g ≡ Refers o
        → FieldAfter s z f w b g o
    same e None is k = absurd (is_reference Null o k)
    same e (Some y) is k = elim (put_or_kept f w y.fields g o k) [
      | inl (fg, wo) ↦ inl (sym e, sym fg, wo)
      | inr (other, kept) ↦ inr (λ h. other (sym h.1), ap (λ v. field_datum v g) is ∙ kept)
    ]

    by : (c : Bool) → same_name z b ≡ c
        → field_datum (if c then mapped (with_field f w) (object_at s b) else object_at s b) g ≡ Refers o
        → FieldAfter s z f w b g o
    by true is k = same (same_name-true z b is) (object_at s b) refl k
    by false is k = inr (λ h. true≢false (sym (same_name-eq z b (sym h.0)) ∙ is), k)

same_field : (f g : Field) → f.of ≡ g.of → f.number ≡ g.number → f ≡ g
same_field f g e n = λ i. record { of = e i; number = n i }

module _ (s : SchemeView) (scheme : IsScheme s) (typed : IsTypedProgram s.program) (t : ℕ) (store : StoreView)
    (w : WorkView) (pointed : IsPointed s t store w) where
  abbrev Denotes : PathView → ObjectName → Type 0
  Denotes p o = path_datum store w.locals p ≡ Refers o

  -- over a store of d to the field f of z's object
  module _ (z : Variable) (f : Field) (v : Option Variable) (zo : ObjectName) (d : Datum)
      (at : variable_datum w.locals z ≡ Refers zo)
      (reads : (o : ObjectName) → d ≡ Refers o → (u : Variable) × (v ≡ Some u) × (variable_datum w.locals u ≡ Refers o))
      (alike : (e : PathView) (g : Field) → PathTo s.program e g.of → IsOwn t e
      → path_datum (write store zo f.number d) w.locals e ≡ Refers zo
      → (g.of ≡ f.of) × AreOfOneClass s.classes e (var z)) where
    abbrev written : StoreView
    written = write store zo f.number d

    abbrev Stored : PathView → ObjectName → Type 0
    Stored p o = (q : PathView) × BeforeStore s.classes z f v p q × Denotes q o

    over_field : (e : PathView) (g : Field) (b o : ObjectName) → PathTo s.program e g.of → IsOwn t e
        → path_datum written w.locals e ≡ Refers b → field_of written (Refers b) g.number ≡ Refers o
        → Stored e b → Stored (dot e g) o
    over_field e g b o to own eb eo (q, before, v) = elim (field_after store zo f.number d b g.number o eo) [
      | inl (same, number, wo) ↦
          let k = alike e g to own (eb ∙ ap Refers same) in
          let u = reads o wo in
          (var u.0, inr (same_field g f k.0 number, k.1, (u.0, u.1, refl)), u.2)
      | inr (other, kept) ↦ (
        dot q g,
        inl (
          q,
          before,
          (
            λ h. other (
              refers_injective b zo (sym v ∙ ap (path_datum store w.locals) h.1 ∙ at),
              ap (λ (y : Field). y.number) h.0,
            ),
            refl,
          ),
        ),
        ap (λ y. field_of store y g.number) v ∙ kept,
      )
    ]

    stored_value : (p : PathView) (r : ℕ) (o : ObjectName) → PathTo s.program p r → IsOwn t p
        → path_datum written w.locals p ≡ Refers o → Stored p o
    stored_value (var u) r o to own e = (var u, refl, e)
    stored_value (dot e g) r o to own k =
        by (path_datum written w.locals e) refl k (λ b k. stored_value e g.of b to.0 own k)
      where
        by : (c : Datum) → path_datum written w.locals e ≡ c → field_of written c g.number ≡ Refers o
            → ((b : ObjectName) → path_datum written w.locals e ≡ Refers b → Stored e b) → Stored (dot e g) o
        by (Number n) is k ih = absurd (is_reference Null o k)
        by Null is k ih = absurd (is_reference Null o k)
        by (Refers b) is k ih = over_field e g b o to.0 own is k (ih b is)

  -- where the store stays
  module _ (x : ℕ) (source : Option PathView) (d : Datum)
      (put : (o : ObjectName) → d ≡ Refers o → (z : PathView) × (source ≡ Some z) × Denotes z o) where
    assigned_value : (p : PathView) (o : ObjectName) → IsOwn t p → path_datum store (put_at x d w.locals) p ≡ Refers o
        → (q : PathView) × Replaced (Local t x) source p q × Denotes q o
    assigned_value p o own e = elim
        (found t x source d store store w.locals (λ o. ⊥) (λ o k. inl (put o k)) (λ b f o k. k) (λ b f o n k. n) p o own
        e) [ inl a ↦ a | inr b ↦ absurd b.1 ]

  nothing_value : (x : ℕ) (d : Datum) → ((o : ObjectName) → d ≡ Refers o → ⊥) → (p : PathView) (o : ObjectName)
      → IsOwn t p → path_datum store (put_at x d w.locals) p ≡ Refers o
      → (q : PathView) × Replaced (Local t x) None p q × Denotes q o
  nothing_value x d none p o own e = assigned_value x None d (λ o k. absurd (none o k)) p o own e

  value_assigned : (x : ℕ) (v : Value) (p : PathView) (o : ObjectName) → IsOwn t p
      → path_datum store (put_at x (value_datum w.locals v) w.locals) p ≡ Refers o
      → (q : PathView) × BeforeAssignment t x v p q × Denotes q o
  value_assigned x (value.Number n) p o own e =
      let k = nothing_value x (Number (pos n)) (λ o h. is_reference (Number (pos n)) o h) p o own e in
      (k.0, none_replaced (Local t x) p k.0 k.1, k.2)
  value_assigned x value.Null p o own e = nothing_value x Null (λ o h. is_reference Null o h) p o own e
  value_assigned x (value.Local y) p o own e =
      assigned_value x (Some (var (Local t y))) (local_datum w.locals y) (λ o h. (var (Local t y), refl, h)) p o own e
  value_assigned x (value.Global g) p o own e =
      assigned_value x (Some (var (Global g))) (Refers (object.Global g)) (λ o h. (var (Global g), refl, h)) p o own e

  read_value : (v : Value) (o : ObjectName) → value_datum w.locals v ≡ Refers o
      → (u : Variable) × (variable_in t v ≡ Some u) × (variable_datum w.locals u ≡ Refers o)
  read_value (value.Number n) o e = absurd (is_reference (Number (pos n)) o e)
  read_value value.Null o e = absurd (is_reference Null o e)
  read_value (value.Local x) o e = (Local t x, refl, e)
  read_value (value.Global g) o e = (Global g, refl, e)

  -- over a `new`
  module _ (i : ℕ) (types : List ValueType) where
    fields_before : (b : ObjectName) (f : ℕ) (o : ObjectName)
        → field_of (add store t (fresh i types)) (Refers b) f ≡ Refers o → field_of store (Refers b) f ≡ Refers o
    fields_before b f o e = by (same_name (object.Made t (count store t)) b)
        (ap (λ x. field_datum x f) (sym (object_at-add store t (fresh i types) b pointed.row)) ∙ e)
      where
        by : (c : Bool) → field_datum (if c then Some (fresh i types) else object_at store b) f ≡ Refers o
            → field_of store (Refers b) f ≡ Refers o
        by true k = absurd (fresh_refers types f o k)
        by false k = k

    none_there : (b : ObjectName) (f : ℕ) (o : ObjectName) → b ≡ object.Made t w.made
        → field_of store (Refers b) f ≡ Refers o → ⊥
    none_there b f o is e =
        let there : object_at store b ≡ None = ap (object_at store) (is ∙ ap (object.Made t) pointed.made)
        ∙ is_past (row store t) in
        is_reference Null o (ap (λ x. field_datum x f) (sym there) ∙ e)

    made_value : (x : ℕ) (p : PathView) (o : ObjectName) → IsOwn t p
        → path_datum (add store t (fresh i types)) (put_at x (Refers (object.Made t w.made)) w.locals) p ≡ Refers o
        → ((q : PathView) × Replaced (Local t x) None p q × Denotes q o)
        ⊎ ((p ≡ var (Local t x)) × (o ≡ object.Made t w.made))
    made_value x p o own e =
        found t x None (Refers (object.Made t w.made)) store (add store t (fresh i types)) w.locals
        (λ o. o ≡ object.Made t w.made)
        (λ o k. inr (sym (refers_injective (object.Made t w.made) o k))) fields_before none_there p o own e

  -- what denotes the object of a store's base after it is of its class, and of its record
  alike_after : (b : Base) (f : Field) (zo : ObjectName) (after : StoreView) (z : WorkView) → IsPointed s t after z
      → VariableTo s.program (variable_of t b) f.of → path_datum after z.locals (var (variable_of t b)) ≡ Refers zo
      → (e : PathView) (g : Field) → PathTo s.program e g.of → IsOwn t e → path_datum after z.locals e ≡ Refers zo
      → (g.of ≡ f.of) × AreOfOneClass s.classes e (var (variable_of t b))
  alike_after b f zo after z later to at e g path own value =
      let j = denoted s scheme typed t after z later e g.of zo path own value in
      let k = denoted s scheme typed t after z later (var (variable_of t b)) f.of zo to (own_base t b) at in
      let same : j.0 ≡ k.0 = same_Some j.0 k.0 (sym j.1 ∙ k.1) in
      let records : g.of ≡ f.of = same_Some g.of f.of
      (sym (subst (λ (x : ObjectView). SiteOf s.program x.site g.of) same j.3) ∙ k.3) in
      let numbers : j.4.0 ≡ k.4.0 = same_Some j.4.0 k.4.0
      (sym (subst (λ (x : ObjectView). slice_get s.classes.numbers x.site ≡ Some j.4.0) same j.4.2) ∙ k.4.2) in
      (records, (j.4.0, j.4.1, subst (HasClass s.classes (var (variable_of t b))) (sym numbers) k.4.1))

  -- over any statement
  action_value : (a : Action) → IsSoundAction (environment_at s.program t) a → (after : StoreView) (z : WorkView)
      → HasDone s.program t a store w after z → IsPointed s t after z
      → (p : PathView) (r : ℕ) (o : ObjectName) → PathTo s.program p r → IsOwn t p
      → path_datum after z.locals p ≡ Refers o → DenotedBefore s t (label.Act a) store w p o
  action_value (action.Assign x v) sound after z (is, locals, made) later p r o to own e =
      inl (value_assigned x v p o own (sym (λ i. path_datum (is i) (locals i) p) ∙ e))
  action_value (action.Compute x v u y) sound after z (is, (n, locals), made) later p r o to own e =
      let k = nothing_value x (Number n) (λ o h. is_reference (Number n) o h) p o own
      (sym (λ i. path_datum (is i) (locals i) p) ∙ e) in
      inl (k.0, none_replaced (Local t x) p k.0 k.1, k.2)
  action_value (action.New x of i) sound after z (is, locals, made) later p r o to own e =
      elim (made_value i (slice_index_or s.program.records of []) x p o own
      (sym (λ j. path_datum (is j) (locals j) p) ∙ e)) [ inl a ↦ inl a | inr b ↦ inr b ]
  action_value (action.Load x b f) sound after z (is, (bo, y, at_base, at, locals), made) later p r o to own e =
      inl (assigned_value x (Some (dot (var (variable_of t b)) f)) (datum_or_null (slice_get y.fields f.number))
      (λ o h. (
        dot (var (variable_of t b)) f,
        refl,
        ap (λ d. field_of store d f.number) (base_variable t w.locals b ∙ at_base) ∙ ap (λ x. field_datum x f.number) at
            ∙ h,
      )) p o own (sym (λ i. path_datum (is i) (locals i) p) ∙ e))
  action_value (action.Store b f v) sound after z ((zo, at_base, is), locals, made) later p r o to own e =
      let at = base_variable t w.locals b ∙ at_base in
      inl (stored_value (variable_of t b) f (variable_in t v) zo (value_datum w.locals v) at (read_value v)
      (λ q g path own k. alike_after b f zo after z later (base_to s.program t b f.of sound.1)
      (ap (λ l. variable_datum l (variable_of t b)) locals ∙ at) q g path own
      ((λ i. path_datum (is i) (locals i) q) ∙ k))
      p r o to own (sym (λ i. path_datum (is i) (locals i) p) ∙ e))
  action_value (action.Print v) sound after z (is, locals, made) later p r o to own e =
      inl (p, refl, sym (λ i. path_datum (is i) (locals i) p) ∙ e)

  -- what a path denotes after a step, some path that it is carried back to denoted before, or the step makes it
  pub step_value : (step : Label) → IsProgramStep s t step → (after : StoreView) (z : WorkView)
      → StepsTo s.program t step store w after z
      → (p : PathView) (r : ℕ) (o : ObjectName) → PathTo s.program p r → IsOwn t p
      → path_datum after z.locals p ≡ Refers o → DenotedBefore s t step store w p o
  step_value (label.Act a) there after z does p r o to own e =
      let sound = statement_sound s.program typed (thread_action t a) there in
      let later = step_pointed s scheme typed t store w pointed (label.Act a) there after z does in
      action_value a sound after z (action_done s.program t store a w after z does) later.0 p r o to own e
  step_value (label.Test c) there after z (is, locals, made) p r o to own e =
      inl (p, refl, sym (λ i. path_datum (is i) (locals i) p) ∙ e)
  step_value (label.Section i) there after z does p r o to own e = absurd does
