-- Values, bases and members in C can be read back.
use Rattle.std.proofs.Common.{◌≡◌, ◌<◌, ℕ, List, refl, codes, length}
use Rattle.std.proofs.Common.{sym, ap, ◌∙◌, arith, subst, Some, slice_get}
use Rattle.sect_front.specs.Words.{is_name_byte}
use Rattle.sect_types.specs.Programs.{ProgramView, environment_at}
use Rattle.sect_names.specs.Locks.{IsField}
use Rattle.sect_types.specs.Sound.{type_at, reference_to}
use Rattle.sect_names.specs.Printing.{field_name}
use Rattle.sect_c.specs.Told.{AreNames, NamesTell, DeclareAlike}
use Rattle.sect_c.specs.Fits.{FitsValue, FitsBase, FitsMember}
use Rattle.sect_c.specs.Naming.{local_c, global_c, value_c, base_c, member_c}
use Rattle.sect_types.specs.declared.expansion.action.Field.{Field}
use Rattle.sect_types.specs.declared.expansion.action.Value.{Value}
use Rattle.sect_types.specs.declared.expansion.action.Base.{Base}
use Rattle.sect_c.specs.declared.context.Member.{Member}
use Rattle.sect_types.specs.declared.declarations.types.ValueType.{ValueType}
use Rattle.sect_types.specs.declared.declarations.types.ValueType.TheVariants.{Refers}
use Rattle.sect_c.proofs.Reading.{Reads, Any, Stops, told, next, ends, behind, only, closed, apart, spelled, number}
use Rattle.sect_types.specs.declared.expansion.action.Value.TheVariants as value
use Rattle.sect_types.specs.declared.expansion.action.Base.TheVariants as base

record_one : (r s : ℕ) → Some (Refers r) ≡ Some (Refers s) → r ≡ s
record_one r s e = cc

member_one : (m n : Member) → m.base ≡ n.base → m.field ≡ n.field → m ≡ n
member_one m n e f = ap (λ b. let x : Member = record { base = b; field = m.field } in x) e
    ∙ ap (λ g. let x : Member = record { base = n.base; field = g } in x) f

module _ (p q : ProgramView) (np : AreNames p.source) (nq : AreNames q.source) (u : ℕ)
    (alike : DeclareAlike p q u) (tell : NamesTell p) where
  pub local_read : (x y : ℕ) → x < 65536 → y < 65536
      → Reads (Stops is_name_byte) (local_c p.source u x) (local_c q.source u y) (x ≡ y)
  local_read x y a b =
      let n = behind (codes "l") (number x y (omega arith) (omega arith)) in
      told (next (ends n (codes "_") (λ xs. refl)) (spelled is_name_byte _ _ (np.locals u x) (nq.locals u y)))
      (λ h. h.0)

  pub global_read : (g h : ℕ) → g < length p.globals → h < length q.globals
      → Reads (Stops is_name_byte) (global_c p.source g) (global_c q.source h) (g ≡ h)
  global_read g h a b =
      told (behind (codes "g_") (spelled is_name_byte _ _ (np.globals g) (nq.globals h)))
      (λ e. tell.globals g h a (subst (λ (l : List ℕ). h < length l) (sym alike.globals) b)
      (e ∙ sym (alike.global_names h)))

  pub value_read : (v w : Value) → FitsValue p v → FitsValue q w
      → Reads (Stops is_name_byte) (value_c p.source u v) (value_c q.source u w) (v ≡ w)
  value_read (value.Number n) (value.Number m) a b =
      let d = behind (codes "INT64_C(") (number n m (omega arith) (omega arith)) in
      told (closed (ends d (codes ")") (λ xs. refl))) (ap value.Number)
  value_read value.Null value.Null a b = told (closed (only (codes "NULL"))) (λ h. refl)
  value_read (value.Local x) (value.Local y) a b = told (local_read x y a b) (ap value.Local)
  value_read (value.Global g) (value.Global h) a b = told (behind (codes "&") (global_read g h a b)) (ap value.Global)
  value_read v w a b = apart (value_c p.source u v) (value_c q.source u w) refl

  pub base_read : (x y : Base) → FitsBase p x → FitsBase q y
      → Reads Any (base_c p.source u x) (base_c q.source u y) (x ≡ y)
  base_read (base.Global g) (base.Global h) a b =
      told (ends (global_read g h a b) (codes ".") (λ xs. refl)) (ap base.Global)
  base_read (base.Local x) (base.Local y) a b =
      told (ends (local_read x y a b) (codes "->") (λ xs. refl)) (ap base.Local)
  base_read x y a b = apart (base_c p.source u x) (base_c q.source u y) refl

  type_one : (b : Base) → type_at (environment_at p u) b ≡ type_at (environment_at q u) b
  type_one (base.Local x) = ap (λ ls. slice_get ls x) alike.locals
  type_one (base.Global g) = ap (λ gs. reference_to (slice_get gs g)) alike.globals

  field_back : (f : Field) → IsField q f → IsField p f
  field_back f h =
      subst (λ (rs : List (List ValueType)). (ts : List ValueType) × (slice_get rs f.of ≡ Some ts)
      × (f.number < length ts))
      (sym alike.records) h

  field_one : (m n : Member) → FitsMember p u m → FitsMember q u n → m.base ≡ n.base
      → field_name p.source m.field ≡ field_name q.source n.field → m ≡ n
  field_one m n a b e f =
      let refers = sym a.refers
      ∙ (ap (type_at (environment_at p u)) e ∙ (type_one n.base ∙ b.refers)) in
      member_one m n e (tell.fields m.field n.field a.field (field_back n.field b.field)
      (record_one m.field.of n.field.of refers) (f ∙ sym (alike.field_names n.field)))

  pub member_read : (m n : Member) → FitsMember p u m → FitsMember q u n
      → Reads (Stops is_name_byte) (member_c p.source u m) (member_c q.source u n) (m ≡ n)
  member_read m n a b =
      told (next (base_read m.base n.base a.base b.base)
      (behind (codes "f_") (spelled is_name_byte _ _ (np.fields m.field) (nq.fields n.field))))
      (λ h. field_one m n a b h.0 h.1)
