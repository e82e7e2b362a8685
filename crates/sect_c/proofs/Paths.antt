-- Looks in C can be read back.
use Rattle.std.proofs.Common.{◌≡◌, ◌<◌, ◌+◌, ℕ, true, List, [], ◌∷◌, ◌++◌, refl, codes, length, slice_index_or}
use Rattle.std.proofs.Common.{sym, ap, ◌∙◌, arith, subst, append_assoc, slice_get, Some}
use Rattle.std.specs.{Prelude.{⊤}, List.{AllByRecursion, flat_map}, Fmt.{decimal}}
use Rattle.sect_modes.specs.Mode.{mode_text}
use Rattle.sect_front.specs.Words.{is_digit, is_name_byte}
use Rattle.sect_types.specs.Programs.{ProgramView}
use Rattle.sect_names.specs.Locks.{IsField}
use Rattle.sect_names.specs.Printing.{field_name, global_name, path_text}
use Rattle.sect_emit.specs.Labels.{record_name}
use Rattle.sect_names.specs.Printing.{variable_text}
use Rattle.sect_emit.specs.Plan.{object_mode}
use Rattle.sect_c.specs.Told.{AreNames, NamesTell, DeclareAlike}
use Rattle.sect_c.specs.Back.{FitsVariable, Follows, FitsPath, FitsLock, LooksTellLocks}
use Rattle.sect_c.specs.Naming.{type_c, variable_c, field_c, field_type, variable_type}
use Rattle.sect_c.specs.Sections.{first_c, follow_c, walk_c, look_c}
use Rattle.sect_types.specs.declared.expansion.action.Field.{Field}
use Rattle.sect_points.specs.declared.holders.Variable.{Variable}
use Rattle.sect_points.specs.declared.holders.Variable.TheVariants.{Global, Local}
use Rattle.sect_types.specs.declared.declarations.types.ValueType.{ValueType}
use Rattle.sect_types.specs.declared.declarations.types.ValueType.TheVariants.{Int, Refers}
use Rattle.sect_names.specs.declared.lock.Effect.{Effect}
use Rattle.sect_names.specs.declared.lock.Lock.{Lock}
use Rattle.sect_points.specs.Paths.{PathView, base_of, fields_of, path_of, path_of-fields}
use Rattle.sect_c.proofs.Reading.{Reads, Any, Stops, told, next, ends, behind, only, apart, spelled, number}
use Rattle.sect_c.proofs.Reading.{moved, parted, differ}
use Rattle.std.proofs.lemmas.List.Concat.{flat_map-cons}
use Rattle.sect_c.specs.Pairs.{PairsFrom}
use Rattle.sect_c.proofs.Lists.{NoneLeft, listed, flat_listed, each_true}
use Rattle.sect_c.proofs.Plans.{mode_read}
use Rattle.sect_c.proofs.Comments.{Within, within_append, name_within, local_within, comment_read}
use Rattle.sect_c.proofs.Values.{local_read, global_read}
use Rattle.sect_names.specs.declared.lock.Effect.TheVariants as effect
use Rattle.sect_names.specs.declared.lock.Lock.TheVariants as lock

effect_one : (e f : Effect) → object_mode e ≡ object_mode f → e ≡ f
effect_one effect.Read effect.Read h = refl
effect_one effect.Write effect.Write h = refl
effect_one effect.Read effect.Write h = cc
effect_one effect.Write effect.Read h = cc

lock_one : (x y : PathView) (e f : Effect) → x ≡ y → e ≡ f → lock.Path x e ≡ lock.Path y f
lock_one x y e f h i = cc

pub path_one : (x y : PathView) → base_of x ≡ base_of y → fields_of x ≡ fields_of y → x ≡ y
path_one x y e f =
    sym (path_of-fields x) ∙ (ap (λ v. path_of v (fields_of x)) e ∙ (ap (λ fs. path_of (base_of y) fs) f
    ∙ path_of-fields y))

-- a path that goes on reaches a record
reached : (p : ProgramView) (of : ValueType) (f : Field) (fields : List Field) → Follows p of (f ∷ fields)
    → (of ≡ Refers f.of) × IsField p f × Follows p (field_type p f) fields
reached p Int f fields h = absurd h
reached p (Refers r) f fields h = (ap Refers (sym h.0), h.1, h.2)

refers_one : (r s : ℕ) → Refers r ≡ Refers s → r ≡ s
refers_one r s e = cc

fields_within : (r : ProgramView) (fields : List Field) → AreNames r.source
    → Within (flat_map (λ f. codes "." ++ field_name r.source f) fields)
fields_within r [] names = refl
fields_within r (f ∷ fields) names =
    subst Within (sym (flat_map-cons (λ f. codes "." ++ field_name r.source f) f fields))
    (within_append (codes "." ++ field_name r.source f) (flat_map (λ f. codes "." ++ field_name r.source f) fields)
    (within_append (codes ".") (field_name r.source f) refl (name_within (field_name r.source f) (names.fields f)))
    (fields_within r fields names))

variable_within : (r : ProgramView) (v : Variable) → AreNames r.source → Within (variable_text r.source v)
variable_within r (Global g) names = name_within (global_name r.source g) (names.globals g)
variable_within r (Local t x) names = local_within r names t x

pub path_within : (r : ProgramView) (x : PathView) → AreNames r.source → Within (path_text r.source x)
path_within r x names =
    within_append (variable_text r.source (base_of x))
    (flat_map (λ f. codes "." ++ field_name r.source f) (fields_of x)) (variable_within r (base_of x) names)
    (fields_within r (fields_of x) names)

-- a step of a path to an object of this type
abbrev followed : ProgramView → List ℕ → ℕ → Field → ValueType → List ℕ
followed r read n f t =
    codes " " ++ type_c r.source t ++ codes "p" ++ decimal (n + 1) ++ codes " = p" ++ decimal n
    ++ codes " == NULL ? NULL : " ++ read ++ codes "(&p" ++ decimal n ++ codes "->" ++ field_c r.source f ++ codes ");"

module _ (p q : ProgramView) (np : AreNames p.source) (nq : AreNames q.source) (u : ℕ)
    (alike : DeclareAlike p q u) (tell : NamesTell p) where
  type_read : (x y : ValueType) → Reads Any (type_c p.source x) (type_c q.source y) ⊤
  type_read Int Int = only (codes "int64_t ")
  type_read (Refers r) (Refers s) =
      told (ends (behind (codes "struct r_") (spelled is_name_byte (record_name p.source r) (record_name q.source s)
      (np.records r) (nq.records s))) (codes " *") (λ xs. refl)) (λ h. tt)
  type_read x y = apart (type_c p.source x) (type_c q.source y) refl

  variable_read : (v w : Variable) → FitsVariable p u v → FitsVariable q u w
      → Reads (Stops is_name_byte) (variable_c p.source v) (variable_c q.source w) (v ≡ w)
  variable_read (Global g) (Global h) a b =
      told (behind (codes "&") (global_read p q np nq u alike tell g h a b)) (ap Global)
  variable_read (Local t x) (Local s y) a b =
      moved (ap (λ t. variable_c p.source (Local t x)) a.0) (ap (λ t. variable_c q.source (Local t y)) b.0)
      (told (local_read p q np nq u alike tell x y a.1 b.1) (λ e. local_one t s x y (a.0 ∙ sym b.0) e))
    where
      local_one : (t s x y : ℕ) → t ≡ s → x ≡ y → Local t x ≡ Local s y
      local_one t s x y e f = cc
  variable_read v w a b = apart (variable_c p.source v) (variable_c q.source w) refl

  first_read : (v w : Variable) → FitsVariable p u v → FitsVariable q u w
      → Reads Any (first_c p v) (first_c q w) (v ≡ w)
  first_read v w a b =
      let x = ends (behind (codes "  { ") (type_read (variable_type p v) (variable_type q w))) (codes "p0 = ")
      (λ xs. tt) in
      told (ends (next x (variable_read v w a b)) (codes ";") (λ xs. refl)) (λ h. h.1)

  follow_read : (read : List ℕ) (n : ℕ) (f g : Field)
      → Reads Any (follow_c p read n f) (follow_c q read n g) (field_name p.source f ≡ field_name q.source g)
  follow_read read n f g =
      let a = ends (behind (codes " ") (type_read (field_type p f) (field_type q g))) (codes "p") (λ xs. tt) in
      let b = ends (ends a (decimal (n + 1)) (λ xs. tt)) (codes " = p") (λ xs. tt) in
      let c = ends (ends b (decimal n) (λ xs. tt)) (codes " == NULL ? NULL : ") (λ xs. tt) in
      let d = ends (ends c read (λ xs. tt)) (codes "(&p") (λ xs. tt) in
      let e = ends (ends d (decimal n) (λ xs. tt)) (codes "->") (λ xs. tt) in
      let name = behind (codes "f_") (spelled is_name_byte (field_name p.source f) (field_name q.source g)
      (np.fields f) (nq.fields g)) in
      told (ends (next e name) (codes ");") (λ xs. refl)) (λ h. h.1)

  field_back : (f : Field) → IsField q f → IsField p f
  field_back f h =
      subst (λ (rs : List (List ValueType)). (ts : List ValueType) × (slice_get rs f.of ≡ Some ts)
      × (f.number < length ts))
      (sym alike.records) h

  pub type_back : (f : Field) → field_type p f ≡ field_type q f
  type_back f = ap (λ rs. slice_index_or (slice_index_or rs f.of []) f.number Int) alike.records

  fields_one : (of : ValueType) (n : ℕ) (fs gs : List Field) → Follows p of fs → Follows q of gs
      → PairsFrom (λ i f g. field_name p.source f ≡ field_name q.source g) n fs gs → fs ≡ gs
  fields_one of n [] [] a b h = refl
  fields_one of n [] (g ∷ gs) a b h = absurd h
  fields_one of n (f ∷ fs) [] a b h = absurd h
  fields_one of n (f ∷ fs) (g ∷ gs) a b h =
      let x = reached p of f fs a in
      let y = reached q of g gs b in
      let same = tell.fields f g x.1 (field_back g y.1) (refers_one f.of g.of (sym x.0 ∙ y.0))
      (h.0 ∙ sym (alike.field_names g)) in
      ap (λ z. z ∷ fs) same
      ∙ ap (λ zs. g ∷ zs) (fields_one (field_type q g) (n + 1) fs gs
      (subst (λ t. Follows p t fs) (ap (field_type p) same ∙ type_back g) x.2) y.2 h.1)

  -- no field is followed here
  follow_or_test : (r : ProgramView) (read : List ℕ) (n : ℕ) (f : Field) (xs ys : List ℕ)
      → codes " if (p" ++ xs ≡ follow_c r read n f ++ ys → ⊥
  follow_or_test r read n f xs ys e = go (field_type r f) e
    where
      go : (t : ValueType) → codes " if (p" ++ xs ≡ followed r read n f t ++ ys → ⊥
      go Int h = parted (codes " if (p") (followed r read n f Int) xs ys refl h
      go (Refers k) h = parted (codes " if (p") (followed r read n f (Refers k)) xs ys refl h

  pub base_type : (v : Variable) → FitsVariable q u v → variable_type p v ≡ variable_type q v
  base_type (Global g) h = ap (λ gs. Refers (slice_index_or gs g 0)) alike.globals
  base_type (Local t x) h =
      ap (λ s. slice_index_or (slice_index_or p.locals s []) x Int) h.0
      ∙ (ap (λ ls. slice_index_or ls x Int) alike.locals
      ∙ ap (λ s. slice_index_or (slice_index_or q.locals s []) x Int) (sym h.0))

  path_back : (x y : PathView) → FitsPath p u x → FitsPath q u y → base_of x ≡ base_of y
      → PairsFrom (λ i f g. field_name p.source f ≡ field_name q.source g) 0 (fields_of x) (fields_of y) → x ≡ y
  path_back x y a b e h =
      path_one x y e (fields_one (variable_type q (base_of y)) 0 (fields_of x) (fields_of y)
      (subst (λ t. Follows p t (fields_of x)) (ap (variable_type p) e ∙ base_type (base_of y) b.base) a.fields) b.fields
      h)

  digits_read : (n m : ℕ) → n < 65536 → m < 65536 → Reads (Stops is_digit) (decimal n) (decimal m) (n ≡ m)
  digits_read n m a b = number n m (omega arith) (omega arith)

  walk_read : (read : List ℕ) (x y : PathView) → FitsPath p u x → FitsPath q u y
      → Reads Any (walk_c p read x) (walk_c q read y) (x ≡ y)
  walk_read read x y a b =
      let follows = listed Any (λ i f g. field_name p.source f ≡ field_name q.source g) (λ i f. ⊤) (λ i f. ⊤)
      (follow_c p read) (follow_c q read) (λ n f zs is. tt) (λ n f zs is. tt) (λ n f g c d. follow_read read n f g)
      0 (fields_of x) (fields_of y) (each_true 0 (fields_of x)) (each_true 0 (fields_of y)) in
      let r = next (first_read (base_of x) (base_of y) a.base b.base) follows in
      let s = ends r (codes " if (p") (λ xs. (
        (λ n f ys is e. follow_or_test p read n f xs ys e),
        (λ n f ys is e. follow_or_test q read n f xs ys e),
        tt,
      )) in
      told (ends (next s (digits_read (length (fields_of x)) (length (fields_of y)) a.short b.short)) (codes " != NULL")
      (λ xs. refl)) (λ h. path_back x y a b h.0.0 h.0.1)

  pub look_read : (x y : Lock) → FitsLock p u x → FitsLock q u y → Reads Any (look_c p x) (look_c q y) (x ≡ y)
  look_read (lock.Path x e) (lock.Path y f) a b =
      let r = ends (walk_read (codes "SECT_LOOK") x y a b) (codes ") sect_want(me, &p") (λ xs. tt) in
      let s = next r (digits_read (length (fields_of x)) (length (fields_of y)) a.short b.short) in
      let t = next (ends s (codes "->head, SECT_") (λ xs. refl)) (mode_read (object_mode e) (object_mode f)) in
      told (comment_read (walk_c p (codes "SECT_LOOK") x ++ codes ") sect_want(me, &p" ++ decimal (length (fields_of x))
      ++ codes "->head, SECT_" ++ mode_text (object_mode e) ++ codes "); } /* ")
      (walk_c q (codes "SECT_LOOK") y ++ codes ") sect_want(me, &p" ++ decimal (length (fields_of y))
      ++ codes "->head, SECT_" ++ mode_text (object_mode f) ++ codes "); } /* ") (path_text p.source x)
      (path_text q.source y) (ends t (codes "); } /* ") (λ xs. refl)) (path_within p x np) (path_within q y nq))
      (λ h. lock_one x y e f h.0.0 (effect_one e f h.1))
  look_read lock.All y a b = absurd a
  look_read (lock.Class c r) y a b = absurd a
  look_read x lock.All a b = absurd b
  look_read x (lock.Class c r) a b = absurd b

  abbrev pub NoLook : List ℕ → Type 0
  NoLook = NoneLeft (FitsLock p u) (FitsLock q u) (look_c p) (look_c q) look_read

  pub looks_read : (xs ys : List Lock) → AllByRecursion (FitsLock p u) xs → AllByRecursion (FitsLock q u) ys
      → Reads NoLook (flat_map (look_c p) xs) (flat_map (look_c q) ys) (xs ≡ ys)
  looks_read xs ys a b = flat_listed (FitsLock p u) (FitsLock q u) (look_c p) (look_c q) look_read xs ys a b

look_begins : (r : ProgramView) (l : Lock) (u : ℕ) → FitsLock r u l
    → (rest : List ℕ) × (look_c r l ≡ codes "  { " ++ rest)
look_begins r lock.All u h = absurd h
look_begins r (lock.Class c d) u h = absurd h
look_begins r (lock.Path x e) u h = (_, refl)

-- no look begins where another line stands
pub look_or_line : (r : ProgramView) (u : ℕ) (w : List ℕ) → differ w (codes "  { ") ≡ true → (xs : List ℕ) (n : ℕ)
    (l : Lock) (ys : List ℕ) → FitsLock r u l → w ++ xs ≡ look_c r l ++ ys → ⊥
look_or_line r u w d xs n l ys is e =
    let i = look_begins r l u is in
    parted w (codes "  { ") xs (i.0 ++ ys) d (e ∙ (ap (λ z. z ++ ys) i.1 ∙ append_assoc (codes "  { ") i.0 ys))

look_alone : (r : ProgramView) (u n : ℕ) (l : Lock) (ys : List ℕ) → FitsLock r u l → [] ≡ look_c r l ++ ys → ⊥
look_alone r u n l ys is e =
    let i = look_begins r l u is in
    let f = e ∙ (ap (λ z. z ++ ys) i.1 ∙ append_assoc (codes "  { ") i.0 ys) in absurd (nothing (i.0 ++ ys) f)
  where
    nothing : (zs : List ℕ) → [] ≡ codes "  { " ++ zs → ⊥
    nothing zs e = absurd cc

pub looks_tell : LooksTellLocks
looks_tell p q u np nq tell alike xs ys a b e =
    ((looks_read p q np nq u alike tell xs ys a b).read [] []
    ((λ n l zs is h. look_alone p u n l zs is h), (λ n l zs is h. look_alone q u n l zs is h))
    ((λ n l zs is h. look_alone p u n l zs is h), (λ n l zs is h. look_alone q u n l zs is h)) (ap (λ t. t ++ []) e)).0
