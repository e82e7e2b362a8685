-- Declarations in C can be read back.
use Rattle.std.proofs.Common.{◌≡◌, ◌<◌, ◌+◌, ℕ, Bool, true, false, List, [], ◌∷◌, ◌++◌, refl, codes, length}
use Rattle.std.proofs.Common.{sym, ap, ◌∙◌, arith, append_assoc}
use Rattle.std.specs.{Prelude.{if◌then◌else◌}, List.{AllByRecursion}, Fmt.{decimal}}
use Rattle.sect_front.specs.Words.{is_name_byte}
use Rattle.sect_types.specs.Programs.{ProgramView, sites_of}
use Rattle.sect_emit.specs.Listing.{by_number}
use Rattle.sect_emit.specs.Labels.{record_name}
use Rattle.sect_names.specs.Printing.{global_name, field_name}
use Rattle.sect_c.specs.Told.{AreNames, NamesTell}
use Rattle.sect_c.specs.Pairs.{PairsFrom}
use Rattle.sect_c.proofs.Premises.{IsThere}
use Rattle.sect_c.specs.Naming.{type_c, record_c}
use Rattle.sect_c.specs.Statements.{is_looked}
use Rattle.sect_c.specs.Declarations.{field_at, field_type_c, field_line, opening_c, structure_c, global_line}
use Rattle.sect_c.specs.Programs.{wholes_c}
use Rattle.sect_types.specs.declared.expansion.action.Field.{Field}
use Rattle.sect_types.specs.declared.declarations.types.ValueType.{ValueType}
use Rattle.sect_types.specs.declared.declarations.types.ValueType.TheVariants.{Int, Refers}
use Rattle.sect_c.proofs.Reading.{Reads, Any, Stops, told, next, ends, behind, apart, spelled, number, parted}
use Rattle.sect_c.proofs.Lists.{number_cons, each_all, listed}
use Rattle.sect_c.proofs.Locals.{RecordsAlike, type_read}

-- a declaration of an object or of keys begins here
abbrev pub IsStatic : List ℕ → Type 0
IsStatic zs = (rest : List ℕ) × (zs ≡ codes "static " ++ rest)

pub statics : (r : ProgramView) (n : ℕ) (gs : List ℕ) (zs : List ℕ) → IsStatic zs
    → IsStatic (by_number (global_line r) n gs ++ zs)
statics r n [] zs h = h
statics r n (g ∷ gs) zs h = (
  _,
  ap (λ t. t ++ zs) (number_cons (global_line r) n g gs)
      ∙ append_assoc (global_line r n g) (by_number (global_line r) (n + 1) gs) zs,
)

pub wholes_static : (r : ProgramView) (zs : List ℕ) → IsStatic (wholes_c r ++ zs)
wholes_static r zs = (_, refl)

module _ (p q : ProgramView) (np : AreNames p.source) (nq : AreNames q.source) where
  pub record_read : (r s : ℕ) → Reads (Stops is_name_byte) (record_c p.source r) (record_c q.source s)
      (record_name p.source r ≡ record_name q.source s)
  record_read r s =
      behind (codes "struct r_") (spelled is_name_byte (record_name p.source r) (record_name q.source s) (np.records r)
      (nq.records s))

  -- that there is a record is something else than what it holds
  open_or_structure : (looked : List Field) (n m : ℕ) (fs gs : List ValueType) (xs ys : List ℕ)
      → structure_c q looked m gs ++ xs ≡ opening_c p n fs ++ ys → ⊥
  open_or_structure looked n m fs gs xs ys e =
      let body = by_number (field_line q looked m) 0 gs in
      let x = (record_read n m).read (codes ";\n" ++ ys)
      (codes " {\n  struct sect_object head;\n" ++ (body ++ (codes "};\n" ++ xs))) refl refl
      (sym (append_assoc (record_c p.source n) (codes ";\n") ys) ∙ (sym e
      ∙ five (record_c q.source m) (codes " {\n  struct sect_object head;\n") body (codes "};\n") xs)) in
      parted (codes ";\n") (codes " {\n  struct sect_object head;\n") ys (body ++ (codes "};\n" ++ xs)) refl x.1
    where
      five : (a b c d e : List ℕ) → (a ++ b ++ c ++ d) ++ e ≡ a ++ (b ++ (c ++ (d ++ e)))
      five a b c d e = simp append_assoc

  static_or_open : (n : ℕ) (fs : List ValueType) (zs ys : List ℕ) → IsStatic zs → zs ≡ opening_c p n fs ++ ys → ⊥
  static_or_open n fs zs ys h e =
      parted (codes "static ") (opening_c p n fs) h.0 ys refl (sym h.1 ∙ e)

  -- behind the list of records stand none
  pub records_end : (looked : List Field) (m : ℕ) (rs : List (List ValueType)) (zs : List ℕ) → IsStatic zs → (n : ℕ)
      (fs : List ValueType) (ys : List ℕ) → by_number (structure_c q looked) m rs ++ zs ≡ opening_c p n fs ++ ys → ⊥
  records_end looked m [] zs h n fs ys e = static_or_open n fs zs ys h e
  records_end looked m (r ∷ rs) zs h n fs ys e =
      open_or_structure looked n m fs r (by_number (structure_c q looked) (m + 1) rs ++ zs) ys
      (sym (ap (λ t. t ++ zs) (number_cons (structure_c q looked) m r rs)
      ∙ append_assoc (structure_c q looked m r) (by_number (structure_c q looked) (m + 1) rs) zs) ∙ e)

  pub open_read : (n : ℕ) (fs gs : List ValueType) → Reads Any (opening_c p n fs) (opening_c q n gs)
      (record_name p.source n ≡ record_name q.source n)
  open_read n fs gs = ends (record_read n n) (codes ";\n") (λ xs. refl)

  -- an object
  pub global_read : (g r s : ℕ) → r < 65536 → s < 65536
      → Reads Any (global_line p g r) (global_line q g s) ((r ≡ s) × (global_name p.source g ≡ global_name q.source g))
  global_read g r s a b =
      let x = ends (behind (codes "static _Alignas(64) ") (record_read r s)) (codes " ") (λ xs. refl) in
      let name = behind (codes "g_") (spelled is_name_byte (global_name p.source g) (global_name q.source g)
      (np.globals g) (nq.globals g)) in
      let y = ends (next x name) (codes " = { .head = { .number = ") (λ xs. refl) in
      let z = ends (ends y (decimal g) (λ xs. tt)) (codes ", .record = ") (λ xs. tt) in
      told {Q = (r ≡ s) × (global_name p.source g ≡ global_name q.source g)}
      (ends (next z (number r s (omega arith) (omega arith))) (codes " } };\n") (λ xs. refl)) (λ h. (h.1, h.0.1))

pub whole_or_global : (r o : ProgramView) (xs : List ℕ) (n g : ℕ) (ys : List ℕ)
    → wholes_c r ++ xs ≡ global_line o n g ++ ys → ⊥
whole_or_global r o xs n g ys e = parted (wholes_c r) (global_line o n g) xs ys refl e

pub static_or_structure : (r : ProgramView) (looked : List Field) (n : ℕ) (fs : List ValueType) (zs ys : List ℕ)
    → IsStatic zs → zs ≡ structure_c r looked n fs ++ ys → ⊥
static_or_structure r looked n fs zs ys h e =
    parted (codes "static ") (structure_c r looked n fs) h.0 ys refl (sym h.1 ∙ e)

pub wholes_read : (p q : ProgramView) → length (sites_of p.globals p.texts) < 65536
    → length (sites_of q.globals q.texts) < 65536 → Reads Any (wholes_c p) (wholes_c q)
    (length (sites_of p.globals p.texts) + 1 ≡ length (sites_of q.globals q.texts) + 1)
wholes_read p q a b =
    ends (behind (codes "static struct sect_whole wholes[") (number (length (sites_of p.globals p.texts) + 1)
    (length (sites_of q.globals q.texts) + 1) (omega arith) (omega arith))) (codes "];\n") (λ xs. refl)

module _ (p q : ProgramView) (np : AreNames p.source) (nq : AreNames q.source) (tell : NamesTell p)
    (records : RecordsAlike p q) (looked also : List Field) where
  plain_read : (x y : ValueType) → IsThere p x → IsThere q y → Reads Any (type_c p.source x) (type_c q.source y) (x ≡ y)
  plain_read x y a b = type_read p q np nq tell records x y a b

  typed_read : (f : Field) (x y : ValueType) → IsThere p x → IsThere q y
      → Reads Any (field_type_c p looked f x) (field_type_c q also f y) (x ≡ y)
  typed_read f x y a b = go (is_looked looked f) (is_looked also f)
    where
      atomic_or : (y : ValueType) → Reads Any (codes "_Atomic(" ++ type_c p.source x ++ codes ") ") (type_c q.source y)
          (x ≡ y)
      atomic_or Int = apart (codes "_Atomic(" ++ type_c p.source x ++ codes ") ") (type_c q.source Int) refl
      atomic_or (Refers s) = apart (codes "_Atomic(" ++ type_c p.source x ++ codes ") ") (type_c q.source (Refers s))
          refl

      or_atomic : (x : ValueType) → Reads Any (type_c p.source x) (codes "_Atomic(" ++ type_c q.source y ++ codes ") ")
          (x ≡ y)
      or_atomic Int = apart (type_c p.source Int) (codes "_Atomic(" ++ type_c q.source y ++ codes ") ") refl
      or_atomic (Refers s) = apart (type_c p.source (Refers s)) (codes "_Atomic(" ++ type_c q.source y ++ codes ") ")
          refl

      go : (c d : Bool) → Reads Any
          (if c then codes "_Atomic(" ++ type_c p.source x ++ codes ") " else type_c p.source x)
          (if d then codes "_Atomic(" ++ type_c q.source y ++ codes ") " else type_c q.source y) (x ≡ y)
      go true true = ends (behind (codes "_Atomic(") (plain_read x y a b)) (codes ") ") (λ xs. tt)
      go true false = atomic_or y
      go false true = or_atomic x
      go false false = plain_read x y a b

  -- what is told of field n of record r
  abbrev pub FieldTold : ℕ → ℕ → ValueType → ValueType → Type 0
  FieldTold r n x y = (x ≡ y) × (field_name p.source (field_at r n) ≡ field_name q.source (field_at r n))

  field_read : (r n : ℕ) (x y : ValueType) → IsThere p x → IsThere q y
      → Reads Any (field_line p looked r n x) (field_line q also r n y) (FieldTold r n x y)
  field_read r n x y a b =
      let name = behind (codes "f_") (spelled is_name_byte (field_name p.source (field_at r n))
      (field_name q.source (field_at r n)) (np.fields (field_at r n)) (nq.fields (field_at r n))) in
      ends (next (behind (codes "  ") (typed_read (field_at r n) x y a b)) name) (codes ";\n") (λ xs. refl)

  pub structure_read : (r : ℕ) (fs gs : List ValueType) → AllByRecursion (IsThere p) fs → AllByRecursion (IsThere q) gs
      → Reads Any (structure_c p looked r fs) (structure_c q also r gs) (PairsFrom (FieldTold r) 0 fs gs)
  structure_read r fs gs a b =
      let head = ends (record_read p q np nq r r) (codes " {\n  struct sect_object head;\n") (λ xs. refl) in
      let lines = listed Any (FieldTold r) (λ n x. IsThere p x) (λ n x. IsThere q x) (field_line p looked r)
      (field_line q also r) (λ n x zs is. tt) (λ n x zs is. tt) (λ n x y c d. field_read r n x y c d) 0 fs gs
      (each_all (IsThere p) 0 fs a) (each_all (IsThere q) 0 gs b) in
      told (ends (next head lines) (codes "};\n")
      (λ xs. (
        (λ n x ys is e. parted (codes "};\n") (field_line p looked r n x) xs ys refl e),
        (λ n x ys is e. parted (codes "};\n") (field_line q also r n x) xs ys refl e),
        tt,
      ))) (λ h. h.1)
