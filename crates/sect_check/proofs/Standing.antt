-- What the paths of a certificate stand for.
use Rattle.std.proofs.Common.{◌≡◌, ℕ, zero, suc, List, [], ◌∷◌, Option, Some, None, refl, sym, ap, ◌∙◌, subst}
use Rattle.std.specs.{Prelude.{slice_get, slice_index_or, option_and_then}, Option.{option_map}}
use Rattle.sect_lemmas.proofs.Options.{map_part}
use Rattle.sect_front.specs.TreeView.{TreeView}
use Rattle.sect_types.specs.{Sight.{place, all_fields, names_of_globals}, Programs.{ProgramView}, Sound.{type_in}}
use Rattle.sect_types.specs.{declared.expansion.action.Field.{Field}, declared.declarations.types.ValueType.{ValueType}}
use Rattle.sect_types.specs.declared.declarations.types.ValueType.TheVariants.{Int, Refers}
use Rattle.sect_types.specs.LocalNames.{all_local_names, place_of_local}
use Rattle.sect_points.specs.declared.holders.Variable.{Variable}
use Rattle.sect_points.specs.{declared.holders.Variable.TheVariants.{Global, Local}, Paths.{PathView, var, dot}}
use Rattle.sect_names.specs.Locks.{IsOwn, VariableTo, FieldTo, PathTo}
use Rattle.sect_cert.specs.{declared.lock.CertBase.{CertBase}, declared.lock.CertPath.{CertPath}}
use Rattle.sect_check.specs.Names.{or_variable, variable_named, field_named, referred, record_of_variable}
use Rattle.sect_check.specs.Names.{record_of_field, path_from, base_named, path_named}
use Rattle.sect_cert.specs.declared.lock.CertBase.TheVariants as base

-- what is given after something was found
and_then : {A B : Type 0} (f : A → Option B) (o : Option A) (y : B) → option_and_then f o ≡ Some y
    → (x : A) × (o ≡ Some x) × (f x ≡ Some y)
and_then f None y e = absurd cc
and_then f (Some x) y e = (x, refl, e)

-- a type that refers to a record
refers : (t : ValueType) (r : ℕ) → referred t ≡ Some r → t ≡ Refers r
refers Int r e = absurd cc
refers (Refers q) r e = let same : q ≡ r = cc in ap (λ n. Refers n) same

-- a variable of which the record is told refers to its objects
variable_to : (p : ProgramView) (v : Variable) (r : ℕ) → record_of_variable p v ≡ Some r → VariableTo p v r
variable_to p (Global g) r e = e
variable_to p (Local t x) r e =
    let found = and_then referred (slice_get (slice_index_or p.locals t []) x) r e in
    found.1 ∙ ap (λ t. Some t) (refers found.0 r found.2)

-- what stands in the list at an index, where that may be past the end
in_row : (rows : List (List ValueType)) (i n : ℕ) (v : ValueType) → slice_get (slice_index_or rows i []) n ≡ Some v
    → type_in (slice_get rows i) n ≡ Some v
in_row [] i n v e = absurd cc
in_row (row ∷ rows) zero n v e = e
in_row (row ∷ rows) (suc i) n v e = in_row rows i n v e

field_to : (p : ProgramView) (f : Field) (r : ℕ) → record_of_field p f ≡ Some r → FieldTo p f.of f.number r
field_to p f r e =
    let found = and_then referred (slice_get (slice_index_or p.records f.of []) f.number) r e in
    in_row p.records f.of f.number (Refers r) (found.1 ∙ ap (λ t. Some t) (refers found.0 r found.2))

-- the field of this number of record r
abbrev pub numbered : ℕ → ℕ → Field
numbered r i = record { of = r; number = i }

-- a field that is found by its name is one of the record
field_of : (p : TreeView) (r : ℕ) (x : List ℕ) (f : Field) → field_named p r x ≡ Some f → f.of ≡ r
field_of p r x f e =
    let found = map_part (numbered r) (place x (slice_index_or (all_fields p.records) r [])) f e in
    sym (ap (λ (g : Field). g.of) found.2)

-- a path that goes on from a thread's own one is its own, and refers to objects
goes_on : (p : ProgramView) (t : ℕ) (q : PathView) (o : Option ℕ) (xs : List (List ℕ)) (z : PathView) → IsOwn t q
    → ((r : ℕ) → o ≡ Some r → PathTo p q r)
    → path_from p q o xs ≡ Some z → IsOwn t z × ((r : ℕ) × PathTo p z r)
goes_on p t q None xs z own to e = absurd cc
goes_on p t q (Some r) [] z own to e = let same : q ≡ z = cc in
    (subst (IsOwn t) same own, (r, subst (λ (y : PathView). PathTo p y r) same (to r refl)))
goes_on p t q (Some r) (x ∷ xs) z own to e =
    let found = and_then (λ f. path_from p (dot q f) (record_of_field p f) xs) (field_named p.source r x) z e in
    let f = found.0 in
    let of : r ≡ f.of = sym (field_of p.source r x f found.1) in
    goes_on p t (dot q f) (record_of_field p f) xs z own
    (λ n is. (subst (PathTo p q) of (to r refl), field_to p f n is)) found.2

-- a local that is found by what it is called is one of the thread
own_local : (t : ℕ) (o : Option ℕ) (v : Variable) → option_map (λ i. Local t i) o ≡ Some v → IsOwn t (var v)
own_local t (Some i) v e = (let same : Local t i ≡ v = cc in subst (λ w. IsOwn t (var w)) same refl)
own_local t None v e = absurd cc

-- a name stands for a thread's own variable
own_variable : (p : TreeView) (t : ℕ) (x : List ℕ) (v : Variable) → variable_named p t x ≡ Some v → IsOwn t (var v)
own_variable p t x v e =
    go (place_of_local (record { name = x; call = None }) (slice_index_or (all_local_names p) t []))
    (place x (names_of_globals p.globals)) e
  where
    go : (a b : Option ℕ) → or_variable (option_map (λ i. Local t i) a) (option_map (λ g. Global g) b) ≡ Some v
        → IsOwn t (var v)
    go (Some i) b e = own_local t (Some i) v e
    go None (Some g) e = (let same : Global g ≡ v = cc in subst (λ w. IsOwn t (var w)) same tt)
    go None None e = absurd cc

-- so does a base
own_base : (p : TreeView) (t : ℕ) (b : CertBase) (v : Variable) → base_named p t b ≡ Some v → IsOwn t (var v)
own_base p t (base.Name x) v e = own_variable p t x v e
own_base p t (base.InCall x c) v e =
    own_local t (place_of_local (record { name = x; call = Some c }) (slice_index_or (all_local_names p) t [])) v e

-- the path that names stand for in a thread is the thread's own, and refers to objects
pub path_stands : (p : ProgramView) (t : ℕ) (q : CertPath) (z : PathView) → path_named p t q ≡ Some z
    → IsOwn t z × ((r : ℕ) × PathTo p z r)
path_stands p t q z e =
    let found = and_then (λ v. path_from p (var v) (record_of_variable p v) q.fields) (base_named p.source t q.base) z
    e in
    goes_on p t (var found.0) (record_of_variable p found.0) q.fields z (own_base p.source t q.base found.0 found.1)
    (λ r is. variable_to p found.0 r is) found.2
