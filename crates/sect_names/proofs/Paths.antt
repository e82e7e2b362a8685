-- Paths and their parts.
use Rattle.std.proofs.Common.{◌≡◌, List, [], ◌∷◌, ◌++◌, refl, sym, ap, ◌∙◌, append_assoc, length, arith, length-append}
use Rattle.std.proofs.lemmas.List.{append-nil}
use Rattle.sect_types.specs.declared.expansion.action.Field.{Field}
use Rattle.sect_points.specs.declared.holders.Variable.{Variable}
use Rattle.sect_points.specs.Paths.{PathView, var, dot, dots, path_of, base_of, fields_of, path_of-fields}
use Rattle.sect_names.specs.Locks.{depth}

pub base_of-dots : (p : PathView) (fs : List Field) → base_of (dots p fs) ≡ base_of p
base_of-dots p [] = refl
base_of-dots p (f ∷ fs) = base_of-dots (dot p f) fs

pub fields_of-dots : (p : PathView) (fs : List Field) → fields_of (dots p fs) ≡ fields_of p ++ fs
fields_of-dots p [] = sym (append-nil (fields_of p))
fields_of-dots p (f ∷ fs) = fields_of-dots (dot p f) fs ∙ append_assoc (fields_of p) (f ∷ []) fs

pub depth-fields : (p : PathView) → depth p ≡ length (fields_of p)
depth-fields (var v) = refl
depth-fields (dot p f) = omega (arith, depth-fields p, length-append (fields_of p) (f ∷ []))

-- the parts of a path that is given by its variable and its fields
pub base_of-place : (v : Variable) (fs : List Field) (p : PathView) → path_of v fs ≡ p → v ≡ base_of p
base_of-place v fs p e = sym (base_of-dots (var v) fs) ∙ ap base_of e

pub fields_of-place : (v : Variable) (fs xs : List Field) (p : PathView) → path_of v fs ≡ p → xs ≡ fs → xs ≡ fields_of p
fields_of-place v fs xs p e f = f ∙ sym (fields_of-dots (var v) fs) ∙ ap fields_of e

-- two paths are one where their parts are
pub same_parts : (p q : PathView) → base_of p ≡ base_of q → fields_of p ≡ fields_of q → p ≡ q
same_parts p q e f = sym (path_of-fields p) ∙ ap (λ v. path_of v (fields_of p)) e ∙ ap (path_of (base_of q)) f
    ∙ path_of-fields q

pub dots-append : (p : PathView) (fs gs : List Field) → dots p (fs ++ gs) ≡ dots (dots p fs) gs
dots-append p [] gs = refl
dots-append p (f ∷ fs) gs = dots-append (dot p f) fs gs

-- the path of a variable alone is the one without fields
pub variable_parts : (p : PathView) (v : Variable) → base_of p ≡ v → length (fields_of p) ≡ 0 → p ≡ var v
variable_parts (var w) v e n = ap var e
variable_parts (dot p f) v e n = absurd (omega (arith, n, length-append (fields_of p) (f ∷ [])))
