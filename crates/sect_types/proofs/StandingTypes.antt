-- Where the types of some variables stand among those of all locals.
use Rattle.std.proofs.Common.{◌≡◌, ℕ, suc, ◌+◌, List, [], ◌∷◌, ◌++◌, map, Some, refl, ◌∙◌, ap, arith, subst}
use Rattle.std.proofs.{Common.{length, slice_get}, lemmas.List.{map-append, length-map}}
use Rattle.sect_lemmas.proofs.Elements.{slice_get-left}
use Rattle.sect_front.specs.declared.tree.Declaration.{Declaration}
use Rattle.sect_types.specs.{declared.declarations.types.ValueType.{ValueType}, Sight.{names_of_records}}
use Rattle.sect_types.specs.{Environments.{type_of, types_of}, Rules.{Declared}}
use Rattle.sect_types.specs.{declared.expansion.expand.Fresh.{Fresh}, Expanded.{of_call}}
use Rattle.sect_types.proofs.MovedLaws.{StandFrom}

pub stand_first : (n : ℕ) (ty : ValueType) (few all : List ValueType) → StandFrom n (ty ∷ few) all
    → slice_get all n ≡ Some ty
stand_first n ty few all h = subst (λ m. slice_get all m ≡ Some ty) (omega arith) (h 0 ty refl)

pub stand_next : (n : ℕ) (ty : ValueType) (few all : List ValueType) → StandFrom n (ty ∷ few) all
    → StandFrom (n + 1) few all
stand_next n ty few all h i u e = subst (λ m. slice_get all m ≡ Some u) (omega arith) (h (suc i) u e)

at_right : (xs ys : List ValueType) (i : ℕ) → slice_get (xs ++ ys) (length xs + i) ≡ slice_get ys i
at_right [] ys i = ap (slice_get ys) (omega arith)
at_right (x ∷ xs) ys i =
    let next : length (x ∷ xs) + i ≡ suc (length xs + i) = omega arith in
    ap (slice_get (x ∷ xs ++ ys)) next ∙ at_right xs ys i

-- those of the first list, and those of the second
pub stand_left : (n : ℕ) (xs ys all : List ValueType) → StandFrom n (xs ++ ys) all → StandFrom n xs all
stand_left n xs ys all h i ty e = h i ty (slice_get-left xs ys i ty e)

pub stand_right : (n m : ℕ) (xs ys all : List ValueType) → length xs ≡ m → StandFrom n (xs ++ ys) all
    → StandFrom (n + m) ys all
stand_right n m xs ys all long h i ty e =
    subst (λ j. slice_get all j ≡ Some ty) (omega (arith, long)) (h (length xs + i) ty (at_right xs ys i ∙ e))

-- the first of two lists stands from 0 on, the second behind it
pub stand_whole : (xs ys : List ValueType) → StandFrom 0 xs (xs ++ ys)
stand_whole xs ys i ty e = subst (λ j. slice_get (xs ++ ys) j ≡ Some ty) (omega arith) (slice_get-left xs ys i ty e)

pub stand_behind : (n : ℕ) (xs ys : List ValueType) → length xs ≡ n → StandFrom n ys (xs ++ ys)
stand_behind n xs ys long i ty e =
    subst (λ j. slice_get (xs ++ ys) (j + i) ≡ Some ty) long (at_right xs ys i ∙ e)

-- the types of declarations, and of fresh locals
abbrev pub types_in : Declared → List Declaration → List ValueType
types_in d ds = types_of (names_of_records d.records) ds

abbrev pub fresh_types : Declared → List Fresh → List ValueType
fresh_types d fs = map (λ (f : Fresh). type_of (names_of_records d.records) f.declared.kind) fs

pub fresh_left : (d : Declared) (n : ℕ) (xs ys : List Fresh) (all : List ValueType)
    → StandFrom n (fresh_types d (xs ++ ys)) all → StandFrom n (fresh_types d xs) all
fresh_left d n xs ys all h =
    let f : Fresh → ValueType = λ f. type_of (names_of_records d.records) f.declared.kind in
    stand_left n (map f xs) (map f ys) all (subst (λ l. StandFrom n l all) (map-append f xs ys) h)

pub fresh_right : (d : Declared) (n m : ℕ) (xs ys : List Fresh) (all : List ValueType) → length xs ≡ m
    → StandFrom n (fresh_types d (xs ++ ys)) all → StandFrom (n + m) (fresh_types d ys) all
fresh_right d n m xs ys all long h =
    let f : Fresh → ValueType = λ f. type_of (names_of_records d.records) f.declared.kind in
    stand_right n m (map f xs) (map f ys) all (length-map {B = ValueType} xs f ∙ long)
    (subst (λ l. StandFrom n l all) (map-append f xs ys) h)

-- the fresh locals of a call have the types of the procedure's variables
pub call_types : (d : Declared) (c : ℕ) (ds : List Declaration) → fresh_types d (of_call c ds) ≡ types_in d ds
call_types d c [] = refl
call_types d c (x ∷ ds) = ap (λ l. type_of (names_of_records d.records) x.kind ∷ l) (call_types d c ds)

-- parameters first, then locals
pub types_both : (d : Declared) (ps ls : List Declaration) → types_in d (ps ++ ls) ≡ types_in d ps ++ types_in d ls
types_both d ps ls = map-append (λ (x : Declaration). type_of (names_of_records d.records) x.kind) ps ls

pub types_long : (d : Declared) (ps : List Declaration) → length (types_in d ps) ≡ length ps
types_long d ps = length-map {B = ValueType} ps (λ (x : Declaration). type_of (names_of_records d.records) x.kind)
