-- How paths are compared and hashed: by their variables, and then field by field.
use Rattle.std.specs.{Prelude.{◌≡◌, ◌++◌, Bool, List}, declared.cmp.Ordering.{Ordering}}
use Rattle.std.specs.Ordering.{on, eq_of_both, then_cmp, eq_by_cmp, as_partial_cmp}
use Rattle.std.specs.Cmp.{IsEquivalence, IsPartialOrder, IsTotalOrder, and_equiv, on_equiv, on_total, both_tied}
use Rattle.std.specs.Cmp.{partial_order_from_agreeing_total, then_total}
use Rattle.std.specs.Cmp.Lexicographic.{pointwise, slice_cmp, lists_equiv, lists_total, lists_ties}
use Rattle.std.specs.Hash.{HashWrites, Alike, slice, and-Alike, on_Alike, items_Alike}
use Rattle.std.proofs.Common.{refl}
use Rattle.sect_types.specs.declared.expansion.action.Field.{Field}
use Rattle.sect_types.specs.contracts.expansion.action.FieldPartialEq.TheImpl.{ghosts as the_field_eq}
use Rattle.sect_types.specs.contracts.expansion.action.FieldEq.TheImpl.Laws.{laws-law as the_field_laws}
use Rattle.sect_types.specs.contracts.expansion.action.FieldHash.TheImpl.{ghosts as the_field_hash}
use Rattle.sect_types.specs.contracts.expansion.action.FieldHash.TheImpl.Laws.{respects_eq-law as the_field_alike}
use Rattle.sect_types.specs.contracts.expansion.action.FieldOrd.TheImpl.{ghosts as the_field_order}
use Rattle.sect_types.specs.contracts.expansion.action.FieldOrd.TheImpl.Laws.{total-law as the_field_total}
use Rattle.sect_types.specs.contracts.expansion.action.FieldOrd.TheImpl.Laws.{matches_eq-law as the_field_ties}
use Rattle.sect_points.specs.contracts.holders.VariablePartialEq.TheImpl.{ghosts as the_variable_eq}
use Rattle.sect_points.specs.contracts.holders.VariableEq.TheImpl.Laws.{laws-law as the_variable_laws}
use Rattle.sect_points.specs.contracts.holders.VariableHash.TheImpl.{ghosts as the_variable_hash}
use Rattle.sect_points.specs.contracts.holders.VariableHash.TheImpl.Laws.{respects_eq-law as the_variable_alike}
use Rattle.sect_points.specs.contracts.holders.VariableOrd.TheImpl.{ghosts as the_variable_order}
use Rattle.sect_points.specs.contracts.holders.VariableOrd.TheImpl.Laws.{total-law as the_variable_total}
use Rattle.sect_points.specs.contracts.holders.VariableOrd.TheImpl.Laws.{matches_eq-law as the_variable_ties}
use Rattle.sect_points.specs.Paths.{PathView, base_of, fields_of}

-- whether two lists of fields are one
abbrev pub fields_eq : List Field → List Field → Bool
fields_eq = pointwise the_field_eq.eq

-- field by field: a list stands before one that goes on from it
abbrev pub fields_cmp : List Field → List Field → Ordering
fields_cmp = slice_cmp the_field_order.cmp

abbrev pub path_eq : PathView → PathView → Bool
path_eq = eq_of_both (on base_of the_variable_eq.eq) (on fields_of fields_eq)

abbrev pub path_fed : PathView → HashWrites
path_fed p = the_variable_hash.hash_input (base_of p) ++ slice the_field_hash.hash_input (fields_of p)

abbrev pub path_cmp : PathView → PathView → Ordering
path_cmp = then_cmp (on base_of the_variable_order.cmp) (on fields_of fields_cmp)

pub path_equivalence : IsEquivalence path_eq
path_equivalence = and_equiv (on_equiv base_of the_variable_laws) (on_equiv fields_of (lists_equiv the_field_laws))

pub path_alike : Alike path_eq path_fed
path_alike = and-Alike (on_Alike base_of (record { fed = the_variable_alike }))
    (on_Alike fields_of (items_Alike (record { fed = the_field_alike })))

pub path_ties : (p q : PathView) → path_eq p q ≡ eq_by_cmp path_cmp p q
path_ties p q = both_tied _ _ _ _ (the_variable_ties (base_of p) (base_of q))
    (lists_ties the_field_order.cmp the_field_ties (fields_of p) (fields_of q))

pub path_total : IsTotalOrder path_cmp
path_total = then_total (on_total base_of the_variable_total) (on_total fields_of (lists_total the_field_total))

pub path_order : IsPartialOrder path_eq (as_partial_cmp path_cmp)
path_order = partial_order_from_agreeing_total path_cmp path_total (λ p q. refl) path_ties
