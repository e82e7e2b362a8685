-- The rows of a program's tables.
use Rattle.std.proofs.{Common.{◌≡◌, ℕ, ◌<◌, List, [], length, get_or, sym, ap, ◌∙◌, subst}}
use Rattle.std.proofs.lemmas.Option.{get_or_from_slice_get}
use Rattle.std.specs.Prelude.{slice_index_or}
use Rattle.sect_lemmas.proofs.Places.{at_of}
use Rattle.sect_types.specs.{Programs.{ProgramView}, declared.declarations.types.ValueType.{ValueType}}
use Rattle.sect_names.specs.Locks.{IsField}
use Rattle.sect_c.specs.Declarations.{field_at}

-- what a row that was read holds
pub row_at : {A : Type 0} (xs ys : List (List A)) (i : ℕ) (row items : List A) → i < length ys → items ≡ row
    → row ≡ get_or xs i row → xs ≡ ys → items ≡ slice_index_or ys i []
row_at xs ys i row items lt read is same =
    let of = at_of ys i lt in
    read ∙ (is ∙ (ap (λ l. get_or l i row) same
    ∙ (get_or_from_slice_get ys i of.0 row of.1 ∙ sym (get_or_from_slice_get ys i of.0 [] of.1))))

-- a field by its place in a record's row
pub field_of : (p : ProgramView) (r n : ℕ) → r < length p.records → n < length (slice_index_or p.records r [])
    → IsField p (field_at r n)
field_of p r n lt within =
    let of = at_of p.records r lt in (
      of.0,
      of.1,
      subst (λ (ts : List ValueType). n < length ts) (get_or_from_slice_get p.records r of.0 [] of.1) within,
    )
