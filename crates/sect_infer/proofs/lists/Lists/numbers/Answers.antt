use Rattle.std.proofs.{Common.{[], map, sym, subst}, lemmas.Result.{IfOk-weaker}}
use Rattle.std.specs.Prelude.{slice_index_or}
use Rattle.sect_lemmas.specs.Lists.{Has}
use Rattle.sect_infer.specs.steps.Fronts.{rows_of}
use Rattle.sect_infer.proofs.Fronts.{front_in_row}
use Rattle.sect_infer.proofs.lists.Lists.numbers.Goals as goal

pub returns : goal.returns
returns c =
    IfOk-weaker c.numbers_of.result _ _
    (λ all has node n h.
    let r = front_in_row (rows_of c.self.inside.rows) c.self.inside.fronts.items node n
    (subst (λ ls. Has (slice_index_or ls node []) n) (sym c.self.view_is) h) in
    has r.0 n (subst (λ vs. Has (slice_index_or (map (λ v. v.items) vs) r.0 []) n) (sym c.as_slice.ensures.value)
    r.1))
    c.numbers_of.ensures
