use Rattle.std.proofs.{Common.{◌≡◌, slice_get, get_or, Some, refl, ap, subst, ◌∙◌}, lemmas.Option.{slice_get-get_or}}
use Rattle.sect_table.specs.steps.Keys.{place_in}
use Rattle.sect_table.proofs.Numbers.{distinct_place}
use Rattle.sect_table.proofs.keys.Keys.marked.Goals as goal

pub returns-then-is_same : goal.returns-then-is_same
returns-then-is_same c =
    let n = get_or c.self.inside.marks c.in_ok-number.field-0 0 in
    let at = slice_get-get_or c.as_slice-keys.result.now n _ c.if-number-keys.true
    ∙ ap Some (c.if-is_same.ensures.same.0 refl) in
    distinct_place c.args.key c.self.inside.set.keys n c.as_slice-keys.ensures.unique
    (subst (λ xs. slice_get xs n ≡ Some c.args.key) c.as_slice-keys.ensures.keys at)
    ∙ ap (place_in c.args.key) c.self.view_is
