use Rattle.std.proofs.{Common.{◌≡◌, [], map, inl, inr, sym, ap, ◌∙◌, subst, arith}, lemmas.Bool.{cases_lt}}
use Rattle.std.proofs.lemmas.List.{length-map}
use Rattle.std.specs.Prelude.{slice_index_or}
use Rattle.sect_lemmas.specs.Lists.{Has}
use Rattle.sect_infer.proofs.{Apart.{with_all_has}, Fronts.{row_at, has_within}}
use Rattle.sect_infer.proofs.lists.numbers_of.Goals as goal

pub loop-row-preserved : goal.loop-row-preserved
loop-row-preserved c = λ i n less h.
    let l = c.loop-row in
    let vs = c.args.rows.now in
    let row = c.as_slice.result.now in
    let at : slice_index_or (map (λ v. v.items) vs) l.row-index [] ≡ row =
    row_at vs l.row-index c.row-item.result (omega (arith, c.loop-row-test.true)) c.row-item.is
    ∙ sym c.as_slice.ensures.value in
    subst (λ ns. Has ns n) (sym c.in_ok-insert_all.ensures)
    ((with_all_has l.all row n).1
    (elim (cases_lt i l.row-index) [
      | inl lt ↦ inl (l.invariant i n lt h)
      | inr ge ↦
          let here : i ≡ l.row-index = omega (arith, ge, less) in
          inr (subst (λ ns. Has ns n)
          (ap (λ k. slice_index_or (map (λ v. v.items) vs) k []) here ∙ at) h)
    ]))

pub returns : goal.returns
returns c = λ row n h.
    let vs = c.args.rows.now in
    let within = has_within (map (λ v. v.items) vs) row n h in
    c.loop-row.invariant row n (omega (arith, within, length-map vs (λ v. v.items), c.loop-row-test.false)) h
