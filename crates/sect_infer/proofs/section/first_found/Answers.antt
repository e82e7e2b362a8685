use Rattle.std.proofs.{Common.{◌≡◌, ◌∷◌, [], List, ℕ, sym, subst}, lemmas.Result.{IfOk-weaker}}
use Rattle.std.specs.Prelude.{slice_index_or}
use Rattle.sect_infer.specs.steps.{Found.{AreFirstFound}, Listing.{IsOrder, listed}}
use Rattle.sect_infer.proofs.Finding.{first_found}
use Rattle.sect_infer.proofs.section.first_found.Goals as goal

pub returns : goal.returns
returns c =
    let s = c.args.scheme.now in
    let t = c.args.thread in
    let g = c.args.flow.now in
    let a = c.in_ok-solution.solution.numbering in
    let lists = c.in_ok-solution.solution.lists in
    let ns = c.of.result.now in
    let here : ns ≡ slice_index_or lists 0 [] = c.of.ensures in
    IfOk-weaker c.list_alone.result
    (λ locks. (order : List ℕ) × IsOrder a.keys (ns ∷ []) order × (locks.items ≡ listed a order ns))
    (λ locks. AreFirstFound s t g locks.items)
    (λ locks o. subst (AreFirstFound s t g) (sym o.2)
    (subst (λ ms. AreFirstFound s t g (listed a o.0 ms)) (sym here)
    (first_found s t g a lists o.0 c.in_ok-solution.ensures (subst (λ ms. IsOrder a.keys (ms ∷ []) o.0) here o.1))))
    c.list_alone.ensures
