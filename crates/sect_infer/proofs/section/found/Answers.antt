use Rattle.std.proofs.{Common.{◌≡◌, List, ℕ, Some, map, sym, subst}, lemmas.Result.{IfOk-weaker}}
use Rattle.std.specs.Prelude.{slice_get}
use Rattle.sect_infer.specs.Sets.{LocksView}
use Rattle.sect_infer.specs.steps.{Found.{AreFound, IsFound}, Listing.{IsOrder, listed}}
use Rattle.sect_infer.proofs.Finding.{are_found}
use Rattle.sect_infer.proofs.section.found.Goals as goal

pub returns : goal.returns
returns c =
    let s = c.args.scheme.now in
    let t = c.args.thread in
    let g = c.args.flow.now in
    let a = c.in_ok-solution.solution.numbering in
    let lists = c.in_ok-solution.solution.lists in
    IfOk-weaker c.of.result (λ (locks : LocksView). (order : List ℕ) × IsOrder a.keys lists order
    × (locks.at ≡ map (listed a order) lists) × (slice_get locks.at 0 ≡ Some locks.entry)) (IsFound s t g)
    (λ locks o. record {
      found = subst (AreFound s t g) (sym o.2)
          (are_found s t g a lists o.0 c.in_ok-solution.ensures o.1);
      first = o.3;
    })
    c.of.ensures
