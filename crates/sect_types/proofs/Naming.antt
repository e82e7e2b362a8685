-- Places of names, and how many names there are.
use Rattle.std.proofs.Common.{◌≡◌, ℕ, ◌<◌, ◌≤◌, List, [], length, get_or, sym, ap, ◌∙◌, arith, map, length-append}
use Rattle.std.proofs.{lemmas.List.{get_or-map, length-map}, lemmas.List.Elements.{All-get_or}}
use Rattle.sect_front.specs.declared.tree.Thread.{Thread}
use Rattle.sect_types.specs.{declared.declarations.types.ValueType.{ValueType}, Sight.{names_of_records}}
use Rattle.sect_types.specs.{Environments.{types_of, type_of}, Limits.{most_all_locals}}
use Rattle.sect_types.specs.{declared.expansion.expand.Fresh.{Fresh}, Expanded.{local_types_of, fresh_in}}
use Rattle.sect_types.specs.Programs.{ProgramView, IsOfTree, IsWithinLimits}

-- a thread has few locals
pub few_locals : (p : ProgramView) → IsOfTree p → IsWithinLimits p → (t : ℕ) (th : Thread) → t < length p.locals
    → th ≡ get_or p.source.threads t th → length th.locals ≤ most_all_locals
few_locals p tree limits t th within is =
    let names = names_of_records p.source.records in
    let f : Thread → List ValueType = local_types_of p.source in
    let there : t < length p.source.threads =
    omega (arith, within, ap length tree.locals_are, length-map p.source.threads f) in
    let same : get_or p.locals t [] ≡ f th =
    ap (λ l. get_or l t []) tree.locals_are ∙ get_or-map f p.source.threads t th [] there ∙ ap f (sym is) in
    let few = All-get_or (λ (ts : List ValueType). length ts ≤ most_all_locals) p.locals t [] within
    limits.few_locals in
    omega (
      arith,
      few,
      ap length same,
      length-append (types_of names th.locals)
          (map (λ (x : Fresh). type_of names x.declared.kind) (fresh_in p.source th)),
      length-map th.locals (λ d. type_of names d.kind),
    )
