use Rattle.std.proofs.Common.{◌≡◌, List, length, arith, ap, sym, ◌∙◌, subst}
use Rattle.sect_front.specs.{TreeView.{TreeView}, declared.tree.Procedure.{Procedure}, declared.tree.Thread.{Thread}}
use Rattle.sect_types.specs.Expanded.{NextNumbers}
use Rattle.sect_places.specs.{ItemCounts.{items_in_records}, Origins.{first_procedure}}
use Rattle.sect_places.specs.steps.Ending.{EndsWithin, ThreadsEnd}
use Rattle.sect_places.proofs.{Expanding.{starts_many, tree_nodes, tree_parts}, KnownCalls.{threads_known}}
use Rattle.sect_places.proofs.ProgramOrigins.{program_origins}
use Rattle.sect_places.proofs.nodes.node_origins.Goals as goal

pub invariant_of-inside : goal.invariant_of-inside
invariant_of-inside c = record {
  rows = ap length (c.as_slice.ensures.value ∙ c.in_ok-starts.ensures.items)
      ∙ starts_many c.in_ok-first.first c.procedures-procedures.result.now;
}

pub put_threads-requires-clause-known : goal.put_threads-requires-clause-known
put_threads-requires-clause-known c =
    let p = c.args.program.now in
    let t = p.source in
    let procedures = c.procedures-procedures.ensures ∙ ap (λ (x : TreeView). x.procedures) c.tree-tree.ensures.tree in
    let threads = c.threads.ensures ∙ ap (λ (x : TreeView). x.threads) c.tree-tree.ensures.tree in
    let start : NextNumbers = record { sites = length t.globals; sections = 0; fresh = 0 } in
    subst (λ (x : List Procedure). ThreadsEnd x (EndsWithin x (length x)) c.threads.result.now) (sym procedures)
    (subst (λ (x : List Thread). ThreadsEnd t.procedures (EndsWithin t.procedures (length t.procedures)) x)
    (sym threads) (threads_known t start t.threads p.texts c.tree-tree.ensures.numbers.texts_are))

pub returns : goal.returns
returns c =
    let p = c.args.program.now in
    let t = p.source in
    let same = c.tree-tree.ensures.tree in
    let ps = c.procedures-procedures.result.now in
    let hs = c.threads.result.now in
    let procedures = c.procedures-procedures.ensures ∙ ap (λ (x : TreeView). x.procedures) same in
    let threads = c.threads.ensures ∙ ap (λ (x : TreeView). x.threads) same in
    let starts = c.as_slice.ensures.value ∙ c.in_ok-starts.ensures.items in
    let first : c.in_ok-first.first ≡ first_procedure t = omega (
      arith,
      c.in_ok-first.ensures,
      c.in_ok-globals.ensures,
      ap items_in_records (c.records.ensures ∙ ap (λ (x : TreeView). x.records) same),
      ap length (c.globals.ensures ∙ ap (λ (x : TreeView). x.globals) same),
    ) in
    rw c.new.ensures
    (program_origins p _ c.tree-tree.ensures.numbers
    (tree_nodes t ps c.as_slice.result.now hs c.in_ok-first.first c.in_ok-starts.behind procedures starts first
    c.in_ok-starts.ensures.next threads c.put_threads.new.out.items
    (rw c.new-threads.ensures.items at c.in_ok-put_threads.ensures.threads))
    (tree_parts t ps c.as_slice.result.now hs c.in_ok-first.first c.in_ok-starts.behind procedures starts first
    c.in_ok-starts.ensures.next threads c.put_threads.new.sections.items
    (rw c.new-sections.ensures.items at c.in_ok-put_threads.ensures.sections)))
