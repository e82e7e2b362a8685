use Rattle.std.proofs.Common.{◌≡◌, ◌↔◌, ℕ, Option, Some, vec_len}
use Rattle.std.specs.Prelude.{slice_get}
use Rattle.sect_graph.specs.Layout.{flow_nodes}
use Rattle.sect_names.specs.{declared.lock.Lock.{Lock}, Chains.{link, IsGeneratedAt}, Needed.{end_of}}
use Rattle.sect_emit.specs.{Compiled.{program_of}, Explaining.{section_at}}
use Rattle.sect_draw.specs.steps.Drawings.{AreNamedLocks}
use Rattle.sect_draw.proofs.graphing.generated_of.Given as goal

abbrev pub invariant-loop-node : goal.invariant-loop-node
invariant-loop-node l = (let v = l.compiled in
    let of = section_at v l.section in
    record {
      count : vec_len l.generated ≡ l.node;
      each : (n : ℕ) (own : Option Lock) → slice_get l.generated.items n ≡ Some own → (x : Lock) → (own ≡ Some x)
          ↔ IsGeneratedAt v.scheme of.thread (end_of v.scheme l.section) (flow_nodes of.body) (link n x);
      named : AreNamedLocks (program_of v) l.generated.items;
    })
