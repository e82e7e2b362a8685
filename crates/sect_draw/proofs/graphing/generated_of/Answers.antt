use Rattle.std.proofs.Common.{◌≡◌, ◌↔◌, ℕ, Option, Some, length, sym, ◌∙◌, subst, inl, inr, arith}
use Rattle.std.specs.Prelude.{slice_get}
use Rattle.sect_graph.specs.Layout.{flow_nodes}
use Rattle.sect_lemmas.proofs.Places.{pushed_at}
use Rattle.sect_names.specs.{declared.lock.Lock.{Lock}, Chains.{link, IsGeneratedAt}, Needed.{end_of}}
use Rattle.sect_names.specs.Printing.{IsNamed}
use Rattle.sect_emit.specs.{Compiled.{program_of}, Explaining.{section_at}}
use Rattle.sect_draw.proofs.graphing.generated_of.Goals as goal

pub loop-node-preserved : goal.loop-node-preserved
loop-node-preserved c =
    let v = c.args.compiled.now in
    let of = section_at v c.args.section in
    let old = c.loop-node.generated.items in
    let own = c.section_generates.result in
    let here : c.loop-node.node ≡ length old = omega (arith, c.loop-node.invariant.count, c.loop-node.generated.ok) in
    let split = λ (n : ℕ) (x : Option Lock) (at : slice_get c.push.new.self.items n ≡ Some x).
    pushed_at old own x n (subst (λ all. slice_get all n ≡ Some x) c.in_ok-push.ensures.items at) in
    record {
      count = omega (arith, c.in_ok-push.ensures.len, c.loop-node.invariant.count);
      each = λ n x at. elim (split n x at) [
        | inl new ↦ subst (λ m. (l : Lock) → (x ≡ Some l)
            ↔ IsGeneratedAt v.scheme of.thread (end_of v.scheme c.args.section) (flow_nodes of.body) (link m l))
            (here ∙ sym new.0)
            (subst (λ y. (l : Lock) → (y ≡ Some l)
            ↔ IsGeneratedAt v.scheme of.thread (end_of v.scheme c.args.section) (flow_nodes of.body)
            (link c.loop-node.node l)) new.1 c.section_generates.ensures.generated)
        | inr before ↦ c.loop-node.invariant.each n x before
      ];
      named = λ n x at. elim (split n x at) [
        | inl new ↦ subst (λ y. (l : Lock) → y ≡ Some l → IsNamed (program_of v) l) new.1
            c.section_generates.ensures.named
        | inr before ↦ c.loop-node.invariant.named n x before
      ];
    }
