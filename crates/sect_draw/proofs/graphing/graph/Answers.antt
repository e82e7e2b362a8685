use Rattle.std.proofs.Common.{◌≡◌, ◌+◌, ◌-◌, ◌++◌, sym, ap, subst, ◌∙◌, arith, append_assoc}
use Rattle.sect_draw.specs.Graphs.{IsCluster, AreClusters, opening}
use Rattle.sect_draw.proofs.Drawn.{one_cluster}
use Rattle.sect_draw.proofs.graphing.graph.Goals as goal

pub loop-section-preserved : goal.loop-section-preserved
loop-section-preserved c =
    let v = c.args.compiled.now in
    let i = c.loop-section.section in
    let first = c.args.first in
    let inv = c.loop-section.invariant in
    let put = c.in_ok-put_section.ensures in
    let from : first + (i - first) ≡ i = omega (arith, inv.order) in
    let next : i - first + 1 ≡ i + 1 - first = omega (arith, inv.order) in
    record {
      order = omega (arith, inv.order);
      clusters = inv.clusters ++ put.0;
      drawn = subst (λ n. AreClusters v first n (inv.clusters ++ put.0)) next
          (one_cluster v first (i - first) inv.clusters put.0 inv.drawn
          (subst (λ n. IsCluster v n put.0) (sym from) put.1));
      printed = put.2 ∙ (ap (λ t. t ++ put.0) inv.printed ∙ append_assoc opening inv.clusters put.0);
    }
