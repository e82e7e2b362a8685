use Rattle.std.proofs.Common.{[], ◌∷◌, length, map, length-append, ap, ◌∙◌, arith}
use Rattle.std.proofs.lemmas.List.{map-append, length-map}
use Rattle.sect_json.proofs.Stepped.{one_more_tail}
use Rattle.sect_json.proofs.step_texts.step_tails.Goals as goal

pub loop-node-preserved : goal.loop-node-preserved
loop-node-preserved c =
    let tails = c.loop-node.tails.items in
    let tail = c.in_ok-tail_of.field-0 in
    let had = c.loop-node.invariant in
    record {
      count = omega (arith, ap length c.in_ok-push.ensures.items, length-append tails (tail ∷ []), had.count);
      tails = one_more_tail c.args.compiled.now c.args.section c.loop-node.node (map (λ v. v.items) tails)
          (map (λ v. v.items) c.push.new.self.items) tail.items had.tails
          (length-map tails (λ v. v.items) ∙ had.count) c.in_ok-tail_of.ensures
          (ap (map (λ v. v.items)) c.in_ok-push.ensures.items ∙ map-append (λ v. v.items) tails (tail ∷ []));
    }
