use Rattle.std.proofs.{Common.{◌<◌, length, get_or, arith, inl, inr}, lemmas.List.{get_or_default}}
use Rattle.sect_lemmas.proofs.Making.{last_of, so_far}
use Rattle.sect_infer.proofs.waiting.Waiting.insert_all.Goals as goal

pub loop-node-preserved : goal.loop-node-preserved
loop-node-preserved c = λ i.
    let nodes = c.args.nodes.now in
    let k = c.loop-node.node-index in
    let n = get_or nodes k 0 in
    let within : k < length nodes = omega (arith, c.loop-node-test.true) in
    let is = get_or_default nodes k 0 n within in
    let before = c.loop-node.invariant i in
    let put = c.in_ok-insert.ensures i in (
      λ h. elim (put.0 h) [
        | inl a ↦ elim (before.0 a) [ inl old ↦ inl old | inr b ↦ inr (so_far nodes k n i within is (inl b)) ]
        | inr e ↦ inr (so_far nodes k n i within is (inr e))
      ],
      λ h. put.1 (elim h [
        | inl old ↦ inl (before.1 (inl old))
        | inr b ↦ elim (last_of nodes k n i within is b) [ inl a ↦ inl (before.1 (inr a)) | inr e ↦ inr e ]
      ]),
    )
