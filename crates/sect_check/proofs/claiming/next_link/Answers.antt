use Rattle.std.proofs.Common.{◌≡◌, ◌<◌, ◌-◌, ◌∙◌, Some, length, refl, ap, arith}
use Rattle.std.specs.Prelude.{slice_get}
use Rattle.sect_lemmas.proofs.Places.{at_of}
use Rattle.sect_check.proofs.Linking.{links_long, link_more, link_again, link_not}
use Rattle.sect_check.proofs.claiming.next_link.Goals as goal

pub push_again-requires : goal.push_again-requires
push_again-requires c = λ e.
    let n = c.args.naming.now in
    let long = links_long n.scheme n.thread c.args.steps.now c.args.index c.args.links.now c.requires.there
    c.requires.before in
    omega (arith, long, ap length e, c.if-index-gt0.true)

pub returns-then-is_one : goal.returns-then-is_one
returns-then-is_one c =
    let n = c.args.naming.now in
    let links = c.args.links.now in
    let long = links_long n.scheme n.thread c.args.steps.now c.args.index links c.requires.there c.requires.before in
    let below : c.args.index - 1 < length links = omega (arith, long, c.if-index-gt0.true) in
    let last = at_of links (c.args.index - 1) below in
    let place : slice_get links (length links - 1) ≡ Some last.0 = ap (λ i. slice_get links (i - 1)) long ∙ last.1 in
    link_again n.scheme n.thread c.args.steps.now c.args.index links c.requires.there c.requires.before
    c.node-node.result last.0.lock c.push_again.new.self c.node-node.ensures (c.in_ok-push_again.ensures last.0 place)
    last.0 c.if-index-gt0.true last.1 refl (c.if-is_one.ensures refl)

pub returns-in_err-lock : goal.returns-in_err-lock
returns-in_err-lock c =
    let n = c.args.naming.now in
    link_not n.scheme n.thread c.args.steps.now c.args.index c.args.links.now c.requires.there c.lock.result.now
    c.from_residual-in_err-lock.result c.in_err-lock.field-0.0 c.lock.ensures
    c.from_residual-in_err-lock.ensures.1 c.in_err-lock.ensures

pub returns : goal.returns
returns c =
    let n = c.args.naming.now in
    link_more n.scheme n.thread c.args.steps.now c.args.index c.args.links.now c.requires.there c.requires.before
    c.node-node.result c.in_ok-lock.lock c.push.new.self c.node-node.ensures c.in_ok-push.ensures
    c.lock.result.now c.lock.ensures c.in_ok-lock.ensures
