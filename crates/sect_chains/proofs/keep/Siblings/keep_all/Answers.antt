use Rattle.std.proofs.{Common.{◌<◌, length, get_or, take, ap, ◌∙◌, arith}, lemmas.List.{get_or_default}}
use Rattle.sect_lemmas.proofs.Membership.{Has-get_or}
use Rattle.sect_chains.specs.steps.Keeping.{KeptView, kept}
use Rattle.sect_chains.proofs.Keeping.{each_count, each_next}
use Rattle.sect_chains.proofs.keep.Siblings.keep_all.Goals as goal

pub keep-requires-clause-node : goal.keep-requires-clause-node
keep-requires-clause-node c =
    let old = kept c.args.found.now.items c.args.steps.now.items in
    let same = ap (λ (w : KeptView). length w.found) c.loop-number.invariant in
    let count = each_count c.args.numbering.now.above old c.args.self.node c.args.self.next
    (take c.loop-number.number-index c.args.numbers.now) in
    omega (arith, same ∙ count, c.requires.node)

pub keep-requires-clause-number : goal.keep-requires-clause-number
keep-requires-clause-number c =
    let numbers = c.args.numbers.now in
    let i = c.loop-number.number-index in
    c.requires.numbers (get_or numbers i 0) (Has-get_or numbers i 0 (omega (arith, c.loop-number-test.true)))

pub loop-number-preserved : goal.loop-number-preserved
loop-number-preserved c =
    let old = kept c.args.found.now.items c.args.steps.now.items in
    let v = kept c.loop-number.found.items c.loop-number.steps.items in
    let u = kept c.keep.new.found.items c.keep.new.steps.items in
    let numbers = c.args.numbers.now in
    let i = c.loop-number.number-index in
    let n = get_or numbers i 0 in
    let within : i < length numbers = omega (arith, c.loop-number-test.true) in
    each_next c.args.numbering.now.above old v u c.args.self.node c.args.self.next numbers i n within
    (get_or_default numbers i 0 n within)
    c.loop-number.invariant c.in_ok-keep.ensures
