use Rattle.std.proofs.Common.{[], map, take, sym, subst, arith}
use Rattle.std.proofs.lemmas.List.{take_all}
use Rattle.sect_lemmas.specs.Lists.{Has}
use Rattle.sect_lemmas.proofs.Membership.{Has-get_or}
use Rattle.sect_conflicts.specs.Conflicts.{Selects}
use Rattle.sect_conflicts.proofs.shared.Selecting.{adds_all}
use Rattle.sect_warnings.specs.{Apart.{pair_warning}, Warnings.{IsDue}, steps.Usage.{AreAllUsed}}
use Rattle.sect_warnings.proofs.Parting.{next_pair}
use Rattle.sect_warnings.proofs.apart.all_of_pairs.Goals as goal

pub add_pair-requires-clause-usages : goal.add_pair-requires-clause-usages
add_pair-requires-clause-usages c =
    subst (AreAllUsed c.args.compiled.now) (sym c.as_slice.ensures.value) c.in_ok-usages.ensures

pub add_pair-requires-clause-compared : goal.add_pair-requires-clause-compared
add_pair-requires-clause-compared c =
    let pairs = c.args.pairs.now in
    (c.requires.pairs c.pair-item.result (subst (Has pairs) (sym c.pair-item.is)
    (Has-get_or pairs c.loop-pair.pair-index c.pair-item.result c.loop-pair-test.true))).0

pub add_pair-requires-clause-conflict : goal.add_pair-requires-clause-conflict
add_pair-requires-clause-conflict c =
    let pairs = c.args.pairs.now in
    (c.requires.pairs c.pair-item.result (subst (Has pairs) (sym c.pair-item.is)
    (Has-get_or pairs c.loop-pair.pair-index c.pair-item.result c.loop-pair-test.true))).1

pub loop-pair-preserved : goal.loop-pair-preserved
loop-pair-preserved c =
    next_pair c.args.compiled.now c.args.pairs.now c.loop-pair.pair-index c.pair-item.result [] c.loop-pair.all.items
    c.add_pair.new.found.items c.loop-pair-test.true c.pair-item.is c.loop-pair.invariant c.in_ok-add_pair.ensures

pub returns : goal.returns
returns c =
    let v = c.args.compiled.now in
    let pairs = c.args.pairs.now in
    let told = pair_warning v.scheme.program.source in
    let k = c.loop-pair.pair-index in
    subst (λ ps. Selects (IsDue v) (map told ps) c.loop-pair.all.items) (take_all k pairs (omega arith))
    (adds_all (IsDue v) (map told (take k pairs)) c.loop-pair.all.items c.loop-pair.invariant)
