use Rattle.std.proofs.Common.{sym, subst, arith}
use Rattle.sect_lemmas.specs.Lists.{Has}
use Rattle.sect_lemmas.proofs.Membership.{Has-get_or}
use Rattle.sect_json.specs.Conflicts.{section_pair_json}
use Rattle.sect_json.proofs.Rows.{map_all}
use Rattle.sect_json.proofs.conflicts.section_pairs_value.Goals as goal

pub section_pair_value-requires : goal.section_pair_value-requires
section_pair_value-requires c =
    let pairs = c.args.pairs.now in
    let x = c.pair-item.result in
    c.requires x
    (subst (Has pairs) (sym c.pair-item.is) (Has-get_or pairs c.loop-pair.pair-index x c.loop-pair-test.true))

pub returns : goal.returns
returns c =
    map_all (section_pair_json c.args.program.now) c.args.pairs.now c.loop-pair.pair-index c.loop-pair.values
    (omega arith) c.loop-pair.invariant
