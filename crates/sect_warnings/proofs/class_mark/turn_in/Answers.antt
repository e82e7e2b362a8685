use Rattle.std.proofs.Common.{sym, ◌∙◌, subst, refl}
use Rattle.std.specs.Option.{IsSome}
use Rattle.sect_warnings.proofs.ClassMarks.{found_at, turn_is, here_there, next_on_path}
use Rattle.sect_warnings.proofs.class_mark.turn_in.Goals as goal

pub unwrap-turn-requires : goal.unwrap-turn-requires
unwrap-turn-requires c =
    let v = c.args.compiled.now in
    subst IsSome (sym (c.first_on_path.ensures ∙ found_at v c.facts.ensures.compiled c.args.section c.requires.section
    c.args.lock.class c.args.lock.effect c.args.links.now c.requires.reason)) refl

pub returns-clause-turn : goal.returns-clause-turn
returns-clause-turn c =
    turn_is c.args.compiled.now c.facts.ensures.compiled c.args.section c.requires.section c.args.lock.class
    c.args.lock.effect c.args.links.now c.requires.reason c.unwrap-turn.result c.index-links-turn.result
    c.index-links-turn-2.result (sym c.unwrap-turn.ensures ∙ c.first_on_path.ensures)

pub returns-clause-node : goal.returns-clause-node
returns-clause-node c =
    here_there c.args.compiled.now c.facts.ensures.compiled c.args.section c.requires.section c.args.lock.class
    c.args.lock.effect c.args.links.now c.requires.reason c.unwrap-turn.result c.index-links-turn.result
    c.index-links-turn-2.result (sym c.unwrap-turn.ensures ∙ c.first_on_path.ensures)

pub returns-clause-path : goal.returns-clause-path
returns-clause-path c =
    next_on_path c.args.compiled.now c.facts.ensures.compiled c.args.section c.requires.section c.args.lock.class
    c.args.lock.effect c.args.links.now c.requires.reason c.unwrap-turn.result c.index-links-turn.result
    c.index-links-turn-2.result (sym c.unwrap-turn.ensures ∙ c.first_on_path.ensures)
