use Rattle.sect_table.proofs.Keeping.{prepared_answer, prepared_together, answer_kept}
use Rattle.sect_table.proofs.requests.admit.Goals as goal

pub enter-requires-clause-together : goal.enter-requires-clause-together
enter-requires-clause-together c =
    prepared_together c.args.key c.args.arena.now.entries c.prepare.new.self.entries c.in_ok-prepare.ensures.entries
    (c.requires.kept.sound.together c.args.key)

pub returns-clause-ok : goal.returns-clause-ok
returns-clause-ok c = prepared_answer c.enter.result c.args.thread c.args.key c.args.mode c.args.arena.now
    c.prepare.new.self c.enter.new.arena c.prepare.ensures.held c.in_ok-prepare.ensures.entries c.enter.ensures.answer

pub returns-clause-kept : goal.returns-clause-kept
returns-clause-kept c =
    answer_kept c.enter.result c.args.thread c.args.key c.args.mode c.args.arena.now c.enter.new.arena c.requires.kept
    c.requires.thread c.requires.admitted.0 c.requires.admitted.1 (returns-clause-ok c)
