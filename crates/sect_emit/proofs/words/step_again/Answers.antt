use Rattle.std.proofs.Common.{sym, subst, length, ◌-◌, arith}
use Rattle.std.specs.List.{AllByRecursion}
use Rattle.sect_cert.specs.Texts.{IsStep}
use Rattle.sect_lemmas.proofs.Places.{at_of, each_at}
use Rattle.sect_emit.proofs.Spelling.{all_more, some_long}
use Rattle.sect_emit.proofs.words.step_again.Goals as goal

pub returns-clause-good : goal.returns-clause-good
returns-clause-good c =
    let old = c.args.steps.now in
    let last = at_of old (length old - 1) (some_long old c.requires.some) in
    let good = each_at IsStep old c.requires.good (length old - 1) last.0 last.1 in
    subst (AllByRecursion IsStep) (sym (c.in_ok-push_again.ensures last.0 last.1))
    (all_more IsStep old (record { node = c.args.node; lock = last.0.lock }) c.requires.good (omega arith, good.1))
