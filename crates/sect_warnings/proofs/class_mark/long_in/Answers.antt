use Rattle.std.proofs.Common.{sym, subst}
use Rattle.sect_lemmas.specs.Lists.{Has}
use Rattle.sect_lemmas.proofs.Membership.{Has-get_or}
use Rattle.sect_warnings.specs.steps.Reasons.{IsLong}
use Rattle.sect_warnings.proofs.Searching.{place_within}
use Rattle.sect_warnings.proofs.class_mark.long_in.Goals as goal

pub returns-clause-among : goal.returns-clause-among
returns-clause-among c =
    let paths = c.args.paths.now in
    subst (Has paths) (sym c.index-paths-number-2.is)
    (Has-get_or paths c.loop-number.number c.index-paths-number-2.result
    (place_within (IsLong c.args.scheme.now c.args.class) paths c.loop-number.number c.loop-number.invariant))
