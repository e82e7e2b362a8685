use Rattle.std.proofs.Common.{◌<◌, Some, None, arith, sym, ap, subst}
use Rattle.sect_lemmas.specs.Lists.{Has}
use Rattle.sect_infer.specs.{Numberings.{NumberingView}, steps.Putting.{AreWithin}}
use Rattle.sect_infer.proofs.Highest.{none_under}
use Rattle.sect_infer.proofs.numbering.Numbering.has_none_above.Goals as goal

pub returns-in-None : goal.returns-in-None
returns-in-None c = λ t. none_under c.args.self.now.above c.args.numbers.now None
    (subst (λ h. AreWithin h c.args.self.now.above) c.in-None.is (subst (AreWithin c.self.inside.highest)
    (ap (λ (v : NumberingView). v.above) c.self.view_is) c.self.invariant.within)) (λ m h w. w)

pub returns-in-Some : goal.returns-in-Some
returns-in-Some c = λ t.
    let found = c.args.numbers.now in
    let most = c.in-Some.most in
    none_under c.args.self.now.above found (Some most)
    (subst (λ h. AreWithin h c.args.self.now.above) c.in-Some.is (subst (AreWithin c.self.inside.highest)
    (ap (λ (v : NumberingView). v.above) c.self.view_is) c.self.invariant.within))
    (λ m h w. let more : most < m = c.are_beyond.ensures t m (subst (λ ns. Has ns m) (sym c.members.ensures) h) in
    omega (arith, more, w))
