use Rattle.std.proofs.Common.{subst}
use Rattle.sect_lemmas.proofs.Membership.{Has-slice_get}
use Rattle.sect_infer.specs.steps.Putting.{IsTold}
use Rattle.sect_infer.proofs.shared.Apart.{apart_one}
use Rattle.sect_infer.proofs.numbering.Numbering.tell_one.Goals as goal

pub returns-in_ok-tell-clause-there : goal.returns-in_ok-tell-clause-there
returns-in_ok-tell-clause-there c = λ new number at apart.
    let t = c.args.self.now in
    subst (λ n. IsTold t c.tell.new.self n c.args.added.number)
    (apart_one t.keys c.in-Some.number number c.args.lock.now apart c.in-Some.ensures at) c.in_ok-tell.ensures

pub returns-in_ok-tell-clause-absent : goal.returns-in_ok-tell-clause-absent
returns-in_ok-tell-clause-absent c = λ absent.
    absurd (absent (Has-slice_get c.args.self.now.keys c.in-Some.number c.args.lock.now c.in-Some.ensures))

pub returns-in_default-clause-there : goal.returns-in_default-clause-there
returns-in_default-clause-there c = λ new number at apart.
    absurd (c.in_default.ensures (Has-slice_get c.args.self.now.keys number c.args.lock.now at))
