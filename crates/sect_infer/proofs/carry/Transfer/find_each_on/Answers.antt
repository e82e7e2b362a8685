use Rattle.std.proofs.{Common.{refl, subst}, lemmas.Result.{on_ok_weaker}}
use Rattle.sect_names.specs.Carrying.{LockOn}
use Rattle.sect_infer.specs.steps.Putting.{IsOnOneOf}
use Rattle.sect_names.specs.declared.carry.Earlier.TheVariants as earlier
use Rattle.sect_infer.proofs.Carrying.{finds_none, finds_as}
use Rattle.sect_infer.proofs.carry.Transfer.find_each_on.Goals as goal

pub returns-in-Nothing : goal.returns-in-Nothing
returns-in-Nothing c =
    let s = c.args.self.scheme.now in
    rw c.in-Nothing.is (finds_none s c.args.numbering.now c.args.found.now
    (IsOnOneOf s c.args.effect earlier.Nothing) c.requires (λ l h. h.1))

pub returns-in-Alone : goal.returns-in-Alone
returns-in-Alone c =
    let s = c.args.self.scheme.now in
    let e = c.args.effect in
    let p = c.in-Alone.path in
    rw c.in-Alone.is (on_ok_weaker c.find_on.result (finds_as s c.args.numbering.now c.find_on.new.numbering
    c.args.found.now c.find_on.new.found (LockOn s e p) (IsOnOneOf s e (earlier.Alone p))
    (λ l. (λ h. subst (λ q. LockOn s e q l) h.1 h.2, λ h. (p, refl, h)))) c.find_on.ensures)

pub returns-in-Any : goal.returns-in-Any
returns-in-Any c = rw c.in-Any.is c.find_all_on.ensures
