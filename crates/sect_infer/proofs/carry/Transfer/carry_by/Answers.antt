use Rattle.std.proofs.Common.{◌≡◌, ◌↔◌, sym, subst}
use Rattle.sect_lemmas.proofs.Places.{one_at}
use Rattle.sect_names.specs.{declared.lock.Lock.{Lock}, Locks.{IsLockOf}, Carrying.{CarriedBack}}
use Rattle.sect_infer.specs.Numbers.{with_number}
use Rattle.sect_infer.proofs.{Extending.{numbered_there}, Carrying.{finds_one, finds_as}}
use Rattle.sect_infer.proofs.carry.Transfer.carry_by.Goals as goal

pub returns-in_ok-insert : goal.returns-in_ok-insert
returns-in_ok-insert c = λ l at.
    let s = c.args.self.scheme.now in
    let t = c.args.self.thread in
    let label = c.args.self.label.now in
    let a = c.args.numbering.now in
    let n = c.args.number in
    let same : c.lock.result.now ≡ l = one_at a.keys n c.lock.result.now l c.lock.ensures at in
    let stay : (r : Lock) → CarriedBack s t label l r ↔ (r ≡ l) =
    subst (λ k. (r : Lock) → CarriedBack s t label k r ↔ (r ≡ k)) same
    (c.leaves.ensures c.if-leaves.true s t label c.requires.others (subst (IsLockOf s t) (sym same)
    (c.requires.lawful l at))) in
    rw c.in_ok-insert.ensures (finds_as s a a c.args.found.now (with_number c.args.found.now n) (λ r. r ≡ l)
    (CarriedBack s t label l) stay
    (finds_one s a a c.args.found.now l n c.requires.finding (numbered_there s a l n c.requires.finding.numbering at)))
