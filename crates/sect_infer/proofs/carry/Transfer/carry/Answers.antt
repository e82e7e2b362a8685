use Rattle.std.proofs.{Common.{◌↔◌, ◌≡◌}, lemmas.Result.{on_ok_weaker}}
use Rattle.sect_names.specs.{declared.lock.Lock.{Lock}, Locks.{IsLockOf}, Carrying.{CarriedBack}}
use Rattle.sect_infer.specs.{Numbers.{with_numbers}, Numberings.{HasLock}}
use Rattle.sect_infer.proofs.Carrying.{CarriedOf, finds_as, finds_numbers, all_carried}
use Rattle.sect_infer.proofs.carry.Transfer.carry.Goals as goal

pub returns-then-leaves_all : goal.returns-then-leaves_all
returns-then-leaves_all c =
    let s = c.args.self.scheme.now in
    let t = c.args.self.thread in
    let label = c.args.self.label.now in
    let a = c.args.numbering.now in
    let found = c.args.found.now in
    let numbers = c.args.numbers.now in
    let stay : (k : Lock) → IsLockOf s t k → (l : Lock) → CarriedBack s t label k l ↔ (l ≡ k) =
    c.leaves_all.ensures c.if-leaves_all.true s t label c.of-change.ensures in
    on_ok_weaker c.insert_all.result (λ is. rw is (finds_as s a a found (with_numbers found numbers)
    (HasLock a.keys numbers) (CarriedOf s t label a.keys numbers)
    (all_carried s t label a.keys numbers (λ k h. stay k (c.requires.lawful k h)))
    (finds_numbers s a found numbers c.requires.finding c.requires.numbers))) c.insert_all.ensures
