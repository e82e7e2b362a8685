use Rattle.std.proofs.Common.{◌≡◌, ◌↔◌, true, refl, subst}
use Rattle.sect_names.specs.{Locks.{CoveredBy}, Needed.{end_locks}}
use Rattle.sect_check.proofs.Generating.{covers_one, covers_none}
use Rattle.sect_check.proofs.lists.covers_generated.Goals as goal

pub returns-in-Some : goal.returns-in-Some
returns-in-Some c =
    let section = c.args.section in
    let s = section.scheme.now in
    let l = c.in-Some.lock in
    covers_one s section.thread (end_locks section.locking) section.flow.now c.args.node c.generated_at.result
    c.generated_at.ensures l c.in-Some.is c.args.claims.now c.is_covered.result
    (subst (λ list. (c.is_covered.result ≡ true) ↔ CoveredBy s list l) c.list_at.ensures c.is_covered.ensures)

pub returns-in-None : goal.returns-in-None
returns-in-None c =
    let section = c.args.section in (
      λ t. covers_none section.scheme.now section.thread (end_locks section.locking) section.flow.now c.args.node
          c.generated_at.result c.generated_at.ensures c.in-None.is c.args.claims.now,
      λ h. refl,
    )
