use Rattle.std.proofs.Common.{◌≡◌, ◌↔◌, ◌+◌, ◌-◌, [], List, arith, subst, sym, refl}
use Rattle.std.specs.Prelude.{IfSome}
use Rattle.sect_lemmas.specs.Lists.{Has}
use Rattle.sect_names.specs.declared.lock.Lock.{Lock}
use Rattle.sect_check.proofs.shared.Repeating.{same_at}
use Rattle.sect_check.proofs.lists.next_set.Goals as goal

pub returns-then-is_one : goal.returns-then-is_one
returns-then-is_one c =
    let before : c.args.node ≡ (c.args.node - 1) + 1 = omega arith in
    subst (λ (list : List Lock). IfSome c.args.set (λ some. (l : Lock) → Has some.keys l ↔ Has list l))
    (sym (same_at c.args.claims.now.nodes c.args.node (c.args.node - 1) [] (c.if-is_one.ensures refl)))
    (c.requires.before (c.args.node - 1) before)
