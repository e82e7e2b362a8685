use Rattle.std.proofs.Common.{arith, refl}
use Rattle.sect_places.proofs.Seeking.{declared_found, declared_behind}
use Rattle.sect_places.proofs.seek.seek_declarations.Goals as goal

pub returns-then-ahead-count-clause-found : goal.returns-then-ahead-count-clause-found
returns-then-ahead-count-clause-found c =
    declared_found c.args.ahead.at c.args.list.now c.args.ahead.items (omega (arith, c.if-ahead-count.true))

pub returns-clause-behind : goal.returns-clause-behind
returns-clause-behind c =
    declared_behind c.args.ahead.at c.args.list.now c.args.ahead.items _ (omega (arith, c.if-ahead-count.false)) refl
