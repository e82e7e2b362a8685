use Rattle.std.proofs.Common.{arith, refl}
use Rattle.sect_places.proofs.Seeking.{global_found, global_behind}
use Rattle.sect_places.proofs.seek.seek_globals.Goals as goal

pub returns-then-ahead-count-clause-found : goal.returns-then-ahead-count-clause-found
returns-then-ahead-count-clause-found c =
    global_found c.args.ahead.at c.args.globals.now c.args.ahead.items (omega (arith, c.if-ahead-count.true))

pub returns-clause-behind : goal.returns-clause-behind
returns-clause-behind c =
    global_behind c.args.ahead.at c.args.globals.now c.args.ahead.items _ (omega (arith, c.if-ahead-count.false)) refl
