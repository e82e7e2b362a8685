use Rattle.std.proofs.Common.{◌≤◌, length, sym, subst}
use Rattle.sect_table.proofs.Numbers.{place_in-le}
use Rattle.sect_table.proofs.keys.Keys.number_of.Goals as goal

pub returns-in-Some-clause-within : goal.returns-in-Some-clause-within
returns-in-Some-clause-within c =
    subst (λ n. n ≤ length c.args.self.now) (sym c.in-Some.ensures) (place_in-le c.args.key c.args.self.now)
