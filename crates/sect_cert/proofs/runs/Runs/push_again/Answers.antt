use Rattle.std.proofs.Common.{◌≡◌, length, arith}
use Rattle.sect_cert.proofs.RunsLemmas.{run_again}
use Rattle.sect_cert.proofs.runs.Runs.push_again.Goals as goal

pub returns-clause-ok : goal.returns-clause-ok
returns-clause-ok g c = λ last at.
    let count : c.len.result ≡ length c.self.inside.numbers.items =
    omega (arith, c.len.ensures, c.self.inside.numbers.ok.0) in
    rw c.in_ok-push.ensures.items
    (run_again c.self.inside.kept.items c.args.self.now c.self.inside.numbers.items c.len.result
    c.index-number.result.now last c.self.view_is c.self.invariant c.requires count c.index-number.ensures at)
