use Rattle.std.proofs.Common.{◌∙◌, sym, arith}
use Rattle.sect_serial.proofs.StateLemmas.{too_many}
use Rattle.sect_serial.proofs.exploring.Search.keep.Goals as goal

pub returns-then-len-self : goal.returns-then-len-self
returns-then-len-self c =
    let s = c.args.self.now in
    let full = c.if-len-self.true in
    let long = c.len.ensures in
    too_many s.program.now s.fuel s.most c.args.states.now c.args.run c.args.order c.requires.states c.requires.leads
    (sym c.has.ensures ∙ c.if-has.false) (omega (arith, full, long))
