use Rattle.std.proofs.Common.{arith, ◌≡◌, ◌-◌, sym, ◌∙◌, option_copied, length, take, slice_get, Some, suc}
use Rattle.sect_serial.specs.steps.Rests.{rest_of}
use Rattle.sect_serial.proofs.RestLemmas.{rest_last, full_last, begins_joined}
use Rattle.sect_serial.proofs.rest.Rest.first.Goals as goal

pub returns-in-Some : goal.returns-in-Some
returns-in-Some c =
    let ks = c.self.inside.parts.items in
    let n = length ks - 1 in
    let k = c.in-Some.part.now in
    let got : slice_get ks n ≡ Some k = grind (arith, c.in-Some.is, c.last.ensures.value, c.deref.ensures.value) in
    let long : length ks ≡ suc n = grind (arith, c.in-Some.is, c.last.ensures.value, c.deref.ensures.value) in
    let whole : c.args.self.now ≡ _ = sym c.self.view_is ∙ rest_last ks n k long got in
    rw whole (begins_joined (option_copied c.first.result) k (rest_of (take n ks))
    (full_last ks n k c.self.invariant got) c.first.ensures)
