use Rattle.std.proofs.Common.{◌++◌, ◌∙◌, sym, ap, arith}
use Rattle.std.proofs.lemmas.List.{append-nil}
use Rattle.sect_command.proofs.Said.{turns_done}
use Rattle.sect_command.proofs.turns.repeated.Goals as goal

pub returns : goal.returns
returns c =
    let made = c.loop-place.turns.items in
    let none = turns_done c.args.counts.now c.args.threads.now c.loop-place.place
    (λ lt less. omega (arith, lt, less, c.loop-place-test.false, c.min-place-end.ensures)) in
    sym (append-nil made) ∙ (ap (λ ts. made ++ ts) (sym none) ∙ c.loop-place.invariant.added)
