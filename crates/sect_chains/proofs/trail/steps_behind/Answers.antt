use Rattle.std.proofs.{Common.{◌<◌, None, get_or, arith}, lemmas.Option.{slice_get-get_or}}
use Rattle.sect_chains.specs.declared.keep.KeptLink.{KeptLink}
use Rattle.sect_chains.proofs.trail.steps_behind.Goals.{In-Some}
use Rattle.sect_chains.proofs.trail.steps_behind.Goals as goal

-- the next step stands before this one
earlier : (c : In-Some) → c.in-Some.next < c.loop-at.at
earlier c =
    let steps = c.args.steps.now in
    let i = c.loop-at.at in
    let none : KeptLink = record { node = 0; number = 0; next = None } in
    c.requires.back i c.in-Some.next (get_or steps i none)
    (slice_get-get_or steps i none c.loop-at.invariant.there) c.in-Some.is

pub loop-at-preserved : goal.loop-at-preserved
loop-at-preserved c =
    let less = earlier c in
    record {
      there = omega (arith, less, c.loop-at.invariant.there);
      few = omega (arith, less, c.loop-at.invariant.few);
    }

pub loop-at-smaller : goal.loop-at-smaller
loop-at-smaller c = earlier c
