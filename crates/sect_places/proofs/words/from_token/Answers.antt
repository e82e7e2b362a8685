use Rattle.std.proofs.Common.{◌+◌, subst, arith}
use Rattle.sect_places.specs.steps.Standing.{StandsFrom}
use Rattle.sect_places.proofs.Standing.{first_here, stands_more, places_count}
use Rattle.sect_places.proofs.words.from_token.Goals as goal

pub split_at-requires : goal.split_at-requires
split_at-requires c =
    let h = c.loop-passed.invariant in
    let first = first_here c.args.text.bytes.now c.args.tree.now h.0 c.loop-passed.here.now h.2
    (omega (
      arith,
      c.loop-passed-test.true,
      c.requires.within,
      h.1,
      places_count c.args.text.bytes.now c.args.tree.now h.2.spelled,
    )) in
    omega (arith, first.first.within, c.first_length.ensures first.p.token _ first.first)

pub loop-passed-preserved : goal.loop-passed-preserved
loop-passed-preserved c =
    let h = c.loop-passed.invariant in
    let first = first_here c.args.text.bytes.now c.args.tree.now h.0 c.loop-passed.here.now h.2
    (omega (
      arith,
      c.loop-passed-test.true,
      c.requires.within,
      h.1,
      places_count c.args.text.bytes.now c.args.tree.now h.2.spelled,
    )) in
    rw (c.after_gap-here.ensures, c.split_at.ensures.back) (
      h.0 + 1,
      omega (arith, h.1, c.loop-passed-test.true),
      stands_more c.args.text.bytes.now c.args.tree.now h.0 c.loop-passed.here.now h.2 first
          c.first_length.result (c.first_length.ensures first.p.token _ first.first),
    )

pub returns : goal.returns
returns c =
    let h = c.loop-passed.invariant in
    subst (λ n. StandsFrom c.args.text.bytes.now c.args.tree.now n c.loop-passed.here.now) (omega (arith, h.1)) h.2
