use Rattle.std.proofs.{Common.{◌-◌, length, arith, refl, ap}, lemmas.List.Elements.{All-push}}
use Rattle.sect_front.specs.LongGaps.{IsGap}
use Rattle.sect_front.proofs.shared.{Lexings.{gap_fits}, Rests.{rest_fits, gap_here}}
use Rattle.sect_front.proofs.gaps.keep.Goals as goal

pub overflow_sub-end : goal.overflow_sub-end
overflow_sub-end c = omega (
  arith,
  ap length c.requires.after,
  gap_fits c.args.here.now,
  rest_fits c.args.bytes.now c.args.here.now c.requires.rest,
)

pub overflow_sub-end-2 : goal.overflow_sub-end-2
overflow_sub-end-2 c = omega (arith, ap length c.requires.after, gap_fits c.args.here.now)

pub returns-in_ok-push : goal.returns-in_ok-push
returns-in_ok-push c =
    let bytes = c.args.bytes.now in
    rw c.in_ok-push.ensures.items
    (All-push (IsGap bytes) c.args.gaps.now.items _ c.requires.gaps
    (gap_here bytes c.args.here.now c.requires.rest _ refl (ap (λ n. length bytes - n) (ap length c.requires.after))))
