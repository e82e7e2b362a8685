use Rattle.std.proofs.Common.{◌≡◌, ◌<◌, ◌∙◌, Some, None, length, ap, sym, subst, arith}
use Rattle.std.proofs.lemmas.List.{get_or_default}
use Rattle.std.specs.Prelude.{slice_get, slice_index_or}
use Rattle.sect_infer.specs.Numberings.{NumberingView, ClassIs}
use Rattle.sect_infer.proofs.Telling.{as_long, as_long_step, told_first, told_step, told_done}
use Rattle.sect_infer.proofs.numbering.Numbering.tell_below.Goals as goal

pub lock-requires : goal.lock-requires
lock-requires c =
    omega (arith, c.loop-other-test.true, c.len-other-end.ensures, ap length c.loop-other.invariant.long.keys)

pub index-requires : goal.index-requires
index-requires c = omega (
  arith,
  c.loop-other-test.true,
  c.len-other-end.ensures,
  c.self.inside.classes.ok.0,
  ap (λ (v : NumberingView). length v.classes) c.self.view_is,
  ap length c.loop-other.invariant.long.classes,
  c.requires.classes,
)

pub tell_if-requires : goal.tell_if-requires
tell_if-requires c =
    omega (arith, c.loop-other-test.true, c.len-other-end.ensures, c.loop-other.invariant.long.count, c.requires.count)

pub loop-other-init : goal.loop-other-init
loop-other-init c = record {
  long = as_long c.args.self.now;
  told = λ s broad classed. told_first s c.args.self.now c.args.big.now c.args.number;
}

pub loop-other-preserved : goal.loop-other-preserved
loop-other-preserved c =
    let t = c.args.self.now in
    let mid = c.loop-other.self in
    let i = c.loop-other.other in
    let l = c.lock.result.now in
    let its = c.index.result.now in
    let long = c.loop-other.invariant.long in
    let at : slice_get t.keys i ≡ Some l = ap (λ ks. slice_get ks i) (sym long.keys) ∙ c.lock.ensures in
    let is : c.self.inside.classes.items ≡ t.classes =
    ap (λ (v : NumberingView). v.classes) c.self.view_is ∙ long.classes in
    let within : i < length t.classes =
    omega (arith, c.loop-other-test.true, c.len-other-end.ensures, c.requires.classes) in
    let class : its ≡ slice_index_or t.classes i None =
    c.index.ensures ∙ ap (λ cs. slice_index_or cs i its) is ∙ get_or_default t.classes i its None within in
    record {
      long = as_long_step t mid c.tell_if.new.self i c.args.number c.is_over-tells.result long
          c.in_ok-tell_if.ensures.told c.in_ok-tell_if.ensures.same;
      told = λ s broad classed. told_step s t c.args.big.now c.args.number mid c.tell_if.new.self i l
          c.is_over-tells.result c.requires.count long at
          (c.is_over-tells.ensures s broad (subst (ClassIs s l) (sym class) (classed i l at)))
          c.in_ok-tell_if.ensures.told c.in_ok-tell_if.ensures.same (c.loop-other.invariant.told s broad classed);
    }

pub returns : goal.returns
returns c = λ s broad classed.
    let t = c.args.self.now in
    told_done s t c.args.big.now c.args.number c.loop-other.self c.loop-other.other
    (omega (arith, c.loop-other-test.false, c.len-other-end.ensures)) c.loop-other.invariant.long
    (c.loop-other.invariant.told s broad classed)
