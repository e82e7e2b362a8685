use Rattle.std.proofs.Common.{◌≡◌, ◌||◌, refl, arith, subst, sym}
use Rattle.sect_lemmas.specs.Lists.{Has}
use Rattle.sect_lemmas.proofs.Membership.{Has-get_or}
use Rattle.sect_points.specs.steps.Marks.{grown}
use Rattle.sect_points.proofs.MarkLaws.{stretch_none, stretch_then, stretch_by, handled_more, handled_past, handled_all}
use Rattle.sect_points.proofs.{MarkLaws.{fits_after, there_after}, solving.pass.Goals.{then-turn, else-turn}}
use Rattle.sect_points.proofs.solving.pass.Goals as goal

pub loop-placed-init : goal.loop-placed-init
loop-placed-init c = record {
  each = λ p h r. c.of_growth-placed-items.ensures.each c.args.new.now.words p h r;
  only = c.of_growth-placed-items.ensures.only;
  stretch = stretch_none c.args.readers.now c.args.sets.now c.args.marks.now;
  handled = λ p h. absurd h;
}

pub is_untouched-requires-clause-fits : goal.is_untouched-requires-clause-fits
is_untouched-requires-clause-fits c =
    let l = c.loop-placed in
    let p = c.placed-item.result in
    let has : Has c.args.readers.now p =
    l.invariant.only p (subst (Has c.of_growth-placed-items.result.now) (sym c.placed-item.is)
    (Has-get_or c.of_growth-placed-items.result.now l.placed-index p (omega arith))) in
    fits_after c.args.readers.now p c.args.sets.now l.sets c.requires.fits l.invariant.stretch.places has

pub loop-placed-preserved-then-is_untouched : goal.loop-placed-preserved-then-is_untouched
loop-placed-preserved-then-is_untouched c =
    let l = c.loop-placed in
    record {
      each = l.invariant.each;
      only = l.invariant.only;
      stretch = l.invariant.stretch;
      handled = handled_past l.placed-index c.of_growth-placed-items.result.now c.placed-item.result c.args.growth
          c.args.new.now.words c.args.sets.now l.sets (omega arith) c.placed-item.is
          l.invariant.stretch.more (c.is_untouched.ensures c.if-is_untouched.true) l.invariant.handled;
    }

pub bases_of-bases-requires-clause-fits : goal.bases_of-bases-requires-clause-fits
bases_of-bases-requires-clause-fits c =
    let l = c.loop-placed in
    let p = c.placed-item.result in
    let has : Has c.args.readers.now p =
    l.invariant.only p (subst (Has c.of_growth-placed-items.result.now) (sym c.placed-item.is)
    (Has-get_or c.of_growth-placed-items.result.now l.placed-index p (omega arith))) in
    fits_after c.args.readers.now p c.args.sets.now l.sets c.requires.fits l.invariant.stretch.places has

pub bases_of-bases-requires-clause-there : goal.bases_of-bases-requires-clause-there
bases_of-bases-requires-clause-there c =
    there_after c.args.growth c.args.new.now.words c.args.sets.now c.loop-placed.sets
    c.loop-placed.invariant.stretch.more c.requires.there

pub turn-requires-clause-fits : goal.turn-requires-clause-fits
turn-requires-clause-fits c =
    let l = c.loop-placed in
    let p = c.placed-item.result in
    let has : Has c.args.readers.now p =
    l.invariant.only p (subst (Has c.of_growth-placed-items.result.now) (sym c.placed-item.is)
    (Has-get_or c.of_growth-placed-items.result.now l.placed-index p (omega arith))) in
    fits_after c.args.readers.now p c.args.sets.now l.sets c.requires.fits l.invariant.stretch.places has

pub loop-placed-preserved : goal.loop-placed-preserved
loop-placed-preserved c =
    let l = c.loop-placed in
    let p = c.placed-item.result in
    let list = c.args.readers.now in
    let g = grown c.args.growth c.args.new.now.words in
    let bases = c.bases_of-bases.result.words in
    let has : Has list p = l.invariant.only p
    (subst (Has c.of_growth-placed-items.result.now) (sym c.placed-item.is)
    (Has-get_or c.of_growth-placed-items.result.now l.placed-index p (omega arith))) in
    let grew : c.if-turn.grew ≡ (c.turn.result || l.grew) = elim c.if-turn.branch [
      | then-turn w ↦ rw (w.grew-is, w.if-turn.true) refl
      | else-turn w ↦ rw (w.grew-is, w.if-turn.false) refl
    ] in
    let fits = fits_after list p c.args.sets.now l.sets c.requires.fits l.invariant.stretch.places has in
    let one = stretch_by list p l.sets c.turn.new.sets bases l.marks c.turn.new.marks c.turn.result has fits
    c.bases_of-bases.ensures.bases c.turn.ensures in
    record {
      each = l.invariant.each;
      only = l.invariant.only;
      stretch = stretch_then list c.args.sets.now l.sets c.turn.new.sets c.args.marks.now l.marks c.turn.new.marks
          l.grew c.turn.result c.if-turn.grew l.invariant.stretch one grew;
      handled = handled_more l.placed-index c.of_growth-placed-items.result.now p g bases c.args.sets.now l.sets
          c.turn.new.sets l.marks c.turn.new.marks c.turn.result (omega arith) c.placed-item.is
          l.invariant.stretch.more c.bases_of-bases.ensures.covers c.turn.ensures l.invariant.handled;
    }

pub returns-clause-handled : goal.returns-clause-handled
returns-clause-handled c p has =
    let l = c.loop-placed in
    handled_all l.placed-index c.args.readers.now c.of_growth-placed-items.result.now
    (grown c.args.growth c.args.new.now.words) c.args.sets.now l.sets (omega arith) l.invariant.each
    l.invariant.handled p has
