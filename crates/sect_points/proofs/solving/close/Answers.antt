use Rattle.std.proofs.Common.{◌≡◌, arith, subst, sym, ap, ◌∙◌, length, get_or}
use Rattle.sect_lemmas.specs.Lists.{Has}
use Rattle.sect_lemmas.proofs.Membership.{Has-get_or}
use Rattle.sect_points.proofs.{MarkLaws.{fits_after}, RoundLaws.{starting_none, starting_past, starting_more}}
use Rattle.sect_points.proofs.RoundLaws.{started, arrived}
use Rattle.sect_points.proofs.solving.close.Goals as goal

pub loop-placed-init : goal.loop-placed-init
loop-placed-init c = record {
  items = c.all-placed-items.ensures;
  start = starting_none c.args.readers.now c.args.sets.now c.args.moved.now c.args.marks.now;
}

pub loop-placed-preserved-then-waits : goal.loop-placed-preserved-then-waits
loop-placed-preserved-then-waits c =
    let l = c.loop-placed in
    let p = c.placed-item.result in
    let list = c.args.readers.now in
    let is : p ≡ get_or list l.placed-index p =
    c.placed-item.is ∙ ap (λ xs. get_or xs l.placed-index p) l.invariant.items in
    record {
      items = l.invariant.items;
      start = starting_past l.placed-index list p c.args.sets.now l.sets c.args.moved.now c.args.marks.now l.marks
          (omega (arith, ap length l.invariant.items)) is c.requires.unmoved (c.waits.ensures c.if-waits.true)
          l.invariant.start;
    }

pub all_bases-bases-requires-clause-fits : goal.all_bases-bases-requires-clause-fits
all_bases-bases-requires-clause-fits c =
    let l = c.loop-placed in
    let p = c.placed-item.result in
    let items = c.all-placed-items.result.now in
    let has : Has c.args.readers.now p =
    subst (λ xs. Has xs p) l.invariant.items
    (subst (Has items) (sym c.placed-item.is) (Has-get_or items l.placed-index p (omega arith))) in
    fits_after c.args.readers.now p c.args.sets.now l.sets c.requires.fits l.invariant.start.stretch.1.places has

pub turn-requires-clause-fits : goal.turn-requires-clause-fits
turn-requires-clause-fits c =
    let l = c.loop-placed in
    let p = c.placed-item.result in
    let items = c.all-placed-items.result.now in
    let has : Has c.args.readers.now p =
    subst (λ xs. Has xs p) l.invariant.items
    (subst (Has items) (sym c.placed-item.is) (Has-get_or items l.placed-index p (omega arith))) in
    fits_after c.args.readers.now p c.args.sets.now l.sets c.requires.fits l.invariant.start.stretch.1.places has

pub loop-placed-preserved : goal.loop-placed-preserved
loop-placed-preserved c =
    let l = c.loop-placed in
    let p = c.placed-item.result in
    let items = c.all-placed-items.result.now in
    let list = c.args.readers.now in
    let is : p ≡ get_or list l.placed-index p =
    c.placed-item.is ∙ ap (λ xs. get_or xs l.placed-index p) l.invariant.items in
    record {
      items = l.invariant.items;
      start = starting_more l.placed-index list p c.all_bases-bases.result.words c.args.sets.now l.sets c.turn.new.sets
          c.args.moved.now c.args.marks.now l.marks c.turn.new.marks c.turn.result
          (omega (arith, ap length l.invariant.items)) is c.requires.fits c.requires.unmoved c.all_bases-bases.ensures
          c.turn.ensures l.invariant.start;
    }

pub loop-init : goal.loop-init
loop-init c =
    let l = c.loop-placed in
    let s = started l.placed-index c.args.readers.now c.args.sets.now l.sets c.args.moved.now c.args.marks.now l.marks
    (omega (arith, ap length l.invariant.items)) c.requires.empty c.requires.unmoved c.requires.same
    c.requires.suits l.invariant.start in
    record { going = s.0; left = s.1; places = l.invariant.start.stretch.1.places }

pub returns-clause-least : goal.returns-clause-least
returns-clause-least c = arrived c.args.readers.now c.round.new.sets c.round.new.moved c.round.new.marks
    c.round.ensures.going (c.round.ensures.still c.loop-test.false)
