use Rattle.std.proofs.Common.{◌*◌, ◌∙◌, sym, ap, length, subst}
use Rattle.sect_points.specs.{declared.marks.TheConstants.{LOCAL_ROWS}, Flow.{IsLeastFlow}, Sets.{InSets}}
use Rattle.sect_points.specs.steps.Solving.{AllFit}
use Rattle.sect_points.proofs.StatementLaws.{all_fit, same_places, few_rows, all_markable}
use Rattle.sect_points.proofs.points.fill_by.Goals as goal

pub close-requires-clause-fits : goal.close-requires-clause-fits
close-requires-clause-fits c =
    subst (AllFit c.args.sets.now) (sym c.requires.readers)
    (all_fit c.args.program.now c.args.sets.now c.requires.room c.facts.ensures.sound c.facts.ensures.sites
    c.facts.ensures.limits)

pub close-requires-clause-same : goal.close-requires-clause-same
close-requires-clause-same c =
    same_places c.args.program.now c.args.sets.now c.args.moved.now c.requires.room c.requires.other
    c.bounds.ensures.rows c.bounds-2.ensures.rows

pub close-requires-clause-few : goal.close-requires-clause-few
close-requires-clause-few c = few_rows c.args.program.now c.args.sets.now c.requires.room c.facts.ensures.limits

pub close-requires-clause-suits : goal.close-requires-clause-suits
close-requires-clause-suits c =
    all_markable c.args.program.now c.args.sets.now c.in_ok-marks.marks c.requires.room c.facts.ensures.limits
    c.bounds.ensures.few c.bounds.ensures.rows
    (c.in_ok-marks.ensures.locals ∙ ap (λ xs. length xs * LOCAL_ROWS) c.locals.ensures) c.in_ok-marks.ensures.fields

pub returns-clause-least : goal.returns-clause-least
returns-clause-least c =
    subst (IsLeastFlow (InSets c.close.new.sets)) c.requires.readers c.close.ensures.least
