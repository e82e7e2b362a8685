use Rattle.sect_warnings.proofs.laws.never_filled_locals_refer_to_nothing.Goals as goal

pub returns : goal.returns
returns c = λ m ok fuel trace s run t th at x never o e.
    let kept = c.states_are_well_kept.ensures.kept m ok fuel trace s run in
    let there = (kept.threads t th at).work.locals x o e in
    never there.0.site there.2
