use Rattle.std.proofs.{Common.{◌≡◌, [], ◌++◌, sym, ap, ◌∙◌}, lemmas.Option.{get_or_from_slice_get}}
use Rattle.std.specs.List.{flat_map}
use Rattle.sect_conflicts.specs.Conflicts.{set_at}
use Rattle.sect_warnings.specs.Warnings.{class_at}
use Rattle.sect_warnings.proofs.Judging.{adds_classes}
use Rattle.sect_warnings.proofs.judge.add_classes.Goals as goal

pub returns : goal.returns
returns c =
    let v = c.args.compiled.now in
    let set : set_at v c.args.section ≡ c.set.result.now =
    get_or_from_slice_get v.sets c.args.section c.set.result.now [] c.set.ensures in
    adds_classes v c.args.section c.args.item c.args.found.now.items c.put_classes.new.found.items
    (c.in_ok-put_classes.ensures
    ∙ ap (λ ls. c.args.found.now.items ++ flat_map (class_at c.args.section c.args.item) ls) (sym set))
