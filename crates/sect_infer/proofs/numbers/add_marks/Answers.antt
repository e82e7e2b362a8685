use Rattle.std.proofs.Common.{◌≤◌, ◌∙◌, ap, length, get_or, false}
use Rattle.sect_infer.proofs.Marking.{room_marks_nothing, grown_marks}
use Rattle.sect_infer.proofs.numbers.add_marks.Goals as goal

pub returns-clause-same : goal.returns-clause-same
returns-clause-same c = λ n.
    let old = c.args.marks.now in
    let short : length old.items ≤ c.args.number = c.requires in
    c.fill_room.ensures.same n
    ∙ ap (λ xs. get_or xs n false) c.in_ok-push.ensures.items ∙ room_marks_nothing c.resize.new.self.items 1 n
    ∙ grown_marks old.items c.resize.new.self.items c.args.number _ short c.in_ok-resize.ensures.items n

pub returns-in_err-push-clause-same : goal.returns-in_err-push-clause-same
returns-in_err-push-clause-same c = λ n.
    let old = c.args.marks.now in
    let short : length old.items ≤ c.args.number = c.requires in
    ap (λ xs. get_or xs n false) c.in_err-push.ensures.items
    ∙ grown_marks old.items c.resize.new.self.items c.args.number _ short c.in_ok-resize.ensures.items n
