use Rattle.std.proofs.Common.{◌≡◌, [], ap, ◌∙◌}
use Rattle.std.specs.Prelude.{slice_index_or, ◌||◌}
use Rattle.sect_infer.specs.{Numbers.{has_number}, Numberings.{is_under}}
use Rattle.sect_infer.proofs.{Passing.{put_new, put_old}, work.put_own.Goals.{After-is_told}}
use Rattle.sect_infer.proofs.work.put_own.Goals as goal

-- whether the numbers of the node told of it
told : (c : After-is_told)
    → c.is_told.result ≡ has_number (slice_index_or c.args.solution.now.lists c.args.node []) c.in_ok-number.number
    || is_under c.number_taken.new.self.above (slice_index_or c.args.solution.now.lists c.args.node [])
    c.in_ok-number.number
told c = c.is_told.ensures
    ∙ ap (λ ns. has_number ns c.in_ok-number.number || is_under c.number_taken.new.self.above ns c.in_ok-number.number)
    c.of.ensures

pub returns-in_ok-extend : goal.returns-in_ok-extend
returns-in_ok-extend c =
    put_new c.args.scheme.now c.args.solution.now.numbering c.number_taken.new.self c.args.solution.now.lists
    c.args.node c.in_ok-number.number c.args.lock c.in_ok-number.ensures c.is_told.result
    (told (goal.at.returns-in_ok-extend c).After-is_told) c.extend.new.self c.in_ok-extend.ensures
    c.if-not-is_told.true

pub returns-else-not-is_told : goal.returns-else-not-is_told
returns-else-not-is_told c =
    put_old c.args.scheme.now c.args.solution.now.numbering c.number_taken.new.self c.args.solution.now.lists
    c.args.node c.in_ok-number.number c.args.lock c.in_ok-number.ensures c.is_told.result
    (told (goal.at.returns-else-not-is_told c).After-is_told) c.if-not-is_told.false c.requires.node
