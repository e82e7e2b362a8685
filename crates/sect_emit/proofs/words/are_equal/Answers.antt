use Rattle.std.proofs.Common.{sym, ◌∙◌}
use Rattle.sect_names.proofs.shared.Telling.{lock_tells}
use Rattle.sect_emit.proofs.words.are_equal.Goals as goal

pub returns : goal.returns
returns c = λ t. (lock_tells c.args.one.now c.args.other.now).0 (sym c.eq.ensures ∙ t)
