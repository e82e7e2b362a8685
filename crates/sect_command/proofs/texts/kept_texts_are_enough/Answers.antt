use Rattle.std.proofs.Common.{arith, ◌<◌, ◌+◌, take, length, take_all, length-take-le, subst, sym}
use Rattle.sect_front.specs.Limits.{most_bytes}
use Rattle.sect_command.proofs.texts.kept_texts_are_enough.Goals as goal

pub returns-clause-whole : goal.returns-clause-whole
returns-clause-whole c bytes few = take_all (1 + most_bytes) bytes (omega arith)

pub returns-clause-large : goal.returns-clause-large
returns-clause-large c bytes many =
    subst (λ n. most_bytes < n) (sym (length-take-le (1 + most_bytes) bytes (omega arith))) (omega arith)
