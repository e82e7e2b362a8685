use Rattle.std.proofs.Common.{◌≡◌, ◌++◌, length}
use Rattle.std.specs.List.{list_all}
use Rattle.sect_front.specs.Words.{is_name}
use Rattle.sect_cert.proofs.subject.path_of.Given as goal

abbrev pub invariant-loop-piece : goal.invariant-loop-piece
invariant-loop-piece l = record {
  so_far : l.fields.items ++ l.others ≡ l.initial.others;
  good : list_all is_name l.initial.others ≡ list_all is_name l.others;
}

abbrev pub decreases-loop-piece : goal.decreases-loop-piece
decreases-loop-piece l = length l.others
