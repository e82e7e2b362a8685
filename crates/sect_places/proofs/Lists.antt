-- How the tokens of a list of parts are made of those of each part.
use Rattle.std.proofs.Common.{ℕ, ◌*◌, List, ◌∷◌, length, refl, arith}
use Rattle.sect_front.specs.{Trees.{statement_of, block_of}, declared.tree.Statement.{Statement}}
use Rattle.sect_front.specs.{declared.tree.Declaration.{Declaration}, declared.tree.GlobalObject.{GlobalObject}}
use Rattle.sect_places.specs.declared.range.TokenRange.{TokenRange}
use Rattle.sect_places.specs.Ranges.{range, statement_ranges, block_ranges, declarations_ranges, record_ranges}
use Rattle.sect_places.specs.Ranges.{global_ranges, procedure_ranges, thread_ranges, records_ranges, globals_ranges}
use Rattle.sect_places.specs.Ranges.{procedures_ranges, threads_ranges}
use Rattle.sect_places.specs.Counts.{statement_count, block_count, record_count, procedure_count, thread_count}
use Rattle.sect_places.specs.Counts.{records_count, procedures_count, threads_count}
use Rattle.sect_places.proofs.Walked.{IsList}

abbrev pub count_of : Statement → ℕ
count_of s = statement_count (statement_of s)

abbrev pub total_of : List Statement → ℕ
total_of ss = block_count (block_of ss)

abbrev pub each_of : ℕ → Statement → List TokenRange → List TokenRange
each_of n s w = statement_ranges n (statement_of s) w

abbrev pub all_of : ℕ → List Statement → List TokenRange → List TokenRange
all_of n ss w = block_ranges n (block_of ss) w

pub statements : IsList count_of total_of each_of all_of
statements = record { none = refl; more = λ s ss. refl; nothing = λ n w. refl; step = λ n s ss w. refl }

abbrev pub three : Declaration → ℕ
three d = 3

abbrev pub threes : List Declaration → ℕ
threes ds = 3 * length ds

abbrev pub declaration_ranges : ℕ → Declaration → List TokenRange → List TokenRange
declaration_ranges n d w = range n 2 ∷ w

pub declarations : IsList three threes declaration_ranges declarations_ranges
declarations = record {
  none = refl;
  more = λ d ds. omega arith;
  nothing = λ n w. refl;
  step = λ n d ds w. refl;
}

abbrev pub four : GlobalObject → ℕ
four g = 4

abbrev pub fours : List GlobalObject → ℕ
fours gs = 4 * length gs

pub globals : IsList four fours global_ranges globals_ranges
globals = record {
  none = refl;
  more = λ g gs. omega arith;
  nothing = λ n w. refl;
  step = λ n g gs w. refl;
}

pub records : IsList record_count records_count record_ranges records_ranges
records = record { none = refl; more = λ r rs. refl; nothing = λ n w. refl; step = λ n r rs w. refl }

pub procedures : IsList procedure_count procedures_count procedure_ranges procedures_ranges
procedures = record { none = refl; more = λ p ps. refl; nothing = λ n w. refl; step = λ n p ps w. refl }

pub threads : IsList thread_count threads_count thread_ranges threads_ranges
threads = record { none = refl; more = λ t ts. refl; nothing = λ n w. refl; step = λ n t ts w. refl }
