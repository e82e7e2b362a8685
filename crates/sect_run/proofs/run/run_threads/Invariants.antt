-- The run is named by the program and the fuel that were handed in.
use Rattle.std.proofs.Common.{Some}
use Rattle.sect_run.specs.steps.Shares.{threads_in}
use Rattle.sect_run.proofs.run.run_threads.Given as goal

abbrev pub ghosts-run_named : goal.ghosts-run_named
ghosts-run_named g a = record { compiled = Some a.compiled.now; fuel = a.fuel; threads = threads_in a.compiled.now }
