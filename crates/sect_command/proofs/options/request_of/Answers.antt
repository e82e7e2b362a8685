-- Each subcommand makes its own request.
use Rattle.std.proofs.Common.{◌≡◌, ℕ, List, map, sym, subst}
use Rattle.std.specs.String.{string_bytes}
use Rattle.clap.specs.{Matches.{found_of}, declared.parser.matches.Found.{Found}}
use Rattle.sect_command.specs.{Asking.{IsMade}, declared.request.Request.{Request}}
use Rattle.sect_command.specs.declared.subcommand.Subcommand.{Subcommand}
use Rattle.sect_command.proofs.options.request_of.Goals.{in-Locks+in_ok-request-in-Locks}
use Rattle.sect_command.proofs.options.request_of.Goals.{in-Compile+in_ok-request-in-Compile, in-C+in_ok-request-in-C}
use Rattle.sect_command.proofs.options.request_of.Goals.{in-Explain+in_ok-request-in-Explain}
use Rattle.sect_command.proofs.options.request_of.Goals.{in-Conflicts+in_ok-request-in-Conflicts}
use Rattle.sect_command.proofs.options.request_of.Goals.{in-Inspect+in_ok-request-in-Inspect}
use Rattle.sect_command.proofs.options.request_of.Goals.{in-Graph+in_ok-request-in-Graph}
use Rattle.sect_command.proofs.options.request_of.Goals.{in-Serial+in_ok-request-in-Serial}
use Rattle.sect_command.proofs.options.request_of.Goals.{in-Outcomes+in_ok-request-in-Outcomes}
use Rattle.sect_command.proofs.options.request_of.Goals.{in-Schedule+in_ok-request-in-Schedule}
use Rattle.sect_command.proofs.options.request_of.Goals.{in-Run+in_ok-request-in-Run, in-Lint+in_ok-request-in-Lint}
use Rattle.sect_command.proofs.options.request_of.Goals.{in-Check+in_ok-request-in-Check}
use Rattle.sect_command.proofs.options.request_of.Goals as goal

made : (found : Found) {x y : Subcommand} {r q : Request} (behind : List (List ℕ)) → y ≡ x → q ≡ r
    → IsMade x found behind r → IsMade y found behind q
made found {x} {y} {r} {q} behind same is m =
    subst (λ z. IsMade z found behind q) (sym same) (subst (λ z. IsMade x found behind z) (sym is) m)

pub returns : goal.returns
returns c =
    let found = found_of c.args.options.now in
    let behind = map string_bytes c.args.untold.now in
    elim c.match-subcommand.branch [
      | in-Locks+in_ok-request-in-Locks w ↦ made found behind w.in-Locks.is w.request-is
          (w.in_ok-request-in-Locks.ensures behind)
      | in-Compile+in_ok-request-in-Compile w ↦ made found behind w.in-Compile.is w.request-is
          (w.in_ok-request-in-Compile.ensures behind)
      | in-C+in_ok-request-in-C w ↦ made found behind w.in-C.is w.request-is
          (w.in_ok-request-in-C.ensures behind)
      | in-Explain+in_ok-request-in-Explain w ↦ made found behind w.in-Explain.is w.request-is
          (w.in_ok-request-in-Explain.ensures behind)
      | in-Conflicts+in_ok-request-in-Conflicts w ↦ made found behind w.in-Conflicts.is w.request-is
          (w.in_ok-request-in-Conflicts.ensures behind)
      | in-Inspect+in_ok-request-in-Inspect w ↦ made found behind w.in-Inspect.is w.request-is
          (w.in_ok-request-in-Inspect.ensures behind)
      | in-Graph+in_ok-request-in-Graph w ↦ made found behind w.in-Graph.is w.request-is
          (w.in_ok-request-in-Graph.ensures behind)
      | in-Serial+in_ok-request-in-Serial w ↦ made found behind w.in-Serial.is w.request-is
          w.in_ok-request-in-Serial.ensures
      | in-Outcomes+in_ok-request-in-Outcomes w ↦ made found behind w.in-Outcomes.is w.request-is
          (w.in_ok-request-in-Outcomes.ensures behind)
      | in-Schedule+in_ok-request-in-Schedule w ↦ made found behind w.in-Schedule.is w.request-is
          w.in_ok-request-in-Schedule.ensures
      | in-Run+in_ok-request-in-Run w ↦ made found behind w.in-Run.is w.request-is
          (w.in_ok-request-in-Run.ensures behind)
      | in-Lint+in_ok-request-in-Lint w ↦ made found behind w.in-Lint.is w.request-is
          (w.in_ok-request-in-Lint.ensures behind)
      | in-Check+in_ok-request-in-Check w ↦ made found behind w.in-Check.is w.request-is
          (w.in_ok-request-in-Check.ensures behind)
    ]
