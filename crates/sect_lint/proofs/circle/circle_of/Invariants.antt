use Rattle.std.proofs.Common.{◌≡◌, ◌<◌, ◌∷◌, Some, List, length}
use Rattle.std.specs.Prelude.{slice_get}
use Rattle.sect_places.specs.declared.name_use.NameSpan.{NameSpan}
use Rattle.sect_lint.specs.Calls.{Leads}
use Rattle.sect_lint.proofs.circle.circle_of.Given as goal

abbrev pub invariant-loop-step : goal.invariant-loop-step
invariant-loop-step l = record {
  others : List NameSpan;
  are : l.calls.items ≡ l.link.call ∷ others;
  from : NameSpan;
  first : slice_get l.declared l.link.from ≡ Some from;
  to : NameSpan;
  last : slice_get l.declared l.at ≡ Some to;
  below : l.at < length l.declared;
  leads : Leads l.names from to l.calls.items;
}
