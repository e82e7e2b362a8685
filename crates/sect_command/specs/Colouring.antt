-- Whether an answer is painted, and how.
use Rattle.std.specs.Prelude.{ℕ, ◌&&◌, not, nat_eq, Bool, true, false, List, Option, Some, None, codes, length}
use Rattle.std.specs.Str.{bytes_eq}
use Rattle.sect_paint.specs.{declared.looks.Kind.{Kind}, Painting.{painted_text}}
use Rattle.sect_answers.specs.declared.format.Format.TheVariants as format
use Rattle.sect_answers.specs.declared.verbose.Verbose.TheVariants as verbose
use Rattle.sect_lint.specs.declared.format.LintFormat.TheVariants as lint_format
use Rattle.sect_command.specs.declared.{colours.Colour.{Colour}, colours.Screen.{Screen}, request.Request.{Request}}
use Rattle.sect_command.specs.declared.request.PlacedRun.{PlacedRun}
use Rattle.sect_command.specs.declared.request.PlacedRun.TheVariants as placed
use Rattle.sect_command.specs.declared.colours.Colour.TheVariants.{Auto, Always, Never}
use Rattle.sect_command.specs.declared.request.Request.TheVariants.{Chart, Conflicts, Explain, Lint, Placed, Verbose}
use Rattle.sect_paint.specs.declared.looks.Kind.TheVariants as kind

-- standard output shows colours: it is a terminal, NO_COLOR is empty, and TERM isn't `dumb`
abbrev pub shows_colours : Bool → List ℕ → List ℕ → Bool
shows_colours is_terminal no_color term =
    is_terminal && (nat_eq (length no_color) 0 && not (bytes_eq term (codes "dumb")))

-- an answer is painted on this screen
abbrev pub is_painted : Colour → Screen → Bool
is_painted Auto screen = screen.colours
is_painted Always screen = true
is_painted Never screen = false

-- of runs with places the chart is painted
abbrev pub placed_kind : PlacedRun → Option Kind
placed_kind (placed.Chart schedule) = Some kind.Chart
placed_kind of = None

-- what the answer to a request is to the painter; those that aren't read by people aren't painted
abbrev pub kind_of : Request → Option Kind
kind_of (Lint k lint_format.Text rulings) = Some kind.Report
kind_of (Explain k format.Text) = Some kind.Explanation
kind_of (Conflicts k format.Text) = Some kind.Conflicts
kind_of (Verbose k verbose.Conflicts) = Some kind.Conflicts
kind_of (Chart k fuel schedule) = Some kind.Chart
kind_of (Placed p) = placed_kind p.of
kind_of request = None

-- an answer as it is painted, or as it is
abbrev pub shown_as : Bool → Option Kind → List ℕ → List ℕ
shown_as true (Some kind) text = painted_text kind text
shown_as true None text = text
shown_as false kind text = text
