use Rattle.std.proofs.Common.{◌≤◌, ℕ, List, [], ◌∷◌, Bool, true, false, length, map, arith}
use Rattle.std.specs.Prelude.{nat_eq, if◌then◌else◌}
use Rattle.sect_places.specs.{declared.name_use.NameSpan.{NameSpan}, Spans.{AreProper}}
use Rattle.sect_names.specs.declared.lock.Effect.TheVariants.{Read}
use Rattle.sect_warnings.specs.Labels.{first_start}
use Rattle.sect_warnings.proofs.Losing.{in_sections}
use Rattle.sect_warnings.proofs.lost_mark.lost_text.Goals as goal

start_within : (total item : ℕ) (ns : List NameSpan) → AreProper total (map (λ n. n.span) ns)
    → first_start item ns ≤ total
start_within total item [] each = omega arith
start_within total item (n ∷ ns) each =
    go (nat_eq n.used.item item) (omega (arith, each.0.0, each.0.1)) (start_within total item ns each.1)
  where
    go : (b : Bool) → n.span.start ≤ total → first_start item ns ≤ total
        → (if b then n.span.start else first_start item ns) ≤ total
    go true here later = here
    go false here later = later

pub put_load-requires : goal.put_load-requires
put_load-requires c = in_sections Read c.args.accepted.compiled.now c.args.update.load c.requires.due.1

pub position_of-requires : goal.position_of-requires
position_of-requires c =
    let within = start_within (length c.args.accepted.source.now) c.args.update.load.item c.args.accepted.names.now
    c.requires.names in
    let is = c.first_start-at.ensures in omega (arith, within, is)
