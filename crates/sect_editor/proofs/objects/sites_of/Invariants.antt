use Rattle.std.proofs.Common.{◌<◌, length}
use Rattle.std.specs.{Prelude.{All}, List.{range_with_len}}
use Rattle.sect_conflicts.specs.Conflicts.{Selects}
use Rattle.sect_editor.specs.Hovering.{RefersTo}
use Rattle.sect_editor.proofs.objects.sites_of.Given as goal

-- the sites so far
abbrev pub invariant-loop-site : goal.invariant-loop-site
invariant-loop-site l = record {
  chosen : Selects (RefersTo l.records l.classes.sets l.referrer) (range_with_len 0 l.site) l.sites.items;
  below : All (λ s. s < length l.classes.numbers) l.sites.items;
}
