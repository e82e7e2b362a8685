use Rattle.std.proofs.Common.{◌≡◌, take}
use Rattle.sect_editor.specs.Hovering.{sites_in}
use Rattle.sect_editor.proofs.objects.sites_in.Given as goal

-- those of the sites so far
abbrev pub invariant-loop-site : goal.invariant-loop-site
invariant-loop-site l = l.found.items ≡ sites_in l.classes.numbers l.class (take l.site-index l.sites)
