use Rattle.std.proofs.Common.{map, sym, ap, subst}
use Rattle.std.specs.Map.Iter.{deref}
use Rattle.sect_lemmas.proofs.Membership.{Has-slice_get}
use Rattle.sect_names.specs.Printing.{AreNamed}
use Rattle.sect_emit.proofs.lines.SectionLocks.put_in_place.Goals as goal

pub list_of-requires-clause-named : goal.list_of-requires-clause-named
list_of-requires-clause-named c =
    let needed = map deref c.in_ok-needed.needed.items in
    subst (AreNamed c.args.self.program.now) (ap (map deref) (sym c.as_slice-3.ensures.value))
    (c.requires.names needed (Has-slice_get c.args.self.locks.now.at c.args.node needed c.in_ok-needed.ensures))
