use Rattle.std.proofs.Common.{◌≡◌, length, sym, subst}
use Rattle.std.specs.Prelude.{All}
use Rattle.sect_places.specs.NameSpans.{AreNameSpans}
use Rattle.sect_warnings.specs.{Warnings.{IsDue}, Reports.{ArePlaced, AreWithin}, Spares.{AreSpares}}
use Rattle.sect_warnings.proofs.{Parting.{all_due}, Sparing.{with_spares}}
use Rattle.sect_warnings.proofs.format.all_warnings.Goals as goal

pub places_of-requires-clause-due : goal.places_of-requires-clause-due
places_of-requires-clause-due c =
    let v = c.args.compiled.now in
    let ws = c.in_ok-found.found.items in
    subst (All (IsDue v)) (sym c.as_slice-2.ensures.value) (all_due v ws c.in_ok-found.ensures.due)

pub returns-clause-placed : goal.returns-clause-placed
returns-clause-placed c =
    let v = c.args.compiled.now in
    let source = c.args.source.now in
    let ws = c.in_ok-found.found.items in
    let ps = c.in_ok-placed.placed.items in
    let names = c.in_ok-names.names.items in
    let spares = c.in_ok-spares.spares.items in
    let tree : c.tree.result.now ≡ v.scheme.program.source =
    rw (c.program.ensures, c.scheme.ensures) at c.tree.ensures.tree in
    let placed : ArePlaced source names v ws ps =
    subst (λ l. ArePlaced source names v l ps) c.as_slice-2.ensures.value
    (subst (λ l. ArePlaced source l v c.as_slice-2.result.now ps) c.as_slice.ensures.value
    c.in_ok-placed.ensures.placed) in
    let spare : AreSpares v.scheme names spares =
    rw (c.scheme-2.ensures, c.as_slice-3.ensures.value) at c.in_ok-spares.ensures in (
      ws,
      ps,
      names,
      spares,
      c.in_ok-found.ensures.due,
      placed,
      subst (λ t. AreNameSpans source t names) tree c.in_ok-names.ensures,
      spare,
      c.in_ok-append.ensures.items,
    )

pub returns-clause-within : goal.returns-clause-within
returns-clause-within c =
    let v = c.args.compiled.now in
    let total = length c.args.source.now in
    let ps = c.in_ok-placed.placed.items in
    let names = c.in_ok-names.names.items in
    let spares = c.in_ok-spares.spares.items in
    let spare : AreSpares v.scheme names spares =
    rw (c.scheme-2.ensures, c.as_slice-3.ensures.value) at c.in_ok-spares.ensures in
    subst (AreWithin total) (sym c.in_ok-append.ensures.items)
    (with_spares total v.scheme names ps spares c.in_ok-names.ensures.proper spare c.in_ok-placed.ensures.within)
