use Rattle.std.proofs.Common.{◌∙◌, sym, inl, inr}
use Rattle.sect_points.proofs.PlaceLaws.{stands}
use Rattle.sect_points.proofs.rows.Rows.has_more.Goals as goal

pub returns-in-Nothing : goal.returns-in-Nothing
returns-in-Nothing c _ a b h i =
    let s = stands c.args.self.now c.self.inside.sets.items c.self.inside.places.items c.args.row _ c.place_of.result
    c.self.view_is c.self.invariant c.place_of.ensures in
    elim c.in-Nothing.is [
      | inl nothing ↦ absurd (s.none nothing a h)
      | inr (site, alone) ↦ (s.alone site alone a).0 h ∙ sym ((s.alone site alone b).0 i)
    ]
