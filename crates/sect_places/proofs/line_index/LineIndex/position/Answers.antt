use Rattle.std.proofs.Common.{◌≤◌, ◌*◌, ◌/◌, ◌∙◌, ap, arith, length, refl}
use Rattle.sect_places.specs.{Positions.{position}, steps.Blocks.{block_bytes}}
use Rattle.sect_places.proofs.{Passing.{stands_at}, Blocks.{many, begins}}
use Rattle.sect_places.proofs.line_index.LineIndex.position.Goals as goal

pub index-requires : goal.index-requires
index-requires c =
    let inside = c.self.inside in
    omega (
      arith,
      inside.starts.ok.0,
      many inside.text.now inside.starts.items c.self.invariant,
      ap length c.self.view_is,
      c.requires,
    )

pub moved-requires-clause-from : goal.moved-requires-clause-from
moved-requires-clause-from c =
    let inside = c.self.inside in
    let within : c.args.at ≤ length inside.text.now = omega (arith, ap length c.self.view_is, c.requires) in
    stands_at inside.text.now (c.args.at / block_bytes * block_bytes) _ (omega (arith, within)) refl
    (c.index.ensures ∙ begins inside.text.now inside.starts.items c.args.at c.index.result.now within c.self.invariant)

pub returns : goal.returns
returns c =
    c.moved.ensures.is.is ∙ ap (position c.self.inside.text.now) c.moved.ensures.there
    ∙ ap (λ text. position text c.args.at) c.self.view_is
