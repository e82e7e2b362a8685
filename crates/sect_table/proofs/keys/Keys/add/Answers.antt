use Rattle.std.proofs.Common.{◌≡◌, ◌++◌, ◌∷◌, [], length, ap, subst, sym, ◌∙◌}
use Rattle.std.specs.Prelude.{if◌then◌else◌}
use Rattle.sect_table.specs.steps.Keys.{place_in}
use Rattle.sect_table.proofs.Numbers.{none_has}
use Rattle.sect_table.proofs.keys.Keys.add.Goals as goal

pub returns-clause-keys : goal.returns-clause-keys
returns-clause-keys c =
    let fresh : place_in c.args.key c.self.inside.set.keys ≡ length c.self.inside.set.keys =
    subst (λ z. place_in c.args.key z ≡ length z) (sym c.self.view_is) c.requires in
    c.in_ok-insert.ensures.keys
    ∙ (ap (λ b. if b then c.self.inside.set.keys else c.self.inside.set.keys ++ c.args.key ∷ [])
    (none_has c.args.key c.self.inside.set.keys fresh)
    ∙ ap (λ z. z ++ c.args.key ∷ []) c.self.view_is)
