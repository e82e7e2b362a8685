-- What is seen where a text is judged.
use Rattle.std.specs.Prelude.{◌≡◌}
use Rattle.sect_types.specs.declared.program.Context.{Context}
use Rattle.sect_types.specs.steps.Shown.{Shows}

-- the names are the tree's, and so are the procedures
pub record IsContext (c : Context) : Type 0 where
  pub shows : Shows c.shown.now c.tree.now
  pub procedures : c.called.now ≡ c.tree.now.procedures
