-- The diagnostics of a text.
use Rattle.std.specs.Prelude.{◌⊎◌, ℕ, List}
use Rattle.serde_json.specs.Data.{Data}
use Rattle.sect_emit.specs.Compiled.{CompiledView, IsCompiledFrom}
use Rattle.sect_editor.specs.{Mistaken.{IsMistake}, Warned.{AreWarningsOf}}
use Rattle.sect_editor.specs.declared.position.Encoding.{Encoding}

-- the diagnostics of a text are those of `lint`: the mistake for which it is refused, or the warnings of what it is
-- compiled to
unfoldable pub AreDiagnostics : Encoding → ℕ → List ℕ → List ℕ → Data → Type 0
AreDiagnostics encoding k uri source value =
    IsMistake encoding uri source k value
    ⊎ ((c : CompiledView) × IsCompiledFrom source k c × AreWarningsOf source c value)
