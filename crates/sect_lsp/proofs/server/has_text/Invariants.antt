use Rattle.std.proofs.Common.{◌≡◌, drop}
use Rattle.serde_json.specs.View.{items_view}
use Rattle.sect_lsp.specs.Server.{has_text}
use Rattle.sect_lsp.proofs.server.has_text.Given as goal

-- no value so far is the text
abbrev pub invariant-loop-value : goal.invariant-loop-value
invariant-loop-value l =
    has_text l.text (items_view l.values) ≡ has_text l.text (items_view (drop l.value-index l.values))
