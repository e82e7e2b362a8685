use Rattle.std.proofs.Common.{◌≡◌, drop}
use Rattle.serde_json.specs.View.{items_view}
use Rattle.sect_lsp.specs.Changes.{after_changes}
use Rattle.sect_lsp.proofs.change.after_changes.Given as goal

-- what is left leads on from here
abbrev pub invariant-loop-change : goal.invariant-loop-change
invariant-loop-change l =
    after_changes l.encoding l.text (items_view l.changes)
    ≡ after_changes l.encoding l.now.items (items_view (drop l.change-index l.changes))
