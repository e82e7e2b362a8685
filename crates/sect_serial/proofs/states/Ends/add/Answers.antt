use Rattle.std.proofs.Common.{◌++◌, ◌∷◌, [], ap, ◌∙◌}
use Rattle.indexmap.proofs.CallerLemmas.{insert_entry-new}
use Rattle.sect_lemmas.proofs.Options.{not_some}
use Rattle.sect_serial.specs.Comparing.{end_eq}
use Rattle.sect_serial.specs.steps.States.{has_end}
use Rattle.sect_serial.proofs.states.Ends.add.Goals as goal

pub returns : goal.returns
returns c =
    c.in_ok-insert.ensures.entries
    ∙ insert_entry-new end_eq c.self.inside.map c.args.end c.args.order
    (not_some _ (ap (λ all. has_end all c.args.end) c.self.view_is ∙ c.requires))
    ∙ ap (λ all. all ++ (c.args.end, c.args.order) ∷ []) c.self.view_is
