use Rattle.std.specs.List.{flat_map}
use Rattle.std.proofs.lemmas.Result.{IfOk-weaker}
use Rattle.sect_places.specs.declared.name_use.NameSpan.{NameSpan}
use Rattle.sect_lint.specs.Unused.{mentions, referent_of}
use Rattle.sect_lint.specs.steps.Spare.{is_spare}
use Rattle.sect_lint.proofs.Referring.{spare_tells, among_same}
use Rattle.sect_lint.proofs.unused.unused_names.Goals as goal

pub returns : goal.returns
returns c =
    let keys = c.in_ok-referents.referents.keys in
    let names = c.args.names.now in
    IfOk-weaker c.spare_names.result _ _
    (λ list h. (
      λ (n : NameSpan). is_spare keys (referent_of n),
      λ (n : NameSpan). (
        λ t. (among_same keys (flat_map mentions names) c.in_ok-referents.ensures (referent_of n)).0
            ((spare_tells keys (referent_of n)).0 t),
        λ none. (spare_tells keys (referent_of n)).1
            ((among_same keys (flat_map mentions names) c.in_ok-referents.ensures (referent_of n)).1 none),
      ),
      h,
    )) c.spare_names.ensures
