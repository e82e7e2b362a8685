use Rattle.std.proofs.Common.{◌≡◌, Ok, ap, ◌∙◌, subst}
use Rattle.std.specs.Prelude.{MatchResult, position}
use Rattle.sect_front.specs.declared.tree.GlobalObject.{GlobalObject}
use Rattle.sect_types.specs.Sight.{same_name}
use Rattle.sect_asking.specs.Meaning.{named, IsAnswer}
use Rattle.sect_asking.proofs.resolving.global_number.Goals as goal

pub returns : goal.returns
returns c =
    let word = c.args.word.now in
    subst (λ o. MatchResult c.number_at.result (λ n. named word o ≡ Ok n) (IsAnswer (named word o)))
    (c.place_of_global-place.ensures.place
    ∙ ap (position (λ (g : GlobalObject). same_name word.name g.name))
    (c.globals.ensures ∙ ap (λ t. t.globals) c.tree.ensures.tree)) c.number_at.ensures
