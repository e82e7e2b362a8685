use Rattle.std.proofs.Common.{◌≡◌, Bool, true, false, ◌&&◌, not, Option, Some, None, refl, sym, ◌∙◌, ap}
use Rattle.std.specs.Prelude.{is_some, is_none}
use Rattle.sect_front.specs.declared.token.Token.{Token}
use Rattle.sect_front.specs.steps.Recognition.{keyword_of}
use Rattle.sect_front.proofs.Spellings.{named_spelling}
use Rattle.sect_front.proofs.words.spells_name.Goals as goal

there_or_not : (o : Option Token) (b : Bool) → is_some o ≡ not b → b ≡ is_none o
there_or_not None true e = refl
there_or_not None false e = cc
there_or_not (Some t) true e = cc
there_or_not (Some t) false e = refl

pub returns-then-begins_letter : goal.returns-then-begins_letter
returns-then-begins_letter c = λ t s.
    let word = c.args.bytes.now in
    there_or_not c.keyword.result c.is_none.result c.is_none.ensures ∙ ap is_none c.keyword.ensures
    ∙ ap (λ b. b && is_none (keyword_of word)) (sym (sym c.begins_letter.ensures ∙ c.if-begins_letter.true))
    ∙ named_spelling word t s
