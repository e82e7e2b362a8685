use Rattle.std.proofs.Common.{length, sym, ◌∙◌, ap, subst}
use Rattle.std.specs.Prelude.{take_while}
use Rattle.sect_front.specs.{Words.{is_name_byte}, Lexing.{IsFirst}}
use Rattle.sect_front.proofs.Lexemes.{told_count, word_count, sign_there}
use Rattle.sect_front.proofs.lexer.first_length.Goals as goal

pub returns-then-is_name_byte : goal.returns-then-is_name_byte
returns-then-is_name_byte c = λ t n f.
    c.word_length.ensures ∙ ap (λ b. length (take_while is_name_byte b)) c.in-Some.ensures.cases.0
    ∙ word_count c.in-Some.first.now c.in-Some.others.now t n (subst (IsFirst t n) c.in-Some.ensures.cases.0 f)
    (sym c.is_name_byte.ensures ∙ c.if-is_name_byte.true)

pub returns : goal.returns
returns c = λ t n f.
    told_count _ t c.sign.new.token c.sign.result n c.sign.ensures.some c.sign.ensures.none
    (sign_there c.in-Some.first.now c.in-Some.others.now t n (subst (IsFirst t n) c.in-Some.ensures.cases.0 f)
    (sym c.is_name_byte.ensures ∙ c.if-is_name_byte.false))
