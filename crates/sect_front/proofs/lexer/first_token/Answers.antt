use Rattle.std.proofs.Common.{◌∙◌}
use Rattle.sect_front.proofs.Lexemes.{lexeme_only, given_first}
use Rattle.sect_front.proofs.lexer.first_token.Goals as goal

pub returns-clause-each : goal.returns-clause-each
returns-clause-each c = λ t n f. c.lexeme.ensures ∙ lexeme_only c.args.bytes.now t n f

pub returns-clause-first : goal.returns-clause-first
returns-clause-first c = given_first c.args.bytes.now c.lexeme.result c.lexeme.ensures
