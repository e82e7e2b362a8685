use Rattle.std.proofs.lemmas.List.Folds.{length-prefix_len}
use Rattle.sect_front.proofs.Lexemes.{names_pass}
use Rattle.sect_front.proofs.lexer.word.Goals as goal

pub word_spelled-requires-clause-all : goal.word_spelled-requires-clause-all
word_spelled-requires-clause-all c = rw (c.word_length-length.ensures, length-prefix_len) (names_pass c.args.bytes.now)
