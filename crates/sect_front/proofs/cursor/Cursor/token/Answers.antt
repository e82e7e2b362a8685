use Rattle.std.proofs.Common.{◌≡◌, ◌-◌, None, length, refl, subst, arith}
use Rattle.sect_front.specs.steps.{Lexeme.{lexeme_of}, Passing.{StandsBefore}}
use Rattle.std.proofs.lemmas.Bool.Decides.{nat_tests}
use Rattle.sect_front.proofs.{Lexemes.{lexeme_first}, Stopping.{bare}}
use Rattle.sect_front.proofs.cursor.Cursor.token.Goals as goal

pub returns-then-length-eq0-clause-none : goal.returns-then-length-eq0-clause-none
returns-then-length-eq0-clause-none c =
    let same : c.self.inside.here.now ≡ c.args.self.now.here = grind arith in
    bare c.args.self.now.here (subst (λ x. lexeme_of x ≡ None) same
    (c.put_lexeme-length.ensures.none (grind (arith, nat_tests))))

pub behind-requires : goal.behind-requires
behind-requires c = (lexeme_first c.self.inside.here.now _ c.put_lexeme-length.result
    (c.put_lexeme-length.ensures.some (grind (arith, nat_tests)))).within

pub overflow_sub-result : goal.overflow_sub-result
overflow_sub-result c = (lexeme_first c.self.inside.here.now _ c.put_lexeme-length.result
    (c.put_lexeme-length.ensures.some (grind (arith, nat_tests)))).within

pub returns-clause-some : goal.returns-clause-some
returns-clause-some c =
    let same : c.self.inside.here.now ≡ c.args.self.now.here = grind arith in
    subst (λ x. StandsBefore x c.put_lexeme-length.new.token c.behind.result.now (length c.self.inside.here.now
    - c.put_lexeme-length.result)) same (record {
      stands = record {
        count = c.put_lexeme-length.result;
        lexed = c.put_lexeme-length.ensures.some (grind (arith, nat_tests));
        behind = c.behind.ensures;
      };
      behind = refl;
    })
