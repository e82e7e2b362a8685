use Rattle.std.proofs.lemmas.List.{nil_from_length}
use Rattle.std.proofs.Common.{◌≡◌, length, ◌∷◌, List, ℕ, sym, ◌∙◌, ap, subst, arith}
use Rattle.sect_front.specs.steps.Passing.{Stands, StandsBefore}
use Rattle.sect_front.proofs.Stopping.{sign_alone, nothing_stands, other_stands}
use Rattle.sect_front.proofs.cursor.Cursor.behind_sign.Goals as goal

pub returns-in_default-clause-none : goal.returns-in_default-clause-none
returns-in_default-clause-none c = λ t e.
    let same : c.self.inside.here.now ≡ c.args.self.now.here = grind arith in
    let left : length c.self.inside.here.now ≡ 0 = grind arith in
    subst (λ x. (rest : List ℕ) → Stands x t rest → ⊥) (sym (nil_from_length _ left) ∙ same) (nothing_stands t)

pub returns-then-first-sign-clause-none : goal.returns-then-first-sign-clause-none
returns-then-first-sign-clause-none c = λ t e.
    let same : c.self.inside.here.now ≡ c.args.self.now.here = grind arith in
    subst (λ x. (rest : List ℕ) → Stands x t rest → ⊥) (sym c.in-Some.ensures.cases.0 ∙ same)
    (other_stands t c.args.sign c.in-Some.first.now c.in-Some.others.now e c.if-first-sign.true)

pub returns-clause-some : goal.returns-clause-some
returns-clause-some c = λ t e.
    let same : c.self.inside.here.now ≡ c.args.self.now.here = grind arith in
    let others = c.in-Some.others.now in
    let here : c.self.inside.here.now ≡ c.args.sign ∷ others = c.in-Some.ensures.cases.0
    ∙ ap (λ b. b ∷ others) c.if-first-sign.false in
    subst (λ x. StandsBefore x t c.behind.result.now (length others)) same (record {
      stands = record {
        count = 1;
        lexed = rw here (sign_alone c.args.sign others t c.requires.word c.requires.alone e);
        behind = c.behind.ensures;
      };
      behind = rw here (omega arith);
    })
