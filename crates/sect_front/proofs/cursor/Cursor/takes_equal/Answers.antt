use Rattle.std.proofs.lemmas.List.{nil_from_length}
use Rattle.std.proofs.Common.{◌≡◌, ◌∷◌, length, refl, sym, ◌∙◌, ap, subst, arith}
use Rattle.sect_front.specs.steps.Passing.{Stands}
use Rattle.sect_front.proofs.Stopping.{nothing_stands, other_stands, two_equal, equal_alone}
use Rattle.sect_front.proofs.Chains.{passed}
use Rattle.sect_front.specs.declared.token.Token.TheVariants as token
use Rattle.sect_front.proofs.cursor.Cursor.takes_equal.Goals as goal

pub returns-in_default-clause-none : goal.returns-in_default-clause-none
returns-in_default-clause-none c = λ h rest s.
    let same : c.self.inside.here.now ≡ c.args.self.now.here = grind arith in
    let left : length c.self.inside.here.now ≡ 0 = grind arith in
    nothing_stands token.Equal rest (subst (λ x. Stands x token.Equal rest) (sym same ∙ nil_from_length _ left) s)

pub returns-then-first-ne61-clause-none : goal.returns-then-first-ne61-clause-none
returns-then-first-ne61-clause-none c = λ h rest s.
    let same : c.self.inside.here.now ≡ c.args.self.now.here = grind arith in
    other_stands token.Equal 61 c.in-Some.first.now c.in-Some.others.now refl c.if-first-ne61.true rest
    (subst (λ x. Stands x token.Equal rest) (sym same ∙ c.in-Some.ensures.cases.0) s)

pub returns-then-begins_with-clause-none : goal.returns-then-begins_with-clause-none
returns-then-begins_with-clause-none c = λ h rest s.
    let same : c.self.inside.here.now ≡ c.args.self.now.here = grind arith in
    two_equal c.in-Some.others.now (sym c.begins_with.ensures ∙ c.if-begins_with.true) rest
    (subst (λ x. Stands x token.Equal rest)
    (sym same ∙ (c.in-Some.ensures.cases.0 ∙ ap (λ b. b ∷ c.in-Some.others.now) c.if-first-ne61.false)) s)

pub returns-clause-taken : goal.returns-clause-taken
returns-clause-taken c = λ h.
    let same : c.self.inside.here.now ≡ c.args.self.now.here = grind arith in
    let others = c.in-Some.others.now in
    let here : c.args.self.now.here ≡ 61 ∷ others =
    sym same ∙ (c.in-Some.ensures.cases.0 ∙ ap (λ b. b ∷ others) c.if-first-ne61.false) in
    passed c.args.self.now (record {
      stands = record {
        count = 1;
        lexed = rw here (equal_alone others (sym c.begins_with.ensures ∙ c.if-begins_with.false));
        behind = c.behind.ensures ∙ rw same refl;
      };
      behind = rw here (omega arith);
    }) refl (λ k. refl) c.pass.ensures
