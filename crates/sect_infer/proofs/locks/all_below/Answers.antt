use Rattle.std.proofs.{Common.{◌≡◌, ◌∙◌, arith, inl, inr, subst, sym}, lemmas.Bool.{cases_lt}}
use Rattle.sect_lemmas.specs.Lists.{Has}
use Rattle.sect_lemmas.proofs.Inserting.{behind}
use Rattle.sect_infer.proofs.shared.Apart.{apart_push, number_tells, number_absent}
use Rattle.sect_infer.proofs.locks.all_below.Goals.{then-has+in_ok-push, else-has}
use Rattle.sect_infer.proofs.locks.all_below.Goals as goal

pub loop-number-preserved : goal.loop-number-preserved
loop-number-preserved c =
    let ns = c.loop-number.below.items in
    let i = c.loop-number.number in
    let given = c.args.numbers.now in
    let before = c.loop-number.invariant in
    elim c.if-has.branch [
      | then-has+in_ok-push w ↦
          let there : Has given i = (number_tells given i).0 (sym c.has.ensures ∙ w.if-has.true) in
          rw (w.below-is, w.in_ok-push.ensures.items) (record {
            once = apart_push ns i before.once (λ h. (let less = ((before.all i).0 h).0 in omega (arith, less)));
            all = λ n. (
              λ h. elim ((behind ns i n).0 h) [
                | inl a ↦ (let less = (before.all n).0 a in (omega (arith, less.0), less.1))
                | inr e ↦ (omega (arith, e), subst (Has given) (sym e) there)
              ],
              λ h. (behind ns i n).1
                  (elim (cases_lt n i)
                  [ inl a ↦ inl ((before.all n).1 (a, h.1)) | inr b ↦ inr (omega (arith, h.0, b)) ]),
            );
          })
      | else-has w ↦
          let none : Has given i → ⊥ = number_absent given i (sym c.has.ensures ∙ w.if-has.false) in
          rw w.below-is (record {
            once = before.once;
            all = λ n. (
              λ h. (let less = (before.all n).0 h in (omega (arith, less.0), less.1)),
              λ h. elim (cases_lt n i) [
                | inl a ↦ (before.all n).1 (a, h.1)
                | inr b ↦
                    let here : n ≡ i = omega (arith, h.0, b) in
                    absurd (none (subst (Has given) here h.1))
              ],
            );
          })
    ]
