use Rattle.std.proofs.{Common.{◌≡◌, ℕ, refl, sym, ◌∙◌}, lemmas.Bool.Decides.{Decides-eqb}}
use Rattle.std.specs.{Prelude.{nat_eq}, Bool.{Decides}}
use Rattle.sect_lemmas.proofs.Finding.{any_tells}
use Rattle.sect_check.proofs.locks.class_in.Goals as goal

turned : (l m : ℕ) → Decides (nat_eq m l) (l ≡ m)
turned l m = (λ t. sym ((Decides-eqb m l).0 t), λ e. (Decides-eqb m l).1 (sym e))

pub returns-then-contains : goal.returns-then-contains
returns-then-contains c =
    let tells = any_tells (λ l m. nat_eq m l) turned c.args.numbers.now c.args.class in
    (refl, tells.0 (sym c.contains.ensures.value ∙ c.if-contains.true))

pub returns-else-contains : goal.returns-else-contains
returns-else-contains c = λ h.
    let tells = any_tells (λ l m. nat_eq m l) turned c.args.numbers.now c.args.class in
    let yes = c.contains.ensures.value ∙ tells.1 h in
    let no = c.if-contains.false in
    absurd cc
