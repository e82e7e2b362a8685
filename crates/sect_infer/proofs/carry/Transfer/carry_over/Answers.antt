use Rattle.std.proofs.{Common.{◌≡◌, ◌↔◌, ◌∙◌, inl, inr, sym, subst}, lemmas.Result.{on_ok_weaker}}
use Rattle.sect_lemmas.proofs.Places.{one_at}
use Rattle.sect_names.specs.{declared.lock.Lock.{Lock}, Carrying.{CarriedBack}}
use Rattle.sect_names.specs.declared.lock.Lock.TheVariants as lock
use Rattle.sect_infer.specs.{Numbers.{with_number}, steps.Putting.{IsOnOneOf}}
use Rattle.sect_infer.proofs.{Carrying.{finds_one, finds_as}, Extending.{numbered_there}}
use Rattle.sect_infer.proofs.carry.Transfer.carry_over.Goals as goal

pub returns-in_ok-paths-in-Path : goal.returns-in_ok-paths-in-Path
returns-in_ok-paths-in-Path c =
    let s = c.args.self.scheme.now in
    let t = c.args.self.thread in
    let label = c.args.self.label.now in
    let a = c.args.numbering.now in
    let e = c.in-Path.effect in
    let paths = c.in_ok-paths-in-Path.paths in
    let tells = c.in_ok-paths-in-Path.ensures in
    on_ok_weaker c.find_each_on.result (λ f l at.
    let same : c.lock.result.now ≡ l = one_at a.keys c.args.number c.lock.result.now l c.lock.ensures at in
    finds_as s a c.find_each_on.new.numbering c.args.found.now c.find_each_on.new.found (IsOnOneOf s e paths)
    (CarriedBack s t label l)
    (subst (λ k. (r : Lock) → CarriedBack s t label k r ↔ IsOnOneOf s e paths r) (sym c.in-Path.is ∙ same)
    (λ r. (λ h. (h.0, (tells h.0).1 h.1, h.2), λ h. (h.0, (tells h.0).0 h.1, h.2)))) f) c.find_each_on.ensures

pub returns-in_ok-insert-in-All : goal.returns-in_ok-insert-in-All
returns-in_ok-insert-in-All c = λ l at.
    let s = c.args.self.scheme.now in
    let t = c.args.self.thread in
    let label = c.args.self.label.now in
    let a = c.args.numbering.now in
    let n = c.args.number in
    let found = c.args.found.now in
    let same : c.lock.result.now ≡ l = one_at a.keys n c.lock.result.now l c.lock.ensures at in
    let stays : (k : Lock) → c.lock.result.now ≡ k → ((r : Lock) → CarriedBack s t label k r ↔ (r ≡ k))
    → (r : Lock) → CarriedBack s t label l r ↔ (r ≡ l) =
    λ k e. subst (λ j. (r : Lock) → CarriedBack s t label j r ↔ (r ≡ j)) (sym e ∙ same) in
    let stay : (r : Lock) → CarriedBack s t label l r ↔ (r ≡ l) = elim c.in-All.is [
      | inl e ↦ stays lock.All e (λ r. (λ h. h, λ h. h))
      | inr w ↦ stays (lock.Class w.0 w.1) w.2 (λ r. (λ h. h, λ h. h))
    ] in
    rw c.in_ok-insert-in-All.ensures
    (finds_as s a a found (with_number found n) (λ r. r ≡ l) (CarriedBack s t label l) stay
    (finds_one s a a found l n c.requires.finding (numbered_there s a l n c.requires.finding.numbering at)))
