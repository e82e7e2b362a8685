use Rattle.std.proofs.Common.{sym, ap, ◌∙◌, arith, [], ◌∷◌, length, ◌<◌, ◌≤◌, Some}
use Rattle.sect_names.specs.Carrying.{LockOn}
use Rattle.sect_lemmas.proofs.Making.{makes_next, makes_skip, makes_done, one_has}
use Rattle.sect_names.proofs.scheme.Scheme.locks_on.Goals.{in-Some+in_ok-push, in_default}
use Rattle.sect_names.proofs.scheme.Scheme.locks_on.Goals as goal

pub loop-path-preserved : goal.loop-path-preserved
loop-path-preserved c =
    let P = LockOn c.args.self.now c.args.effect in
    let xs = c.args.paths.now in
    let i = c.loop-path.path-index in
    let x = c.path-item.result in
    let within : i < length xs = omega arith in
    elim c.match-branch-2.branch [
      | in-Some+in_ok-push w ↦ rw (w.locks-is, w.in_ok-push.ensures.items)
          (makes_next P xs i x c.loop-path.locks.items (w.in-Some.lock ∷ []) within c.path-item.is c.loop-path.invariant
          (λ y. (
            λ h. (c.in_ok-lock.ensures y).0 (w.in-Some.is ∙ ap (λ z. Some z) (sym ((one_has w.in-Some.lock y).0 h))),
            λ h. (one_has w.in-Some.lock y).1 (let a = (c.in_ok-lock.ensures y).1 h in let b = w.in-Some.is in cc),
          )))
      | in_default w ↦ rw w.locks-is
          (makes_skip P xs i x c.loop-path.locks.items within c.path-item.is c.loop-path.invariant
          (λ y h. w.in_default.not-Some y ((c.in_ok-lock.ensures y).1 h)))
    ]

pub returns : goal.returns
returns c =
    let past : length c.args.paths.now ≤ c.loop-path.path-index = omega arith in
    makes_done (LockOn c.args.self.now c.args.effect) c.args.paths.now c.loop-path.path-index c.loop-path.locks.items
    past c.loop-path.invariant
