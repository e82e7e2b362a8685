use Rattle.std.proofs.Common.{sym, ◌∙◌, arith, [], ◌∷◌, true≢false, length, ◌<◌}
use Rattle.sect_names.specs.Carrying.{GoesOn}
use Rattle.sect_lemmas.proofs.Making.{makes_next, makes_skip, one_has}
use Rattle.sect_names.proofs.carry.FieldStore.with_field.Goals.{then-not-is_target+in_ok-extended+in_ok-push}
use Rattle.sect_names.proofs.carry.FieldStore.with_field.Goals.{else-not-is_target}
use Rattle.sect_names.proofs.carry.FieldStore.with_field.Goals as goal

pub loop-path-preserved : goal.loop-path-preserved
loop-path-preserved c =
    let P = GoesOn c.args.self.base c.args.self.field c.args.field in
    let xs = c.args.paths.now in
    let i = c.loop-path.path-index in
    let x = c.path-item.result in
    let within : i < length xs = omega arith in
    elim c.if-not-is_target.branch [
      | then-not-is_target+in_ok-extended+in_ok-push w ↦
          let is = w.in_ok-extended.ensures in
          rw (w.longer-is, w.in_ok-push.ensures.items)
          (makes_next P xs i x c.loop-path.longer.items (w.in_ok-extended.field-0 ∷ []) within c.path-item.is
          c.loop-path.invariant (λ y. (
            λ h. (
              λ s. true≢false (sym (c.is_target.ensures.1 s) ∙ w.if-not-is_target.true),
              (one_has w.in_ok-extended.field-0 y).0 h ∙ is,
            ),
            λ h. (one_has w.in_ok-extended.field-0 y).1 (h.1 ∙ sym is),
          )))
      | else-not-is_target w ↦ rw w.longer-is
          (makes_skip P xs i x c.loop-path.longer.items within c.path-item.is c.loop-path.invariant
          (λ y h. h.0 (c.is_target.ensures.0 w.if-not-is_target.false)))
    ]
