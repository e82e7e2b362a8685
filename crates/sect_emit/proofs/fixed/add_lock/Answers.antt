use Rattle.std.proofs.Common.{refl, sym, ap, ◌∙◌, subst}
use Rattle.std.specs.Prelude.{IsSome}
use Rattle.sect_emit.specs.Plan.{with_grip}
use Rattle.sect_emit.specs.steps.Wishes.{IsClassedLock}
use Rattle.sect_emit.proofs.Adding.{all_wishes, class_wishes, path_wishes, on_ok}
use Rattle.sect_emit.proofs.fixed.add_lock.Goals as goal

pub unwrap-class-requires : goal.unwrap-class-requires
unwrap-class-requires c =
    let classed = subst (IsClassedLock c.args.scheme.now) c.in-Path.is c.requires in
    subst IsSome (sym ((c.class_of.ensures classed.0).1 classed.1)) refl

pub returns-in-All : goal.returns-in-All
returns-in-All c = on_ok c.add_grip.result
    (λ e. all_wishes c.args.scheme.now c.args.lock.now _ _ c.in-All.is
    (e ∙ ap (λ g. with_grip g c.args.part.now.items) c.grip.ensures)) c.add_grip.ensures

pub returns-in-Class : goal.returns-in-Class
returns-in-Class c =
    on_ok c.add_class.result (class_wishes c.args.scheme.now c.args.lock.now c.in-Class.class c.in-Class.right _ _ _
    c.in-Class.is c.class_mode.ensures) c.add_class.ensures

pub returns-in-Path : goal.returns-in-Path
returns-in-Path c =
    let has = (c.class_of.ensures c.unwrap-class.result).0 c.unwrap-class.ensures in
    on_ok c.add_class-in-Path.result
    (path_wishes c.args.scheme.now c.args.lock.now c.in-Path.path c.in-Path.effect c.unwrap-class.result _ _ _
    c.in-Path.is has c.intended.ensures) c.add_class-in-Path.ensures
