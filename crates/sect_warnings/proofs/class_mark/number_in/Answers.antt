use Rattle.std.proofs.{Common.{◌≡◌, Some, ap, ◌∙◌, length, refl}, lemmas.Option.{slice_get_read}}
use Rattle.sect_warnings.specs.ClassLocks.{class_lock}
use Rattle.sect_warnings.proofs.Searching.{place_within}
use Rattle.sect_warnings.proofs.class_mark.number_in.Goals as goal

pub returns : goal.returns
returns c =
    let set = c.args.set.now in
    let lock = class_lock c.args.wanted.class c.args.wanted.effect in
    slice_get_read set (length set) c.loop-wanted.number c.index-set-number.result refl
    (place_within (λ x. x ≡ lock) set c.loop-wanted.number c.loop-wanted.invariant) c.index-set-number.is
    ∙ ap (λ l. Some l) (c.is_class_lock.ensures.0 c.loop-wanted-test.false)
