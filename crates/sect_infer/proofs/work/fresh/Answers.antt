use Rattle.std.proofs.{Common.{◌<◌, ◌∙◌, ◌++◌, ◌∷◌, [], length, get_or, sym, arith, ap}, lemmas.List.{get_or_default}}
use Rattle.sect_lemmas.proofs.Membership.{Has-get_or}
use Rattle.sect_infer.proofs.Appending.{fresh_next, fresh_skip}
use Rattle.sect_infer.proofs.work.fresh.Goals.{then-not-is_under+in_ok-push, else-not-is_under}
use Rattle.sect_infer.proofs.work.fresh.Goals as goal

pub is_under-requires : goal.is_under-requires
is_under-requires c = c.requires (get_or c.args.found.more.now c.loop-number.number-index 0)
    (Has-get_or c.args.found.more.now c.loop-number.number-index 0 (omega (arith, c.loop-number-test.true)))

pub loop-number-preserved : goal.loop-number-preserved
loop-number-preserved c =
    let above = c.args.numbering.now.above in
    let found = c.args.found.all.now in
    let numbers = c.args.found.more.now in
    let i = c.loop-number.number-index in
    let n = get_or numbers i 0 in
    let within : i < length numbers = omega (arith, c.loop-number-test.true) in
    let is = get_or_default numbers i 0 n within in
    elim c.if-not-is_under.branch [
      | then-not-is_under+in_ok-push w ↦
          let next = fresh_next above found numbers i n within is (sym c.is_under.ensures ∙ w.if-not-is_under.true) in
          rw (w.fresh-is, next) (w.in_ok-push.ensures.items ∙ ap (λ l. l ++ n ∷ []) c.loop-number.invariant)
      | else-not-is_under w ↦
          let next = fresh_skip above found numbers i n within is (sym c.is_under.ensures ∙ w.if-not-is_under.false) in
          rw (w.fresh-is, next) c.loop-number.invariant
    ]
