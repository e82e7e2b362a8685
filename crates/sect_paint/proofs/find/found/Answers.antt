use Rattle.std.proofs.Common.{◌≡◌, ◌∙◌, ◌-◌, arith, drop, length, sym, ap, take, nat_eq}
use Rattle.std.proofs.lemmas.List.{length-drop, take_all}
use Rattle.std.specs.List.{starts_with}
use Rattle.sect_paint.proofs.Finding.{found_behind}
use Rattle.sect_paint.proofs.find.found.Goals as goal

pub loop-place-preserved : goal.loop-place-preserved
loop-place-preserved c =
    let line = c.args.line.now in
    let n = c.loop-place.place in
    let rest : take (length line - n) (drop n line) ≡ drop n line =
    take_all (length line - n) (drop n line) (omega (arith, length-drop n line)) in
    found_behind c.args.words.now line n c.loop-place-test.true
    (ap (λ l. starts_with nat_eq l c.args.words.now) (sym rest) ∙ sym c.starts_with.ensures.value
    ∙ c.if-starts_with.false) ∙ c.loop-place.invariant
