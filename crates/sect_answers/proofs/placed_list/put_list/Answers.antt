-- One outcome more.
use Rattle.std.proofs.Common.{◌≡◌, ◌∙◌, ◌++◌, [], length, refl, sym, ap, subst, arith, append_assoc, append-nil, take}
use Rattle.std.proofs.lemmas.List.{take_all}
use Rattle.std.specs.String.{string_bytes}
use Rattle.sect_answers.specs.Placed.{AreListed, shown_of}
use Rattle.sect_answers.proofs.Listed.{listed_next}
use Rattle.sect_answers.proofs.placed_list.put_list.Goals as goal

pub loop-number-init : goal.loop-number-init
loop-number-init c = ([], refl, sym (append-nil (string_bytes c.args.text.now)))

pub loop-number-preserved : goal.loop-number-preserved
loop-number-preserved c =
    let r = c.args.replayed in
    let (lines, listed, printed) = c.loop-number.invariant in
    let (x, line, at, is, added) = c.in_ok-put_one.ensures in (
      lines ++ line,
      listed_next r.compiled.now r.fuel (shown_of r) c.args.outcomes.now.found c.loop-number.number x lines
          line at listed is,
      added ∙ ap (λ bytes. bytes ++ line) printed ∙ append_assoc (string_bytes c.args.text.now) lines line,
    )

pub returns : goal.returns
returns c =
    let r = c.args.replayed in
    let found = c.args.outcomes.now.found in
    let (lines, listed, printed) = c.loop-number.invariant in
    let all : take c.loop-number.number found ≡ found =
    take_all c.loop-number.number found
    (omega (arith, c.loop-number-test.false, c.loop-number.auto.number-end, c.len-number-end.ensures)) in (
      lines,
      subst (λ xs. AreListed r.compiled.now r.fuel (shown_of r) 0 xs lines) all listed,
      printed,
    )
