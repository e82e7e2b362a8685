use Rattle.std.proofs.{Common.{◌≡◌, false, nat_eq, drop, sym, ap, ◌∙◌}, lemmas.List.{take_rest}}
use Rattle.std.specs.List.{starts_with}
use Rattle.sect_lsp.proofs.Finding.{place_next}
use Rattle.sect_lsp.proofs.framing.place_of.Goals as goal

pub loop-at-preserved : goal.loop-at-preserved
loop-at-preserved c =
    let bytes = c.args.bytes.now in
    let not_here : starts_with nat_eq (drop c.loop-at.at bytes) c.args.word.now ≡ false =
    ap (λ bs. starts_with nat_eq bs c.args.word.now) (sym (take_rest bytes c.loop-at.at))
    ∙ (sym c.starts_with.ensures.value ∙ c.if-starts_with.false) in
    c.loop-at.invariant ∙ place_next c.args.word.now bytes c.loop-at.at c.loop-at-test.true not_here
