use Rattle.std.proofs.Common.{◌≡◌, ◌+◌, ℕ, List, [], ◌∷◌, drop, refl, ap, ◌∙◌, arith}
use Rattle.sect_editor.specs.Positions.{line_start}
use Rattle.sect_editor.proofs.position.line_start.Goals as goal

-- the first line begins at the front
first : (text : List ℕ) → line_start 0 text ≡ 0
first [] = refl
first (b ∷ bs) = refl

pub returns-then-left-eq0-clause-start : goal.returns-then-left-eq0-clause-start
returns-then-left-eq0-clause-start c =
    let here : line_start c.loop-at.left (drop c.loop-at.at c.args.text.now) ≡ 0 =
    ap (λ n. line_start n (drop c.loop-at.at c.args.text.now)) c.if-left-eq0.true
    ∙ first (drop c.loop-at.at c.args.text.now) in
    let all : line_start c.args.line c.args.text.now
    ≡ line_start c.loop-at.left (drop c.loop-at.at c.args.text.now) + c.loop-at.at = c.loop-at.invariant in
    omega arith
