use Rattle.std.proofs.Common.{◌≡◌, ◌<◌, ◌≤◌, ◌+◌, ◌-◌, List, ℕ, Bool, true, false, drop, take, length, arith, refl, sym}
use Rattle.std.proofs.{Common.{ap, ◌∙◌, subst, true≢false, get_or}, lemmas.Bool.{eqb-true}}
use Rattle.std.proofs.{lemmas.Bool.Decides.{Decides-eqb}, lemmas.List.{get_or-drop, length-drop, take_all}}
use Rattle.std.specs.{Prelude.{codes, nat_eq}, Bool.{Decides}, List.{slice_range}}
use Rattle.std.specs.Cmp.Lexicographic.{pointwise, pointwise_decides}
use Rattle.memchr.specs.Find.{is_byte, Passes, NoneBefore, Nowhere}
use Rattle.sect_answers.proofs.Cutting.{IsCutSo, cut_begins, cut_over, passed_over, cut_line, cut_end, cut_none}
use Rattle.sect_answers.proofs.splitting.source_start.Goals.{In-Some}
use Rattle.sect_answers.proofs.splitting.source_start.Goals as goal

pub loop-len-init : goal.loop-len-init
loop-len-init c = record { so = cut_begins c.args.input.now; within = omega arith }

-- a line that is tested
tested : (line word : List ℕ) (b r : Bool) → b ≡ pointwise nat_eq line word → b ≡ r → Decides r (line ≡ word)
tested line word b r is e = subst (λ d. Decides d (line ≡ word)) (sym is ∙ e) (pointwise_decides Decides-eqb line word)

-- what is sought in is all that follows the lines so far
rest : (input : List ℕ) (start : ℕ) → start ≤ length input
    → take (length input - start) (drop start input) ≡ drop start input
rest input start within =
    take_all (length input - start) (drop start input) (omega (arith, length-drop start input, within))

found : (c : In-Some)
    → NoneBefore (Passes (is_byte 10) (drop c.loop-len.start c.args.input.now)) 0
    (length (drop c.loop-len.start c.args.input.now)) c.in-Some.len
    × Passes (is_byte 10) (drop c.loop-len.start c.args.input.now) c.in-Some.len
found c =
    subst (λ h. NoneBefore (Passes (is_byte 10) h) 0 (length h) c.in-Some.len × Passes (is_byte 10) h c.in-Some.len)
    (rest c.args.input.now c.loop-len.start c.loop-len.invariant.within) c.in-Some.ensures

-- the line feed that was found, and what stands before it
within : (c : In-Some) → c.loop-len.start + c.in-Some.len < length c.args.input.now
within c =
    let high = (found c).0.high in
    omega (arith, high, length-drop c.loop-len.start c.args.input.now, c.loop-len.invariant.within)

feed : (c : In-Some) → get_or c.args.input.now (c.loop-len.start + c.in-Some.len) 0 ≡ 10
feed c = sym (get_or-drop c.loop-len.start c.args.input.now c.in-Some.len 0)
    ∙ eqb-true (get_or (drop c.loop-len.start c.args.input.now) c.in-Some.len 0) 10 (found c).1

so : (c : In-Some) → IsCutSo c.args.input.now c.loop-len.start (c.loop-len.start + c.in-Some.len)
so c =
    let input = c.args.input.now in
    let start = c.loop-len.start in
    let before = (found c).0.before in
    let there = within c in
    cut_over input start c.in-Some.len (omega (arith, there))
    (λ k h. passed_over (drop start input) k (before k (omega arith) h)) c.loop-len.invariant.so

pub loop-len-preserved : goal.loop-len-preserved
loop-len-preserved c =
    let x = (goal.at.loop-len-preserved c).In-Some in
    let input = c.args.input.now in
    let start = c.loop-len.start in
    let at = start + c.in-Some.len in
    let line = slice_range input start at in
    let there = within x in
    let other : line ≡ codes "end" → ⊥ = λ e. true≢false (sym ((tested line (codes "end") c.eq.result false
    (c.eq.ensures ∙ ap (pointwise nat_eq line) c.as_slice.ensures) c.if-eq.false).1 e)) in
    record { so = cut_line input start at there (feed x) (so x) other; within = omega (arith, there) }

pub returns-then-eq-clause-split : goal.returns-then-eq-clause-split
returns-then-eq-clause-split c =
    let x = (goal.at.returns-then-eq-clause-split c).In-Some in
    let input = c.args.input.now in
    let start = c.loop-len.start in
    let at = start + c.in-Some.len in
    let line = slice_range input start at in
    let end = (tested line (codes "end") c.eq.result true (c.eq.ensures ∙ ap (pointwise nat_eq line) c.as_slice.ensures)
    c.if-eq.true).0 refl in
    cut_end input start at (within x) (feed x) (so x) end

pub returns-clause-split : goal.returns-clause-split
returns-clause-split c =
    let input = c.args.input.now in
    let start = c.loop-len.start in
    let within = c.loop-len.invariant.within in
    let n : ℕ = length input - start in
    let none = subst (λ h. Nowhere (Passes (is_byte 10) h) 0 (length h)) (rest input start within)
    c.in_default.ensures in
    let all = cut_over input start n (omega (arith, within))
    (λ k h. passed_over (drop start input) k (none k (omega arith) (omega (arith, h, length-drop start input))))
    c.loop-len.invariant.so in
    cut_none input start (start + n) (length input) refl (omega (arith, within)) (omega (arith, within)) all
