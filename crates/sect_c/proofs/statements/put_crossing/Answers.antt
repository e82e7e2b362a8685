use Rattle.std.proofs.{Common.{◌≡◌, ◌++◌, List, ℕ, ap, ◌∙◌, codes}, lemmas.List.{append_assoc}}
use Rattle.std.specs.{String.{string_bytes}, Fmt.{decimal}}
use Rattle.sect_c.specs.Statements.{jump_c}
use Rattle.sect_c.proofs.Joined.{joined}
use Rattle.sect_c.proofs.statements.put_crossing.Goals as goal

-- what is written at once
to_left : (g d s l j n : List ℕ) → g ++ (d ++ (s ++ (d ++ l))) ++ j ++ n ≡ g ++ d ++ s ++ d ++ l ++ j ++ n
to_left g d s l j n = simp append_assoc

pub returns : goal.returns
returns c =
    let s = c.args.standing.now in
    let old = string_bytes c.args.text.now in
    let number = decimal c.args.section in
    let go : List ℕ = codes "  goto s" in
    let back : List ℕ = codes ";\n s" in
    let left : List ℕ = codes "_left: if (end != SECT_DONE) " in
    let jump = jump_c s.graph s.exit in
    let end : List ℕ = codes "\n" in
    let first = go ++ (number ++ (back ++ (number ++ left))) in
    let wrote = string_bytes c.write.new.self in
    let jumped = string_bytes c.put_jump.new.text in
    let two = joined old first jump wrote jumped c.in_ok-write.ensures.bytes c.in_ok-put_jump.ensures in
    joined old (first ++ jump) end jumped (string_bytes c.push_str.new.self) two c.in_ok-push_str.ensures.bytes
    ∙ ap (λ w. old ++ w) (to_left go number back left jump end)
