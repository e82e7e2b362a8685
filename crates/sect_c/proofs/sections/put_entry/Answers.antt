use Rattle.std.proofs.{Common.{◌≡◌, ◌++◌, List, ℕ, ap, ◌∙◌, codes}, lemmas.List.{append_assoc}}
use Rattle.std.specs.{String.{string_bytes}, List.{flat_map}, Fmt.{decimal}}
use Rattle.sect_names.specs.Printing.{locks_text}
use Rattle.sect_c.specs.Sections.{look_c, second_look_c}
use Rattle.sect_c.proofs.Joined.{joined}
use Rattle.sect_c.proofs.sections.put_entry.Goals as goal

-- what is written at once
to_left : (a i b d e l f k g s x z : List ℕ)
    → a ++ (i ++ (b ++ (i ++ (d ++ (i ++ e))))) ++ l ++ f ++ k ++ g ++ s ++ (x ++ (i ++ z))
    ≡ a ++ i ++ b ++ i ++ d ++ i ++ e ++ l ++ f ++ k ++ g ++ s ++ x ++ i ++ z
to_left a i b d e l f k g s x z = simp append_assoc

pub returns : goal.returns
returns c =
    let p = c.args.program.now in
    let set = c.args.locks.now in
    let kept = c.args.paths.now in
    let old = string_bytes c.args.text.now in
    let number = decimal c.args.section in
    let label : List ℕ = codes " s" in
    let plan : List ℕ = codes ": sect_plan(me, plan_" in
    let opens : List ℕ = codes "); /* section " in
    let colon : List ℕ = codes ": " in
    let locks = locks_text p.source set in
    let closes : List ℕ = codes " */\n" in
    let looks = flat_map (look_c p) kept in
    let takes : List ℕ = codes "  sect_take(me);\n" in
    let seconds = flat_map (second_look_c p c.args.section) kept in
    let goes : List ℕ = codes "  goto s" in
    let end : List ℕ = codes "_0;\n" in
    let head = label ++ (number ++ (plan ++ (number ++ (opens ++ (number ++ colon))))) in
    let wrote = string_bytes c.write.new.self in
    let locked = string_bytes c.put_locks.new.text in
    let closed = string_bytes c.push_str.new.self in
    let looked = string_bytes c.put_looks.new.text in
    let taken = string_bytes c.push_str-2.new.self in
    let again = string_bytes c.put_second_looks.new.text in
    let two = joined old head locks wrote locked c.in_ok-write.ensures.bytes c.in_ok-put_locks.ensures in
    let three = joined old (head ++ locks) closes locked closed two c.in_ok-push_str.ensures.bytes in
    let four = joined old (head ++ locks ++ closes) looks closed looked three c.in_ok-put_looks.ensures in
    let five = joined old (head ++ locks ++ closes ++ looks) takes looked taken four c.in_ok-push_str-2.ensures.bytes in
    let six = joined old (head ++ locks ++ closes ++ looks ++ takes) seconds taken again five
    c.in_ok-put_second_looks.ensures in
    joined old (head ++ locks ++ closes ++ looks ++ takes ++ seconds) (goes ++ (number ++ end)) again
    (string_bytes c.write-2.new.self) six c.in_ok-write-2.ensures.bytes
    ∙ ap (λ w. old ++ w) (to_left label number plan opens colon locks closes looks takes seconds goes end)
