use Rattle.std.proofs.{Common.{◌≡◌, ◌++◌, List, ℕ, length, ap, ◌∙◌, codes}, lemmas.List.{append_assoc}}
use Rattle.std.specs.{String.{string_bytes}, Fmt.{decimal}}
use Rattle.sect_types.specs.declared.expansion.action.Field.{Field}
use Rattle.sect_modes.specs.{declared.mode.Mode.{Mode}, Mode.{mode_text}}
use Rattle.sect_points.specs.Paths.{fields_of}
use Rattle.sect_emit.specs.Plan.{object_mode}
use Rattle.sect_c.specs.Sections.{walk_c}
use Rattle.sect_c.proofs.Joined.{joined}
use Rattle.sect_c.proofs.sections.put_again.Goals as goal

-- what is written at once
to_left : (w a n b m d i e : List ℕ) → w ++ (a ++ (n ++ (b ++ (m ++ (d ++ (i ++ e))))))
    ≡ w ++ a ++ n ++ b ++ m ++ d ++ i ++ e
to_left w a n b m d i e = simp append_assoc

pub returns : goal.returns
returns c =
    let p = c.args.program.now in
    let q = c.args.path.now in
    let old = string_bytes c.args.text.now in
    let walk = walk_c p (codes "SECT_GET") q in
    let holds : List ℕ = codes " && !sect_holds(me, &p" in
    let head : List ℕ = codes "->head, SECT_" in
    let gives : List ℕ = codes ")) { sect_give(me); goto s" in
    let number = decimal c.args.section in
    let closes : List ℕ = codes "; } }\n" in
    let tail = λ (fs : List Field) (m : Mode). holds
    ++ (decimal (length fs) ++ (head ++ (mode_text m ++ (gives ++ (number ++ closes))))) in
    let held = tail (fields_of q) (object_mode c.args.effect) in
    let walked = string_bytes c.put_walk.new.text in
    let wrote = string_bytes c.write.new.self in
    let told : wrote ≡ walked ++ held = c.in_ok-write.ensures.bytes
    ∙ (ap (λ (fs : List Field). walked ++ tail fs c.object_mode-mode.result) c.fields-fields.ensures.fields
    ∙ ap (λ (m : Mode). walked ++ tail (fields_of q) m) c.object_mode-mode.ensures) in
    joined old walk held walked wrote c.in_ok-put_walk.ensures told
    ∙ ap (λ w. old ++ w) (to_left walk holds (decimal (length (fields_of q))) head
    (mode_text (object_mode c.args.effect)) gives number closes)
