use Rattle.std.proofs.{Common.{◌≡◌, ◌++◌, List, ℕ, length, ap, ◌∙◌, codes}, lemmas.List.{append_assoc}}
use Rattle.std.specs.{String.{string_bytes}, Fmt.{decimal}}
use Rattle.sect_types.specs.declared.expansion.action.Field.{Field}
use Rattle.sect_modes.specs.{declared.mode.Mode.{Mode}, Mode.{mode_text}}
use Rattle.sect_points.specs.Paths.{fields_of}
use Rattle.sect_names.specs.Printing.{path_text}
use Rattle.sect_emit.specs.Plan.{object_mode}
use Rattle.sect_c.specs.Sections.{walk_c}
use Rattle.sect_c.proofs.Joined.{joined}
use Rattle.sect_c.proofs.sections.put_path_look.Goals as goal

-- what is written at once
to_left : (w a n b m d q e : List ℕ) → w ++ (a ++ (n ++ (b ++ (m ++ d)))) ++ q ++ e
    ≡ w ++ a ++ n ++ b ++ m ++ d ++ q ++ e
to_left w a n b m d q e = simp append_assoc

pub returns : goal.returns
returns c =
    let p = c.args.program.now in
    let q = c.args.path.now in
    let old = string_bytes c.args.text.now in
    let walk = walk_c p (codes "SECT_LOOK") q in
    let wants : List ℕ = codes ") sect_want(me, &p" in
    let head : List ℕ = codes "->head, SECT_" in
    let opens : List ℕ = codes "); } /* " in
    let closes : List ℕ = codes " */\n" in
    let path = path_text p.source q in
    let tail = λ (fs : List Field) (m : Mode). wants ++ (decimal (length fs) ++ (head ++ (mode_text m ++ opens))) in
    let wanted = tail (fields_of q) (object_mode c.args.effect) in
    let walked = string_bytes c.put_walk.new.text in
    let wrote = string_bytes c.write.new.self in
    let pathed = string_bytes c.put_path.new.text in
    let told : wrote ≡ walked ++ wanted = c.in_ok-write.ensures.bytes
    ∙ (ap (λ (fs : List Field). walked ++ tail fs c.object_mode-mode.result) c.fields-fields.ensures.fields
    ∙ ap (λ (m : Mode). walked ++ tail (fields_of q) m) c.object_mode-mode.ensures) in
    let two = joined old walk wanted walked wrote c.in_ok-put_walk.ensures told in
    let three = joined old (walk ++ wanted) path wrote pathed two c.in_ok-put_path.ensures in
    joined old (walk ++ wanted ++ path) closes pathed (string_bytes c.push_str.new.self) three
    c.in_ok-push_str.ensures.bytes
    ∙ ap (λ w. old ++ w) (to_left walk wants (decimal (length (fields_of q))) head
    (mode_text (object_mode c.args.effect)) opens path closes)
