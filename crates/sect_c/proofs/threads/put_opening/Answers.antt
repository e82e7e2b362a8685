use Rattle.std.proofs.{Common.{◌≡◌, ◌++◌, List, ℕ, [], ap, ◌∙◌, codes}, lemmas.List.{append_assoc}}
use Rattle.std.specs.{Prelude.{slice_index_or}, String.{string_bytes}, Fmt.{decimal}}
use Rattle.sect_emit.specs.{Labels.{thread_name}, Listing.{by_number}}
use Rattle.sect_c.specs.Sections.{local_line}
use Rattle.sect_c.proofs.Joined.{joined}
use Rattle.sect_c.proofs.threads.put_opening.Goals as goal

-- what is written at once
to_left : (a b x d y l e : List ℕ) → a ++ b ++ (x ++ (d ++ y)) ++ l ++ e ≡ a ++ b ++ x ++ d ++ y ++ l ++ e
to_left a b x d y l e = simp append_assoc

pub returns : goal.returns
returns c =
    let p = c.args.program.now in
    let u = c.args.thread in
    let old = string_bytes c.args.text.now in
    let first : List ℕ = codes "\n/* thread " in
    let name = thread_name p.source u in
    let head : List ℕ = codes " */\nstatic void thread_" in
    let words : List ℕ = codes "(struct sect_thread *me) {\n" in
    let function = head ++ (decimal u ++ words) in
    let locals = by_number (local_line p u) 0 (slice_index_or p.locals u []) in
    let last : List ℕ =
    codes "  uint64_t fuel = me->fuel; (void)fuel;\n  enum sect_end end = SECT_DONE;\n  goto n0;\n" in
    let begun = string_bytes c.push_str.new.self in
    let named = string_bytes c.put_thread_name.new.text in
    let wrote = string_bytes c.write.new.self in
    let declared = string_bytes c.put_locals.new.text in
    let two = joined old first name begun named c.in_ok-push_str.ensures.bytes c.in_ok-put_thread_name.ensures in
    let three = joined old (first ++ name) function named wrote two c.in_ok-write.ensures.bytes in
    let four = joined old (first ++ name ++ function) locals wrote declared three c.in_ok-put_locals.ensures in
    joined old (first ++ name ++ function ++ locals) last declared (string_bytes c.push_str-2.new.self) four
    c.in_ok-push_str-2.ensures.bytes
    ∙ ap (λ w. old ++ w) (to_left first name head (decimal u) words locals last)
