use Rattle.std.proofs.{Common.{rules, ◌≡◌, ◌++◌, [], ◌∷◌, ap, ◌∙◌}, lemmas.List.{append-nil}}
use Rattle.std.specs.String.{string_bytes}
use Rattle.sect_names.specs.Printing.{lock_text}
use Rattle.sect_infer.specs.Sets.{AreUnmarkedAt}
use Rattle.sect_warnings.proofs.Marking.{due_there, due_marked, due_one, only, one_due, unmarked_named}
use Rattle.sect_warnings.proofs.marked.would_take.Goals as goal

pub infer_unmarked-requires : goal.infer_unmarked-requires
infer_unmarked-requires c = rw c.scheme-scheme.ensures (due_there c.args.compiled.now c.args.section c.requires)

pub put_locks-requires : goal.put_locks-requires
put_locks-requires c =
    let v = c.args.compiled.now in
    let i = c.args.section in
    let are : AreUnmarkedAt v.scheme i c.in_ok-locks.locks = rw c.scheme-scheme.ensures at c.in_ok-locks.ensures in
    rw (c.program.ensures, c.scheme-scheme.ensures, c.entry.ensures)
    (unmarked_named v c.facts.ensures.compiled.scheme i (due_there v i c.requires) c.in_ok-locks.locks are)

pub returns : goal.returns
returns c =
    let v = c.args.compiled.now in
    let i = c.args.section in
    let ok = c.facts.ensures.compiled.scheme in
    let there = due_there v i c.requires in
    let are : AreUnmarkedAt v.scheme i c.in_ok-locks.locks = rw c.scheme-scheme.ensures at c.in_ok-locks.ensures in
    let x = only c.in_ok-locks.locks.entry (one_due v ok i there c.in_ok-locks.locks are c.requires) in
    let entry : c.entry.result.now ≡ x.0 ∷ [] = c.entry.ensures ∙ x.1 in
    let put : string_bytes c.put_locks.new.text ≡ string_bytes c.push_str.new.self
    ++ lock_text v.scheme.program.source x.0 =
    rw (c.program.ensures, c.scheme-scheme.ensures, entry) at c.in_ok-put_locks.ensures
    ∙ ap (λ l. string_bytes c.push_str.new.self ++ l) (append-nil (lock_text v.scheme.program.source x.0)) in
    (x.0, due_one v ok i there c.in_ok-locks.locks are (due_marked v i c.requires) x.0 x.1, search rules)
