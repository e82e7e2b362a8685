use Rattle.std.proofs.Common.{◌≡◌, [], ◌++◌, ◌∙◌, sym, append-nil}
use Rattle.sect_front.specs.Tokens.{source_tokens}
use Rattle.sect_front.proofs.shared.Listed.{tokens_same}
use Rattle.sect_front.proofs.listing.tokens_of.Goals as goal

pub returns : goal.returns
returns c =
    let all : c.put_threads.new.out.items ++ [] ≡ source_tokens c.args.tree.now [] =
    rw (← c.records.ensures, ← c.globals.ensures, ← c.procedures.ensures, ← c.threads.ensures)
    (rw c.new-out.ensures.items at (c.in_ok-put_threads.ensures [] ∙
    (c.in_ok-put_procedures.ensures _ ∙ (c.in_ok-put_globals.ensures _ ∙ c.in_ok-put_records.ensures _)))) in
    sym (append-nil c.put_threads.new.out.items) ∙ (all ∙ sym (tokens_same c.args.tree.now))
