use Rattle.std.proofs.Common.{◌≡◌, [], ◌++◌, ◌∙◌, sym, append-nil}
use Rattle.sect_types.specs.Lockings.{lockings_of}
use Rattle.sect_types.proofs.expansion.locking.lockings.Goals as goal

pub returns : goal.returns
returns c =
    let all : c.put_threads.new.out.items ++ [] ≡ lockings_of c.args.tree.now =
    rw (← c.threads.ensures) (rw c.new-out.ensures.items at (c.in_ok-put_threads.ensures [])) in
    sym (append-nil c.put_threads.new.out.items) ∙ all
