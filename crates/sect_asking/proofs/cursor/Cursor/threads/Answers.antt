use Rattle.std.proofs.Common.{◌≡◌, true, sym, subst}
use Rattle.sect_asking.specs.Phrases.{has_some}
use Rattle.sect_asking.proofs.Listing.{threads_grow, some_behind}
use Rattle.sect_asking.proofs.cursor.Cursor.threads.Goals as goal

pub loop-thread-preserved : goal.loop-thread-preserved
loop-thread-preserved c = record {
  reads = threads_grow c.loop-thread.threads.items c.push-in-Some.new.self.items c.in-Some.thread _ _ _
      c.in_ok-push-2.ensures.items c.loop-thread.invariant.reads c.in-Some.ensures.taken;
  some = subst (λ xs. has_some xs ≡ true) (sym c.in_ok-push-2.ensures.items)
      (some_behind c.loop-thread.threads.items c.in-Some.thread);
}
