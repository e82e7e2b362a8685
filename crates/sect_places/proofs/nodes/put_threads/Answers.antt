use Rattle.std.proofs.Common.{◌≡◌, ◌+◌, arith, ap, length}
use Rattle.sect_places.specs.{ItemCounts.{items_in_thread}, Origins.{threads_origins, threads_sections}}
use Rattle.sect_places.specs.steps.{Calls.{expands, expands_sections}, Ending.{EndsWithin}}
use Rattle.sect_places.proofs.Walked.{walked_more}
use Rattle.sect_places.proofs.Expanding.{thread_ends, items_in_threads, thread_nodes, thread_parts, threads_listed}
use Rattle.sect_places.proofs.Expanding.{parts_listed, thread_added, parts_added}
use Rattle.sect_places.proofs.nodes.put_threads.Goals as goal

pub put_block-requires : goal.put_block-requires
put_block-requires c =
    let i = c.args.inside.now in
    thread_ends i.procedures.now (EndsWithin i.procedures.now i.most) c.args.threads.now c.loop-thread.thread-index
    c.thread-item.result c.loop-thread-test.true c.thread-item.is c.requires.known

pub loop-thread-preserved : goal.loop-thread-preserved
loop-thread-preserved c =
    let i = c.args.inside.now in
    let ps = i.procedures.now in
    let x = c.thread-item.result in
    let n = c.loop-thread.next in
    let next : c.in_ok-next.next ≡ n + items_in_thread x =
    omega (
      arith,
      c.in_ok-next.ensures.next,
      c.in_ok-body.ensures,
      c.in_ok-locals.ensures,
      ap length c.as_slice.ensures,
    ) in (
      walked_more items_in_thread items_in_threads (thread_nodes ps (expands i)) (threads_origins ps (expands i))
          (threads_listed ps (expands i)) c.args.threads.now c.loop-thread.thread-index c.args.item n
          c.in_ok-next.next c.args.out.now.items c.loop-thread.out.items c.push.new.self.items x
          c.loop-thread.invariant.0 c.loop-thread-test.true c.thread-item.is next
          (thread_added ps (expands i) i.call n c.in_ok-locals.locals c.in_ok-body.body x c.as_slice.result.now
          c.requires.own c.in_ok-locals.ensures c.as_slice.ensures c.in_ok-body.ensures c.put_block.new.nodes.items
          c.loop-thread.out.items c.push.new.self.items (rw c.new-nodes.ensures.items at c.in_ok-next.ensures.nodes)
          (rw c.from_vec.ensures at c.in_ok-push.ensures.items)),
      walked_more items_in_thread items_in_threads (thread_parts ps (expands i) (expands_sections i))
          (threads_sections ps (expands i) (expands_sections i)) (parts_listed ps (expands i) (expands_sections i))
          c.args.threads.now c.loop-thread.thread-index c.args.item n c.in_ok-next.next c.args.sections.now.items
          c.loop-thread.sections.items c.put_block.new.sections.items x c.loop-thread.invariant.1
          c.loop-thread-test.true c.thread-item.is next
          (parts_added ps (expands i) i.call n c.in_ok-locals.locals c.in_ok-body.body x c.as_slice.result.now
          c.requires.own c.in_ok-locals.ensures c.as_slice.ensures c.in_ok-body.ensures (expands_sections i)
          c.loop-thread.sections.items c.put_block.new.sections.items c.in_ok-next.ensures.sections),
    )
