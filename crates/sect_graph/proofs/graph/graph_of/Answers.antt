use Rattle.std.proofs.Common.{◌≤◌, arith, length}
use Rattle.sect_graph.proofs.Graphs.{nodes_few, count_at, thread_more, sections_more, are_graphs, ends}
use Rattle.sect_graph.proofs.graph.graph_of.Goals as goal

pub flow_of-requires : goal.flow_of-requires
flow_of-requires c =
    omega (
      arith,
      nodes_few c.text-text.result.now,
      count_at c.args.program.now.texts c.loop-thread.thread c.text-text.result.now c.text-text.ensures.text,
      c.facts.ensures.limits.few_statements,
    )

pub put_text-requires : goal.put_text-requires
put_text-requires c =
    omega (
      arith,
      count_at c.args.program.now.texts c.loop-thread.thread c.text-text.result.now
          c.text-text.ensures.text,
      c.facts.ensures.limits.few_statements,
    )

pub loop-thread-preserved : goal.loop-thread-preserved
loop-thread-preserved c =
    let texts = c.args.program.now.texts in
    let t = c.loop-thread.thread in
    let text = c.text-text.result.now in
    record {
      threads = thread_more texts t text c.loop-thread.threads.items c.push.new.self.items _ c.text-text.ensures.text
          (rw c.in_ok-flow_of.ensures.nodes at c.in_ok-push.ensures.items) c.loop-thread.invariant.threads;
      sections = sections_more texts t text c.loop-thread.sections.items c.put_text.new.sections.items _
          c.text-text.ensures.text c.in_ok-put_text.ensures c.loop-thread.invariant.sections;
    }

pub returns : goal.returns
returns c =
    let texts = c.args.program.now.texts in
    let past : length texts ≤ c.loop-thread.thread = omega (arith, c.thread_count-thread-end.ensures.count) in
    let done = ends texts c.loop-thread.thread past in
    are_graphs texts _ (done.0 _ _ c.loop-thread.invariant.threads) (done.1 _ _ c.loop-thread.invariant.sections)
