use Rattle.std.proofs.Common.{◌≡◌, ◌∙◌, ◌++◌, ◌==◌, [], not, set, length, arith, ap, subst}
use Rattle.std.specs.Prelude.{slice_index_or}
use Rattle.sect_infer.specs.steps.Working.{IsFreshPut}
use Rattle.sect_infer.proofs.{Highest.{fresh_all}, Visiting.{tested_none, tested_some}}
use Rattle.sect_infer.proofs.work.put_fresh.Goals as goal

pub returns-then-has_none_above : goal.returns-then-has_none_above
returns-then-has_none_above c =
    let more = c.args.found.more.now in
    let lists = c.args.lists.now in
    let j = c.args.node in
    let all = fresh_all c.args.numbering.now.above c.args.found.all.now more
    (c.has_none_above.ensures c.if-has_none_above.true) in
    subst (λ ns. IsFreshPut lists c.extend.new.self j ns (not c.is_empty.result)) all (record {
      changed = c.in_ok-extend.ensures;
      none = tested_none more c.is_empty.result c.is_empty.ensures;
      some = tested_some more c.is_empty.result c.is_empty.ensures;
    })

pub returns : goal.returns
returns c =
    let items = c.in_ok-fresh.fresh.items in
    let lists = c.args.lists.now in
    let j = c.args.node in
    let tested : c.is_empty-2.result ≡ (length items == 0) =
    c.is_empty-2.ensures ∙ ap (λ n. n == 0) (omega (arith, c.in_ok-fresh.fresh.ok.0)) in
    subst (λ ns. IsFreshPut lists c.extend-2.new.self j ns (not c.is_empty-2.result)) c.in_ok-fresh.ensures (record {
      changed = c.in_ok-extend-2.ensures
          ∙ ap (λ xs. set lists j (slice_index_or lists j [] ++ xs)) c.as_slice.ensures.value;
      none = tested_none items c.is_empty-2.result tested;
      some = tested_some items c.is_empty-2.result tested;
    })
