use Rattle.std.proofs.Common.{◌≡◌, length}
use Rattle.sect_lemmas.specs.Lists.{Has}
use Rattle.sect_names.specs.declared.link.Link.{Link}
use Rattle.sect_chains.specs.declared.work.Trail.{Trail}
use Rattle.sect_chains.specs.steps.Working.{kept_of, IsGeneratedBelow}
use Rattle.sect_chains.proofs.{Spreading.{below_before, begins}, Growing.{grows_found}, Carrying.{generated_all}}
use Rattle.sect_chains.proofs.work.Searched.generated.Goals as goal

pub returns-clause-all : goal.returns-clause-all
returns-clause-all c =
    let a = c.args.self in
    let s = a.scheme.now in
    let t = a.thread in
    let last = a.last.now in
    let g = a.flow.now in
    let mid = c.put_by_nodes.new.trail in
    let new = c.put_at_end.new.trail in
    generated_all s t last g mid.numbering (kept_of mid) new.numbering (kept_of new)
    c.in_ok-put_by_nodes.ensures.kept.each
    (grows_found s t last g mid.numbering (kept_of mid) new.numbering (kept_of new) (λ (x : Link). (x.node ≡ length g)
    × Has last x.lock) c.in_ok-put_at_end.ensures.kept)
    c.in_ok-put_at_end.ensures.kept

pub put_at_end-requires-clause-before : goal.put_at_end-requires-clause-before
put_at_end-requires-clause-before c = λ l.
    let a = c.args.self in
    let s = a.scheme.now in
    let g = a.flow.now in
    let first : Trail =
    record { numbering = c.in_ok-numbering.numbering; found = c.in_ok-found.found; steps = c.in_ok-steps.steps } in
    below_before s a.thread a.last.now g first c.put_by_nodes.new.trail c.in_ok-steps.ensures.items (length g)
    (IsGeneratedBelow s a.thread g (length g)) c.in_ok-put_by_nodes.ensures.order l

pub returns-clause-order : goal.returns-clause-order
returns-clause-order c =
    let a = c.args.self in
    let first : Trail =
    record { numbering = c.in_ok-numbering.numbering; found = c.in_ok-found.found; steps = c.in_ok-steps.steps } in
    begins a.scheme.now a.thread a.last.now a.flow.now first c.put_by_nodes.new.trail
    c.put_at_end.new.trail c.in_ok-steps.ensures.items c.in_ok-put_by_nodes.ensures.order
    c.in_ok-put_at_end.ensures.order
