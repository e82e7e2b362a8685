use Rattle.std.proofs.{Common.{◌≡◌, None, sym, subst, arith}, lemmas.Option.{slice_get_within}}
use Rattle.std.proofs.lemmas.Result.{on_ok_weaker}
use Rattle.sect_names.specs.Chains.{link}
use Rattle.sect_chains.specs.steps.{Keeping.{KeptView}, Working.{links_of, nexts_of, kept_of, Grows}}
use Rattle.sect_chains.specs.steps.Ordering.{links_in, nexts_in, Adds}
use Rattle.sect_chains.proofs.{Adding.{put_adds}, Carrying.{put_one, generated_within}}
use Rattle.sect_chains.proofs.work.Searched.put.Goals as goal

pub keep-requires-clause-node : goal.keep-requires-clause-node
keep-requires-clause-node c =
    let a = c.args.self in
    let old = c.args.trail.now in
    generated_within a.scheme.now a.thread a.last.now a.flow.now old.numbering (kept_of old)
    (link c.args.node c.args.lock.now) c.requires.work c.requires.generated

pub keep-requires-clause-count : goal.keep-requires-clause-count
keep-requires-clause-count c = c.in_ok-number.ensures.numbering.count

pub keep-requires-clause-number : goal.keep-requires-clause-number
keep-requires-clause-number c =
    let t = c.number.new.self in
    let within = slice_get_within t.keys c.in_ok-number.number c.args.lock.now c.in_ok-number.ensures.there in
    omega (arith, within, c.in_ok-number.ensures.numbering.count)

pub returns-clause-kept : goal.returns-clause-kept
returns-clause-kept c =
    let a = c.args.self in
    let s = a.scheme.now in
    let g = a.flow.now in
    let old = c.args.trail.now in
    let t = c.number.new.self in
    let j = c.args.node in
    let l = c.args.lock.now in
    let n = c.in_ok-number.number in
    let grown = put_one s a.thread a.last.now g old.numbering (kept_of old)
    t j l n c.requires.work c.in_ok-number.ensures
    c.requires.generated
    (generated_within s a.thread a.last.now g old.numbering (kept_of old) (link j l) c.requires.work
    c.requires.generated) in
    on_ok_weaker c.keep.result (λ is. subst (λ v. Grows s a.thread a.last.now g old.numbering (kept_of old) t v
    (λ x. x ≡ link j l)) (sym is) grown) c.keep.ensures

pub returns-clause-order : goal.returns-clause-order
returns-clause-order c =
    let a = c.args.self in
    let s = a.scheme.now in
    let g = a.flow.now in
    let old = c.args.trail.now in
    let t = c.number.new.self in
    let j = c.args.node in
    let l = c.args.lock.now in
    let n = c.in_ok-number.number in
    let added = put_adds s a.thread a.last.now g old.numbering t (kept_of old) j l n c.requires.work
    c.in_ok-number.ensures c.requires.generated
    (generated_within s a.thread a.last.now g old.numbering (kept_of old) (link j l) c.requires.work
    c.requires.generated) c.requires.sorted c.requires.before in
    on_ok_weaker c.keep.result (λ is. subst (λ (v : KeptView). Adds s (links_in old) (nexts_in old)
    (links_of t.keys v.steps) (nexts_of v.steps) None (λ x. x ≡ link j l) (λ x. x ≡ link j l)) (sym is) added)
    c.keep.ensures
