use Rattle.std.proofs.{Common.{Vec, Global, sym, ◌∙◌, ap}, lemmas.List.{take_all}}
use Rattle.std.specs.Prelude.{filter}
use Rattle.sect_front.specs.declared.token_kind.TokenKind.{TokenKind}
use Rattle.sect_front.specs.steps.{Places.{takes}, Kinds.{takes_kind}}
use Rattle.sect_front.proofs.ExpectedKinds.{filtered_kept, filtered_left}
use Rattle.sect_front.proofs.expected.Expected.kinds.Goals.{then-takes+in_ok-push, else-takes}
use Rattle.sect_front.proofs.expected.Expected.kinds.Goals as goal

pub loop-kind-preserved : goal.loop-kind-preserved
loop-kind-preserved c =
    let e = c.args.self in
    let all = c.as_slice-kind-items.result.now in
    let is = c.takes.ensures ∙ ap (takes e) c.sample.ensures in
    elim c.if-takes.branch [
      | then-takes+in_ok-push w ↦ filtered_kept (takes_kind e) all c.loop-kind.kind-index _ c.loop-kind.kinds.items
          c.if-takes.kinds.items c.loop-kind-test.true (sym is ∙ w.if-takes.true) c.loop-kind.invariant
          (ap (λ (v : Vec TokenKind Global). v.items) w.kinds-is ∙ w.in_ok-push.ensures.items)
      | else-takes w ↦ (ap (λ (v : Vec TokenKind Global). v.items) w.kinds-is
          ∙ filtered_left (takes_kind e) all c.loop-kind.kind-index _ c.loop-kind.kinds.items c.loop-kind-test.true
          (sym is ∙ w.if-takes.false) c.loop-kind.invariant)
    ]

pub returns : goal.returns
returns c = c.loop-kind.invariant
    ∙ ap (filter (takes_kind c.args.self))
    (take_all c.loop-kind.kind-index c.as_slice-kind-items.result.now c.loop-kind-test.false
    ∙ (c.as_slice-kind-items.ensures ∙ c.all_kinds-all.ensures))
