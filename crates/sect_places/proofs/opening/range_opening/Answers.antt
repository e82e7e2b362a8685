use Rattle.std.proofs.Common.{◌≡◌, ℕ, ◌+◌, ◌-◌, length, arith, refl, subst}
use Rattle.sect_front.proofs.shared.Rests.{rest_fits}
use Rattle.sect_places.proofs.{Placing.{span_from}, Standing.{sought_none, is_some, one_read, read_span}}
use Rattle.sect_places.proofs.FirstTokens.{OpenedHere, values_fit, one_more, opening_more, opened_none, opened_more}
use Rattle.sect_places.proofs.FirstTokens.{opened_all}
use Rattle.sect_places.proofs.shared.Fitting.{tokens_fit}
use Rattle.sect_places.proofs.opening.range_opening.Goals as goal

pub from_token-first-requires-clause-sought : goal.from_token-first-requires-clause-sought
from_token-first-requires-clause-sought c =
    rw (c.new-sought.ensures.here, c.new-sought.ensures.left)
    (sought_none c.args.text.bytes.now c.args.tree.now c.args.range.first c.requires.spelled)

pub loop-passed-init : goal.loop-passed-init
loop-passed-init c =
    rw (c.new-tokens.ensures.items, c.new-spans.ensures.items)
    (opened_none c.args.text.bytes.now c.args.tree.now c.args.range.first c.from_token-first.result.here.now
    c.from_token-first.ensures)

pub overflow_sub-start : goal.overflow_sub-start
overflow_sub-start c =
    rest_fits c.args.text.bytes.now c.loop-passed.here.now c.loop-passed.invariant.words.stands.rest

pub unreachable-requires : goal.unreachable-requires
unreachable-requires c =
    let h = c.loop-passed.invariant.words in
    is_some c.args.text.bytes.now c.args.tree.now h.number c.loop-passed.here.now h.stands
    (omega (arith, h.at, c.loop-passed-test.true, c.requires.within)) c.first_token.result c.first_token.ensures.each
    c.in_default.is

pub overflow_add-values : goal.overflow_add-values
overflow_add-values c =
    let o = c.loop-passed.invariant in
    let start : ℕ = length c.args.text.bytes.now - length c.loop-passed.here.now in
    let last = span_from start (start + c.in-Some.count) in
    let put = c.in_ok-more.ensures in
    omega (
      arith,
      values_fit o.tokens o.spans c.loop-passed.tokens.items c.loop-passed.spans.items c.loop-passed.values
          c.loop-passed.last o.opening,
      one_more o.tokens o.spans c.loop-passed.tokens.items c.loop-passed.spans.items c.loop-passed.values
          c.loop-passed.last o.opening c.in-Some.token last c.put_token.new.tokens.items c.put_token.new.spans.items
          c.in_ok-more.more put.few put.many put.first put.counted,
      o.count,
      c.loop-passed-test.true,
      c.requires.within,
      tokens_fit c.args.text.bytes.now c.args.tree.now c.requires.spelled,
    )

pub loop-passed-preserved : goal.loop-passed-preserved
loop-passed-preserved c =
    let source = c.args.text.bytes.now in
    let tree = c.args.tree.now in
    let here = c.loop-passed.here.now in
    let kept = c.loop-passed.tokens.items in
    let places = c.loop-passed.spans.items in
    let o = c.loop-passed.invariant in
    let h = o.words in
    let token = c.in-Some.token in
    let count = c.in-Some.count in
    let read = one_read source tree h.number here h.stands
    (omega (arith, h.at, c.loop-passed-test.true, c.requires.within)) c.first_token.result c.first_token.ensures.each
    token count c.in-Some.is in
    let start : ℕ = length source - length here in
    let span = span_from start (start + count) in
    let put = c.in_ok-more.ensures in
    let new = c.put_token.new.tokens.items in
    let after = c.put_token.new.spans.items in
    rw (c.after_gap-here.ensures, c.split_at.ensures.back)
    (opened_more source tree c.args.range.first c.loop-passed._passed here kept places c.loop-passed.values
    c.loop-passed.last o token count span read
    (read_span (length source) h.number h.stands.spelled.places here read.first start count refl read.count)
    new after c.in_ok-more.more
    (opening_more o.tokens o.spans kept places c.loop-passed.values c.loop-passed.last o.opening token span new after
    c.in_ok-more.more put.few put.many put.first put.counted))

pub returns-clause-opening : goal.returns-clause-opening
returns-clause-opening c = λ spelled.
    let all : c.loop-passed._passed ≡ c.args.range.count = omega arith in
    (opened_all c.args.text.bytes.now c.args.tree.now c.args.range.first c.args.range.count c.loop-passed.here.now
    c.loop-passed.tokens.items c.loop-passed.spans.items c.loop-passed.values c.loop-passed.last
    (subst (λ n. OpenedHere c.args.text.bytes.now c.args.tree.now c.args.range.first n c.loop-passed.here.now
    c.loop-passed.tokens.items c.loop-passed.spans.items c.loop-passed.values c.loop-passed.last) all
    c.loop-passed.invariant) spelled).0

pub returns-clause-order : goal.returns-clause-order
returns-clause-order c = λ spelled.
    let all : c.loop-passed._passed ≡ c.args.range.count = omega arith in
    (opened_all c.args.text.bytes.now c.args.tree.now c.args.range.first c.args.range.count c.loop-passed.here.now
    c.loop-passed.tokens.items c.loop-passed.spans.items c.loop-passed.values c.loop-passed.last
    (subst (λ n. OpenedHere c.args.text.bytes.now c.args.tree.now c.args.range.first n c.loop-passed.here.now
    c.loop-passed.tokens.items c.loop-passed.spans.items c.loop-passed.values c.loop-passed.last) all
    c.loop-passed.invariant) spelled).1
