use Rattle.std.proofs.Common.{◌≡◌, ℕ, ◌+◌, ◌-◌, length, arith, refl, subst}
use Rattle.sect_front.proofs.shared.Rests.{rest_fits}
use Rattle.sect_places.proofs.Placing.{span_from}
use Rattle.sect_places.proofs.Standing.{WordsHere, words_none, words_more, words_tokens, words_spans, words_order}
use Rattle.sect_places.proofs.Standing.{is_some, one_read, read_span}
use Rattle.sect_places.proofs.words.sought_words.Goals as goal

pub loop-passed-init : goal.loop-passed-init
loop-passed-init c =
    rw (c.in_ok-tokens.ensures.items, c.in_ok-spans.ensures.items)
    (words_none c.args.text.bytes.now c.args.tree.now c.args.range.first c.from_token-first.result.here.now
    c.from_token-first.ensures)

pub overflow_sub-start : goal.overflow_sub-start
overflow_sub-start c = rest_fits c.args.text.bytes.now c.loop-passed.here.now c.loop-passed.invariant.stands.rest

pub unreachable-requires : goal.unreachable-requires
unreachable-requires c =
    let h = c.loop-passed.invariant in
    is_some c.args.text.bytes.now c.args.tree.now h.number c.loop-passed.here.now h.stands
    (omega (arith, h.at, c.loop-passed-test.true, c.requires.within)) c.first_token.result c.first_token.ensures.each
    c.in_default.is

pub loop-passed-preserved : goal.loop-passed-preserved
loop-passed-preserved c =
    let source = c.args.text.bytes.now in
    let here = c.loop-passed.here.now in
    let h = c.loop-passed.invariant in
    let read = one_read source c.args.tree.now h.number here h.stands
    (omega (arith, h.at, c.loop-passed-test.true, c.requires.within)) c.first_token.result c.first_token.ensures.each
    c.in-Some.token c.in-Some.count c.in-Some.is in
    let start : ℕ = length source - length here in
    rw (c.after_gap-here.ensures, c.split_at.ensures.back, c.in_ok-push.ensures.items, c.in_ok-push-2.ensures.items)
    (words_more source c.args.tree.now c.args.range.first c.loop-passed._passed here c.loop-passed.tokens.items
    c.loop-passed.spans.items h c.in-Some.token c.in-Some.count (span_from start (start + c.in-Some.count)) read
    (read_span (length source) h.number h.stands.spelled.places here read.first start c.in-Some.count refl read.count))

pub returns-clause-tokens : goal.returns-clause-tokens
returns-clause-tokens c =
    let all : c.loop-passed._passed ≡ c.args.range.count = omega arith in
    words_tokens c.args.text.bytes.now c.args.tree.now c.args.range.first c.args.range.count c.loop-passed.here.now
    c.loop-passed.tokens.items c.loop-passed.spans.items
    (subst (λ n. WordsHere c.args.text.bytes.now c.args.tree.now c.args.range.first n c.loop-passed.here.now
    c.loop-passed.tokens.items c.loop-passed.spans.items) all c.loop-passed.invariant)

pub returns-clause-spans : goal.returns-clause-spans
returns-clause-spans c =
    let all : c.loop-passed._passed ≡ c.args.range.count = omega arith in
    words_spans c.args.text.bytes.now c.args.tree.now c.args.range.first c.args.range.count c.loop-passed.here.now
    c.loop-passed.tokens.items c.loop-passed.spans.items
    (subst (λ n. WordsHere c.args.text.bytes.now c.args.tree.now c.args.range.first n c.loop-passed.here.now
    c.loop-passed.tokens.items c.loop-passed.spans.items) all c.loop-passed.invariant)

pub returns-clause-order : goal.returns-clause-order
returns-clause-order c =
    let all : c.loop-passed._passed ≡ c.args.range.count = omega arith in
    words_order c.args.text.bytes.now c.args.tree.now c.args.range.first c.args.range.count c.loop-passed.here.now
    c.loop-passed.tokens.items c.loop-passed.spans.items
    (subst (λ n. WordsHere c.args.text.bytes.now c.args.tree.now c.args.range.first n c.loop-passed.here.now
    c.loop-passed.tokens.items c.loop-passed.spans.items) all c.loop-passed.invariant)
