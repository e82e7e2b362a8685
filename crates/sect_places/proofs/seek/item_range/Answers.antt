use Rattle.std.proofs.Common.{length}
use Rattle.sect_front.specs.Grammar.{tokens_of}
use Rattle.sect_places.specs.Ranges.{item_tokens}
use Rattle.sect_places.proofs.{Seeking.{parts_fit, item_is, item_left, found_among}, Whole.{ranges_within}}
use Rattle.sect_places.proofs.seek.item_range.Goals as goal

pub seek_parts-requires : goal.seek_parts-requires
seek_parts-requires c =
    parts_fit c.args.tree.now c.records-records.result.now c.globals-globals.result.now c.procedures.result.now
    c.threads.result.now
    c.records-records.ensures c.globals-globals.ensures c.procedures.ensures c.threads.ensures c.args.item
    c.requires.fits

pub unreachable-requires : goal.unreachable-requires
unreachable-requires c =
    item_left c.args.tree.now c.records-records.result.now c.globals-globals.result.now c.procedures.result.now
    c.threads.result.now
    c.records-records.ensures c.globals-globals.ensures c.procedures.ensures c.threads.ensures c.args.item
    c.in-Ok.field-0.items
    c.in-Ok.ensures.behind c.requires.there

pub returns-clause-is : goal.returns-clause-is
returns-clause-is c =
    item_is c.args.tree.now c.records-records.result.now c.globals-globals.result.now c.procedures.result.now
    c.threads.result.now
    c.records-records.ensures c.globals-globals.ensures c.procedures.ensures c.threads.ensures c.args.item
    c.in-Err.range
    c.in-Err.ensures.found

pub returns-clause-some : goal.returns-clause-some
returns-clause-some c =
    (found_among (length (tokens_of c.args.tree.now)) (item_tokens c.args.tree.now) c.args.item c.in-Err.range
    (ranges_within c.args.tree.now)
    (item_is c.args.tree.now c.records-records.result.now c.globals-globals.result.now c.procedures.result.now
    c.threads.result.now
    c.records-records.ensures c.globals-globals.ensures c.procedures.ensures c.threads.ensures c.args.item
    c.in-Err.range
    c.in-Err.ensures.found)).0

pub returns-clause-within : goal.returns-clause-within
returns-clause-within c =
    (found_among (length (tokens_of c.args.tree.now)) (item_tokens c.args.tree.now) c.args.item c.in-Err.range
    (ranges_within c.args.tree.now)
    (item_is c.args.tree.now c.records-records.result.now c.globals-globals.result.now c.procedures.result.now
    c.threads.result.now
    c.records-records.ensures c.globals-globals.ensures c.procedures.ensures c.threads.ensures c.args.item
    c.in-Err.range
    c.in-Err.ensures.found)).1
