use Rattle.std.proofs.Common.{arith, refl}
use Rattle.sect_front.specs.Tokens.{record_tokens, records_tokens}
use Rattle.sect_front.proofs.Loops.{next}
use Rattle.sect_front.proofs.listing.put_records.Goals as goal

pub loop-record-preserved : goal.loop-record-preserved
loop-record-preserved c =
    let i = c.loop-record.record-index in
    next records_tokens record_tokens c.args.records.now i c.record-item.result _ c.loop-record.out.items _
    (omega arith) c.record-item.is (λ y ys w. refl) c.loop-record.invariant c.in_ok-put_record.ensures
