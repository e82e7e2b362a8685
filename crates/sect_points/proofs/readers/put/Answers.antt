use Rattle.sect_points.proofs.ReaderLaws.{put_into, put_there}
use Rattle.sect_points.proofs.readers.put.Goals as goal

pub returns-then-has : goal.returns-then-has
returns-then-has c = put_there c.args.rows.now.items c.args.row c.args.placed.now c.index.result.now c.requires
    c.index.ensures (c.has.ensures c.if-has.true)

pub returns : goal.returns
returns c = put_into c.push.result c.args.rows.now.items c.args.row c.args.placed.now c.index_mut.result.now
    c.push.new.self c.requires c.index_mut.ensures.value c.push.ensures
