use Rattle.sect_json.specs.Sites.{local_json}
use Rattle.sect_json.proofs.Rows.{range_more}
use Rattle.sect_json.proofs.sites.locals_value.Goals as goal

pub loop-local-preserved : goal.loop-local-preserved
loop-local-preserved c =
    range_more (local_json c.args.of.now.compiled.now c.args.thread) c.loop-local.local c.loop-local.values.items
    c.push.new.self.items c.in_ok-local_value.field-0 c.loop-local.invariant c.in_ok-push.ensures.items
    c.in_ok-local_value.ensures
