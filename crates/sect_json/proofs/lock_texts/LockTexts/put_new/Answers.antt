use Rattle.std.proofs.Common.{◌∙◌, ap}
use Rattle.serde_json.specs.Written.{has_float}
use Rattle.sect_json.proofs.PlainLocks.{plain_lock}
use Rattle.sect_json.proofs.lock_texts.LockTexts.put_new.Goals as goal

pub put_value-requires : goal.put_value-requires
put_value-requires c =
    ap has_float c.in_ok-lock_value.ensures ∙ plain_lock c.args.program.now.source c.args.lock.now
