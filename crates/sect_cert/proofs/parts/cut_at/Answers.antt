use Rattle.sect_cert.proofs.CutTexts.{cut_then, cut_else}
use Rattle.sect_cert.proofs.parts.cut_at.Goals as goal

pub returns-then-len-bytes : goal.returns-then-len-bytes
returns-then-len-bytes c = rw (
  c.split_at.ensures.front,
  c.split_at-then-len-bytes.ensures.back,
  c.split_at.ensures.back,
) (cut_then c.args.mark c.args.len c.args.bytes.now c.requires
    c.if-len-bytes.true)

pub returns-else-len-bytes : goal.returns-else-len-bytes
returns-else-len-bytes c = cut_else c.args.mark c.args.len c.args.bytes.now c.requires
    c.if-len-bytes.false
