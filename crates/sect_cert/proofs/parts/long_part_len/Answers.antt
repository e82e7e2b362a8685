use Rattle.sect_cert.proofs.CutTexts.{found_front, missed_front}
use Rattle.sect_cert.proofs.parts.long_part_len.Goals as goal

pub returns-in-Some : goal.returns-in-Some
returns-in-Some c = found_front c.args.mark c.args.bytes.now c.in-Some.len c.in-Some.ensures.0 c.in-Some.ensures.1

pub returns-in-None : goal.returns-in-None
returns-in-None c = missed_front c.args.mark c.args.bytes.now c.in-None.ensures
