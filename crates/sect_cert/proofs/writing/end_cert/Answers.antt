use Rattle.sect_cert.proofs.WriteLaws.{cert_written}
use Rattle.sect_cert.proofs.writing.end_cert.Goals as goal

pub returns : goal.returns
returns c = λ cert. cert_written cert c.args.out.now.items _ c.in_ok-extend_from_slice.ensures.items
