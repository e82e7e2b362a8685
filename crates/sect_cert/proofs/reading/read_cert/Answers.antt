use Rattle.sect_cert.proofs.Versions.{only, refuses}
use Rattle.sect_cert.proofs.reading.read_cert.Goals as goal

pub returns-clause-only : goal.returns-clause-only
returns-clause-only c = only c.args.bytes.now c.judge.result c.judge.ensures

pub returns-clause-refuses : goal.returns-clause-refuses
returns-clause-refuses c = refuses c.args.bytes.now c.judge.result c.judge.ensures
