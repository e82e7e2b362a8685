use Rattle.sect_hints.proofs.FaultLaws.{only, refuses}
use Rattle.sect_hints.proofs.hints.guards.Goals as goal

pub returns-clause-only : goal.returns-clause-only
returns-clause-only c = only _ c.args.program.now c.judge.result c.judge.ensures.judges

pub returns-clause-refuses : goal.returns-clause-refuses
returns-clause-refuses c = refuses _ c.args.program.now c.judge.result c.judge.ensures.judges
