use Rattle.std.proofs.{Common.{sym, arith}, lemmas.List.{take_all}}
use Rattle.sect_lsp.specs.declared.limits.TheConstants.{MOST_HEADER}
use Rattle.sect_lsp.proofs.framing.first_bytes.Goals as goal

pub returns-then-bytes-lt-MOST_HEADER-clause-first : goal.returns-then-bytes-lt-MOST_HEADER-clause-first
returns-then-bytes-lt-MOST_HEADER-clause-first c = sym (take_all MOST_HEADER c.args.bytes.now (omega arith))
