use Rattle.std.proofs.Common.{◌≡◌, ◌++◌, drop}
use Rattle.std.specs.{String.{string_bytes}, List.{flat_map}}
use Rattle.sect_emit.specs.Explaining.{step_line, lock_line}
use Rattle.sect_emit.proofs.explaining.put_chain.Given as goal

abbrev pub invariant-loop-link : goal.invariant-loop-link
invariant-loop-link l = (let s = l.section in
    let line = step_line s.program.now.source s.thread s.flow.now s.lines.now l.width in
    string_bytes l.text ++ flat_map line (drop l.link-index l.chain) ≡ (string_bytes l.fn.text
    ++ lock_line s.program.now.source l.chain) ++ flat_map line l.chain)
