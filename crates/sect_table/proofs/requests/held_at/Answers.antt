use Rattle.std.proofs.Common.{arith}
use Rattle.sect_table.proofs.Entries.{number_of-le}
use Rattle.sect_table.proofs.requests.held_at.Goals as goal

pub mode_of-requires-clause-known : goal.mode_of-requires-clause-known
mode_of-requires-clause-known c =
    let le = number_of-le c.args.key c.args.arena.now.entries in
    let number = c.requires.number in
    let apart = c.if-at-key_count.false in
    let count = c.key_count.ensures in
    omega arith
