use Rattle.std.proofs.Common.{take}
use Rattle.std.proofs.lemmas.Str.{IsUtf8-from_ascii}
use Rattle.sect_front.proofs.NamesLemmas.{name_ascii}
use Rattle.sect_front.proofs.name.Name.as_str.Goals as goal

pub unreachable-requires : goal.unreachable-requires
unreachable-requires c =
    let name = take c.self.inside.len c.self.inside.bytes in
    c.in_default.ensures.cases.0 (IsUtf8-from_ascii name (name_ascii name c.self.invariant.name))
