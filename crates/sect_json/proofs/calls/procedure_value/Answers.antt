use Rattle.std.proofs.Common.{length, sym, subst}
use Rattle.sect_places.specs.NodeSpans.{IsCallWithin}
use Rattle.sect_json.proofs.Sited.{found_within}
use Rattle.sect_json.proofs.calls.procedure_value.Goals as goal

pub bytes_value-requires : goal.bytes_value-requires
bytes_value-requires c =
    let of = c.args.of.now in
    subst (IsCallWithin (length of.source.now)) (sym c.found_bytes-declared.ensures)
    (found_within (length of.source.now) of.names.now c.requires c.procedure_of.result)
