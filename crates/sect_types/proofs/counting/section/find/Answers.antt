use Rattle.std.proofs.Common.{refl, arith}
use Rattle.std.proofs.lemmas.Option.{slice_get_read}
use Rattle.std.specs.Prelude.{length}
use Rattle.sect_types.proofs.LastSections.{numbered_at}
use Rattle.sect_types.proofs.counting.section.find.Goals as goal

pub body_in-requires : goal.body_in-requires
body_in-requires c =
    let texts = c.args.texts.now in
    let i = c.loop-text.text-index in
    numbered_at texts 0 i c.text-item.result c.requires.numbered
    (slice_get_read texts (length texts) i c.text-item.result refl (omega arith) c.text-item.is)
