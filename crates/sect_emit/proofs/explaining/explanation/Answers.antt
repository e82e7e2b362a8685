use Rattle.std.proofs.Common.{map}
use Rattle.std.specs.String.{string_bytes}
use Rattle.sect_emit.proofs.Explained.{one_explained}
use Rattle.sect_emit.proofs.explaining.explanation.Goals as goal

pub loop-section-preserved : goal.loop-section-preserved
loop-section-preserved c =
    let put = c.in_ok-put_explained_section.ensures in
    one_explained c.args.compiled.now (map (λ v. v.items) c.args.lines.now) c.loop-section.section
    (string_bytes c.loop-section.text)
    (string_bytes c.put_explained_section.new.text) c.loop-section.invariant put.0 put.1 put.2
