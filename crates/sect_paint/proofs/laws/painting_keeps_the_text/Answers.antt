use Rattle.std.proofs.Common.{[]}
use Rattle.sect_paint.specs.Looks.{tone}
use Rattle.sect_paint.proofs.Cutting.{text_whole}
use Rattle.sect_paint.proofs.laws.painting_keeps_the_text.Goals as goal

pub returns : goal.returns
returns c = λ of text. text_whole of (tone text) [] text
