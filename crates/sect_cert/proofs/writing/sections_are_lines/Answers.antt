use Rattle.sect_cert.proofs.WriteLaws.{section_of_lines}
use Rattle.sect_cert.proofs.writing.sections_are_lines.Goals as goal

pub returns : goal.returns
returns c = section_of_lines
