-- The forms of the lines after the first. Cited by `read_cert`, where a line has no form that is allowed.
use Rattle.sect_cert.specs.declared.line.CertLine.{CertLine}
use Rattle.sect_cert.specs.declared.line.CertLine.TheVariants as line

pub data Form : Type 0 where
  KForm : Form
  SectionsForm : Form
  SectionForm : Form
  NodeForm : Form
  EntryForm : Form
  ChainForm : Form
  EndForm : Form

abbrev pub form_of : CertLine → Form
form_of (line.K n) = KForm
form_of (line.Sections n) = SectionsForm
form_of (line.Section i m) = SectionForm
form_of (line.Node j ls) = NodeForm
form_of (line.Entry ls) = EntryForm
form_of (line.Chain c) = ChainForm
form_of line.End = EndForm
