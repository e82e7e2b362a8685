-- A line after the first. Cited by `read_cert` and `write_cert`, through the text of a certificate.
use Rattle.std.specs.{Prelude.{ℕ, List, [], ◌∷◌, ◌++◌, codes}, Fmt.{decimal}, List.{join_with_byte}}
use Rattle.sect_cert.specs.{Spelling.{list_words, chain_words}, declared.line.CertLine.{CertLine}}
use Rattle.sect_cert.specs.declared.line.CertLine.TheVariants as line

-- the words of a line
abbrev pub line_words : CertLine → List (List ℕ)
line_words (line.K n) = codes "k" ∷ decimal n ∷ []
line_words (line.Sections n) = codes "sections" ∷ decimal n ∷ []
line_words (line.Section i m) = codes "section" ∷ decimal i ∷ codes "nodes" ∷ decimal m ∷ []
line_words (line.Node j ls) = codes "node" ∷ (decimal j ++ codes ":") ∷ list_words ls
line_words (line.Entry ls) = codes "entry:" ∷ list_words ls
line_words (line.Chain c) = codes "chain" ∷ (decimal c.lock ++ codes ":") ∷ chain_words c.steps
line_words line.End = codes "end" ∷ []

-- its words, joined by blanks
abbrev pub line_text : CertLine → List ℕ
line_text x = join_with_byte 32 (line_words x)
