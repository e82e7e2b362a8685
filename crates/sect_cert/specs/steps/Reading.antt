-- A line, read from its words.
use Rattle.std.specs.Prelude.{ℕ, if◌then◌else◌, List, [], ◌∷◌, Option, Some, None, option_and_then, codes}
use Rattle.std.specs.{Option.{option_map}, Str.{bytes_eq}}
use Rattle.sect_cert.specs.steps.{Numbers.{ends_with, without_end, number_of}, Certificates.{chain_with}}
use Rattle.sect_cert.specs.steps.{Lists.{list_of}, Chains.{steps_of}}
use Rattle.sect_cert.specs.declared.line.CertLine.{CertLine}
use Rattle.sect_cert.specs.declared.line.CertLine.TheVariants as line

abbrev pub only_number : List (List ℕ) → Option ℕ
only_number (w ∷ []) = number_of w
only_number _ = None

abbrev pub section_of : Option ℕ → Option ℕ → Option CertLine
section_of (Some i) (Some m) = Some (line.Section i m)
section_of _ _ = None

abbrev pub section_line : List (List ℕ) → Option CertLine
section_line (i ∷ s ∷ m ∷ []) = if bytes_eq s (codes "nodes") then section_of (number_of i) (number_of m) else None
section_line _ = None

abbrev pub colon_number : List ℕ → Option ℕ
colon_number w = if ends_with 58 w then number_of (without_end 58 w) else None

abbrev pub node_line : List (List ℕ) → Option CertLine
node_line [] = None
node_line (w ∷ ws) = option_and_then (λ j. option_map (λ ls. line.Node j ls) (list_of ws)) (colon_number w)

abbrev pub chain_line : List (List ℕ) → Option CertLine
chain_line [] = None
chain_line (w ∷ ws) =
    option_and_then (λ l. option_map (λ ss. line.Chain (chain_with l ss)) (steps_of ws)) (colon_number w)

abbrev pub end_line : List (List ℕ) → Option CertLine
end_line [] = Some line.End
end_line _ = None

-- the line that words are
abbrev pub line_of : List (List ℕ) → Option CertLine
line_of [] = None
line_of (h ∷ ws) =
    if bytes_eq h (codes "k") then option_map (λ n. line.K n) (only_number ws) else (
    if bytes_eq h (codes "sections") then option_map (λ n. line.Sections n) (only_number ws) else (
    if bytes_eq h (codes "section") then section_line ws else (
    if bytes_eq h (codes "node") then node_line ws else (
    if bytes_eq h (codes "entry:") then option_map (λ ls. line.Entry ls) (list_of ws) else (
    if bytes_eq h (codes "chain") then chain_line ws else (
    if bytes_eq h (codes "end") then end_line ws else None))))))
