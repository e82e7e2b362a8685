-- How long a token is.
use Rattle.std.proofs.Common.{◌≡◌, ℕ, List, length, sym, ◌∙◌, ap}
use Rattle.std.proofs.lemmas.List.{length-take-le}
use Rattle.sect_front.specs.{Spelling.{spelling_of}, Lexing.{IsFirst}, declared.token.Token.{Token}}
use Rattle.sect_front.specs.declared.span.Span.{Span}

pub first_length : (t : Token) (n : ℕ) (here : List ℕ) → IsFirst t n here → n ≡ length (spelling_of t)
first_length t n here f = sym (length-take-le n here f.within) ∙ ap length f.spells.is

abbrev pub span_from : ℕ → ℕ → Span
span_from start end = record { start = start; end = end }
