-- A certificate and the source text behind it, in one input. `split` cites it.
use Rattle.std.specs.Prelude.{◌≡◌, ◌⊎◌, ℕ, List, [], ◌∷◌, ◌++◌, codes}
use Rattle.sect_lemmas.specs.Lists.{Has}
use Rattle.sect_cert.specs.Texts.{fed}

-- the text begins with these lines, each with its line feed and none inside, and the rest follows
pub record BeginsWith (text : List ℕ) (lines : List (List ℕ)) (rest : List ℕ) : Type 0 where
  pub whole : (line : List ℕ) → Has lines line → Has line 10 → ⊥
  pub begins : text ≡ fed lines ++ rest

-- the last of these lines is exactly `end`
abbrev pub with_end : List (List ℕ) → List (List ℕ)
with_end lines = lines ++ codes "end" ∷ []

-- the text is lines of which only the last is exactly `end`
pub record EndsOnce (text : List ℕ) : Type 0 where
  pub lines : List (List ℕ)
  pub all : BeginsWith text (with_end lines) []
  pub first : Has lines (codes "end") → ⊥

-- some line of the text is exactly `end`
pub record HasEnd (text : List ℕ) : Type 0 where
  pub lines : List (List ℕ)
  pub rest : List ℕ
  pub begins : BeginsWith text (with_end lines) rest

-- the input is the certificate and then the source: the certificate goes through the first line that is exactly `end`;
-- where no line is, it is everything
pub record IsSplit (input cert source : List ℕ) : Type 0 where
  pub joined : input ≡ cert ++ source
  pub cut : EndsOnce cert ⊎ ((HasEnd input → ⊥) × (source ≡ []))
