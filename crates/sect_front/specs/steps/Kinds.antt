-- Which kinds of tokens may stand at a place.
use Rattle.std.specs.Prelude.{Bool}
use Rattle.sect_front.specs.{declared.token_kind.TokenKind.{TokenKind}, Samples.{sample_of}, steps.Places.{takes}}
use Rattle.sect_front.specs.declared.expected.Expected.{Expected}

-- a token of that kind may stand there
abbrev pub takes_kind : Expected → TokenKind → Bool
takes_kind e k = takes e (sample_of k)
