-- Turns of words, one word after another. `add_turns` cites it.
use Rattle.std.specs.Prelude.{◌≡◌, ◌++◌, ℕ, List, [], ◌∷◌}
use Rattle.sect_answers.specs.declared.naming.ThreadWord.{ThreadWord}
use Rattle.sect_command.specs.{Saying.{SaysTurns}, declared.request.Turns.{Turns}}

-- the turns of a word stand behind those of others
pub record AddsTurns (word : List ℕ) (old new : Turns) : Type 0 where
  pub thread : ThreadWord
  pub count : ℕ
  pub says : SaysTurns word thread count
  pub threads : new.threads.items ≡ old.threads.items ++ thread ∷ []
  pub counts : new.counts.items ≡ old.counts.items ++ count ∷ []
