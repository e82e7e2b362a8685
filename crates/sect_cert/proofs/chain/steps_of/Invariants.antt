use Rattle.std.proofs.Common.{◌≡◌, [], length}
use Rattle.std.specs.Prelude.{IfSome}
use Rattle.sect_cert.specs.steps.Chains.{walk_on, chain_state, WasRead}
use Rattle.sect_cert.specs.declared.chain.ChainWord.TheVariants as due
use Rattle.sect_cert.proofs.chain.steps_of.Given as goal

abbrev pub invariant-loop-word : goal.invariant-loop-word
invariant-loop-word l = record {
  walked : walk_on (chain_state l.steps l.walk.spot) l.words ≡ walk_on (chain_state [] due.Node) l.initial.words;
  last : IfSome l.walk.last (λ was. WasRead l.steps was.mode was.word.now);
}

abbrev pub decreases-loop-word : goal.decreases-loop-word
decreases-loop-word l = length l.words
