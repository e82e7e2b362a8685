use Rattle.std.proofs.Common.{◌≡◌, ◌++◌, [], take}
use Rattle.std.specs.List.{AllByRecursion}
use Rattle.sect_cert.specs.Texts.{IsChain, chains_lines, lines_text}
use Rattle.sect_chains.specs.Numbered.{chains_in}
use Rattle.sect_emit.specs.{Words.{chains_words}, steps.Known.{AreKnown}}
use Rattle.sect_emit.proofs.words.put_chains.Given as goal

abbrev pub invariant-loop-lock : goal.invariant-loop-lock
invariant-loop-lock l = record {
  lines : l.out.items ≡ l.fn.out.items
      ++ lines_text (chains_lines (chains_words l.program.source 0 (take l.lock (chains_in l.chains))) []);
  good : AllByRecursion IsChain (chains_words l.program.source 0 (take l.lock (chains_in l.chains)));
  known : AreKnown l.program.source l.chains.keys l.known;
}
