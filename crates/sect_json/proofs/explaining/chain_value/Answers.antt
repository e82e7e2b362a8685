use Rattle.std.proofs.Common.{List, sym, subst}
use Rattle.sect_lemmas.specs.Lists.{Has}
use Rattle.sect_names.specs.{declared.link.Link.{Link}, Printing.{IsNamed}}
use Rattle.sect_emit.specs.Compiled.{program_of}
use Rattle.sect_json.proofs.explaining.chain_value.Goals as goal

pub steps_value-requires-clause-named : goal.steps_value-requires-clause-named
steps_value-requires-clause-named c =
    subst (λ (links : List Link). (a : Link) → Has links a → IsNamed (program_of c.args.compiled.now) a.lock)
    (sym c.links.ensures) c.requires.named.1
