use Rattle.std.proofs.Common.{map, drop}
use Rattle.std.specs.String.{string_bytes}
use Rattle.sect_lemmas.specs.Lists.{Has}
use Rattle.sect_command.specs.Requests.{input_name}
use Rattle.sect_command.proofs.request.Asked.reads_input.Given as goal

abbrev pub invariant-loop-name : goal.invariant-loop-name
invariant-loop-name l = (Has (map string_bytes l.self.files.items) input_name
    → Has (map string_bytes (drop l.name-index l.self.files.items)) input_name)
