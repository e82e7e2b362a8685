use Rattle.std.proofs.Common.{◌∙◌}
use Rattle.sect_c.proofs.program.c_program.Goals as goal

pub text_of-requires : goal.text_of-requires
text_of-requires c = record {
  keys = c.in_ok-taken.ensures;
  fields = c.as_slice.ensures.value ∙ c.in_ok-fields.ensures;
}

pub returns : goal.returns
returns c = record { taken = c.in_ok-taken.taken; keys = c.in_ok-taken.ensures; spelled = c.in_ok-text.ensures }
