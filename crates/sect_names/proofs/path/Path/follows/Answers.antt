use Rattle.std.proofs.Common.{◌↔◌, ◌≡◌, subst, true}
use Rattle.sect_lemmas.specs.Lists.{Has}
use Rattle.sect_names.proofs.path.Path.follows.Goals as goal

pub returns : goal.returns
returns c = subst (λ fs. (c.has_field.result ≡ true) ↔ Has fs c.args.field) c.fields.ensures.fields c.has_field.ensures
