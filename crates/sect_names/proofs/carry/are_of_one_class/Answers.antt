use Rattle.std.proofs.Common.{◌≡◌, Some, rules}
use Rattle.sect_names.proofs.carry.are_of_one_class.Goals as goal

pub returns-in-Some : goal.returns-in-Some
returns-in-Some c = (
  λ t.
      let is : c.class_of_variable.result ≡ Some c.in-Some.class = search rules in (
        c.in-Some.class,
        (c.class_of.ensures c.in-Some.class).0 c.in-Some.is,
        (c.class_of_variable.ensures c.in-Some.class).0 is,
      ),
  λ h.
      let own = (c.class_of.ensures h.0).1 h.1 in
      let other = (c.class_of_variable.ensures h.0).1 h.2 in
      let first = c.in-Some.is in
      let same : c.in-Some.class ≡ h.0 = cc in
      let is : c.class_of_variable.result ≡ Some c.in-Some.class = cc in
      search rules,
)

pub returns-in-None : goal.returns-in-None
returns-in-None c = (
  λ t. absurd cc,
  λ h. let own = (c.class_of.ensures h.0).1 h.1 in let is = c.in-None.is in
      absurd cc,
)
