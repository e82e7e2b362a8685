use Rattle.std.proofs.Common.{subst}
use Rattle.sect_asking.specs.{Phrases.{plain_spot, number_spot}, Asking.{asks_word}, steps.Reading.{Reads}}
use Rattle.sect_asking.proofs.Passing.{both_read}
use Rattle.sect_asking.specs.declared.cursor.Asks.TheVariants as asks
use Rattle.sect_asking.proofs.cursor.Cursor.asked.Goals as goal

pub returns-in_ok-number-in-Outcomes-clause-reads : goal.returns-in_ok-number-in-Outcomes-clause-reads
returns-in_ok-number-in-Outcomes-clause-reads c start h =
    both_read (plain_spot (asks_word asks.Outcomes)) (number_spot c.in_ok-number-in-Outcomes.field-0) start
    c.args.self.now.here c.number.new.self.here
    (subst (λ a. Reads (plain_spot (asks_word a)) start c.args.self.now.here) c.in-Outcomes.is h)
    c.in_ok-number-in-Outcomes.ensures
