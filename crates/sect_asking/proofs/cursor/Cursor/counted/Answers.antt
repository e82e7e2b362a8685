use Rattle.sect_asking.specs.Phrases.{sign_spot}
use Rattle.sect_asking.proofs.Passing.{both_read}
use Rattle.sect_asking.specs.declared.mark.Sign.TheVariants as sign
use Rattle.sect_asking.proofs.cursor.Cursor.counted.Goals as goal

pub returns-then-takes-clause-reads : goal.returns-then-takes-clause-reads
returns-then-takes-clause-reads c start h =
    both_read (sign_spot sign.Hash) (sign_spot sign.Print) start c.args.self.now.here c.takes.new.self.here h
    (c.takes.ensures.taken c.if-takes.true)
