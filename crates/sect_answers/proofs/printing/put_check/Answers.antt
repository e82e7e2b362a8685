use Rattle.sect_answers.proofs.printing.put_check.Goals as goal

pub returns-in-NotGenerated : goal.returns-in-NotGenerated
returns-in-NotGenerated c = rw c.in-NotGenerated.is c.write.ensures.bytes

pub returns-in-NotCarried : goal.returns-in-NotCarried
returns-in-NotCarried c = rw c.in-NotCarried.is c.write-in-NotCarried.ensures.bytes

pub returns-in-EntryNotCovered : goal.returns-in-EntryNotCovered
returns-in-EntryNotCovered c = rw c.in-EntryNotCovered.is c.write-in-EntryNotCovered.ensures.bytes

pub returns-in-BrokenChain : goal.returns-in-BrokenChain
returns-in-BrokenChain c = rw c.in-BrokenChain.is c.write-in-BrokenChain.ensures.bytes
