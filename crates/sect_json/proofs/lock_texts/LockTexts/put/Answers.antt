use Rattle.std.proofs.lemmas.Result.{on_ok_weaker}
use Rattle.sect_json.proofs.LockTexts.{text_told, text_within}
use Rattle.sect_json.proofs.lock_texts.LockTexts.put.Goals as goal

pub put_old-requires : goal.put_old-requires
put_old-requires c =
    text_within c.args.program.now.source c.args.self.now.keys c.args.self.now.texts c.in-Some.number c.args.lock.now
    c.requires.told c.in-Some.ensures

pub returns-in-Some-clause-text : goal.returns-in-Some-clause-text
returns-in-Some-clause-text c =
    on_ok_weaker c.put_old.result (λ h. h _ (text_told c.args.program.now.source c.args.self.now.keys
    c.args.self.now.texts c.in-Some.number c.args.lock.now c.requires.told c.in-Some.ensures)) c.put_old.ensures
