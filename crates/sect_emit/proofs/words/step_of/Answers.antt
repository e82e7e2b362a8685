use Rattle.std.proofs.{Common.{◌∙◌, get_or, ap}, lemmas.Option.{slice_get-get_or}}
use Rattle.sect_lemmas.proofs.{Listing.{Has-map}, Membership.{Has-get_or}, Places.{one_at}}
use Rattle.sect_infer.specs.Numberings.{lock_at}
use Rattle.sect_chains.specs.{declared.numbered.NumberedStep.{NumberedStep}, Numbered.{step_link, links_by}}
use Rattle.sect_emit.specs.Words.{lock_words, step_words}
use Rattle.sect_emit.proofs.Stepping.{linked_at, same_step}
use Rattle.sect_emit.proofs.words.step_of.Goals as goal

pub named-requires-clause-there : goal.named-requires-clause-there
named-requires-clause-there c =
    let steps = c.args.chain.steps.now in
    let i = c.args.index in
    let none : NumberedStep = record { node = 0; number = 0 } in
    c.requires.locks (get_or steps i none) (Has-get_or steps i none c.requires.there)

pub named-requires-clause-named : goal.named-requires-clause-named
named-requires-clause-named c =
    let steps = c.args.chain.steps.now in
    let keys = c.args.chain.chains.now.keys in
    let i = c.args.index in
    let none : NumberedStep = record { node = 0; number = 0 } in
    let x = get_or steps i none in
    c.requires.named.1 (step_link keys x)
    (Has-map (step_link keys) steps x (Has-get_or steps i none c.requires.there))

pub returns-clause-words : goal.returns-clause-words
returns-clause-words c = λ link at_link.
    let t = c.args.program.now.source in
    let steps = c.args.chain.steps.now in
    let keys = c.args.chain.chains.now.keys in
    let i = c.args.index in
    let none : NumberedStep = record { node = 0; number = 0 } in
    let x = get_or steps i none in
    let at = slice_get-get_or steps i none c.requires.there in
    let e = c.step-2.ensures in
    same_step c.step-2.result x.node (lock_words t (lock_at keys x.number)) (e.node ∙ c.from-2.ensures)
    (e.lock ∙ c.in_ok-lock-2.ensures.words)
    ∙ ap (step_words t) (one_at (links_by keys steps) i (step_link keys x) link (linked_at keys steps i x at) at_link)
