use Rattle.std.proofs.Common.{◌≡◌, ◌<◌, Some, length, ap, ◌∙◌, arith}
use Rattle.std.proofs.lemmas.Option.{slice_get_within, get_or_from_slice_get}
use Rattle.std.specs.{Prelude.{slice_get}, Option.{is_some}}
use Rattle.sect_lemmas.specs.Lists.{Has}
use Rattle.sect_chains.proofs.{Places.{read_at}, Chaining.{some_found, found_is, lock_there, start_there, start_is}}
use Rattle.sect_names.specs.Chains.{link}
use Rattle.sect_chains.specs.steps.Working.{links_of}
use Rattle.sect_chains.proofs.section.start_of.Goals.{After-unwrap}
use Rattle.sect_chains.proofs.section.start_of.Goals as goal

pub unwrap-number-requires : goal.unwrap-number-requires
unwrap-number-requires c =
    let trail = c.args.trail.now in
    let l = c.args.lock.now in
    some_found (Has trail.numbering.keys l) c.find.result (λ n. slice_get trail.numbering.keys n ≡ Some l)
    c.find.ensures
    (lock_there trail.numbering.keys trail.steps.items l c.requires.numbers c.requires.there)

pub index-requires : goal.index-requires
index-requires c =
    let keys = c.args.trail.now.numbering.keys in
    let at = found_is (Has keys c.args.lock.now) c.find.result c.unwrap-number.result
    (λ n. slice_get keys n ≡ Some c.args.lock.now) c.unwrap-number.ensures c.find.ensures in
    let within = slice_get_within keys c.unwrap-number.result c.args.lock.now at in
    omega (arith, within, c.requires.starts.counted)

pub unwrap-requires : goal.unwrap-requires
unwrap-requires c =
    let trail = c.args.trail.now in
    let keys = trail.numbering.keys in
    let l = c.args.lock.now in
    let n = c.unwrap-number.result in
    let starts = c.args.starts.now.items in
    let at = found_is (Has keys l) c.find.result n (λ m. slice_get keys m ≡ Some l) c.unwrap-number.ensures
    c.find.ensures in
    let k = start_there keys trail.steps.items l c.requires.numbers c.requires.there starts c.requires.starts
    c.requires.apart n at in
    ap is_some (c.index.ensures ∙ get_or_from_slice_get starts n (Some k.0) c.index.result.now k.1)

-- what is told is where the lock's step stands
told : (c : After-unwrap)
    → (c.unwrap.result < length c.args.trail.now.steps.items)
    × (slice_get (links_of c.args.trail.now.numbering.keys c.args.trail.now.steps.items) c.unwrap.result
    ≡ Some (link 0 c.args.lock.now))
told c =
    let trail = c.args.trail.now in
    let keys = trail.numbering.keys in
    let l = c.args.lock.now in
    let n = c.unwrap-number.result in
    let starts = c.args.starts.now.items in
    let at = found_is (Has keys l) c.find.result n (λ m. slice_get keys m ≡ Some l) c.unwrap-number.ensures
    c.find.ensures in
    let within : n < length starts = omega (arith, slice_get_within keys n l at, c.requires.starts.counted) in
    let got = read_at starts n c.index.result.now (Some c.unwrap.result) within c.index.ensures c.unwrap.ensures in
    start_is keys trail.steps.items l c.requires.numbers c.requires.there starts c.requires.starts c.requires.apart n
    at c.unwrap.result got

pub returns-clause-within : goal.returns-clause-within
returns-clause-within c = (told c).0

pub returns-clause-first : goal.returns-clause-first
returns-clause-first c = (told c).1
