use Rattle.std.proofs.Common.{◌≡◌, ◌<◌, ◌+◌, ◌∙◌, ◌++◌, ◌∷◌, [], Some, length, take, refl, sym, ap, subst}
use Rattle.std.proofs.{Common.{arith, append-nil}, lemmas.Slice.Zip.{AllZip-long}}
use Rattle.std.proofs.lemmas.{List.{length-map}, Option.{slice_get-get_or, slice_get-map, get_or_from_slice_get}}
use Rattle.std.specs.{Prelude.{slice_get}, Option.{option_map}, List.{AllByRecursion}}
use Rattle.sect_lemmas.proofs.{Membership.{Has-slice_get}, Places.{one_at, each_at, zipped_at}}
use Rattle.sect_cert.specs.Texts.{IsLock, IsChain, chains_lines, lines_text}
use Rattle.sect_cert.proofs.shared.Lines.{next_chain as one_chain}
use Rattle.sect_chains.specs.Numbered.{links_by, chains_in}
use Rattle.sect_emit.specs.{Words.{chains_words}, steps.Known.{IsFirstNamed}}
use Rattle.sect_emit.proofs.{KnownLemmas.{known_none}, Spelling.{next_chain, all_more}}
use Rattle.sect_emit.proofs.words.put_chains.Goals as goal

pub loop-lock-init : goal.loop-lock-init
loop-lock-init c = record {
  lines = sym (append-nil c.args.out.now.items);
  good = tt;
  known = known_none c.args.program.now.source c.args.chains.now.keys c.in_ok-known.known
      (c.in_ok-known.ensures.count ∙ c.lock_count.ensures) c.in_ok-known.ensures.none;
}

pub bounds-entry-lock : goal.bounds-entry-lock
bounds-entry-lock c =
    let v = c.args.chains.now in omega (
      arith,
      c.loop-lock-test.true,
      c.len-lock-end.ensures,
      length-map v.chains (links_by v.keys),
      AllZip-long (IsFirstNamed c.args.program.now.source) c.args.entry.now (chains_in v) c.requires.first,
    )

pub chain_of-requires-clause-named : goal.chain_of-requires-clause-named
chain_of-requires-clause-named c =
    let v = c.args.chains.now in
    let links = links_by v.keys c.as_slice.result.now in
    let i = c.loop-lock.lock in
    let at : slice_get (chains_in v) i ≡ Some links = slice_get-map (links_by v.keys) v.chains i
    ∙ ap (option_map (links_by v.keys))
    (c.in_ok-steps.ensures.steps ∙ ap (λ z. Some z) (sym c.as_slice.ensures.value)) in
    c.requires.named links (Has-slice_get (chains_in v) i links at)

pub chain_of-requires-clause-first : goal.chain_of-requires-clause-first
chain_of-requires-clause-first c =
    let t = c.args.program.now.source in
    let v = c.args.chains.now in
    let entry = c.args.entry.now in
    let links = links_by v.keys c.as_slice.result.now in
    let i = c.loop-lock.lock in
    let first = c.index-entry-lock.result in
    let at : slice_get (chains_in v) i ≡ Some links = slice_get-map (links_by v.keys) v.chains i
    ∙ ap (option_map (links_by v.keys))
    (c.in_ok-steps.ensures.steps ∙ ap (λ z. Some z) (sym c.as_slice.ensures.value)) in
    let named = zipped_at (IsFirstNamed t) entry (chains_in v) c.requires.first i links at in
    let within : i < length entry = omega (
      arith,
      c.loop-lock-test.true,
      c.len-lock-end.ensures,
      length-map v.chains (links_by v.keys),
      AllZip-long (IsFirstNamed t) entry (chains_in v) c.requires.first,
    ) in
    let there : slice_get entry i ≡ Some first = slice_get-get_or entry i first within
    ∙ ap (λ z. Some z) (sym c.index-entry-lock.is) in
    subst (λ z. IsFirstNamed t z links) (one_at entry i named.0 first named.1 there) named.2

pub chain_of-requires-clause-good : goal.chain_of-requires-clause-good
chain_of-requires-clause-good c =
    let v = c.args.chains.now in
    let entry = c.args.entry.now in
    let i = c.loop-lock.lock in
    let first = c.index-entry-lock.result in
    let within : i < length entry = omega (
      arith,
      c.loop-lock-test.true,
      c.len-lock-end.ensures,
      length-map v.chains (links_by v.keys),
      AllZip-long (IsFirstNamed c.args.program.now.source) entry (chains_in v) c.requires.first,
    ) in
    let there : slice_get entry i ≡ Some first = slice_get-get_or entry i first within
    ∙ ap (λ z. Some z) (sym c.index-entry-lock.is) in
    each_at IsLock entry c.requires.good i first there

pub loop-lock-preserved : goal.loop-lock-preserved
loop-lock-preserved c =
    let t = c.args.program.now.source in
    let v = c.args.chains.now in
    let links = links_by v.keys c.as_slice.result.now in
    let i = c.loop-lock.lock in
    let made = c.in_ok-chain.chain in
    let at : slice_get (chains_in v) i ≡ Some links = slice_get-map (links_by v.keys) v.chains i
    ∙ ap (option_map (links_by v.keys))
    (c.in_ok-steps.ensures.steps ∙ ap (λ z. Some z) (sym c.as_slice.ensures.value)) in
    let within : i < length (chains_in v) = omega
    (arith, c.loop-lock-test.true, c.len-lock-end.ensures, length-map v.chains (links_by v.keys)) in
    let before = chains_words t 0 (take i (chains_in v)) in
    let more : before ++ made ∷ [] ≡ chains_words t 0 (take (i + 1) (chains_in v)) =
    next_chain t (chains_in v) i links made before _ within
    (sym (get_or_from_slice_get (chains_in v) i links links at)) c.in_ok-chain.ensures.words refl refl in record {
      lines = one_chain before made c.args.out.now.items c.loop-lock.out.items _ c.loop-lock.invariant.lines
          c.in_ok-put_chain.ensures
          ∙ ap (λ cs. c.args.out.now.items ++ lines_text (chains_lines cs [])) more;
      good = subst (AllByRecursion IsChain) more
          (all_more IsChain before made c.loop-lock.invariant.good c.in_ok-chain.ensures.good);
      known = c.in_ok-chain.ensures.known;
    }
