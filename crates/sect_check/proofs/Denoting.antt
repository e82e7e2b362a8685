-- The locks that a certificate names are the program's.
use Rattle.std.proofs.{Common.{◌≡◌, ℕ, zero, suc, List, [], ◌∷◌, Some, refl, arith}, lemmas.Option.{slice_get_within}}
use Rattle.std.specs.{Prelude.{slice_get, slice_index_or}, List.{AllZip}}
use Rattle.sect_lemmas.specs.Lists.{Has}
use Rattle.sect_types.specs.Sections.{SectionView}
use Rattle.sect_lemmas.proofs.Places.{Has-index, at_of, zipped_at}
use Rattle.sect_graph.specs.declared.flow.Node.{Node}
use Rattle.sect_names.specs.Schemes.{SchemeView}
use Rattle.sect_cert.specs.declared.certificate.Cert.{Cert}
use Rattle.sect_check.specs.{declared.claims.Claims.{Claims}, Names.{Denotes}}
use Rattle.sect_check.specs.Meaning.{IsSectionAt, DenotesStep, DenotesChain, DenotesAll}
use Rattle.sect_check.specs.steps.Shapes.{AreLawfulLists, AreLawfulChains}

-- the list at a place has what was found there
has_listed : {X : Type 0} (lists : List (List X)) (j : ℕ) (x : X) → Has (slice_index_or lists j []) x
    → (list : List X) × (slice_get lists j ≡ Some list) × Has list x
has_listed [] zero x h = absurd h
has_listed [] (suc j) x h = absurd h
has_listed (list ∷ lists) zero x h = (list, refl, h)
has_listed (list ∷ lists) (suc j) x h = has_listed lists j x h

-- each lock of a node's list is one that sections of the thread may take
pub all_lawful : (s : SchemeView) (a : Cert) (all : List Claims) → DenotesAll s a all → (i : ℕ) (c : Claims)
    → slice_get all i ≡ Some c → (of : SectionView) (g : List Node) → IsSectionAt s i of g
    → AreLawfulLists s of.thread c
all_lawful s a all denoted i c at of g section j l h =
    let x = at_of a.sections i (omega (arith, slice_get_within all i c at, denoted.count)) in
    let d = denoted.each i of g x.0 c section x.1 at in
    let list = has_listed c.nodes j l h in
    let named = zipped_at (AllZip (Denotes s of.thread)) x.0.nodes c.nodes d.nodes j list.0 list.1 in
    let n = Has-index list.0 l list.2 in
    (zipped_at (Denotes s of.thread) named.0 list.0 named.2 n.0 l n.1).2.1

-- so is each lock of a chain
pub all_lawful_chains : (s : SchemeView) (a : Cert) (all : List Claims) → DenotesAll s a all → (i : ℕ) (c : Claims)
    → slice_get all i ≡ Some c → (of : SectionView) (g : List Node) → IsSectionAt s i of g
    → AreLawfulChains s of.thread c.chains
all_lawful_chains s a all denoted i c at of g section x has link linked =
    let t = of.thread in
    let y = at_of a.sections i (omega (arith, slice_get_within all i c at, denoted.count)) in
    let d = denoted.each i of g y.0 c section y.1 at in
    let n = Has-index c.chains x has in
    let chain = zipped_at (DenotesChain s t) y.0.chains c.chains d.chains n.0 x n.1 in
    let m = Has-index x.links link linked in
    (zipped_at (DenotesStep s t) chain.0.steps x.links chain.2.1 m.0 link m.1).2.1.1
