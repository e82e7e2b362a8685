-- What is kept of each section makes a compiled program.
use Rattle.std.proofs.Common.{◌≡◌, ◌⊎◌, ℕ, ◌+◌, ◌<◌, List, [], ◌∷◌, ◌++◌, Some, length, length-append, get_or, sym, ap}
use Rattle.std.proofs.{Common.{◌∙◌, subst, arith, slice_get, inl, inr}, lemmas.List.{length-map}}
use Rattle.std.proofs.lemmas.Option.{slice_get_within, slice_get-get_or, slice_get-map as slice_get-mapped}
use Rattle.std.specs.Option.{option_map}
use Rattle.sect_cert.specs.{declared.certificate.CertSection.{CertSection}, declared.certificate.Cert.{Cert}}
use Rattle.sect_cert.specs.Texts.{HasText}
use Rattle.sect_emit.specs.{Certificates.{IsCertificateOf}, declared.plan.Grip.{Grip}, Plan.{IsFixedPart}}
use Rattle.sect_emit.specs.Compiled.{CompiledView, IsCompiled, AreSetsLeast}
use Rattle.sect_emit.specs.steps.{Spelled.{IsSpelled}, Inferred.{entries_of, AreFixedParts, IsWhole}}
use Rattle.sect_emit.specs.steps.Wishes.{IsClassedLock}
use Rattle.sect_lemmas.specs.Lists.{Has}
use Rattle.sect_types.specs.{Sections.{SectionView, sections_of}, First.{IsTyped}, Programs.{IsOfTree}}
use Rattle.sect_lemmas.proofs.{Places.{at_of, one_at, pushed_at, Has-index}, Membership.{Has-slice_get}}
use Rattle.sect_lemmas.proofs.Replaced.{slice_get-map}
use Rattle.sect_types.proofs.shared.TypedPrograms.{program_sound, program_numbered, program_sited}
use Rattle.sect_names.specs.{Printing.{AreNamed}, declared.lock.Lock.{Lock}, Locks.{IsLockOf}}
use Rattle.sect_names.specs.{Needed.{end_of, Protects, IsLeast}, Order.{AreInOrder}, Schemes.{SchemeView, IsScheme}}
use Rattle.sect_names.proofs.shared.Named.{named_lock}
use Rattle.sect_graph.specs.declared.flow.Node.{Node}
use Rattle.sect_infer.specs.Sets.{LocksView, AreInferredAt, AreAllInferred}
use Rattle.sect_names.specs.declared.lock.Lock.TheVariants as lock

-- one part more
pub one_part : (s : SchemeView) (sets : List (List Lock)) (parts : List (List Grip)) (locks : List Lock)
    (part : List Grip) → AreFixedParts s sets parts → IsFixedPart s locks part
    → AreFixedParts s (sets ++ locks ∷ []) (parts ++ part ∷ [])
one_part s sets parts locks part before here = record {
  count = (let e = before.count in omega (arith, e, length-append sets (locks ∷ []), length-append parts (part ∷ [])));
  each = λ i x y at has. by i x y (pushed_at sets locks x i at) (pushed_at parts part y i has);
}
  where
    by : (i : ℕ) (x : List Lock) (y : List Grip) → ((i ≡ length sets) × (locks ≡ x)) ⊎ (slice_get sets i ≡ Some x)
        → ((i ≡ length parts) × (part ≡ y)) ⊎ (slice_get parts i ≡ Some y) → IsFixedPart s x y
    by i x y (inl a) (inl b) = subst (IsFixedPart s x) b.1 (subst (λ z. IsFixedPart s z part) a.1 here)
    by i x y (inl a) (inr k) = (let w = slice_get_within parts i y k in let e = before.count in
        absurd (omega (arith, w, e, a.0)))
    by i x y (inr h) (inl b) = (let w = slice_get_within sets i x h in let e = before.count in
        absurd (omega (arith, w, e, b.0)))
    by i x y (inr h) (inr k) = before.each i x y h k

-- each lock of an entry has a class where it is on a path
pub classed_entry : (s : SchemeView) (all : List LocksView) → IsScheme s → AreAllInferred s all
    → (i : ℕ) (locks : LocksView) → i < length all → locks ≡ get_or all i locks
    → (l : Lock) → Has locks.entry l → IsClassedLock s l
classed_entry s all scheme inferred i locks within is l has =
    let of = at_of (sections_of s.program.texts) i (omega (arith, within, inferred.count)) in
    let g = at_of s.graphs.sections i (omega (arith, within, inferred.count, scheme.graphed.section_count)) in
    let told = inferred.each i locks (slice_get-get_or all i locks within ∙ ap (λ x. Some x) (sym is)) of.0 g.0 of.1
    g.1 in
    classed s of.0.thread l (told.1 0 locks.entry told.0.first l has)
  where
    classed : (s : SchemeView) (t : ℕ) (l : Lock) → IsLockOf s t l → IsClassedLock s l
    classed s t lock.All is = tt
    classed s t (lock.Class c r) is = tt
    classed s t (lock.Path p e) is = is.classed

-- a section has a list for each node, and one for the exit
pub nodes_counted : (s : SchemeView) (i : ℕ) (locks : LocksView) → i < length (sections_of s.program.texts)
    → AreInferredAt s i locks
    → (g : List Node) → slice_get s.graphs.sections i ≡ Some g → (exit : ℕ) → exit ≡ length g
    → length locks.at ≡ exit + 1
nodes_counted s i locks within inferred g graph exit is =
    let of = at_of (sections_of s.program.texts) i within in
    let e = (inferred of.0 g of.1 graph).0.needed.count in
    omega (arith, e, is)

-- what the locks of a section name is there
pub all_named : (s : SchemeView) → IsScheme s → (i : ℕ) (locks : LocksView) → i < length (sections_of s.program.texts)
    → AreInferredAt s i locks
    → (list : List Lock) → Has locks.at list → AreNamed s.program list
all_named s scheme i locks within inferred list has =
    let of = at_of (sections_of s.program.texts) i within in
    let g = at_of s.graphs.sections i (omega (arith, within, scheme.graphed.section_count)) in
    let told = inferred of.0 g.0 of.1 g.1 in
    let at = Has-index locks.at list has in
    λ l there. named_lock s of.0.thread l (told.1 at.0 list at.1 l there)

pub entry_named : (s : SchemeView) → IsScheme s → (i : ℕ) (locks : LocksView) → i < length (sections_of s.program.texts)
    → AreInferredAt s i locks → AreNamed s.program locks.entry
entry_named s scheme i locks within inferred =
    let of = at_of (sections_of s.program.texts) i within in
    let g = at_of s.graphs.sections i (omega (arith, within, scheme.graphed.section_count)) in
    all_named s scheme i locks within inferred locks.entry
    (Has-slice_get locks.at 0 locks.entry (inferred of.0 g.0 of.1 g.1).0.first)

-- what a section takes at its entry is what is needed from its first node on
pub entry_first : (s : SchemeView) → IsScheme s → (i : ℕ) (locks : LocksView) → i < length (sections_of s.program.texts)
    → AreInferredAt s i locks → slice_get locks.at 0 ≡ Some locks.entry
entry_first s scheme i locks within inferred =
    let of = at_of (sections_of s.program.texts) i within in
    let g = at_of s.graphs.sections i (omega (arith, within, scheme.graphed.section_count)) in
    (inferred of.0 g.0 of.1 g.1).0.first

-- what is kept of a section that the program has
pub kept_at : (s : SchemeView) (all : List LocksView) (parts : List (List Grip)) → IsWhole s all parts
    → (v : CompiledView) → record { scheme = s; sets = entries_of all; parts = parts } ≡ v
    → (i : ℕ) (locks : LocksView) → i < length (sections_of v.scheme.program.texts) → locks ≡ get_or all i locks
    → slice_get all i ≡ Some locks
kept_at s all parts whole v view i locks within is =
    let section : i < length (sections_of s.program.texts) =
    subst (λ (w : CompiledView). i < length (sections_of w.scheme.program.texts)) (sym view) within in
    slice_get-get_or all i locks (omega (arith, section, whole.inferred.count)) ∙ ap (λ x. Some x) (sym is)

-- the set of a section is what is kept of its entry
pub entry_at : (all : List LocksView) (i : ℕ) (locks : LocksView) (set : List Lock) → slice_get all i ≡ Some locks
    → slice_get (entries_of all) i ≡ Some set → locks.entry ≡ set
entry_at all i locks set at has =
    let kept = slice_get-map (λ (l : LocksView). l.entry) all i set has in
    ap (λ (l : LocksView). l.entry) (one_at all i locks kept.0 at kept.1) ∙ kept.2

module _ (s : SchemeView) (all : List LocksView) (parts : List (List Grip)) (scheme : IsScheme s)
    (whole : IsWhole s all parts) where
  set_count : length (entries_of all) ≡ length (sections_of s.program.texts)
  set_count = length-map all (λ (locks : LocksView). locks.entry) ∙ whole.inferred.count

  part_count : length parts ≡ length (sections_of s.program.texts)
  part_count = whole.planned.count ∙ set_count

  protects : (i : ℕ) (of : SectionView) (locks : List Lock) → slice_get (sections_of s.program.texts) i ≡ Some of
      → slice_get (entries_of all) i ≡ Some locks → Protects s of.thread (end_of s i) of.body locks
  protects i of locks at has =
      let w = slice_get_within (sections_of s.program.texts) i of at in
      let g = at_of s.graphs.sections i (omega (arith, w, scheme.graphed.section_count)) in
      let kept = slice_get-map (λ (locks : LocksView). locks.entry) all i locks has in
      let told = whole.inferred.each i kept.0 kept.1 of g.0 at g.1 in
      subst (Protects s of.thread (end_of s i) of.body) kept.2 told.0.least.protects

  laws : (i : ℕ) (of : SectionView) (locks : List Lock) (l : Lock) → slice_get (sections_of s.program.texts) i ≡ Some of
      → slice_get (entries_of all) i ≡ Some locks → Has locks l → IsLockOf s of.thread l
  laws i of locks l at has there =
      let w = slice_get_within (sections_of s.program.texts) i of at in
      let g = at_of s.graphs.sections i (omega (arith, w, scheme.graphed.section_count)) in
      let kept = slice_get-map (λ (locks : LocksView). locks.entry) all i locks has in
      let told = whole.inferred.each i kept.0 kept.1 of g.0 at g.1 in
      told.1 0 locks (told.0.first ∙ ap (λ x. Some x) kept.2) l there

  -- the sets are the least ones
  pub sets_least : AreSetsLeast (record { scheme = s; sets = entries_of all; parts = parts })
  sets_least i of locks at has =
      let w = slice_get_within (sections_of s.program.texts) i of at in
      let g = at_of s.graphs.sections i (omega (arith, w, scheme.graphed.section_count)) in
      let kept = slice_get-map (λ (locks : LocksView). locks.entry) all i locks has in
      let told = whole.inferred.each i kept.0 kept.1 of g.0 at g.1 in
      (subst (IsLeast s of.thread (end_of s i) of.body) kept.2 told.0.least, subst AreInOrder kept.2 told.0.in_order)

  -- the program of a typed tree with what is kept of its sections is compiled
  pub compiled : IsTyped s.program.source → IsOfTree s.program
      → IsCompiled (record { scheme = s; sets = entries_of all; parts = parts })
  compiled typed of_tree = record {
    typed = record {
      sound = program_sound s.program typed of_tree;
      sited = program_sited s.program typed of_tree;
    };
    numbered = program_numbered s.program typed of_tree;
    scheme = scheme;
    set_count = set_count;
    part_count = part_count;
    protected = protects;
    lawful = laws;
    planned = whole.planned.each;
  }

-- what is spelled of the locks that are kept is the certificate
pub is_certificate : (s : SchemeView) (all : List LocksView) (parts : List (List Grip)) → AreAllInferred s all
    → (a : Cert) → IsSpelled s all a → HasText a
    → IsCertificateOf (record { scheme = s; sets = entries_of all; parts = parts }) a
is_certificate s all parts inferred a spelled text = record {
  text = text;
  k = spelled.k;
  count = spelled.count;
  each = λ i of g x at graph has.
      let w = slice_get_within (sections_of s.program.texts) i of at in
      let locks = at_of all i (omega (arith, w, inferred.count)) in
      let told = inferred.each i locks.0 locks.1 of g at graph in
      let said = spelled.each i locks.0 x locks.1 has of g at graph in
      record {
        at = locks.0.at;
        set = locks.0.entry;
        chains = said.0;
        needed = told.0.needed;
        taken = slice_get-mapped (λ (l : LocksView). l.entry) all i
            ∙ ap (option_map (λ (l : LocksView). l.entry)) locks.1;
        chained = said.1;
        node_words = ap (λ (y : CertSection). y.nodes) said.2;
        entry_words = ap (λ (y : CertSection). y.entry) said.2;
        chain_words = ap (λ (y : CertSection). y.chains) said.2;
      };
}
