-- Programs that are accepted say what they are.
use Rattle.std.proofs.Common.{◌≡◌, ◌<◌, ◌≤◌, ◌⊎◌, inl, inr, ℕ, zero, suc, ◌+◌, List, [], ◌∷◌, ◌++◌, Some, length, refl}
use Rattle.std.proofs.Common.{sym}
use Rattle.std.proofs.Common.{ap, subst, arith, length-append, Bool, true, false, map}
use Rattle.std.proofs.lemmas.{Option.{slice_get_within, get_or_from_slice_get}, Bool.{cases_lt}}
use Rattle.std.proofs.lemmas.List.Elements.{All-get_or}
use Rattle.std.specs.{Prelude.{slice_get, slice_index_or}, List.{AllByRecursion}}
use Rattle.sect_lemmas.specs.Lists.{Has}
use Rattle.sect_lemmas.proofs.{Membership.{Has-cases, Has-slice_get, Has-unmap}, Places.{at_of}}
use Rattle.sect_lemmas.proofs.Options.{some_injective}
use Rattle.sect_types.specs.Programs.{ProgramView, environment_at, total_statements, sites_of}
use Rattle.sect_types.specs.Sections.{SectionView, sections_from, sections_of}
use Rattle.sect_types.specs.{Sound.{IsSound, AreSound}, Traces.{node_count}}
use Rattle.sect_types.specs.Statements.{TextView, Stop, Do, Choose, Loop, Section, section_bodies, statement_count}
use Rattle.sect_types.specs.declared.declarations.types.ValueType.{ValueType}
use Rattle.sect_types.proofs.shared.SectionSound.{section_sound}
use Rattle.sect_graph.specs.Layout.{entry_of, nodes_of, flow_nodes}
use Rattle.sect_names.specs.{declared.lock.Lock.{Lock}, Locks.{IsLockOf}}
use Rattle.sect_emit.specs.{declared.plan.Grip.{Grip}, Compiled.{CompiledView, program_of}}
use Rattle.sect_conflicts.specs.{Conflicts.{Selects}, Taken.{TakenView, IsPathMet, IsKeyMet}}
use Rattle.sect_c.specs.{Short.{AreShort}, Back.{FitsLock, IsShown, IsWhole, AreWhole}, Pairs.{EachFrom}}
use Rattle.sect_c.specs.Whole.{IsWritten}
use Rattle.sect_c.proofs.Premises.{FitsGraph, FitsSection, IsLegible}
use Rattle.sect_c.proofs.{Declaring.{beyond, names_end, fields_there, globals_there, locals_there}, Fitting.{flow_fits}}
use Rattle.sect_c.proofs.Locking.{path_fits, lock_shown, part_whole}
use Rattle.sect_names.specs.declared.lock.Lock.TheVariants as lock

-- a fact of each element, by its place
each_from : {A : Type 0} (P : ℕ → A → Type 0) (n : ℕ) (xs : List A)
    → ((i : ℕ) (x : A) → slice_get xs i ≡ Some x → P (n + i) x) → EachFrom P n xs
each_from P n [] h = tt
each_from P n (x ∷ xs) h = (
  subst (λ k. P k x) (let e : n + 0 ≡ n = omega arith in e) (h 0 x refl),
  each_from P (n + 1) xs
      (λ i y at. subst (λ k. P k y) (let e : n + suc i ≡ n + 1 + i = omega arith in e) (h (suc i) y at)),
)

pub each_index : {A : Type 0} (P : ℕ → A → Type 0) (xs : List A) → ((i : ℕ) (x : A) → slice_get xs i ≡ Some x → P i x)
    → EachFrom P 0 xs
each_index P xs h =
    each_from P 0 xs (λ i x at. subst (λ k. P k x) (let e : i ≡ 0 + i = omega arith in e) (h i x at))

each_has : {A : Type 0} (P : A → Type 0) (xs : List A) → ((x : A) → Has xs x → P x) → AllByRecursion P xs
each_has P [] h = tt
each_has P (x ∷ xs) h = (h x (inl refl), each_has P xs (λ y i. h y (inr i)))

has_each : {A : Type 0} (P : A → Type 0) (xs : List A) → AllByRecursion P xs → (x : A) → Has xs x → P x
has_each P [] a x h = absurd h
has_each P (y ∷ xs) a x (inl e) = subst P e a.0
has_each P (y ∷ xs) a x (inr h) = has_each P xs a.1 x h

-- what is chosen is there, and has the property
chosen_has : {A : Type 0} (P : A → Type 0) (xs chosen : List A) → Selects P xs chosen → (x : A) → Has chosen x
    → Has xs x × P x
chosen_has P [] chosen s x h = absurd (subst (λ l. Has l x) s h)
chosen_has P (y ∷ xs) chosen (inl s) x h = go (subst (λ l. Has l x) s.2 h) (chosen_has P xs s.0 s.3 x)
  where
    go : (y ≡ x) ⊎ Has s.0 x → (Has s.0 x → Has xs x × P x) → ((y ≡ x) ⊎ Has xs x) × P x
    go (inl e) more = (inl e, subst P e s.1)
    go (inr i) more = let r = more i in (inr r.0, r.1)
chosen_has P (y ∷ xs) chosen (inr s) x h = let r = chosen_has P xs chosen s.1 x h in (inr r.0, r.1)

-- how many nodes a text has
nodes_length : (text : TextView) (n next : ℕ) → length (nodes_of text n next) ≡ node_count text
nodes_length Stop n next = refl
nodes_length (Do a k) n next = let e = nodes_length k (n + 1) next in omega (arith, e)
nodes_length (Choose c a b k) n next =
    let end = n + 1 + node_count a + node_count b in
    let after = entry_of k end next in
    let x = nodes_length a (n + 1) after in
    let y = nodes_length b (n + 1 + node_count a) after in
    let z = nodes_length k end next in
    let i = length-append (nodes_of a (n + 1) after) (nodes_of b (n + 1 + node_count a) after ++ nodes_of k end next) in
    let j = length-append (nodes_of b (n + 1 + node_count a) after) (nodes_of k end next) in
    omega (arith, x, y, z, i, j)
nodes_length (Loop c a k) n next =
    let end = n + 1 + node_count a in
    let x = nodes_length a (n + 1) n in
    let z = nodes_length k end next in
    let i = length-append (nodes_of a (n + 1) n) (nodes_of k end next) in
    omega (arith, x, z, i)
nodes_length (Section i a k) n next = let e = nodes_length k (n + 1) next in omega (arith, e)

nodes_few : (text : TextView) → node_count text ≤ statement_count text
nodes_few Stop = omega arith
nodes_few (Do a k) = let e = nodes_few k in omega (arith, e)
nodes_few (Choose c a b k) = let x = nodes_few a in let y = nodes_few b in let z = nodes_few k in omega (arith, x, y, z)
nodes_few (Loop c a k) = let x = nodes_few a in let z = nodes_few k in omega (arith, x, z)
nodes_few (Section i a k) = let z = nodes_few k in omega (arith, z)

-- a text that is short and has few statements
record IsSmall (text : TextView) : Type 0 where
  short : AreShort text
  few : statement_count text ≤ 4096

body_small : (text b : TextView) → IsSmall text → Has (section_bodies text) b → IsSmall b
body_small Stop b s h = absurd h
body_small (Do a k) b s h =
    body_small k b (record { short = s.short.1; few = (let l = s.few in omega (arith, l)) }) h
body_small (Choose c p q k) b s h = elim (Has-cases (section_bodies p) (section_bodies q ++ section_bodies k) b h) [
  | inl h ↦ body_small p b (record { short = s.short.2; few = (let l = s.few in omega (arith, l)) }) h
  | inr h ↦ elim (Has-cases (section_bodies q) (section_bodies k) b h) [
    | inl h ↦ body_small q b (record { short = s.short.3; few = (let l = s.few in omega (arith, l)) }) h
    | inr h ↦ body_small k b (record { short = s.short.4; few = (let l = s.few in omega (arith, l)) }) h
  ]
]
body_small (Loop c p k) b s h = elim (Has-cases (section_bodies p) (section_bodies k) b h) [
  | inl h ↦ body_small p b (record { short = s.short.2; few = (let l = s.few in omega (arith, l)) }) h
  | inr h ↦ body_small k b (record { short = s.short.3; few = (let l = s.few in omega (arith, l)) }) h
]
body_small (Section i p k) b s h = elim h [
  | inl is ↦ subst IsSmall is (record { short = s.short.1; few = (let l = s.few in omega (arith, l)) })
  | inr h ↦ body_small k b (record { short = s.short.2; few = (let l = s.few in omega (arith, l)) }) h
]

section_small : (texts : List TextView) (t : ℕ) (s : SectionView) → AllByRecursion IsSmall texts
    → Has (sections_from t texts) s → IsSmall s.body
section_small [] t s small h = absurd h
section_small (p ∷ ps) t s small h =
    elim (Has-cases (map (λ (b : TextView). record { thread = t; body = b }) (section_bodies p))
    (sections_from (t + 1) ps) s h) [
      | inl h ↦
          let m = Has-unmap (λ (b : TextView). section_with t b) (section_bodies p) s h in
          subst IsSmall (ap (λ x. x.body) m.2) (body_small p m.0 small.0 m.1)
      | inr h ↦ section_small ps (t + 1) s small.1 h
    ]
  where
    section_with : ℕ → TextView → SectionView
    section_with t b = record { thread = t; body = b }

texts_small : (texts : List TextView) → AllByRecursion AreShort texts → total_statements texts ≤ 4096
    → AllByRecursion IsSmall texts
texts_small [] a l = tt
texts_small (t ∷ texts) a l =
    (record { short = a.0; few = omega arith }, texts_small texts a.1 (omega arith))

text_sound : (records : List (List ValueType)) (globals : List ℕ) (locals : List (List ValueType))
    (texts : List TextView)
    (u : ℕ) (text : TextView) → AreSound records globals locals texts → slice_get texts u ≡ Some text
    → IsSound (record { records = records; globals = globals; locals = slice_index_or locals u [] }) false text
text_sound records globals locals [] u text sound at = absurd cc
text_sound records globals [] (q ∷ texts) u text sound at = absurd sound
text_sound records globals (ls ∷ locals) (q ∷ texts) zero text sound at =
    subst (IsSound (record { records = records; globals = globals; locals = ls }) false) (some_injective q text at)
    sound.0
text_sound records globals (ls ∷ locals) (q ∷ texts) (suc u) text sound at =
    text_sound records globals locals texts u text sound.1 at

selected_each : {A : Type 0} (P Q : A → Type 0) (xs chosen : List A) → Selects Q xs chosen → AllByRecursion P xs
    → AllByRecursion P chosen
selected_each P Q xs chosen s a = each_has P chosen (λ x h. has_each P xs a x (chosen_has Q xs chosen s x h).0)

module _ (c : CompiledView) (taken : TakenView) (w : IsWritten c taken) where
  abbrev p : ProgramView
  p = program_of c

  locals_few : (u : ℕ) → length (slice_index_or p.locals u []) ≤ 4160
  locals_few u = go (cases_lt u (length p.locals))
    where
      go : (u < length p.locals) ⊎ (length p.locals ≤ u) → length (slice_index_or p.locals u []) ≤ 4160
      go (inl l) =
          All-get_or (λ (ts : List ValueType). length ts ≤ 4160) p.locals u [] l w.limits.few_locals
      go (inr l) = subst (λ ts. length ts ≤ 4160) (sym (beyond p.locals u [] l)) (omega arith)

  records_few : length p.records ≤ 64
  records_few = w.limits.few_records

  sections_few : length (sections_of p.texts) ≤ 256
  sections_few = w.limits.few_sections

  numbers_few : length c.scheme.classes.numbers ≤ 1024
  numbers_few =
      let sites : length (sites_of p.globals p.texts) ≤ 1024 = w.limits.few_sites in
      let a = w.compiled.scheme.parted.sites in
      let b = w.compiled.scheme.sites in omega (arith, a, b, sites)

  small : AllByRecursion IsSmall p.texts
  small = texts_small p.texts w.short w.limits.few_statements

  sound : AreSound p.records p.globals p.locals p.texts
  sound = w.compiled.typed.sound

  graph_fits : (u : ℕ) (inside : Bool) (text : TextView) → IsSound (environment_at p u) inside text → IsSmall text
      → FitsGraph p u (flow_nodes text)
  graph_fits u inside text is s =
      let few = nodes_few text in
      let l = s.few in
      let count = nodes_length text 0 (node_count text) in
      record {
        few = omega (arith, few, l, count);
        each = flow_fits p u (locals_few u) records_few inside text is s.short (omega (arith, few, l));
      }

  pub threads_fit : EachFrom (λ u text. FitsGraph p u (flow_nodes text)) 0 p.texts
  threads_fit =
      each_index (λ u text. FitsGraph p u (flow_nodes text)) p.texts
      (λ u text at. graph_fits u false text (text_sound p.records p.globals p.locals p.texts u text sound at)
      (has_each IsSmall p.texts small text (Has-slice_get p.texts u text at)))

  -- the set of a section
  set_of : (i : ℕ) (s : SectionView) → slice_get (sections_of p.texts) i ≡ Some s
      → (l : Lock) → Has (slice_index_or c.sets i []) l → IsLockOf c.scheme s.thread l
  set_of i s at l h =
      let n = slice_get_within (sections_of p.texts) i s at in
      let count = w.compiled.set_count in
      let there = at_of c.sets i (omega (arith, n, count)) in
      w.compiled.lawful i s there.0 l at there.1
      (subst (λ ls. Has ls l) (get_or_from_slice_get c.sets i there.0 [] there.1) h)

  -- a lock that some other meets is one on a path
  met_path : (u : ℕ) (l : Lock) → IsPathMet c u l → IsLockOf c.scheme u l → FitsLock p u l
  met_path u lock.All met is = absurd met.2.2
  met_path u (lock.Class n r) met is = absurd met.2.2
  met_path u (lock.Path q e) met is = path_fits c.scheme u (locals_few u) w.compiled.scheme.most q is

  taken_path : (i : ℕ) (s : SectionView) → slice_get (sections_of p.texts) i ≡ Some s
      → AllByRecursion (FitsLock p s.thread) (slice_index_or taken.paths i [])
  taken_path i s at =
      let n = slice_get_within (sections_of p.texts) i s at in
      let count = w.keys.path_count in
      let there = at_of taken.paths i (omega (arith, n, count)) in
      subst (λ ls. AllByRecursion (FitsLock p s.thread) ls)
      (sym (get_or_from_slice_get taken.paths i there.0 [] there.1))
      (each_has (FitsLock p s.thread) there.0 (λ l h.
      let has = chosen_has (IsPathMet c s.thread) (slice_index_or c.sets i []) there.0
      (w.keys.paths i s there.0 at there.1) l h in
      met_path s.thread l has.1 (set_of i s at l has.0)))

  pub sections_fit : EachFrom (FitsSection c taken) 0 (sections_of p.texts)
  sections_fit =
      each_index (FitsSection c taken) (sections_of p.texts) (λ i s at.
      let n = slice_get_within (sections_of p.texts) i s at in
      let few = sections_few in
      let is = section_sound p.records p.globals p.locals p.texts i s sound at in
      record {
        number = omega (arith, n, few);
        locks = each_has IsShown (slice_index_or c.sets i []) (λ l h.
            lock_shown c.scheme s.thread w.compiled.scheme.parted.least numbers_few l (set_of i s at l h));
        paths = taken_path i s at;
        graph = graph_fits s.thread true s.body is.1
            (section_small p.texts 0 s small (Has-slice_get (sections_of p.texts) i s at));
      })

  part_fits : (i : ℕ) (part : List Grip) → slice_get taken.parts i ≡ Some part → (i < 65536) × AreWhole part
  part_fits i part at =
      let n = slice_get_within taken.parts i part at in
      let count = w.keys.part_count in
      let few = sections_few in
      let s = at_of (sections_of p.texts) i (omega (arith, n, count)) in
      let set_count = w.compiled.set_count in
      let part_count = w.compiled.part_count in
      let set = at_of c.sets i (omega (arith, n, count, set_count)) in
      let all = at_of c.parts i (omega (arith, n, count, part_count)) in
      let whole = part_whole c.scheme s.0.thread w.compiled.scheme.parted.least numbers_few set.0 all.0
      (λ l h. w.compiled.lawful i s.0 set.0 l s.1 set.1 h) (w.compiled.planned i set.0 all.0 set.1 all.1) in (
        omega (arith, n, count, few),
        selected_each (λ g. IsWhole g.key) (IsKeyMet c s.0.thread) (slice_index_or c.parts i []) part
            (w.keys.parts i s.0 part s.1 at)
            (subst AreWhole (sym (get_or_from_slice_get c.parts i all.0 [] all.1)) whole),
      )

  pub parts_fit : EachFrom (λ i part. (i < 65536) × AreWhole part) 0 taken.parts
  parts_fit = each_index (λ i part. (i < 65536) × AreWhole part) taken.parts part_fits

-- the program's text says what it is
pub legible : (c : CompiledView) (taken : TakenView) → IsWritten c taken → IsLegible c taken
legible c taken w = record {
  names = w.names;
  tell = w.tell;
  ends = names_end (program_of c) w.tree;
  records = fields_there (program_of c) w.there;
  globals = globals_there (program_of c) w.there w.limits;
  locals = locals_there (program_of c) w.there;
  sites = (let sites : length (sites_of (program_of c).globals (program_of c).texts) ≤ 1024 = w.limits.few_sites in
      omega (arith, sites));
  count = w.keys.part_count;
  parts = parts_fit c taken w;
  threads = threads_fit c taken w;
  sections = sections_fit c taken w;
}
