-- What sections are compared by, one after another.
use Rattle.std.proofs.Common.{◌≡◌, ◌≢◌, ℕ, ◌+◌, ◌<◌, ◌++◌, List, [], ◌∷◌, length, length-append, get_or, Some, sym, ap}
use Rattle.std.proofs.{Common.{◌∙◌, subst, inl, inr, arith}, lemmas.Option.{slice_get_within, slice_get-get_or}}
use Rattle.std.specs.Prelude.{◌↔◌, slice_get, slice_index_or}
use Rattle.sect_lemmas.proofs.{Options.{some_injective}, Places.{pushed_at, one_at}}
use Rattle.sect_types.specs.Sections.{SectionView, sections_of}
use Rattle.sect_points.specs.{declared.sites.SiteSet.{SiteSet}, Sites.{HasSite}, Sets.{PointsToView, InSets}}
use Rattle.sect_points.specs.Paths.{PathView, PathHas}
use Rattle.sect_names.specs.{declared.lock.Effect.{Effect}, declared.lock.Lock.{Lock}, Schemes.{SchemeView}}
use Rattle.sect_emit.specs.{declared.plan.Grip.{Grip}, Plan.{Ascends}, Compiled.{CompiledView, IsCompiled, program_of}}
use Rattle.sect_conflicts.specs.{declared.profile.Profile.{Profile}, declared.conflict.KeyClash.{KeyClash}}
use Rattle.sect_conflicts.specs.declared.conflict.PathPair.{PathPair}
use Rattle.sect_conflicts.specs.Conflicts.{Clash, IsFirstClash, MayBeOne, MayGoTogether, Selects, paths_between, set_at}
use Rattle.sect_conflicts.specs.Comparing.{AreCompared}
use Rattle.sect_conflicts.specs.steps.Steady.{steady_of, steady_at, IsFirstIn}
use Rattle.sect_conflicts.specs.steps.Profiles.{AreSitesOfLock, AreSitesOfLocks, IsProfile, AreFirstProfiles}
use Rattle.sect_conflicts.specs.steps.Profiles.{AreProfiles}
use Rattle.sect_conflicts.proofs.Steadying.{steady_ascends, first_found, none_found}
use Rattle.sect_names.specs.declared.lock.Lock.TheVariants as lock

-- the element at a place
pub given_at : {X : Type 0} (xs : List (List X)) (i : ℕ) (x : List X) → slice_get xs i ≡ Some x
    → slice_index_or xs i [] ≡ x
given_at xs i x e =
    some_injective (slice_index_or xs i []) x (sym (slice_get-get_or xs i [] (slice_get_within xs i x e)) ∙ e)

-- the sites of the path of a lock are those of the lock
pub sites_of_lock : (s : SchemeView) (l : Lock) (p q : PathView) (e : Effect) (points : PointsToView) (sites : SiteSet)
    → l ≡ lock.Path p e → q ≡ p → points ≡ s.classes.sets
    → ((site : ℕ) → HasSite sites.words site ↔ (PathHas (InSets points) q site × (site < points.sites)))
    → AreSitesOfLock s l sites
sites_of_lock s l p q e points sites is same at have =
    subst (λ x. AreSitesOfLock s x sites) (sym is)
    (subst (λ z. AreSitesOfLock s (lock.Path z e) sites) same
    (subst (λ z. (site : ℕ) → HasSite sites.words site ↔ (PathHas (InSets z) q site × (site < z.sites))) at have))

-- what is made of the set and the fixed part of a section is its profile
pub is_profile : (c : CompiledView) → IsCompiled c → (i : ℕ) (set : List Lock) (part : List Grip)
    → slice_get c.sets i ≡ Some set → slice_get c.parts i ≡ Some part → (of : SectionView)
    → slice_get (sections_of (program_of c).texts) i ≡ Some of → (profile : Profile) → profile.thread ≡ of.thread
    → profile.always.items ≡ steady_of part set → AreSitesOfLocks c.scheme set profile.sites.items
    → IsProfile c i profile
is_profile c compiled i set part set_is part_is of at profile thread always sites =
    let here : profile.always.items ≡ steady_at c i = always
    ∙ ap (λ p. steady_of p set) (sym (given_at c.parts i part part_is))
    ∙ ap (steady_of (slice_index_or c.parts i [])) (sym (given_at c.sets i set set_is)) in
    record {
      thread = λ other also. thread
          ∙ ap (λ (s : SectionView). s.thread) (one_at (sections_of (program_of c).texts) i of other at also);
      always = here;
      ascends = subst Ascends (sym always) (steady_ascends c.scheme part set
          (compiled.planned i set part set_is part_is));
      sites = subst (λ locks. AreSitesOfLocks c.scheme locks profile.sites.items) (sym (given_at c.sets i set set_is))
          sites;
    }

-- one profile more
pub profiles_more : (c : CompiledView) (i : ℕ) (profiles : List Profile) (x : Profile) → AreFirstProfiles c i profiles
    → IsProfile c i x → AreFirstProfiles c (i + 1) (profiles ++ x ∷ [])
profiles_more c i profiles x before here = (
  (let many = before.0 in omega (arith, many, length-append profiles (x ∷ []))),
  λ k y at. elim (pushed_at profiles x y k at) [
    | inl e ↦ subst (λ n. IsProfile c n y) (sym (e.0 ∙ before.0)) (subst (IsProfile c i) e.1 here)
    | inr was ↦ before.1 k y was
  ],
)

-- the profile at a place
pub profile_here : (c : CompiledView) (profiles : List Profile) → AreProfiles c profiles → (i : ℕ) (x : Profile)
    → i < length profiles → x ≡ get_or profiles i x → IsProfile c i x
profile_here c profiles are i x within is =
    are.1 i x (slice_get-get_or profiles i x within ∙ ap (λ y. Some y) (sym is))

-- sections whose profiles have two threads are compared, and no others
module _ (c : CompiledView) (i j : ℕ) (x y : Profile) (mine : IsProfile c i x) (theirs : IsProfile c j y) where
  pub one_thread : x.thread ≡ y.thread → AreCompared c i j → ⊥
  one_thread same are = are.apart
      (sym (mine.thread are.one are.first) ∙ same ∙ theirs.thread are.other are.second)

  pub two_threads : (of other : SectionView) → i < j → slice_get (sections_of (program_of c).texts) i ≡ Some of
      → slice_get (sections_of (program_of c).texts) j ≡ Some other → x.thread ≢ y.thread → AreCompared c i j
  two_threads of other lesser at also differ = record {
    lesser = lesser;
    one = of;
    other = other;
    first = at;
    second = also;
    apart = λ e. differ (mine.thread of at ∙ e ∙ sym (theirs.thread other also));
  }

-- the sites of a profile are those of the locks of its set
pub sites_of_set : (c : CompiledView) (i : ℕ) (x : Profile) → IsProfile c i x → (set : List Lock)
    → slice_get c.sets i ≡ Some set → (sites : List SiteSet) → sites ≡ x.sites.items
    → AreSitesOfLocks c.scheme set sites
sites_of_set c i x mine set at sites is =
    subst (AreSitesOfLocks c.scheme set) (sym is)
    (subst (λ locks. AreSitesOfLocks c.scheme locks x.sites.items) (given_at c.sets i set at) mine.sites)

-- what is found by two profiles is told of the sections
module _ (c : CompiledView) (i j : ℕ) (x y : Profile) (mine : IsProfile c i x) (theirs : IsProfile c j y)
    (wishes others : List Grip) (are : wishes ≡ x.always.items) (also : others ≡ y.always.items) where
  told_of : (P : List Grip → List Grip → Type 0) → P wishes others → P (steady_at c i) (steady_at c j)
  told_of P h = subst (λ gs. P gs (steady_at c j)) (are ∙ mine.always)
      (subst (P wishes) (also ∙ theirs.always) h)

  pub told_always : (clash : KeyClash) → IsFirstIn wishes others clash → IsFirstClash c i j clash
  told_always clash h = first_found c i j clash (subst Ascends mine.always mine.ascends)
      (subst Ascends theirs.always theirs.ascends) (told_of (λ xs ys. IsFirstIn xs ys clash) h)

  pub told_together : (Clash wishes others → ⊥) → (set other : List Lock) → slice_get c.sets i ≡ Some set
      → slice_get c.sets j ≡ Some other → (pairs : List PathPair)
      → Selects (MayBeOne c.scheme) (paths_between set other) pairs → MayGoTogether c i j pairs
  told_together none set other at there pairs found = record {
    free = none_found c i j (told_of (λ xs ys. Clash xs ys → ⊥) none);
    meetings = subst (λ locks. Selects (MayBeOne c.scheme) (paths_between locks (set_at c j)) pairs)
        (sym (given_at c.sets i set at))
        (subst (λ locks. Selects (MayBeOne c.scheme) (paths_between set locks) pairs)
        (sym (given_at c.sets j other there)) found);
  }
