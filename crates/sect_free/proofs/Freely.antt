-- More fuel changes nothing of a run that wants for none.
use Rattle.std.proofs.Common.{◌≡◌, ◌+◌, ◌-◌, inl, inr, ℕ, List, [], ◌∷◌, map, Option, Some, sym, ap, subst, ◌∙◌}
use Rattle.std.proofs.Common.{zero, suc, slice_get, arith}
use Rattle.sect_lemmas.specs.Lists.{Has}
use Rattle.sect_types.specs.{Programs.{ProgramView}, declared.meaning.store.End.{End}}
use Rattle.sect_types.specs.declared.meaning.store.End.TheVariants.{Failed}
use Rattle.sect_types.specs.Whole.{FrameView, SerialEndView, RunsWhole, ahead, all_ahead, in_order, begun}
use Rattle.sect_lemmas.proofs.Options.{some_injective, none_or_some}
use Rattle.sect_free.specs.Freely.{LacksNone, FuelOnlyHelps, FreeEndsAreOne, FoundAreFree, FreeAreFound}
use Rattle.sect_types.proofs.shared.Endings.{whole_comes_to_one}
use Rattle.sect_lemmas.proofs.Membership.{Has-unmap}
use Rattle.sect_free.specs.States.{FrameLacks}
use Rattle.sect_free.proofs.MoreSteps.{more_frame, FrameHelped, ahead_helped, ahead_lacks}
use Rattle.sect_free.proofs.MoreSections.{more_frames, more_run, RunHelped, order_helped, begun_more}
use Rattle.sect_types.specs.declared.meaning.store.Fault.TheVariants as fault

-- how each thread has ended once its local code is run
abbrev endings : ProgramView → ℕ → List FrameView → List (Option End)
endings p k fs = map (λ (f : FrameView). f.ended) (all_ahead p k fs)

-- the parts of equal lists
split : {X : Type 0} (x y : X) (xs ys : List X) → x ∷ xs ≡ y ∷ ys → (x ≡ y) × (xs ≡ ys)
split x y xs ys e = (cc, cc)

-- a list of equal parts
joined : {X : Type 0} (x y : X) (xs ys : List X) → x ≡ y → xs ≡ ys → x ∷ xs ≡ y ∷ ys
joined x y xs ys e h = λ i. e i ∷ h i

-- a thread that has ended for want of fuel is among the ends
lack_shows : (p : ProgramView) (k t : ℕ) (fs : List FrameView) (ends : List End) (f : FrameView)
    → endings p k fs ≡ map Some ends → slice_get fs t ≡ Some f → FrameLacks f → Has ends (Failed fault.Fuel)
lack_shows p k t [] ends f e at lacks = absurd (none_or_some f at)
lack_shows p k t (g ∷ fs) [] f e at lacks = absurd (cc)
lack_shows p k zero (g ∷ fs) (x ∷ ends) f e at lacks =
    let heads = (split (ahead p k g).ended (Some x) (endings p (k + 1) fs) (map Some ends) e).0 in
    let same : g ≡ f = some_injective g f at in
    inl (some_injective x (Failed fault.Fuel)
    (sym heads ∙ ahead_lacks p k g (subst FrameLacks (sym same) lacks)))
lack_shows p k (suc t) (g ∷ fs) (x ∷ ends) f e at lacks =
    let tails = (split (ahead p k g).ended (Some x) (endings p (k + 1) fs) (map Some ends) e).1 in
    inr (lack_shows p (k + 1) t fs ends f tails at lacks)

-- with more fuel the threads end so too
ends_helped : (p : ProgramView) (ds : ℕ → ℕ) (k : ℕ) (fs : List FrameView) (ends : List End)
    → endings p k fs ≡ map Some ends → LacksNone ends → endings p k (more_frames ds fs) ≡ map Some ends
ends_helped p ds k [] ends e none = e
ends_helped p ds k (f ∷ fs) [] e none = absurd (cc)
ends_helped p ds k (f ∷ fs) (x ∷ ends) e none =
    let both = split (ahead p k f).ended (Some x) (endings p (k + 1) fs) (map Some ends) e in
    joined _ _ _ _ (own both.0 (ahead_helped p k (ds 0) f))
    (ends_helped p (λ k. ds (suc k)) (k + 1) fs ends both.1 (λ h. none (inr h)))
  where
    own : (ahead p k f).ended ≡ Some x → FrameHelped (ds 0) (ahead p k f) (ahead p k (more_frame (ds 0) f))
        → (ahead p k (more_frame (ds 0) f)).ended ≡ Some x
    own e (inl lacks) = absurd (none (inl (some_injective x (Failed fault.Fuel) (sym e ∙ lacks))))
    own e (inr same) = ap (λ (g : FrameView). g.ended) same ∙ e

-- the run with d units more
helped_by : (p : ProgramView) (n d : ℕ) (order : List ℕ) (e : SerialEndView) → RunsWhole p n order e
    → LacksNone e.ends → RunsWhole p (d + n) order e
helped_by p n d order e (s, ran, end) none = by (order_helped p (λ k. d) order (begun p n) s ran) where
  by : RunHelped (λ k. d) s (in_order p order (more_run (λ k. d) (begun p n))) → RunsWhole p (d + n) order e
  by (inl (t, f, at, lacks)) = absurd (none (lack_shows p 0 t s.frames e.ends f end.ends at lacks))
  by (inr same) = (
    more_run (λ k. d) s,
    ap (in_order p order) (sym (begun_more p d n)) ∙ same,
    record { store = end.store; output = end.output; ends = ends_helped p (λ k. d) 0 s.frames e.ends end.ends none },
  )

pub fuel_only_helps : FuelOnlyHelps
fuel_only_helps p n m order e le ran none =
    let same : m - n + n ≡ m = omega (arith, le) in
    subst (λ fuel. RunsWhole p fuel order e) same (helped_by p n (m - n) order e ran none)

pub free_ends_are_one : FreeEndsAreOne
free_ends_are_one p order e f (n, ran, none) (m, also, nor) =
    whole_comes_to_one p (n + m) order e f (fuel_only_helps p n (n + m) order e (omega arith) ran none)
    (fuel_only_helps p m (n + m) order f (omega arith) also nor)

pub found_are_free : FoundAreFree
found_are_free p fuel found all e h none =
    let x = Has-unmap (λ (x : SerialEndView × List ℕ). x.0) found e h in
    (x.0.1, (fuel, subst (λ (e : SerialEndView). RunsWhole p fuel x.0.1 e) x.2 (all.right x.0 x.1), none))

pub free_are_found : FreeAreFound
free_are_found p order e (n, ran, none) =
    (n, λ fuel found le all. all.complete order e (fuel_only_helps p n fuel order e le ran none))
