-- Each order of whole sections is the order of a run of the machine.
use Rattle.std.proofs.Common.{◌≡◌, ◌+◌, ◌++◌, ◌∙◌, refl, sym, ap, subst, ℕ, suc, List, [], ◌∷◌, map, length, Option}
use Rattle.std.proofs.{Common.{Some, None}, lemmas.List.{append-nil, append_assoc, length-append}}
use Rattle.std.specs.Prelude.{ℤ, slice_get}
use Rattle.sect_lemmas.specs.Lists.{put_at}
use Rattle.sect_lemmas.proofs.{Options.{some_injective, none_or_some}, Replaced.{at_map, map_put}}
use Rattle.sect_types.specs.Store.{StoreView}
use Rattle.sect_types.specs.Whole.{FrameView, RunView, ahead, all_ahead, begun, in_order, run_section, option_then}
use Rattle.sect_emit.specs.{Compiled.{CompiledView, IsCompiled, program_of}, State.{ThreadState, outside}}
use Rattle.sect_world.specs.Laws.{EveryOrderIsRun}
use Rattle.sect_world.proofs.LoneSteps.{Reached, resting, whole_section, local_on, put_back}

-- whole sections one after another
whole_sections : (c : CompiledView) → IsCompiled c → (fuel : ℕ) (ts before : List ℕ) (r after : RunView)
    → Reached c fuel before (resting r) → in_order (program_of c) ts r ≡ Some after
    → Reached c fuel (before ++ ts) (resting after)
whole_sections c compiled fuel [] before r after came is =
    subst (λ os. Reached c fuel os (resting after)) (sym (append-nil before))
    (subst (λ (x : RunView). Reached c fuel before (resting x)) (some_injective r after is) came)
whole_sections c compiled fuel (t ∷ ts) before r after came is =
    by (run_section (program_of c) t r) refl is
    (λ q next. whole_sections c compiled fuel ts (before ++ t ∷ []) q after next) where
      by : (o : Option RunView) → run_section (program_of c) t r ≡ o
          → option_then o (in_order (program_of c) ts) ≡ Some after
          → ((q : RunView) → Reached c fuel (before ++ t ∷ []) (resting q) → in_order (program_of c) ts q ≡ Some after
          → Reached c fuel ((before ++ t ∷ []) ++ ts) (resting after))
          → Reached c fuel (before ++ t ∷ ts) (resting after)
      by None at is later = absurd (none_or_some after is)
      by (Some q) at is later =
          subst (λ os. Reached c fuel os (resting after)) (append_assoc before (t ∷ []) ts)
          (later q (whole_section c compiled fuel before t r q came at) is)

-- the element behind the first ones, and another put there
behind : {A : Type 0} (xs : List A) (x : A) (ys : List A) → slice_get (xs ++ x ∷ ys) (length xs) ≡ Some x
behind [] x ys = refl
behind (z ∷ xs) x ys = behind xs x ys

put_behind : {A : Type 0} (xs : List A) (x y : A) (ys : List A)
    → put_at (length xs) y (xs ++ x ∷ ys) ≡ xs ++ y ∷ ys
put_behind [] x y ys = refl
put_behind (z ∷ xs) x y ys = ap (λ zs. z ∷ zs) (put_behind xs x y ys)

-- each thread that is left runs its local code; the first ones have done so
rests_ahead : (c : CompiledView) → IsCompiled c → (fuel : ℕ) (order : List ℕ) (store : StoreView) (output : List ℤ)
    (fs first : List FrameView)
    → Reached c fuel order (record { store = store; output = output; threads = map outside (first ++ fs) })
    → Reached c fuel order (record {
      store = store;
      output = output;
      threads = map outside (first ++ all_ahead (program_of c) (length first) fs);
    })
rests_ahead c compiled fuel order store output [] first came = came
rests_ahead c compiled fuel order store output (f ∷ fs) first came =
    let p = program_of c in
    let t = length first in
    let all = first ++ f ∷ fs in
    let at : slice_get all t ≡ Some f = behind first f fs in
    let lone = subst (λ ths. Reached c fuel order (record { store = store; output = output; threads = ths }))
    (sym (put_back t (outside f) (map outside all) (at_map outside all t f at))) came in
    let ran = local_on c compiled fuel order t all f at (suc f.work.fuel) f store output lone in
    let placed = subst (λ ths. Reached c fuel order (record { store = store; output = output; threads = ths }))
    (sym (map_put outside t (ahead p t f) all) ∙ ap (map outside) (put_behind first f (ahead p t f) fs
    ∙ sym (append_assoc first (ahead p t f ∷ []) fs))) ran in
    let more = rests_ahead c compiled fuel order store output fs (first ++ ahead p t f ∷ []) placed in
    let long : length (first ++ ahead p t f ∷ []) ≡ t + 1 = length-append first (ahead p t f ∷ []) in
    subst (λ gs. Reached c fuel order (record { store = store; output = output; threads = map outside gs }))
    (append_assoc first (ahead p t f ∷ []) (all_ahead p (length (first ++ ahead p t f ∷ [])) fs)
    ∙ ap (λ n. first ++ ahead p t f ∷ all_ahead p n fs) long) more

-- how threads outside have ended is how their frames have
frames_end : (fs : List FrameView)
    → map (λ (th : ThreadState). th.frame.ended) (map outside fs) ≡ map (λ (f : FrameView). f.ended) fs
frames_end [] = refl
frames_end (f ∷ fs) = ap (λ es. f.ended ∷ es) (frames_end fs)

pub orders_are_runs : (c : CompiledView) → IsCompiled c → EveryOrderIsRun c
orders_are_runs c compiled fuel order e whole =
    let p = program_of c in
    let r = whole.0 in
    let begins : Reached c fuel [] (resting (begun p fuel)) = record { trace = []; run = refl; ordered = refl } in
    let came = whole_sections c compiled fuel order [] (begun p fuel) r begins whole.1 in
    let last = rests_ahead c compiled fuel order r.store r.output r.frames [] came in (
      last.trace,
      record { store = r.store; output = r.output; threads = map outside (all_ahead p 0 r.frames) },
      last.run,
      record {
        store = whole.2.store;
        output = whole.2.output;
        ends = frames_end (all_ahead p 0 r.frames) ∙ whole.2.ends;
      },
      last.ordered,
    )
