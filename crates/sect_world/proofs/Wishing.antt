-- A plan is met where its fixed part is, and what each lock asks for.
use Rattle.std.proofs.Common.{◌≡◌, Bool, true, false, List, [], ◌∷◌, ◌++◌, Option, Some, None, refl, sym, ap, ◌∙◌}
use Rattle.std.proofs.{Common.{arith, ◌&&◌, ℕ, ◌+◌, ◌<◌, length, drop, get_or}, lemmas.List.{append-nil}}
use Rattle.std.specs.Prelude.{if◌then◌else◌}
use Rattle.sect_lemmas.proofs.Elements.{drop_next}
use Rattle.sect_types.specs.{declared.meaning.store.Datum.{Datum}, Store.{StoreView}}
use Rattle.sect_modes.specs.{declared.mode.Mode.{Mode}, Mode.{is_at_least, join_of}, Key.{is_same_key, is_key_below}}
use Rattle.sect_names.specs.declared.lock.Lock.{Lock}
use Rattle.sect_modes.proofs.shared.Keys.{same_key}
use Rattle.sect_emit.specs.declared.plan.Grip.{Grip}
use Rattle.sect_emit.specs.Plan.{grip, gathered, with_grip, held_mode, is_met, meets, plan_of, object_wish}
use Rattle.sect_emit.specs.Plan.{object_wishes, object_mode, path_datum}
use Rattle.sect_names.specs.declared.lock.Lock.TheVariants as lock

-- the objects of a lock come before those of the others
pub wishes_of_first : (s : StoreView) (locals : List Datum) (l : Lock) (ls : List Lock)
    → object_wishes s locals (l ∷ []) ++ object_wishes s locals ls ≡ object_wishes s locals (l ∷ ls)
wishes_of_first s locals lock.All ls = refl
wishes_of_first s locals (lock.Class c r) ls = refl
wishes_of_first s locals (lock.Path p e) ls =
    ap (λ gs. gs ++ object_wishes s locals ls) (append-nil (object_wish (path_datum s locals p) (object_mode e)))

pub and_true : (b : Bool) → b ≡ (b && true)
and_true true = refl
and_true false = refl

and_along : (a b c : Bool) → (a && (b && c)) ≡ ((a && b) && c)
and_along true b c = refl
and_along false b c = refl

and_swap : (a b c : Bool) → (a && (b && c)) ≡ (b && (a && c))
and_swap true b c = refl
and_swap false true c = refl
and_swap false false c = refl

meets_append : (held xs ys : List Grip) → meets held (xs ++ ys) ≡ (meets held xs && meets held ys)
meets_append held [] ys = refl
meets_append held (x ∷ xs) ys =
    ap (λ b. is_met (held_mode x.key held) x.mode && b) (meets_append held xs ys)
    ∙ and_along (is_met (held_mode x.key held) x.mode) (meets held xs) (meets held ys)

-- what the next lock asks for decides, and then what the others ask for
module _ (held : List Grip) (s : StoreView) (locals : List Datum) (locks : List Lock) (i : ℕ) (l : Lock)
    (lt : i < length locks) (is : l ≡ get_or locks i l) where
  next_wishes : meets held (object_wishes s locals (drop i locks))
      ≡ (meets held (object_wishes s locals (l ∷ []))
      && meets held (object_wishes s locals (drop (i + 1) locks)))
  next_wishes =
      ap (λ ls. meets held (object_wishes s locals ls)) (drop_next locks i l lt is)
      ∙ (ap (meets held) (sym (wishes_of_first s locals l (drop (i + 1) locks)))
      ∙ meets_append held (object_wishes s locals (l ∷ [])) (object_wishes s locals (drop (i + 1) locks)))

  pub unmet_wish : false ≡ meets held (object_wishes s locals (l ∷ []))
      → false ≡ meets held (object_wishes s locals (drop i locks))
  unmet_wish off = ap (λ b. b && meets held (object_wishes s locals (drop (i + 1) locks))) off ∙ sym next_wishes

  pub met_wish : true ≡ meets held (object_wishes s locals (l ∷ []))
      → meets held (object_wishes s locals (drop i locks)) ≡ meets held (object_wishes s locals (drop (i + 1) locks))
  met_wish on = next_wishes ∙ ap (λ b. b && meets held (object_wishes s locals (drop (i + 1) locks))) (sym on)

-- a join is met where both modes are
met_join : (o : Option Mode) (a b : Mode) → is_met o (join_of a b) ≡ (is_met o a && is_met o b)
met_join None a b = refl
met_join (Some n) a b = joined n a b where
  joined : (n a b : Mode) → is_at_least n (join_of a b) ≡ (is_at_least n a && is_at_least n b)
  joined n a b = grind arith

meets_with : (held : List Grip) (g : Grip) (gs : List Grip) → meets held (with_grip g gs)
    ≡ (is_met (held_mode g.key held) g.mode && meets held gs)
meets_with held g [] = refl
meets_with held g (x ∷ xs) =
    by (is_same_key g.key x.key) refl (is_key_below g.key x.key) (meets_with held g xs) where
      by : (a : Bool) → is_same_key g.key x.key ≡ a → (b : Bool)
          → meets held (with_grip g xs) ≡ (is_met (held_mode g.key held) g.mode && meets held xs)
          → meets held (if a then grip x.key (join_of g.mode x.mode) ∷ xs else if b then g ∷ x ∷ xs else x
          ∷ with_grip g xs) ≡ (is_met (held_mode g.key held) g.mode && meets held (x ∷ xs))
      by true e b more =
          ap (λ z. z && meets held xs) (met_join (held_mode x.key held) g.mode x.mode
          ∙ ap (λ k. is_met (held_mode k held) g.mode && is_met (held_mode x.key held) x.mode)
          (sym (same_key g.key x.key e)))
          ∙ sym (and_along (is_met (held_mode g.key held) g.mode) (is_met (held_mode x.key held) x.mode)
          (meets held xs))
      by false e true more = refl
      by false e false more =
          ap (λ z. is_met (held_mode x.key held) x.mode && z) more
          ∙ and_swap (is_met (held_mode x.key held) x.mode) (is_met (held_mode g.key held) g.mode) (meets held xs)

meets_gathered : (held gs : List Grip) → meets held (gathered gs) ≡ meets held gs
meets_gathered held [] = refl
meets_gathered held (g ∷ gs) =
    meets_with held g (gathered gs)
    ∙ ap (λ z. is_met (held_mode g.key held) g.mode && z) (meets_gathered held gs)

meets_plan : (held part : List Grip) (locks : List Lock) (s : StoreView) (locals : List Datum)
    → (meets held part && meets held (object_wishes s locals locks)) ≡ meets held (plan_of part locks s locals)
meets_plan held part locks s locals = sym (meets_append held part (gathered (object_wishes s locals locks))
    ∙ ap (λ z. meets held part && z) (meets_gathered held (object_wishes s locals locks)))

-- so is the plan of the section of this number, whose fixed part and lock set are these
pub meets_parts : (held part : List Grip) (locks : List Lock) (s : StoreView) (locals : List Datum)
    (parts : List (List Grip)) (sets : List (List Lock)) (i : ℕ) → get_or parts i [] ≡ part → get_or sets i [] ≡ locks
    → (meets held part && meets held (object_wishes s locals locks)) ≡ meets held (plan_of (get_or parts i [])
    (get_or sets i []) s locals)
meets_parts held part locks s locals parts sets i p q =
    meets_plan held part locks s locals
    ∙ (ap (λ z. meets held (plan_of z locks s locals)) (sym p)
    ∙ ap (λ z. meets held (plan_of (get_or parts i []) z s locals)) (sym q))
