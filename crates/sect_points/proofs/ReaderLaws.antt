-- TextView are found by what they read.
use Rattle.std.proofs.Common.{◌≡◌, inl, inr, ℕ, zero, suc, ◌+◌, ◌<◌, List, [], ◌∷◌, ◌++◌, length, get_or, set, take}
use Rattle.std.proofs.Common.{refl, sym, ◌∙◌, ap, subst, arith}
use Rattle.std.proofs.{lemmas.List.{take_more, get_or-set_other, get_or-set_same, length-set}, lemmas.Bool.{cases_eq}}
use Rattle.std.specs.Prelude.{Result, Ok, Err, OnOk}
use Rattle.sect_lemmas.specs.Lists.{Has}
use Rattle.sect_lemmas.proofs.Membership.{Has-left, Has-right, Has-cases}
use Rattle.sect_types.specs.{declared.expansion.action.Value.{Value}, declared.expansion.action.Base.{Base}}
use Rattle.sect_types.specs.declared.expansion.action.Action.{Action}
use Rattle.sect_points.specs.{declared.holders.Holder.TheVariants.{Local, Slot}, declared.holders.Growth.{Growth}}
use Rattle.sect_points.specs.declared.holders.ThreadAction.{ThreadAction}
use Rattle.sect_points.specs.steps.Marks.{Reads, ReadsValue, ReadsBase, ReadsGrowth, grown}
use Rattle.sect_points.specs.steps.Readers.{local_row_of, field_row_of, row_of, value_rows, base_rows, rows_read}
use Rattle.sect_points.specs.steps.Readers.{row_at, AreFiled, IsPut}
use Rattle.sect_types.specs.declared.expansion.action.Value.TheVariants as value
use Rattle.sect_types.specs.declared.expansion.action.Base.TheVariants as base
use Rattle.sect_types.specs.declared.expansion.action.Action.TheVariants as action
use Rattle.sect_points.specs.declared.holders.Growth.TheVariants as growth

-- a statement that reads a local or a field has the row of it
value_reads : (n t : ℕ) (v : Value) (u x : ℕ) → ReadsValue t v (Local u x) → Has (value_rows n t v) (local_row_of n u x)
value_reads n t (value.Local y) u x h = inl (let same : local_row_of n t y ≡ local_row_of n u x = cc in same)
value_reads n t (value.Global g) u x h = absurd h
value_reads n t value.Null u x h = absurd h
value_reads n t (value.Number m) u x h = absurd h

base_reads : (n t : ℕ) (b : Base) (u x : ℕ) → ReadsBase t b (Local u x) → Has (base_rows n t b) (local_row_of n u x)
base_reads n t (base.Local y) u x h = inl (let same : local_row_of n t y ≡ local_row_of n u x = cc in same)
base_reads n t (base.Global g) u x h = absurd h

no_slot_value : (t : ℕ) (v : Value) (o f : ℕ) → ReadsValue t v (Slot o f) → ⊥
no_slot_value t (value.Local y) o f h = cc
no_slot_value t (value.Global g) o f h = h
no_slot_value t value.Null o f h = h
no_slot_value t (value.Number n) o f h = h

no_slot_base : (t : ℕ) (b : Base) (o f : ℕ) → ReadsBase t b (Slot o f) → ⊥
no_slot_base t (base.Local y) o f h = cc
no_slot_base t (base.Global g) o f h = h

local_reads : (n t : ℕ) (a : Action) (u x : ℕ) → Reads t a (Local u x) → Has (rows_read n t a) (local_row_of n u x)
local_reads n t (action.Assign y v) u x h = value_reads n t v u x h
local_reads n t (action.Compute y v o w) u x h = absurd h
local_reads n t (action.New y r i) u x h = absurd h
local_reads n t (action.Load y b f) u x h = elim h [
  | inl k ↦ Has-left (base_rows n t b) (field_row_of n f.number ∷ []) (local_row_of n u x) (base_reads n t b u x k)
  | inr k ↦ (let e = k.1 in absurd cc)
]
local_reads n t (action.Store b f v) u x h = elim h [
  | inl k ↦ Has-left (base_rows n t b) (value_rows n t v) (local_row_of n u x) (base_reads n t b u x k)
  | inr k ↦ Has-right (base_rows n t b) (value_rows n t v) (local_row_of n u x) (value_reads n t v u x k)
]
local_reads n t (action.Print v) u x h = absurd h

field_reads : (n t : ℕ) (a : Action) (o f : ℕ) → Reads t a (Slot o f) → Has (rows_read n t a) (field_row_of n f)
field_reads n t (action.Assign y v) o f h = absurd (no_slot_value t v o f h)
field_reads n t (action.Compute y v p w) o f h = absurd h
field_reads n t (action.New y r i) o f h = absurd h
field_reads n t (action.Load y b g) o f h = elim h [
  | inl k ↦ absurd (no_slot_base t b o f k)
  | inr k ↦ Has-right (base_rows n t b) (field_row_of n g.number ∷ []) (field_row_of n f)
      (inl (let e = k.1 in let same : field_row_of n g.number ≡ field_row_of n f = cc in same))
]
field_reads n t (action.Store b g v) o f h =
    elim h [ inl k ↦ absurd (no_slot_base t b o f k) | inr k ↦ absurd (no_slot_value t v o f k) ]
field_reads n t (action.Print v) o f h = absurd h

growth_reads : (n : ℕ) (g : Growth) (new : List ℕ) (p : ThreadAction) → ReadsGrowth (grown g new) p
    → Has (rows_read n p.thread p.action) (row_of n g)
growth_reads n (growth.Local t x) new p r =
    local_reads n p.thread p.action t x (subst (Reads p.thread p.action) r.3.0 r.2)
growth_reads n (growth.Field f) new p r =
    field_reads n p.thread p.action r.3.0 f (subst (Reads p.thread p.action) r.3.1 r.2)

-- what reads the growth stands in its row
pub found_each : (n : ℕ) (all : List ThreadAction) (rows : List (List ThreadAction)) → AreFiled n all rows
    → (g : Growth) (new : List ℕ) (p : ThreadAction) → Has all p → ReadsGrowth (grown g new) p
    → Has (row_at rows (row_of n g)) p
found_each n all rows filed g new p has r = filed.each p has (row_of n g) (growth_reads n g new p r)

same_item : (rows : List (List ThreadAction)) (k : ℕ) (x y : List ThreadAction) → k < length rows
    → get_or rows k x ≡ get_or rows k y
same_item [] k x y lt = absurd (omega (arith, lt))
same_item (row ∷ rows) zero x y lt = refl
same_item (row ∷ rows) (suc k) x y lt = same_item rows k x y (omega (arith, lt))

-- one row gets one statement more
pub put_one : (rows : List (List ThreadAction)) (row : ℕ) (p : ThreadAction) → row < length rows
    → IsPut rows (set rows row (row_at rows row ++ p ∷ [])) (row ∷ []) p
put_one rows row p lt = record {
  long = length-set rows row (row_at rows row ++ p ∷ []);
  there = λ r h. elim h [
    | inl e ↦ subst (λ k. Has (row_at (set rows row (row_at rows row ++ p ∷ [])) k) p) e
        (subst (λ l. Has l p) (sym (get_or-set_same rows row (row_at rows row ++ p ∷ []) [] lt))
        (Has-right (row_at rows row) (p ∷ []) p (inl refl)))
    | inr h ↦ absurd h
  ];
  keeps = λ r q h. (elim (cases_eq r row) [
    | inl e ↦ subst (λ k. Has (row_at (set rows row (row_at rows row ++ p ∷ [])) k) q) (sym e)
        (subst (λ l. Has l q) (sym (get_or-set_same rows row (row_at rows row ++ p ∷ []) [] lt))
        (Has-left (row_at rows row) (p ∷ []) q (subst (λ k. Has (row_at rows k) q) e h)))
    | inr ne ↦ subst (λ l. Has l q) (sym (get_or-set_other rows row r (row_at rows row ++ p ∷ []) [] ne)) h
  ]);
  only = λ r q h. (elim (cases_eq r row) [
    | inl e ↦ (let at : Has (row_at rows row ++ p ∷ []) q =
        subst (λ l. Has l q) (get_or-set_same rows row (row_at rows row ++ p ∷ []) [] lt)
        (subst (λ k. Has (row_at (set rows row (row_at rows row ++ p ∷ [])) k) q) e h) in
        elim (Has-cases (row_at rows row) (p ∷ []) q at) [
          | inl k ↦ inl (subst (λ k. Has (row_at rows k) q) (sym e) k)
          | inr k ↦ elim k [ inl same ↦ inr same | inr k ↦ absurd k ]
        ])
    | inr ne ↦ inl (subst (λ l. Has l q) (get_or-set_other rows row r (row_at rows row ++ p ∷ []) [] ne) h)
  ]);
}

-- a statement that stands in its row stays there
pub put_there : (rows : List (List ThreadAction)) (row : ℕ) (p : ThreadAction) (item : List ThreadAction)
    → row < length rows → item ≡ get_or rows row item → Has item p → IsPut rows rows (row ∷ []) p
put_there rows row p item lt is has = record {
  long = refl;
  there = λ r h. elim h [
    | inl e ↦ subst (λ k. Has (row_at rows k) p) e (subst (λ l. Has l p) (is ∙ same_item rows row item [] lt) has)
    | inr h ↦ absurd h
  ];
  keeps = λ r q h. h;
  only = λ r q h. inl h;
}

pub filed_more : (n i : ℕ) (all : List ThreadAction) (p : ThreadAction) (old new : List (List ThreadAction))
    → i < length all → p ≡ get_or all i p → AreFiled n (take i all) old
    → IsPut old new (rows_read n p.thread p.action) p → AreFiled n (take (i + 1) all) new
filed_more n i all p old new lt is a b =
    let next : take (i + 1) all ≡ take i all ++ p ∷ [] =
    take_more all i p lt ∙ ap (λ r. take i all ++ r ∷ []) (sym is) in
    record {
      long = b.long ∙ a.long;
      each = λ q has r reads. (elim (Has-cases (take i all) (p ∷ []) q (subst (λ l. Has l q) next has)) [
        | inl k ↦ b.keeps r q (a.each q k r reads)
        | inr k ↦ elim k [
          | inl same ↦ subst (λ z. Has (row_at new r) z) same
              (b.there r (subst (λ (z : ThreadAction). Has (rows_read n z.thread z.action) r) (sym same) reads))
          | inr k ↦ absurd k
        ]
      ]);
      only = λ r q has. subst (λ l. Has l q) (sym next) (elim (b.only r q has) [
        | inl k ↦ Has-left (take i all) (p ∷ []) q (a.only r q k)
        | inr same ↦ Has-right (take i all) (p ∷ []) q (inl same)
      ]);
    }

-- the row that was found
pub row_found : (rows : List (List ThreadAction)) (k n : ℕ) (item out : List ThreadAction) → k ≡ n → k < length rows
    → out ≡ item → item ≡ get_or rows k item → row_at rows n ≡ out
row_found rows k n item out e lt o is = ap (row_at rows) (sym e) ∙ (same_item rows k [] item lt ∙ (sym is ∙ sym o))

pub put_into : {A B : Type 0} (r : Result A B) (rows : List (List ThreadAction)) (row : ℕ) (p : ThreadAction)
    (item new : List ThreadAction) → row < length rows → item ≡ get_or rows row item
    → OnOk r (new ≡ item ++ p ∷ []) → OnOk r (IsPut rows (set rows row new) (row ∷ []) p)
put_into (Ok x) rows row p item new lt is h =
    let at : item ≡ row_at rows row = is ∙ same_item rows row item [] lt in
    subst (λ z. IsPut rows (set rows row z) (row ∷ []) p) (sym (h ∙ ap (λ z. z ++ p ∷ []) at)) (put_one rows row p lt)
put_into (Err e) rows row p item new lt is h = tt
