-- Rounds over the marks, until nothing grows.
use Rattle.std.proofs.Common.{◌≡◌, ℕ, ◌+◌, ◌<◌, ◌≤◌, ◌↔◌, Bool, true, false, true≢false, ◌||◌, List, [], ◌∷◌, length}
use Rattle.std.proofs.{Common.{refl, sym, ap, ◌∙◌, subst, inl, inr, arith, ◌++◌, take, get_or}, lemmas.Bool.{cases_eq}}
use Rattle.std.proofs.lemmas.List.{take_more, take_all}
use Rattle.sect_lemmas.specs.Lists.{Has}
use Rattle.sect_lemmas.proofs.Membership.{Has-cases, Has-get_or}
use Rattle.sect_points.specs.{Sites.{HasSite}, declared.holders.ThreadAction.{ThreadAction}}
use Rattle.sect_points.specs.Flow.{Within, Moved, IsLeastFlow, ValueHas, BaseHas}
use Rattle.sect_points.specs.Sets.{PointsToView, InSets, IsEmpty, SameHolders, sets_room}
use Rattle.sect_points.specs.{declared.holders.Holder.{Holder}, declared.holders.Holder.TheVariants.{Local, Slot}}
use Rattle.sect_types.specs.{declared.expansion.action.Value.{Value}, declared.expansion.action.Base.{Base}}
use Rattle.sect_types.specs.{declared.expansion.action.Action.{Action}, declared.expansion.action.Field.{Field}}
use Rattle.sect_points.specs.steps.Solving.{AllFit}
use Rattle.sect_points.specs.steps.Marks.{Marked, HasMark, IsMarkable, Suits, Grows, local_row, grown, IsBase, MovedBy}
use Rattle.sect_points.specs.steps.Marks.{IsStretch, IsGoing, IsLeft, IsSpan, Waits}
use Rattle.sect_points.proofs.SetLaws.{both_false, one_true}
use Rattle.sect_points.proofs.MarkLaws.{stretch_none, stretch_then, stretch_by, covers_all, fits_after}
use Rattle.sect_points.proofs.shared.SolvingLaws.{moved_more}
use Rattle.sect_types.specs.declared.expansion.action.Value.TheVariants as value
use Rattle.sect_types.specs.declared.expansion.action.Base.TheVariants as base
use Rattle.sect_types.specs.declared.expansion.action.Action.TheVariants as action
use Rattle.sect_points.specs.declared.holders.Growth.TheVariants as growth

-- the locals of the first t rows of marks and the first f fields had their turns
pub record IsRounding (t f : ℕ) (list : List ThreadAction) (old now moved : PointsToView) (marks : Marked)
    (grew : Bool) : Type 0 where
  pub going : IsGoing list now moved marks
  pub left : IsLeft now moved marks (λ h. ⊥)
  pub less : grew ≡ true → sets_room now < sets_room old
  pub most : sets_room now ≤ sets_room old
  pub places : SameHolders old now
  pub locals : grew ≡ false → (u x : ℕ) → local_row u x < t → HasMark marks (Local u x) → ⊥
  pub slots : grew ≡ false → (o g : ℕ) → g < f → HasMark marks (Slot o g) → ⊥

pub rounding_none : (list : List ThreadAction) (old moved : PointsToView) (marks : Marked)
    → IsGoing list old moved marks → IsLeft old moved marks (λ h. ⊥) → IsRounding 0 0 list old old moved marks false
rounding_none list old moved marks going left = record {
  going = going;
  left = left;
  less = λ e. absurd (true≢false (sym e));
  most = omega arith;
  places = record { sites = refl; slots = refl; locals = refl; rows = λ t. refl };
  locals = λ e u x lt. absurd (omega arith);
  slots = λ e o g lt. absurd (omega arith);
}

span_most : (old new : PointsToView) (before after : Marked) (grew : Bool) → IsSpan old new before after grew
    → sets_room new ≤ sets_room old
span_most old new before after true r = omega (arith, r.less refl)
span_most old new before after false r = omega (arith, ap sets_room (r.same refl))

-- spans one behind another
pub span_none : (sets : PointsToView) (marks : Marked) → IsSpan sets sets marks marks false
span_none sets marks = record {
  same = λ e. refl;
  fewer = λ e h k. k;
  less = λ e. absurd (true≢false (sym e));
  places = record { sites = refl; slots = refl; locals = refl; rows = λ t. refl };
}

pub span_then : (old now new : PointsToView) (before between after : Marked) (grew second both : Bool)
    → IsSpan old now before between grew → IsSpan now new between after second → both ≡ (second || grew)
    → IsSpan old new before after both
span_then old now new before between after grew second both r s is = record {
  same = λ e. let n = both_false grew second (sym is ∙ e) in s.same n.1 ∙ r.same n.0;
  fewer = λ e h k. let n = both_false grew second (sym is ∙ e) in r.fewer n.0 h (s.fewer n.1 h k);
  less = λ e. elim (one_true grew second (sym is ∙ e)) [
    | inl g ↦ omega (arith, r.less g, span_most now new between after second s)
    | inr g ↦ omega (arith, s.less g, span_most old now before between grew r)
  ];
  places = record {
    sites = s.places.sites ∙ r.places.sites;
    slots = s.places.slots ∙ r.places.slots;
    locals = s.places.locals ∙ r.places.locals;
    rows = λ t. s.places.rows t ∙ r.places.rows t;
  };
}

rounding_step : (t f t' f' : ℕ) (list : List ThreadAction) (old now new moved moved' : PointsToView)
    (marks marks' : Marked) (grew second both : Bool) → IsRounding t f list old now moved marks grew
    → IsSpan now new marks marks' second → IsGoing list new moved' marks' → IsLeft new moved' marks' (λ h. ⊥)
    → both ≡ (second || grew)
    → (both ≡ false → (u x : ℕ) → local_row u x < t' → HasMark marks' (Local u x) → ⊥)
    → (both ≡ false → (o g : ℕ) → g < f' → HasMark marks' (Slot o g) → ⊥)
    → IsRounding t' f' list old new moved' marks' both
rounding_step t f t' f' list old now new moved moved' marks marks' grew second both r span going left is locals slots =
    record {
      going = going;
      left = left;
      less = λ e. elim (one_true grew second (sym is ∙ e)) [
        | inl g ↦ omega (arith, r.less g, span_most now new marks marks' second span)
        | inr g ↦ omega (arith, span.less g, r.most)
      ];
      most = omega (arith, r.most, span_most now new marks marks' second span);
      places = record {
        sites = span.places.sites ∙ r.places.sites;
        slots = span.places.slots ∙ r.places.slots;
        locals = span.places.locals ∙ r.places.locals;
        rows = λ t. span.places.rows t ∙ r.places.rows t;
      };
      locals = locals;
      slots = slots;
    }

pub rounding_local : (t : ℕ) (list : List ThreadAction) (old now new moved moved' : PointsToView)
    (marks marks' : Marked) (grew second both : Bool) → IsRounding t 0 list old now moved marks grew
    → IsSpan now new marks marks' second → IsGoing list new moved' marks' → IsLeft new moved' marks' (λ h. ⊥)
    → (second ≡ false → (u x : ℕ) → local_row u x ≡ t → HasMark marks' (Local u x) → ⊥) → both ≡ (second || grew)
    → IsRounding (t + 1) 0 list old new moved' marks' both
rounding_local t list old now new moved moved' marks marks' grew second both r span going left gone is =
    rounding_step t 0 (t + 1) 0 list old now new moved moved' marks marks' grew second both r span going left is
    (λ e u x lt m. let f = both_false grew second (sym is ∙ e) in elim (cases_eq (local_row u x) t) [
      | inl same ↦ gone f.1 u x same m
      | inr apart ↦ r.locals f.0 u x (omega arith) (span.fewer f.1 (Local u x) m)
    ])
    (λ e o g lt. absurd (omega arith))

pub rounding_slot : (t f : ℕ) (list : List ThreadAction) (old now new moved moved' : PointsToView)
    (marks marks' : Marked) (grew second both : Bool) → IsRounding t f list old now moved marks grew
    → IsSpan now new marks marks' second → IsGoing list new moved' marks' → IsLeft new moved' marks' (λ h. ⊥)
    → (second ≡ false → (o : ℕ) → HasMark marks' (Slot o f) → ⊥) → both ≡ (second || grew)
    → IsRounding t (f + 1) list old new moved' marks' both
rounding_slot t f list old now new moved moved' marks marks' grew second both r span going left gone is =
    rounding_step t f t (f + 1) list old now new moved moved' marks marks' grew second both r span going left is
    (λ e u x lt m. let n = both_false grew second (sym is ∙ e) in r.locals n.0 u x lt (span.fewer n.1 (Local u x) m))
    (λ e o g lt m. let n = both_false grew second (sym is ∙ e) in elim (cases_eq g f) [
      | inl same ↦ gone n.1 o (subst (λ v. HasMark marks' (Slot o v)) same m)
      | inr apart ↦ r.slots n.0 o g (omega arith) (span.fewer n.1 (Slot o g) m)
    ])

-- marks are taken
pub going_taken : (list : List ThreadAction) (now moved : PointsToView) (before after : Marked)
    → ((h : Holder) → IsMarkable before h → IsMarkable after h) → IsGoing list now moved before
    → IsGoing list now moved after
going_taken list now moved before after places going = record {
  within = going.within;
  below = going.below;
  part = going.part;
  done = going.done;
  same = going.same;
  suits = λ h p. places h (going.suits h p);
}

-- the first i statements moved what they move
pub record IsStarting (i : ℕ) (list : List ThreadAction) (old now moved : PointsToView) (before after : Marked) : Type 0
  where
    pub stretch : (grew : Bool) × IsStretch list old now before after grew
    pub done : (p : ThreadAction) → Has (take i list) p → Within (Moved (InSets moved) p.thread p.action) (InSets now)

pub starting_none : (list : List ThreadAction) (old moved : PointsToView) (marks : Marked)
    → IsStarting 0 list old old moved marks marks
starting_none list old moved marks = record { stretch = (false, stretch_none list old marks); done = λ p h. absurd h }

-- where no set has a site, a local has none
pub value_waits : (v : Value) (y : ℕ) → v ≡ value.Local y → (sets : PointsToView) → IsEmpty sets → (t s : ℕ)
    → ValueHas (InSets sets) t v s → ⊥
value_waits v y is sets empty t s h = empty (Local t y) s (subst (λ v. ValueHas (InSets sets) t v s) is h)

pub base_waits : (b : Base) (y : ℕ) → b ≡ base.Local y → (sets : PointsToView) → IsEmpty sets → (t s : ℕ)
    → BaseHas (InSets sets) t b s → ⊥
base_waits b y is sets empty t s h = empty (Local t y) s (subst (λ b. BaseHas (InSets sets) t b s) is h)

-- statements that wait for what a local or a field has
pub waits_assign : (p : ThreadAction) (x : ℕ) (v : Value) → p.action ≡ action.Assign x v
    → ((sets : PointsToView) → IsEmpty sets → (t s : ℕ) → ValueHas (InSets sets) t v s → ⊥) → Waits p
waits_assign p x v is none sets empty h s m =
    let moved : Moved (InSets sets) p.thread (action.Assign x v) h s =
    subst (λ a. Moved (InSets sets) p.thread a h s) is m in
    none sets empty p.thread s moved.1

pub waits_load : (p : ThreadAction) (x : ℕ) (b : Base) (f : Field) → p.action ≡ action.Load x b f → Waits p
waits_load p x b f is sets empty h s m =
    let moved : Moved (InSets sets) p.thread (action.Load x b f) h s =
    subst (λ a. Moved (InSets sets) p.thread a h s) is m in
    empty (Slot moved.1.0 f.number) s moved.1.2

pub waits_store : (p : ThreadAction) (b : Base) (f : Field) (v : Value) → p.action ≡ action.Store b f v
    → ((sets : PointsToView) → IsEmpty sets → (t o : ℕ) → BaseHas (InSets sets) t b o → ⊥) → Waits p
waits_store p b f v is none sets empty h s m =
    let moved : Moved (InSets sets) p.thread (action.Store b f v) h s =
    subst (λ a. Moved (InSets sets) p.thread a h s) is m in
    none sets empty p.thread moved.0 moved.1

pub starting_past : (i : ℕ) (list : List ThreadAction) (p : ThreadAction) (old now moved : PointsToView)
    (before after : Marked) → i < length list → p ≡ get_or list i p → IsEmpty moved → Waits p
    → IsStarting i list old now moved before after → IsStarting (i + 1) list old now moved before after
starting_past i list p old now moved before after lt is empty waits s =
    let next : take (i + 1) list ≡ take i list ++ p ∷ [] =
    take_more list i p lt ∙ ap (λ r. take i list ++ r ∷ []) (sym is) in
    record {
      stretch = s.stretch;
      done = λ q h. elim (Has-cases (take i list) (p ∷ []) q (subst (λ l. Has l q) next h)) [
        | inl k ↦ s.done q k
        | inr k ↦ elim k [
          | inl same ↦ λ k r m. absurd (subst (λ (x : ThreadAction). Waits x) same waits moved empty k r m)
          | inr k ↦ absurd k
        ]
      ];
    }

pub starting_more : (i : ℕ) (list : List ThreadAction) (p : ThreadAction) (bases : List ℕ)
    (old now new moved : PointsToView) (marks0 marks1 marks2 : Marked) (grew : Bool) → i < length list
    → p ≡ get_or list i p → AllFit old list
    → IsEmpty moved → ((o : ℕ) → HasSite bases o ↔ IsBase (InSets now) p.thread p.action o)
    → Grows now new (MovedBy (InSets now) bases p.thread p.action) marks1 marks2 grew
    → IsStarting i list old now moved marks0 marks1 → IsStarting (i + 1) list old new moved marks0 marks2
starting_more i list p bases old now new moved marks0 marks1 marks2 grew lt is fits empty are g s =
    let has : Has list p = subst (Has list) (sym is) (Has-get_or list i p lt) in
    let one = stretch_by list p now new bases marks1 marks2 grew has
    (fits_after list p old now fits s.stretch.1.places has) (λ o. (are o).0) g in
    let next : take (i + 1) list ≡ take i list ++ p ∷ [] =
    take_more list i p lt ∙ ap (λ r. take i list ++ r ∷ []) (sym is) in
    let here : Within (Moved (InSets moved) p.thread p.action) (InSets new) = λ h r m.
    elim (covers_all now (grown (growth.Field 0) bases) p bases are moved moved (λ k q j. inl j)
    (λ k q j. absurd (empty k q j)) h r m) [
      | inl j ↦ (g.adds.has h r).1 (inr
          (by_all now p bases are h r (moved_more (InSets moved) (InSets now) p.thread p.action
          (λ k q j. absurd (empty k q j)) h r j)))
      | inr j ↦ (g.adds.has h r).1 (inr j)
    ] in
    record {
      stretch = (
        grew || s.stretch.0,
        stretch_then list old now new marks0 marks1 marks2 s.stretch.0 grew
            (grew || s.stretch.0) s.stretch.1 one refl,
      );
      done = λ q h. elim (Has-cases (take i list) (p ∷ []) q (subst (λ l. Has l q) next h)) [
        | inl k ↦ λ k' r m. (g.adds.has k' r).1 (inl (s.done q k k' r m))
        | inr k ↦ elim k [
          | inl same ↦ subst (λ (x : ThreadAction). Within (Moved (InSets moved) x.thread x.action) (InSets new)) same
              here
          | inr k ↦ absurd k
        ]
      ];
    }
  where
    by_all : (sets : PointsToView) (p : ThreadAction) (bases : List ℕ)
        → ((o : ℕ) → HasSite bases o ↔ IsBase (InSets sets) p.thread p.action o)
        → Within (Moved (InSets sets) p.thread p.action) (MovedBy (InSets sets) bases p.thread p.action)
    by_all sets p bases are h r m =
        elim (covers_all sets (grown (growth.Field 0) bases) p bases are sets sets (λ k q j. inl j) (λ k q j. j) h r m)
        [ inl j ↦ move p.action are j | inr j ↦ j ]
      where
        move : (a : Action) → ((o : ℕ) → HasSite bases o ↔ IsBase (InSets sets) p.thread a o)
            → Moved (InSets sets) p.thread a h r → MovedBy (InSets sets) bases p.thread a h r
        move (action.Assign x v) are m = m
        move (action.Compute x v o w) are m = m
        move (action.New x q i) are m = m
        move (action.Load x b f) are m = (m.0, (m.1.0, (are m.1.0).1 m.1.1, m.1.2))
        move (action.Store b f v) are m = (m.0, (are m.0).1 m.1, m.2, m.3)
        move (action.Print v) are m = m

pub started : (i : ℕ) (list : List ThreadAction) (old now moved : PointsToView) (before after : Marked)
    → length list ≤ i → IsEmpty old → IsEmpty moved → SameHolders old moved → Suits old before
    → IsStarting i list old now moved before after → IsGoing list now moved after × IsLeft now moved after (λ h. ⊥)
started i list old now moved before after past empty unmoved same suits s =
    let r = s.stretch.1 in (
      record {
        within = λ others closed. r.within others closed (λ h q k. absurd (empty h q k));
        below = r.below (λ h q k. absurd (empty h q k));
        part = λ h q k. absurd (unmoved h q k);
        done = λ p has. s.done p (subst (λ l. Has l p) (sym (take_all i list past)) has);
        same = record {
          sites = same.sites ∙ sym r.places.sites;
          slots = same.slots ∙ sym r.places.slots;
          locals = same.locals ∙ sym r.places.locals;
          rows = λ t. same.rows t ∙ sym (r.places.rows t);
        };
        suits = r.suits suits;
      },
      λ h q k. elim (r.marked h q k) [ inl j ↦ absurd (empty h q j) | inr m ↦ inr (inl m) ],
    )

-- all is moved on: the sets are the least
pub arrived : (list : List ThreadAction) (now moved : PointsToView) (marks : Marked) → IsGoing list now moved marks
    → Within (InSets now) (InSets moved) → IsLeastFlow (InSets now) list
arrived list now moved marks going still = record {
  closed = λ p has h s m. going.done p has h s (moved_more (InSets now) (InSets moved) p.thread p.action still h s m);
  within = going.within;
}
