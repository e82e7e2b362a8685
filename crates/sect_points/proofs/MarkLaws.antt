-- Laws of what grows and of what is moved on.
use Rattle.std.proofs.Common.{◌≡◌, ℕ, ◌+◌, ◌<◌, ◌≤◌, ◌⊎◌, ◌↔◌, Bool, true, false, true≢false, ◌||◌, List, [], ◌∷◌}
use Rattle.std.proofs.Common.{length, refl, sym, ap, ◌∙◌, subst, inl, inr, arith, ◌++◌, take, get_or, ◌/◌, ◌%◌}
use Rattle.std.proofs.{lemmas.Bool.{cases_eq, cases_lt}, lemmas.List.{take_more, take_all}}
use Rattle.std.specs.{Prelude.{slice_index}, Int.{bit_at}}
use Rattle.sect_lemmas.specs.Lists.{Has}
use Rattle.sect_lemmas.proofs.Membership.{Has-cases}
use Rattle.sect_points.specs.{Sites.{HasSite, IsNext, InBoth}, declared.holders.ThreadAction.{ThreadAction}}
use Rattle.sect_points.specs.{declared.holders.Growth.{Growth}, Partitions.{AreSlotsOfSites}}
use Rattle.sect_points.specs.Flow.{Family, ValueHas, BaseHas, Within, Moved, family_of}
use Rattle.sect_points.specs.Sets.{PointsToView, InSets, HasSet, SameHolders, Adds, sites_for, spread_to, sets_room}
use Rattle.sect_points.specs.{Sets.{rows_of}, Rows.{no_sites}}
use Rattle.sect_points.specs.declared.holders.Holder.{Holder}
use Rattle.sect_points.specs.declared.holders.Holder.TheVariants.{Local, Slot}
use Rattle.sect_types.specs.{declared.expansion.action.Value.{Value}, declared.expansion.action.Base.{Base}}
use Rattle.sect_types.specs.{declared.expansion.action.Action.{Action}, declared.expansion.action.Field.{Field}}
use Rattle.sect_points.specs.steps.Solving.{FitsAction, AllFit}
use Rattle.sect_points.specs.steps.Marks.{IsUntouched, MissesBases, Marked, HasMark, Suits, Grows, Grown, grown, GrewBy}
use Rattle.sect_points.specs.steps.Marks.{Reads, ReadsValue, ReadsBase, ReadsGrowth, IsBase, AreBases, MovedBy}
use Rattle.sect_points.specs.steps.Marks.{IsGrowth, Handles, Covers, IsThere, IsBaseAlone, IsOnlyBase, IsStretch}
use Rattle.sect_points.specs.steps.Marks.{IsGoing, IsLeft, IsSpan}
use Rattle.sect_points.proofs.SetLaws.{both_false, one_true, adds_as, spread_below, spread_more, spread_all}
use Rattle.sect_points.proofs.SolvingLaws.{moved_below, action_same}
use Rattle.sect_points.proofs.shared.SolvingLaws.{moved_more, value_more, base_more}
use Rattle.sect_types.specs.declared.expansion.action.Value.TheVariants as value
use Rattle.sect_types.specs.declared.expansion.action.Base.TheVariants as base
use Rattle.sect_types.specs.declared.expansion.action.Action.TheVariants as action
use Rattle.sect_points.specs.declared.holders.Growth.TheVariants as growth

-- the places of sets that have the same
pub place_back : (old new : PointsToView) (h : Holder) → SameHolders old new → HasSet new h → HasSet old h
place_back old new (Local t x) same p = (omega (arith, same.locals, p.0), omega (arith, same.rows t, p.1))
place_back old new (Slot o f) same p = (p.0, omega (arith, same.slots, p.1))

pub add_none : (old new : PointsToView) (T : Family) (marks : Marked) → Adds old new T false → Suits old marks
    → Grows old new T marks marks false
add_none old new T marks a suits = record {
  adds = a;
  marked = λ h s i. inl (subst (λ x. InSets x h s) (a.same refl) i);
  keeps = λ h m. m;
  same = λ e. refl;
  suits = λ h p. suits h (place_back old new h a.places p);
}

pub grows_as : (old new : PointsToView) (T V : Family) (before after : Marked) (grew : Bool)
    → Grows old new T before after grew → ((h : Holder) (s : ℕ) → V h s ↔ T h s) → Grows old new V before after grew
grows_as old new T V before after grew g same = record {
  adds = adds_as old new T V grew g.adds same;
  marked = g.marked;
  keeps = g.keeps;
  same = g.same;
  suits = g.suits;
}

pub spread_grows : (n m : ℕ) (old mid new : PointsToView) (bases : List ℕ) (f : ℕ) (sites : List ℕ)
    (marks0 marks1 marks2 : Marked) (first second grew : Bool) → IsNext (HasSite bases) n m
    → Grows old mid (spread_below n bases f sites) marks0 marks1 first
    → Grows mid new (sites_for (Slot m f) sites) marks1 marks2 second → grew ≡ (second || first)
    → Grows old new (spread_below (m + 1) bases f sites) marks0 marks2 grew
spread_grows n m old mid new bases f sites marks0 marks1 marks2 first second grew next a b is = record {
  adds = spread_more n m old mid new bases f sites first second grew next a.adds b.adds is;
  marked = λ h s i. elim (b.marked h s i)
      [ inl j ↦ elim (a.marked h s j) [ inl k ↦ inl k | inr k ↦ inr (b.keeps h k) ] | inr k ↦ inr k ];
  keeps = λ h k. b.keeps h (a.keeps h k);
  same = λ e. (let f = both_false first second (sym is ∙ e) in b.same f.1 ∙ a.same f.0);
  suits = b.suits;
}

pub spread_whole : (n : ℕ) (old new : PointsToView) (bases : List ℕ) (f : ℕ) (sites : List ℕ) (before after : Marked)
    (grew : Bool) → ((o : ℕ) → n ≤ o → HasSite bases o → ⊥)
    → Grows old new (spread_below n bases f sites) before after grew
    → Grows old new (spread_to bases f sites) before after grew
spread_whole n old new bases f sites before after grew none g = record {
  adds = spread_all n old new bases f sites grew none g.adds;
  marked = g.marked;
  keeps = g.keeps;
  same = g.same;
  suits = g.suits;
}

-- the bases of a growth
pub covers_all : (sets : PointsToView) (g : Grown) (p : ThreadAction) (bases : List ℕ)
    → ((o : ℕ) → HasSite bases o ↔ IsBase (InSets sets) p.thread p.action o) → Covers sets g p bases
covers_all sets g p bases are before after grew-so sub h s m = inr (by p.action are m)
  where
    by : (a : Action) → ((o : ℕ) → HasSite bases o ↔ IsBase (InSets sets) p.thread a o)
        → Moved (InSets after) p.thread a h s → MovedBy (InSets sets) bases p.thread a h s
    by (action.Assign x v) are m = (m.0, value_more (InSets after) (InSets sets) p.thread v s sub m.1)
    by (action.Compute x v o w) are m = m
    by (action.New x r i) are m = m
    by (action.Load x b f) are m = (
      m.0,
      (
        m.1.0,
        (are m.1.0).1 (base_more (InSets after) (InSets sets) p.thread b m.1.0 sub m.1.1),
        sub (Slot m.1.0 f.number) s m.1.2,
      ),
    )
    by (action.Store b f v) are m = (
      m.0,
      (are m.0).1 (base_more (InSets after) (InSets sets) p.thread b m.0 sub m.1),
      m.2,
      value_more (InSets after) (InSets sets) p.thread v s sub m.3,
    )
    by (action.Print v) are m = m

pub load_grows : (old new : PointsToView) (t x : ℕ) (b : Base) (f : Field) (bases all : List ℕ) (before after : Marked)
    (grew : Bool)
    → ((s : ℕ) → HasSite all s ↔ ((o : ℕ) × HasSite bases o × InSets old (Slot o f.number) s))
    → Grows old new (sites_for (Local t x) all) before after grew
    → Grows old new (MovedBy (InSets old) bases t (action.Load x b f)) before after grew
load_grows old new t x b f bases all before after grew is g =
    grows_as old new _ _ before after grew g (λ h s. (λ m. (m.0, (is s).1 m.1), λ m. (m.0, (is s).0 m.1)))

-- by new bases alone
pub covers_new : (sets : PointsToView) (p : ThreadAction) (t x : ℕ) (new bases : List ℕ)
    → IsOnlyBase p (growth.Local t x) → ((o : ℕ) → HasSite bases o ↔ InBoth new new o)
    → Covers sets (grown (growth.Local t x) new) p bases
covers_new sets p t x new bases (same, alone) both before after grew-so sub h s m = by p.action alone m
  where
    slot_before : (o f r : ℕ) → InSets after (Slot o f) r → InSets before (Slot o f) r
    slot_before o f r k = elim (grew-so (Slot o f) r k)
        [ inl j ↦ j | inr j ↦ (let e : Slot o f ≡ Local t x = j.0 in absurd cc) ]

    value_at : (v : Value) (x : ℕ) (r : ℕ) → (v ≡ value.Local x → ⊥)
        → ((y : ℕ) → (y ≡ x → ⊥) → InSets after (Local p.thread y) r → InSets before (Local p.thread y) r)
        → ValueHas (InSets after) p.thread v r → ValueHas (InSets before) p.thread v r
    value_at (value.Local y) x r apart other k = other y (λ e. apart (ap value.Local e)) k
    value_at (value.Global g) x r apart other k = k
    value_at value.Null x r apart other k = k
    value_at (value.Number n) x r apart other k = k

    local_other : (y r : ℕ) → (y ≡ x → ⊥) → InSets after (Local p.thread y) r → InSets before (Local p.thread y) r
    local_other y r apart k = elim (grew-so (Local p.thread y) r k)
        [ inl j ↦ j | inr j ↦ (let e : Local p.thread y ≡ Local t x = j.0 in absurd (apart cc)) ]

    base_new : (b : Base) (o : ℕ) → b ≡ base.Local x → BaseHas (InSets after) p.thread b o
        → BaseHas (InSets before) p.thread b o ⊎ HasSite new o
    base_new (base.Local y) o is k = elim (grew-so (Local p.thread y) o k) [ inl j ↦ inl j | inr j ↦ inr j.1 ]
    base_new (base.Global g) o is k = inl k

    by : (a : Action) → IsBaseAlone a x → Moved (InSets after) p.thread a h s → Moved (InSets before) p.thread a h s
        ⊎ MovedBy (InSets sets) bases p.thread a h s
    by (action.Assign y v) alone m = absurd alone
    by (action.Compute y v o w) alone m = absurd alone
    by (action.New y r i) alone m = absurd alone
    by (action.Load y b f) alone m = elim (base_new b m.1.0 alone m.1.1) [
      | inl k ↦ inl (m.0, (m.1.0, k, slot_before m.1.0 f.number s m.1.2))
      | inr k ↦ inr (m.0, (m.1.0, (both m.1.0).1 (k, k), sub (Slot m.1.0 f.number) s m.1.2))
    ]
    by (action.Store b f v) alone m = elim (base_new b m.0 alone.0 m.1) [
      | inl k ↦ inl (m.0, k, m.2, value_at v x s alone.1 (λ y apart. local_other y s apart) m.3)
      | inr k ↦ inr (m.0, (both m.0).1 (k, k), m.2, value_more (InSets after) (InSets sets) p.thread v s sub m.3)
    ]
    by (action.Print v) alone m = absurd alone

-- by the bases whose field grew
pub covers_field : (sets : PointsToView) (p : ThreadAction) (f : ℕ) (new all bases : List ℕ)
    → ((o : ℕ) → HasSite all o ↔ IsBase (InSets sets) p.thread p.action o)
    → ((o : ℕ) → HasSite bases o ↔ InBoth all new o) → Covers sets (grown (growth.Field f) new) p bases
covers_field sets p f new all bases are both before after grew-so sub h s m = by p.action are m
  where
    local_before : (y r : ℕ) → InSets after (Local p.thread y) r → InSets before (Local p.thread y) r
    local_before y r k = elim (grew-so (Local p.thread y) r k)
        [ inl j ↦ j | inr (o, is, j) ↦ (let e : Local p.thread y ≡ Slot o f = is in absurd cc) ]

    base_before : (b : Base) (o : ℕ) → BaseHas (InSets after) p.thread b o → BaseHas (InSets before) p.thread b o
    base_before (base.Local y) o k = local_before y o k
    base_before (base.Global g) o k = k

    value_before : (v : Value) (r : ℕ) → ValueHas (InSets after) p.thread v r → ValueHas (InSets before) p.thread v r
    value_before (value.Local y) r k = local_before y r k
    value_before (value.Global g) r k = k
    value_before value.Null r k = k
    value_before (value.Number n) r k = k

    by : (a : Action) → ((o : ℕ) → HasSite all o ↔ IsBase (InSets sets) p.thread a o)
        → Moved (InSets after) p.thread a h s → Moved (InSets before) p.thread a h s
        ⊎ MovedBy (InSets sets) bases p.thread a h s
    by (action.Assign y v) are m = inl (m.0, value_before v s m.1)
    by (action.Compute y v o w) are m = inl m
    by (action.New y r i) are m = inl m
    by (action.Load y b g) are m = elim (grew-so (Slot m.1.0 g.number) s m.1.2) [
      | inl k ↦ inl (m.0, (m.1.0, base_before b m.1.0 m.1.1, k))
      | inr (o, is, k) ↦
          let e : Slot m.1.0 g.number ≡ Slot o f = is in
          let same : o ≡ m.1.0 = cc in
          inr (
            m.0,
            (
              m.1.0,
              (both m.1.0).1 (
                (are m.1.0).1
                    (base_more (InSets after) (InSets sets) p.thread b m.1.0 sub m.1.1),
                subst (HasSite new) same k,
              ),
              sub (Slot m.1.0 g.number) s m.1.2,
            ),
          )
    ]
    by (action.Store b g v) are m = inl (m.0, base_before b m.0 m.1, m.2, value_before v s m.3)
    by (action.Print v) are m = inl m

-- by the growth of a field of other sites a load moves nothing
untouched : (sets : PointsToView) (p : ThreadAction) (g : Growth) (new : List ℕ) → IsUntouched sets p g new
    → Handles sets sets (grown g new) p
untouched sets p (growth.Local t x) new none before after grew-so sub h s m = absurd none
untouched sets p (growth.Field f) new none before after grew-so sub h s m = inl (by p.action none m)
  where
    local_before : (y r : ℕ) → InSets after (Local p.thread y) r → InSets before (Local p.thread y) r
    local_before y r k = elim (grew-so (Local p.thread y) r k)
        [ inl j ↦ j | inr (o, is, j) ↦ (let e : Local p.thread y ≡ Slot o f = is in absurd cc) ]

    base_before : (b : Base) (o : ℕ) → BaseHas (InSets after) p.thread b o → BaseHas (InSets before) p.thread b o
    base_before (base.Local y) o k = local_before y o k
    base_before (base.Global g) o k = k

    by : (a : Action) → MissesBases (InSets sets) p.thread a new → Moved (InSets after) p.thread a h s
        → Moved (InSets before) p.thread a h s
    by (action.Assign y v) none m = absurd none
    by (action.Compute y v o w) none m = absurd none
    by (action.New y r i) none m = absurd none
    by (action.Load y b g) none m = elim (grew-so (Slot m.1.0 g.number) s m.1.2) [
      | inl k ↦ (m.0, (m.1.0, base_before b m.1.0 m.1.1, k))
      | inr (o, is, k) ↦
          let e : Slot m.1.0 g.number ≡ Slot o f = is in
          let same : o ≡ m.1.0 = cc in
          absurd (none m.1.0 (base_more (InSets after) (InSets sets) p.thread b m.1.0 sub m.1.1)
          (subst (HasSite new) same k))
    ]
    by (action.Store b g v) none m = absurd none
    by (action.Print v) none m = absurd none

-- nothing is moved
pub stretch_none : (list : List ThreadAction) (sets : PointsToView) (marks : Marked)
    → IsStretch list sets sets marks marks false
stretch_none list sets marks = record {
  within = λ others closed sub. sub;
  below = λ b. b;
  more = λ h s k. k;
  marked = λ h s k. inl k;
  keeps = λ h k. k;
  same = λ e. (refl, refl);
  less = λ e. absurd (true≢false (sym e));
  places = record { sites = refl; slots = refl; locals = refl; rows = λ t. refl };
  suits = λ k. k;
}

stretch_most : (list : List ThreadAction) (old new : PointsToView) (before after : Marked) (grew : Bool)
    → IsStretch list old new before after grew → sets_room new ≤ sets_room old
stretch_most list old new before after true r = omega (arith, r.less refl)
stretch_most list old new before after false r = omega (arith, ap sets_room (r.same refl).0)

pub stretch_then : (list : List ThreadAction) (old mid new : PointsToView) (marks0 marks1 marks2 : Marked)
    (first second grew : Bool) → IsStretch list old mid marks0 marks1 first
    → IsStretch list mid new marks1 marks2 second
    → grew ≡ (second || first) → IsStretch list old new marks0 marks2 grew
stretch_then list old mid new marks0 marks1 marks2 first second grew a b is = record {
  within = λ others closed sub. b.within others closed (a.within others closed sub);
  below = λ k. b.below (a.below k);
  more = λ h s k. b.more h s (a.more h s k);
  marked = λ h s i. elim (b.marked h s i)
      [ inl j ↦ elim (a.marked h s j) [ inl k ↦ inl k | inr k ↦ inr (b.keeps h k) ] | inr k ↦ inr k ];
  keeps = λ h k. b.keeps h (a.keeps h k);
  same = λ e. (let f = both_false first second (sym is ∙ e) in
      ((b.same f.1).0 ∙ (a.same f.0).0, (b.same f.1).1 ∙ (a.same f.0).1));
  less = λ e. elim (one_true first second (sym is ∙ e)) [
    | inl t ↦ omega (arith, a.less t, stretch_most list mid new marks1 marks2 second b)
    | inr t ↦ omega (arith, b.less t, stretch_most list old mid marks0 marks1 first a)
  ];
  places = record {
    sites = b.places.sites ∙ a.places.sites;
    slots = b.places.slots ∙ a.places.slots;
    locals = b.places.locals ∙ a.places.locals;
    rows = λ t. b.places.rows t ∙ a.places.rows t;
  };
  suits = λ k. b.suits (a.suits k);
}

-- what is moved by some bases is moved
pub by_moved : (F : Family) (bases : List ℕ) (t : ℕ) (a : Action) → ((o : ℕ) → HasSite bases o → IsBase F t a o)
    → Within (MovedBy F bases t a) (Moved F t a)
by_moved F bases t (action.Assign x v) are h s m = m
by_moved F bases t (action.Compute x v o w) are h s m = m
by_moved F bases t (action.New x r i) are h s m = m
by_moved F bases t (action.Load x b f) are h s m = (m.0, (m.1.0, are m.1.0 m.1.1, m.1.2))
by_moved F bases t (action.Store b f v) are h s m = (m.0, are m.0 m.1, m.2, m.3)
by_moved F bases t (action.Print v) are h s m = m

pub stretch_by : (list : List ThreadAction) (p : ThreadAction) (old new : PointsToView) (bases : List ℕ)
    (before after : Marked) (grew : Bool) → Has list p → FitsAction old p.thread p.action
    → AreBases (InSets old) p bases
    → Grows old new (MovedBy (InSets old) bases p.thread p.action) before after grew
    → IsStretch list old new before after grew
stretch_by list p old new bases before after grew has fits are g = record {
  within = λ others closed sub h s k. elim ((g.adds.has h s).0 k) [
    | inl k ↦ sub h s k
    | inr m ↦ closed p has h s (moved_more (InSets old) (family_of others) p.thread p.action sub h s
        (by_moved (InSets old) bases p.thread p.action are h s m))
  ];
  below = λ below h s k. elim ((g.adds.has h s).0 k) [
    | inl k ↦ omega (arith, below h s k, g.adds.places.sites)
    | inr m ↦ omega (
      arith,
      moved_below old p.thread p.action h s below fits
          (by_moved (InSets old) bases p.thread p.action are h s m),
      g.adds.places.sites,
    )
  ];
  more = λ h s k. (g.adds.has h s).1 (inl k);
  marked = g.marked;
  keeps = g.keeps;
  same = λ e. (g.adds.same e, g.same e);
  less = g.adds.less;
  places = g.adds.places;
  suits = λ k. g.suits;
}

-- one statement more is handled
pub handles_by : (p : ThreadAction) (g : Grown) (bases : List ℕ) (old now new : PointsToView) (before after : Marked)
    (grew : Bool) → Within (InSets old) (InSets now) → Covers now g p bases
    → Grows now new (MovedBy (InSets now) bases p.thread p.action) before after grew → Handles old new g p
handles_by p g bases old now new before after grew more covers grows b a grew-so sub h s m =
    elim (covers b a grew-so (λ k r i. more k r (sub k r i)) h s m)
    [ inl k ↦ inl k | inr k ↦ inr ((grows.adds.has h s).1 (inr k)) ]

pub handles_more : (p : ThreadAction) (g : Grown) (old now new : PointsToView) → Within (InSets now) (InSets new)
    → Handles old now g p → Handles old new g p
handles_more p g old now new more handles b a grew-so sub h s m =
    elim (handles b a grew-so sub h s m) [ inl k ↦ inl k | inr k ↦ inr (more h s k) ]

pub handled_more : (i : ℕ) (items : List ThreadAction) (p : ThreadAction) (g : Grown) (bases : List ℕ)
    (old now new : PointsToView) (before after : Marked) (grew : Bool) → i < length items → p ≡ get_or items i p
    → Within (InSets old) (InSets now) → Covers now g p bases
    → Grows now new (MovedBy (InSets now) bases p.thread p.action) before after grew
    → ((q : ThreadAction) → Has (take i items) q → Handles old now g q) → (q : ThreadAction)
    → Has (take (i + 1) items) q → Handles old new g q
handled_more i items p g bases old now new before after grew lt is more covers grows handled q h =
    let next : take (i + 1) items ≡ take i items ++ p ∷ [] = take_more items i p lt
    ∙ ap (λ r. take i items ++ r ∷ []) (sym is) in
    elim (Has-cases (take i items) (p ∷ []) q (subst (λ l. Has l q) next h)) [
      | inl k ↦ handles_more q g old now new (λ k s i. (grows.adds.has k s).1 (inl i)) (handled q k)
      | inr k ↦ elim k [
        | inl same ↦ subst (Handles old new g) same
            (handles_by p g bases old now new before after grew more covers grows)
        | inr k ↦ absurd k
      ]
    ]

pub handled_past : (i : ℕ) (items : List ThreadAction) (p : ThreadAction) (g : Growth) (words : List ℕ)
    (old now : PointsToView) → i < length items → p ≡ get_or items i p → Within (InSets old) (InSets now)
    → IsUntouched now p g words
    → ((q : ThreadAction) → Has (take i items) q → Handles old now (grown g words) q) → (q : ThreadAction)
    → Has (take (i + 1) items) q → Handles old now (grown g words) q
handled_past i items p g words old now lt is more none handled q h =
    let next : take (i + 1) items ≡ take i items ++ p ∷ [] = take_more items i p lt
    ∙ ap (λ r. take i items ++ r ∷ []) (sym is) in
    elim (Has-cases (take i items) (p ∷ []) q (subst (λ l. Has l q) next h)) [
      | inl k ↦ handled q k
      | inr k ↦ elim k [
        | inl same ↦ subst (Handles old now (grown g words)) same
            (λ before after grew-so sub r s m. untouched now p g words none before after grew-so
            (λ k t j. more k t (sub k t j)) r s m)
        | inr k ↦ absurd k
      ]
    ]

-- a statement that moves more reads what grew
reads_or : (before after : PointsToView) (g : Grown) (p : ThreadAction) → IsGrowth before after g → (h : Holder) (s : ℕ)
    → Moved (InSets after) p.thread p.action h s → Moved (InSets before) p.thread p.action h s ⊎ ReadsGrowth g p
reads_or before after g p grew-so h s m =
    elim (by p.action m) [ inl k ↦ inl k | inr (k, r, reads, k') ↦ inr (k, r, reads, k') ]
  where
    R : Action → Type 0
    R a = (k : Holder) × (r : ℕ) × Reads p.thread a k × GrewBy g k r

    value_or : (v : Value) (r : ℕ) → ValueHas (InSets after) p.thread v r → ValueHas (InSets before) p.thread v r
        ⊎ ((k : Holder) × (q : ℕ) × ReadsValue p.thread v k × GrewBy g k q)
    value_or (value.Local x) r i =
        elim (grew-so (Local p.thread x) r i) [ inl j ↦ inl j | inr j ↦ inr (Local p.thread x, r, refl, j) ]
    value_or (value.Global y) r i = inl i
    value_or value.Null r i = inl i
    value_or (value.Number n) r i = inl i

    base_or : (b : Base) (r : ℕ) → BaseHas (InSets after) p.thread b r → BaseHas (InSets before) p.thread b r
        ⊎ ((k : Holder) × (q : ℕ) × ReadsBase p.thread b k × GrewBy g k q)
    base_or (base.Local x) r i = elim (grew-so (Local p.thread x) r i)
        [ inl j ↦ inl j | inr j ↦ inr (Local p.thread x, r, refl, j) ]
    base_or (base.Global y) r i = inl i

    by : (a : Action) → Moved (InSets after) p.thread a h s → Moved (InSets before) p.thread a h s ⊎ R a
    by (action.Assign x v) m = elim (value_or v s m.1)
        [ inl k ↦ inl (m.0, k) | inr (k, q, reads, j) ↦ inr (k, q, reads, j) ]
    by (action.Compute x v o w) m = inl m
    by (action.New x r i) m = inl m
    by (action.Load x b f) m = elim (base_or b m.1.0 m.1.1) [
      | inl k ↦ elim (grew-so (Slot m.1.0 f.number) s m.1.2)
          [ inl j ↦ inl (m.0, (m.1.0, k, j)) | inr j ↦ inr (Slot m.1.0 f.number, s, inr (m.1.0, refl), j) ]
      | inr (k, q, reads, j) ↦ inr (k, q, inl reads, j)
    ]
    by (action.Store b f v) m = elim (base_or b m.0 m.1) [
      | inl k ↦ elim (value_or v s m.3)
          [ inl j ↦ inl (m.0, k, m.2, j) | inr (i, q, reads, j) ↦ inr (i, q, inr reads, j) ]
      | inr (k, q, reads, j) ↦ inr (k, q, inl reads, j)
    ]
    by (action.Print v) m = inl m

pub handled_all : (i : ℕ) (list items : List ThreadAction) (g : Grown) (old new : PointsToView) → length items ≤ i
    → ((p : ThreadAction) → Has list p → ReadsGrowth g p → Has items p)
    → ((p : ThreadAction) → Has (take i items) p → Handles old new g p) → (p : ThreadAction) → Has list p
    → Handles old new g p
handled_all i list items g old new past each handled p has before after grew-so sub h s m =
    elim (reads_or before after g p grew-so h s m) [
      | inl k ↦ inl k
      | inr reads ↦ handled p (subst (λ l. Has l p) (sym (take_all i items past)) (each p has reads)) before after
          grew-so
          sub h s m
    ]

pub fits_after : (list : List ThreadAction) (p : ThreadAction) (old new : PointsToView) → AllFit old list
    → SameHolders old new → Has list p → FitsAction new p.thread p.action
fits_after list p old new fits same has = action_same old new p.thread p.action same (fits p has)

pub covers_alone : (sets : PointsToView) (p : ThreadAction) (g : Growth) (new bases : List ℕ) → IsOnlyBase p g
    → ((o : ℕ) → HasSite bases o ↔ InBoth new new o) → Covers sets (grown g new) p bases
covers_alone sets p (growth.Local t x) new bases only both = covers_new sets p t x new bases only both
covers_alone sets p (growth.Field f) new bases only both = absurd only

pub there_after : (g : Growth) (words : List ℕ) (old new : PointsToView) → Within (InSets old) (InSets new)
    → IsThere g words old → IsThere g words new
there_after (growth.Local t x) words old new more there = λ s h. more (Local t x) s (there s h)
there_after (growth.Field f) words old new more there = tt

-- what is moved on by all statements
pub going_on : (list : List ThreadAction) (g : Grown) (old new moved moved' : PointsToView) (marks marks' : Marked)
    (grew : Bool) → IsGoing list old moved marks → IsStretch list old new marks marks' grew
    → ((p : ThreadAction) → Has list p → Handles old new g p) → IsGrowth moved moved' g
    → Within (InSets moved') (InSets old) → SameHolders moved moved' → IsGoing list new moved' marks'
going_on list g old new moved moved' marks marks' grew going r handled growth part places = record {
  within = λ others closed. r.within others closed (going.within others closed);
  below = r.below going.below;
  part = λ h s k. r.more h s (part h s k);
  done = λ p has h s m. elim (handled p has moved moved' growth part h s m)
      [ inl k ↦ r.more h s (going.done p has h s k) | inr k ↦ k ];
  same = record {
    sites = places.sites ∙ going.same.sites ∙ sym r.places.sites;
    slots = places.slots ∙ going.same.slots ∙ sym r.places.slots;
    locals = places.locals ∙ going.same.locals ∙ sym r.places.locals;
    rows = λ t. places.rows t ∙ going.same.rows t ∙ sym (r.places.rows t);
  };
  suits = r.suits going.suits;
}

pub local_growth : (t x : ℕ) (words : List ℕ) (sets moved moved' : PointsToView) (grew : Bool)
    → Adds moved moved' (λ h s. (h ≡ Local t x) × InSets sets (Local t x) s) grew
    → ((s : ℕ) → HasSite words s ↔ (InSets sets (Local t x) s × (InSets moved (Local t x) s → ⊥)))
    → IsGrowth moved moved' (grown (growth.Local t x) words)
local_growth t x words sets moved moved' grew a is h s k = elim ((a.has h s).0 k) [
  | inl j ↦ inl j
  | inr (e, j) ↦ elim
      (cases_eq (bit_at (slice_index (get_or (rows_of moved t) x no_sites).words (s / 64)) (s % 64)) 1) [
        | inl one ↦ inl (subst (λ k. InSets moved k s) (sym e) one)
        | inr none ↦ inr (e, (is s).1 (j, none))
      ]
]

pub local_part : (t x : ℕ) (sets moved moved' : PointsToView) (grew : Bool)
    → Adds moved moved' (λ h s. (h ≡ Local t x) × InSets sets (Local t x) s) grew
    → Within (InSets moved) (InSets sets) → Within (InSets moved') (InSets sets)
local_part t x sets moved moved' grew a part h s k = elim ((a.has h s).0 k) [
  | inl j ↦ part h s j
  | inr (is, j) ↦ subst (λ h. InSets sets h s) (sym is) j
]

pub span_taken : (list : List ThreadAction) (old new : PointsToView) (marks0 marks1 marks2 : Marked) (grew : Bool)
    → ((h : Holder) → HasMark marks1 h → HasMark marks0 h) → IsStretch list old new marks1 marks2 grew
    → IsSpan old new marks0 marks2 grew
span_taken list old new marks0 marks1 marks2 grew fewer r = record {
  same = λ e. (r.same e).0;
  fewer = λ e h k. fewer h (subst (λ m. HasMark m h) (r.same e).1 k);
  less = r.less;
  places = r.places;
}

-- the field of the marked sites below n is moved on
pub record IsTaking (n f : ℕ) (words : List ℕ) (sets old new : PointsToView) : Type 0 where
  pub growth : IsGrowth old new (grown (growth.Field f) words)
  pub more : Within (InSets old) (InSets new)
  pub part : Within (InSets old) (InSets sets) → Within (InSets new) (InSets sets)
  pub here : (o s : ℕ) → o < n → HasSite words o → InSets sets (Slot o f) s → InSets new (Slot o f) s
  pub places : SameHolders old new

pub none_taken : (f : ℕ) (words : List ℕ) (sets old : PointsToView) → IsTaking 0 f words sets old old
none_taken f words sets old = record {
  growth = λ h s k. inl k;
  more = λ h s k. k;
  part = λ p. p;
  here = λ o s lt. absurd (omega arith);
  places = record { sites = refl; slots = refl; locals = refl; rows = λ t. refl };
}

pub taking_more : (n m f : ℕ) (words row : List ℕ) (sets old mid new : PointsToView) (grew : Bool)
    → IsNext (HasSite words) n m → ((s : ℕ) → HasSite row s ↔ InSets sets (Slot m f) s)
    → Adds mid new (sites_for (Slot m f) row) grew → IsTaking n f words sets old mid
    → IsTaking (m + 1) f words sets old new
taking_more n m f words row sets old mid new grew next is a h = record {
  growth = λ k s i. elim ((a.has k s).0 i) [ inl j ↦ h.growth k s j | inr j ↦ inr (m, j.0, next.2) ];
  more = λ k s i. (a.has k s).1 (inl (h.more k s i));
  part = λ p k s i. elim ((a.has k s).0 i)
      [ inl j ↦ h.part p k s j | inr j ↦ subst (λ q. InSets sets q s) (sym j.0) ((is s).0 j.1) ];
  here = λ o s lt has i. elim (cases_eq o m) [
    | inl same ↦ (a.has (Slot o f) s).1
        (inr (ap (λ q. Slot q f) same, (is s).1 (subst (λ q. InSets sets (Slot q f) s) same i)))
    | inr apart ↦ elim (cases_lt o n) [
      | inl below ↦ (a.has (Slot o f) s).1 (inl (h.here o s below has i))
      | inr past ↦ absurd (next.3 o past (omega arith) has)
    ]
  ];
  places = record {
    sites = a.places.sites ∙ h.places.sites;
    slots = a.places.slots ∙ h.places.slots;
    locals = a.places.locals ∙ h.places.locals;
    rows = λ t. a.places.rows t ∙ h.places.rows t;
  };
}

-- what is no site has nothing
pub taking_past : (n m f : ℕ) (words : List ℕ) (sets old new : PointsToView) → IsNext (HasSite words) n m
    → AreSlotsOfSites sets → sets.sites ≤ m → IsTaking n f words sets old new → IsTaking (m + 1) f words sets old new
taking_past n m f words sets old new next slots past h = record {
  growth = h.growth;
  more = h.more;
  part = h.part;
  here = λ o s lt has i. elim (cases_lt o n) [
    | inl below ↦ h.here o s below has i
    | inr ge ↦ elim (cases_eq o m) [
      | inl same ↦ absurd (omega (arith, slots o f s i, same, past))
      | inr apart ↦ absurd (next.3 o ge (omega arith) has)
    ]
  ];
  places = h.places;
}

-- what was marked in the field is moved on
pub left_field : (n f : ℕ) (words : List ℕ) (list : List ThreadAction) (old new moved moved' : PointsToView)
    (before taken after : Marked) (grew : Bool) → ((o : ℕ) → n ≤ o → HasSite words o → ⊥)
    → IsLeft old moved before (λ h. ⊥)
    → ((h : Holder) → HasMark before h → HasMark taken h ⊎ ((o : ℕ) × (h ≡ Slot o f) × HasSite words o))
    → IsTaking n f words old moved moved' → IsStretch list old new taken after grew → IsLeft new moved' after (λ h. ⊥)
left_field n f words list old new moved moved' before taken after grew none left marks taking r h s k =
    elim (r.marked h s k) [
      | inr m ↦ inr (inl m)
      | inl i ↦ elim (left h s i) [
        | inl j ↦ inl (taking.more h s j)
        | inr j ↦ elim j [
          | inl m ↦ elim (marks h m) [
            | inl t ↦ inr (inl (r.keeps h t))
            | inr (o, is, has) ↦ elim (cases_lt o n) [
              | inl lt ↦ inl (subst (λ q. InSets moved' q s) (sym is)
                  (taking.here o s lt has (subst (λ q. InSets old q s) is i)))
              | inr ge ↦ absurd (none o ge has)
            ]
          ]
          | inr e ↦ absurd e
        ]
      ]
    ]
