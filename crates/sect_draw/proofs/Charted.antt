-- Turns that are charted one after another.
use Rattle.std.proofs.Common.{◌≡◌, ℕ, ◌+◌, ◌<◌, List, [], ◌∷◌, ◌++◌, length, map, Option, refl, sym, ap, ◌∙◌, subst, inl}
use Rattle.std.proofs.{Common.{inr, arith}, lemmas.List.{map-append, length-map}}
use Rattle.std.specs.Prelude.{String, Vec}
use Rattle.std.specs.declared.alloc.Global.{Global}
use Rattle.sect_lemmas.specs.Lists.{Has}
use Rattle.sect_lemmas.proofs.Membership.{Has-cases}
use Rattle.sect_store.specs.Outcomes.{OutcomeView}
use Rattle.sect_emit.specs.Compiled.{CompiledView, program_of}
use Rattle.sect_world.specs.{Runs.{order_of}, Worlds.{WorldView, first_world, outcome_at}}
use Rattle.sect_draw.specs.{Table.{table_text}, Places.{PlacesView, ran_outcome}}
use Rattle.sect_draw.specs.Chart.{TurnView, Noted, IsChart, nothing_noted, heading, turn_row, turn_rows, chart_text}
use Rattle.sect_draw.specs.steps.{CellTexts.{texts, rows_of, HaveCells}, Turning.{IsCharted, GoesOn}}
use Rattle.sect_draw.proofs.{Turns.{rows_more}, Going.{goes_nowhere, goes_more}}

-- the turns of these threads have led from the first world to this
pub record Led (c : CompiledView) (fuel : ℕ) (ts : List ℕ) (w : WorldView) (n : Noted) : Type 0 where
  pub gone : GoesOn (first_world c fuel) (nothing_noted (length (program_of c).texts)) w n
  pub threads : ts ≡ map (λ (x : TurnView). x.thread) gone.turns
  pub within : (t : ℕ) → Has ts t → t < length (program_of c).texts

-- with their rows below the heading
pub record SoFar (c : CompiledView) (fuel : ℕ) (v : Option PlacesView) (ts : List ℕ) (w : WorldView) (n : Noted)
    (rows : List (Vec (String Global) Global)) : Type 0 where
  pub led : Led c fuel ts w n
  pub drawn : rows_of rows ≡ heading (program_of c) ∷ turn_rows c v 0 led.gone.turns
  pub cells : HaveCells (1 + length (program_of c).texts) rows

-- rows of so many cells, and one more
cells_more : (n : ℕ) (rows : List (Vec (String Global) Global)) (row : Vec (String Global) Global) → HaveCells n rows
    → length row.items ≡ n → HaveCells n (rows ++ row ∷ [])
cells_more n rows row had here other has = elim (Has-cases rows (row ∷ []) other has) [
  | inl old ↦ had other old
  | inr new ↦ elim new [
    | inl is ↦ subst (λ (r : Vec (String Global) Global). length r.items ≡ n) is here
    | inr none ↦ absurd none
  ]
]

module _ (c : CompiledView) (fuel : ℕ) where
  -- before the first turn
  abbrev pub none_led : (w : WorldView) (n : Noted) → w ≡ first_world c fuel
      → n ≡ nothing_noted (length (program_of w.compiled).texts) → Led c fuel [] w n
  none_led w n is nothing = record {
    gone = goes_nowhere (first_world c fuel) w (nothing_noted (length (program_of c).texts)) n is
        (nothing ∙ ap (λ (z : WorldView). nothing_noted (length (program_of z.compiled).texts)) is);
    threads = refl;
    within = λ t has. absurd has;
  }

  -- one turn more
  abbrev pub led_more : (ts : List ℕ) (w u : WorldView) (m n : Noted) (t : ℕ) (x : TurnView) → Led c fuel ts w m
      → IsCharted t w u m n x → t < length (program_of w.compiled).texts → Led c fuel (ts ++ t ∷ []) u n
  led_more ts w u m n t x led charted lt = record {
    gone = goes_more (first_world c fuel) w u (nothing_noted (length (program_of c).texts)) m n t x led.gone charted;
    threads = ap (λ us. us ++ t ∷ []) led.threads
        ∙ (ap (λ z. map (λ (y : TurnView). y.thread) led.gone.turns ++ z ∷ []) (sym charted.thread)
        ∙ sym (map-append (λ (y : TurnView). y.thread) led.gone.turns (x ∷ [])));
    within = λ z has. elim (Has-cases ts (t ∷ []) z has) [
      | inl old ↦ led.within z old
      | inr new ↦ elim new [
        | inl same ↦ subst (λ y. y < length (program_of c).texts) same
            (subst (λ y. t < length (program_of y).texts) led.gone.compiled lt)
        | inr none ↦ absurd none
      ]
    ];
  }

  -- before the first turn, with the heading
  pub none_so_far : (v : Option PlacesView) (w : WorldView) (n : Noted) (row : Vec (String Global) Global)
      (rows : List (Vec (String Global) Global)) → w ≡ first_world c fuel
      → n ≡ nothing_noted (length (program_of w.compiled).texts) → rows ≡ row ∷ [] → texts row.items ≡ heading (program_of c)
      → length row.items ≡ 1 + length (program_of c).texts → SoFar c fuel v [] w n rows
  none_so_far v w n row rows is nothing one told many = record {
    led = none_led w n is nothing;
    drawn = ap rows_of one ∙ ap (λ t. t ∷ []) told;
    cells = subst (HaveCells (1 + length (program_of c).texts)) (sym one) (λ other has. elim has [
      | inl same ↦ subst (λ (r : Vec (String Global) Global). length r.items ≡ 1 + length (program_of c).texts) same many
      | inr none ↦ absurd none
    ]);
  }

  -- one turn more, with its row
  pub so_far_more : (v : Option PlacesView) (ts : List ℕ) (w u : WorldView) (m n : Noted)
      (rows more : List (Vec (String Global) Global)) (row : Vec (String Global) Global) (t : ℕ) (x : TurnView)
      → SoFar c fuel v ts w m rows → IsCharted t w u m n x → texts row.items ≡ turn_row w.compiled v (length ts) x
      → length row.items ≡ 1 + length (program_of w.compiled).texts → t < length (program_of w.compiled).texts
      → more ≡ rows ++ row ∷ [] → SoFar c fuel v (ts ++ t ∷ []) u n more
  so_far_more v ts w u m n rows more row t x so charted told many lt pushed =
      let before = so.led.gone.turns in
      let heads = heading (program_of c) in
      let drawn : texts row.items ≡ turn_row c v (0 + length before) x =
      told ∙ (ap (λ z. turn_row z v (length ts) x) so.led.gone.compiled
      ∙ ap (λ k. turn_row c v k x)
      (let e : length ts ≡ 0 + length before =
      omega (arith, ap length so.led.threads, length-map before (λ (y : TurnView). y.thread)) in e)) in
      record {
        led = led_more ts w u m n t x so.led charted lt;
        drawn = ap rows_of pushed ∙ (map-append (λ (r : Vec (String Global) Global). texts r.items) rows (row ∷ [])
            ∙ (ap (λ rs. rs ++ texts row.items ∷ []) so.drawn
            ∙ (ap (λ r. heads ∷ turn_rows c v 0 before ++ r ∷ []) drawn
            ∙ ap (λ rs. heads ∷ rs) (sym (rows_more c v 0 before x)))));
        cells = subst (HaveCells (1 + length (program_of c).texts)) (sym pushed)
            (cells_more (1 + length (program_of c).texts) rows row so.cells
            (subst (λ z. length row.items ≡ 1 + length (program_of z).texts) so.led.gone.compiled many));
      }

  -- all turns
  pub all_charted : (v : Option PlacesView) (schedule : List ℕ) (w : WorldView) (n : Noted)
      (rows : List (Vec (String Global) Global)) (outcome : OutcomeView) (table bytes : List ℕ)
      → SoFar c fuel v schedule w n rows → table ≡ table_text (rows_of rows)
      → bytes ≡ table ++ ran_outcome (program_of c) v n.ran outcome
      → outcome ≡ outcome_at w.state w.order → w.order ≡ order_of w.trace → IsChart c fuel schedule v bytes
  all_charted v schedule w n rows outcome table bytes so tabled printed come ordered =
      let gone = so.led.gone in record {
        turns = gone.turns;
        state = w.state;
        noted = n;
        led = record { threads = so.led.threads; lead = gone.lead };
        printed = printed
            ∙ (ap (λ t. t ++ ran_outcome (program_of c) v n.ran outcome) (tabled ∙ ap table_text so.drawn)
            ∙ ap (λ o. chart_text c v gone.turns ++ ran_outcome (program_of c) v n.ran o)
            (come ∙ ap (outcome_at w.state) (ordered ∙ ap order_of gone.trace)));
      }
