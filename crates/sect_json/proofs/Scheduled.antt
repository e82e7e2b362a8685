-- Turns that are told one after another.
use Rattle.std.proofs.Common.{◌≡◌, ℕ, ◌<◌, List, [], ◌∷◌, ◌++◌, length, map, refl, sym, ap, ◌∙◌, subst, inl, inr}
use Rattle.std.proofs.{lemmas.Grind.{flat_map-append}, lemmas.List.{append-nil, map-append}}
use Rattle.std.specs.List.{flat_map}
use Rattle.serde_json.specs.{View.{view}, declared.value.Value.{Value}}
use Rattle.sect_lemmas.specs.Lists.{Has}
use Rattle.sect_lemmas.proofs.Membership.{Has-cases}
use Rattle.sect_places.specs.NodeSpans.{NodeSpansView}
use Rattle.sect_emit.specs.{Compiled.{CompiledView, program_of}, State.{State, start}}
use Rattle.sect_world.specs.{Standings.{IsStanding}, Worlds.{WorldView, Does, first_world}}
use Rattle.sect_json.specs.{Turns.{TurnView, IsTurnFrom, AreTurns, turn_json}, steps.Turning.{IsTurnOf}}

-- one turn more
turns_more : (c : CompiledView) (s between : State) (xs : List TurnView) (x : TurnView) → AreTurns c s xs between
    → IsTurnFrom c between x → AreTurns c s (xs ++ x ∷ []) x.after
turns_more c s between [] x are from = (subst (λ z. IsTurnFrom c z x) (sym are) from, refl)
turns_more c s between (y ∷ xs) x are from = (are.0, turns_more c y.after between xs x are.1 from)

-- what the turns of these threads have made of the first world, as they are told
pub record SoFar (c : CompiledView) (source : List ℕ) (v : NodeSpansView) (fuel : ℕ) (ts : List ℕ) (w : WorldView)
    (values : List Value) : Type 0 where
  pub compiled : w.compiled ≡ c
  pub turns : List TurnView
  pub threads : ts ≡ map (λ (x : TurnView). x.thread) turns
  pub lead : AreTurns c (start c fuel) turns w.state
  pub trace : w.trace ≡ flat_map (λ (x : TurnView). x.events) turns
  pub told : map view values ≡ map (turn_json c source v) turns
  pub within : (t : ℕ) → Has ts t → t < length (program_of c).texts

module _ (c : CompiledView) (source : List ℕ) (v : NodeSpansView) (fuel : ℕ) where
  -- before the first turn
  pub none_so_far : (w : WorldView) (values : List Value) → w ≡ first_world c fuel → values ≡ []
      → SoFar c source v fuel [] w values
  none_so_far w values is none = record {
    compiled = ap (λ (z : WorldView). z.compiled) is;
    turns = [];
    threads = refl;
    lead = ap (λ (z : WorldView). z.state) (sym is);
    trace = ap (λ (z : WorldView). z.trace) is;
    told = ap (map view) none;
    within = λ t has. absurd has;
  }

  -- one turn more
  pub so_far_more : (ts : List ℕ) (w u : WorldView) (values more : List Value) (value : Value) (t : ℕ) (x : TurnView)
      → SoFar c source v fuel ts w values → IsTurnOf t w u x → view value ≡ turn_json c source v x
      → t < length (program_of w.compiled).texts → more ≡ values ++ value ∷ []
      → SoFar c source v fuel (ts ++ t ∷ []) u more
  so_far_more ts w u values more value t x so turn told lt pushed = record {
    compiled = turn.compiled ∙ so.compiled;
    turns = so.turns ++ x ∷ [];
    threads = ap (λ us. us ++ t ∷ []) so.threads
        ∙ (ap (λ n. map (λ (y : TurnView). y.thread) so.turns ++ n ∷ []) (sym turn.thread)
        ∙ sym (map-append (λ (y : TurnView). y.thread) so.turns (x ∷ [])));
    lead = subst (AreTurns c (start c fuel) (so.turns ++ x ∷ [])) turn.after
        (turns_more c (start c fuel) w.state so.turns x so.lead from);
    trace = turn.trace ∙ (ap (λ es. es ++ x.events) so.trace
        ∙ (ap (λ es. flat_map (λ (y : TurnView). y.events) so.turns ++ es) (sym (append-nil x.events))
        ∙ sym (flat_map-append (λ (y : TurnView). y.events) so.turns (x ∷ []))));
    told = ap (map view) pushed ∙ (map-append view values (value ∷ [])
        ∙ (ap (λ ds. ds ++ view value ∷ []) so.told
        ∙ (ap (λ d. map (turn_json c source v) so.turns ++ d ∷ []) told
        ∙ sym (map-append (turn_json c source v) so.turns (x ∷ [])))));
    within = λ n has. elim (Has-cases ts (t ∷ []) n has) [
      | inl old ↦ so.within n old
      | inr new ↦ elim new [
        | inl same ↦ subst (λ z. z < length (program_of c).texts) same
            (subst (λ z. t < length (program_of z).texts) so.compiled lt)
        | inr none ↦ absurd none
      ]
    ];
  } where
    from : IsTurnFrom c w.state x
    from = record {
      before = turn.before;
      does = subst (λ n. Does c w.state n x.turned x.events x.after) (sym turn.thread)
          (subst (λ z. Does c w.state t x.turned x.events z) (sym turn.after)
          (subst (λ z. Does z w.state t x.turned x.events u.state) so.compiled turn.does));
      stood = subst (λ n. IsStanding c w.state n x.stood) (sym turn.thread)
          (subst (λ z. IsStanding z w.state t x.stood) so.compiled turn.stood);
      stands = subst (λ n. IsStanding c x.after n x.stands) (sym turn.thread)
          (subst (λ z. IsStanding c z t x.stands) (sym turn.after)
          (subst (λ z. IsStanding z u.state t x.stands) so.compiled turn.stands));
    }
