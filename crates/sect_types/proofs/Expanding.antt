-- A block of which the first statements have been expanded.
use Rattle.std.proofs.Common.{◌≡◌, ℕ, ◌+◌, sym, ap, ◌∙◌, append-nil}
use Rattle.std.proofs.Common.{arith, Result, Ok, Err, OnOk}
use Rattle.sect_types.specs.{declared.expansion.text.Step.{Step}, Texts.{step_then}}
use Rattle.sect_types.specs.{Statements.{TextView, Stop, joined}, Expanded.{Scene}}
use Rattle.sect_front.specs.Syntax.{StatementView, BlockView, End}
use Rattle.sect_types.specs.steps.Expanding.{SettingView, FrontView, front_past_block, expanded_there, block_there}
use Rattle.sect_types.proofs.Filling.{joined_step}
use Rattle.sect_types.proofs.shared.Joining.{joined_stop}

-- the statements `rest` of `all` are left
pub record AreExpanded (w : SettingView) (n : ℕ) (v : Scene) (block all rest : BlockView) (old now : FrontView)
    (start out : TextView) : Type 0 where
  pub whole : all ≡ block
  pub text : (k : TextView)
      → joined out (joined (block_there w n v now rest) k) ≡ joined start (joined (block_there w n v old block) k)
  pub front : front_past_block w n now rest ≡ front_past_block w n old block

past_end : (w : SettingView) (n : ℕ) (f : FrontView) → front_past_block w n f End ≡ f
past_end w n f =
    let the_sites : f.at.sites + 0 ≡ f.at.sites = omega arith in
    let the_sections : f.at.sections + 0 ≡ f.at.sections = omega arith in
    let the_fresh : f.at.fresh + 0 ≡ f.at.fresh = omega arith in
    let the_calls : f.calls + 0 ≡ f.calls = omega arith in
    λ i. record {
      at = record { sites = the_sites i; sections = the_sections i; fresh = the_fresh i };
      calls = the_calls i;
      fresh = append-nil f.fresh i;
    }

-- one step more
pub put_step : {A E : Type 0} (r : Result A E) (w : SettingView) (n : ℕ) (v : Scene) (f : FrontView) (s : StatementView)
    (out new : TextView) (st : Step) → ((k : TextView) → step_then st k ≡ expanded_there w n v f s k)
    → OnOk r (new ≡ joined out (step_then st Stop))
    → OnOk r ((k : TextView) → joined new k ≡ joined out (expanded_there w n v f s k))
put_step (Ok a) w n v f s out new st is pushed = λ k.
    ap (λ t. joined t k) pushed ∙ (joined_step out st k ∙ ap (joined out) (is k))
put_step (Err e) w n v f s out new st is pushed = tt

-- the text of a block that was put into an empty one
pub text_is : (start part b : TextView) → start ≡ Stop → ((k : TextView) → joined part k ≡ joined start (joined b k))
    → part ≡ b
text_is start part b e h =
    sym (joined_stop part) ∙ (h Stop ∙ (ap (λ x. joined x (joined b Stop)) e ∙ joined_stop b))
