-- What is answered to a timed run with places.
use Rattle.std.proofs.Common.{◌≡◌, ℕ, List, Result, Ok, Err, IsErrAnd, inl, sym, subst}
use Rattle.std.specs.{Prelude.{IfOk, option_map}, String.{string_bytes}}
use Rattle.sect_lemmas.proofs.Results.{given}
use Rattle.sect_answers.specs.{Answers.{IsDue}, Placed.{IsPlacedRun}, declared.refusal.Refusal.{Refusal}}
use Rattle.sect_command.specs.Requests.{Answers, AnswersPlaced, AreMeantBy, IsPlacedDue, IsRefusalDue, MayRemark}
use Rattle.sect_command.specs.Requests.{MayRemarkPlaced, file_of}
use Rattle.sect_command.specs.declared.request.{Placed.{Placed}, PlacedRun.{PlacedRun}, Request.{Request}}
use Rattle.sect_command.specs.declared.request.PlacedRun.TheVariants as placed
use Rattle.sect_command.specs.declared.request.Request.TheVariants as asks
use Rattle.sect_command.proofs.answering.done.Goals as goal

-- an error has no answer
no_answer : {T E : Type 0} (r : Result T E) (P : T → Type 0) (Q : E → Type 0) → IsErrAnd r Q → IfOk r P
no_answer (Ok x) P Q is = absurd is
no_answer (Err y) P Q is = tt

-- the request is a timed run with places: its answer is what a run with places answers
timed : (name source : List ℕ) (request : Request) (p : Placed) (threads bytes : List ℕ) → request ≡ asks.Placed p
    → p.of ≡ placed.TimedRun → AreMeantBy source request threads → IsPlacedRun (file_of name) source p.k p.fuel bytes
    → Answers name request source bytes
timed name source request p threads bytes is of meant told =
    subst (λ (r : Request). Answers name r source bytes) (sym is) (
      threads,
      subst (λ (r : Request). AreMeantBy source r threads) is meant,
      subst (λ (o : PlacedRun). AnswersPlaced name source p threads o bytes) (sym of) told,
    )

-- and what is due of it is what is due of the text
due : (name source : List ℕ) (request : Request) (p : Placed) (threads : List ℕ) (why : Refusal)
    → request ≡ asks.Placed p → p.of ≡ placed.TimedRun → AreMeantBy source request threads → IsDue source p.k why
    → IsRefusalDue name request source why
due name source request p threads why is of meant told =
    subst (λ (r : Request). IsRefusalDue name r source why) (sym is) (
      threads,
      subst (λ (r : Request). AreMeantBy source r threads) is meant,
      subst (λ (o : PlacedRun). IsPlacedDue source p threads o why) (sym of) told,
    )

-- anything may be said of it on standard error
remarked : (request : Request) (p : Placed) (remarks : List ℕ) → request ≡ asks.Placed p → p.of ≡ placed.TimedRun
    → MayRemark request remarks
remarked request p remarks is of =
    subst (λ (r : Request). MayRemark r remarks) (sym is)
    (subst (λ (o : PlacedRun). MayRemarkPlaced o remarks) (sym of) tt)

pub returns-in_err-timed-2 : goal.returns-in_err-timed-2
returns-in_err-timed-2 g c =
    let source = c.args.text.source.now in
    let why = c.in_err-timed-2.field-0.0 in
    record {
      answers = no_answer c.from_residual-in_err-timed-2.result _ _ c.from_residual-in_err-timed-2.ensures.1;
      refuses = given c.from_residual-in_err-timed-2.result
          (IsRefusalDue c.args.text.name.now c.args.request.now source) why
          (due c.args.text.name.now source c.args.request.now c.in-Placed.placed c.args.threads.items why
          c.in-Placed.is c.in-TimedRun-of.is c.requires
          (subst (λ s. IsDue s c.in-Placed.placed.k why) c.placed_text.ensures.source
          c.in_err-timed-2.ensures.refuses)) c.from_residual-in_err-timed-2.ensures.1;
    }

pub returns-in-TimedRun-of : goal.returns-in-TimedRun-of
returns-in-TimedRun-of g c =
    let name = c.args.text.name.now in
    let source = c.args.text.source.now in
    let p = c.in-Placed.placed in
    let answer = c.timed_answer-in-TimedRun-of in
    let bytes = string_bytes c.in_ok-timed-2.timed.outcome in
    record {
      answers = record {
        answered = inl (
          answer.ensures.status,
          timed name source c.args.request.now p c.args.threads.items answer.result.text.items c.in-Placed.is
              c.in-TimedRun-of.is c.requires
              (subst (λ b. IsPlacedRun (file_of name) source p.k p.fuel b) (sym answer.ensures.text)
              (subst (λ f. IsPlacedRun f source p.k p.fuel bytes) c.placed_text.ensures.file
              (subst (λ s. IsPlacedRun (option_map (λ f. f.now) c.placed_text.result.file) s p.k p.fuel bytes)
              c.placed_text.ensures.source
              c.in_ok-timed-2.ensures.answers))),
        );
        remarks = remarked c.args.request.now p answer.result.remarks.items c.in-Placed.is c.in-TimedRun-of.is;
        linted = answer.ensures.linted;
      };
      refuses = tt;
    }
