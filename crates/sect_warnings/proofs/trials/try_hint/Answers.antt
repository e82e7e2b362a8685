use Rattle.std.proofs.{Common.{◌∙◌, sym, subst, refl, None, is_some, slice_index_or}}
use Rattle.sect_warnings.specs.steps.Trials.{sought, IsTried, IsTriedFor}
use Rattle.sect_warnings.proofs.Trying.{all_unsaid, none_for, none_at, noted_as, tried_for}
use Rattle.sect_warnings.proofs.trials.try_hint.Goals as goal

pub returns-then-not-is_sought : goal.returns-then-not-is_sought
returns-then-not-is_sought c =
    let v = c.args.accepted.compiled.now in
    let source = c.args.accepted.source.now in
    let names = c.args.accepted.names.now in
    let r = c.args.guarded in
    let trials = c.args.trials.now in
    all_unsaid (IsTriedFor source names v r) trials c.args.placed.now.items (λ k.
    none_for source names v r (slice_index_or trials k None)
    (none_at (λ t. is_some (sought r t)) trials None
    (sym c.is_sought.ensures ∙ c.if-not-is_sought.true) refl k))

pub returns-in_ok-put_outcomes-in-Some : goal.returns-in_ok-put_outcomes-in-Some
returns-in_ok-put_outcomes-in-Some c =
    let v = c.args.accepted.compiled.now in
    let source = c.args.accepted.source.now in
    let names = c.args.accepted.names.now in
    let r = c.args.guarded in
    let tried = c.in-Some.tried in
    let is = subst (IsTried source names v r) c.in-Some.is c.in_ok-tried.ensures in
    noted_as _ (IsTriedFor source names v r) (λ o s. tried_for source names v r tried o s is) c.args.trials.now
    c.args.placed.now.items c.put_outcomes.new.placed.items c.in_ok-put_outcomes-in-Some.ensures
