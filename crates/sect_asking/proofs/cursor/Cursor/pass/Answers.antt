use Rattle.std.proofs.Common.{◌≡◌, length, drop, ap, sym, ◌∙◌, subst, arith}
use Rattle.sect_front.specs.Gaps.{after_gap}
use Rattle.sect_asking.specs.{Phrases.{mark_spot, spot_at}, steps.Reading.{Reads}}
use Rattle.sect_asking.proofs.Passing.{passed, passed_at}
use Rattle.sect_asking.proofs.cursor.Cursor.pass.Goals as goal

pub returns-clause-marks : goal.returns-clause-marks
returns-clause-marks c m first =
    let here : c.self.inside.here.now ≡ c.args.self.now.here = grind arith in
    subst (Reads (mark_spot m) c.args.self.now.here)
    (sym (c.behind-self-inside.ensures ∙ ap (λ h. after_gap (drop c.args.count h)) here))
    (passed m c.args.count c.args.self.now.here first)

pub returns-clause-placed : goal.returns-clause-placed
returns-clause-placed c m first =
    let here : c.self.inside.here.now ≡ c.args.self.now.here = grind arith in
    subst (Reads (spot_at m (length c.args.self.now.here)) c.args.self.now.here)
    (sym (c.behind-self-inside.ensures ∙ ap (λ h. after_gap (drop c.args.count h)) here))
    (passed_at m c.args.count c.args.self.now.here first)
