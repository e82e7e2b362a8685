use Rattle.std.proofs.Common.{◌∙◌, map, ap, sym}
use Rattle.std.specs.{Prelude.{Vec}, declared.alloc.Global.{Global}}
use Rattle.serde_json.specs.{View.{view}, declared.value.Value.{Value}}
use Rattle.sect_json.specs.Sites.{may_hold}
use Rattle.sect_json.proofs.{Holding.{holds_is}, Rows.{counted_in, counted_out}}
use Rattle.sect_json.proofs.sites.held_value.Goals.{then-has+in_ok-push, else-has}
use Rattle.sect_json.proofs.sites.held_value.Goals as goal

pub loop-site-preserved : goal.loop-site-preserved
loop-site-preserved c =
    let sets = c.args.points.now in
    let h = c.args.holder in
    let n = c.loop-site.site in
    let is = sym (holds_is sets h n c.has.result c.has.ensures) in
    elim c.if-has.branch [
      | then-has+in_ok-push w ↦
          (ap (λ (v : Vec Value Global). map view v.items) w.values-is
          ∙ counted_in (may_hold sets h) n c.loop-site.values.items c.loop-site.invariant w.push.new.self.items
          w.from.result (is ∙ w.if-has.true) w.in_ok-push.ensures.items w.from.ensures)
      | else-has w ↦
          (ap (λ (v : Vec Value Global). map view v.items) w.values-is
          ∙ counted_out (may_hold sets h) n c.loop-site.values.items c.loop-site.invariant (is ∙ w.if-has.false))
    ]
