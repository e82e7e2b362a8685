use Rattle.std.proofs.{Common.{◌≡◌, ◌∙◌, true, false, map, ap, slice_index, ℕ}, lemmas.Bool.{eq-eqb, ne_eqb}}
use Rattle.std.specs.{Prelude.{◌==◌, Vec}, declared.alloc.Global.{Global}}
use Rattle.serde_json.specs.{View.{view}, declared.value.Value.{Value}}
use Rattle.sect_json.proofs.Rows.{counted_in, counted_out}
use Rattle.sect_json.proofs.sites.class_value.Goals.{then-numbers-site+in_ok-push, else-numbers-site}
use Rattle.sect_json.proofs.sites.class_value.Goals as goal

pub loop-site-preserved : goal.loop-site-preserved
loop-site-preserved c =
    let numbers = c.args.numbers.now in
    let n = c.loop-site.site in
    let p = λ (s : ℕ). slice_index numbers s == c.args.class in
    elim c.if-numbers-site.branch [
      | then-numbers-site+in_ok-push w ↦
          (let passes : p n ≡ true = eq-eqb _ _ w.if-numbers-site.true in
          ap (λ (v : Vec Value Global). map view v.items) w.sites-is
          ∙ counted_in p n c.loop-site.sites.items c.loop-site.invariant w.push.new.self.items w.from.result passes
          w.in_ok-push.ensures.items w.from.ensures)
      | else-numbers-site w ↦
          (let fails : p n ≡ false = ne_eqb _ _ w.if-numbers-site.false in
          ap (λ (v : Vec Value Global). map view v.items) w.sites-is
          ∙ counted_out p n c.loop-site.sites.items c.loop-site.invariant fails)
    ]
