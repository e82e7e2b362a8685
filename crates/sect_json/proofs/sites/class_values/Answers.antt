use Rattle.std.proofs.Common.{◌≡◌, ◌∙◌, map, ap, arith}
use Rattle.std.specs.List.{range_with_len}
use Rattle.sect_json.specs.Sites.{class_json}
use Rattle.sect_json.proofs.Rows.{range_more}
use Rattle.sect_json.proofs.sites.class_values.Goals as goal

pub loop-class-preserved : goal.loop-class-preserved
loop-class-preserved c =
    range_more (class_json c.args.classes.now.numbers) c.loop-class.class c.loop-class.values.items
    c.push.new.self.items c.in_ok-class_value.field-0 c.loop-class.invariant c.in_ok-push.ensures.items
    (c.in_ok-class_value.ensures ∙ ap (λ ns. class_json ns c.loop-class.class) c.numbers.ensures)

pub returns : goal.returns
returns c =
    let numbers = c.args.classes.now.numbers in
    let all : c.loop-class.class ≡ c.class_count-class-end.result =
    omega (arith, c.loop-class-test.false, c.loop-class.auto.class-end) in
    record {
      most = c.class_count-class-end.result;
      below = c.class_count-class-end.ensures.below;
      each = c.class_count-class-end.ensures.each;
      told = c.loop-class.invariant ∙ ap (λ n. map (class_json numbers) (range_with_len 0 n)) all;
    }
