use Rattle.std.proofs.Common.{◌≡◌, ◌∙◌, ◌++◌, [], ap, arith, map}
use Rattle.std.specs.{List.{flat_map, range_with_len}, String.{string_bytes}}
use Rattle.sect_legend.specs.Legend.{class_line}
use Rattle.sect_legend.proofs.shared.Numbers.{more_given}
use Rattle.sect_legend.proofs.classes.lines_of.Goals as goal

pub loop-class-preserved : goal.loop-class-preserved
loop-class-preserved c =
    let names = map string_bytes c.args.names.now in
    let old = string_bytes c.loop-class.text in
    more_given (class_line c.args.classes.now.numbers names) c.loop-class.class [] old
    (string_bytes c.put_class.new.text) c.loop-class.invariant
    (c.in_ok-put_class.ensures ∙ ap (λ ns. old ++ class_line ns names c.loop-class.class) c.numbers.ensures)

pub returns : goal.returns
returns c =
    let numbers = c.args.classes.now.numbers in
    let names = map string_bytes c.args.names.now in
    let all : c.loop-class.class ≡ c.class_count-class-end.result =
    omega (arith, c.loop-class-test.false, c.loop-class.auto.class-end) in
    record {
      most = c.class_count-class-end.result;
      below = c.class_count-class-end.ensures.below;
      each = c.class_count-class-end.ensures.each;
      printed = c.loop-class.invariant ∙ ap (λ n. flat_map (class_line numbers names) (range_with_len 0 n)) all;
    }
