use Rattle.std.proofs.Common.{◌<◌, ℕ, ◌+◌, ◌-◌, length, drop, arith, refl, sym, ◌∙◌, ap, subst}
use Rattle.sect_front.specs.{Spelling.{IsSpelling}, Gaps.{after_gap}}
use Rattle.sect_front.proofs.shared.Lexings.{gap_fits}
use Rattle.sect_places.specs.steps.Wanting.{KeptView}
use Rattle.sect_places.proofs.Placing.{span_from}
use Rattle.sect_places.proofs.Standing.{SoughtHere, sought_none, sought_more, one_passed, read_span, read_spelling}
use Rattle.sect_places.proofs.WantedNames.{wanted_none, numbered, left_to_read, number_fits, wanted_all, wanted_on}
use Rattle.sect_places.proofs.WantedNames.{wanted_more}
use Rattle.sect_places.proofs.named.wanted_names.Goals.{then-spells_name+in_ok-put_kept, else-spells_name}
use Rattle.sect_places.proofs.named.wanted_names.Goals as goal

pub loop-here-init : goal.loop-here-init
loop-here-init c =
    let source = c.args.text.bytes.now in
    let tree = c.args.tree.now in
    let start = c.new-sought.ensures in
    rw (start.here, start.left, c.in_ok-names.ensures.items) (record {
      wanted = wanted_none source tree c.args.wish c.requires.spelled;
      sought = record { is = sought_none source tree c.args.token c.requires.spelled; ahead = λ _. refl };
    })

pub split_at-requires : goal.split_at-requires
split_at-requires c =
    let h = c.loop-here.invariant.wanted in
    let here = c.loop-here.here.now in
    let many = ap (λ (k : KeptView). length k.uses) c.kept.view_is in
    let left = left_to_read c.args.text.bytes.now c.args.tree.now c.args.wish c.loop-here.names.items
    c.loop-here.number here h c.in_ok-kept.kept c.in_ok-kept.ensures
    (omega (arith, c.loop-here-test.true, c.len-in-loop-here.ensures, c.len-in-loop-here-2.ensures, many)) in
    let read = one_passed c.args.text.bytes.now c.args.tree.now h.named.number here h.named.stands left
    c.first_length-count.result c.first_length-count.ensures in
    read.1.within

pub overflow_add-number : goal.overflow_add-number
overflow_add-number c =
    let many = ap (λ (k : KeptView). length k.uses) c.kept.view_is in
    omega (
      arith,
      number_fits c.args.text.bytes.now c.args.tree.now c.args.wish c.loop-here.names.items c.loop-here.number
          c.loop-here.here.now c.loop-here.invariant.wanted c.in_ok-kept.kept c.in_ok-kept.ensures
          (omega (arith, c.loop-here-test.true, c.len-in-loop-here.ensures, c.len-in-loop-here-2.ensures, many)),
    )

pub put_kept-requires-clause-numbered : goal.put_kept-requires-clause-numbered
put_kept-requires-clause-numbered c =
    numbered c.args.text.bytes.now c.args.tree.now c.args.wish c.loop-here.names.items c.loop-here.number
    c.loop-here.here.now c.loop-here.invariant.wanted c.in_ok-kept.kept c.in_ok-kept.ensures

pub loop-here-smaller : goal.loop-here-smaller
loop-here-smaller c =
    let h = c.loop-here.invariant.wanted in
    let here = c.loop-here.here.now in
    let many = ap (λ (k : KeptView). length k.uses) c.kept.view_is in
    let left = left_to_read c.args.text.bytes.now c.args.tree.now c.args.wish c.loop-here.names.items
    c.loop-here.number here h c.in_ok-kept.kept c.in_ok-kept.ensures
    (omega (arith, c.loop-here-test.true, c.len-in-loop-here.ensures, c.len-in-loop-here-2.ensures, many)) in
    let read = one_passed c.args.text.bytes.now c.args.tree.now h.named.number here h.named.stands left
    c.first_length-count.result c.first_length-count.ensures in
    omega (
      arith,
      ap length c.after_gap-here.ensures,
      gap_fits c.split_at.result.1.now,
      c.split_at.ensures.back_len,
      read.1.some,
      read.1.within,
    )

pub loop-here-preserved : goal.loop-here-preserved
loop-here-preserved c =
    let source = c.args.text.bytes.now in
    let tree = c.args.tree.now in
    let some = c.loop-here.names.items in
    let number = c.loop-here.number in
    let here = c.loop-here.here.now in
    let h = c.loop-here.invariant.wanted in
    let kept = c.in_ok-kept.kept in
    let all = c.in_ok-kept.ensures in
    let count = c.first_length-count.result in
    let many = ap (λ (k : KeptView). length k.uses) c.kept.view_is in
    let lt : length some < length kept.uses =
    omega (arith, c.loop-here-test.true, c.len-in-loop-here.ensures, c.len-in-loop-here-2.ensures, many) in
    let left = left_to_read source tree c.args.wish some number here h kept all lt in
    let read = one_passed source tree h.named.number here h.named.stands left count c.first_length-count.ensures in
    let start : ℕ = length source - length here in
    let s = span_from start (start + count) in
    let places = h.named.stands.spelled.places in
    let place = read_span (length source) h.named.number places here read.1.first start count refl read.1.count in
    let spelled : IsSpelling read.0 c.split_at.result.0.now =
    subst (IsSpelling read.0) (sym c.split_at.ensures.front)
    (read_spelling source tree h.named.number here h.named.stands read.0 count read.1) in
    let named = c.spells_name.ensures read.0 spelled in
    let next : SoughtHere source tree c.args.token c.past-sought.result.here.now c.past-sought.result.left
    (after_gap (drop count here)) =
    sought_more source tree c.args.token c.loop-here.sought.here.now c.loop-here.sought.left here
    c.loop-here.invariant.sought c.requires.within count c.first_length-count.ensures
    c.past-sought.result.here.now c.past-sought.result.left c.past-sought.ensures.reached
    (rw (c.after_gap-here.ensures, c.split_at.ensures.back) at c.past-sought.ensures.nearer) in
    rw (c.after_gap-here.ensures, c.split_at.ensures.back) (elim c.if-spells_name.branch [
      | then-spells_name+in_ok-put_kept w ↦ record {
        wanted = rw (w.names-is, w.number-is)
            (wanted_more source tree c.args.wish some number here h kept all lt w.put_kept.new.names.items s
            w.in_ok-put_kept.ensures.kept w.in_ok-put_kept.ensures.other read.0 count read.1 place
            (sym named ∙ w.if-spells_name.true));
        sought = next;
      }
      | else-spells_name w ↦ record {
        wanted = rw (w.names-is, w.number-is)
            (wanted_on source tree c.args.wish some number here h kept all read.0 count read.1 s place
            (sym named ∙ w.if-spells_name.false));
        sought = next;
      }
    ])

pub returns-clause-wanted : goal.returns-clause-wanted
returns-clause-wanted c =
    let many = ap (λ (k : KeptView). length k.uses) c.kept.view_is in
    wanted_all c.args.text.bytes.now c.args.tree.now c.args.wish c.loop-here.names.items c.loop-here.number
    c.loop-here.here.now c.loop-here.invariant.wanted c.in_ok-kept.kept c.in_ok-kept.ensures
    (omega (arith, c.loop-here-test.false, c.len-in-loop-here.ensures, c.len-in-loop-here-2.ensures, many))
