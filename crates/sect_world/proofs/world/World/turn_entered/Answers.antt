-- A thread that has entered and can't begin gives all back.
use Rattle.std.proofs.Common.{refl, sym, ◌∙◌}
use Rattle.sect_world.specs.Events.{IsReady}
use Rattle.sect_world.proofs.world.World.turn_entered.Goals as goal

pub again-requires : goal.again-requires
again-requires c =
    let h = c.requires in
    let s = c.section_of-section.ensures h.0 h.1 in
    let ready : IsReady h.0 c.section_of-section.result s.0 s.1 = record {
      entered = h.2;
      wanted = c.wants_more.ensures.none c.if-wants_more.false h.0 h.1;
      text = s.2;
    } in
    let unmet = sym (c.meets_plan.ensures h.0 h.1) ∙ c.if-meets_plan.false in
    (_, (h.0, h.1, (c.section_of-section.result, s.0, s.1, ready, unmet, refl)))
