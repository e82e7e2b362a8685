use Rattle.std.proofs.Common.{◌∙◌, ap}
use Rattle.sect_infer.specs.Numbers.{has_number}
use Rattle.sect_infer.proofs.Marking.{mark_one}
use Rattle.sect_infer.proofs.numbers.Numbers.mark.Goals as goal

pub invariant_of-self-2 : goal.invariant_of-self-2
invariant_of-self-2 c =
    rw c.in_ok-push.ensures.items
    (mark_one c.self.inside.members.items c.make_room.new.marks.items c.args.number
    (ap (λ ns. has_number ns c.args.number) c.self.view_is ∙ c.requires) c.in_ok-make_room.ensures.room
    (λ n. c.in_ok-make_room.ensures.same n ∙ c.self.invariant.told n) c.self.invariant.apart)
