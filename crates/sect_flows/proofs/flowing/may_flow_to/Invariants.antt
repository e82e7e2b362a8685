use Rattle.std.proofs.Common.{◌-◌, ◌^◌}
use Rattle.sect_flows.specs.steps.Searching.{AreFollowed}
use Rattle.sect_flows.proofs.flowing.may_flow_to.Given as goal

abbrev pub invariant-places : goal.invariant-places
invariant-places l = AreFollowed l.graph l.fn.thread l.fn.point l.fn.local l.found.keys l.place

abbrev pub decreases-places : goal.decreases-places
decreases-places l = 2 ^ 63 - l.place
