use Rattle.std.proofs.Common.{◌<◌, ◌≤◌, length, arith}
use Rattle.sect_flows.proofs.Searching.{followed_on, are_all}
use Rattle.sect_flows.proofs.flowing.may_flow_to.Goals as goal

pub places-preserved : goal.places-preserved
places-preserved c =
    let found = c.places.found.keys in
    let within : c.places.place < length found = omega (arith, c.len.ensures.len, c.places-test.true) in
    followed_on c.args.graph.now c.args.thread c.args.point c.args.local found c.follow.new.found.keys c.places.place
    within c.places.invariant c.in_ok-follow.ensures

pub returns : goal.returns
returns c =
    let found = c.places.found.keys in
    let all : length found ≤ c.places.place = omega (arith, c.len.ensures.len, c.places-test.false) in
    are_all c.args.graph.now c.args.thread c.args.point c.args.local found c.places.place all c.places.invariant
