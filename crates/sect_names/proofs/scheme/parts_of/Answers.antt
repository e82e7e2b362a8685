use Rattle.sect_names.proofs.scheme.parts_of.Goals as goal

pub returns-clause-scheme : goal.returns-clause-scheme
returns-clause-scheme c =
    let classes = c.in_ok-classes in
    record {
      most = c.in_ok-check_k.ensures.ok;
      parted = classes.ensures.parted;
      sites = classes.ensures.sites;
      flow = classes.ensures.flow;
      guarded = c.in_ok-guards.ensures.guards;
      unguarded = c.in_ok-guards.ensures.unguarded;
      graphed = c.in_ok-graph.ensures;
    }
