use Rattle.std.proofs.Common.{ap, refl, ◌∙◌}
use Rattle.sect_modes.specs.declared.mode.Mode.TheVariants.{Exclusive}
use Rattle.sect_table.specs.Contents.{Entry, give, claim_of, with_holder}
use Rattle.sect_table.proofs.Keeping.{fresh_free, fresh_kept, prepared_put}
use Rattle.sect_table.proofs.requests.give_fresh.Goals as goal

pub returns-clause-ok : goal.returns-clause-ok
returns-clause-ok c = (
  fresh_free c.args.arena.now c.args.thread c.args.key Exclusive c.requires.holders c.requires.waiters,
  c.add_holder.ensures.held ∙ ap (give c.args.thread c.args.key Exclusive) c.prepare.ensures.held,
  c.add_holder.ensures.entries ∙ prepared_put (with_holder (claim_of c.args.thread Exclusive)) c.args.key
      c.args.arena.now.entries c.prepare.new.self.entries (λ (z : Entry). refl) c.in_ok-prepare.ensures.entries,
)

pub returns-clause-kept : goal.returns-clause-kept
returns-clause-kept c =
    let a = returns-clause-ok c in
    fresh_kept c.args.arena.now c.add_holder.new.self c.args.thread c.args.key Exclusive c.requires.kept
    c.requires.thread c.requires.holders c.requires.waiters a.1 a.2
