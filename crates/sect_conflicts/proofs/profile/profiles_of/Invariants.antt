use Rattle.sect_conflicts.specs.steps.Profiles.{AreFirstProfiles}
use Rattle.sect_conflicts.proofs.profile.profiles_of.Given as goal

abbrev pub invariant-loop-section : goal.invariant-loop-section
invariant-loop-section l = AreFirstProfiles l.compiled l.section l.profiles.items
