use Rattle.sect_emit.proofs.shared.Securing.{next_does}
use Rattle.sect_emit.proofs.laws.values.running_texts_follow_their_steps.Goals as goal

pub returns : goal.returns
returns c p t text store after w v rest goes = next_does p t store text w rest after v goes
