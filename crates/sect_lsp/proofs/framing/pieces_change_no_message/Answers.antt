use Rattle.sect_lsp.proofs.shared.Pieces.{one_spelling, spells_more}
use Rattle.sect_lsp.proofs.framing.pieces_change_no_message.Goals as goal

pub returns-clause-one : goal.returns-clause-one
returns-clause-one c = one_spelling

pub returns-clause-stay : goal.returns-clause-stay
returns-clause-stay c = spells_more
