-- What is expanded in one body.
use Rattle.std.specs.Prelude.{Option}
use Rattle.sect_front.specs.Syntax.{StatementView, BlockView}
use Rattle.sect_types.specs.{declared.expansion.inside.Inside.{Inside}, Statements.{TextView}, Expanded.{Scene}}
use Rattle.sect_types.specs.steps.Expanding.{FrontView, front_past_statement, front_past_block, expanded_there}
use Rattle.sect_types.specs.steps.{Expanding.{block_there, numbered_there, numbered_block}, Expansion.{view_of}}

-- what the statements see
abbrev pub scene_in : Inside → Scene
scene_in i = view_of i.scope.now i.first

-- past a statement, and past a block
abbrev pub past_in : Inside → FrontView → StatementView → FrontView
past_in i f s = front_past_statement i.setting.now i.most f s

abbrev pub past_block_in : Inside → FrontView → BlockView → FrontView
past_block_in i f b = front_past_block i.setting.now i.most f b

-- the statement that is expanded, and what follows it
abbrev pub text_in : Inside → FrontView → StatementView → TextView → TextView
text_in i f s k = expanded_there i.setting.now i.most (scene_in i) f s k

abbrev pub block_text_in : Inside → FrontView → BlockView → TextView
block_text_in i f b = block_there i.setting.now i.most (scene_in i) f b

-- the same by numbers, if all names are known
abbrev pub numbered_in : Inside → FrontView → StatementView → Option TextView
numbered_in i f s = numbered_there i.setting.now i.most (scene_in i) f s

abbrev pub numbered_block_in : Inside → FrontView → BlockView → Option TextView
numbered_block_in i f b = numbered_block i.setting.now i.most (scene_in i) f b
