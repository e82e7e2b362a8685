-- The statements of a thread as plain data: each carries what follows it.
use Rattle.std.specs.Prelude.{ℕ, ◌+◌, Option, Some, None, List, [], ◌∷◌, ◌++◌, nat_eq, max, if◌then◌else◌}
use Rattle.std.specs.Option.{option_or}
use Rattle.sect_types.specs.{declared.expansion.action.Action.{Action}, declared.expansion.action.Condition.{Condition}}
use Rattle.sect_types.specs.declared.expansion.action.Action.TheVariants as action

pub data TextView : Type 0 where
  -- the end
  Stop : TextView
  -- a statement without a block, and what follows it
  Do : Action → TextView → TextView
  -- an `if`: what is done where the condition holds, what where it doesn't, and what follows
  Choose : Condition → TextView → TextView → TextView → TextView
  -- a `while`: its body, and what follows it
  Loop : Condition → TextView → TextView → TextView
  -- a section: its number, its body, and what follows it
  Section : ℕ → TextView → TextView → TextView

-- the statements, then k
abbrev pub joined : TextView → TextView → TextView
joined Stop k = k
joined (Do a r) k = Do a (joined r k)
joined (Choose t p q r) k = Choose t p q (joined r k)
joined (Loop t p r) k = Loop t p (joined r k)
joined (Section i p r) k = Section i p (joined r k)

-- how many blocks there are
abbrev pub weight : TextView → ℕ
weight Stop = 0
weight (Do a r) = weight r
weight (Choose t p q r) = weight p + weight q + 1 + weight r
weight (Loop t p r) = weight p + 1 + weight r
weight (Section i p r) = weight p + 1 + weight r

-- the most blocks that stand in one another
abbrev pub text_depth : TextView → ℕ
text_depth Stop = 0
text_depth (Do a r) = text_depth r
text_depth (Choose t p q r) = max (1 + max (text_depth p) (text_depth q)) (text_depth r)
text_depth (Loop t p r) = max (1 + text_depth p) (text_depth r)
text_depth (Section i p r) = max (1 + text_depth p) (text_depth r)

-- the bodies of the sections, in text order
abbrev pub section_bodies : TextView → List TextView
section_bodies Stop = []
section_bodies (Do a r) = section_bodies r
section_bodies (Choose t p q r) = section_bodies p ++ (section_bodies q ++ section_bodies r)
section_bodies (Loop t p r) = section_bodies p ++ section_bodies r
section_bodies (Section i p r) = p ∷ section_bodies r

-- the body of the section of that number
abbrev pub section_body : ℕ → TextView → Option TextView
section_body n Stop = None
section_body n (Do a r) = section_body n r
section_body n (Choose t p q r) = option_or (section_body n p) (option_or (section_body n q) (section_body n r))
section_body n (Loop t p r) = option_or (section_body n p) (section_body n r)
section_body n (Section i p r) = if nat_eq i n then Some p else section_body n r

-- how many statements there are; an `if`, a `while` and a section count too
abbrev pub statement_count : TextView → ℕ
statement_count Stop = 0
statement_count (Do a r) = 1 + statement_count r
statement_count (Choose t p q r) = 1 + statement_count p + statement_count q + statement_count r
statement_count (Loop t p r) = 1 + statement_count p + statement_count r
statement_count (Section i p r) = 1 + statement_count p + statement_count r

abbrev pub made_by : Action → List ℕ
made_by (action.New x r site) = r ∷ []
made_by _ = []

-- the records of the `new` statements, in text order
abbrev pub made_in : TextView → List ℕ
made_in Stop = []
made_in (Do a r) = made_by a ++ made_in r
made_in (Choose t p q r) = made_in p ++ (made_in q ++ made_in r)
made_in (Loop t p r) = made_in p ++ made_in r
made_in (Section i p r) = made_in p ++ made_in r
