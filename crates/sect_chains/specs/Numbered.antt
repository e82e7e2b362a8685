-- Chains with their locks by number. `numbered_chains` gives these.
use Rattle.std.specs.Prelude.{◌<◌, List, map, length}
use Rattle.sect_lemmas.specs.Lists.{Has}
use Rattle.sect_names.specs.{declared.link.Link.{Link}, declared.lock.Lock.{Lock}, Chains.{link}}
use Rattle.sect_infer.specs.Numberings.{lock_at}
use Rattle.sect_chains.specs.declared.numbered.NumberedStep.{NumberedStep}

-- locks, and chains of which each step has one by its number
pub record NumberedView : Type 0 where
  pub keys : List Lock
  pub chains : List (List NumberedStep)

-- what a step stands for
abbrev pub step_link : List Lock → NumberedStep → Link
step_link keys x = link x.node (lock_at keys x.number)

-- what steps stand for
abbrev pub links_by : List Lock → List NumberedStep → List Link
links_by keys steps = map (step_link keys) steps

-- what the chains stand for
abbrev pub chains_in : NumberedView → List (List Link)
chains_in v = map (links_by v.keys) v.chains

-- the locks of the steps are there
abbrev pub HaveLocks : List Lock → List NumberedStep → Type 0
HaveLocks keys steps = (x : NumberedStep) → Has steps x → x.number < length keys
