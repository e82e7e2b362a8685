-- The document of chains has no float.
use Rattle.std.proofs.{Common.{ℕ, List, map, refl}, lemmas.Bool.{or_from}}
use Rattle.sect_names.specs.declared.link.Link.{Link}
use Rattle.sect_emit.specs.Compiled.{CompiledView, program_of}
use Rattle.sect_json.specs.Explaining.{step_json, chain_json, explained_json, explanation_json}
use Rattle.sect_json.proofs.{Plain.{IsPlain, ArePlain, plain_map, plain_by_place}, PlainLocks.{plain_lock}}

module _ (c : CompiledView) where
  plain_step : (i : ℕ) (a : Link) → IsPlain (step_json c i a)
  plain_step i a = or_from _ _ (plain_lock (program_of c).source a.lock) refl

  plain_chain : (i : ℕ) (links : List Link) → IsPlain (chain_json c i links)
  plain_chain i links = or_from _ _ (plain_map (step_json c i) (plain_step i) links) refl

  pub plain_chains : (i : ℕ) (chains : List (List Link)) → ArePlain (map (chain_json c i) chains)
  plain_chains i chains = plain_map (chain_json c i) (plain_chain i) chains

  plain_explained : (i : ℕ) (chains : List (List Link)) → IsPlain (explained_json c i chains)
  plain_explained i chains = or_from _ _ (plain_chains i chains) refl

  pub plain_explanation : (all : List (List (List Link))) → IsPlain (explanation_json c all)
  plain_explanation all = or_from _ _ (plain_by_place (explained_json c) plain_explained 0 all) refl
