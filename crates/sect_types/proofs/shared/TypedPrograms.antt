-- What the typing of its tree means for the numbers of a program.
use Rattle.std.proofs.{Common.{ℕ, length, sym, ap, ◌∙◌, subst}, lemmas.List.{length-map}}
use Rattle.sect_front.specs.declared.tree.GlobalObject.{GlobalObject}
use Rattle.sect_types.specs.{Sight.{names_of_records}, First.{IsTyped}, Expanded.{all_local_types}}
use Rattle.sect_types.specs.{Environments.{record_number, global_records}, Sound.{AreSound}}
use Rattle.sect_types.specs.{Sections.{AllNumbered, AllSited}, Programs.{ProgramView, IsOfTree}}
use Rattle.sect_types.specs.steps.Written.{written_texts}
use Rattle.sect_types.proofs.{ByNumbers.{texts_written}, SectionLaws.{typed_sections}, SiteLaws.{typed_sites}}
use Rattle.sect_types.proofs.TypeLaws.{typed_sound}

module _ (p : ProgramView) (typed : IsTyped p.source) (of : IsOfTree p) where
  -- the statements agree with the declarations
  pub program_sound : AreSound p.records p.globals p.locals p.texts
  program_sound =
      let t = p.source in
      let names = names_of_records t.records in
      subst (AreSound p.records p.globals p.locals) (texts_written t p.texts of.texts_are)
      (subst (λ ls. AreSound p.records p.globals ls (written_texts t)) (sym of.locals_are)
      (subst (λ gs. AreSound p.records gs (all_local_types t) (written_texts t)) (sym of.globals_are)
      (subst (λ rs. AreSound rs (global_records names t.globals) (all_local_types t) (written_texts t))
      (sym of.records_are) (typed_sound t typed))))

  -- the sections are numbered from 0 in text order
  pub program_numbered : AllNumbered 0 p.texts
  program_numbered = subst (AllNumbered 0) (texts_written p.source p.texts of.texts_are) (typed_sections p.source typed)

  -- the sites are numbered behind the globals in text order
  pub program_sited : AllSited (length p.globals) p.texts
  program_sited =
      let t = p.source in
      let number : GlobalObject → ℕ = λ g. record_number (names_of_records t.records) g.of in
      let as_long = ap length of.globals_are ∙ length-map t.globals number in
      subst (AllSited (length p.globals)) (texts_written t p.texts of.texts_are)
      (subst (λ n. AllSited n (written_texts t)) (sym as_long) (typed_sites t typed))
