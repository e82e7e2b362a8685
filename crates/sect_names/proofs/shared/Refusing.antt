-- A tree has one program.
use Rattle.std.proofs.Common.{◌≡◌, List, sym, ap, ◌∙◌, ℕ, Ok}
use Rattle.sect_front.specs.TreeView.{TreeView}
use Rattle.sect_types.specs.{Sight.{names_of_records}, Environments.{field_types, global_records}}
use Rattle.sect_types.specs.{Statements.{TextView}, Expanded.{all_local_types, texts_of}, Lockings.{lockings_of}}
use Rattle.sect_types.specs.Programs.{ProgramView, IsOfTree, numbered_by}
use Rattle.sect_lemmas.proofs.Options.{some_injective}
use Rattle.sect_front.proofs.shared.Only.{only}
use Rattle.sect_names.specs.Sources.{IsTypedText}

-- a program has the numbers of its tree
abbrev numbered : TreeView → List TextView → ProgramView
numbered t texts = numbered_by t (field_types (names_of_records t.records) t.records)
    (global_records (names_of_records t.records) t.globals) (all_local_types t) texts (lockings_of t)

is_numbered : (p : ProgramView) → IsOfTree p → p ≡ numbered p.source p.texts
is_numbered p is =
    let names = names_of_records p.source.records in
    let records = field_types names p.source.records in
    let globals = global_records names p.source.globals in
    let locals = all_local_types p.source in
    ap (λ r. numbered_by p.source r p.globals p.locals p.texts p.lockings) is.records_are
    ∙ ap (λ g. numbered_by p.source records g p.locals p.texts p.lockings) is.globals_are
    ∙ ap (λ l. numbered_by p.source records globals l p.texts p.lockings) is.locals_are
    ∙ ap (numbered_by p.source records globals locals p.texts) is.lockings_are

-- a text has one program
pub one_program : (p q : ProgramView) → IsOfTree p → IsOfTree q → q.source ≡ p.source → q ≡ p
one_program p q of_p of_q same =
    let texts = some_injective q.texts p.texts (sym of_q.texts_are ∙ ap texts_of same ∙ of_p.texts_are) in
    is_numbered q of_q ∙ (λ i. numbered (same i) (texts i)) ∙ sym (is_numbered p of_p)

-- a text has one program
pub one_text : (bytes : List ℕ) (p q : ProgramView) → IsTypedText bytes p → IsTypedText bytes q → q ≡ p
one_text bytes p q of_p of_q =
    one_program p q of_p.numbers of_q.numbers (only bytes p.source of_p.spelled (Ok q.source) of_q.spelled)
