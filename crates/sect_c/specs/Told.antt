-- What is asked of a program whose text is to be read back: its names are names, and tell what they name.
use Rattle.std.specs.Prelude.{◌≡◌, ◌<◌, ℕ, true, [], length, Some, slice_index_or}
use Rattle.std.specs.List.{list_all}
use Rattle.sect_front.specs.Words.{is_name_byte}
use Rattle.sect_front.specs.TreeView.{TreeView}
use Rattle.sect_types.specs.Programs.{ProgramView}
use Rattle.sect_names.specs.Locks.{IsField}
use Rattle.sect_emit.specs.Labels.{record_name, thread_name}
use Rattle.sect_names.specs.Printing.{global_name, local_at, field_name}
use Rattle.sect_types.specs.declared.expansion.action.Field.{Field}

-- names have letters, digits and `_` alone, and the numbers of calls 32 bits
pub record AreNames (t : TreeView) : Type 0 where
  pub records : (r : ℕ) → list_all is_name_byte (record_name t r) ≡ true
  pub globals : (g : ℕ) → list_all is_name_byte (global_name t g) ≡ true
  pub fields : (f : Field) → list_all is_name_byte (field_name t f) ≡ true
  pub locals : (u x : ℕ) → list_all is_name_byte (local_at t u x).name ≡ true
  pub threads : (u : ℕ) → list_all is_name_byte (thread_name t u) ≡ true
  pub calls : (u x c : ℕ) → (local_at t u x).call ≡ Some c → c < 4294967296

-- no two records have one name, nor two globals, nor two fields of a record
pub record NamesTell (p : ProgramView) : Type 0 where
  pub records : (r s : ℕ) → r < length p.records → s < length p.records
      → record_name p.source r ≡ record_name p.source s → r ≡ s
  pub globals : (g h : ℕ) → g < length p.globals → h < length p.globals
      → global_name p.source g ≡ global_name p.source h → g ≡ h
  pub fields : (f g : Field) → IsField p f → IsField p g → f.of ≡ g.of
      → field_name p.source f ≡ field_name p.source g → f ≡ g

-- two programs declare the same for all threads, and for thread u, by the same names
pub record DeclareAlike (p q : ProgramView) (u : ℕ) : Type 0 where
  pub records : p.records ≡ q.records
  pub globals : p.globals ≡ q.globals
  pub locals : slice_index_or p.locals u [] ≡ slice_index_or q.locals u []
  pub record_names : (r : ℕ) → record_name p.source r ≡ record_name q.source r
  pub local_names : (x : ℕ) → x < length (slice_index_or q.locals u []) → (local_at p.source u x).name
      ≡ (local_at q.source u x).name
  pub global_names : (g : ℕ) → global_name p.source g ≡ global_name q.source g
  pub field_names : (f : Field) → field_name p.source f ≡ field_name q.source f
