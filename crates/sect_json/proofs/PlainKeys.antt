-- Keys as JSON have no float.
use Rattle.std.proofs.Common.{refl}
use Rattle.sect_types.specs.Programs.{ProgramView}
use Rattle.sect_modes.specs.declared.key.Key.{Key}
use Rattle.sect_json.specs.Keys.{key_json}
use Rattle.sect_json.proofs.Plain.{IsPlain}
use Rattle.sect_modes.specs.declared.key.Key.TheVariants as key

pub plain_key : (p : ProgramView) (k : Key) → IsPlain (key_json p k)
plain_key p key.All = refl
plain_key p (key.Class c) = refl
plain_key p (key.Global g) = refl
plain_key p (key.Made t n) = refl
