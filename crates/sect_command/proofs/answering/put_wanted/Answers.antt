use Rattle.std.proofs.Common.{◌≡◌, ◌++◌, OnOk, subst, sym}
use Rattle.std.specs.{Prelude.{option_map}, String.{string_bytes}}
use Rattle.sect_command.specs.Requests.{near_text, wanted_text}
use Rattle.sect_command.proofs.answering.put_wanted.Goals as goal

pub returns-in-Some : goal.returns-in-Some
returns-in-Some c =
    let result = c.put_near.result in
    let new = string_bytes c.put_near.new.text in
    let old = string_bytes c.args.text.now in
    subst (λ near. OnOk result (new ≡ old ++ wanted_text (option_map string_bytes near))) (sym c.in-Some.is)
    (subst (λ near. OnOk result (new ≡ old ++ near_text near)) c.as_str.ensures.value c.put_near.ensures)
