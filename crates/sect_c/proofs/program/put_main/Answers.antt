use Rattle.std.proofs.Common.{◌++◌, List, ℕ, codes}
use Rattle.std.specs.String.{string_bytes}
use Rattle.sect_c.specs.Programs.{threads_c, globals_c, names_c, description_c}
use Rattle.sect_c.proofs.Joined.{joined}
use Rattle.sect_c.proofs.program.put_main.Goals as goal

pub returns : goal.returns
returns c =
    let p = c.args.program.now in
    let old = string_bytes c.args.text.now in
    let begun = string_bytes c.push_str.new.self in
    let threads = string_bytes c.put_thread_list.new.text in
    let globals = string_bytes c.put_global_list.new.text in
    let names = string_bytes c.put_name_list.new.text in
    let described = string_bytes c.put_description.new.text in
    let first : List ℕ = codes "\nint main(int count, char **words) {\n" in
    let last : List ℕ = codes "  (void)wholes;\n  return sect_main(&program, count, words);\n}\n" in
    let a = first ++ threads_c p in
    let b = a ++ globals_c p in
    let d = b ++ names_c p in
    let two = joined old first (threads_c p) begun threads c.in_ok-push_str.ensures.bytes
    c.in_ok-put_thread_list.ensures in
    let three = joined old a (globals_c p) threads globals two c.in_ok-put_global_list.ensures in
    let four = joined old b (names_c p) globals names three c.in_ok-put_name_list.ensures in
    let five = joined old d (description_c p) names described four c.in_ok-put_description.ensures in
    joined old (d ++ description_c p) last described (string_bytes c.push_str-2.new.self) five
    c.in_ok-push_str-2.ensures.bytes
