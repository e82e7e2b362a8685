-- What is needed at a section's entry is its least set, and what that names is there.
use Rattle.std.proofs.{Common.{◌≡◌, ◌++◌, List, ℕ, ap, ◌∙◌, sym, subst}, lemmas.List.{append_assoc}}
use Rattle.std.specs.{Prelude.{codes}, Fmt.{decimal}, String.{string_bytes}}
use Rattle.sect_lemmas.specs.Lists.{Has}
use Rattle.sect_lemmas.proofs.Places.{at_of}
use Rattle.sect_types.specs.{Programs.{ProgramView}, Sections.{sections_of}}
use Rattle.sect_names.specs.{declared.lock.Lock.{Lock}, Printing.{AreNamed, locks_text}}
use Rattle.sect_names.proofs.shared.Named.{named_lock}
use Rattle.sect_answers.specs.Listing.{IsLeastInOrder}
use Rattle.sect_answers.proofs.lock_sets.put_section.Goals as goal

pub put_locks-requires : goal.put_locks-requires
put_locks-requires c =
    let s = c.args.scheme.now in
    let of = at_of (sections_of s.program.texts) c.args.section c.requires in
    let named : AreNamed s.program c.as_slice.result.now = λ l has.
    named_lock s of.0.thread l (c.in_ok-locks.ensures.lawful of.0 of.1 l
    (subst (λ (ls : List Lock). Has ls l) c.as_slice.ensures.value has)) in
    subst (λ (p : ProgramView). AreNamed p c.as_slice.result.now) (sym c.program.ensures) named

pub returns : goal.returns
returns c = λ of at.
    let s = c.args.scheme.now in
    let i = c.args.section in
    let told = c.in_ok-locks.ensures.locks of at in
    let set = c.as_slice.result.now in
    let old = string_bytes c.args.text.now in
    let head : List ℕ = codes "section " ++ decimal i ++ codes ": " in
    let locks = locks_text s.program.source set in
    let wrote : string_bytes c.write.new.self ≡ old ++ head = c.in_ok-write.ensures.bytes in
    let put : string_bytes c.put_locks.new.text ≡ string_bytes c.write.new.self ++ locks =
    subst (λ (p : ProgramView). string_bytes c.put_locks.new.text ≡ string_bytes c.write.new.self
    ++ locks_text p.source set) c.program.ensures c.in_ok-put_locks.ensures in
    let pushed : string_bytes c.push_str.new.self ≡ string_bytes c.put_locks.new.text ++ codes "\n" =
    c.in_ok-push_str.ensures.bytes in (
      set,
      subst (IsLeastInOrder s i of) (sym c.as_slice.ensures.value) (told.least, told.in_order),
      pushed ∙ ap (λ (b : List ℕ). b ++ codes "\n")
          (put ∙ ap (λ (b : List ℕ). b ++ locks) wrote ∙ append_assoc old head locks)
          ∙ append_assoc old (head ++ locks) (codes "\n"),
    )
