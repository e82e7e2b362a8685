use Rattle.std.proofs.Common.{rules, arith, ◌≡◌, ◌<◌, sym, subst, refl, length, vec_len, slice_set}
use Rattle.sect_types.specs.Whole.{RunView}
use Rattle.sect_serial.specs.steps.Frames.{AreReady, RanSection}
use Rattle.sect_serial.proofs.RunLemmas.{ran_section, ready_get, ready_set}
use Rattle.sect_serial.proofs.run.Run.run_section.Goals as goal

pub run_section-requires : goal.run_section-requires
run_section-requires c =
    let frames = c.self.inside.frames in
    let all : AreReady c.args.program.now 0 frames.items =
    subst (λ (s : RunView). AreReady c.args.program.now 0 s.frames) (sym c.self.view_is) c.requires in
    let long : length frames.items ≡ vec_len frames = search rules in
    let there : c.args.thread < vec_len frames = c.in-Some.ensures.variant.0 refl in
    ready_get c.args.program.now c.args.thread c.in-Some.frame.now frames.items (omega arith) c.in-Some.ensures.value
    all

pub returns-clause-ran : goal.returns-clause-ran
returns-clause-ran c =
    let frames = c.self.inside.frames in
    let p = c.args.program.now in
    let t = c.args.thread in
    let long : length frames.items ≡ vec_len frames = search rules in
    let there : t < vec_len frames = c.in-Some.ensures.variant.0 refl in
    let s : RunView = record {
      store = c.self.inside.store;
      output = c.self.inside.output.items;
      frames =
          frames.items;
    } in
    let f = c.in-Some.frame.now in
    let g = c.run_section.new.self in
    let ran : RanSection p t s c.in_ok-ran.ran
    (record {
      store = c.run_section.new.store;
      output = c.run_section.new.output.items;
      frames =
          slice_set frames.items t g;
    }) =
    ran_section p t s f g c.run_section.new.store c.run_section.new.output.items c.in_ok-ran.ran (omega arith)
    c.in-Some.ensures.value c.in_ok-ran.ensures.ran in
    rw (sym c.self.view_is) ran

pub returns-clause-ready : goal.returns-clause-ready
returns-clause-ready c =
    let frames = c.self.inside.frames in
    let p = c.args.program.now in
    let t = c.args.thread in
    let all : AreReady p 0 frames.items =
    subst (λ (s : RunView). AreReady p 0 s.frames) (sym c.self.view_is) c.requires in
    ready_set p t c.run_section.new.self frames.items c.in_ok-ran.ensures.ready all
