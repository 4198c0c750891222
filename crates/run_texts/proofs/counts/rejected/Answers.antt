use Rattle.std.proofs.Common.{◌+◌, ◌≤◌, length, map, drop, sym, ap, ◌∙◌, arith}
use Rattle.std.proofs.lemmas.List.{length-map}
use Rattle.p4_tree.specs.View.{program_of}
use Rattle.path_runner.specs.Switches.{switch_of}
use Rattle.register_texts.proofs.Rows.{view_at}
use Rattle.run_texts.specs.Registers.{rejected_at}
use Rattle.run_texts.proofs.Switches.{as_many, runs_at, rejected_next, rejected_past}
use Rattle.run_texts.proofs.counts.rejected.Goals as goal

pub rejected_by-requires : goal.rejected_by-requires
rejected_by-requires g c =
    runs_at (switch_of g.P.Pass.program g.P.Pass.tables g.P.Pass.cells) program_of c.args.switches.now c.args.programs.now c.requires.programs c.loop-switch.switch
    c.index-switches-at.result c.index-programs-at.result (omega arith) c.index-switches-at.is c.index-programs-at.is

pub loop-switch-preserved : goal.loop-switch-preserved
loop-switch-preserved g c =
    let qs = map program_of c.args.programs.now in
    let i = c.loop-switch.switch in
    let x = c.index-switches-at.result in
    let q = c.index-programs-at.result in
    let many = as_many (switch_of g.P.Pass.program g.P.Pass.tables g.P.Pass.cells) program_of c.args.switches.now c.args.programs.now c.requires.programs in
    let at = view_at (switch_of g.P.Pass.program g.P.Pass.tables g.P.Pass.cells) c.args.switches.now i x (omega arith) c.index-switches-at.is in
    let here = view_at program_of c.args.programs.now i q (omega (arith, many)) c.index-programs-at.is in
    record {
      sum = λ keeps are. rejected_next qs keeps i (program_of q) c.loop-switch.sum c.in_ok-one.one _ here
          (c.in_ok-one.ensures.value ∙ ap (rejected_at (program_of q)) (sym (are i ((switch_of g.P.Pass.program g.P.Pass.tables g.P.Pass.cells) x) at))) (c.loop-switch.invariant.sum keeps are);
      low = (let before = c.loop-switch.invariant.low in let one = c.in_ok-one.ensures.low in omega (arith, before, one));
    }

pub returns : goal.returns
returns g c = λ keeps are.
    let qs = map program_of c.args.programs.now in
    let many = as_many (switch_of g.P.Pass.program g.P.Pass.tables g.P.Pass.cells) program_of c.args.switches.now c.args.programs.now c.requires.programs in
    let past : length qs ≤ c.loop-switch.switch = omega (arith, many, length-map c.args.programs.now program_of, c.requires.count, c.count-switch-end.ensures.count) in
    rejected_past qs keeps c.loop-switch.switch c.loop-switch.sum _ past (c.loop-switch.invariant.sum keeps are)
