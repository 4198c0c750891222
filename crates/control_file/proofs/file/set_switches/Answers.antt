use Rattle.std.proofs.lemmas.Result.{err_from_is_err_and}
use Rattle.json_parts.specs.Views.{field}
use Rattle.json_parts.proofs.TurnLemmas.{each_more, each_stop, each_end}
use Rattle.control_file.specs.Control.{set_switch}
use Rattle.control_file.specs.Views.{decls_of, switches_view}
use Rattle.control_file.proofs.file.set_switches.Goals as goal

pub loop-name-preserved : goal.loop-name-preserved
loop-name-preserved c = record {
  can = tt;
  finite = tt;
  so_far = each_more (set_switch (decls_of c.args.property.now) c.args.network.now.names) field (switches_view c.loop-name.held) c.loop-name.name-iterator _ c.loop-name.invariant.so_far (c.in-Some.name.now, c.in-Some.value.now) _ _ c.in-Some.ensures.steps (rw c.as_str.ensures.value at c.in_ok-set_switch.ensures);
}

pub returns-in_err-set_switch : goal.returns-in_err-set_switch
returns-in_err-set_switch c =
    let p = err_from_is_err_and c.from_residual-in_err-set_switch.result c.from_residual-in_err-set_switch.ensures.1 in
    rw (p.1, p.2) (λ other. each_stop (set_switch (decls_of c.args.property.now) c.args.network.now.names) field (switches_view c.loop-name.held) c.loop-name.name-iterator _ c.loop-name.invariant.so_far (c.in-Some.name.now, c.in-Some.value.now) _ _ c.in-Some.ensures.steps (rw c.as_str.ensures.value at (c.in_err-set_switch.ensures other)))

pub returns : goal.returns
returns c = each_end (set_switch (decls_of c.args.property.now) c.args.network.now.names) field (switches_view c.loop-name.held) c.loop-name.name-iterator _ c.loop-name.invariant.so_far c.in-None.ensures.steps.0
