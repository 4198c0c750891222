use Rattle.std.proofs.Common.{map, option_map, sym, ap, ◌∙◌}
use Rattle.indus_tree.specs.View.{decl_of, property_of}
use Rattle.wire_job.specs.Course.{first_control}
use Rattle.wire_job.proofs.Control.{rejects}
use Rattle.wire_job.proofs.load.uncontrolled.Goals as goal

pub returns-in_ok-control_text-in-Some : goal.returns-in_ok-control_text-in-Some
returns-in_ok-control_text-in-Some c =
    let decls = c.deref.ensures.value ∙ ap (λ p. p.decls.items) c.property.ensures.same in
    let found = sym (c.first_control.ensures ∙ ap (λ ds. first_control (map decl_of ds)) decls) ∙ ap (option_map (λ s. s.now)) c.in-Some.is in
    record { judged = rejects _ (property_of c.args.property.now) _ _ found c.in_ok-control_text-in-Some.ensures }
