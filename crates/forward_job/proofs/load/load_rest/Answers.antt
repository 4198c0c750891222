use Rattle.std.proofs.Common.{◌≡◌, length, refl, sym, ◌∙◌}
use Rattle.std.proofs.lemmas.List.{length-map}
use Rattle.path_runner.specs.Packets.{arrival_of}
use Rattle.job_course.proofs.Courses.{follows_then, follows_first, follows_exit, follows_give}
use Rattle.case_course.specs.Views.{ground_of, packets_view}
use Rattle.forward_job.specs.Course.{loaded_course}
use Rattle.forward_job.proofs.Steps.{of_count}
use Rattle.forward_job.proofs.load.load_rest.Goals as goal

pub returns-in_err-tables-clause-follows : goal.returns-in_err-tables-clause-follows
unfolding loaded_course
returns-in_err-tables-clause-follows g c = follows_exit _ c.from_residual.ensures (follows_first _ c.in_err-tables.ensures.follows)

pub returns-in_err-loaded-clause-follows : goal.returns-in_err-loaded-clause-follows
unfolding loaded_course
returns-in_err-loaded-clause-follows g c =
    follows_exit _ c.from_residual-in_err-loaded.ensures (follows_then _ c.in_ok-tables.ensures.follows (follows_first _ c.in_err-loaded.ensures.follows))

pub returns-in_err-events-clause-follows : goal.returns-in_err-events-clause-follows
unfolding loaded_course
returns-in_err-events-clause-follows g c =
    let ps = packets_view c.in_ok-loaded.loaded in
    let counted : c.len-count.result ≡ length ps.arrivals = c.len-count.ensures ∙ c.in_ok-loaded.loaded.packets.ok.0 ∙ sym (length-map c.in_ok-loaded.loaded.packets.items arrival_of) in
    follows_exit _ c.from_residual-in_err-events.ensures
    (follows_then _ c.in_ok-tables.ensures.follows (follows_then _ c.in_ok-loaded.ensures.follows (follows_first _ (of_count _ (ground_of c.args.ground) ps _ counted _ _ _ c.in_err-events.ensures.follows))))

pub returns-clause-follows : goal.returns-clause-follows
unfolding loaded_course
returns-clause-follows g c =
    let ps = packets_view c.in_ok-loaded.loaded in
    let counted : c.len-count.result ≡ length ps.arrivals = c.len-count.ensures ∙ c.in_ok-loaded.loaded.packets.ok.0 ∙ sym (length-map c.in_ok-loaded.loaded.packets.items arrival_of) in
    follows_then _ c.in_ok-tables.ensures.follows
    (follows_then _ c.in_ok-loaded.ensures.follows
    (follows_then _ (of_count _ (ground_of c.args.ground) ps _ counted _ _ _ c.in_ok-events.ensures.follows) (follows_give _ refl)))
