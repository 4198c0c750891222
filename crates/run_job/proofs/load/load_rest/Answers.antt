use Rattle.std.proofs.Common.{◌≡◌, length, refl, sym, ◌∙◌}
use Rattle.std.specs.Prelude.{⊤}
use Rattle.std.proofs.lemmas.List.{length-map}
use Rattle.indus_tree.specs.View.{property_of}
use Rattle.path_runner.specs.Packets.{arrival_of}
use Rattle.job_course.proofs.Courses.{follows_then, follows_first, follows_exit, follows_give}
use Rattle.case_course.specs.Views.{packets_view}
use Rattle.run_job.specs.Course.{rest_course}
use Rattle.run_job.specs.Views.{base_at}
use Rattle.run_job.proofs.Steps.{of_count, items_follow}
use Rattle.run_job.proofs.load.load_rest.Goals as goal

pub returns-in_err-tables-clause-follows : goal.returns-in_err-tables-clause-follows
unfolding rest_course
returns-in_err-tables-clause-follows g c = follows_exit _ c.from_residual.ensures (follows_first _ c.in_err-tables.ensures.follows)

pub returns-in_err-contents-clause-follows : goal.returns-in_err-contents-clause-follows
unfolding rest_course
returns-in_err-contents-clause-follows g c =
    follows_exit _ c.from_residual-in_err-contents.ensures (follows_then _ c.in_ok-tables.ensures.follows (follows_first _ c.in_err-contents.ensures.follows))

pub returns-in_err-packets-clause-follows : goal.returns-in_err-packets-clause-follows
unfolding rest_course
returns-in_err-packets-clause-follows g c =
    follows_exit _ c.from_residual-in_err-packets.ensures
    (follows_then _ c.in_ok-tables.ensures.follows (follows_then _ c.in_ok-contents.ensures.follows (follows_first _ c.in_err-packets.ensures.follows)))

pub returns-in_err-events-clause-follows : goal.returns-in_err-events-clause-follows
unfolding rest_course
returns-in_err-events-clause-follows g c =
    let ps = packets_view c.in_ok-packets.packets in
    let counted : c.len-count.result ≡ length ps.arrivals = c.len-count.ensures ∙ c.in_ok-packets.packets.packets.ok.0 ∙ sym (length-map c.in_ok-packets.packets.packets.items arrival_of) in
    follows_exit _ c.from_residual-in_err-events.ensures
    (follows_then _ c.in_ok-tables.ensures.follows (follows_then _ c.in_ok-contents.ensures.follows (follows_then _ c.in_ok-packets.ensures.follows
    (follows_first _ (of_count _ (base_at c.args.site.now c.args.places.items) ps _ counted _ _ _ c.in_err-events.ensures.follows)))))

pub returns-in_err-items_in-clause-follows : goal.returns-in_err-items_in-clause-follows
unfolding rest_course
returns-in_err-items_in-clause-follows g c =
    let ps = packets_view c.in_ok-packets.packets in
    let counted : c.len-count.result ≡ length ps.arrivals = c.len-count.ensures ∙ c.in_ok-packets.packets.packets.ok.0 ∙ sym (length-map c.in_ok-packets.packets.packets.items arrival_of) in
    follows_exit _ c.from_residual-in_err-items_in.ensures
    (follows_then _ c.in_ok-tables.ensures.follows (follows_then _ c.in_ok-contents.ensures.follows (follows_then _ c.in_ok-packets.ensures.follows
    (follows_then _ (of_count _ (base_at c.args.site.now c.args.places.items) ps _ counted _ _ _ c.in_ok-events.ensures.follows)
    (follows_first {Q = ⊤} _ {first = λ x. x} (items_follow (property_of c.args.site.now.property) _ _ _ _ c.items_name-named.ensures _ _ c.deref-2.ensures.value _ _ c.deref-3.ensures.value _ _ c.deref-4.ensures.value c.in_err-items_in.ensures.judged))))))

pub returns-clause-follows : goal.returns-clause-follows
unfolding rest_course
returns-clause-follows g c =
    let ps = packets_view c.in_ok-packets.packets in
    let counted : c.len-count.result ≡ length ps.arrivals = c.len-count.ensures ∙ c.in_ok-packets.packets.packets.ok.0 ∙ sym (length-map c.in_ok-packets.packets.packets.items arrival_of) in
    follows_then _ c.in_ok-tables.ensures.follows (follows_then _ c.in_ok-contents.ensures.follows (follows_then _ c.in_ok-packets.ensures.follows
    (follows_then _ (of_count _ (base_at c.args.site.now c.args.places.items) ps _ counted _ _ _ c.in_ok-events.ensures.follows)
    (follows_then {Q = ⊤} _ {first = λ x. x} {q = tt} (items_follow (property_of c.args.site.now.property) _ _ _ _ c.items_name-named.ensures _ _ c.deref-2.ensures.value _ _ c.deref-3.ensures.value _ _ c.deref-4.ensures.value c.in_ok-items_in.ensures.judged) (follows_give _ refl)))))
