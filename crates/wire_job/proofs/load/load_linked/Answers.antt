use Rattle.std.proofs.Common.{map, ap, ◌∙◌}
use Rattle.indus_tree.specs.View.{property_of}
use Rattle.network_file.specs.Events.{event_of}
use Rattle.job_course.proofs.Courses.{reads_none, follows_then, follows_first, follows_exit, follows_give}
use Rattle.link_course.specs.Views.{linked_of}
use Rattle.linked_jobs.specs.Job.{Job}
use Rattle.run_job.proofs.Given.{text_is_fit}
use Rattle.wire_program.specs.WireProgram.{wire_program}
use Rattle.wire_job.specs.Line.{wire_network}
use Rattle.wire_job.specs.Course.{linked_course}
use Rattle.wire_job.proofs.Ready.{links_follow, job_is, job_whole, wire_is_ready}
use Rattle.wire_job.proofs.load.load_linked.Goals as goal

pub returns-in_err-line-clause-follows : goal.returns-in_err-line-clause-follows
returns-in_err-line-clause-follows c = λ s. follows_exit _ c.from_residual.ensures (record { keeps = reads_none s })

pub returns-in_err-linked-clause-follows : goal.returns-in_err-linked-clause-follows
unfolding linked_course
returns-in_err-linked-clause-follows c = λ s. follows_exit _ c.from_residual-in_err-linked.ensures
    (follows_first _ {first = linked_of} (links_follow _ wire_program c.in_ok-line.ensures.program.same _ _ wire_network c.in_ok-line.ensures.network 128 s _ c.in_err-linked.ensures.judged))

pub returns-in_err-start-clause-follows : goal.returns-in_err-start-clause-follows
returns-in_err-start-clause-follows c = λ s. follows_exit _ c.from_residual-in_err-start.ensures (record { keeps = reads_none s })

pub load_link-requires-clause-text : goal.load_link-requires-clause-text
load_link-requires-clause-text c = c.in_ok-line.ensures.program.spelled

pub load_link-requires-clause-leaves : goal.load_link-requires-clause-leaves
load_link-requires-clause-leaves c = c.in_ok-line.ensures.program.leaves

pub load_link-requires-clause-plain : goal.load_link-requires-clause-plain
load_link-requires-clause-plain c = (text_is_fit c.texts_are_plain.ensures c.texts_declare_words.ensures (property_of c.args.property) c.requires.typed c.requires.read).plain

pub load_link-requires-clause-reports : goal.load_link-requires-clause-reports
load_link-requires-clause-reports c = (text_is_fit c.texts_are_plain.ensures c.texts_declare_words.ensures (property_of c.args.property) c.requires.typed c.requires.read).reports

pub returns-clause-follows : goal.returns-clause-follows
unfolding linked_course
returns-clause-follows c = λ s.
    let p = property_of c.args.property in
    let bytes = c.args.frame.items in
    let job = job_is p bytes _ _ _ _ _ _ _ c.in_ok-line.ensures.network c.in_ok-line.ensures.tables c.in_ok-start.ensures.contents c.in_ok-start.ensures.packets c.in_ok-start.ensures.times (ap (map event_of) c.new.ensures.items) ∙ job_whole p bytes _ c.in_ok-line.ensures.program.same in
    follows_then _ {first = linked_of} {q = c.in_ok-linked.linked} (links_follow _ wire_program c.in_ok-line.ensures.program.same _ _ wire_network c.in_ok-line.ensures.network 128 s _ c.in_ok-linked.ensures.judged)
    (follows_give _ (ap (λ (j : Job). record { job = j; linked = linked_of c.in_ok-linked.linked }) job))

pub returns-clause-read : goal.returns-clause-read
returns-clause-read c =
    let p = property_of c.args.property in
    let bytes = c.args.frame.items in
    let fit = text_is_fit c.texts_are_plain.ensures c.texts_declare_words.ensures p c.requires.typed c.requires.read in
    let links = c.in_ok-linked.ensures.judged.given in
    let job = job_is p bytes _ _ _ _ _ _ _ c.in_ok-line.ensures.network c.in_ok-line.ensures.tables c.in_ok-start.ensures.contents c.in_ok-start.ensures.packets c.in_ok-start.ensures.times (ap (map event_of) c.new.ensures.items) in
    record {
      ready = wire_is_ready _ c.in_ok-line.ensures.program p bytes fit c.requires.free c.requires.short c.files_fit.ensures _ job c.in_ok-line.ensures.kept links.faultless;
      linked = links.linked;
      spelled = c.in_ok-linked.ensures.spelled fit.names;
      layout = c.in_ok-linked.ensures.layout;
    }
