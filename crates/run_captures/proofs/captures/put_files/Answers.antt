use Rattle.std.proofs.Common.{[], ◌∷◌, ◌++◌, ◌+◌, map, drop, sym, ap, ◌∙◌, subst, arith}
use Rattle.job_course.specs.Output.{files_of}
use Rattle.run_captures.specs.Captures.{record_for, port_file}
use Rattle.run_captures.specs.Sorted.{AreShort, lists_files}
use Rattle.run_captures.specs.Views.{time_view, lent_view, list_view, front_view}
use Rattle.run_captures.proofs.Sorting.{list_in}
use Rattle.run_captures.proofs.Files.{file_more, none_left}
use Rattle.run_captures.proofs.captures.put_files.Goals as goal

pub put_file-requires : goal.put_file-requires
put_file-requires c =
    let is = list_in list_view c.args.lists.now c.loop-port.port c.index-lists-port.result (omega arith) ∙ ap list_view (sym c.index-lists-port.is) ∙ ap (map lent_view) (sym c.deref.ensures.value) in
    subst AreShort is (c.requires c.loop-port.port)

pub loop-port-preserved : goal.loop-port-preserved
loop-port-preserved c =
    let f = front_view c.args.front.now in
    let n = c.args.name.now in
    let ts = map time_view c.args.times.now in
    let i = c.loop-port.port in
    let is = ap (map lent_view) c.deref.ensures.value ∙ ap list_view c.index-lists-port.is in
    ap (λ fs. fs ++ lists_files f n ts (i + 1) (drop (i + 1) (map list_view c.args.lists.now))) (c.in_ok-put_file.ensures ∙ ap (λ xs. files_of c.loop-port.files.items ++ port_file f n i (map (record_for ts) xs)) is)
    ∙ file_more f n list_view c.args.lists.now i (files_of c.loop-port.files.items) _ ts c.loop-port.invariant c.index-lists-port.result (omega arith)
