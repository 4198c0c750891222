use Rattle.std.proofs.Common.{rules, ◌≡◌, ◌<◌, ◌∙◌, List, ℕ, [], length, slice_index_or}
use Rattle.std.proofs.lemmas.List.{get_or-map, length-map}
use Rattle.job_course.specs.Output.{files_of}
use Rattle.job_course.proofs.Writing.{written_more}
use Rattle.job_course.proofs.delivery.write_files.Goals as goal

pub loop-at-preserved : goal.loop-at-preserved
loop-at-preserved g c =
    let list : List (List ℕ × List ℕ) = files_of c.args.files.now in
    let lt : c.loop-at.at < length list = rw length-map c.loop-at-test.true in
    let entry : slice_index_or list c.loop-at.at ([], []) ≡ (c.deref.result.now, c.deref-in-loop-at.result.now) =
    get_or-map _ c.args.files.now c.loop-at.at c.index-files-at.result ([], []) c.loop-at-test.true ∙ rw (← c.index-files-at.is) (search rules) in
    record {
      wrote = search rules;
      written = written_more list c.loop-at.at _ _ _ _ _ lt entry c.loop-at.invariant.written c.in-Ok.ensures.content;
    }
