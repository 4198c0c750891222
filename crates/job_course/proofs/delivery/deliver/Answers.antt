use Rattle.std.proofs.Common.{rules, ap, sym, inl, ◌≡◌, ◌<◌, ◌∙◌, List, ℕ, [], length}
use Rattle.std.proofs.lemmas.List.{get_or-map, length-map}
use Rattle.job_course.specs.Ending.{name_at}
use Rattle.job_course.specs.Output.{files_of}
use Rattle.job_course.specs.Lines.{write_line}
use Rattle.job_course.proofs.delivery.deliver.Goals as goal

pub returns-in-Ok : goal.returns-in-Ok
returns-in-Ok g c =
    let files = c.args.output.now.files.items in
    let stop = rw c.deref.ensures.value at c.in-Failed.ensures.0.stopped in
    let lt : c.in-Failed.at < length files = rw length-map at stop.within in
    let name : name_at (files_of files) c.in-Failed.at ≡ c.as_str-name.result.now =
    ap (λ (e : List ℕ × List ℕ). e.0) (get_or-map _ files c.in-Failed.at c.index.result.now ([], []) lt) ∙ rw (← c.index.ensures) (sym c.as_str-name.ensures.value) in
    let line : write_line (name_at (files_of files) c.in-Failed.at) ≡ c.as_bytes-in-Ok.result.now = rw name (search rules) in
    record {
      wrote = c.in-Failed.ensures.0.wrote;
      cause = inl (record { place = c.in-Failed.at; stopped = stop; rose = c.in-Failed.ensures.1; put = rw line c.say-in-Ok.ensures });
    }
