use Rattle.std.proofs.Common.{ℕ, List, [], ◌∷◌, ◌++◌, codes, map, ap, ◌∙◌, arith}
use Rattle.std.proofs.lemmas.List.{take_all}
use Rattle.job_course.specs.Output.{files_of}
use Rattle.path_runner.specs.Packets.{sent_of}
use Rattle.path_runner.specs.declared.packet.Sent.{Sent}
use Rattle.run_output.specs.Wire.{frame_files}
use Rattle.run_output.proofs.Written.{frames_more}
use Rattle.run_output.proofs.wire.put_frames.Goals as goal

pub loop-sent-preserved : goal.loop-sent-preserved
loop-sent-preserved c =
    let more = c.in_ok-put_frame.ensures ∙ ap (λ (b : List ℕ). files_of c.loop-sent.files.items ++ (c.args.out.now ++ codes ".frame", b) ∷ []) c.deref.ensures.value in
    frames_more c.args.out.now c.args.frames.now c.loop-sent.sent-index c.sent-item.result _ _ _ (omega arith) c.sent-item.is c.loop-sent.invariant more

pub returns : goal.returns
returns c =
    c.loop-sent.invariant
    ∙ ap (λ (xs : List Sent). files_of c.args.files.now.items ++ frame_files c.args.out.now (map sent_of xs)) (take_all c.loop-sent.sent-index c.args.frames.now (omega arith))
