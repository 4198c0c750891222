use Rattle.std.proofs.Common.{◌≡◌, ◌++◌, map, take}
use Rattle.job_course.specs.Output.{files_of}
use Rattle.path_runner.specs.Packets.{sent_of}
use Rattle.run_output.specs.Wire.{frame_files}
use Rattle.run_output.proofs.wire.put_frames.Given as goal

-- the files of the frames so far were put
abbrev pub invariant-loop-sent : goal.invariant-loop-sent
invariant-loop-sent l = files_of l.files.items ≡ files_of l.initial.files.items ++ frame_files l.out (map sent_of (take l.sent-index l.frames))
