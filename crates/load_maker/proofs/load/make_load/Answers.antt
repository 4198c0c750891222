use Rattle.std.proofs.Common.{◌∙◌, ℕ, List, ap, sym}
use Rattle.std.proofs.lemmas.List.{append-nil}
use Rattle.load_maker.specs.Numbers.{numbers}
use Rattle.load_maker.specs.Draws.{packets}
use Rattle.load_maker.specs.Captures.{capture, capture_name}
use Rattle.load_maker.specs.Made.{case_files}
use Rattle.load_maker.proofs.MoreFiles.{file_more}
use Rattle.load_maker.proofs.load.make_load.Goals as goal

pub loop-host-init : goal.loop-host-init
unfolding numbers
loop-host-init c = c.in_ok-files.ensures.files ∙ sym (append-nil (case_files c.args.out.now))

pub loop-host-preserved : goal.loop-host-preserved
loop-host-preserved c =
    let out = c.args.out.now in
    let k = c.loop-host.host in
    let drawn = c.deref.ensures.value ∙ c.in_ok-packets.ensures in
    let bytes = c.in_ok-bytes.ensures ∙ ap (capture k) drawn in
    let file : List ℕ → List ℕ → List ℕ × List ℕ = λ name content. (name, content) in
    let is = ap (λ name. file name c.in_ok-bytes.bytes.items) c.in_ok-capture_name.ensures ∙ ap (file (capture_name out k)) bytes in
    file_more (λ h. (capture_name out h, capture h (packets c.args.n))) k (case_files out) c.loop-host.files.items _ _ c.in_ok-push.ensures.items is c.loop-host.invariant
