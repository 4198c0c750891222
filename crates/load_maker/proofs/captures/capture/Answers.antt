use Rattle.std.proofs.Common.{◌≤◌, ◌∙◌, All, length, ap, sym, subst}
use Rattle.std.specs.Global.{Vec}
use Rattle.std.proofs.lemmas.List.Elements.{All-push}
use Rattle.pcap_io.specs.Record.{records_of}
use Rattle.pcap_io.specs.declared.captured.Captured.{Captured}
use Rattle.load_maker.proofs.MoreRecords.{record_more, record_past}
use Rattle.load_maker.proofs.captures.capture.Goals as goal
use Rattle.load_maker.proofs.captures.capture.Goals.{then-packet-host+in_ok-captured+in_ok-push, else-packet-host}

-- the frame is short
abbrev IsShort : Captured → Type 0
IsShort c = length c.bytes.items ≤ 289

pub loop-packet-preserved : goal.loop-packet-preserved
loop-packet-preserved c =
    let k = c.args.host in
    let ps = c.args.packets.now in
    let i = c.loop-packet.packet-index in
    let old = c.loop-packet.records.items in
    let new = c.if-packet-host.records.items in
    let before = c.loop-packet.invariant in
    let inside = c.loop-packet-test.true in
    elim c.if-packet-host.branch [
      | then-packet-host+in_ok-captured+in_ok-push w ↦
          let push = ap (λ (v : Vec Captured). v.items) w.records-is ∙ w.in_ok-push.ensures.items in
          record {
            made = record_more k ps i _ inside old new _ w.if-packet-host.true push w.in_ok-captured.ensures.record before.made;
            short = subst (All IsShort) (sym push) (All-push IsShort old _ before.short w.in_ok-captured.ensures.short);
          }
      | else-packet-host w ↦
          let same = ap (λ (v : Vec Captured). v.items) w.records-is in
          record {
            made = ap records_of same ∙ record_past k ps i _ inside old w.if-packet-host.false before.made;
            short = subst (All IsShort) (sym same) before.short;
          }
    ]
