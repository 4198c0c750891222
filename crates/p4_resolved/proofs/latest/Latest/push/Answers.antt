use Rattle.std.proofs.Common.{sym, ◌∙◌}
use Rattle.p4_resolved.proofs.Rows.{place_more}
use Rattle.p4_resolved.proofs.latest.Latest.push.Goals as goal

pub invariant_of-self-in-Ok : goal.invariant_of-self-in-Ok
invariant_of-self-in-Ok g c = record {
  told = place_more c.args.self.now.rows.items c.push.new.self.items (c.in_ok-own.own, c.args.value) c.args.self.now.places.entries c.insert.new.self.entries c.in_ok-key.key c.len-place.result
      c.args.self.now.told c.in_ok-push.ensures.items (c.in_ok-key.ensures.ok ∙ c.as_str.ensures ∙ sym c.in_ok-own.ensures) (c.len-place.ensures ∙ c.args.self.now.rows.ok.0) c.in-Ok.ensures.entries;
}
