use Rattle.std.proofs.Common.{ap, ap₂, ◌∙◌}
use Rattle.p4_resolved.specs.Scopes.{scope_of}
use Rattle.packet_parse.specs.Stores.{with_headers, with_standard, with_values}
use Rattle.packet_parse.proofs.stores.store_under.Goals as goal

pub returns : goal.returns
returns c =
    let sc = scope_of c.args.sc.now in
    c.in_ok-put_standard.ensures
    ∙ ap (with_standard c.args.f.now.std) (c.in_ok-put_values.ensures
    ∙ ap₂ (with_values sc) c.deref-2.ensures.value (c.in_ok-put_headers.ensures
    ∙ ap₂ (with_headers sc) c.deref.ensures.value c.new-s.ensures))
