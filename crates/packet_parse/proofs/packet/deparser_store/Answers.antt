use Rattle.std.proofs.Common.{sym, ap, ap₂, ◌∙◌}
use Rattle.p4_meaning.specs.Scope.{Scope}
use Rattle.p4_resolved.specs.Scopes.{at_part}
use Rattle.p4_resolved.specs.declared.layer.Layer.{Layer}
use Rattle.packet_parse.specs.Stores.{deparser_scope, store_under}
use Rattle.packet_parse.proofs.packet.deparser_store.Goals as goal

pub returns : goal.returns
returns c =
    c.in_ok-store.ensures ∙ ap (λ (d : Scope). store_under d c.args.s.now) (c.within.ensures ∙ ap₂ (λ (t l : Layer). at_part t l) (c.deref-3.ensures ∙ sym c.deref.ensures) c.deref-2.ensures ∙ c.in_ok-layer.ensures ∙ ap deparser_scope c.deparser_in.ensures)
