use Rattle.std.proofs.Common.{Ok, ap, sym, ◌∙◌}
use Rattle.json_parts.specs.Views.{owned, texts}
use Rattle.network_file.specs.Network.{Network}
use Rattle.network_file.specs.Views.{file_view, link_views, numbered_views}
use Rattle.network_file.proofs.Sound.{is_network, network_is, kept_is}
use Rattle.network_file.proofs.Lent.{said, lent_is_network}
use Rattle.network_file.proofs.network.read_network.Goals as goal

pub invariant_of-result : goal.invariant_of-result
invariant_of-result c =
    lent_is_network _ (record { names = c.in_ok-names.names; ends = c.in_ok-ends.ends }) c.in_ok-new.ensures.ok
    (is_network (texts c.in_ok-file.file.switches.items) (owned c.in_ok-names.names.keys) (link_views c.in_ok-file.file.links.items) (numbered_views c.in_ok-links.links.items) c.in_ok-ends.ends.entries
    (rw c.deref.ensures.value at c.in_ok-names.ensures) (rw c.deref-2.ensures.value at c.in_ok-links.ensures) (rw c.deref-4.ensures.value at c.in_ok-ports_in_range.ensures) c.in_ok-sized.ensures (rw c.deref-3.ensures.value at c.in_ok-ends.ensures.ends))

pub returns : goal.returns
returns c =
    network_is _ (file_view c.in_ok-file.file) (owned c.in_ok-names.names.keys) (numbered_views c.in_ok-links.links.items) _ c.in_ok-file.ensures (rw c.deref.ensures.value at c.in_ok-names.ensures)
    (rw c.deref-2.ensures.value at c.in_ok-links.ensures) (rw c.deref-3.ensures.value at c.in_ok-ends.ensures.free) (rw c.deref-4.ensures.value at c.in_ok-ports_in_range.ensures) c.in_ok-sized.ensures
    ∙ ap (λ (n : Network). Ok n) (kept_is (owned c.in_ok-names.names.keys) (numbered_views c.in_ok-links.links.items) c.in_ok-ends.ends.entries (rw c.deref-3.ensures.value at c.in_ok-ends.ensures.ends) ∙ sym (ap said c.in_ok-new.ensures.ok))
