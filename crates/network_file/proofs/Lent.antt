-- The tables of a network, as its box lends them.
use Rattle.std.proofs.Common.{◌≡◌, ap, ◌∙◌, sym, subst}
use Rattle.json_parts.specs.Views.{owned}
use Rattle.network_file.specs.Network.{Network}
use Rattle.network_file.specs.Ends.{links_in, IsNetwork}
use Rattle.network_file.specs.declared.network.Tables.{Tables}

abbrev pub said : Tables → Network
said t = record { names = owned t.names.keys; links = links_in t.ends.entries }

pub lent_says : (lent kept : Tables) (n : Network) → lent ≡ kept → said kept ≡ n → said lent ≡ n
lent_says lent kept n same is = ap said same ∙ is

pub lent_is_network : (lent kept : Tables) → lent ≡ kept → IsNetwork (owned kept.names.keys) kept.ends.entries → IsNetwork (owned lent.names.keys) lent.ends.entries
lent_is_network lent kept same is = subst (λ (t : Tables). IsNetwork (owned t.names.keys) t.ends.entries) (sym same) is
