-- What a network's map of ends has at a port.
use Rattle.std.proofs.Common.{◌≡◌, ℕ, ◌<◌, List, Some, sym, ap, ◌∙◌, arith}
use Rattle.std.specs.Map.{lookup}
use Rattle.network_run.specs.Network.{far_end}
use Rattle.network_run.proofs.Links.{far_end_is}
use Rattle.network_file.specs.Network.{Port, same_port}
use Rattle.network_file.specs.Wiring.{wiring_of}
use Rattle.network_file.specs.Ends.{links_in, IsNetwork}
use Rattle.network_file.proofs.EndLemmas.{lookup_ends}

pub far_in : (names : List (List ℕ)) (ends : List (Port × Port)) (switch port : ℕ) → IsNetwork names ends → lookup (same_port (switch, port)) ends ≡ far_end (wiring_of (record { names = names; links = links_in ends })) switch port
far_in names ends switch port is = ap (λ (es : List (Port × Port)). lookup (same_port (switch, port)) es) is.paired ∙ lookup_ends (links_in ends) switch port

-- a far end fits sixteen bits twice
pub record IsFarEnd (far : Port) : Type 0 where
  pub switch : far.0 < 256
  pub port : far.1 < 511

pub far_is : (names : List (List ℕ)) (ends : List (Port × Port)) (switch port : ℕ) (far : Port) → IsNetwork names ends → Some far ≡ lookup (same_port (switch, port)) ends → IsFarEnd far
far_is names ends switch port far is found =
    let end = far_end_is (wiring_of (record { names = names; links = links_in ends })) is.wiring switch port far (sym (found ∙ far_in names ends switch port is)) in
    let few = is.few in
    let known = end.known in
    record { switch = omega arith; port = end.low }
