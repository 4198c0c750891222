use Rattle.std.proofs.Common.{ap, ◌∙◌, Some, None, arith}
use Rattle.network_run.specs.Network.{far_end}
use Rattle.json_parts.specs.Views.{owned}
use Rattle.network_file.specs.Network.{Network}
use Rattle.network_file.specs.Wiring.{wiring_of}
use Rattle.network_file.proofs.NextLemmas.{far_in, far_is}
use Rattle.network_file.proofs.LinkLemmas.{unlinked_is}
use Rattle.network_file.proofs.Lent.{lent_says, lent_is_network}
use Rattle.network_file.proofs.network.Network.next.Goals as goal

pub overflow_cast-result : goal.overflow_cast-result
overflow_cast-result c =
    let far = far_is (owned c.deref.result.now.names.keys) c.deref.result.now.ends.entries c.args.switch c.args.port c.in-Some.field-0.now (lent_is_network _ _ c.deref.ensures c.self.invariant) c.in-Some.ensures.value in
    omega (arith, far.switch)

pub overflow_cast-result-in-Some : goal.overflow_cast-result-in-Some
overflow_cast-result-in-Some c =
    let far = far_is (owned c.deref.result.now.names.keys) c.deref.result.now.ends.entries c.args.switch c.args.port c.in-Some.field-0.now (lent_is_network _ _ c.deref.ensures c.self.invariant) c.in-Some.ensures.value in
    omega (arith, far.port)

pub returns-in-Some-clause-next : goal.returns-in-Some-clause-next
returns-in-Some-clause-next c =
    c.in-Some.ensures.value ∙ (far_in (owned c.deref.result.now.names.keys) c.deref.result.now.ends.entries c.args.switch c.args.port (lent_is_network _ _ c.deref.ensures c.self.invariant) ∙ ap (λ (n : Network). far_end (wiring_of n) c.args.switch c.args.port) (lent_says _ _ _ c.deref.ensures c.self.view_is))

pub returns-in-Some-clause-edge : goal.returns-in-Some-clause-edge
returns-in-Some-clause-edge c =
    unlinked_is c.args.switch c.args.port (Some c.in-Some.field-0.now) c.args.self.now.links
    (c.in-Some.ensures.value ∙ (far_in (owned c.deref.result.now.names.keys) c.deref.result.now.ends.entries c.args.switch c.args.port (lent_is_network _ _ c.deref.ensures c.self.invariant) ∙ ap (λ (n : Network). far_end (wiring_of n) c.args.switch c.args.port) (lent_says _ _ _ c.deref.ensures c.self.view_is)))

pub returns-in-None-clause-next : goal.returns-in-None-clause-next
returns-in-None-clause-next c =
    c.in-None.ensures.value ∙ (far_in (owned c.deref.result.now.names.keys) c.deref.result.now.ends.entries c.args.switch c.args.port (lent_is_network _ _ c.deref.ensures c.self.invariant) ∙ ap (λ (n : Network). far_end (wiring_of n) c.args.switch c.args.port) (lent_says _ _ _ c.deref.ensures c.self.view_is))

pub returns-in-None-clause-edge : goal.returns-in-None-clause-edge
returns-in-None-clause-edge c =
    unlinked_is c.args.switch c.args.port None c.args.self.now.links
    (c.in-None.ensures.value ∙ (far_in (owned c.deref.result.now.names.keys) c.deref.result.now.ends.entries c.args.switch c.args.port (lent_is_network _ _ c.deref.ensures c.self.invariant) ∙ ap (λ (n : Network). far_end (wiring_of n) c.args.switch c.args.port) (lent_says _ _ _ c.deref.ensures c.self.view_is)))
