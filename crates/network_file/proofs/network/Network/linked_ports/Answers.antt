use Rattle.std.proofs.Common.{◌≡◌, ◌++◌, ℕ, List, All, ap, ◌∙◌, sym, subst, arith}
use Rattle.std.proofs.lemmas.List.{append-nil}
use Rattle.std.proofs.lemmas.List.Elements.{All-head, All-tail}
use Rattle.json_parts.specs.Views.{owned}
use Rattle.network_file.specs.Network.{Port, Network}
use Rattle.network_file.specs.Wiring.{linked_ports}
use Rattle.network_file.proofs.PortLemmas.{IsLow, near, all_low, near_network, next_here, next_other}
use Rattle.network_file.proofs.Lent.{lent_says, lent_is_network}
use Rattle.network_file.proofs.network.Network.linked_ports.Goals as goal

pub overflow_cast-end : goal.overflow_cast-end
overflow_cast-end c =
    let low = All-head IsLow (c.in-Some.end.now, c.in-Some._far.now) c.next.new.self (subst (All IsLow) c.in-Some.ensures.steps c.loop-end.invariant.3) in
    omega (arith, low)

pub loop-end-init : goal.loop-end-init
loop-end-init c = (
  tt,
  tt,
  ap (λ (ps : List ℕ). ps ++ near c.into_iter-end-iterator.result c.args.switch) c.new-ports.ensures.items,
  subst (All IsLow) (sym (c.into_iter-end-iterator.ensures.into_iter_gives ∙ c.iter-end-items.ensures.rest)) (all_low (owned c.deref.result.now.names.keys) c.deref.result.now.ends.entries (lent_is_network _ _ c.deref.ensures c.self.invariant)),
)

pub loop-end-preserved-in-Continue-1 : goal.loop-end-preserved-in-Continue-1
loop-end-preserved-in-Continue-1 c = (
  tt,
  tt,
  ap (λ (ps : List ℕ). ps ++ near c.next.new.self c.args.switch) c.in_ok-push.ensures.items
      ∙ next_here c.args.switch c.in-Some.end.now c.in-Some._far.now c.loop-end.ports.items c.next.new.self c.if-end-switch.true
      ∙ ap (λ (es : List (Port × Port)). c.loop-end.ports.items ++ near es c.args.switch) (sym c.in-Some.ensures.steps)
      ∙ c.loop-end.invariant.2,
  All-tail IsLow (c.in-Some.end.now, c.in-Some._far.now) c.next.new.self (subst (All IsLow) c.in-Some.ensures.steps c.loop-end.invariant.3),
)

pub loop-end-preserved : goal.loop-end-preserved
loop-end-preserved c = (
  tt,
  tt,
  next_other c.args.switch c.in-Some.end.now c.in-Some._far.now c.loop-end.ports.items c.next.new.self c.if-end-switch.false
      ∙ ap (λ (es : List (Port × Port)). c.loop-end.ports.items ++ near es c.args.switch) (sym c.in-Some.ensures.steps)
      ∙ c.loop-end.invariant.2,
  All-tail IsLow (c.in-Some.end.now, c.in-Some._far.now) c.next.new.self (subst (All IsLow) c.in-Some.ensures.steps c.loop-end.invariant.3),
)

pub returns : goal.returns
returns c =
    sym (append-nil c.loop-end.ports.items)
    ∙ ap (λ (es : List (Port × Port)). c.loop-end.ports.items ++ near es c.args.switch) (sym c.in-None.ensures.steps.0)
    ∙ c.loop-end.invariant.2
    ∙ ap (λ (es : List (Port × Port)). near es c.args.switch) (c.into_iter-end-iterator.ensures.into_iter_gives ∙ c.iter-end-items.ensures.rest)
    ∙ near_network (owned c.deref.result.now.names.keys) c.deref.result.now.ends.entries c.args.switch (lent_is_network _ _ c.deref.ensures c.self.invariant)
    ∙ ap (λ (n : Network). linked_ports n.links c.args.switch) (lent_says _ _ _ c.deref.ensures c.self.view_is)
