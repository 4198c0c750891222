use Rattle.std.proofs.Common.{ℕ, ◌-◌, refl, ap, ◌∙◌}
use Rattle.p4_scopes.proofs.Held.{one_read}
use Rattle.p4_scopes.proofs.Changes.{by_result, kept_less, name_in_table}
use Rattle.p4_scopes.proofs.scope.Scope.leave.Goals as goal

pub invariant_of-self : goal.invariant_of-self
invariant_of-self c =
    let count = c.saturating_sub-left.ensures ∙ ap (λ (n : ℕ). n - 1) (c.len.ensures ∙ c.self.inside.entries.ok.0) in
    let there = one_read c.deref.result.now c.self.inside.entries.items c.saturating_sub-left.result c.in-Some.e.now c.deref.ensures.value c.in-Some.ensures.lookup.0 c.in-Some.ensures.lookup.1 in
    by_result c.insert.result c.insert.ensures.updates c.insert.ensures.absent
    (λ u. kept_less c.self.inside (record { alloc = c.self.inside.alloc; entries = c.truncate.new.self; names = c.insert.new.self }) c.in-Some.e.now c.saturating_sub-left.result c.in-Some.e.now.name
    c.self.invariant count there c.truncate.ensures.items refl u.0)
    (λ a. name_in_table c.self.inside c.in-Some.e.now c.saturating_sub-left.result c.in-Some.e.now.name c.self.invariant count there refl a)
