use Rattle.std.proofs.Common.{◌+◌, sym, ap, ◌∙◌, drop}
use Rattle.p4_declaration_rules.specs.Loops.{named}
use Rattle.p4_declaration_rules.proofs.Seen.{still_twice, none_seen, fresh_name, old_name, left_at}
use Rattle.p4_declaration_rules.proofs.names.has_twice.Goals as goal

pub loop-name-init : goal.loop-name-init
loop-name-init c = ap (λ ks. still_twice (named ks) c.args.names.now) c.new-seen.ensures.empty ∙ none_seen c.args.names.now

pub returns-then-not-branch : goal.returns-then-not-branch
returns-then-not-branch c =
    old_name c.loop-name.seen.keys c.insert.new.self.keys c.as_str.result c.in_ok-insert.field-0 c.name-item.result (drop (c.loop-name.name-index + 1) c.args.names.now) c.as_str.ensures c.in_ok-insert.ensures.added c.if-not-branch.true
    ∙ ap (still_twice (named c.loop-name.seen.keys)) (sym (left_at c.args.names.now c.loop-name.name-index c.name-item.result c.loop-name-test.true c.name-item.is)) ∙ c.loop-name.invariant

pub loop-name-preserved : goal.loop-name-preserved
loop-name-preserved c =
    fresh_name c.loop-name.seen.keys c.insert.new.self.keys c.as_str.result c.in_ok-insert.field-0 c.name-item.result (drop (c.loop-name.name-index + 1) c.args.names.now) c.as_str.ensures c.in_ok-insert.ensures.added c.in_ok-insert.ensures.keys c.if-not-branch.false
    ∙ ap (still_twice (named c.loop-name.seen.keys)) (sym (left_at c.args.names.now c.loop-name.name-index c.name-item.result c.loop-name-test.true c.name-item.is)) ∙ c.loop-name.invariant
