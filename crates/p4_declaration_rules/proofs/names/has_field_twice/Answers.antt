use Rattle.std.proofs.Common.{◌+◌, sym, ap, ◌∙◌, drop}
use Rattle.p4_declaration_rules.specs.Declarations.{field_names}
use Rattle.p4_declaration_rules.specs.Loops.{named}
use Rattle.p4_declaration_rules.proofs.Seen.{still_twice, none_seen, fresh_name, old_name, fields_left}
use Rattle.p4_declaration_rules.proofs.names.has_field_twice.Goals as goal

pub loop-field-init : goal.loop-field-init
loop-field-init c = ap (λ ks. still_twice (named ks) (field_names c.args.fields.now)) c.new-seen.ensures.empty ∙ none_seen (field_names c.args.fields.now)

pub returns-then-not-branch : goal.returns-then-not-branch
returns-then-not-branch c =
    old_name c.loop-field.seen.keys c.insert.new.self.keys c.as_str.result c.in_ok-insert.field-0 c.field-item.result.1 (field_names (drop (c.loop-field.field-index + 1) c.args.fields.now)) c.as_str.ensures c.in_ok-insert.ensures.added c.if-not-branch.true
    ∙ ap (still_twice (named c.loop-field.seen.keys)) (sym (fields_left c.args.fields.now c.loop-field.field-index c.field-item.result c.loop-field-test.true c.field-item.is)) ∙ c.loop-field.invariant

pub loop-field-preserved : goal.loop-field-preserved
loop-field-preserved c =
    fresh_name c.loop-field.seen.keys c.insert.new.self.keys c.as_str.result c.in_ok-insert.field-0 c.field-item.result.1 (field_names (drop (c.loop-field.field-index + 1) c.args.fields.now)) c.as_str.ensures c.in_ok-insert.ensures.added c.in_ok-insert.ensures.keys c.if-not-branch.false
    ∙ ap (still_twice (named c.loop-field.seen.keys)) (sym (fields_left c.args.fields.now c.loop-field.field-index c.field-item.result c.loop-field-test.true c.field-item.is)) ∙ c.loop-field.invariant
