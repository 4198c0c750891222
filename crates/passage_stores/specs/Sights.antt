-- What is in sight at the parser and at the controls that `main` names, by the rules and in the meaning. Read `Parts` of
-- `p4_meaning` before it, and `Controls` of `p4_declaration_rules`.
use Rattle.std.specs.Prelude.{ℕ, List, [], ◌∷◌, if◌then◌else◌}
use Rattle.lex_text.specs.Names.{same_text}
use Rattle.p4_tree.specs.Tree.{Top, parser, control, Program}
use Rattle.p4_meaning.specs.Scope as meaning
use Rattle.p4_meaning.specs.Under.{no_scope}
use Rattle.p4_meaning.specs.Parts.{named_in, scope_at_parser, scope_at_control}
use Rattle.p4_scopes.specs.Scopes.{Scope, core}
use Rattle.p4_declaration_rules.specs.Controls.{after_top}

-- what the rules have in sight in front of the parser of a name, and in front of the control of a name
abbrev pub rules_at_parser : Scope → List Top → List ℕ → Scope
rules_at_parser s [] x = s
rules_at_parser s (parser p d ∷ ts) x = if same_text d.name x then s else rules_at_parser (after_top s (parser p d)) ts x
rules_at_parser s (t ∷ ts) x = rules_at_parser (after_top s t) ts x

abbrev pub rules_at_control : Scope → List Top → List ℕ → Scope
rules_at_control s [] x = s
rules_at_control s (control p c ∷ ts) x = if same_text c.name x then s else rules_at_control (after_top s (control p c)) ts x
rules_at_control s (t ∷ ts) x = rules_at_control (after_top s t) ts x

-- in front of the parser that `main` names
abbrev pub parser_rules : Program → Scope
parser_rules p = rules_at_parser core p.tops (named_in p.main 0)

abbrev pub parser_scope : Program → meaning.Scope
parser_scope p = scope_at_parser no_scope p.tops (named_in p.main 0)

-- in front of the control that `main` names at a place
abbrev pub control_rules : Program → ℕ → Scope
control_rules p n = rules_at_control core p.tops (named_in p.main n)

abbrev pub control_scope : Program → ℕ → meaning.Scope
control_scope p n = scope_at_control no_scope p.tops (named_in p.main n)
