use Rattle.std.proofs.Common.{sym, ap, ◌∙◌, ◌+◌, List, ℕ, codes, map}
use Rattle.lex_text.specs.Names.{same_text}
use Rattle.p4_tree.specs.View.{key_of}
use Rattle.p4_declaration_rules.specs.Tables.{has_key_kind}
use Rattle.p4_declaration_rules.proofs.Prefixes.{first_prefix, rest_whole}
use Rattle.p4_declaration_rules.proofs.tables.has_two_prefixes.Goals as goal

pub returns-then-eq : goal.returns-then-eq
returns-then-eq c =
    c.has_key_kind.ensures
    ∙ ap (λ xs. has_key_kind (map key_of xs) (codes "lpm")) (rest_whole c.args.keys.now (c.loop-i.i + 1))
    ∙ first_prefix c.args.keys.now c.loop-i.i c.index-keys-i.result c.loop-i-test.true c.index-keys-i.is
    (ap (λ (x : List ℕ). same_text x (codes "lpm")) (sym c.as_str.ensures) ∙ sym c.eq.ensures ∙ c.if-eq.true)
    ∙ c.loop-i.invariant
