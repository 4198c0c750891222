-- What spells the worked rows.
use Rattle.std.proofs.Common.{◌≡◌, ℕ, zero, suc, ◌+◌, false, List, [], ◌∷◌, refl, subst, arith}
use Rattle.std.specs.Prelude.{codes}
use Rattle.lex_words.specs.Seen.{Lexeme, name}
use Rattle.lex_words.specs.declared.key.Key.TheVariants.{Plus, Concat}
use Rattle.p4_tree.specs.Tree.{Expr, path}
use Rattle.p4_tree.specs.declared.statement.Op.TheVariants as op
use Rattle.p4_spelling.specs.Operators.{top}
use Rattle.p4_spelling.specs.Lists.{no_more, one_more}
use Rattle.p4_spelling.specs.Types.{SpellsRegister, bits, both_closed, a_register}
use Rattle.p4_spelling.specs.Expressions.{last_name, then_names, a_number, a_path, a_validity, an_application, a_slice, Spells, a_postfix, a_not, an_opposite, a_cast, tighter, joined, a_conditional}
use Rattle.p4_spelling.specs.Statements.{SpellsStmt, a_semicolon, an_if, an_if_else}
use Rattle.p4_spelling.specs.Controls.{fixed, no_brackets, a_key, the_keys, the_size, the_default, SpellsTable, a_table}
use Rattle.p4_spelling.specs.Example.{a_name, b_name, c_name, bare, cast_lexemes, cast_tree, conditional_lexemes, conditional_tree, concat_lexemes, concat_tree, slice_lexemes, slice_tree, valid_lexemes, valid_tree, applied_lexemes, applied_tree, else_lexemes, else_tree, register_lexemes, register_tree, table_lexemes, table_tree}

-- what is spelled on a level is spelled m levels above
up : (m l p : ℕ) (a : Expr) (u : List Lexeme) → Spells l p a u → Spells (l + m) p a u
up zero l p a u s = let e : l ≡ l + 0 = omega arith in subst (λ n. Spells n p a u) e s
up (suc m) l p a u s = let e : suc (l + m) ≡ l + suc m = omega arith in subst (λ n. Spells n p a u) e (tighter (up m l p a u s))

-- a name alone
alone : (l p : ℕ) (x : List ℕ) → Spells (0 + l) p (path p (x ∷ [])) (name x ∷ [])
alone l p x = up l 0 p (path p (x ∷ [])) (name x ∷ []) (a_postfix (a_path (last_name x)))

pub cast_row : Spells top 0 cast_tree cast_lexemes
cast_row = up 9 2 0 cast_tree cast_lexemes (joined Plus op.Add refl (tighter (tighter (a_cast (bits (bare 8) (omega arith)) (alone 0 6 a_name)))) (tighter (a_postfix (a_number (bare 1)))))

pub conditional_row : Spells top 0 conditional_tree conditional_lexemes
conditional_row = a_conditional (alone 10 0 a_name) (alone 11 2 b_name) (a_conditional (alone 10 4 b_name) (alone 11 6 c_name) (alone 11 8 a_name))

pub concat_row : Spells top 0 concat_tree concat_lexemes
concat_row = up 9 2 0 concat_tree concat_lexemes (joined Concat op.Concat refl (joined Plus op.Add refl (alone 2 0 a_name) (alone 1 2 b_name)) (alone 1 4 c_name))

pub slice_row : Spells top 0 slice_tree slice_lexemes
slice_row = up 11 0 0 slice_tree slice_lexemes (an_opposite (a_postfix (a_slice (bare 7) (record { width = 8; value = 4 }) (omega arith) (omega arith) (a_path (last_name a_name)))))

pub valid_row : Spells top 0 valid_tree valid_lexemes
valid_row = up 11 0 0 valid_tree valid_lexemes (a_postfix (a_validity (then_names a_name (last_name b_name))))

pub applied_row : Spells top 0 applied_tree applied_lexemes
applied_row = up 11 0 0 applied_tree applied_lexemes (a_not (a_postfix (an_application a_name false)))

pub else_row : SpellsStmt false 0 else_tree else_lexemes
else_row = an_if (alone 11 2 a_name) (an_if_else (alone 11 6 b_name) a_semicolon a_semicolon)

pub register_row : SpellsRegister 0 register_tree register_lexemes
register_row = a_register (bare 300) a_name (both_closed (bare 8) (omega arith))

pub table_row : SpellsTable 0 table_tree table_lexemes
table_row =
    a_table a_name (one_more (the_default b_name fixed no_brackets) (one_more (the_keys (one_more (a_key (codes "exact") (alone 11 11 c_name)) no_more)) (one_more (the_size (bare 8)) no_more)))
    ((λ e. absurd (omega (arith, e)), (λ e. absurd (omega (arith, e)), tt)), ((λ e. absurd (omega (arith, e)), tt), (tt, tt)))
