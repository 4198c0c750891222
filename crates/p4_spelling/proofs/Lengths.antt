-- What is spelled has a lexeme at least.
use Rattle.std.proofs.Common.{ℕ, ◌≤◌, List, length, arith}
use Rattle.lex_words.specs.Seen.{Lexeme}
use Rattle.p4_tree.specs.declared.statement.PTy.{PTy}
use Rattle.p4_spelling.specs.Types.{SpellsScalar, a_bool, a_bit, bits, SpellsType, a_scalar, a_name}
use Rattle.p4_spelling.specs.Expressions.{SpellsPath, last_name, then_names}

pub path_long : {xs : List (List ℕ)} {u : List Lexeme} → SpellsPath xs u → 1 ≤ length u
path_long (last_name x) = omega arith
path_long (then_names x s) = omega arith

pub scalar_long : {t : PTy} {u : List Lexeme} → SpellsScalar t u → 1 ≤ length u
scalar_long a_bool = omega arith
scalar_long a_bit = omega arith
scalar_long (bits n low) = omega arith

pub type_long : {t : PTy} {u : List Lexeme} → SpellsType t u → 1 ≤ length u
type_long (a_scalar s) = scalar_long s
type_long (a_name x) = omega arith
