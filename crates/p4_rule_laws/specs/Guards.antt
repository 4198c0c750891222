-- Statements behind the test of an `if`, and statements that a flag can turn off. Read `Old` before it.
use Rattle.std.specs.Prelude.{◌≡◌, ℕ, List, [], ◌∷◌, None}
use Rattle.p4_tree.specs.Tree.{Expr, path, negation, Stmt, Stmts, block, var, choice, done, next, without}
use Rattle.p4_tree.specs.declared.statement.PTy.TheVariants as type
use Rattle.p4_scopes.specs.Scopes.{Scope, held}
use Rattle.p4_scopes.specs.declared.kind.Kind.TheVariants.{Truth}
use Rattle.p4_scopes.specs.declared.thing.Thing.TheVariants.{Scalar}
use Rattle.p4_scopes.specs.declared.thing.Access.TheVariants.{Writable}

-- if (e) { b }
abbrev pub guarded : (at : ℕ) → Expr → Stmts → Stmt
guarded p e b = choice p e (block p b) without

-- the name is a variable of type `bool`
abbrev pub IsFlag : Scope → List ℕ → Type 0
IsFlag s x = s (x ∷ []) ≡ held Writable (Scalar Truth)

-- bool x; if (!x) { b }
abbrev pub flagged : (at : ℕ) → List ℕ → Stmts → Stmts
flagged p x b = next (var p type.Bool x None) (next (guarded p (negation p (path p (x ∷ []))) b) done)
