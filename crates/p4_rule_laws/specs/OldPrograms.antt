-- Declarations and programs of which each name that is looked up is old. Read `Old` before it and `Kept` after it.
use Rattle.std.specs.Prelude.{◌≡◌, ℕ, List, [], ◌∷◌, true, Option, Some, None, codes}
use Rattle.p4_tree.specs.Tree.{Expr, stmts_from, Keyset, any, only, masked, Case, Transition, nowhere, to, select, ParserState, Table, Local, local_action, local_table, local_register, local_const, local_var, Control, Parser, Top, constant, typedef, header_type, struct_type, register, parser, control}
use Rattle.p4_tree.specs.declared.program.Param.{Param}
use Rattle.p4_rule_laws.specs.Old.{Names, OldPath, OldType, OldFields, OldExpr, OldExprs, OldStart, OldStmts}

-- ---- tables

-- the kinds of keys are in no scope
abbrev pub OldKeys : Names → List (Expr × List ℕ) → Type 0
OldKeys old [] = Unit {0}
OldKeys old (k ∷ ks) = OldExpr old k.0 × OldKeys old ks

abbrev pub OldDefault : Names → Option (List ℕ × List Expr) → Type 0
OldDefault old None = Unit {0}
OldDefault old (Some d) = (old d.0 ≡ true) × OldExprs old d.1

pub record OldTable (old : Names) (t : Table) : Type 0 where
  pub name : old t.name ≡ true
  pub keys : OldKeys old t.keys
  pub actions : OldPath old t.actions
  pub default : OldDefault old t.default

-- ---- parsers

-- parameters of parsers and controls
abbrev pub OldWays : Names → List Param → Type 0
OldWays old [] = Unit {0}
OldWays old (q ∷ qs) = OldType old q.ty × (old q.name ≡ true) × OldWays old qs

abbrev pub OldKeyset : Names → Keyset → Type 0
OldKeyset old (any p) = Unit {0}
OldKeyset old (only p e) = OldExpr old e
OldKeyset old (masked p e m) = OldExpr old e × OldExpr old m

abbrev pub OldKeysets : Names → List Keyset → Type 0
OldKeysets old [] = Unit {0}
OldKeysets old (k ∷ ks) = OldKeyset old k × OldKeysets old ks

abbrev pub OldCases : Names → List Case → Type 0
OldCases old [] = Unit {0}
OldCases old (c ∷ cs) = OldKeysets old c.keys × (old c.next ≡ true) × OldCases old cs

abbrev pub OldTransition : Names → Transition → Type 0
OldTransition old (nowhere p) = Unit {0}
OldTransition old (to p x) = old x ≡ true
OldTransition old (select p es cs) = OldExprs old es × OldCases old cs

abbrev pub OldStates : Names → List ParserState → Type 0
OldStates old [] = Unit {0}
OldStates old (st ∷ sts) = (old st.name ≡ true) × OldStmts old (stmts_from st.body) × OldTransition old st.next × OldStates old sts

-- the state `start` is looked up in each parser
pub record OldParser (old : Names) (d : Parser) : Type 0 where
  pub name : old d.name ≡ true
  pub params : OldWays old d.params
  pub states : OldStates old d.states
  pub start : old (codes "start") ≡ true

-- ---- controls

abbrev pub OldLocal : Names → Local → Type 0
OldLocal old (local_action p a) = (old a.name ≡ true) × OldFields old a.params × OldStmts old a.body
OldLocal old (local_table p t) = OldTable old t
OldLocal old (local_register p r) = (old r.name ≡ true) × OldType old r.ty
OldLocal old (local_const p t x e) = OldType old t × (old x ≡ true) × OldExpr old e
OldLocal old (local_var p t x e) = OldType old t × (old x ≡ true) × OldStart old e

abbrev pub OldLocals : Names → List Local → Type 0
OldLocals old [] = Unit {0}
OldLocals old (l ∷ ls) = OldLocal old l × OldLocals old ls

pub record OldControl (old : Names) (c : Control) : Type 0 where
  pub name : old c.name ≡ true
  pub params : OldWays old c.params
  pub locals : OldLocals old c.locals
  pub apply : OldStmts old c.apply

-- ---- declarations at top level

abbrev pub OldTop : Names → Top → Type 0
OldTop old (constant p t x e) = OldType old t × (old x ≡ true) × OldExpr old e
OldTop old (typedef p t x) = OldType old t × (old x ≡ true)
OldTop old (header_type p x fs) = (old x ≡ true) × OldFields old fs
OldTop old (struct_type p x fs) = (old x ≡ true) × OldFields old fs
OldTop old (register p r) = (old r.name ≡ true) × OldType old r.ty
OldTop old (parser p d) = OldParser old d
OldTop old (control p c) = OldControl old c

abbrev pub OldTops : Names → List Top → Type 0
OldTops old [] = Unit {0}
OldTops old (t ∷ ts) = OldTop old t × OldTops old ts
