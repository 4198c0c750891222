-- Ingress and egress without exits, and the halves of a passage with them. Read `Actions` before it, and `Pass` of the
-- meaning.
use Rattle.std.specs.Prelude.{◌≡◌, ℕ, List, [], ◌∷◌, map, Bool, true, false, Option, None}
use Rattle.std.specs.List.{AllByRecursion}
use Rattle.std.specs.Option.{option_map}
use Rattle.bit_values.specs.Widths.{bit}
use Rattle.lex_text.specs.Names.{same_text}
use Rattle.p4_tree.specs.Tree.{Stmts, var, done, next}
use Rattle.p4_meaning.specs.Parsing.{Header}
use Rattle.p4_meaning.specs.Store.{Store}
use Rattle.p4_meaning.specs.Statements.{Run, meaning_of}
use Rattle.p4_meaning.specs.Scope.{is_among}
use Rattle.p4_meaning.specs.Actions.{Action}
use Rattle.p4_meaning.specs.Tables.{Table, Tables, calls_in}
use Rattle.p4_meaning.specs.Parts as parts
use Rattle.p4_meaning.specs.Parts.{Parts, whole}
use Rattle.p4_meaning.specs.Pass.{Going, Leaving, entered, left_behind}
use Rattle.exit_statements.specs.Without.{in_control, Flags, no_exits, stmts_leave, stmts_without}
use Rattle.exit_statements.specs.Free.{AreFreeStmts}
use Rattle.exit_statements.specs.Laws.{is_other}
use Rattle.exit_statements.specs.Actions.{lowered, action_without, exits_of, all_but, IsFreeAction, IsFreeTable, RunListed}

-- the names of the variables that a control declares, by the statements that set them
abbrev pub var_names : Stmts → List (List ℕ)
var_names done = []
var_names (next (var p ty x e) ss) = x ∷ var_names ss
var_names (next _ ss) = var_names ss

-- nothing but declarations
abbrev pub AreVars : Stmts → Type 0
AreVars done = Unit {0}
AreVars (next (var p ty x e) ss) = AreVars ss
AreVars (next _ ss) = ⊥

-- a flag is declared before other variables, where it has to be
abbrev pub with_flag : Bool → List ℕ → Stmts → Stmts
with_flag true x ss = next (lowered x) ss
with_flag false x ss = ss

-- a control whose body is without exits, with its flag or without
abbrev pub body_without : (flagged : Bool) → Flags → List Action → List Table → parts.Body → parts.Body
body_without flagged n as' ts b = record { locals = with_flag flagged n.left b.locals; body = stmts_without n (exits_of as' ts) in_control false b.body }

-- of variables none is in sight
abbrev pub nothing_seen : List ℕ → Bool
nothing_seen x = false

-- what a control's actions declare is `own`; of variables the control uses its own alone
pub record IsFreeControl (n : Flags) (returned : List ℕ → List ℕ) (own : List ℕ → Bool) (as' : List Action) (ts : List Table) (b : parts.Body) : Type 0 where
  pub two : same_text n.returned n.left ≡ false
  pub vars : AreVars b.locals
  pub free : AreFreeStmts n (is_other own) (all_but nothing_seen) (whole b)
  pub actions : AllByRecursion (IsFreeAction n.left returned own (is_among (var_names b.locals))) as'
  pub tables : AllByRecursion (IsFreeTable (is_among (var_names b.locals))) ts

-- a path of two names at least
abbrev pub is_long : List (List ℕ) → Bool
is_long [] = false
is_long (x ∷ []) = false
is_long (x ∷ y ∷ rest) = true

-- each header has such a path
abbrev pub AreLong : List Header → Type 0
AreLong hs = AllByRecursion (λ h. is_long h.path ≡ true) hs

-- the runs of a control and of one without exits
abbrev pub run_of : List Action → List Table → Tables → parts.Body → Run → Run
run_of as' ts held b r = (meaning_of (calls_in as' ts held) (whole b) r).0

abbrev pub run_without : (flagged : Bool) → Flags → (returned : List ℕ → List ℕ) → List Action → List Table → Tables → parts.Body → Run → Run
run_without flagged n returned as' ts held b r = (meaning_of (calls_in (map (action_without n.left returned) as') ts held) (whole (body_without flagged n as' ts b)) r).0

-- no header has the empty path; and where the flag is not declared, it is not set
pub record Begins (flagged : Bool) (n : Flags) (s : Store) : Type 0 where
  pub plain : s.headers [] ≡ None
  pub unset : flagged ≡ false → s.values (n.left ∷ []) ≡ bit false

-- the entry half gives the same, whatever tables hold
abbrev pub EntersAgree : Type 0
EntersAgree = (flagged : Bool) (n : Flags) (returned : List ℕ → List ℕ) (own : List ℕ → Bool) (p : Parts) (b : parts.Body) (held : Tables)
    → IsFreeControl n returned own p.actions p.tables b → RunListed p.actions p.tables held → AreLong p.headers
    → (before : Store) (rest : List ℕ) (r : Run) → Begins flagged n r.store
    → entered p before rest (run_without flagged n returned p.actions p.tables held b r) ≡ entered p before rest (run_of p.actions p.tables held b r)

-- compute checksum uses no variable but its own, and cannot leave
pub record IsPlain (n : Flags) (own : List ℕ → Bool) (ss : Stmts) : Type 0 where
  pub free : AreFreeStmts n (is_other own) (all_but nothing_seen) ss
  pub stays : stmts_leave no_exits ss ≡ false

-- the port and the frame by which a packet leaves
abbrev pub sent_of : Going → ℕ × List ℕ
sent_of g = (g.port, g.frame)

abbrev pub sent : Leaving → Option (ℕ × List ℕ)
sent l = option_map sent_of l.going

-- stores that differ in variables alone: headers are the same, and so is what stands at paths of two names or more
pub record SameButVariables (s t : Store) : Type 0 where
  pub headers : t.headers ≡ s.headers
  pub values : (q : List (List ℕ)) → is_long q ≡ true → t.values q ≡ s.values q

-- what leaves and what is kept is the same, and the stores at the end differ in variables alone
pub record LeaveAlike (p : Parts) (rest : List ℕ) (a b : Run) : Type 0 where
  pub registers : (left_behind p rest b).registers ≡ (left_behind p rest a).registers
  pub digests : (left_behind p rest b).digests ≡ (left_behind p rest a).digests
  pub sent_same : sent (left_behind p rest b) ≡ sent (left_behind p rest a)
  pub ends : SameButVariables a.store b.store

-- the exit half gives the same but for variables at its end, whatever tables hold
abbrev pub LeavesAgree : Type 0
LeavesAgree = (flagged : Bool) (n : Flags) (returned : List ℕ → List ℕ) (own : List ℕ → Bool) (p : Parts) (b : parts.Body) (held : Tables)
    → IsFreeControl n returned own p.actions p.tables b → RunListed p.actions p.tables held → AreLong p.headers → IsPlain n own p.compute
    → (rest : List ℕ) (r : Run) → Begins flagged n r.store
    → LeaveAlike p rest (run_of p.actions p.tables held b r) (run_without flagged n returned p.actions p.tables held b r)
