-- Statements, calls, actions and keys with other values, each of which may stand for the one before, do the same. Read
-- `Sights` before it.
use Rattle.std.specs.Prelude.{◌≡◌, ℕ, List, [], ◌∷◌, map}
use Rattle.rule_tests.specs.Tests.{IsFine}
use Rattle.bit_values.specs.Bits.{Word}
use Rattle.std.specs.List.{AllZip}
use Rattle.p4_tree.specs.Tree.{Expr, Arg, Stmts, Action, Local}
use Rattle.p4_meaning.specs.Store.{Store}
use Rattle.p4_meaning.specs.Statements.{Run, Calls, act_of, done_by, in_store, no_calls, meaning_of}
use Rattle.p4_meaning.specs.Scope as meaning
use Rattle.p4_meaning.specs.Scope.{full_name}
use Rattle.p4_meaning.specs.Under.{arg_under, callee_under, stmts_under, settings_under}
use Rattle.p4_meaning.specs.Actions as meant
use Rattle.p4_meaning.specs.Actions.{action_under, in_action, bound, act}
use Rattle.p4_meaning.specs.Tables.{Table, Tables, key_under, table_named, calls_in}
use Rattle.p4_meaning.specs.Parts.{Parts}
use Rattle.p4_scopes.specs.Scopes.{act as action_at, rows, Scope}
use Rattle.p4_scopes.specs.declared.kind.Kind.{Kind}
use Rattle.p4_statement_rules.specs.Calls.{form_tests}
use Rattle.p4_statement_rules.specs.Forms.{form_of}
use Rattle.p4_statement_rules.specs.Statements.{block_tests}
use Rattle.p4_statement_rules.specs.declared.rule.Part.{Part}
use Rattle.p4_declaration_rules.specs.Declarations.{with_params, action_tests}
use Rattle.p4_declaration_rules.specs.Tables.{keys_tests}
use Rattle.p4_declaration_rules.specs.Controls.{locals_tests}
use Rattle.p4_typing_laws.specs.Along.{Along}
use Rattle.passage_stores.specs.SeenStores.{Sees, AlongSettings}
use Rattle.rewriting_laws.specs.Standing.{MayStandFor}
use Rattle.rewritten_programs.specs.Values.{is_value}
use Rattle.rewritten_programs.specs.Rewritten.{ArgsRewritten, BlockRewritten, ActionRewritten, KeyRewritten, LocalRewritten}
use Rattle.rewriting_meaning.specs.Sights.{DoSame, IsSeen, IsFitlySeen, ActionsDoSame, KeysAgree, TablesAgree}

-- statements that break no rule do the same with other values, where at each statement to which the run comes what is
-- seen shows what the scope of the rules says, and calls do the same
abbrev pub StatementsDoSame : Type 0
StatementsDoSame =
    (p : Parts) (calls others : Calls) (h : Part) (s : Scope) (sc : meaning.Scope) (a b : Stmts) → BlockRewritten MayStandFor a b → IsFine (block_tests h s a) → (r : Run)
    → Along calls (IsSeen p calls others) s sc a r → meaning_of others (stmts_under sc b) r ≡ meaning_of calls (stmts_under sc a) r

-- and so does a call alone
abbrev pub CallsDoSame : Type 0
CallsDoSame =
    (p : Parts) (calls others : Calls) (at : ℕ) (s : Scope) (sc : meaning.Scope) (r : Run) → Sees p s sc r.store → DoSame s sc calls others r
    → (x : List (List ℕ)) (xs ys : List Arg) → ArgsRewritten MayStandFor (is_value x) 0 xs ys → IsFine (form_tests at s (form_of s x) xs)
    → done_by others (act_of (callee_under sc x) (map (arg_under sc) ys)) r ≡ done_by calls (act_of (callee_under sc x) (map (arg_under sc) xs)) r

-- and so do the first values of a control's variables
abbrev pub SettingsDoSame : Type 0
SettingsDoSame =
    (p : Parts) (calls others : Calls) (h : Part) (s : Scope) (sc : meaning.Scope) (ls ms : List Local) → AllZip (LocalRewritten MayStandFor) ls ms → IsFine (locals_tests h s ls) → (r : Run)
    → AlongSettings calls (IsFitlySeen p) s sc ls r → meaning_of others (settings_under sc ms) r ≡ meaning_of calls (settings_under sc ls) r

-- an action keeps its name and its parameters, and does the same
pub record ActionsStay : Type 0 where
  pub names : (sc : meaning.Scope) (a b : Action) → ActionRewritten MayStandFor a b → (action_under sc b).name ≡ (action_under sc a).name
  pub params : (sc : meaning.Scope) (a b : Action) → ActionRewritten MayStandFor a b → (action_under sc b).params ≡ (action_under sc a).params
  pub does_same :
      (p : Parts) (h : Part) (s : Scope) (sc : meaning.Scope) (a b : Action) → ActionRewritten MayStandFor a b → IsFine (action_tests h s a) → (ws : List Word) (r : Run)
      → Along no_calls (λ t td c u. IsFitlySeen p t td u) (with_params s a.params) (in_action sc a) a.body (in_store r (bound (action_under sc a).params ws r.store))
      → act (action_under sc b) ws r ≡ act (action_under sc a) ws r

-- keys are matched in the same ways, and have the same words
abbrev pub KeysStay : Type 0
KeysStay =
    (p : Parts) (s : Scope) (sc : meaning.Scope) (st : Store) → Sees p s sc st → (ks ls : List (Expr × List ℕ)) → AllZip (KeyRewritten MayStandFor) ks ls → IsFine (keys_tests s ks)
    → KeysAgree (map (key_under sc) ks) (map (key_under sc) ls) st

-- calls of two programs do the same, where the actions in sight do, and the tables in sight agree
abbrev pub ProgramsCallsDoSame : Type 0
ProgramsCallsDoSame =
    (s : Scope) (sc : meaning.Scope) (as' bs : List meant.Action) (ts us : List Table) (held : Tables) (r : Run)
    → ((x : List ℕ) (ks : List Kind) (m : ℕ) → s (x ∷ []) ≡ action_at ks m → ActionsDoSame as' bs (full_name sc x) r)
    → ((x : List ℕ) (m : ℕ) → s (x ∷ []) ≡ rows m → TablesAgree as' bs (table_named ts (full_name sc x)) (table_named us (full_name sc x)) (held (full_name sc x)) r)
    → DoSame s sc (calls_in as' ts held) (calls_in bs us held) r
