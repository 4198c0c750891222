-- A parser that begins with new states, and whose own states have another name for the first and other reads of the
-- packet's length, grows: each state that can be spelled assigns and calls alone, and its keys read no length.
use Rattle.std.proofs.Common.{codes, ◌≡◌, ℕ, List, [], ◌∷◌, ◌++◌, map, refl, sym, ap, subst}
use Rattle.rule_tests.specs.Tests.{IsFine}
use Rattle.p4_parser_states.specs.Laws.{ReachesIsExact}
use Rattle.p4_parser_states.specs.Cycles.{state_names}
use Rattle.p4_tree.specs.Tree.{Expr, num, flag, path, Stmt, Stmts, assign, call, done, next, stmts_from, Keyset, any, only, masked, Case, Transition, nowhere, to, select, ParserState}
use Rattle.p4_meaning.specs.Scope.{Roots}
use Rattle.p4_scopes.specs.Scopes.{Scope}
use Rattle.p4_statement_rules.specs.Statements.{after}
use Rattle.p4_declaration_rules.specs.Parsers.{keyset_tests, with_states}
use Rattle.p4_printer.specs.CanSpell.{EachCan, SomeCan, CanSpellParserStmt, CanSpellSimple, CanSpellKeyset, CanSpellCase, CanSpellNext, CanSpellState}
use Rattle.p4_rule_laws.specs.Old.{Names}
use Rattle.p4_rule_laws.specs.Replaced.{BlockReplaced, same, in_value, none_left, first_then}
use Rattle.p4_rule_laws.specs.ReplacedPrograms.{is_any, KeysetReplaced, KeysetsReplaced, CasesReplaced, TransitionReplaced, same_way, in_select, StatesReplaced}
use Rattle.p4_rule_laws.specs.Growth.{StatesGrow}
use Rattle.p4_rule_laws.specs.Entered as grown
use Rattle.p4_rule_laws.specs.Entered.{renamed_cases, renamed_states, entered, renamed_to, Begins}
use Rattle.p4_rule_laws.proofs.EnteredLemmas.{entered_grow}
use Rattle.p4_rule_laws.proofs.BeginsLemmas.{begins_enter}
use Rattle.p4_rule_laws.proofs.ReplacedStates.{replaced_states}
use Rattle.linked_halves.specs.ParserStates.{own_name, renamed_case, renamed_transition}
use Rattle.linked_programs.specs.Rewritten.{expr_with, parse_with, keyset_with, case_with, transition_with}
use Rattle.linked_programs.specs.Linked.{own_state}
use Rattle.linked_rules.specs.Lengths.{HasLength}
use Rattle.linked_rules.proofs.LengthFine.{length_kept, expr_replaced, exprs_replaced}

abbrev onto_start : List ℕ → List ℕ
onto_start = renamed_to (codes "start") (codes "hydra_start")

-- ---- what is there already

same_block : (s : Scope) (b : Stmts) → BlockReplaced s b b
same_block s done = none_left
same_block s (next c b) = first_then same (same_block (after s c) b)

-- ---- keys

simple_stays : (r : Roots) (e : Expr) → CanSpellSimple e → expr_with r e ≡ e
simple_stays r (num p n) w = refl
simple_stays r (flag p b) w = refl
simple_stays r (path p (x ∷ [])) w = refl
simple_stays r _ w = absurd w

keyset_stays : (r : Roots) (k : Keyset) → CanSpellKeyset k → keyset_with r k ≡ k
keyset_stays r (any p) w = refl
keyset_stays r (only p e) w = ap (only p) (simple_stays r e w)
keyset_stays r (masked p e m) w = λ j. masked p (simple_stays r e w.0 j) (simple_stays r m w.1 j)

module _ (r : Roots) (s : Scope) (h : HasLength r s) where
  keyset_replaced : (k : Keyset) → CanSpellKeyset k → KeysetReplaced s k (keyset_with r k)
  keyset_replaced k w =
      record {
        default = sym (ap is_any (keyset_stays r k w));
        wherever = λ v f. subst (λ (l : Keyset). IsFine (keyset_tests s v l)) (sym (keyset_stays r k w)) f;
      }

  each_replaced : (ks : List Keyset) → EachCan CanSpellKeyset ks → KeysetsReplaced s ks (map (keyset_with r) ks)
  each_replaced [] w = tt
  each_replaced (k ∷ ks) w = (keyset_replaced k w.0, each_replaced ks w.1)

  keysets_replaced : (ks : List Keyset) → SomeCan CanSpellKeyset ks → KeysetsReplaced s ks (map (keyset_with r) ks)
  keysets_replaced [] w = tt
  keysets_replaced (k ∷ ks) w = (keyset_replaced k w.0, each_replaced ks w.1)

  -- ---- how a state goes on

  cases_replaced : (cs : List Case) → EachCan CanSpellCase cs → CasesReplaced s (renamed_cases onto_start cs) (map renamed_case (map (case_with r) cs))
  cases_replaced [] w = tt
  cases_replaced (c ∷ cs) w = (keysets_replaced c.keys w.0.0, refl, cases_replaced cs w.1)

  transition_replaced : (t : Transition) → CanSpellNext t → TransitionReplaced s (grown.renamed_transition onto_start t) (renamed_transition (transition_with r t))
  transition_replaced (nowhere p) w = same_way
  transition_replaced (to p x) w = same_way
  transition_replaced (select p es cs) w = in_select p (exprs_replaced r s h es) (cases_replaced cs w.1)

  -- ---- states

  body_replaced : (cs : List Stmt) → EachCan CanSpellParserStmt cs → BlockReplaced s (stmts_from cs) (stmts_from (map (parse_with r) cs))
  body_replaced [] w = none_left
  body_replaced (assign p x e ∷ cs) w = first_then (in_value p x (expr_replaced r s h e)) (body_replaced cs w.1)
  body_replaced (call p x args ∷ cs) w = first_then same (body_replaced cs w.1)
  body_replaced (_ ∷ cs) w = absurd w.0

  own_replaced : (sts : List ParserState) → EachCan CanSpellState sts → StatesReplaced s (renamed_states onto_start sts) (map (own_state r) sts)
  own_replaced [] w = tt
  own_replaced (st ∷ sts) w = (body_replaced st.body w.0.1, transition_replaced st.next w.0.2, own_replaced sts w.1)

  all_replaced : (added sts : List ParserState) → EachCan CanSpellState sts → StatesReplaced s (entered onto_start added sts) (added ++ map (own_state r) sts)
  all_replaced [] sts w = own_replaced sts w
  all_replaced (a ∷ added) sts w = (same_block s (stmts_from a.body), same_way, all_replaced added sts w)

own_names : (r : Roots) (sts : List ParserState) → state_names (renamed_states onto_start sts) ≡ state_names (map (own_state r) sts)
own_names r [] = refl
own_names r (st ∷ sts) = ap (λ (xs : List (List ℕ)). own_name st.name ∷ xs) (own_names r sts)

all_names : (r : Roots) (added sts : List ParserState) → state_names (entered onto_start added sts) ≡ state_names (added ++ map (own_state r) sts)
all_names r [] sts = own_names r sts
all_names r (a ∷ added) sts = ap (λ (xs : List (List ℕ)). a.name ∷ xs) (all_names r added sts)

-- ---- the whole

-- t: the scope before the states of the linked parser
pub parser_states_grow :
    ReachesIsExact → (old : Names) (r : Roots) (s t : Scope) → HasLength r t → (added sts : List ParserState) → EachCan CanSpellState sts → Begins old (codes "start") (codes "hydra_start") t added sts
    → StatesGrow old s t sts (added ++ map (own_state r) sts)
parser_states_grow exact old r s t h added sts w b =
    replaced_states old s t sts (entered onto_start added sts) (added ++ map (own_state r) sts)
    (entered_grow exact old onto_start s t added sts (begins_enter old (codes "start") (codes "hydra_start") t added sts b))
    (all_names r added sts)
    (λ k. all_replaced r (with_states t (entered onto_start added sts)) (length_kept r t (with_states t (entered onto_start added sts)) k h) added sts w)
