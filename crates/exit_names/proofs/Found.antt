-- What a control calls is found alike among the program's actions and tables and among its own: a plain name is that of a
-- declaration of its own, or none at all.
use Rattle.std.proofs.Common.{◌≡◌, ◌⊎◌, inl, inr, ℕ, List, [], ◌∷◌, ◌++◌, map, Bool, true, false, cond, Option, Some, None, refl, sym, ◌∙◌, subst, ap}
use Rattle.std.specs.List.{AllByRecursion}
use Rattle.std.specs.Option.{option_map}
use Rattle.bit_values.specs.Bits.{Word}
use Rattle.lex_text.specs.Names.{same_text}
use Rattle.p4_tree.specs.Tree.{Expr, path, applied, negation, Arg, one, many, Stmt, Stmts, MaybeStmt, block, choice, call, done, next, without, otherwise, and_then, Local, local_action, local_table, local_var, Control, Top, control, Program, Program}
use Rattle.p4_meaning.specs.Statements.{act_of, application}
use Rattle.p4_meaning.specs.Scope as meaning
use Rattle.p4_meaning.specs.Scope.{is_among, full, full_name, own_names, path_under, constant_at, first_name}
use Rattle.p4_meaning.specs.Under.{constant_or_path, callee_under, expr_under, arg_under, stmt_under, else_under, stmts_under, behind_local, behind_locals, settings_under, no_scope, behind_top}
use Rattle.p4_meaning.specs.Actions.{Action, action_under, actions_in, action_named, actions_of}
use Rattle.p4_meaning.specs.Tables.{Table, table_under, tables_in, table_named, tables_of}
use Rattle.p4_rule_laws.specs.Old.{OldPath, OldExpr, OldStmt, OldElse, OldStmts}
use Rattle.p4_rule_laws.specs.OldPrograms.{OldLocals, OldControl, OldTops}
use Rattle.p4_typing_laws.proofs.CallCounts.{text_is, text_same}
use Rattle.p4_typing_laws.proofs.FullNames.{full_has, among_head, Knows, known_full, knows_rest, full_apart, knows_all, skip_actions, skip_tables}
use Rattle.p4_typing_laws.specs.Plain.{is_plain, has_point, IsPlain, IsPlainLocal}
use Rattle.exit_programs.specs.Calls.{FindsAction, FindsListed, FindsTable, FindsAct, FindsApplied, FindsStmt, FindsElse, FindStmts}
use Rattle.rule_tests.specs.Tests.{IsFine}
use Rattle.p4_scopes.specs.Scopes.{is_missing, Scope, declare, part}
use Rattle.p4_typing_laws.proofs.Fine.{twice_not}
use Rattle.p4_typing_laws.proofs.CountedNames.{self_stands}
use Rattle.p4_meaning.specs.Under as under
use Rattle.p4_meaning.specs.Parts.{whole, body_of, control_named, scope_at_control}
use Rattle.p4_declaration_rules.specs.Controls.{after_top, tops_tests}
use Rattle.p4_typing_laws.proofs.KnownScopes.{stays}
use Rattle.exit_names.proofs.Names.{broken, not_true, point_other, locals_names}
use Rattle.exit_names.proofs.Seen.{AreQuiet, HasArg, named_has, on_has, header_has}
use Rattle.exit_programs.specs.Owned.{all_actions, all_tables, actions_own, tables_own}

-- what a control whose names are plain declares
plain_locals : (ls : List Local) → OldLocals is_plain ls → AllByRecursion IsPlainLocal ls
plain_locals = locals_names IsPlain (λ x. Unit {0}) (λ x h. h) (λ x h. tt)

-- an expression of any kind
abbrev Anything : Expr → Type 0
Anything e = Unit {0}

-- c: a control's name; as', ts: what the program declares; bs, us: what the control does
module _ (as' bs : List Action) (ts us : List Table) (c : List ℕ) where
  quiet_found : AreQuiet (FindsAct as' bs ts us) Anything
  quiet_found = record { made = λ h b. tt; dropped = tt; read = λ x q t i h k. tt; written = λ x i v h k. tt; told = λ n es h. tt; summed = λ v c es q f h k l. tt; none = tt }

  any_all : (es : List Expr) → AllByRecursion Anything es
  any_all [] = tt
  any_all (e ∷ es) = (tt, any_all es)

  any_args : (args : List Arg) → AllByRecursion (HasArg Anything) args
  any_args [] = tt
  any_args (one p e ∷ args) = (tt, any_args args)
  any_args (many p es ∷ args) = (any_all es, any_args args)

  turned : (f : List ℕ × Bool → List ℕ × Bool) → ((t : List ℕ × Bool) → (f t).0 ≡ t.0) → (o : Option (List ℕ × Bool)) → FindsApplied as' bs ts us o → FindsApplied as' bs ts us (option_map f o)
  turned f same None h = tt
  turned f same (Some t) h = subst (λ (x : List ℕ). FindsTable as' bs ts us x) (sym (same t)) h

  -- the actions of a table
  abbrev Listed : Table → Type 0
  Listed t = AllByRecursion (FindsAction as' bs ts us) t.actions

  named_listed : (vs : List Table) → AllByRecursion Listed vs → (x : List ℕ) → FindsListed as' bs ts us (table_named vs x)
  named_listed [] h x = tt
  named_listed (t ∷ vs) h x = go (same_text t.name x) (named_listed vs h.1 x)
    where
      go : (b : Bool) → FindsListed as' bs ts us (table_named vs x) → FindsListed as' bs ts us (cond b (Some t) (table_named vs x))
      go true more = h.0
      go false more = more

  -- what is found under plain and full names is found under each name of the control
  at_full : (Q : List ℕ → Type 0) → ((x : List ℕ) → is_plain x ≡ true → Q (full c x)) → ((x : List ℕ) → is_plain x ≡ true → Q x) → (sc : meaning.Scope) → sc.control ≡ c → (x : List ℕ) → is_plain x ≡ true → Q (full_name sc x)
  at_full Q h k sc e x q = go (is_among sc.own x)
    where
      go : (b : Bool) → Q (cond b (full sc.control x) x)
      go true = subst (λ (d : List ℕ). Q (full d x)) (sym e) (h x q)
      go false = k x q

  module _ (acts : (sc : meaning.Scope) → sc.control ≡ c → (x : List ℕ) → is_plain x ≡ true → FindsAction as' bs ts us (full_name sc x)) where
    names_listed : (sc : meaning.Scope) → sc.control ≡ c → (xs : List (List ℕ)) → OldPath is_plain xs → AllByRecursion (FindsAction as' bs ts us) (map (full_name sc) xs)
    names_listed sc e [] h = tt
    names_listed sc e (x ∷ xs) h = (acts sc e x h.0, names_listed sc e xs h.1)

    own_listed : (all : List Action) (ls : List Local) (sc : meaning.Scope) → sc.control ≡ c → OldLocals is_plain ls → AllByRecursion Listed (tables_in sc all ls)
    own_listed all [] sc e h = tt
    own_listed all (local_table p t ∷ ls) sc e h = (names_listed sc e t.actions h.0.actions, own_listed all ls sc e h.1)
    own_listed all (l ∷ ls) sc e h = own_listed all ls (behind_local sc l) e h.1

    module _ (tabs : (sc : meaning.Scope) → sc.control ≡ c → (x : List ℕ) → is_plain x ≡ true → FindsTable as' bs ts us (full_name sc x)) where
      module _ (sc : meaning.Scope) (e : sc.control ≡ c) where
        act_found : (x : List (List ℕ)) (args : List Arg) → OldPath is_plain x → FindsAct as' bs ts us (act_of (callee_under sc x) args)
        act_found (x ∷ []) args h = named_has (FindsAct as' bs ts us) Anything quiet_found (full_name sc x) args (any_args args) (λ es k. acts sc e x h.0)
        act_found (x ∷ verb ∷ []) args h = on_has (FindsAct as' bs ts us) Anything quiet_found (full_name sc x) verb args (any_args args) (tabs sc e x h.0)
        act_found (x ∷ y ∷ verb ∷ []) args h = header_has (FindsAct as' bs ts us) Anything quiet_found (first_name sc x ∷ y ∷ []) verb
        act_found _ args h = tt

        test_found : (t : Expr) → OldExpr is_plain t → FindsApplied as' bs ts us (application (expr_under sc t))
        test_found (path p x) h = go (constant_at sc x)
          where
            go : (o : Option Word) → FindsApplied as' bs ts us (application (constant_or_path p o (path_under sc x)))
            go None = tt
            go (Some w) = tt
        test_found (applied p t b) h = tabs sc e t h
        test_found (negation p a) h = turned _ (λ t. refl) (application (expr_under sc a)) (test_found a h)
        test_found _ h = tt

        mutual
          stmt_found : (s : Stmt) → OldStmt is_plain s → FindsStmt as' bs ts us (stmt_under sc s)
          stmt_found (block p ss) h = stmts_found ss h
          stmt_found (choice p t a b) h = (test_found t h.0, (stmt_found a h.1, else_found b h.2))
          stmt_found (call p x args) h = act_found x (map (arg_under sc) args) h.0
          stmt_found _ h = tt

          else_found : (s : MaybeStmt) → OldElse is_plain s → FindsElse as' bs ts us (else_under sc s)
          else_found without h = tt
          else_found (otherwise s) h = stmt_found s h

          stmts_found : (ss : Stmts) → OldStmts is_plain ss → FindStmts as' bs ts us (stmts_under sc ss)
          stmts_found done h = tt
          stmts_found (next s ss) h = (stmt_found s h.0, stmts_found ss h.1)

      -- a control's variables, and its body
      whole_found : (body : Stmts) → OldStmts is_plain body → (ls : List Local) (sc : meaning.Scope) → sc.control ≡ c → FindStmts as' bs ts us (and_then (settings_under sc ls) (stmts_under (behind_locals sc ls) body))
      whole_found body h [] sc e = stmts_found sc e body h
      whole_found body h (local_var p t x v ∷ ls) sc e = (tt, whole_found body h ls sc e)
      whole_found body h (l ∷ ls) sc e = whole_found body h ls (behind_local sc l) e

-- ---- what a control declares has full names

abbrev IsFull : (c y : List ℕ) → Type 0
IsFull c y = (x : List ℕ) × ((is_plain x ≡ true) × (full c x ≡ y))

own_full : (as' : List Action) (c y : List ℕ) (ls : List Local) (sc : meaning.Scope) → Knows c sc ls → OldLocals is_plain ls → ((action_named (actions_in sc ls) y ≡ None) × (table_named (tables_in sc as' ls) y ≡ None)) ⊎ IsFull c y
own_full as' c y [] sc k h = inl (refl, refl)
own_full as' c y (local_action p a ∷ ls) sc k h = go (same_text (full_name sc a.name) y) refl (own_full as' c y ls sc (knows_rest c sc (local_action p a) ls k) h.1)
  where
    go : (b : Bool) → same_text (full_name sc a.name) y ≡ b → ((action_named (actions_in sc ls) y ≡ None) × (table_named (tables_in sc as' ls) y ≡ None)) ⊎ IsFull c y → ((cond b (Some (action_under sc a)) (action_named (actions_in sc ls) y) ≡ None) × (table_named (tables_in sc as' ls) y ≡ None)) ⊎ IsFull c y
    go true e more = inr (a.name, (h.0.0, sym (known_full c sc (local_action p a ∷ ls) k a.name (among_head a.name (own_names ls))) ∙ text_is (full_name sc a.name) y e))
    go false e more = more
own_full as' c y (local_table p t ∷ ls) sc k h = go (same_text (full_name sc t.name) y) refl (own_full as' c y ls sc (knows_rest c sc (local_table p t) ls k) h.1)
  where
    go : (b : Bool) → same_text (full_name sc t.name) y ≡ b → ((action_named (actions_in sc ls) y ≡ None) × (table_named (tables_in sc as' ls) y ≡ None)) ⊎ IsFull c y → ((action_named (actions_in sc ls) y ≡ None) × (cond b (Some (table_under sc as' t)) (table_named (tables_in sc as' ls) y) ≡ None)) ⊎ IsFull c y
    go true e more = inr (t.name, (h.0.name, sym (known_full c sc (local_table p t ∷ ls) k t.name (among_head t.name (own_names ls))) ∙ text_is (full_name sc t.name) y e))
    go false e more = more
own_full as' c y (l ∷ ls) sc k h = own_full as' c y ls (behind_local sc l) (knows_rest c sc l ls k) h.1

-- ---- the actions and tables of other controls

action_front : (xs rest : List Action) (y : List ℕ) → action_named rest y ≡ None → action_named (xs ++ rest) y ≡ action_named xs y
action_front [] rest y h = h
action_front (a ∷ xs) rest y h = ap (λ (o : Option Action). cond (same_text a.name y) (Some a) o) (action_front xs rest y h)

table_front : (xs rest : List Table) (y : List ℕ) → table_named rest y ≡ None → table_named (xs ++ rest) y ≡ table_named xs y
table_front [] rest y h = h
table_front (t ∷ xs) rest y h = ap (λ (o : Option Table). cond (same_text t.name y) (Some t) o) (table_front xs rest y h)

-- y is no full name under a control of these declarations
abbrev IsOutside : (y : List ℕ) → List Top → Type 0
IsOutside y [] = Unit {0}
IsOutside y (control p c ∷ ts) = ((x : List ℕ) → IsPlain x → full c.name x ≡ y → ⊥) × IsOutside y ts
IsOutside y (_ ∷ ts) = IsOutside y ts

module _ (y : List ℕ) where
  point_outside : has_point y ≡ false → (ts : List Top) → IsOutside y ts
  point_outside h [] = tt
  point_outside h (control p c ∷ ts) = ((λ x q e. point_other (full c.name x) y (full_has c.name x) h e), point_outside h ts)
  point_outside h (t ∷ ts) = point_outside h ts

  none_named : (as' : List Action) (ts : List Top) (sc : meaning.Scope) → IsOutside y ts → OldTops is_plain ts → (action_named (actions_of sc ts) y ≡ None) × (table_named (tables_of sc as' ts) y ≡ None)
  none_named as' [] sc h o = (refl, refl)
  none_named as' (control p c ∷ ts) sc h o =
      (let plain = plain_locals c.locals o.0.locals in let sd = under.in_control 0 1 2 sc c in let more = none_named as' ts sc h.1 o.1 in
      (skip_actions c.name y h.0 c.locals sd (knows_all 0 1 2 sc c) plain (actions_of sc ts) ∙ more.0, skip_tables as' c.name y h.0 c.locals sd (knows_all 0 1 2 sc c) plain (tables_of sc as' ts) ∙ more.1))
  none_named as' (t ∷ ts) sc h o = none_named as' ts (behind_top sc t) h o.1

module _ (main : List (List ℕ)) where
  -- behind a control no other of its name follows
  rest_outside : (d x : List ℕ) → IsPlain x → (ts : List Top) (s : Scope) → is_missing (s (d ∷ [])) ≡ false → IsFine (tops_tests main s ts) → IsOutside (full d x) ts
  rest_outside d x q [] s h f = tt
  rest_outside d x q (control p c ∷ ts) s h f = (
    λ y r e. broken (sym (twice_not _ f.0.0) ∙ ap (λ (z : List ℕ). is_missing (s (z ∷ []))) (full_apart y x c.name d r q e).1 ∙ h),
    rest_outside d x q ts (after_top s (control p c)) (ap is_missing (stays main (control p c ∷ []) s (f.0, tt) d h) ∙ h) f.1,
  )
  rest_outside d x q (t ∷ ts) s h f = rest_outside d x q ts (after_top s t) (ap is_missing (stays main (t ∷ []) s (f.0, tt) d h) ∙ h) f.1

  -- a full name under a control finds the control's own, in front of which this scope stands
  module _ (d x : List ℕ) (plain : IsPlain x) where
    other_full : (c : Control) → same_text c.name d ≡ false → (y : List ℕ) → IsPlain y → full c.name y ≡ full d x → ⊥
    other_full c e y r k = broken (sym (text_same c.name d (full_apart y x c.name d r plain k).1) ∙ e)

    -- of these actions and tables what the control finds
    abbrev FindsSame : List Action → List Action → List Table → List Table → Type 0
    FindsSame as' bs ts us = (action_named as' (full d x) ≡ action_named bs (full d x)) × (table_named ts (full d x) ≡ table_named us (full d x))

    pub finds_at : (as' : List Action) (ts : List Top) (s : Scope) (sc : meaning.Scope) → OldTops is_plain ts → IsFine (tops_tests main s ts)
        → FindsSame (actions_of sc ts) (actions_own (scope_at_control sc ts d) (control_named ts d)) (tables_of sc as' ts) (tables_own (scope_at_control sc ts d) as' (control_named ts d))
    finds_at as' [] s sc o f = (refl, refl)
    finds_at as' (control p c ∷ ts) s sc o f = go (same_text c.name d) refl (finds_at as' ts (after_top s (control p c)) sc o.1 f.1)
      where
        go : (b : Bool) → same_text c.name d ≡ b → FindsSame (actions_of sc ts) (actions_own (scope_at_control sc ts d) (control_named ts d)) (tables_of sc as' ts) (tables_own (scope_at_control sc ts d) as' (control_named ts d))
            → FindsSame (actions_own sc (Some c) ++ actions_of sc ts) (actions_own (cond b sc (scope_at_control sc ts d)) (cond b (Some c) (control_named ts d))) (tables_own sc as' (Some c) ++ tables_of sc as' ts) (tables_own (cond b sc (scope_at_control sc ts d)) as' (cond b (Some c) (control_named ts d)))
        go true e more =
            (let there = subst (λ (y : List ℕ). is_missing (declare s c.name part (y ∷ [])) ≡ false) (text_is c.name d e) (ap is_missing (self_stands s c.name part)) in
            let none = none_named (full d x) as' ts sc (rest_outside d x plain ts (declare s c.name part) there f.1) o.1 in
            (action_front (actions_own sc (Some c)) (actions_of sc ts) (full d x) none.0, table_front (tables_own sc as' (Some c)) (tables_of sc as' ts) (full d x) none.1))
        go false e more =
            (let plain_names = plain_locals c.locals o.0.locals in let sd = under.in_control 0 1 2 sc c in
            (skip_actions c.name (full d x) (other_full c e) c.locals sd (knows_all 0 1 2 sc c) plain_names (actions_of sc ts) ∙ more.0, skip_tables as' c.name (full d x) (other_full c e) c.locals sd (knows_all 0 1 2 sc c) plain_names (tables_of sc as' ts) ∙ more.1))
    finds_at as' (t ∷ ts) s sc o f = finds_at as' ts (after_top s t) (behind_top sc t) o.1 f.1

-- ---- a control

-- what a full name under the control finds of the program it finds here
pub record FindsOwn (p : Program) (sc : meaning.Scope) (o : Option Control) (d : List ℕ) : Type 0 where
  pub actions : (x : List ℕ) → is_plain x ≡ true → action_named (actions_own sc o) (full d x) ≡ action_named (all_actions p) (full d x)
  pub tables : (x : List ℕ) → is_plain x ≡ true → table_named (tables_own sc (all_actions p) o) (full d x) ≡ table_named (all_tables p) (full d x)

module _ (p : Program) (names : OldTops is_plain p.tops) (c : Control) (plain : OldControl is_plain c) (sc : meaning.Scope) (finds : FindsOwn p sc (Some c) c.name) where
  abbrev sd : meaning.Scope
  sd = under.in_control 0 1 2 sc c

  abbrev acts : List Action
  acts = actions_own sc (Some c)

  abbrev tabs : List Table
  tabs = tables_own sc (all_actions p) (Some c)

  plain_found : (y : List ℕ) → is_plain y ≡ true → (action_named acts y ≡ action_named (all_actions p) y) × (table_named tabs y ≡ table_named (all_tables p) y)
  plain_found y h =
      (let apart : (x : List ℕ) → IsPlain x → full c.name x ≡ y → ⊥ = λ x k e. point_other (full c.name x) y (full_has c.name x) (not_true _ h) e in
      let none = none_named y (all_actions p) p.tops no_scope (point_outside y (not_true _ h) p.tops) names in (
        sym (action_front acts [] y refl) ∙ skip_actions c.name y apart c.locals sd (knows_all 0 1 2 sc c) (plain_locals c.locals plain.locals) [] ∙ sym none.0,
        sym (table_front tabs [] y refl) ∙ skip_tables (all_actions p) c.name y apart c.locals sd (knows_all 0 1 2 sc c) (plain_locals c.locals plain.locals) [] ∙ sym none.1,
      ))

  each_action : (sc' : meaning.Scope) → sc'.control ≡ c.name → (x : List ℕ) → is_plain x ≡ true → FindsAction (all_actions p) acts (all_tables p) tabs (full_name sc' x)
  each_action = at_full (all_actions p) acts (all_tables p) tabs c.name (FindsAction (all_actions p) acts (all_tables p) tabs) finds.actions (λ x h. (plain_found x h).0)

  finds_table : (x : List ℕ) → table_named tabs x ≡ table_named (all_tables p) x → FindsTable (all_actions p) acts (all_tables p) tabs x
  finds_table x e =
      record {
        same = e;
        listed =
            subst (λ (o : Option Table). FindsListed (all_actions p) acts (all_tables p) tabs o) e
            (named_listed (all_actions p) acts (all_tables p) tabs c.name tabs (own_listed (all_actions p) acts (all_tables p) tabs c.name each_action (all_actions p) c.locals sd refl plain.locals) x);
      }

  pub calls_found : FindStmts (all_actions p) acts (all_tables p) tabs (whole (body_of 0 1 2 sc (Some c)))
  calls_found =
      whole_found (all_actions p) acts (all_tables p) tabs c.name each_action
      (at_full (all_actions p) acts (all_tables p) tabs c.name (FindsTable (all_actions p) acts (all_tables p) tabs) (λ x h. finds_table (full c.name x) (finds.tables x h)) (λ x h. finds_table x (plain_found x h).1))
      c.apply plain.apply c.locals sd refl

  pub actions_within : (x : List ℕ) → action_named (all_actions p) x ≡ None → action_named acts x ≡ None
  actions_within x h = go (own_full (all_actions p) c.name x c.locals sd (knows_all 0 1 2 sc c) plain.locals)
    where
      go : ((action_named acts x ≡ None) × (table_named tabs x ≡ None)) ⊎ IsFull c.name x → action_named acts x ≡ None
      go (inl e) = e.0
      go (inr (y, (k, e))) = (let here = finds.actions y k in cc)

  pub tables_within : (x : List ℕ) (t : Table) → table_named tabs x ≡ Some t → table_named (all_tables p) x ≡ Some t
  tables_within x t h = go (own_full (all_actions p) c.name x c.locals sd (knows_all 0 1 2 sc c) plain.locals)
    where
      go : ((action_named acts x ≡ None) × (table_named tabs x ≡ None)) ⊎ IsFull c.name x → table_named (all_tables p) x ≡ Some t
      go (inl e) = (let none = e.1 in absurd (cc))
      go (inr (y, (k, e))) = (let here = finds.tables y k in cc)
