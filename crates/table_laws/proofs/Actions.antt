-- The names in the lists of a well-typed program's tables stand for actions.
use Rattle.std.proofs.Common.{◌≡◌, inl, inr, ℕ, suc, List, [], ◌∷◌, ◌++◌, map, Bool, true, false, not, ◌||◌, cond, codes, Option, Some, None, refl, sym, ap, ◌∙◌, subst}
use Rattle.std.specs.List.{AllByRecursion}
use Rattle.lex_text.specs.Names.{same_text}
use Rattle.rule_tests.specs.Tests.{IsFine}
use Rattle.p4_tree.specs.Tree.{Expr, Local, local_action, local_table, local_register, local_const, local_var, Top, constant, typedef, header_type, struct_type, register, parser, control, Program}
use Rattle.p4_tree.specs.declared.program.Param.{Param}
use Rattle.p4_meaning.specs.Scope as meaning
use Rattle.p4_meaning.specs.Scope.{full, full_name, own_names}
use Rattle.p4_meaning.specs.Under.{no_scope, behind_top, behind_local, in_control}
use Rattle.p4_meaning.specs.Actions.{Action, action_named}
use Rattle.p4_meaning.specs.Tables.{Table, default_under, tables_in, tables_of}
use Rattle.p4_meaning.specs.Parts.{Parts, parts_of}
use Rattle.p4_parser_states.specs.Cycles as cycles
use Rattle.p4_scopes.specs.Scopes.{Stands, missing, typed, held, cells, act, rows, state, function, algorithm, other, is_missing, Scope, declare, value, alias, fields, part, core}
use Rattle.p4_scopes.specs.Scopes as scope
use Rattle.p4_scopes.specs.declared.kind.Kind.{Kind}
use Rattle.p4_scopes.specs.Uses.{is_action}
use Rattle.p4_scopes.specs.declared.thing.Thing.TheVariants.{Header, Struct}
use Rattle.p4_scopes.specs.declared.thing.Access.TheVariants.{Constant}
use Rattle.p4_statement_rules.specs.declared.rule.Part.{Part}
use Rattle.p4_declaration_rules.specs.Tables.{listed_tests, default_tests}
use Rattle.p4_declaration_rules.specs.Parsers.{way_access, with_ways, ways_tests}
use Rattle.p4_declaration_rules.specs.Controls.{after_local, locals_tests, part_in, after_top, tops_tests}
use Rattle.p4_rules.specs.ProgramRules.{IsWellTyped}
use Rattle.p4_typing_laws.specs.Plain.{HavePlainNames}
use Rattle.p4_typing_laws.specs.Tied.{HasIt, ActionIs, IsTied, LocalsPlaces, TopsPlaces}
use Rattle.p4_typing_laws.proofs.Fine.{twice_not, typed_fine}
use Rattle.p4_typing_laws.proofs.CallCounts.{text_is}
use Rattle.p4_typing_laws.proofs.FullNames.{none_named}
use Rattle.p4_typing_laws.proofs.CountedNames.{KeepsCore, core_keeps, declare_keeps}
use Rattle.p4_typing_laws.proofs.CountedLocals.{own_new, own_missing}
use Rattle.p4_typing_laws.proofs.TiedPlaces.{each_tied}
use Rattle.p4_tables.specs.Named.{action_name}
use Rattle.p4_tables.specs.Programs.{action_place}
use Rattle.table_laws.specs.Loaded.{IsActionName, NamesActions, TablesNameActions}

-- ---- actions by their names

found_stands : (as' : List Action) (y : List ℕ) (a : Action) → action_named as' y ≡ Some a → IsActionName as' y
found_stands [] y a e = absurd (cc e)
found_stands (b ∷ bs) y a e = go (same_text b.name y) refl e (found_stands bs y a)
  where
    go : (t : Bool) → same_text b.name y ≡ t → cond t (Some b) (action_named bs y) ≡ Some a → (action_named bs y ≡ Some a → IsActionName bs y) → action_name (b ∷ bs) (cond t 0 (suc (action_place bs y))) ≡ y
    go true is f more = text_is b.name y is
    go false is f more = more f

none_stands : (as' : List Action) → action_named as' (codes "NoAction") ≡ None → IsActionName as' (codes "NoAction")
none_stands [] e = refl
none_stands (b ∷ bs) e = go (same_text b.name (codes "NoAction")) e (none_stands bs)
  where
    go : (t : Bool) → cond t (Some b) (action_named bs (codes "NoAction")) ≡ None → (action_named bs (codes "NoAction") ≡ None → IsActionName bs (codes "NoAction")) → action_name (b ∷ bs) (cond t 0 (suc (action_place bs (codes "NoAction")))) ≡ codes "NoAction"
    go true f more = absurd (cc f)
    go false f more = more f

broken : {A : Type 0} → true ≡ false → A
broken h = absurd (cc)

module _ (pt : Parts) (none : action_named pt.actions (codes "NoAction") ≡ None) where
  -- `NoAction` is no name of a control's own here
  module _ (sc : meaning.Scope) (own : meaning.is_among sc.own (codes "NoAction") ≡ false) where
    is_stands : (y : List ℕ) (ks : List Kind) (o : Option Action) → action_named pt.actions y ≡ o → ActionIs ks o → IsActionName pt.actions y
    is_stands y ks None e h = absurd h
    is_stands y ks (Some a) e h = found_stands pt.actions y a e

    plain_stands : (x : List ℕ) → x ≡ codes "NoAction" → IsActionName pt.actions (full_name sc x)
    plain_stands x e = subst (λ (y : List ℕ). IsActionName pt.actions (full_name sc y)) (sym e) (ap (λ (b : Bool). action_name pt.actions (action_place pt.actions (cond b (full sc.control (codes "NoAction")) (codes "NoAction")))) own ∙ (none_stands pt.actions none ∙ ap (λ (b : Bool). cond b (full sc.control (codes "NoAction")) (codes "NoAction")) (sym own)))

    name_stands : (x : List ℕ) (st : Stands) → HasIt pt sc x st → is_missing st ≡ false → not (is_action st) ≡ false → IsActionName pt.actions (full_name sc x)
    name_stands x missing h m a = broken m
    name_stands x (act ks n) (inl h) m a = plain_stands x h.0
    name_stands x (act ks n) (inr h) m a = is_stands (full_name sc x) ks (action_named pt.actions (full_name sc x)) refl h
    name_stands x (typed f t) h m a = broken a
    name_stands x (held c t) h m a = broken a
    name_stands x (cells k) h m a = broken a
    name_stands x (rows n) h m a = broken a
    name_stands x state h m a = broken a
    name_stands x (function f) h m a = broken a
    name_stands x algorithm h m a = broken a
    name_stands x other h m a = broken a

    list_stands : (at : ℕ) (s : Scope) → IsTied pt s sc → (xs : List (List ℕ)) → IsFine (listed_tests at s xs) → AllByRecursion (IsActionName pt.actions) (map (full_name sc) xs)
    list_stands at s tied [] f = tt
    list_stands at s tied (x ∷ xs) f = (name_stands x (s (x ∷ [])) (tied.names x) f.0.0 f.0.1, list_stands at s tied xs f.1)

    among_stands : (xs : List (List ℕ)) (x : List ℕ) → AllByRecursion (IsActionName pt.actions) (map (full_name sc) xs) → cycles.is_among xs x ≡ true → IsActionName pt.actions (full_name sc x)
    among_stands [] x h e = absurd (let c : false ≡ true = e in cc)
    among_stands (y ∷ ys) x h e = go (same_text y x) refl e (among_stands ys x h.1)
      where
        go : (b : Bool) → same_text y x ≡ b → (b || cycles.is_among ys x) ≡ true → (cycles.is_among ys x ≡ true → IsActionName pt.actions (full_name sc x)) → IsActionName pt.actions (full_name sc x)
        go true is f more = subst (λ (z : List ℕ). IsActionName pt.actions (full_name sc z)) (text_is y x is) h.0
        go false is f more = more f

    default_stands : (at : ℕ) (s : Scope) (xs : List (List ℕ)) (d : Option (List ℕ × List Expr)) → AllByRecursion (IsActionName pt.actions) (map (full_name sc) xs) → IsFine (default_tests at s xs d) → IsActionName pt.actions (default_under sc pt.actions d).action
    default_stands at s xs None h f = none_stands pt.actions none
    default_stands at s xs (Some d) h f = among_stands xs d.0 h (twice_not _ f.0)

  locals_stand : (h : Part) (ls : List Local) (s : Scope) (sc : meaning.Scope) → meaning.is_among sc.own (codes "NoAction") ≡ false → LocalsPlaces (IsTied pt) s sc ls → IsFine (locals_tests h s ls) → AllByRecursion (NamesActions pt.actions) (tables_in sc pt.actions ls)
  locals_stand h [] s sc own g f = tt
  locals_stand h (local_action p a ∷ ls) s sc own g f = locals_stand h ls (after_local s (local_action p a)) sc own g.1 f.1
  locals_stand h (local_table p t ∷ ls) s sc own g f =
      let list = list_stands sc own t.at s g.0 t.actions f.0.1.1.1.1.1.0 in
      ((default_stands sc own t.at s t.actions t.default list f.0.1.1.1.1.1.1, list), locals_stand h ls (after_local s (local_table p t)) sc own g.1 f.1)
  locals_stand h (local_register p r ∷ ls) s sc own g f = locals_stand h ls (after_local s (local_register p r)) sc own g.1 f.1
  locals_stand h (local_const p t x e ∷ ls) s sc own g f = locals_stand h ls (after_local s (local_const p t x e)) (behind_local sc (local_const p t x e)) own g.1 f.1
  locals_stand h (local_var p t x e ∷ ls) s sc own g f = locals_stand h ls (after_local s (local_var p t x e)) sc own g.1 f.1

  both_lists : (xs ys : List Table) → AllByRecursion (NamesActions pt.actions) xs → AllByRecursion (NamesActions pt.actions) ys → AllByRecursion (NamesActions pt.actions) (xs ++ ys)
  both_lists [] ys a b = b
  both_lists (x ∷ xs) ys a b = (a.0, both_lists xs ys a.1 b)

  ways_keep : (qs : List Param) (s : Scope) → KeepsCore s → IsFine (ways_tests s qs) → KeepsCore (with_ways s qs)
  ways_keep [] s k f = k
  ways_keep (q ∷ qs) s k f = ways_keep qs (declare s q.name (value (way_access q.way) q.ty)) (declare_keeps s k q.name (value (way_access q.way) q.ty) (twice_not _ f.0.0)) f.1

  tops_stand : (main : List (List ℕ)) (ts : List Top) (s : Scope) (sc : meaning.Scope) → KeepsCore s → TopsPlaces (IsTied pt) s sc ts → IsFine (tops_tests main s ts) → AllByRecursion (NamesActions pt.actions) (tables_of sc pt.actions ts)
  tops_stand main [] s sc k g f = tt
  tops_stand main (constant p t x e ∷ ts) s sc k g f = tops_stand main ts (after_top s (constant p t x e)) (behind_top sc (constant p t x e)) (declare_keeps s k x (value Constant t) (twice_not _ f.0.0)) g.1 f.1
  tops_stand main (typedef p t x ∷ ts) s sc k g f = tops_stand main ts (after_top s (typedef p t x)) (behind_top sc (typedef p t x)) (declare_keeps s k x (alias t) (twice_not _ f.0.0)) g.1 f.1
  tops_stand main (header_type p x fs ∷ ts) s sc k g f = tops_stand main ts (after_top s (header_type p x fs)) sc (declare_keeps s k x (fields (Header _) fs) (twice_not _ f.0.0)) g.1 f.1
  tops_stand main (struct_type p x fs ∷ ts) s sc k g f = tops_stand main ts (after_top s (struct_type p x fs)) sc (declare_keeps s k x (fields Struct fs) (twice_not _ f.0.0)) g.1 f.1
  tops_stand main (register p r ∷ ts) s sc k g f = tops_stand main ts (after_top s (register p r)) sc (declare_keeps s k r.name (scope.register r.ty) (twice_not _ f.0.0)) g.1 f.1
  tops_stand main (parser p d ∷ ts) s sc k g f = tops_stand main ts (after_top s (parser p d)) sc (declare_keeps s k d.name part (twice_not _ f.0.0)) g.1 f.1
  tops_stand main (control p c ∷ ts) s sc k g f =
      let keeps = ways_keep c.params s k f.0.1.0 in
      let new = own_new (own_names c.locals) (with_ways s c.params) keeps (own_missing (part_in main c.name) c.locals (with_ways s c.params) f.0.1.1.0) in
      both_lists (tables_in (in_control 0 1 2 sc c) pt.actions c.locals) (tables_of sc pt.actions ts)
      (locals_stand (part_in main c.name) c.locals (with_ways s c.params) (in_control 0 1 2 sc c) (new.apart (codes "NoAction") refl) (g.0.1 0 1 2) f.0.1.1.0)
      (tops_stand main ts (after_top s (control p c)) sc (declare_keeps s k c.name part (twice_not _ f.0.0)) g.1 f.1)

pub tables_name_actions : (p : Program) → IsWellTyped p → HavePlainNames p.tops → TablesNameActions (parts_of p)
tables_name_actions p well plain = tops_stand (parts_of p) (none_named p.tops no_scope (codes "NoAction") refl plain) p.main p.tops core no_scope core_keeps (each_tied p well plain) (typed_fine p well).0
