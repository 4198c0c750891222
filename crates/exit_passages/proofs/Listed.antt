-- Tables that run actions of their lists, or the default that is written, run actions of their lists or none of the program.
use Rattle.std.proofs.Common.{codes, ◌≡◌, ℕ, List, [], ◌∷◌, ◌++◌, map, Bool, true, false, ◌||◌, cond, Option, Some, None, is_none, refl, sym, ap, subst}
use Rattle.std.specs.List.{AllByRecursion, list_any}
use Rattle.lex_text.specs.Names.{same_text}
use Rattle.rule_tests.specs.Tests.{IsFine}
use Rattle.rule_tests.proofs.FirstBroken.{unbroken_fine}
use Rattle.p4_tree.specs.Tree.{Local, local_action, local_table, local_register, local_const, local_var, Top, constant, typedef, header_type, struct_type, register, parser, control, Program, Expr}
use Rattle.p4_meaning.specs.Choice.{Entry}
use Rattle.p4_meaning.specs.Scope as meaning
use Rattle.p4_meaning.specs.Scope.{is_among, full_name}
use Rattle.p4_meaning.specs.Under.{no_scope, behind_top, behind_local, in_control}
use Rattle.p4_meaning.specs.Actions.{Action, action_named}
use Rattle.p4_meaning.specs.Tables.{Table, Entries, Tables, table_named, tables_in, tables_of, default_under}
use Rattle.p4_meaning.specs.Parts.{parts_of}
use Rattle.p4_meaning.specs.Laws.{RunsListed, AreListed}
use Rattle.p4_parser_states.specs.Cycles as cycles
use Rattle.p4_scopes.specs.Scopes.{Scope, core}
use Rattle.p4_statement_rules.specs.declared.rule.Part.{Part}
use Rattle.p4_declaration_rules.specs.Tables.{default_tests}
use Rattle.p4_declaration_rules.specs.Parsers.{with_ways}
use Rattle.p4_declaration_rules.specs.Controls.{after_local, locals_tests, part_in, after_top, tops_tests}
use Rattle.p4_rules.specs.ProgramRules.{program_tests, IsWellTyped}
use Rattle.p4_typing_laws.specs.Plain.{HavePlainNames}
use Rattle.p4_typing_laws.proofs.Fine.{twice_not}
use Rattle.p4_typing_laws.proofs.FullNames.{none_named}
use Rattle.exit_statements.specs.Actions.{IsListed, RunListed}
use Rattle.exit_statements.specs.Actions as exits
use Rattle.exit_statements.proofs.Values.{text_decides}
use Rattle.exit_programs.specs.Owned.{all_actions, all_tables}

-- the default that is written is of the list, or no action of the program
abbrev pub HasDefault : List Action → Table → Type 0
HasDefault as' t = IsListed as' t t.default.action

flip : (x y : List ℕ) → same_text x y ≡ true → same_text y x ≡ true
flip x y e = (text_decides y x).1 (sym ((text_decides x y).0 e))

or_left : (a b : Bool) → a ≡ true → (a || b) ≡ true
or_left true b e = refl
or_left false b e = absurd (cc e)

or_right : (a b : Bool) → b ≡ true → (a || b) ≡ true
or_right true b e = refl
or_right false b e = e

mapped : (sc : meaning.Scope) (xs : List (List ℕ)) (x : List ℕ) → cycles.is_among xs x ≡ true → list_any (same_text (full_name sc x)) (map (full_name sc) xs) ≡ true
mapped sc [] x e = absurd (cc e)
mapped sc (y ∷ ys) x e = go (same_text y x) refl e (mapped sc ys x)
  where
    go : (b : Bool) → same_text y x ≡ b → (b || cycles.is_among ys x) ≡ true → (cycles.is_among ys x ≡ true → list_any (same_text (full_name sc x)) (map (full_name sc) ys) ≡ true)
        → (same_text (full_name sc x) (full_name sc y) || list_any (same_text (full_name sc x)) (map (full_name sc) ys)) ≡ true
    go true is f more = or_left _ _ ((text_decides (full_name sc x) (full_name sc y)).1 (ap (full_name sc) (sym ((text_decides y x).0 is))))
    go false is f more = or_right _ _ (more f)

module _ (as' : List Action) (none : action_named as' (codes "NoAction") ≡ None) where
  written : (p : ℕ) (s : Scope) (sc : meaning.Scope) (xs : List (List ℕ)) (d : Option (List ℕ × List Expr)) → IsFine (default_tests p s xs d)
      → (list_any (same_text (default_under sc as' d).action) (map (full_name sc) xs) || is_none (action_named as' (default_under sc as' d).action)) ≡ true
  written p s sc xs None f = or_right (list_any (same_text (codes "NoAction")) (map (full_name sc) xs)) _ (ap is_none none)
  written p s sc xs (Some d) f = or_left _ _ (mapped sc xs d.0 (twice_not _ f.0))

  in_locals : (h : Part) (ls : List Local) (s : Scope) (sc : meaning.Scope) → IsFine (locals_tests h s ls) → AllByRecursion (HasDefault as') (tables_in sc as' ls)
  in_locals h [] s sc f = tt
  in_locals h (local_action p a ∷ ls) s sc f = in_locals h ls (after_local s (local_action p a)) sc f.1
  in_locals h (local_table p t ∷ ls) s sc f = (written t.at s sc t.actions t.default f.0.1.1.1.1.1.1, in_locals h ls (after_local s (local_table p t)) sc f.1)
  in_locals h (local_register p r ∷ ls) s sc f = in_locals h ls (after_local s (local_register p r)) sc f.1
  in_locals h (local_const p t x e ∷ ls) s sc f = in_locals h ls (after_local s (local_const p t x e)) (behind_local sc (local_const p t x e)) f.1
  in_locals h (local_var p t x e ∷ ls) s sc f = in_locals h ls (after_local s (local_var p t x e)) sc f.1

  both_lists : (xs ys : List Table) → AllByRecursion (HasDefault as') xs → AllByRecursion (HasDefault as') ys → AllByRecursion (HasDefault as') (xs ++ ys)
  both_lists [] ys a b = b
  both_lists (x ∷ xs) ys a b = (a.0, both_lists xs ys a.1 b)

  in_tops : (main : List (List ℕ)) (ts : List Top) (s : Scope) (sc : meaning.Scope) → IsFine (tops_tests main s ts) → AllByRecursion (HasDefault as') (tables_of sc as' ts)
  in_tops main [] s sc f = tt
  in_tops main (constant p t x e ∷ ts) s sc f = in_tops main ts (after_top s (constant p t x e)) (behind_top sc (constant p t x e)) f.1
  in_tops main (typedef p t x ∷ ts) s sc f = in_tops main ts (after_top s (typedef p t x)) (behind_top sc (typedef p t x)) f.1
  in_tops main (header_type p x fs ∷ ts) s sc f = in_tops main ts (after_top s (header_type p x fs)) sc f.1
  in_tops main (struct_type p x fs ∷ ts) s sc f = in_tops main ts (after_top s (struct_type p x fs)) sc f.1
  in_tops main (register p r ∷ ts) s sc f = in_tops main ts (after_top s (register p r)) sc f.1
  in_tops main (parser p d ∷ ts) s sc f = in_tops main ts (after_top s (parser p d)) sc f.1
  in_tops main (control p c ∷ ts) s sc f =
      both_lists (tables_in (in_control 0 1 2 sc c) as' c.locals) (tables_of sc as' ts) (in_locals (part_in main c.name) c.locals (with_ways s c.params) (in_control 0 1 2 sc c) f.0.1.1.0)
      (in_tops main ts (after_top s (control p c)) sc f.1)

  -- what holds of all holds of the one that is found
  one_of : (ts : List Table) (x : List ℕ) (t : Table) → AllByRecursion (HasDefault as') ts → table_named ts x ≡ Some t → HasDefault as' t
  one_of [] x t a e = absurd (cc e)
  one_of (u ∷ us) x t a e = go (same_text u.name x) (one_of us x t a.1) e
    where
      go : (b : Bool) → (table_named us x ≡ Some t → HasDefault as' t) → cond b (Some u) (table_named us x) ≡ Some t → HasDefault as' t
      go true more f = (let same : u ≡ t = cc f in subst (HasDefault as') same a.0)
      go false more f = more f

  -- ---- what tables run

  listed_there : (xs : List (List ℕ)) (y : List ℕ) → is_among xs y ≡ true → list_any (same_text y) xs ≡ true
  listed_there [] y e = absurd (cc e)
  listed_there (x ∷ xs) y e = go (same_text x y) refl e (listed_there xs y)
    where
      go : (b : Bool) → same_text x y ≡ b → (b || is_among xs y) ≡ true → (is_among xs y ≡ true → list_any (same_text y) xs ≡ true) → (same_text y x || list_any (same_text y) xs) ≡ true
      go true is f more = or_left _ _ (flip x y is)
      go false is f more = or_right _ _ (more f)

  is_listed : (t : Table) → HasDefault as' t → (y : List ℕ) → is_among (t.default.action ∷ t.actions) y ≡ true → IsListed as' t y
  is_listed t d y e = go (same_text t.default.action y) refl e
    where
      go : (b : Bool) → same_text t.default.action y ≡ b → (b || is_among t.actions y) ≡ true → IsListed as' t y
      go true is f = subst (IsListed as' t) ((text_decides t.default.action y).0 is) d
      go false is f = or_left _ _ (listed_there t.actions y f)

  all_listed : (t : Table) → HasDefault as' t → (es : List Entry) → AllByRecursion (λ e. is_among (t.default.action ∷ t.actions) e.action ≡ true) es → AllByRecursion (λ e. IsListed as' t e.action) es
  all_listed t d [] h = tt
  all_listed t d (e ∷ es) h = (is_listed t d e.action h.0, all_listed t d es h.1)

  runs : (t : Table) → HasDefault as' t → (o : Option Table) → o ≡ Some t → (h : Entries) → RunsListed o h → exits.AreListed as' t h
  runs t d None e h r = absurd (cc e)
  runs t d (Some u) e h r =
      let same : u ≡ t = cc e in
      let k = subst (λ (v : Table). RunsListed (Some v) h) same r in
      record { entries = all_listed t d h.listed k.0; default = is_listed t d h.default.action k.1 }

pub run_listed : (p : Program) → IsWellTyped p → HavePlainNames p.tops → (held : Tables) → AreListed (parts_of p) held → RunListed (all_actions p) (all_tables p) held
run_listed p w plain held listed x t e =
    let none = none_named p.tops no_scope (codes "NoAction") refl plain in
    let has = in_tops (all_actions p) none p.main p.tops core no_scope (unbroken_fine (program_tests p) w).0 in
    runs (all_actions p) none t (one_of (all_actions p) none (all_tables p) x t has e) (table_named (all_tables p) x) e (held x) (listed x)
