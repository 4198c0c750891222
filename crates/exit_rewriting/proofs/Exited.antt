-- What may exit by the tables is what may exit by the definitions.
use Rattle.std.proofs.Common.{◌≡◌, ℕ, Bool, true, false, ◌||◌, cond, List, [], ◌∷◌, ◌++◌, map, Option, Some, None, refl, sym, ap, ap₂, subst, ◌∙◌}
use Rattle.std.specs.List.{list_any}
use Rattle.std.specs.Option.{option_or}
use Rattle.std.proofs.lemmas.Slice.Eq.{bytes_eq-Decides}
use Rattle.lex_text.specs.Names.{same_text}
use Rattle.p4_tree.specs.Tree.{Stmt, Stmts, MaybeStmt, nothing, block, var, assign, choice, return_, exit_, call, done, next, without, otherwise, Local, local_action, local_table, local_register, local_const, local_var, Control, Top, constant, typedef, header_type, struct_type, register, parser, control, Program}
use Rattle.p4_meaning.specs.Scope.{Scope, is_among, full, full_name, own_names}
use Rattle.p4_meaning.specs.Under.{no_scope, in_control, behind_local, behind_top, stmt_under, stmts_under, else_under}
use Rattle.p4_meaning.specs.Actions.{Action, actions_in, actions_of, action_named, action_under, in_action}
use Rattle.p4_meaning.specs.Tables.{Table, tables_in, tables_of, table_named, table_under}
use Rattle.exit_statements.specs.Without.{Exits, no_exits}
use Rattle.exit_statements.specs.Actions.{stmt_exits, else_exits, stmts_exit, action_exits, table_exits}
use Rattle.exit_programs.specs.Programs.{name_in, exits_in, exits_at}
use Rattle.exit_rewriting.specs.Marks.{first_mark, or_false, is_marked, AreMarks, from_each}
use Rattle.exit_rewriting.specs.Exiting.{own_marks, name_at, action_marks, table_marks, control_action_marks, control_table_marks, all_action_marks, all_table_marks, exits_from, exits_by}
use Rattle.exit_rewriting.specs.Groups.{fulled, is_marked_in, AreGroups}
use Rattle.exit_rewriting.specs.declared.groups.Groups.{Groups}
use Rattle.exit_rewriting.specs.declared.place.Place.{Place}
use Rattle.exit_rewriting.specs.declared.exits.Exiting.{Exiting}
use Rattle.exit_rewriting.proofs.Marking.{first_both}

alike : {A B : Type 0} {f g : A → B} → ((x : A) → f x ≡ g x) → f ≡ g
alike h = λ i x. h x i

-- ---- names

among : (ls : List Local) (x : List ℕ) → or_false (first_mark (from_each own_marks ls) x) ≡ is_among (own_names ls) x
among [] x = refl
among (local_action p a ∷ ls) x = more (same_text a.name x) (among ls x)
  where
    more : (b : Bool) → or_false (first_mark (from_each own_marks ls) x) ≡ is_among (own_names ls) x → or_false (cond b (Some true) (first_mark (from_each own_marks ls) x)) ≡ (b || is_among (own_names ls) x)
    more true h = refl
    more false h = h
among (local_table p a ∷ ls) x = more (same_text a.name x) (among ls x)
  where
    more : (b : Bool) → or_false (first_mark (from_each own_marks ls) x) ≡ is_among (own_names ls) x → or_false (cond b (Some true) (first_mark (from_each own_marks ls) x)) ≡ (b || is_among (own_names ls) x)
    more true h = refl
    more false h = h
among (local_register p a ∷ ls) x = more (same_text a.name x) (among ls x)
  where
    more : (b : Bool) → or_false (first_mark (from_each own_marks ls) x) ≡ is_among (own_names ls) x → or_false (cond b (Some true) (first_mark (from_each own_marks ls) x)) ≡ (b || is_among (own_names ls) x)
    more true h = refl
    more false h = h
among (local_const p ty y e ∷ ls) x = among ls x
among (local_var p ty y e ∷ ls) x = among ls x

-- the names at a place are those in the control
pub names_at : (p : Place) (c : Control) → AreMarks p.own (from_each own_marks c.locals) → p.control ≡ c.name → name_at p ≡ name_in c
names_at p c own name = alike (λ x.
    ap (λ (y : List ℕ). cond (is_marked p.own x) (full y x) x) name
    ∙ ap (λ (b : Bool). cond b (full c.name x) x) (ap or_false (own x) ∙ among c.locals x))

-- ---- actions

mutual
  stmt_same : (sc : Scope) (s : Stmt) → stmt_exits (stmt_under sc s) ≡ stmt_exits s
  stmt_same sc (nothing p) = refl
  stmt_same sc (block p ss) = stmts_same sc ss
  stmt_same sc (var p ty x e) = refl
  stmt_same sc (assign p target e) = refl
  stmt_same sc (choice p e s t) = ap₂ (λ (a b : Bool). a || b) (stmt_same sc s) (else_same sc t)
  stmt_same sc (return_ p) = refl
  stmt_same sc (exit_ p) = refl
  stmt_same sc (call p callee args) = refl

  else_same : (sc : Scope) (s : MaybeStmt) → else_exits (else_under sc s) ≡ else_exits s
  else_same sc without = refl
  else_same sc (otherwise s) = stmt_same sc s

  stmts_same : (sc : Scope) (ss : Stmts) → stmts_exit (stmts_under sc ss) ≡ stmts_exit ss
  stmts_same sc done = refl
  stmts_same sc (next s ss) = ap₂ (λ (a b : Bool). a || b) (stmt_same sc s) (stmts_same sc ss)

-- in a control
record IsIn (sc : Scope) (c : Control) : Type 0 where
  own : sc.own ≡ own_names c.locals
  control : sc.control ≡ c.name

names_full : (sc : Scope) (c : Control) → IsIn sc c → full_name sc ≡ name_in c
names_full sc c so = alike (λ x. ap₂ (λ (own : List (List ℕ)) (y : List ℕ). cond (is_among own x) (full y x) x) so.own so.control)

abbrev found : Option Action → Option Bool
found None = None
found (Some a) = Some (stmts_exit a.body)

found_exits : (o : Option Action) → or_false (found o) ≡ action_exits o
found_exits None = refl
found_exits (Some a) = refl

action_both : (as' bs : List Action) (x : List ℕ) → found (action_named (as' ++ bs) x) ≡ option_or (found (action_named as' x)) (found (action_named bs x))
action_both [] bs x = refl
action_both (a ∷ as') bs x = step (same_text a.name x) (action_both as' bs x)
  where
    step : (b : Bool) → found (action_named (as' ++ bs) x) ≡ option_or (found (action_named as' x)) (found (action_named bs x))
        → found (cond b (Some a) (action_named (as' ++ bs) x)) ≡ option_or (found (cond b (Some a) (action_named as' x))) (found (action_named bs x))
    step true h = refl
    step false h = h

-- what is declared from here on is declared in the control
abbrev Within : List Local → Control → Type 0
Within ls c = (x : List ℕ) → is_among (own_names ls) x ≡ true → is_among (own_names c.locals) x ≡ true

or_right : (a b : Bool) → b ≡ true → (a || b) ≡ true
or_right true b h = refl
or_right false b h = h

behind_name : (y : List ℕ) (ls : List Local) (c : Control) → ((x : List ℕ) → (same_text y x || is_among (own_names ls) x) ≡ true → is_among (own_names c.locals) x ≡ true) → Within ls c
behind_name y ls c within x h = within x (or_right (same_text y x) (is_among (own_names ls) x) h)

-- the name of what a control declares is its full name
name_full : (sc : Scope) (c : Control) → IsIn sc c → (y : List ℕ) (ls : List Local) → ((x : List ℕ) → (same_text y x || is_among (own_names ls) x) ≡ true → is_among (own_names c.locals) x ≡ true) → full c.name y ≡ full_name sc y
name_full sc c so y ls within =
    let here : same_text y y ≡ true = (bytes_eq-Decides y y).1 refl in
    let own : is_among (own_names c.locals) y ≡ true = within y (ap (λ (b : Bool). b || is_among (own_names ls) y) here) in
    sym (ap (λ (f : List ℕ → List ℕ). f y) (names_full sc c so) ∙ ap (λ (b : Bool). cond b (full c.name y) y) own)

local_actions : (sc : Scope) (c : Control) → IsIn sc c → (ls : List Local) → Within ls c → (x : List ℕ) → first_mark (map (fulled c.name) (from_each action_marks ls)) x ≡ found (action_named (actions_in sc ls) x)
local_actions sc c so [] within x = refl
local_actions sc c so (local_action p a ∷ ls) within x =
    ap₂ (λ (y : List ℕ) (b : Bool). cond (same_text y x) (Some b) (first_mark (map (fulled c.name) (from_each action_marks ls)) x))
    (name_full sc c so a.name ls within) (sym (stmts_same (in_action sc a) a.body))
    ∙ step (same_text (full_name sc a.name) x) (local_actions sc c so ls (behind_name a.name ls c within) x)
  where
    step : (b : Bool) → first_mark (map (fulled c.name) (from_each action_marks ls)) x ≡ found (action_named (actions_in sc ls) x)
        → cond b (Some (stmts_exit (action_under sc a).body)) (first_mark (map (fulled c.name) (from_each action_marks ls)) x) ≡ found (cond b (Some (action_under sc a)) (action_named (actions_in sc ls) x))
    step true h = refl
    step false h = h
local_actions sc c so (local_table p t ∷ ls) within x = local_actions sc c so ls (behind_name t.name ls c within) x
local_actions sc c so (local_register p r ∷ ls) within x = local_actions sc c so ls (behind_name r.name ls c within) x
local_actions sc c so (local_const p ty y e ∷ ls) within x = local_actions (behind_local sc (local_const p ty y e)) c (record { own = so.own; control = so.control }) ls within x
local_actions sc c so (local_var p ty y e ∷ ls) within x = local_actions sc c so ls within x

actions_found : (sc : Scope) (ts : List Top) (x : List ℕ) → first_mark (from_each all_action_marks ts) x ≡ found (action_named (actions_of sc ts) x)
actions_found sc [] x = refl
actions_found sc (constant p ty y e ∷ ts) x = actions_found (behind_top sc (constant p ty y e)) ts x
actions_found sc (typedef p ty y ∷ ts) x = actions_found (behind_top sc (typedef p ty y)) ts x
actions_found sc (header_type p y fs ∷ ts) x = actions_found sc ts x
actions_found sc (struct_type p y fs ∷ ts) x = actions_found sc ts x
actions_found sc (register p r ∷ ts) x = actions_found sc ts x
actions_found sc (parser p d ∷ ts) x = actions_found sc ts x
actions_found sc (control p c ∷ ts) x =
    first_both (control_action_marks c) (from_each all_action_marks ts) x
    ∙ ap₂ option_or (local_actions (in_control 0 1 2 sc c) c (record { own = refl; control = refl }) c.locals (λ y h. h) x) (actions_found sc ts x)
    ∙ sym (action_both (actions_in (in_control 0 1 2 sc c) c.locals) (actions_of sc ts) x)

pub actions_same : (m : Groups) (ts : List Top) → AreGroups m (from_each all_action_marks ts) → is_marked_in m ≡ (λ x. action_exits (action_named (actions_of no_scope ts) x))
actions_same m ts so = alike (λ x. ap or_false (so x ∙ actions_found no_scope ts x) ∙ found_exits (action_named (actions_of no_scope ts) x))

-- ---- tables

any_map : (g : List ℕ → Bool) (f : List ℕ → List ℕ) (xs : List (List ℕ)) → list_any (λ x. g (f x)) xs ≡ list_any g (map f xs)
any_map g f [] = refl
any_map g f (x ∷ xs) = ap (λ (b : Bool). g (f x) || b) (any_map g f xs)

module _ (as' : List Action) where
  abbrev exits : List ℕ → Bool
  exits x = action_exits (action_named as' x)

  abbrev found_table : Option Table → Option Bool
  found_table None = None
  found_table (Some t) = Some (list_any exits t.actions)

  found_table_exits : (o : Option Table) → or_false (found_table o) ≡ table_exits as' o
  found_table_exits None = refl
  found_table_exits (Some t) = refl

  table_both : (ts us : List Table) (x : List ℕ) → found_table (table_named (ts ++ us) x) ≡ option_or (found_table (table_named ts x)) (found_table (table_named us x))
  table_both [] us x = refl
  table_both (t ∷ ts) us x = step (same_text t.name x) (table_both ts us x)
    where
      step : (b : Bool) → found_table (table_named (ts ++ us) x) ≡ option_or (found_table (table_named ts x)) (found_table (table_named us x))
          → found_table (cond b (Some t) (table_named (ts ++ us) x)) ≡ option_or (found_table (cond b (Some t) (table_named ts x))) (found_table (table_named us x))
      step true h = refl
      step false h = h

  local_tables : (sc : Scope) (c : Control) → IsIn sc c → (ls : List Local) → Within ls c → (x : List ℕ) → first_mark (map (fulled c.name) (from_each (table_marks exits (name_in c)) ls)) x ≡ found_table (table_named (tables_in sc as' ls) x)
  local_tables sc c so [] within x = refl
  local_tables sc c so (local_action p a ∷ ls) within x = local_tables sc c so ls (behind_name a.name ls c within) x
  local_tables sc c so (local_table p t ∷ ls) within x =
      ap₂ (λ (y : List ℕ) (f : List ℕ → List ℕ). cond (same_text y x) (Some (list_any (λ z. exits (f z)) t.actions)) (first_mark (map (fulled c.name) (from_each (table_marks exits (name_in c)) ls)) x))
      (name_full sc c so t.name ls within) (sym (names_full sc c so))
      ∙ ap (λ (b : Bool). cond (same_text (full_name sc t.name) x) (Some b) (first_mark (map (fulled c.name) (from_each (table_marks exits (name_in c)) ls)) x)) (any_map exits (full_name sc) t.actions)
      ∙ step (same_text (full_name sc t.name) x) (local_tables sc c so ls (behind_name t.name ls c within) x)
    where
      step : (b : Bool) → first_mark (map (fulled c.name) (from_each (table_marks exits (name_in c)) ls)) x ≡ found_table (table_named (tables_in sc as' ls) x)
          → cond b (Some (list_any exits (map (full_name sc) t.actions))) (first_mark (map (fulled c.name) (from_each (table_marks exits (name_in c)) ls)) x) ≡ found_table (cond b (Some (table_under sc as' t)) (table_named (tables_in sc as' ls) x))
      step true h = refl
      step false h = h
  local_tables sc c so (local_register p r ∷ ls) within x = local_tables sc c so ls (behind_name r.name ls c within) x
  local_tables sc c so (local_const p ty y e ∷ ls) within x = local_tables (behind_local sc (local_const p ty y e)) c (record { own = so.own; control = so.control }) ls within x
  local_tables sc c so (local_var p ty y e ∷ ls) within x = local_tables sc c so ls within x

  tables_found : (sc : Scope) (ts : List Top) (x : List ℕ) → first_mark (from_each (all_table_marks exits) ts) x ≡ found_table (table_named (tables_of sc as' ts) x)
  tables_found sc [] x = refl
  tables_found sc (constant p ty y e ∷ ts) x = tables_found (behind_top sc (constant p ty y e)) ts x
  tables_found sc (typedef p ty y ∷ ts) x = tables_found (behind_top sc (typedef p ty y)) ts x
  tables_found sc (header_type p y fs ∷ ts) x = tables_found sc ts x
  tables_found sc (struct_type p y fs ∷ ts) x = tables_found sc ts x
  tables_found sc (register p r ∷ ts) x = tables_found sc ts x
  tables_found sc (parser p d ∷ ts) x = tables_found sc ts x
  tables_found sc (control p c ∷ ts) x =
      first_both (control_table_marks exits c) (from_each (all_table_marks exits) ts) x
      ∙ ap₂ option_or (local_tables (in_control 0 1 2 sc c) c (record { own = refl; control = refl }) c.locals (λ y h. h) x) (tables_found sc ts x)
      ∙ sym (table_both (tables_in (in_control 0 1 2 sc c) as' c.locals) (tables_of sc as' ts) x)

pub exits_same : (e : Exiting) (p : Program) → AreGroups e.actions (from_each all_action_marks p.tops) → AreGroups e.tables (from_each (all_table_marks (is_marked_in e.actions)) p.tops) → exits_from e ≡ exits_in p
exits_same e p actions tables =
    let as' = actions_of no_scope p.tops in
    let first : is_marked_in e.actions ≡ exits as' = actions_same e.actions p.tops actions in
    let P : (List ℕ → Bool) → Type 0 = λ f. AreGroups e.tables (from_each (all_table_marks f) p.tops) in
    let these : AreGroups e.tables (from_each (all_table_marks (exits as')) p.tops) = subst P first tables in
    ap₂ (λ (f g : List ℕ → Bool). record { action = f; table = g }) first
    (alike (λ x. ap or_false (these x ∙ tables_found as' no_scope p.tops x) ∙ found_table_exits as' (table_named (tables_of no_scope as' p.tops) x)))

-- ---- at a place

pub none_at : (e : Exiting) (p : Place) → exits_from e ≡ no_exits → exits_by e p ≡ no_exits
none_at e p h = ap (λ (m : Exits). record { action = λ x. m.action (name_at p x); table = λ t. m.table (name_at p t) }) h

pub exits_in_control : (e : Exiting) (p : Place) (c : Control) → name_at p ≡ name_in c → exits_by e p ≡ exits_at (exits_from e) c
exits_in_control e p c h = ap (λ (f : List ℕ → List ℕ). record { action = λ x. is_marked_in e.actions (f x); table = λ t. is_marked_in e.tables (f t) }) h
