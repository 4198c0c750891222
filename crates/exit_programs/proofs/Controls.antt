-- A control without exits, and what of it runs.
use Rattle.std.proofs.Common.{codes, ◌≡◌, ℕ, List, [], ◌∷◌, ◌++◌, map, Bool, true, false, ◌||◌, cond, Option, Some, None, refl, sym, ap, ap₂, ◌∙◌}
use Rattle.std.specs.Option.{option_map}
use Rattle.lex_text.specs.Names.{same_text}
use Rattle.bit_values.specs.Bits.{Word}
use Rattle.p4_tree.specs.Tree as tree
use Rattle.p4_tree.specs.Tree.{Expr, flag, Stmts, var, done, next, Local, local_action, local_table, local_register, local_const, local_var, Control}
use Rattle.p4_tree.specs.declared.statement.PTy.{PTy}
use Rattle.p4_meaning.specs.Store.{blank}
use Rattle.p4_meaning.specs.Scope.{Scope, Inner, is_among, full, full_name, first_name, root_of, is_inner, inner_name, constant_named, own_names}
use Rattle.p4_meaning.specs.Under.{no_scope, with_constant, with_type, in_control, behind_local, behind_locals, settings_under, expr_under, stmt_under, stmts_under}
use Rattle.p4_meaning.specs.Actions.{Param, Action, action_named, params_of, args_of, actions_in}
use Rattle.p4_meaning.specs.Tables.{Table, Chosen, default_under, table_under, tables_in}
use Rattle.p4_meaning.specs.Parts.{Cells, Body, cells_under, registers_in, body_of}
use Rattle.p4_rule_laws.specs.OldPrograms.{OldLocal, OldLocals, OldControl}
use Rattle.exit_statements.specs.Without as without
use Rattle.exit_statements.specs.Without.{Flags, Exits, stmts_without}
use Rattle.exit_statements.specs.Actions as of
use Rattle.exit_statements.specs.Actions.{lowered}
use Rattle.exit_statements.specs.Controls.{with_flag as written_flag}
use Rattle.exit_statements.specs.Written.{is_function, flags_under, exits_written, ShowsFlags}
use Rattle.exit_statements.specs.WrittenActions.{returned_in, HasNoFlag}
use Rattle.exit_statements.proofs.Written.{names_agree}
use Rattle.exit_statements.proofs.WrittenActions.{actions_agree}
use Rattle.exit_statements.proofs.Values.{text_decides}
use Rattle.p4_typing_laws.specs.Plain.{has_point}
use Rattle.p4_typing_laws.proofs.FullNames.{full_has}
use Rattle.exit_programs.specs.Programs.{flags, name_in, exits_at, local_without, control_leaves, with_flag, control_without}
use Rattle.exit_programs.specs.Names.{is_given}
use Rattle.exit_programs.proofs.Given.{other_way, root_same, avoid_stmts, params_off, inner_off}

-- an action whose names stand for what they name
abbrev pub bare : Action → Action
bare = of.action_without flags.left (returned_in flags)

pub map_both : (f : Action → Action) (xs ys : List Action) → map f (xs ++ ys) ≡ map f xs ++ map f ys
map_both f [] ys = refl
map_both f (x ∷ xs) ys = ap (λ (zs : List Action). f x ∷ zs) (map_both f xs ys)

-- ---- names that are declared

own_mapped : (ls : List Local) → own_names (map local_without ls) ≡ own_names ls
own_mapped [] = refl
own_mapped (local_action p a ∷ ls) = ap (λ (xs : List (List ℕ)). a.name ∷ xs) (own_mapped ls)
own_mapped (local_table p t ∷ ls) = ap (λ (xs : List (List ℕ)). t.name ∷ xs) (own_mapped ls)
own_mapped (local_register p r ∷ ls) = ap (λ (xs : List (List ℕ)). r.name ∷ xs) (own_mapped ls)
own_mapped (local_const p ty x e ∷ ls) = own_mapped ls
own_mapped (local_var p ty x e ∷ ls) = own_mapped ls

own_flag : (b : Bool) (ls : List Local) → own_names (with_flag b ls) ≡ own_names ls
own_flag true ls = refl
own_flag false ls = refl

pub own_same : (b : Bool) (ls : List Local) → own_names (with_flag b (map local_without ls)) ≡ own_names ls
own_same b ls = own_flag b (map local_without ls) ∙ own_mapped ls

pub scope_same : (h m s : ℕ) (sc : Scope) (e : Exits) (c : Control) → in_control h m s sc (control_without e c) ≡ in_control h m s sc c
scope_same h m s sc e c = ap (λ (xs : List (List ℕ)). record (in_control h m s sc c) { own = xs }) (own_same (control_leaves e c) c.locals)

-- ---- what has no exits

behind_mapped : (ls : List Local) (sc : Scope) → behind_locals sc (map local_without ls) ≡ behind_locals sc ls
behind_mapped [] sc = refl
behind_mapped (local_action p a ∷ ls) sc = behind_mapped ls sc
behind_mapped (local_table p t ∷ ls) sc = behind_mapped ls sc
behind_mapped (local_register p r ∷ ls) sc = behind_mapped ls sc
behind_mapped (local_const p ty x e ∷ ls) sc = behind_mapped ls (with_constant sc ty x e)
behind_mapped (local_var p ty x e ∷ ls) sc = behind_mapped ls sc

behind_same : (b : Bool) (ls : List Local) (sc : Scope) → behind_locals sc (with_flag b (map local_without ls)) ≡ behind_locals sc ls
behind_same true ls sc = behind_mapped ls sc
behind_same false ls sc = behind_mapped ls sc

registers_mapped : (ls : List Local) (sc : Scope) → registers_in sc (map local_without ls) ≡ registers_in sc ls
registers_mapped [] sc = refl
registers_mapped (local_action p a ∷ ls) sc = registers_mapped ls sc
registers_mapped (local_table p t ∷ ls) sc = registers_mapped ls sc
registers_mapped (local_register p r ∷ ls) sc = ap (λ (xs : List Cells). cells_under sc r ∷ xs) (registers_mapped ls sc)
registers_mapped (local_const p ty x e ∷ ls) sc = registers_mapped ls sc
registers_mapped (local_var p ty x e ∷ ls) sc = registers_mapped ls sc

pub registers_same : (b : Bool) (ls : List Local) (sc : Scope) → registers_in sc (with_flag b (map local_without ls)) ≡ registers_in sc ls
registers_same true ls sc = registers_mapped ls sc
registers_same false ls sc = registers_mapped ls sc

settings_mapped : (ls : List Local) (sc : Scope) → settings_under sc (map local_without ls) ≡ settings_under sc ls
settings_mapped [] sc = refl
settings_mapped (local_action p a ∷ ls) sc = settings_mapped ls sc
settings_mapped (local_table p t ∷ ls) sc = settings_mapped ls sc
settings_mapped (local_register p r ∷ ls) sc = settings_mapped ls sc
settings_mapped (local_const p ty x e ∷ ls) sc = settings_mapped ls (with_constant sc ty x e)
settings_mapped (local_var p ty x e ∷ ls) sc = ap (next (stmt_under sc (var p ty x e))) (settings_mapped ls sc)

-- ---- scopes in which flags stand for themselves

pub record Clear (sc : Scope) : Type 0 where
  pub functions : (x : List ℕ) → is_function (full_name sc x) ≡ is_function x
  pub left : first_name sc flags.left ≡ flags.left
  pub returned : first_name sc flags.returned ≡ flags.returned
  pub outer : sc.inner ≡ None
  pub left_constant : constant_named sc.constants flags.left ≡ None
  pub returned_constant : constant_named sc.constants flags.returned ≡ None

skips : (x y : List ℕ) (w : Word) (cs : List (List ℕ × Word)) → is_given x ≡ true → is_given y ≡ false → constant_named cs y ≡ None → constant_named ((x, w) ∷ cs) y ≡ None
skips x y w cs given kept o = ap (λ (b : Bool). cond b (Some w) (constant_named cs y)) (other_way x y given kept) ∙ o

pub clear_constant : (sc : Scope) (ty : _) (x : List ℕ) (e : _) → is_given x ≡ true → Clear sc → Clear (with_constant sc ty x e)
clear_constant sc ty x e given k =
    record {
      functions = k.functions;
      left = k.left;
      returned = k.returned;
      outer = k.outer;
      left_constant = skips x flags.left _ sc.constants given refl k.left_constant;
      returned_constant = skips x flags.returned _ sc.constants given refl k.returned_constant;
    }

pub clear_type : (sc : Scope) (ty : PTy) (x : List ℕ) → Clear sc → Clear (with_type sc ty x)
clear_type sc ty x k = record { functions = k.functions; left = k.left; returned = k.returned; outer = k.outer; left_constant = k.left_constant; returned_constant = k.returned_constant }

pub first_clear : Clear no_scope
first_clear = record { functions = λ x. refl; left = refl; returned = refl; outer = refl; left_constant = refl; returned_constant = refl }

-- none of a control's names is a function's
abbrev pub NoFunctions : Control → Type 0
NoFunctions c = (x : List ℕ) → is_among (own_names c.locals) x ≡ true → is_function x ≡ false

first_inside : (o : Option Inner) (c x : List ℕ) (r : List ℕ) → o ≡ None → r ≡ x → cond (is_inner o x) (inner_name o c x) r ≡ x
first_inside None c x r e h = h
first_inside (Some i) c x r e h = absurd (cc e)

-- a full name is no function's
full_apart : (around x : List ℕ) → is_function (full around x) ≡ false
full_apart around x = go (same_text (full around x) (codes "mark_to_drop")) (same_text (full around x) (codes "digest")) (same_text (full around x) (codes "verify_checksum")) (same_text (full around x) (codes "update_checksum")) refl refl refl refl
  where
    one : (y : List ℕ) → has_point y ≡ false → same_text (full around x) y ≡ true → true ≡ false
    one y h e = sym (full_has around x) ∙ (ap has_point ((text_decides (full around x) y).0 e) ∙ h)

    go : (a b c d : Bool) → same_text (full around x) (codes "mark_to_drop") ≡ a → same_text (full around x) (codes "digest") ≡ b → same_text (full around x) (codes "verify_checksum") ≡ c → same_text (full around x) (codes "update_checksum") ≡ d → (a || (b || (c || d))) ≡ false
    go true b c d e f g i = one (codes "mark_to_drop") refl e
    go false true c d e f g i = one (codes "digest") refl f
    go false false true d e f g i = one (codes "verify_checksum") refl g
    go false false false true e f g i = one (codes "update_checksum") refl i
    go false false false false e f g i = refl

pub inside_clear : (h m s : ℕ) (sc : Scope) (c : Control) → Clear sc → OldControl is_given c → NoFunctions c → Clear (in_control h m s sc c)
inside_clear h m s sc c k o apart =
    record {
      functions = λ x. functions x (is_among (own_names c.locals) x) refl;
      left = first_inside sc.inner c.name flags.left _ k.outer (root_same c.params h m s flags.left refl o.params);
      returned = first_inside sc.inner c.name flags.returned _ k.outer (root_same c.params h m s flags.returned refl o.params);
      outer = k.outer;
      left_constant = k.left_constant;
      returned_constant = k.returned_constant;
    }
  where
    functions : (x : List ℕ) (b : Bool) → is_among (own_names c.locals) x ≡ b → is_function (cond b (full c.name x) x) ≡ is_function x
    functions x true e = full_apart c.name x ∙ sym (apart x e)
    functions x false e = refl

pub clear_local : (sc : Scope) (l : Local) → OldLocal is_given l → Clear sc → Clear (behind_local sc l)
clear_local sc (local_action p a) o k = k
clear_local sc (local_table p t) o k = k
clear_local sc (local_register p r) o k = k
clear_local sc (local_const p ty x e) o k = clear_constant sc ty x e o.1 k
clear_local sc (local_var p ty x e) o k = k

pub clear_locals : (ls : List Local) (sc : Scope) → OldLocals is_given ls → Clear sc → Clear (behind_locals sc ls)
clear_locals [] sc o k = k
clear_locals (l ∷ ls) sc o k = clear_locals ls (behind_local sc l) o.1 (clear_local sc l o.0 k)

shown_constant : (o : Option Inner) (cs : List (List ℕ × Word)) (x : List ℕ) → o ≡ None → constant_named cs x ≡ None → cond (is_inner o x) None (constant_named cs x) ≡ None
shown_constant None cs x e c = c
shown_constant (Some i) cs x e c = absurd (cc e)

pub clear_shows : (sc : Scope) → Clear sc → ShowsFlags sc flags
clear_shows sc k =
    record {
      functions = k.functions;
      left = shown_constant sc.inner sc.constants flags.left k.outer k.left_constant;
      returned = shown_constant sc.inner sc.constants flags.returned k.outer k.returned_constant;
    }

-- ---- actions

root_first : (o : Option Inner) (c x : List ℕ) (r : List ℕ) → o ≡ None → cond (is_inner o x) (inner_name o c x) r ≡ x → r ≡ x
root_first None c x r e h = h
root_first (Some i) c x r e h = absurd (cc e)

action_clear : (sc : Scope) (a : tree.Action) (ps : OldLocal is_given (local_action 0 a)) → Clear sc → is_among sc.own a.name ≡ true → HasNoFlag sc flags a
action_clear sc a o k own =
    record {
      functions = k.functions;
      own = own;
      two = refl;
      root = root_first sc.inner sc.control flags.left (root_of sc.roots flags.left) k.outer k.left;
      constant = k.left_constant;
      not_inner = inner_off a.params a.body o.1 o.2;
      params = params_off a.params o.1;
      body = avoid_stmts a.body o.2;
    }

or_true : (b : Bool) → (b || true) ≡ true
or_true true = refl
or_true false = refl

further : (sc : Scope) (y : List ℕ) (ys : List (List ℕ)) → ((x : List ℕ) → is_among (y ∷ ys) x ≡ true → is_among sc.own x ≡ true) → (x : List ℕ) → is_among ys x ≡ true → is_among sc.own x ≡ true
further sc y ys k x h = k x (ap (λ (b : Bool). same_text y x || b) h ∙ or_true (same_text y x))

nearest : (sc : Scope) (y : List ℕ) (ys : List (List ℕ)) → ((x : List ℕ) → is_among (y ∷ ys) x ≡ true → is_among sc.own x ≡ true) → is_among sc.own y ≡ true
nearest sc y ys k = k y (ap (λ (b : Bool). b || is_among ys y) ((text_decides y y).1 refl))

actions_mapped : (ls : List Local) (sc : Scope) → OldLocals is_given ls → Clear sc → ((x : List ℕ) → is_among (own_names ls) x ≡ true → is_among sc.own x ≡ true)
    → actions_in sc (map local_without ls) ≡ map bare (actions_in sc ls)
actions_mapped [] sc o k n = refl
actions_mapped (local_action p a ∷ ls) sc o k n =
    ap₂ (λ (x : Action) (xs : List Action). x ∷ xs) (actions_agree sc flags a (action_clear sc a o.0 k (nearest sc a.name (own_names ls) n))) (actions_mapped ls sc o.1 k (further sc a.name (own_names ls) n))
actions_mapped (local_table p t ∷ ls) sc o k n = actions_mapped ls sc o.1 k (further sc t.name (own_names ls) n)
actions_mapped (local_register p r ∷ ls) sc o k n = actions_mapped ls sc o.1 k (further sc r.name (own_names ls) n)
actions_mapped (local_const p ty x e ∷ ls) sc o k n = actions_mapped ls (with_constant sc ty x e) o.1 (clear_constant sc ty x e o.0.1 k) n
actions_mapped (local_var p ty x e ∷ ls) sc o k n = actions_mapped ls sc o.1 k n

pub actions_same : (b : Bool) (ls : List Local) (sc : Scope) → OldLocals is_given ls → Clear sc → ((x : List ℕ) → is_among (own_names ls) x ≡ true → is_among sc.own x ≡ true)
    → actions_in sc (with_flag b (map local_without ls)) ≡ map bare (actions_in sc ls)
actions_same true ls sc o k n = actions_mapped ls sc o k n
actions_same false ls sc o k n = actions_mapped ls sc o k n

-- ---- tables

pub named_mapped : (as' : List Action) (x : List ℕ) → action_named (map bare as') x ≡ option_map bare (action_named as' x)
named_mapped [] x = refl
named_mapped (a ∷ as') x = go (same_text a.name x) (named_mapped as' x)
  where
    go : (b : Bool) → action_named (map bare as') x ≡ option_map bare (action_named as' x) → cond b (Some (bare a)) (action_named (map bare as') x) ≡ option_map bare (cond b (Some a) (action_named as' x))
    go true e = refl
    go false e = e

params_kept : (o : Option Action) → params_of (option_map bare o) ≡ params_of o
params_kept None = refl
params_kept (Some a) = refl

pub params_same : (as' : List Action) (x : List ℕ) → params_of (action_named (map bare as') x) ≡ params_of (action_named as' x)
params_same as' x = ap params_of (named_mapped as' x) ∙ params_kept (action_named as' x)

default_same : (sc : Scope) (as' : List Action) (d : Option (List ℕ × List Expr)) → default_under sc (map bare as') d ≡ default_under sc as' d
default_same sc as' None = refl
default_same sc as' (Some d) = ap (λ (ps : List Param). record { action = full_name sc d.0; args = args_of ps (map (expr_under sc) d.1) blank }) (params_same as' (full_name sc d.0))

table_same : (sc : Scope) (as' : List Action) (t : tree.Table) → table_under sc (map bare as') t ≡ table_under sc as' t
table_same sc as' t = ap (λ (d : Chosen). record (table_under sc as' t) { default = d }) (default_same sc as' t.default)

tables_mapped : (ls : List Local) (sc : Scope) (as' : List Action) → tables_in sc (map bare as') (map local_without ls) ≡ tables_in sc as' ls
tables_mapped [] sc as' = refl
tables_mapped (local_action p a ∷ ls) sc as' = tables_mapped ls sc as'
tables_mapped (local_table p t ∷ ls) sc as' = ap₂ (λ (x : Table) (xs : List Table). x ∷ xs) (table_same sc as' t) (tables_mapped ls sc as')
tables_mapped (local_register p r ∷ ls) sc as' = tables_mapped ls sc as'
tables_mapped (local_const p ty x e ∷ ls) sc as' = tables_mapped ls (with_constant sc ty x e) as'
tables_mapped (local_var p ty x e ∷ ls) sc as' = tables_mapped ls sc as'

pub tables_same : (b : Bool) (ls : List Local) (sc : Scope) (as' : List Action) → tables_in sc (map bare as') (with_flag b (map local_without ls)) ≡ tables_in sc as' ls
tables_same true ls sc as' = tables_mapped ls sc as'
tables_same false ls sc as' = tables_mapped ls sc as'

-- ---- what a control runs

abbrev pub rewritten : Bool → Exits → Body → Body
rewritten b m k = record { locals = written_flag b flags.left k.locals; body = stmts_without flags m without.in_control false k.body }

settings_same : (b : Bool) (ls : List Local) (sc : Scope) → Clear sc → settings_under sc (with_flag b (map local_without ls)) ≡ written_flag b flags.left (settings_under sc ls)
settings_same true ls sc k = ap₂ (λ (x : List ℕ) (ss : Stmts). next (lowered x) ss) k.left (settings_mapped ls sc)
settings_same false ls sc k = settings_mapped ls sc

own_kept : (ls : List Local) (sc : Scope) → (behind_locals sc ls).own ≡ sc.own
own_kept [] sc = refl
own_kept (local_action p a ∷ ls) sc = own_kept ls sc
own_kept (local_table p t ∷ ls) sc = own_kept ls sc
own_kept (local_register p r ∷ ls) sc = own_kept ls sc
own_kept (local_const p ty x e ∷ ls) sc = own_kept ls (with_constant sc ty x e)
own_kept (local_var p ty x e ∷ ls) sc = own_kept ls sc

control_kept : (ls : List Local) (sc : Scope) → (behind_locals sc ls).control ≡ sc.control
control_kept [] sc = refl
control_kept (local_action p a ∷ ls) sc = control_kept ls sc
control_kept (local_table p t ∷ ls) sc = control_kept ls sc
control_kept (local_register p r ∷ ls) sc = control_kept ls sc
control_kept (local_const p ty x e ∷ ls) sc = control_kept ls (with_constant sc ty x e)
control_kept (local_var p ty x e ∷ ls) sc = control_kept ls sc

module _ (h m s : ℕ) (sc : Scope) (e : Exits) (c : Control) where
  abbrev inside : Scope
  inside = in_control h m s sc c

  abbrev behind : Scope
  behind = behind_locals inside c.locals

  named_same : (x : List ℕ) → full_name behind x ≡ name_in c x
  named_same x = ap₂ (λ (own : List (List ℕ)) (name : List ℕ). cond (is_among own x) (full name x) x) (own_kept c.locals inside) (control_kept c.locals inside)

  exits_same : exits_written behind e ≡ exits_at e c
  exits_same = λ i. record { action = λ x. e.action (named_same x i); table = λ x. e.table (named_same x i) }

  flags_same : Clear behind → flags_under behind flags ≡ flags
  flags_same k = λ i. record { left = k.left i; returned = k.returned i }

  stmts_same : Clear behind → stmts_under behind (stmts_without flags (exits_at e c) without.in_control false c.apply) ≡ stmts_without flags e without.in_control false (stmts_under behind c.apply)
  stmts_same k =
      ap (λ (x : Exits). stmts_under behind (stmts_without flags x without.in_control false c.apply)) (sym exits_same)
      ∙ (names_agree behind flags e without.in_control false c.apply (clear_shows behind k)
      ∙ ap (λ (n : Flags). stmts_without n e without.in_control false (stmts_under behind c.apply)) (flags_same k))

  pub body_same : OldLocals is_given c.locals → Clear inside → body_of h m s sc (Some (control_without e c)) ≡ rewritten (control_leaves e c) e (body_of h m s sc (Some c))
  body_same o k =
      ap (λ (x : Scope). record { locals = settings_under x (control_without e c).locals; body = stmts_under (behind_locals x (control_without e c).locals) (control_without e c).apply }) (scope_same h m s sc e c)
      ∙ ap₂ (λ (x y : Stmts). record { locals = x; body = y }) (settings_same (control_leaves e c) c.locals inside k)
      (ap (λ (x : Scope). stmts_under x (control_without e c).apply) (behind_same (control_leaves e c) c.locals inside) ∙ stmts_same (clear_locals c.locals inside o k))
