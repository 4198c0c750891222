-- Each name that the trees declare is the monitor's.
use Rattle.std.proofs.Common.{◌≡◌, ℕ, zero, suc, List, [], ◌∷◌, ◌++◌, map, true, Option, Some, None, refl, sym, ap, subst}
use Rattle.std.specs.List.{AllByRecursion}
use Rattle.indus_tree.specs.Tree.{Decl, Shape, one, list, set, dict}
use Rattle.indus_tree.specs.declared.tree.DeclKind.{DeclKind}
use Rattle.indus_tree.specs.declared.tree.DeclKind.TheVariants.{Tele, Sensor, Header, Control}
use Rattle.indus_tree.specs.declared.tree.Ty.{Ty}
use Rattle.p4_tree.specs.Tree as p4
use Rattle.p4_tree.specs.Tree.{Stmts, done, next, and_then}
use Rattle.p4_meaning.specs.Parsing.{Field}
use Rattle.p4_meaning.specs.Scope.{Roots, names_in}
use Rattle.exit_programs.specs.Laws.{local_names, locals_names, tops_names}
use Rattle.own_code.specs.Regions.{is_mine}
use Rattle.monitor_laws.specs.Telemetry.{mark_field}
use Rattle.monitor_laws.specs.Monitor.{flag_locals}
use Rattle.control_tables.specs.Tables.{action_of}
use Rattle.lowered_code.specs.Environment.{in_control}
use Rattle.lowered_code.specs.Statements.{Var, key_vars, kept_types, read_vars, vars_in, block_vars, block_numbers, block_code}
use Rattle.whole_properties.specs.Whole.{Given, tele_field, tele_fields, fill_field, fill_fields, decls, init, tele, check, tele_first, check_first, fields}
use Rattle.lower_blocks.specs.Trees.{field_tree, register_tops, registers_of, action_tree, table_tree, locals_for, checks_of, entry_lookups, exit_lookups}
use Rattle.linked_rules.specs.Form.{AreMine, DeclaresItsOwn}
use Rattle.monitor_trees.specs.Trees.{trees_of}
use Rattle.monitor_rules.proofs.Quiet.{Quiet, quiet_then, block_quiet}

both_mine : (a b : List (List ℕ)) → AreMine a → AreMine b → AreMine (a ++ b)
both_mine [] b h k = k
both_mine (x ∷ a) b h k = (h.0, both_mine a b h.1 k)

-- ---- at top level

abbrev FieldsMine : List Field → Type 0
FieldsMine fs = AllByRecursion (λ (f : Field). is_mine f.name ≡ true) fs

names_mine : (fs : List Field) → FieldsMine fs → AreMine (map (λ f. f.1) (map field_tree fs))
names_mine [] h = tt
names_mine (f ∷ fs) h = (h.0, names_mine fs h.1)

tele_mine : (ds : List Decl) → FieldsMine (tele_fields ds)
tele_mine [] = tt
tele_mine (d ∷ ds) = go d.kind (tele_mine ds)
  where
    go : (k : DeclKind) → FieldsMine (tele_fields ds) → FieldsMine (tele_field k d ++ tele_fields ds)
    go Tele h = (refl, h)
    go Sensor h = h
    go Header h = h
    go Control h = h

fill_mine : (w : ℕ) → FieldsMine (fill_field w)
fill_mine zero = tt
fill_mine (suc w) = (refl, tt)

both_fields : (a b : List Field) → FieldsMine a → FieldsMine b → FieldsMine (a ++ b)
both_fields [] b h k = k
both_fields (f ∷ a) b h k = (h.0, both_fields a b h.1 k)

registers_mine : (ds : List Decl) → AreMine (tops_names (registers_of ds))
registers_mine [] = tt
registers_mine (d ∷ ds) = go d.kind (registers_mine ds)
  where
    go : (k : DeclKind) → AreMine (tops_names (registers_of ds)) → AreMine (tops_names (register_tops k d ++ registers_of ds))
    go Tele h = h
    go Sensor h = (refl, h)
    go Header h = h
    go Control h = h

-- ---- in a control

abbrev VarsMine : List Var → Type 0
VarsMine vs = AllByRecursion (λ v. is_mine v.1 ≡ true) vs

both_vars : (a b : List Var) → VarsMine a → VarsMine b → VarsMine (a ++ b)
both_vars [] b h k = k
both_vars (v ∷ a) b h k = (h.0, both_vars a b h.1 k)

keys_mine : (n i : ℕ) (ts : List Ty) → VarsMine (key_vars n i ts)
keys_mine n i [] = tt
keys_mine n i (t ∷ ts) = (refl, keys_mine n (suc i) ts)

read_mine : (n : ℕ) (o : Option Decl) → VarsMine (read_vars n o)
read_mine n None = tt
read_mine n (Some d) = (refl, keys_mine n 0 (kept_types d.kind d.shape))

vars_mine : (rs : List (ℕ × Option Decl)) → VarsMine (vars_in rs)
vars_mine [] = tt
vars_mine (r ∷ rs) = both_vars (read_vars r.0 r.1) (vars_in rs) (read_mine r.0 r.1) (vars_mine rs)

action_mine : (n : ℕ) (s : Shape) → AreMine (local_names (p4.local_action 0 (action_of n s)))
action_mine n (one t) = (refl, (refl, tt))
action_mine n (list t k) = (refl, (refl, tt))
action_mine n (set ts) = (refl, tt)
action_mine n (dict ts t) = (refl, (refl, tt))

declared_mine : (ls ms : List (ℕ × Decl)) → AreMine (locals_names (map action_tree ls ++ map table_tree ms))
declared_mine [] [] = tt
declared_mine [] (m ∷ ms) = (refl, declared_mine [] ms)
declared_mine (l ∷ ls) ms = both_mine (local_names (action_tree l)) (locals_names (map action_tree ls ++ map table_tree ms)) (action_mine l.0 (l.1).shape) (declared_mine ls ms)

locals_mine : (vs : List Var) (ls : List (ℕ × Decl)) → VarsMine vs → AreMine (locals_names (locals_for vs ls))
locals_mine [] ls h = declared_mine ls ls
locals_mine (v ∷ vs) ls h = (h.0, locals_mine vs ls h.1)

none_mine : (ss : Stmts) → names_in ss ≡ [] → AreMine (names_in ss)
none_mine ss e = subst AreMine (sym e) tt

-- ---- a property

module _ (g : Given) (r q : Roots) where
  check_quiet : Quiet (block_code (in_control q) (decls g) (check g) (check_first g))
  check_quiet = block_quiet (in_control q) (decls g) (check g) (check_first g)

  -- the exit part declares nothing
  pub exit_quiet : Quiet (trees_of g r q).exit
  exit_quiet =
      quiet_then (block_code (in_control q) (decls g) (tele g) (tele_first g)) (next (checks_of (block_code (in_control q) (decls g) (check g) (check_first g))) done)
      (block_quiet (in_control q) (decls g) (tele g) (tele_first g))
      (record { names = ap (λ (xs : List (List ℕ)). (xs ++ []) ++ []) check_quiet.names; stays = λ z. refl })

  pub declares_its_own : DeclaresItsOwn (trees_of g r q)
  declares_its_own =
      record {
        tops = (
          refl,
          both_mine (map (λ f. f.1) (map field_tree (mark_field ∷ fields g))) (tops_names (registers_of g.property.decls))
              (names_mine (mark_field ∷ fields g) (refl, both_fields (tele_fields (decls g)) (fill_fields (tele_fields (decls g))) (tele_mine (decls g)) (fill_mine _))) (registers_mine g.property.decls),
        );
        entry_locals = locals_mine (block_vars (decls g) (init g) 0) (entry_lookups g) (vars_mine (block_numbers (decls g) (init g) 0));
        exit_locals =
            locals_mine (flag_locals ++ (block_vars (decls g) (tele g) (tele_first g) ++ block_vars (decls g) (check g) (check_first g))) (exit_lookups g)
            (both_vars flag_locals (block_vars (decls g) (tele g) (tele_first g) ++ block_vars (decls g) (check g) (check_first g)) (refl, (refl, (refl, tt)))
            (both_vars (block_vars (decls g) (tele g) (tele_first g)) (block_vars (decls g) (check g) (check_first g)) (vars_mine (block_numbers (decls g) (tele g) (tele_first g))) (vars_mine (block_numbers (decls g) (check g) (check_first g)))));
        entry = none_mine (block_code (in_control r) (decls g) (init g) 0) (block_quiet (in_control r) (decls g) (init g) 0).names;
        exit = none_mine (trees_of g r q).exit exit_quiet.names;
      }
