-- A whole property's trees are the parts of its monitor.
use Rattle.std.proofs.Common.{◌≡◌, ℕ, suc, ◌+◌, List, [], ◌∷◌, ◌++◌, map, Bool, true, false, ◌||◌, not, cond, Option, Some, None, refl, sym, ap, ap₂, ◌∙◌}
use Rattle.std.specs.List.{AllByRecursion}
use Rattle.bit_values.specs.Widths.{sound_width}
use Rattle.lex_text.specs.Names.{same_text}
use Rattle.indus_tree.specs.Tree as indus
use Rattle.indus_tree.specs.Tree.{Decl, Shape, one, list, set, dict}
use Rattle.indus_tree.specs.State.{shape_width, width_of}
use Rattle.indus_tree.specs.declared.tree.Ty.{Ty}
use Rattle.indus_tree.specs.declared.tree.Ty.TheVariants as ty
use Rattle.p4_tree.specs.Tree.{done, Local}
use Rattle.p4_tree.specs.declared.statement.PTy.{PTy}
use Rattle.p4_meaning.specs.Scope.{Scope, Roots, Inner, full, full_name, first_name as name_in, is_inner, inner_name, root_of, is_among, own_names, type_under}
use Rattle.p4_meaning.specs.Under.{stmts_under, settings_under}
use Rattle.p4_meaning.specs.Actions.{Action, action_named, actions_in, in_action}
use Rattle.p4_meaning.specs.Tables.{tables_in}
use Rattle.p4_meaning.specs.Standard.{metadata_root}
use Rattle.p4_typing_laws.proofs.CallCounts.{text_same}
use Rattle.own_code.specs.Regions.{is_mine}
use Rattle.own_code.proofs.Apart.{apart_names}
use Rattle.monitor_laws.specs.Names.{rejects_register}
use Rattle.monitor_laws.specs.Monitor.{flag_locals}
use Rattle.linked_halves.specs.Statements.{vars_of}
use Rattle.linked_programs.specs.Gives.{AreOwnRoots, Sees, StandForRoots, FindsMonitors, IsLoweredLocal}
use Rattle.linked_programs.specs.Reads.{LocalsReadIn, StmtsReadIn, KeysRead, StmtsRead}
use Rattle.control_tables.specs.Tables.{keys_from, action_of, body_of}
use Rattle.lookup_names.specs.Names as plain
use Rattle.lookup_names.specs.Keys.{key_types}
use Rattle.lowered_code.specs.Names.{sensor_name, action_name}
use Rattle.lowered_code.specs.Environment.{in_control, on_switch}
use Rattle.lowered_code.specs.Expressions.{value_type, bits_type}
use Rattle.lowered_code.specs.Statements.{Var, key_vars, kept_types, read_vars, vars_in, block_code, block_lookups}
use Rattle.lookup_tables.specs.Tables.{action_for, table_for}
use Rattle.whole_properties.proofs.Numbering.{lookup_of}
use Rattle.lower_blocks.specs.Trees.{action_tree, table_tree, locals_for}
use Rattle.monitor_trees.specs.Stage.{AreRooted, Stage, AreNamed}
use Rattle.monitor_trees.proofs.BlockUnder.{block_is}
use Rattle.monitor_trees.proofs.LocalsUnder.{IsVar, IsNamed, ZeroAt, IsChosen, vars_under, actions_under, tables_under}
use Rattle.monitor_trees.proofs.Staged.{staged}
use Rattle.monitor_trees.proofs.Choices.{zero_is}
use Rattle.monitor_trees.proofs.LengthReads.{block_reads}

abbrev Reads : Type 0
Reads = List (ℕ × Option Decl)

abbrev pub Looks : Type 0
Looks = List (ℕ × Decl)

-- ---- variables: their names are the monitor's, and their types are no typedefs

pub all_vars : (a b : List Var) → AllByRecursion IsVar a → AllByRecursion IsVar b → AllByRecursion IsVar (a ++ b)
all_vars [] b h k = k
all_vars (v ∷ vs) b h k = (h.0, all_vars vs b h.1 k)

plain_type : (t : Ty) (ts : List (List ℕ × PTy)) → type_under ts (bits_type t) ≡ bits_type t
plain_type (ty.Bit w) ts = refl
plain_type ty.Bool ts = refl

key_are : (n i : ℕ) (ts : List Ty) → AllByRecursion IsVar (key_vars n i ts)
key_are n i [] = tt
key_are n i (t ∷ ts) = ((refl, plain_type t), key_are n (suc i) ts)

read_are : (n : ℕ) (o : Option Decl) → AllByRecursion IsVar (read_vars n o)
read_are n None = tt
read_are n (Some d) = ((refl, plain_type (value_type d.shape)), key_are n 0 (kept_types d.kind d.shape))

pub vars_are : (rs : Reads) → AllByRecursion IsVar (vars_in rs)
vars_are [] = tt
vars_are (x ∷ rs) = all_vars (read_vars x.0 x.1) (vars_in rs) (read_are x.0 x.1) (vars_are rs)

pub flags_are : AllByRecursion IsVar flag_locals
flags_are = ((refl, λ z. refl), ((refl, λ z. refl), ((refl, λ z. refl), tt)))

-- ---- names that are declared

all_map : (P Q : ℕ × Decl → Type 0) → ((l : ℕ × Decl) → P l → Q l) → (ls : Looks) → AllByRecursion P ls → AllByRecursion Q ls
all_map P Q f [] h = tt
all_map P Q f (l ∷ ls) h = (f l h.0, all_map P Q f ls h.1)

pub all_both : (P Q R : ℕ × Decl → Type 0) → ((l : ℕ × Decl) → P l → Q l → R l) → (ls : Looks) → AllByRecursion P ls → AllByRecursion Q ls → AllByRecursion R ls
all_both P Q R f [] h k = tt
all_both P Q R f (l ∷ ls) h k = (f l h.0 k.0, all_both P Q R f ls h.1 k.1)

or_true : (a : Bool) → (a || true) ≡ true
or_true true = refl
or_true false = refl

grow : (y : List ℕ) (ys : List (List ℕ)) (x : List ℕ) → is_among ys x ≡ true → is_among (y ∷ ys) x ≡ true
grow y ys x h = ap (λ (b : Bool). same_text y x || b) h ∙ or_true (same_text y x)

here_is : (y : List ℕ) (ys : List (List ℕ)) → is_among (y ∷ ys) y ≡ true
here_is y ys = ap (λ (b : Bool). b || is_among ys y) (text_same y y refl)

own_of : (vs : List Var) (ls : Looks) → own_names (locals_for vs ls) ≡ own_names (locals_for [] ls)
own_of [] ls = refl
own_of (v ∷ vs) ls = own_of vs ls

abbrev Names : (ls ms : Looks) → List (List ℕ)
Names ls ms = own_names (map action_tree ls ++ map table_tree ms)

abbrev HasAction : (ls ms : Looks) → ℕ × Decl → Type 0
HasAction ls ms l = is_among (Names ls ms) (plain.action_name l.0) ≡ true

abbrev HasTable : (ls ms : Looks) → ℕ × Decl → Type 0
HasTable ls ms l = is_among (Names ls ms) (plain.table_name l.0) ≡ true

actions_among : (ls ms : Looks) → AllByRecursion (HasAction ls ms) ls
actions_among [] ms = tt
actions_among (l ∷ ls) ms = (
  here_is (plain.action_name l.0) (Names ls ms),
  all_map (HasAction ls ms) (HasAction (l ∷ ls) ms) (λ k h. grow (plain.action_name l.0) (Names ls ms) (plain.action_name k.0) h) ls (actions_among ls ms),
)

tables_among : (ls ms : Looks) → AllByRecursion (HasTable ls ms) ms
tables_among [] [] = tt
tables_among [] (m ∷ ms) = (
  here_is (plain.table_name m.0) (Names [] ms),
  all_map (HasTable [] ms) (HasTable [] (m ∷ ms)) (λ k h. grow (plain.table_name m.0) (Names [] ms) (plain.table_name k.0) h) ms (tables_among [] ms),
)
tables_among (l ∷ ls) ms = all_map (HasTable ls ms) (HasTable (l ∷ ls) ms) (λ k h. grow (plain.action_name l.0) (Names ls ms) (plain.table_name k.0) h) ms (tables_among ls ms)

no_sensor : (ls ms : Looks) (x : List ℕ) → is_among (Names ls ms) (sensor_name x) ≡ false
no_sensor [] [] x = refl
no_sensor [] (m ∷ ms) x = no_sensor [] ms x
no_sensor (l ∷ ls) ms x = no_sensor ls ms x

pub none_rejects : (vs : List Var) (ls : Looks) → is_among (own_names (locals_for vs ls)) rejects_register ≡ false
none_rejects [] ls = go ls ls
  where
    go : (ls ms : Looks) → is_among (Names ls ms) rejects_register ≡ false
    go [] [] = refl
    go [] (m ∷ ms) = go [] ms
    go (l ∷ ls) ms = go ls ms
none_rejects (v ∷ vs) ls = none_rejects vs ls

pub locals_lowered : (vs : List Var) (ls : Looks) → AllByRecursion IsVar vs → AllByRecursion IsLoweredLocal (locals_for vs ls)
locals_lowered [] ls h = go ls ls
  where
    go : (ls ms : Looks) → AllByRecursion IsLoweredLocal (map action_tree ls ++ map table_tree ms)
    go [] [] = tt
    go [] (m ∷ ms) = (refl, go [] ms)
    go (l ∷ ls) ms = (refl, go ls ms)
locals_lowered (v ∷ vs) ls h = (h.0.0, locals_lowered vs ls h.1)

-- ---- a control's part, whose lookups are ls

outer_is : (o : Option Inner) (c x y : List ℕ) → o ≡ None → cond (is_inner o x) (inner_name o c x) y ≡ y
outer_is None c x y z = refl
outer_is (Some i) c x y z = absurd (cc z)

not_true : (b : Bool) → not b ≡ true → b ≡ false
not_true true h = absurd (cc h)
not_true false h = refl

pick : (b : Bool) (x y z : List ℕ) → b ≡ false → y ≡ z → cond (b || false) x y ≡ z
pick true x y z h k = absurd (cc h)
pick false x y z h k = k

module _ (s : ℕ) (around : List ℕ) (r : Roots) (own : AreOwnRoots r) (vs : List Var) (ls : Looks) (sc : Scope) (e : Sees s around r (own_names (locals_for vs ls)) sc) (stand : StandForRoots r sc) where
  among_is : (x : List ℕ) → is_mine x ≡ true → is_among (Names ls ls) x ≡ true → is_among sc.own x ≡ true
  among_is x m h = e.own x m ∙ ap (λ (xs : List (List ℕ)). is_among xs x) (own_of vs ls) ∙ h

  full_is : (x : List ℕ) → is_mine x ≡ true → is_among (Names ls ls) x ≡ true → full_name sc x ≡ full around x
  full_is x m h = ap₂ (λ (b : Bool) (c : List ℕ). cond b (full c x) x) (among_is x m h) e.control

  pub stage : Stage s r sc
  stage = staged s around r own (own_names (locals_for vs ls)) sc e stand (λ x. ap (λ (xs : List (List ℕ)). is_among xs (sensor_name x)) (own_of vs ls) ∙ no_sensor ls ls x)

  pub named : AllByRecursion (IsNamed sc around) ls
  named =
      all_both (HasAction ls ls) (HasTable ls ls) (IsNamed sc around)
      (λ l a t. record { action = full_is (plain.action_name l.0) refl a; table = full_is (plain.table_name l.0) refl t }) ls (actions_among ls ls) (tables_among ls ls)

  pub are_named : (ms : Looks) → AllByRecursion (IsNamed sc around) ms → AreNamed sc around ms
  are_named [] h = tt
  are_named (m ∷ ms) h = (h.0.table, are_named ms h.1)

  pub code_is :
      (ds : List Decl) → AreRooted ds → (ss : indus.Stmts) (n : ℕ) → AllByRecursion (IsNamed sc around) (block_lookups ds ss n)
      → stmts_under sc (block_code (in_control r) ds ss n) ≡ block_code (on_switch s around) ds ss n
  code_is ds rooted ss n h = block_is s r sc stage around ds rooted ss n (are_named (block_lookups ds ss n) h)

  pub vars_is : AllByRecursion IsVar vs → settings_under sc (locals_for vs ls) ≡ vars_of vs done
  vars_is h = vars_under s r sc stage around e.control vs ls h

  pub actions_is : actions_in sc (locals_for vs ls) ≡ map action_for (map (lookup_of around) ls)
  actions_is = actions_under s r sc stage around e.control vs ls named

  -- a lookup whose action is found among the monitor's
  abbrev pub Ready : List Action → ℕ × Decl → Type 0
  Ready bs l = (action_named bs (action_name around l.0) ≡ Some (action_for (lookup_of around l))) × (sound_width (shape_width (l.1).shape) ≡ shape_width (l.1).shape)

  zero_at : (k : Shape) → sound_width (shape_width k) ≡ shape_width k → ZeroAt k
  zero_at (one t) h = zero_is (width_of t) h
  zero_at (list t n) h = zero_is (width_of t) h
  zero_at (set ts) h = tt
  zero_at (dict ts t) h = tt

  pub tables_is : (as' bs : List Action) → FindsMonitors as' bs → AllByRecursion (Ready bs) ls → tables_in sc as' (locals_for vs ls) ≡ map table_for (map (lookup_of around) ls)
  tables_is as' bs f h =
      tables_under s r sc stage around e.control as' vs ls
      (all_both (IsNamed sc around) (Ready bs) (IsChosen sc around as')
      (λ l n k. record { named = n; found = f (action_name around l.0) refl ∙ k.0; zero = zero_at (l.1).shape k.1 }) ls named h)

  -- ---- reads of the packet's length

  key_reads : (n i : ℕ) (ts : List Ty) → KeysRead (name_in sc) r (keys_from n i ts)
  key_reads n i [] = tt
  key_reads n i (t ∷ ts) = (tt, key_reads n (i + 1) ts)

  -- in a lookup's action the metadata's name is the metadata's
  plain_root : root_of sc.roots r.metadata ≡ metadata_root
  plain_root = sym (outer_is sc.inner sc.control r.metadata (root_of sc.roots r.metadata) e.outer) ∙ stand.metadata

  no_value : same_text plain.value_name r.metadata ≡ false
  no_value = apart_names is_mine plain.value_name r.metadata refl (not_true (is_mine r.metadata) own.metadata)

  action_metadata : (n : ℕ) (k : Shape) → name_in (in_action sc (action_of n k)) r.metadata ≡ metadata_root
  action_metadata n (one t) = pick (same_text plain.value_name r.metadata) _ (root_of sc.roots r.metadata) metadata_root no_value plain_root
  action_metadata n (list t m) = pick (same_text plain.value_name r.metadata) _ (root_of sc.roots r.metadata) metadata_root no_value plain_root
  action_metadata n (set ts) = plain_root
  action_metadata n (dict ts t) = pick (same_text plain.value_name r.metadata) _ (root_of sc.roots r.metadata) metadata_root no_value plain_root

  body_reads : (n : ℕ) (k : Shape) → StmtsRead (name_in (in_action sc (action_of n k))) r (body_of n k)
  body_reads n (one t) = (tt, tt)
  body_reads n (list t m) = (tt, tt)
  body_reads n (set ts) = (tt, tt)
  body_reads n (dict ts t) = (tt, tt)

  abbrev LocalsRead : List Local → Type 0
  LocalsRead ls = LocalsReadIn sc r ls

  declared_read : (ls ms : Looks) → LocalsRead (map action_tree ls ++ map table_tree ms)
  declared_read [] [] = tt
  declared_read [] (m ∷ ms) = (key_reads m.0 0 (key_types (m.1).shape), declared_read [] ms)
  declared_read (l ∷ ls) ms = ((action_metadata l.0 (l.1).shape, body_reads l.0 (l.1).shape), declared_read ls ms)

  pub locals_read : LocalsRead (locals_for vs ls)
  locals_read = go vs
    where
      go : (vs : List Var) → LocalsRead (locals_for vs ls)
      go [] = declared_read ls ls
      go (v ∷ vs) = (tt, go vs)

  pub code_reads : (ds : List Decl) → AreRooted ds → (ss : indus.Stmts) (n : ℕ) → StmtsReadIn sc r (block_code (in_control r) ds ss n)
  code_reads ds rooted ss n = block_reads s r sc stage ds rooted ss n
