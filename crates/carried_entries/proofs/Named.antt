-- What the keys of a table and the parameters of an action hold, found by the full name: it is what the first thing of that
-- name holds, where no action has a table's name.
use Rattle.std.proofs.Common.{◌≡◌, ℕ, suc, List, [], ◌∷◌, ◌++◌, map, Bool, true, false, cond, Some, None, refl, sym, ap, ap₂, ◌∙◌}
use Rattle.std.specs.Prelude.{not, if◌then◌else◌}
use Rattle.lex_text.specs.Names.{same_text}
use Rattle.p4_tree.specs.Tree as tree
use Rattle.p4_tree.specs.Tree.{Expr, Local, local_action, local_table, local_register, local_const, local_var, Top, constant, typedef, header_type, struct_type, register, parser, control}
use Rattle.p4_tree.specs.declared.statement.PTy.{PTy}
use Rattle.p4_meaning.specs.Scope as meaning
use Rattle.p4_meaning.specs.Scope.{full, full_name, own_names}
use Rattle.p4_meaning.specs.Under.{behind_top, behind_local, in_control}
use Rattle.p4_meaning.specs.Actions.{Action, actions_in, actions_of, action_named, action_under}
use Rattle.p4_meaning.specs.Tables.{Table, tables_in, tables_of, table_named, table_under}
use Rattle.p4_scopes.specs.Scopes.{Scope, kind_in, kinds_in, own}
use Rattle.p4_scopes.specs.declared.kind.Kind.{Kind}
use Rattle.p4_declaration_rules.specs.Parsers.{with_ways}
use Rattle.p4_declaration_rules.specs.Controls.{after_local, after_top}
use Rattle.p4_typing_laws.proofs.CallCounts.{text_is}
use Rattle.p4_typing_laws.proofs.FullNames.{Knows, known_full, knows_rest, knows_all, among_head}
use Rattle.own_programs.specs.OwnPrograms.{is_own}
use Rattle.own_programs.proofs.Names.{full_mine}
use Rattle.value_shapes.specs.Values.{value_of, key_values, param_values, locals_values, tops_values}
use Rattle.value_shapes.specs.declared.values.ValueShape.{ValueShape}
use Rattle.value_shapes.specs.declared.values.Holder.TheVariants.{Keys, Params}
use Rattle.p4_tables.specs.Programs.{values_at, action_place}
use Rattle.p4_tables.specs.Named.{table_place}
use Rattle.linked_rules.specs.Held.{key_kinds, holds, locals_hold, tops_hold}

-- ---- by names

-- what the first thing of a control holds that has this full name, or else something other
abbrev pub item_kinds : (around : List ℕ) → List (List ℕ × List Kind) → List ℕ → List Kind → List Kind
item_kinds c [] x other = other
item_kinds c (i ∷ is) x other = if same_text (full c i.0) x then i.1 else item_kinds c is x other

-- and of those of a program
abbrev pub kinds_named : List (List ℕ × List (List ℕ × List Kind)) → List ℕ → List Kind
kinds_named [] x = []
kinds_named (h ∷ hs) x = item_kinds h.0 h.1 x (kinds_named hs x)

key_values_are : (s : Scope) (ks : List (Expr × List ℕ)) → key_values s ks ≡ map value_of (key_kinds s ks)
key_values_are s [] = refl
key_values_are s (k ∷ ks) = ap (λ (vs : List ValueShape). value_of (own s k.0) ∷ vs) (key_values_are s ks)

param_values_are : (s : Scope) (ps : List (PTy × List ℕ)) → param_values s ps ≡ map value_of (kinds_in s ps)
param_values_are s [] = refl
param_values_are s (p ∷ ps) = ap (λ (vs : List ValueShape). value_of (kind_in s p.0) ∷ vs) (param_values_are s ps)

-- ---- what is held, of names that pass a test

module _ (keep : List ℕ → Bool) where
  -- a table with the kinds of its keys, and an action with those of its parameters
  abbrev pub holds_of : Scope → Local → List (List ℕ × List Kind)
  holds_of s (local_table p t) = if keep t.name then (t.name, key_kinds s t.keys) ∷ [] else []
  holds_of s (local_action p a) = if keep a.name then (a.name, kinds_in s a.params) ∷ [] else []
  holds_of s _ = []

  abbrev pub locals_hold_of : Scope → List Local → List (List ℕ × List Kind)
  locals_hold_of s [] = []
  locals_hold_of s (l ∷ ls) = holds_of s l ++ locals_hold_of (after_local s l) ls

  abbrev pub tops_hold_of : Scope → List Top → List (List ℕ × List (List ℕ × List Kind))
  tops_hold_of s [] = []
  tops_hold_of s (control p c ∷ ts) = (c.name, locals_hold_of (with_ways s c.params) c.locals) ∷ tops_hold_of (after_top s (control p c)) ts
  tops_hold_of s (t ∷ ts) = tops_hold_of (after_top s t) ts

-- of own names
one_own : (s : Scope) (l : Local) → holds_of is_own s l ≡ holds s l
one_own s (local_action p a) = refl
one_own s (local_table p t) = refl
one_own s (local_register p r) = refl
one_own s (local_const p y n e) = refl
one_own s (local_var p y n e) = refl

locals_own : (ls : List Local) (s : Scope) → locals_hold_of is_own s ls ≡ locals_hold s ls
locals_own [] s = refl
locals_own (l ∷ ls) s = ap₂ (λ (a b : List (List ℕ × List Kind)). a ++ b) (one_own s l) (locals_own ls (after_local s l))

pub tops_own : (ts : List Top) (s : Scope) → tops_hold_of is_own s ts ≡ tops_hold s ts
tops_own [] s = refl
tops_own (control p c ∷ ts) s =
    ap₂ (λ (a : List (List ℕ × List Kind)) (b : List (List ℕ × List (List ℕ × List Kind))). (c.name, a) ∷ b) (locals_own c.locals (with_ways s c.params)) (tops_own ts (after_top s (control p c)))
tops_own (constant p y n e ∷ ts) s = tops_own ts (after_top s (constant p y n e))
tops_own (typedef p y n ∷ ts) s = tops_own ts (after_top s (typedef p y n))
tops_own (header_type p n fs ∷ ts) s = tops_own ts (after_top s (header_type p n fs))
tops_own (struct_type p n fs ∷ ts) s = tops_own ts (after_top s (struct_type p n fs))
tops_own (register p r ∷ ts) s = tops_own ts (after_top s (register p r))
tops_own (parser p d ∷ ts) s = tops_own ts (after_top s (parser p d))

-- an own full name is one of an own name
pub own_inside : (x : List ℕ) → is_own x ≡ true → (c y : List ℕ) → full c y ≡ x → is_own y ≡ true
own_inside x o c y e = sym (ap not (full_mine c y)) ∙ (ap is_own e ∙ o)

module _ (keep : List ℕ → Bool) (c x : List ℕ) (kept : (c y : List ℕ) → full c y ≡ x → keep y ≡ true) where
  -- a thing of another name is passed over, and one of this name is found
  passed : (b : Bool) (i : List ℕ × List Kind) (is : List (List ℕ × List Kind)) (other : List Kind) → same_text (full c i.0) x ≡ false → item_kinds c (cond b (i ∷ []) [] ++ is) x other ≡ item_kinds c is x other
  passed true i is other e = ap (λ (t : Bool). cond t i.1 (item_kinds c is x other)) e
  passed false i is other e = refl

  found : (i : List ℕ × List Kind) (is : List (List ℕ × List Kind)) (other : List Kind) → same_text (full c i.0) x ≡ true → item_kinds c (cond (keep i.0) (i ∷ []) [] ++ is) x other ≡ i.1
  found i is other e =
      ap (λ (b : Bool). item_kinds c (cond b (i ∷ []) [] ++ is) x other) (kept c i.0 (text_is (full c i.0) x e))
      ∙ ap (λ (t : Bool). cond t i.1 (item_kinds c is x other)) e

  module _ (bs : List Action) (us : List Table) (vss : List (List ValueShape)) (other : List Kind) (as' : List Action) where
    abbrev KeysAre : List Local → Scope → meaning.Scope → Type 0
    KeysAre ls s sc =
        action_named (actions_in sc ls ++ bs) x ≡ None
        → values_at (locals_values Keys s ls ++ vss) (table_place (tables_in sc as' ls ++ us) x) ≡ map value_of (item_kinds c (locals_hold_of keep s ls) x other)

    key_action : (p : ℕ) (a : tree.Action) (ls : List Local) (s : Scope) (sc : meaning.Scope) → Knows c sc (local_action p a ∷ ls) → KeysAre ls (after_local s (local_action p a)) sc → KeysAre (local_action p a ∷ ls) s sc
    key_action p a ls s sc k more = go (same_text (full_name sc a.name) x) refl
      where
        named : full_name sc a.name ≡ full c a.name
        named = known_full c sc (local_action p a ∷ ls) k a.name (among_head a.name (own_names ls))

        go : (b : Bool) → same_text (full_name sc a.name) x ≡ b → cond b (Some (action_under sc a)) (action_named (actions_in sc ls ++ bs) x) ≡ None
            → values_at (locals_values Keys (after_local s (local_action p a)) ls ++ vss) (table_place (tables_in sc as' ls ++ us) x)
            ≡ map value_of (item_kinds c (holds_of keep s (local_action p a) ++ locals_hold_of keep (after_local s (local_action p a)) ls) x other)
        go true e h = absurd (cc h)
        go false e h = more h ∙ ap (map value_of) (sym (passed (keep a.name) (a.name, kinds_in s a.params) (locals_hold_of keep (after_local s (local_action p a)) ls) other (ap (λ (y : List ℕ). same_text y x) (sym named) ∙ e)))

    key_table : (p : ℕ) (t : tree.Table) (ls : List Local) (s : Scope) (sc : meaning.Scope) → Knows c sc (local_table p t ∷ ls) → KeysAre ls (after_local s (local_table p t)) sc → KeysAre (local_table p t ∷ ls) s sc
    key_table p t ls s sc k more none = go (same_text (full_name sc t.name) x) refl
      where
        named : full_name sc t.name ≡ full c t.name
        named = known_full c sc (local_table p t ∷ ls) k t.name (among_head t.name (own_names ls))

        go : (b : Bool) → same_text (full_name sc t.name) x ≡ b
            → values_at (key_values s t.keys ∷ (locals_values Keys (after_local s (local_table p t)) ls ++ vss)) (cond b 0 (suc (table_place (tables_in sc as' ls ++ us) x)))
            ≡ map value_of (item_kinds c (holds_of keep s (local_table p t) ++ locals_hold_of keep (after_local s (local_table p t)) ls) x other)
        go true e = key_values_are s t.keys ∙ ap (map value_of) (sym (found (t.name, key_kinds s t.keys) (locals_hold_of keep (after_local s (local_table p t)) ls) other (ap (λ (y : List ℕ). same_text y x) (sym named) ∙ e)))
        go false e = more none ∙ ap (map value_of) (sym (passed (keep t.name) (t.name, key_kinds s t.keys) (locals_hold_of keep (after_local s (local_table p t)) ls) other (ap (λ (y : List ℕ). same_text y x) (sym named) ∙ e)))

    keys_in : (action_named bs x ≡ None → values_at vss (table_place us x) ≡ map value_of other) → (ls : List Local) (s : Scope) (sc : meaning.Scope) → Knows c sc ls → KeysAre ls s sc
    keys_in rest [] s sc k = rest
    keys_in rest (local_action p a ∷ ls) s sc k = key_action p a ls s sc k (keys_in rest ls (after_local s (local_action p a)) sc (knows_rest c sc (local_action p a) ls k))
    keys_in rest (local_table p t ∷ ls) s sc k = key_table p t ls s sc k (keys_in rest ls (after_local s (local_table p t)) sc (knows_rest c sc (local_table p t) ls k))
    keys_in rest (local_register p r ∷ ls) s sc k = keys_in rest ls (after_local s (local_register p r)) sc (knows_rest c sc (local_register p r) ls k)
    keys_in rest (local_const p y n e ∷ ls) s sc k = keys_in rest ls (after_local s (local_const p y n e)) (behind_local sc (local_const p y n e)) (knows_rest c sc (local_const p y n e) ls k)
    keys_in rest (local_var p y n e ∷ ls) s sc k = keys_in rest ls (after_local s (local_var p y n e)) sc (knows_rest c sc (local_var p y n e) ls k)

    abbrev ParamsAre : List Local → Scope → meaning.Scope → Type 0
    ParamsAre ls s sc =
        table_named (tables_in sc as' ls ++ us) x ≡ None
        → values_at (locals_values Params s ls ++ vss) (action_place (actions_in sc ls ++ bs) x) ≡ map value_of (item_kinds c (locals_hold_of keep s ls) x other)

    param_table : (p : ℕ) (t : tree.Table) (ls : List Local) (s : Scope) (sc : meaning.Scope) → Knows c sc (local_table p t ∷ ls) → ParamsAre ls (after_local s (local_table p t)) sc → ParamsAre (local_table p t ∷ ls) s sc
    param_table p t ls s sc k more = go (same_text (full_name sc t.name) x) refl
      where
        named : full_name sc t.name ≡ full c t.name
        named = known_full c sc (local_table p t ∷ ls) k t.name (among_head t.name (own_names ls))

        go : (b : Bool) → same_text (full_name sc t.name) x ≡ b → cond b (Some (table_under sc as' t)) (table_named (tables_in sc as' ls ++ us) x) ≡ None
            → values_at (locals_values Params (after_local s (local_table p t)) ls ++ vss) (action_place (actions_in sc ls ++ bs) x)
            ≡ map value_of (item_kinds c (holds_of keep s (local_table p t) ++ locals_hold_of keep (after_local s (local_table p t)) ls) x other)
        go true e h = absurd (cc h)
        go false e h = more h ∙ ap (map value_of) (sym (passed (keep t.name) (t.name, key_kinds s t.keys) (locals_hold_of keep (after_local s (local_table p t)) ls) other (ap (λ (y : List ℕ). same_text y x) (sym named) ∙ e)))

    param_action : (p : ℕ) (a : tree.Action) (ls : List Local) (s : Scope) (sc : meaning.Scope) → Knows c sc (local_action p a ∷ ls) → ParamsAre ls (after_local s (local_action p a)) sc → ParamsAre (local_action p a ∷ ls) s sc
    param_action p a ls s sc k more none = go (same_text (full_name sc a.name) x) refl
      where
        named : full_name sc a.name ≡ full c a.name
        named = known_full c sc (local_action p a ∷ ls) k a.name (among_head a.name (own_names ls))

        go : (b : Bool) → same_text (full_name sc a.name) x ≡ b
            → values_at (param_values s a.params ∷ (locals_values Params (after_local s (local_action p a)) ls ++ vss)) (cond b 0 (suc (action_place (actions_in sc ls ++ bs) x)))
            ≡ map value_of (item_kinds c (holds_of keep s (local_action p a) ++ locals_hold_of keep (after_local s (local_action p a)) ls) x other)
        go true e = param_values_are s a.params ∙ ap (map value_of) (sym (found (a.name, kinds_in s a.params) (locals_hold_of keep (after_local s (local_action p a)) ls) other (ap (λ (y : List ℕ). same_text y x) (sym named) ∙ e)))
        go false e = more none ∙ ap (map value_of) (sym (passed (keep a.name) (a.name, kinds_in s a.params) (locals_hold_of keep (after_local s (local_action p a)) ls) other (ap (λ (y : List ℕ). same_text y x) (sym named) ∙ e)))

    params_in : (table_named us x ≡ None → values_at vss (action_place bs x) ≡ map value_of other) → (ls : List Local) (s : Scope) (sc : meaning.Scope) → Knows c sc ls → ParamsAre ls s sc
    params_in rest [] s sc k = rest
    params_in rest (local_action p a ∷ ls) s sc k = param_action p a ls s sc k (params_in rest ls (after_local s (local_action p a)) sc (knows_rest c sc (local_action p a) ls k))
    params_in rest (local_table p t ∷ ls) s sc k = param_table p t ls s sc k (params_in rest ls (after_local s (local_table p t)) sc (knows_rest c sc (local_table p t) ls k))
    params_in rest (local_register p r ∷ ls) s sc k = params_in rest ls (after_local s (local_register p r)) sc (knows_rest c sc (local_register p r) ls k)
    params_in rest (local_const p y n e ∷ ls) s sc k = params_in rest ls (after_local s (local_const p y n e)) (behind_local sc (local_const p y n e)) (knows_rest c sc (local_const p y n e) ls k)
    params_in rest (local_var p y n e ∷ ls) s sc k = params_in rest ls (after_local s (local_var p y n e)) sc (knows_rest c sc (local_var p y n e) ls k)

-- ---- in a program

module _ (keep : List ℕ → Bool) (x : List ℕ) (kept : (c y : List ℕ) → full c y ≡ x → keep y ≡ true) (as' : List Action) where
  -- the keys of a table, where no action has its name
  pub keys_named : (ts : List Top) (s : Scope) (sc : meaning.Scope) → action_named (actions_of sc ts) x ≡ None
      → values_at (tops_values Keys s ts) (table_place (tables_of sc as' ts) x) ≡ map value_of (kinds_named (tops_hold_of keep s ts) x)
  keys_named [] s sc none = refl
  keys_named (control p c ∷ ts) s sc none =
      keys_in keep c.name x kept (actions_of sc ts) (tables_of sc as' ts) (tops_values Keys (after_top s (control p c)) ts) (kinds_named (tops_hold_of keep (after_top s (control p c)) ts) x) as'
      (keys_named ts (after_top s (control p c)) sc) c.locals (with_ways s c.params) (in_control 0 1 2 sc c) (knows_all 0 1 2 sc c) none
  keys_named (constant p y n e ∷ ts) s sc none = keys_named ts (after_top s (constant p y n e)) (behind_top sc (constant p y n e)) none
  keys_named (typedef p y n ∷ ts) s sc none = keys_named ts (after_top s (typedef p y n)) (behind_top sc (typedef p y n)) none
  keys_named (header_type p n fs ∷ ts) s sc none = keys_named ts (after_top s (header_type p n fs)) sc none
  keys_named (struct_type p n fs ∷ ts) s sc none = keys_named ts (after_top s (struct_type p n fs)) sc none
  keys_named (register p r ∷ ts) s sc none = keys_named ts (after_top s (register p r)) sc none
  keys_named (parser p d ∷ ts) s sc none = keys_named ts (after_top s (parser p d)) sc none

  -- the parameters of an action, where no table has its name
  pub params_named : (ts : List Top) (s : Scope) (sc : meaning.Scope) → table_named (tables_of sc as' ts) x ≡ None
      → values_at (tops_values Params s ts) (action_place (actions_of sc ts) x) ≡ map value_of (kinds_named (tops_hold_of keep s ts) x)
  params_named [] s sc none = refl
  params_named (control p c ∷ ts) s sc none =
      params_in keep c.name x kept (actions_of sc ts) (tables_of sc as' ts) (tops_values Params (after_top s (control p c)) ts) (kinds_named (tops_hold_of keep (after_top s (control p c)) ts) x) as'
      (params_named ts (after_top s (control p c)) sc) c.locals (with_ways s c.params) (in_control 0 1 2 sc c) (knows_all 0 1 2 sc c) none
  params_named (constant p y n e ∷ ts) s sc none = params_named ts (after_top s (constant p y n e)) (behind_top sc (constant p y n e)) none
  params_named (typedef p y n ∷ ts) s sc none = params_named ts (after_top s (typedef p y n)) (behind_top sc (typedef p y n)) none
  params_named (header_type p n fs ∷ ts) s sc none = params_named ts (after_top s (header_type p n fs)) sc none
  params_named (struct_type p n fs ∷ ts) s sc none = params_named ts (after_top s (struct_type p n fs)) sc none
  params_named (register p r ∷ ts) s sc none = params_named ts (after_top s (register p r)) sc none
  params_named (parser p d ∷ ts) s sc none = params_named ts (after_top s (parser p d)) sc none
