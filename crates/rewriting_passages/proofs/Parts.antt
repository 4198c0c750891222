-- The parts of a program with other values: registers, headers, metadata and the parser are the same, and actions and
-- tables stand there by the same numbers.
use Rattle.std.proofs.Common.{◌≡◌, ℕ, List, [], ◌∷◌, ◌++◌, map, Bool, true, false, cond, Option, Some, None, refl, ap, ap₂, ◌∙◌, sym, subst}
use Rattle.std.specs.List.{AllZip}
use Rattle.lex_text.specs.Names.{same_text}
use Rattle.p4_tree.specs.Tree as tree
use Rattle.p4_tree.specs.Tree.{Expr, Local, local_action, local_table, local_register, local_const, local_var, Control, Parser, Top, constant, typedef, header_type, struct_type, register, parser, control, Program}
use Rattle.p4_tree.specs.declared.statement.PTy.{PTy}
use Rattle.p4_meaning.specs.Standard.{headers_root}
use Rattle.p4_meaning.specs.Store.{blank}
use Rattle.p4_meaning.specs.Parsing.{Header}
use Rattle.p4_meaning.specs.Scope as meaning
use Rattle.p4_meaning.specs.Scope.{type_name, full_name}
use Rattle.p4_meaning.specs.Under.{expr_under, no_scope, behind_top, behind_local, in_control}
use Rattle.p4_meaning.specs.Actions.{Param, Action, actions_in, actions_of, action_named, params_of, args_of}
use Rattle.p4_meaning.specs.Tables.{Key, key_under, default_under, table_under, tables_in, tables_of}
use Rattle.p4_meaning.specs.Parts.{Cells, cells_under, header_fields, types_of, field_of, registers_in, registers_of, states_of, parser_type, named_in, parts_of}
use Rattle.rewriting_laws.specs.Standing.{MayStandFor}
use Rattle.rewritten_programs.specs.Rewritten.{KeyRewritten, TableRewritten, LocalRewritten, in_action, in_table, local_register_stays, local_const_stays, in_local_var, TopRewritten, constant_stays, typedef_stays, header_stays, struct_stays, register_stays, parser_stays, in_control as in_a_control}
use Rattle.rewriting_rules.proofs.Programs.{TopsRewritten, parser_found, fields_found}
use Rattle.rewriting_meaning.proofs.Acts.{name_stays, params_stay}
use Rattle.rewriting_passages.specs.Passages.{ActionStands, TableStands}
use Rattle.rewriting_passages.proofs.Scopes.{LocalsRewritten, begin_same, tops_behind, parser_sight}

zip_append : {A : Type 0} (R : A → A → Type 0) (as' bs cs ds : List A) → AllZip R as' bs → AllZip R cs ds → AllZip R (as' ++ cs) (bs ++ ds)
zip_append R [] [] cs ds h k = k
zip_append R [] (b ∷ bs) cs ds h k = absurd h
zip_append R (a ∷ as') [] cs ds h k = absurd h
zip_append R (a ∷ as') (b ∷ bs) cs ds h k = (h.0, zip_append R as' bs cs ds h.1 k)

-- ---- registers

registers_inside : (sc : meaning.Scope) (ls ms : List Local) → LocalsRewritten ls ms → registers_in sc ms ≡ registers_in sc ls
registers_inside sc [] [] r = refl
registers_inside sc [] (m ∷ ms) r = absurd r
registers_inside sc (l ∷ ls) [] r = absurd r
registers_inside sc (l ∷ ls) (m ∷ ms) r = one l m r.0 (registers_inside sc ls ms r.1)
  where
    one : (l m : Local) → LocalRewritten MayStandFor l m → registers_in sc ms ≡ registers_in sc ls → registers_in sc (m ∷ ms) ≡ registers_in sc (l ∷ ls)
    one _ _ (in_action p r) h = h
    one _ _ (in_table p r) h = h
    one _ _ (local_register_stays p g) h = ap (λ (xs : List Cells). cells_under sc g ∷ xs) h
    one _ _ (local_const_stays p t x e) h = h
    one _ _ (in_local_var p t x r) h = h

pub registers_same : (ts us : List Top) → TopsRewritten ts us → (sc : meaning.Scope) → registers_of sc us ≡ registers_of sc ts
registers_same [] [] r sc = refl
registers_same [] (u ∷ us) r sc = absurd r
registers_same (t ∷ ts) [] r sc = absurd r
registers_same (t ∷ ts) (u ∷ us) r sc = one t u r.0 (λ sd. registers_same ts us r.1 sd)
  where
    one : (t u : Top) → TopRewritten MayStandFor t u → ((sd : meaning.Scope) → registers_of sd us ≡ registers_of sd ts) → registers_of sc (u ∷ us) ≡ registers_of sc (t ∷ ts)
    one _ _ (constant_stays p t x e) h = h (behind_top sc (constant p t x e))
    one _ _ (typedef_stays p t x) h = h (behind_top sc (typedef p t x))
    one _ _ (header_stays p x fs) h = h sc
    one _ _ (struct_stays p x fs) h = h sc
    one _ _ (register_stays p g) h = ap (λ (xs : List Cells). cells_under sc g ∷ xs) (h sc)
    one _ _ (parser_stays p d) h = h sc
    one _ _ (in_a_control {c = c} {d = d} p r) h =
        ap₂ (λ (xs ys : List Cells). xs ++ ys) (ap (λ (sd : meaning.Scope). registers_in sd d.locals) (begin_same 0 1 2 sc c d r) ∙ registers_inside (in_control 0 1 2 sc c) c.locals d.locals r.locals) (h sc)

-- ---- actions

actions_inside : (ls ms : List Local) → LocalsRewritten ls ms → (sc : meaning.Scope) → AllZip ActionStands (actions_in sc ls) (actions_in sc ms)
actions_inside [] [] r sc = tt
actions_inside [] (m ∷ ms) r sc = absurd r
actions_inside (l ∷ ls) [] r sc = absurd r
actions_inside (l ∷ ls) (m ∷ ms) r sc = one l m r.0 (λ sd. actions_inside ls ms r.1 sd)
  where
    one : (l m : Local) → LocalRewritten MayStandFor l m → ((sd : meaning.Scope) → AllZip ActionStands (actions_in sd ls) (actions_in sd ms)) → AllZip ActionStands (actions_in sc (l ∷ ls)) (actions_in sc (m ∷ ms))
    one _ _ (in_action {a = a} {b = b} p r) h = (record { name = name_stays sc a b r; params = params_stay sc a b r }, h sc)
    one _ _ (in_table p r) h = h sc
    one _ _ (local_register_stays p g) h = h sc
    one _ _ (local_const_stays p t x e) h = h (behind_local sc (local_const p t x e))
    one _ _ (in_local_var p t x r) h = h sc

pub actions_stand : (ts us : List Top) → TopsRewritten ts us → (sc : meaning.Scope) → AllZip ActionStands (actions_of sc ts) (actions_of sc us)
actions_stand [] [] r sc = tt
actions_stand [] (u ∷ us) r sc = absurd r
actions_stand (t ∷ ts) [] r sc = absurd r
actions_stand (t ∷ ts) (u ∷ us) r sc = one t u r.0 (λ sd. actions_stand ts us r.1 sd)
  where
    one : (t u : Top) → TopRewritten MayStandFor t u → ((sd : meaning.Scope) → AllZip ActionStands (actions_of sd ts) (actions_of sd us)) → AllZip ActionStands (actions_of sc (t ∷ ts)) (actions_of sc (u ∷ us))
    one _ _ (constant_stays p t x e) h = h (behind_top sc (constant p t x e))
    one _ _ (typedef_stays p t x) h = h (behind_top sc (typedef p t x))
    one _ _ (header_stays p x fs) h = h sc
    one _ _ (struct_stays p x fs) h = h sc
    one _ _ (register_stays p g) h = h sc
    one _ _ (parser_stays p d) h = h sc
    one _ _ (in_a_control {c = c} {d = d} p r) h =
        zip_append ActionStands (actions_in (in_control 0 1 2 sc c) c.locals) (actions_in (in_control 0 1 2 sc d) d.locals) (actions_of sc ts) (actions_of sc us)
        (subst (λ (sd : meaning.Scope). AllZip ActionStands (actions_in (in_control 0 1 2 sc c) c.locals) (actions_in sd d.locals)) (sym (begin_same 0 1 2 sc c d r)) (actions_inside c.locals d.locals r.locals (in_control 0 1 2 sc c)))
        (h sc)

-- an action that is found, or none
abbrev FoundStands : Option Action → Option Action → Type 0
FoundStands None None = Unit {0}
FoundStands (Some a) (Some b) = ActionStands a b
FoundStands _ _ = ⊥

action_found : (as' bs : List Action) → AllZip ActionStands as' bs → (x : List ℕ) → FoundStands (action_named as' x) (action_named bs x)
action_found [] [] h x = tt
action_found [] (b ∷ bs) h x = absurd h
action_found (a ∷ as') [] h x = absurd h
action_found (a ∷ as') (b ∷ bs) h x =
    subst (λ (y : List ℕ). FoundStands (action_named (a ∷ as') x) (cond (same_text y x) (Some b) (action_named bs x))) (sym h.0.name) (go (same_text a.name x) (action_found as' bs h.1 x))
  where
    go : (q : Bool) → FoundStands (action_named as' x) (action_named bs x) → FoundStands (cond q (Some a) (action_named as' x)) (cond q (Some b) (action_named bs x))
    go true k = h.0
    go false k = k

found_params : (o p : Option Action) → FoundStands o p → params_of p ≡ params_of o
found_params None None h = refl
found_params None (Some b) h = absurd h
found_params (Some a) None h = absurd h
found_params (Some a) (Some b) h = h.params

found_none : (o p : Option Action) → FoundStands o p → o ≡ None → p ≡ None
found_none None None h e = refl
found_none None (Some b) h e = absurd h
found_none (Some a) p h e = absurd (cc e)

-- a name that finds no action finds none
pub none_there : (as' bs : List Action) → AllZip ActionStands as' bs → (x : List ℕ) → action_named as' x ≡ None → action_named bs x ≡ None
none_there as' bs h x = found_none (action_named as' x) (action_named bs x) (action_found as' bs h x)

-- ---- tables

kinds_same : (sc : meaning.Scope) (ks ls : List (Expr × List ℕ)) → AllZip (KeyRewritten MayStandFor) ks ls → map (λ (k : Key). k.kind) (map (key_under sc) ls) ≡ map (λ (k : Key). k.kind) (map (key_under sc) ks)
kinds_same sc [] [] r = refl
kinds_same sc [] (l ∷ ls) r = absurd r
kinds_same sc (k ∷ ks) [] r = absurd r
kinds_same sc (k ∷ ks) (l ∷ ls) r = ap₂ (λ (x : List ℕ) (xs : List (List ℕ)). x ∷ xs) r.0.1 (kinds_same sc ks ls r.1)

default_same : (as' bs : List Action) → AllZip ActionStands as' bs → (sc : meaning.Scope) (d : Option (List ℕ × List Expr)) → default_under sc bs d ≡ default_under sc as' d
default_same as' bs h sc None = refl
default_same as' bs h sc (Some d) =
    ap (λ (ps : List Param). record { action = full_name sc d.0; args = args_of ps (map (expr_under sc) d.1) blank }) (found_params (action_named as' (full_name sc d.0)) (action_named bs (full_name sc d.0)) (action_found as' bs h (full_name sc d.0)))

module _ (as' bs : List Action) (h : AllZip ActionStands as' bs) where
  table_stands : (sc : meaning.Scope) (t u : tree.Table) → TableRewritten MayStandFor t u → TableStands (table_under sc as' t) (table_under sc bs u)
  table_stands sc t u r =
      record {
        name = ap (λ (v : tree.Table). full_name sc v.name) r.rest;
        kinds = kinds_same sc t.keys u.keys r.keys;
        actions = ap (λ (v : tree.Table). map (full_name sc) v.actions) r.rest;
        default = ap (λ (v : tree.Table). default_under sc bs v.default) r.rest ∙ default_same as' bs h sc t.default;
        fixed = ap (λ (v : tree.Table). v.fixed) r.rest;
      }

  tables_inside : (ls ms : List Local) → LocalsRewritten ls ms → (sc : meaning.Scope) → AllZip TableStands (tables_in sc as' ls) (tables_in sc bs ms)
  tables_inside [] [] r sc = tt
  tables_inside [] (m ∷ ms) r sc = absurd r
  tables_inside (l ∷ ls) [] r sc = absurd r
  tables_inside (l ∷ ls) (m ∷ ms) r sc = one l m r.0 (λ sd. tables_inside ls ms r.1 sd)
    where
      one : (l m : Local) → LocalRewritten MayStandFor l m → ((sd : meaning.Scope) → AllZip TableStands (tables_in sd as' ls) (tables_in sd bs ms)) → AllZip TableStands (tables_in sc as' (l ∷ ls)) (tables_in sc bs (m ∷ ms))
      one _ _ (in_action p r) k = k sc
      one _ _ (in_table {t = t} {u = u} p r) k = (table_stands sc t u r, k sc)
      one _ _ (local_register_stays p g) k = k sc
      one _ _ (local_const_stays p t x e) k = k (behind_local sc (local_const p t x e))
      one _ _ (in_local_var p t x r) k = k sc

  pub tables_stand : (ts us : List Top) → TopsRewritten ts us → (sc : meaning.Scope) → AllZip TableStands (tables_of sc as' ts) (tables_of sc bs us)
  tables_stand [] [] r sc = tt
  tables_stand [] (u ∷ us) r sc = absurd r
  tables_stand (t ∷ ts) [] r sc = absurd r
  tables_stand (t ∷ ts) (u ∷ us) r sc = one t u r.0 (λ sd. tables_stand ts us r.1 sd)
    where
      one : (t u : Top) → TopRewritten MayStandFor t u → ((sd : meaning.Scope) → AllZip TableStands (tables_of sd as' ts) (tables_of sd bs us)) → AllZip TableStands (tables_of sc as' (t ∷ ts)) (tables_of sc bs (u ∷ us))
      one _ _ (constant_stays p t x e) k = k (behind_top sc (constant p t x e))
      one _ _ (typedef_stays p t x) k = k (behind_top sc (typedef p t x))
      one _ _ (header_stays p x fs) k = k sc
      one _ _ (struct_stays p x fs) k = k sc
      one _ _ (register_stays p g) k = k sc
      one _ _ (parser_stays p d) k = k sc
      one _ _ (in_a_control {c = c} {d = d} p r) k =
          zip_append TableStands (tables_in (in_control 0 1 2 sc c) as' c.locals) (tables_in (in_control 0 1 2 sc d) bs d.locals) (tables_of sc as' ts) (tables_of sc bs us)
          (subst (λ (sd : meaning.Scope). AllZip TableStands (tables_in (in_control 0 1 2 sc c) as' c.locals) (tables_in sd bs d.locals)) (sym (begin_same 0 1 2 sc c d r)) (tables_inside c.locals d.locals r.locals (in_control 0 1 2 sc c)))
          (k sc)

-- ---- headers, metadata and the parser

header_fields_found : (ts us : List Top) → TopsRewritten ts us → (x : List ℕ) → header_fields us x ≡ header_fields ts x
header_fields_found [] [] r x = refl
header_fields_found [] (u ∷ us) r x = absurd r
header_fields_found (t ∷ ts) [] r x = absurd r
header_fields_found (t ∷ ts) (u ∷ us) r x = one t u r.0 (header_fields_found ts us r.1 x)
  where
    one : (t u : Top) → TopRewritten MayStandFor t u → header_fields us x ≡ header_fields ts x → header_fields (u ∷ us) x ≡ header_fields (t ∷ ts) x
    one _ _ (constant_stays p t y e) h = h
    one _ _ (typedef_stays p t y) h = h
    one _ _ (header_stays p y fs) h = ap (λ (gs : List (PTy × List ℕ)). cond (same_text y x) fs gs) h
    one _ _ (struct_stays p y fs) h = h
    one _ _ (register_stays p g) h = h
    one _ _ (parser_stays p d) h = h
    one _ _ (in_a_control p r) h = h

module _ (p : Program) (us : List Top) (r : TopsRewritten p.tops us) where
  abbrev pub After : Program
  After = record p { tops = us }

  types_same : types_of us ≡ types_of p.tops
  types_same = ap (λ (sc : meaning.Scope). sc.types) (tops_behind p.tops us r no_scope)

  -- the headers, by the types and by what names of structs and of headers find
  abbrev headers_by : List (List ℕ × PTy) → (List ℕ → List (PTy × List ℕ)) → List (PTy × List ℕ) → List Header
  headers_by types found fs = map (λ (f : PTy × List ℕ). record { path = headers_root ∷ f.1 ∷ []; fields = map (field_of types) (found (type_name f.0)) }) fs

  pub headers_same : (parts_of After).headers ≡ (parts_of p).headers
  headers_same i = headers_by (types_same i) (λ x. header_fields_found p.tops us r x i) (fields_found p.tops us r (parser_type (parser_found p.tops us r (named_in p.main 0) i) 1) i)

  pub metadata_same : (parts_of After).metadata ≡ (parts_of p).metadata
  metadata_same i = map (field_of (types_same i)) (fields_found p.tops us r (parser_type (parser_found p.tops us r (named_in p.main 0) i) 2) i)

  pub states_same : (parts_of After).states ≡ (parts_of p).states
  states_same i = states_of (parser_sight p.tops us r no_scope (named_in p.main 0) i) (parser_found p.tops us r (named_in p.main 0) i)
