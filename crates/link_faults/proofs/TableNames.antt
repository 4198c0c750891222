-- The parts of a table name what was written before.
use Rattle.std.proofs.Common.{◌≡◌, ℕ, List, [], ◌∷◌, ◌++◌, map, Bool, true, false, cond, not, ◌&&◌, ◌||◌, codes, Option, Some, None, refl, sym, ap, ◌∙◌}
use Rattle.lex_text.specs.Names.{same_text}
use Rattle.rule_tests.specs.Tests.{IsFine}
use Rattle.p4_tree.specs.Tree.{Expr, num, flag, path, valid, applied, error_name, negation, inversion, opposite, binary, conditional, slice, cast, Table, Local, local_action, local_table, local_register, local_const, local_var, Top, constant, typedef, header_type, struct_type, register, parser, control}
use Rattle.p4_tree.specs.declared.statement.PTy.TheVariants as type
use Rattle.p4_scopes.specs.Scopes.{Stands, act, is_missing, Scope, core}
use Rattle.p4_scopes.specs.declared.kind.Kind.{Kind}
use Rattle.p4_statement_rules.specs.Expressions.{is_error, expr_tests}
use Rattle.p4_statement_rules.specs.Calls.{as_many}
use Rattle.p4_statement_rules.specs.declared.rule.Part.{Part}
use Rattle.p4_declaration_rules.specs.Parsers.{with_ways}
use Rattle.p4_declaration_rules.specs.Tables.{is_key_kind, all_key_kinds, keys_tests, listed_tests, known_args, default_args, default_tests, table_tests}
use Rattle.p4_declaration_rules.specs.Controls.{local_tests, locals_tests, after_local, part_in, top_tests, tops_tests, after_top}
use Rattle.p4_rule_laws.specs.Old.{OldPath}
use Rattle.p4_typing_laws.proofs.Fine.{typed_fine}
use Rattle.own_code.proofs.Apart.{text_decides}
use Rattle.link_faults.specs.Refusals.{or_else}
use Rattle.link_faults.specs.WrittenNames.{Names, names_of_expr, names_of_exprs, names_of_keys, names_of_default, names_of_local, names_of_locals, names_of_params, names_of_stmts, names_of_top, names_of_tops, is_taken, first_taken}
use Rattle.link_faults.specs.TableNames.{bare_local, bare_top, TablesNameNothingNew}
use Rattle.link_faults.proofs.FreeNames.{IsFree, ways_free, local_free, top_free}
use Rattle.link_faults.proofs.CleanScopes.{is_free, untaken_is_free, IsClean, ways_clean, local_clean, top_clean, core_clean}

-- ---- lists of names

pub first_append : (xs ys : Names) → first_taken (xs ++ ys) ≡ or_else (first_taken xs) (first_taken ys)
first_append [] ys = refl
first_append (x ∷ xs) ys = go (is_taken x) (first_append xs ys)
  where
    go : (b : Bool) → first_taken (xs ++ ys) ≡ or_else (first_taken xs) (first_taken ys) → cond b (Some x) (first_taken (xs ++ ys)) ≡ or_else (cond b (Some x) (first_taken xs)) (first_taken ys)
    go true e = refl
    go false e = e

both_free : (xs ys : Names) → IsFree xs → IsFree ys → IsFree (xs ++ ys)
both_free xs ys h k = first_append xs ys ∙ ap (λ (o : Option (List ℕ)). or_else o (first_taken ys)) h ∙ k

free_one : (x : List ℕ) (xs : Names) → is_free x ≡ true → IsFree xs → IsFree (x ∷ xs)
free_one x xs h k = go (is_taken x) h
  where
    go : (b : Bool) → not b ≡ true → cond b (Some x) (first_taken xs) ≡ None
    go true e = absurd (let z : false ≡ true = e in cc)
    go false e = k

free_path : (xs : List (List ℕ)) → OldPath is_free xs → IsFree xs
free_path [] o = refl
free_path (x ∷ xs) o = free_one x xs o.0 (free_path xs o.1)

-- lists begin alike, and go on alike where their beginnings have nothing that is taken
both_same : (a b c d : Names) → first_taken a ≡ first_taken c → (IsFree c → first_taken b ≡ first_taken d) → first_taken (a ++ b) ≡ first_taken (c ++ d)
both_same a b c d e more = first_append a b ∙ (ap (λ (o : Option (List ℕ)). or_else o (first_taken b)) e ∙ (go (first_taken c) refl ∙ sym (first_append c d)))
  where
    go : (o : Option (List ℕ)) → first_taken c ≡ o → or_else o (first_taken b) ≡ or_else o (first_taken d)
    go None i = more i
    go (Some x) i = refl

item_same : (x : List ℕ) (b d : Names) → (is_taken x ≡ false → first_taken b ≡ first_taken d) → first_taken (x ∷ b) ≡ first_taken (x ∷ d)
item_same x b d more = go (is_taken x) refl
  where
    go : (c : Bool) → is_taken x ≡ c → cond c (Some x) (first_taken b) ≡ cond c (Some x) (first_taken d)
    go true i = refl
    go false i = more i

-- ---- what stands in tables

error_free : (x : List ℕ) → is_error x ≡ true → is_free x ≡ true
error_free x h = go (same_text x (codes "NoError")) refl (same_text x (codes "PacketTooShort")) refl (same_text x (codes "NoMatch")) refl h
  where
    go : (a : Bool) → same_text x (codes "NoError") ≡ a → (b : Bool) → same_text x (codes "PacketTooShort") ≡ b → (c : Bool) → same_text x (codes "NoMatch") ≡ c → (a || b || c) ≡ true → is_free x ≡ true
    go true i b j c k h = ap is_free ((text_decides x (codes "NoError")).0 i)
    go false i true j c k h = ap is_free ((text_decides x (codes "PacketTooShort")).0 j)
    go false i false j true k h = ap is_free ((text_decides x (codes "NoMatch")).0 k)
    go false i false j false k h = absurd (let z : false ≡ true = h in cc)

kind_free : (x : List ℕ) → is_key_kind x ≡ true → is_free x ≡ true
kind_free x h = go (same_text x (codes "exact")) refl (same_text x (codes "lpm")) refl (same_text x (codes "ternary")) refl h
  where
    go : (a : Bool) → same_text x (codes "exact") ≡ a → (b : Bool) → same_text x (codes "lpm") ≡ b → (c : Bool) → same_text x (codes "ternary") ≡ c → (a || b || c) ≡ true → is_free x ≡ true
    go true i b j c k h = ap is_free ((text_decides x (codes "exact")).0 i)
    go false i true j c k h = ap is_free ((text_decides x (codes "lpm")).0 j)
    go false i false j true k h = ap is_free ((text_decides x (codes "ternary")).0 k)
    go false i false j false k h = absurd (let z : false ≡ true = h in cc)

module _ (s : Scope) (clean : IsClean s) where
  free_at : (xs : List (List ℕ)) → is_missing (s xs) ≡ false → IsFree xs
  free_at xs h = free_path xs (clean.clean xs h)

  expr_free : (e : Expr) (w : Kind) → IsFine (expr_tests s w e) → IsFree (names_of_expr e)
  expr_free (num p n) w f = refl
  expr_free (flag p b) w f = refl
  expr_free (path p x) w f = free_at x f.0
  expr_free (valid p x) w f = free_at x f.0
  expr_free (applied p t b) w f = free_at (t ∷ []) f.0
  expr_free (error_name p x) w f = free_one x [] (error_free x (turned (is_error x) f.0)) refl
    where
      turned : (b : Bool) → not b ≡ false → b ≡ true
      turned true h = refl
      turned false h = absurd (let z : true ≡ false = h in cc)
  expr_free (negation p a) w f = expr_free a _ f.1
  expr_free (inversion p a) w f = expr_free a _ f.1
  expr_free (opposite p a) w f = expr_free a _ f.1
  expr_free (binary p op a b) w f = both_free (names_of_expr a) (names_of_expr b) (expr_free a _ f.1.1.0) (expr_free b _ f.1.1.1)
  expr_free (conditional p t a b) w f = both_free (names_of_expr t) (names_of_expr a ++ names_of_expr b) (expr_free t _ f.1.0) (both_free (names_of_expr a) (names_of_expr b) (expr_free a _ f.1.1.0) (expr_free b _ f.1.1.1))
  expr_free (slice p a x y) w f = expr_free a _ f.1.1
  expr_free (cast p (type.Bit v) a) w f = expr_free a _ f.1.1.1
  expr_free (cast p type.Bool a) w f = expr_free a _ f.1.1.1
  expr_free (cast p (type.Named y) a) w f = absurd (let z : true ≡ false = f.1.0 in cc)

  keys_free : (ks : List (Expr × List ℕ)) → all_key_kinds ks ≡ true → IsFine (keys_tests s ks) → IsFree (names_of_keys ks)
  keys_free [] h f = refl
  keys_free (k ∷ ks) h f = both_free (names_of_expr k.0) (k.1 ∷ names_of_keys ks) (expr_free k.0 _ f.0) (free_one k.1 (names_of_keys ks) (kind_free k.1 (two (is_key_kind k.1) (all_key_kinds ks) h).0) (keys_free ks (two (is_key_kind k.1) (all_key_kinds ks) h).1 f.1))
    where
      two : (a b : Bool) → (a && b) ≡ true → (a ≡ true) × (b ≡ true)
      two true b h = (refl, h)
      two false b h = absurd (let z : false ≡ true = h in cc)

  listed_free : (p : ℕ) (xs : List (List ℕ)) → IsFine (listed_tests p s xs) → IsFree xs
  listed_free p [] f = refl
  listed_free p (x ∷ xs) f = free_one x xs (clean.clean (x ∷ []) f.0.0).0 (listed_free p xs f.1)

  args_free : (ks : List Kind) (es : List Expr) → as_many ks es ≡ true → IsFine (known_args s ks es) → IsFree (names_of_exprs es)
  args_free [] [] m f = refl
  args_free [] (e ∷ es) m f = absurd (let z : false ≡ true = m in cc)
  args_free (k ∷ ks) [] m f = refl
  args_free (k ∷ ks) (e ∷ es) m f = both_free (names_of_expr e) (names_of_exprs es) (expr_free e k f.0.0) (args_free ks es m f.1)

  default_free : (p : ℕ) (xs : List (List ℕ)) (d : Option (List ℕ × List Expr)) → IsFine (default_tests p s xs d) → IsFree (names_of_default d)
  default_free p xs None f = refl
  default_free p xs (Some d) f = go (s (d.0 ∷ [])) refl f.1
    where
      turned : (b : Bool) → not b ≡ false → b ≡ true
      turned true h = refl
      turned false h = absurd (let z : true ≡ false = h in cc)

      go : (st : Stands) → s (d.0 ∷ []) ≡ st → IsFine (default_args p s st d.1) → IsFree (d.0 ∷ names_of_exprs d.1)
      go (act ks m) e g = free_one d.0 (names_of_exprs d.1) (clean.clean (d.0 ∷ []) (ap is_missing e)).0 (args_free ks d.1 (turned (as_many ks d.1) g.0) g.1)
      go _ e g = absurd (let z : true ≡ false = g in cc)

  table_free : (t : Table) → IsFine (table_tests s t) → IsFree (names_of_keys t.keys ++ (t.actions ++ names_of_default t.default))
  table_free t f =
      both_free (names_of_keys t.keys) (t.actions ++ names_of_default t.default) (keys_free t.keys (kinds (all_key_kinds t.keys) _ _ f.1.0) f.1.1.0)
      (both_free t.actions (names_of_default t.default) (listed_free t.at t.actions f.1.1.1.1.0) (default_free t.at t.actions t.default f.1.1.1.1.1))
    where
      kinds : (a b c : Bool) → (not a || b || c) ≡ false → a ≡ true
      kinds true b c h = refl
      kinds false b c h = absurd (let z : true ≡ false = h in cc)

  local_same : (h : Part) (l : Local) → IsFine (local_tests h s l) → first_taken (names_of_local (bare_local l)) ≡ first_taken (names_of_local l)
  local_same h (local_action p a) f = refl
  local_same h (local_table p t) f = item_same t.name [] (names_of_keys t.keys ++ (t.actions ++ names_of_default t.default)) (λ e. sym (table_free t f.1))
  local_same h (local_register p r) f = refl
  local_same h (local_const p t x e) f = refl
  local_same h (local_var p t x e) f = refl

-- ---- along the text

locals_same : (h : Part) (ls : List Local) (s : Scope) → IsClean s → IsFine (locals_tests h s ls) → first_taken (names_of_locals (map bare_local ls)) ≡ first_taken (names_of_locals ls)
locals_same h [] s k f = refl
locals_same h (l ∷ ls) s k f =
    both_same (names_of_local (bare_local l)) (names_of_locals (map bare_local ls)) (names_of_local l) (names_of_locals ls) (local_same s k h l f.0)
    (λ free. locals_same h ls (after_local s l) (local_clean s k l (local_free is_free untaken_is_free l free)) f.1)

top_same : (main : List (List ℕ)) (t : Top) (s : Scope) → IsClean s → IsFine (top_tests main s t) → first_taken (names_of_top (bare_top t)) ≡ first_taken (names_of_top t)
top_same main (constant p t x e) s k f = refl
top_same main (typedef p t x) s k f = refl
top_same main (header_type p x fs) s k f = refl
top_same main (struct_type p x fs) s k f = refl
top_same main (register p r) s k f = refl
top_same main (parser p d) s k f = refl
top_same main (control p c) s k f =
    item_same c.name (names_of_params c.params ++ (names_of_locals (map bare_local c.locals) ++ names_of_stmts c.apply)) (names_of_params c.params ++ (names_of_locals c.locals ++ names_of_stmts c.apply))
    (λ e. both_same (names_of_params c.params) (names_of_locals (map bare_local c.locals) ++ names_of_stmts c.apply) (names_of_params c.params) (names_of_locals c.locals ++ names_of_stmts c.apply) refl
    (λ free. both_same (names_of_locals (map bare_local c.locals)) (names_of_stmts c.apply) (names_of_locals c.locals) (names_of_stmts c.apply)
    (locals_same (part_in main c.name) c.locals (with_ways s c.params) (ways_clean s k c.params (ways_free is_free untaken_is_free c.params free)) f.1.1.0) (λ all. refl)))

tops_same : (main : List (List ℕ)) (ts : List Top) (s : Scope) → IsClean s → IsFine (tops_tests main s ts) → first_taken (names_of_tops (map bare_top ts)) ≡ first_taken (names_of_tops ts)
tops_same main [] s k f = refl
tops_same main (t ∷ ts) s k f =
    both_same (names_of_top (bare_top t)) (names_of_tops (map bare_top ts)) (names_of_top t) (names_of_tops ts) (top_same main t s k f.0)
    (λ free. tops_same main ts (after_top s t) (top_clean s k t (top_free is_free untaken_is_free t free)) f.1)

pub tables_name_nothing_new : TablesNameNothingNew
tables_name_nothing_new p well = both_same (names_of_tops (map bare_top p.tops)) p.main (names_of_tops p.tops) p.main (tops_same p.main p.tops core core_clean (typed_fine p well).0) (λ free. refl)
