-- What is known at a place of a program: headers stand in the struct of headers alone, and of the standard metadata
-- `egress_spec` alone is written. So the paths that are written are writable.
use Rattle.std.proofs.Common.{◌≡◌, ◌⊎◌, inl, inr, ℕ, List, [], ◌∷◌, ◌++◌, Bool, true, false, cond, not, ◌||◌, codes, Option, None, refl, sym, ap, ◌∙◌}
use Rattle.lex_text.specs.Names.{same_text}
use Rattle.rule_tests.specs.Tests.{IsFine}
use Rattle.p4_tree.specs.Tree as tree
use Rattle.p4_tree.specs.Tree.{Expr, Stmt, var, Local, local_action, local_table, local_register, local_const, local_var}
use Rattle.p4_tree.specs.declared.statement.PTy.{PTy}
use Rattle.p4_meaning.specs.Standard.{headers_root, standard_root}
use Rattle.p4_meaning.specs.Scope as meaning
use Rattle.p4_meaning.specs.Scope.{Inner, Roots, root_of, is_among, is_inner, inner_name, first_name, path_under, names_in}
use Rattle.p4_meaning.specs.Under.{with_constant, behind_local, behind_locals}
use Rattle.p4_meaning.specs.Actions.{params_in, in_action}
use Rattle.p4_scopes.specs.Kinds.{widths_differ, kinds_differ}
use Rattle.p4_scopes.specs.Scopes.{Stands, missing, typed, held, cells, act, rows, state, function, algorithm, other, is_missing, value_kind, as_held, type_at, thing_in, Scope, What, value, action, table, behind, declare, core_name, core}
use Rattle.p4_scopes.specs.Scopes as scope
use Rattle.p4_scopes.specs.Uses as use_of
use Rattle.p4_scopes.specs.Uses.{is_scalar, is_header, reads}
use Rattle.p4_scopes.specs.declared.kind.Kind.TheVariants.{Number}
use Rattle.p4_scopes.specs.declared.thing.Thing.{Thing}
use Rattle.p4_scopes.specs.declared.thing.Thing.TheVariants.{Scalar}
use Rattle.p4_scopes.specs.declared.thing.Access.{Access}
use Rattle.p4_scopes.specs.declared.thing.Access.TheVariants.{Writable, Fixed, Constant}
use Rattle.p4_statement_rules.specs.Expressions.{scalar_tests}
use Rattle.p4_statement_rules.specs.Statements.{after, stmt_tests}
use Rattle.p4_statement_rules.specs.declared.rule.Part.{Part}
use Rattle.p4_declaration_rules.specs.Digests.{most_of, most_of_table}
use Rattle.p4_declaration_rules.specs.Declarations.{params_tests, with_params, action_tests}
use Rattle.p4_declaration_rules.specs.Controls.{local_tests, after_local, locals_tests, after_locals}
use Rattle.p4_rule_laws.specs.Kept.{Keeps, IsRooted}
use Rattle.p4_rule_laws.specs.Old.{OldPath}
use Rattle.p4_rule_laws.proofs.KeepsLemmas.{keeps_trans, declare_keeps}
use Rattle.p4_rule_laws.proofs.KeptFine.{declare_rooted}
use Rattle.p4_typing_laws.specs.Along.{IsFlat}
use Rattle.p4_typing_laws.proofs.Fine.{twice_not}
use Rattle.p4_typing_laws.proofs.CallCounts.{text_is, text_same}
use Rattle.p4_typing_laws.proofs.TiedNames.{inner_missing}
use Rattle.p4_typing_laws.proofs.AlongRuns.{flat_type}
use Rattle.p4_typing_laws.proofs.KnownScopes.{FlatWhat, flat_declare}
use Rattle.own_code.specs.Regions.{is_free, is_writable, is_own_header}
use Rattle.own_programs.specs.OwnPrograms.{is_own}
use Rattle.own_programs.proofs.Names.{broken, first_own, both_own}

-- ---- values

-- a value, or a part of one
abbrev pub is_held : Stands → Bool
is_held (held a t) = true
is_held _ = false

-- a header that is no type
abbrev pub is_held_header : Stands → Bool
is_held_header (held a t) = is_header t
is_held_header _ = false

pub missing_unheld : (st : Stands) → is_missing st ≡ true → is_held st ≡ false
missing_unheld missing h = refl
missing_unheld (held a t) h = broken (sym h)
missing_unheld _ h = broken (sym h)

pub header_held : (st : Stands) → is_held_header st ≡ true → is_held st ≡ true
header_held (held a t) h = refl
header_held _ h = h

pub unheld_header : (st : Stands) → is_held st ≡ false → is_held_header st ≡ false
unheld_header (held a t) h = broken h
unheld_header _ h = refl

pub read_held : (st : Stands) → is_missing st ≡ false → reads st ≡ true → is_held st ≡ true
read_held missing h r = broken h
read_held (held a t) h r = refl
read_held _ h r = r

pub scalar_header : (t : Thing) → is_scalar t ≡ true → is_header t ≡ false
scalar_header (Scalar k) h = refl
scalar_header _ h = broken (sym h)

-- ---- a place

-- a field of the standard metadata: `egress_spec` alone is written, and none has 16 bits
pub record IsStandardField (y : List ℕ) (st : Stands) : Type 0 where
  pub spec : use_of.is_writable st ≡ true → y ≡ codes "egress_spec"
  pub narrow : widths_differ (value_kind st) (Number 16) ≡ false → kinds_differ (value_kind st) (Number 16) ≡ false → ⊥

-- a path of two names, of which the first stands for the headers
abbrev pub IsHeaderPath : meaning.Scope → List (List ℕ) → Type 0
IsHeaderPath sc [] = ⊥
IsHeaderPath sc (x ∷ []) = ⊥
IsHeaderPath sc (x ∷ y ∷ []) = first_name sc x ≡ headers_root
IsHeaderPath sc (x ∷ y ∷ z ∷ rest) = ⊥

pub record IsPlace (s : Scope) (sc : meaning.Scope) : Type 0 where
  pub rooted : IsRooted s
  pub keeps : Keeps core s
  pub flat : IsFlat s
  pub headers : (x : List (List ℕ)) → is_held_header (s x) ≡ true → IsHeaderPath sc x
  pub standard : (x y : List ℕ) (rest : List (List ℕ)) → is_held (s (x ∷ y ∷ rest)) ≡ true → first_name sc x ≡ standard_root → IsStandardField y (s (x ∷ y ∷ rest))

-- where the same names have the same roots
same_header_path : (sc sd : meaning.Scope) → ((y : List ℕ) → first_name sd y ≡ first_name sc y) → (x : List (List ℕ)) → IsHeaderPath sc x → IsHeaderPath sd x
same_header_path sc sd names [] h = h
same_header_path sc sd names (x ∷ []) h = h
same_header_path sc sd names (x ∷ y ∷ []) h = names x ∙ h
same_header_path sc sd names (x ∷ y ∷ z ∷ rest) h = h

-- what is declared is no header, and nothing stands behind it
pub record IsSingle (s : Scope) (w : What) : Type 0 where
  pub no_header : is_held_header (behind s w []) ≡ false
  pub alone : (x : List ℕ) (xs : List (List ℕ)) → is_held (behind s w (x ∷ xs)) ≡ false
  pub flat : FlatWhat s w

pub place_declared : (s : Scope) (sc sd : meaning.Scope) (n : List ℕ) (w : What) → IsPlace s sc → ((y : List ℕ) → first_name sd y ≡ first_name sc y) → not (is_missing (s (n ∷ []))) ≡ false → IsSingle s w → IsPlace (declare s n w) sd
unfolding declare
place_declared s sc sd n w b names new one =
    record {
      rooted = declare_rooted s b.rooted n w;
      keeps = keeps_trans core s (declare s n w) b.keeps (declare_keeps s n w new);
      flat = flat_declare s n w b.flat one.flat;
      headers = λ x h. same_header_path sc sd names x (at x h);
      standard = λ x y rest h e. field x y rest (same_text n x) h (sym (names x) ∙ e);
    }
  where
    at_name : (y : List ℕ) (ys : List (List ℕ)) (c : Bool) → is_held_header (cond c (behind s w ys) (s (y ∷ ys))) ≡ true → IsHeaderPath sc (y ∷ ys)
    at_name y [] true h = broken (sym h ∙ one.no_header)
    at_name y (z ∷ zs) true h = broken (sym h ∙ unheld_header _ (one.alone z zs))
    at_name y ys false h = b.headers (y ∷ ys) h

    at : (x : List (List ℕ)) → is_held_header (declare s n w x) ≡ true → IsHeaderPath sc x
    at [] h = b.headers [] h
    at (y ∷ ys) h = at_name y ys (same_text n y) h

    field : (x y : List ℕ) (rest : List (List ℕ)) (c : Bool) → is_held (cond c (behind s w (y ∷ rest)) (s (x ∷ y ∷ rest))) ≡ true → first_name sc x ≡ standard_root → IsStandardField y (cond c (behind s w (y ∷ rest)) (s (x ∷ y ∷ rest)))
    field x y rest true h e = broken (sym h ∙ one.alone y rest)
    field x y rest false h e = b.standard x y rest h e

-- ---- single values, actions, tables and registers

pub single_value : (p : ℕ) (s : Scope) (a : Access) (t : PTy) → IsFlat s → IsFine (scalar_tests p s t) → IsSingle s (value a t)
single_value p s a t flat f = record { no_header = scalar_header (thing_in s t) (twice_not _ f.1); alone = λ x xs. missing_unheld _ (flat_type a s flat p t f x xs); flat = λ e. broken (sym e) }

pub place_value : (p : ℕ) (s : Scope) (sc : meaning.Scope) (n : List ℕ) (a : Access) (t : PTy) → IsPlace s sc → not (is_missing (s (n ∷ []))) ≡ false → IsFine (scalar_tests p s t) → IsPlace (declare s n (value a t)) sc
place_value p s sc n a t b new f = place_declared s sc sc n (value a t) b (λ y. refl) new (single_value p s a t b.flat f)

-- behind a statement
pub place_after : (h : Part) (s : Scope) (sc : meaning.Scope) (c : Stmt) → IsPlace s sc → IsFine (stmt_tests h s c) → IsPlace (after s c) sc
place_after h s sc (var p t x e) b f = place_value p s sc x Writable t b f.1.0 f.1.1.0
place_after h s sc _ b f = b

pub place_local : (h : Part) (s : Scope) (sc : meaning.Scope) (l : Local) → IsPlace s sc → IsFine (local_tests h s l) → IsPlace (after_local s l) (behind_local sc l)
place_local h s sc (local_action p a) b f = place_declared s sc sc a.name (action a.params (most_of s a.body)) b (λ y. refl) f.1.0 (record { no_header = refl; alone = λ x xs. refl; flat = λ e. broken (sym e) })
place_local h s sc (local_table p t) b f = place_declared s sc sc t.name (table (most_of_table s t.actions t.default)) b (λ y. refl) f.1.0 (record { no_header = refl; alone = λ x xs. refl; flat = λ e. broken (sym e) })
place_local h s sc (local_register p r) b f = place_declared s sc sc r.name (scope.register r.ty) b (λ y. refl) f.1.0 (record { no_header = refl; alone = λ x xs. refl; flat = λ e. broken (sym e) })
place_local h s sc (local_const p t x e) b f = place_declared s sc (with_constant sc t x e) x (value Constant t) b (λ y. refl) f.1.0 (single_value p s Constant t b.flat f.1.1.0)
place_local h s sc (local_var p t x e) b f = place_value p s sc x Writable t b f.1.0 f.1.1.0

pub place_locals : (h : Part) (ls : List Local) (s : Scope) (sc : meaning.Scope) → IsPlace s sc → IsFine (locals_tests h s ls) → IsPlace (after_locals s ls) (behind_locals sc ls)
place_locals h [] s sc b f = b
place_locals h (l ∷ ls) s sc b f = place_locals h ls (after_local s l) (behind_local sc l) (place_local h s sc l b f.0) f.1

pub place_params : (p : ℕ) (qs : List (PTy × List ℕ)) (s : Scope) (sc : meaning.Scope) → IsPlace s sc → IsFine (params_tests p s qs) → IsPlace (with_params s qs) sc
place_params p [] s sc b f = b
place_params p (q ∷ qs) s sc b f = place_params p qs (declare s q.1 (value Fixed q.0)) sc (place_value p s sc q.1 Fixed q.0 b f.0.0 f.0.1) f.1

-- ---- in an action, whose own names stand for nothing before it

module _ (h : Part) (s : Scope) (sc : meaning.Scope) (a : tree.Action) (outer : sc.inner ≡ None) (b : IsPlace s sc) (f : IsFine (action_tests h s a)) where
  abbrev inner_names : List (List ℕ)
  inner_names = params_in a.params ++ names_in a.body

  pub unheld_inner : (x : List ℕ) (xs : List (List ℕ)) → is_among inner_names x ≡ true → is_held (s (x ∷ xs)) ≡ true → ⊥
  unheld_inner x xs i k = broken (sym k ∙ missing_unheld (s (x ∷ xs)) (b.rooted.behind x xs (inner_missing h s a f x i)))

  pub outer_first : (x : List ℕ) → is_among inner_names x ≡ false → first_name (in_action sc a) x ≡ first_name sc x
  outer_first x i =
      ap (λ (c : Bool). cond c (inner_name (in_action sc a).inner sc.control x) (root_of sc.roots x)) i
      ∙ sym (ap (λ (o : Option Inner). cond (is_inner o x) (inner_name o sc.control x) (root_of sc.roots x)) outer)

  -- of what is held, each name stands for what it stands for outside
  pub outside : (x : List ℕ) (xs : List (List ℕ)) → is_held (s (x ∷ xs)) ≡ true → first_name (in_action sc a) x ≡ first_name sc x
  outside x xs k = go (is_among inner_names x) refl
    where
      go : (c : Bool) → is_among inner_names x ≡ c → first_name (in_action sc a) x ≡ first_name sc x
      go true i = absurd (unheld_inner x xs i k)
      go false i = outer_first x i

  inner_headers : (x : List (List ℕ)) → is_held_header (s x) ≡ true → IsHeaderPath (in_action sc a) x
  inner_headers [] k = b.headers [] k
  inner_headers (x ∷ []) k = b.headers (x ∷ []) k
  inner_headers (x ∷ y ∷ []) k = outside x (y ∷ []) (header_held _ k) ∙ b.headers (x ∷ y ∷ []) k
  inner_headers (x ∷ y ∷ z ∷ rest) k = b.headers (x ∷ y ∷ z ∷ rest) k

  pub place_inner : IsPlace s (in_action sc a)
  place_inner = record { rooted = b.rooted; keeps = b.keeps; flat = b.flat; headers = inner_headers; standard = λ x y rest k e. b.standard x y rest k (sym (outside x (y ∷ rest) k) ∙ e) }

  pub place_action : IsPlace (with_params s a.params) (in_action sc a)
  place_action = place_params a.at a.params s (in_action sc a) place_inner f.1.0

-- ---- paths

-- what may be assigned, or has 16 bits
abbrev pub MayWrite : Stands → Type 0
MayWrite st = (use_of.is_writable st ≡ true) ⊎ ((widths_differ (value_kind st) (Number 16) ≡ false) × (kinds_differ (value_kind st) (Number 16) ≡ false))

module _ (s : Scope) (sc : meaning.Scope) (b : IsPlace s sc) where
  -- a header is an own one
  pub header_own : (x : List (List ℕ)) → OldPath is_own x → is_held_header (s x) ≡ true → is_own_header (path_under sc x) ≡ true
  header_own [] o h = absurd (b.headers [] h)
  header_own (x ∷ []) o h = absurd (b.headers (x ∷ []) h)
  header_own (x ∷ y ∷ []) o h = both_own (same_text headers_root (first_name sc x)) (is_own y) (text_same headers_root (first_name sc x) (sym (b.headers (x ∷ y ∷ []) h))) o.1.0
  header_own (x ∷ y ∷ z ∷ rest) o h = absurd (b.headers (x ∷ y ∷ z ∷ rest) h)

  pub target_own : (x : List (List ℕ)) → OldPath is_own x → is_missing (s x) ≡ false → reads (s x) ≡ true → MayWrite (s x) → is_writable (path_under sc x) ≡ true
  target_own [] o h r w = broken (sym b.rooted.nowhere ∙ h)
  target_own (x ∷ []) o h r w = first_own sc x o.0
  target_own (x ∷ y ∷ rest) o h r w = both_own (is_free (first_name sc x ∷ y ∷ [])) (cond (same_text standard_root (first_name sc x)) (same_text (codes "egress_spec") y || same_text (codes "checksum_error") y) true) (both_own (is_own (first_name sc x)) (is_own y) (first_own sc x o.0) o.1.0) (go (same_text standard_root (first_name sc x)) refl)
    where
      by_field : IsStandardField y (s (x ∷ y ∷ rest)) → MayWrite (s (x ∷ y ∷ rest)) → (same_text (codes "egress_spec") y || same_text (codes "checksum_error") y) ≡ true
      by_field k (inl e) = ap (λ (z : List ℕ). same_text (codes "egress_spec") z || same_text (codes "checksum_error") z) (k.spec e)
      by_field k (inr e) = absurd (k.narrow e.0 e.1)

      go : (c : Bool) → same_text standard_root (first_name sc x) ≡ c → cond c (same_text (codes "egress_spec") y || same_text (codes "checksum_error") y) true ≡ true
      go true e = by_field (b.standard x y rest (read_held _ h r) (sym (text_is standard_root (first_name sc x) e))) w
      go false e = refl
