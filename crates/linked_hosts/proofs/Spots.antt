-- At a place of a well-typed program the packet's length is read by the name of the standard metadata alone.
use Rattle.std.proofs.Common.{codes, ◌≡◌, ℕ, List, [], ◌∷◌, ◌++◌, Bool, true, false, cond, not, ◌&&◌, ◌||◌, Option, Some, None, refl, sym, ap, ap₂, ◌∙◌}
use Rattle.lex_text.specs.Names.{same_text}
use Rattle.rule_tests.specs.Tests.{IsFine}
use Rattle.p4_tree.specs.Tree as tree
use Rattle.p4_tree.specs.Tree.{Expr, num, flag, path, valid, applied, error_name, negation, inversion, opposite, binary, conditional, slice, cast, Arg, one, many, Stmt, Stmts, MaybeStmt, nothing, block, var, assign, choice, return_, exit_, call, done, next, without, otherwise, stmts_from, Keyset, any, only, masked, Case, Transition, nowhere, to, select, ParserState, Local, local_action, local_table, local_register, local_const, local_var}
use Rattle.p4_tree.specs.declared.statement.PTy.{PTy}
use Rattle.p4_tree.specs.declared.statement.PTy.TheVariants as type
use Rattle.p4_meaning.specs.Standard.{metadata_root, standard_root}
use Rattle.p4_meaning.specs.Scope as meaning
use Rattle.p4_meaning.specs.Scope.{Inner, Roots, is_among, is_inner, inner_name, root_of, names_in, first_name}
use Rattle.p4_meaning.specs.Under.{with_constant, behind_local, behind_locals}
use Rattle.p4_meaning.specs.Actions.{params_in, in_action}
use Rattle.p4_scopes.specs.Scopes.{Stands, missing, typed, held, algorithm, is_missing, as_held, as_typed, type_at, scalar_at, field_at, Scope, What, alias, fields, value, action, table, parser_state, part, behind, declare, core}
use Rattle.p4_scopes.specs.Scopes as scope
use Rattle.p4_scopes.specs.Uses.{reads, holds_header, holds_standard, is_algorithm}
use Rattle.p4_scopes.specs.declared.kind.Kind.{Kind}
use Rattle.p4_scopes.specs.declared.kind.Kind.TheVariants.{Number, Truth}
use Rattle.p4_scopes.specs.declared.thing.Thing.TheVariants.{Scalar}
use Rattle.p4_scopes.specs.declared.thing.Access.TheVariants.{Writable, Fixed, Constant}
use Rattle.p4_statement_rules.specs.Expressions.{scalar_tests, expr_tests, all_free}
use Rattle.p4_statement_rules.specs.Forms.{Form, unknown, ill, drops, digests, sums, extracts, emits, applies, reads_cell, writes_cell, makes_valid, acts, form_of}
use Rattle.p4_statement_rules.specs.Calls.{as_many, path_arg, single_tests, target_arg, index_arg, arg_tests, args_tests, field_arg, summed_arg, digest_values, form_tests}
use Rattle.p4_statement_rules.specs.Statements.{start_tests, if_tests, after, stmt_tests, block_tests, else_tests}
use Rattle.p4_statement_rules.specs.declared.rule.Part.{Part}
use Rattle.p4_statement_rules.specs.declared.rule.Part.TheVariants as place
use Rattle.p4_declaration_rules.specs.Digests.{most_of, most_of_table}
use Rattle.p4_declaration_rules.specs.Declarations.{params_tests, with_params, action_tests}
use Rattle.p4_declaration_rules.specs.Tables.{keys_tests}
use Rattle.p4_declaration_rules.specs.Parsers.{key_tests, keyset_tests, each_keyset, keysets_tests, cases_tests, transition_tests, is_state_name, with_state, with_ends, with_states, states_tests}
use Rattle.p4_declaration_rules.specs.Controls.{action_part, local_tests, after_local, locals_tests, after_locals}
use Rattle.p4_parser_states.specs.Cycles.{state_names}
use Rattle.p4_typing_laws.proofs.Fine.{twice_not}
use Rattle.p4_typing_laws.proofs.CallCounts.{text_is}
use Rattle.p4_typing_laws.proofs.TiedNames.{inner_missing}
use Rattle.p4_rule_laws.proofs.KeepsLemmas.{after_local_keeps}
use Rattle.own_programs.proofs.Names.{broken}
use Rattle.own_programs.proofs.Places.{is_held, read_held, IsPlace, IsSingle, place_declared, single_value, outside, place_inner}
use Rattle.linked_programs.specs.Reads.{PathReads, ExprReads, ExprsRead, StartReads, ArgReads, ArgsRead, StmtReads, ElseReads, StmtsRead, KeysRead, ParsesRead, KeysetReads, KeysetsRead, CasesRead, TransitionReads, StatesRead, LocalsReadBy}

-- ---- what checksums are reckoned by is not called so

abbrev is_sum : Stands → Bool
is_sum algorithm = true
is_sum _ = false

pub record NoSum (s : Scope) : Type 0 where
  pub none : (x : List ℕ) (ys : List (List ℕ)) → is_sum (s (x ∷ codes "packet_length" ∷ ys)) ≡ false

held_sum : (a : _) (st : Stands) → is_sum (as_held a st) ≡ false
held_sum a (typed f t) = refl
held_sum a _ = refl

typed_sum : (st : Stands) → is_sum (as_typed st) ≡ false
typed_sum (typed f t) = refl
typed_sum _ = refl

scalar_sum : (k : Kind) (xs : List (List ℕ)) → is_sum (scalar_at k xs) ≡ false
scalar_sum k [] = refl
scalar_sum k (x ∷ xs) = refl

type_sum : (s : Scope) (t : PTy) (xs : List (List ℕ)) → is_sum (type_at s t xs) ≡ false
type_sum s (type.Bit w) xs = scalar_sum (Number w) xs
type_sum s type.Bool xs = scalar_sum Truth xs
type_sum s (type.Named x) xs = typed_sum (s (x ∷ xs))

field_sum : (s : Scope) (fs : List (PTy × List ℕ)) (x : List ℕ) (xs : List (List ℕ)) → is_sum (field_at s fs x xs) ≡ false
field_sum s [] x xs = refl
field_sum s (f ∷ fs) x xs = go (same_text f.1 x) (field_sum s fs x xs)
  where
    go : (b : Bool) → is_sum (field_at s fs x xs) ≡ false → is_sum (cond b (type_at s f.0 xs) (field_at s fs x xs)) ≡ false
    go true h = type_sum s f.0 xs
    go false h = h

behind_sum : (s : Scope) (w : What) (x : List ℕ) (xs : List (List ℕ)) → is_sum (behind s w (x ∷ xs)) ≡ false
behind_sum s (alias t) x xs = refl
behind_sum s (fields h fs) x xs = field_sum s fs x xs
behind_sum s (value a t) x xs = held_sum a (type_at s t (x ∷ xs))
behind_sum s (scope.register t) x xs = refl
behind_sum s (action ps m) x xs = refl
behind_sum s (table m) x xs = refl
behind_sum s parser_state x xs = refl
behind_sum s part x xs = refl

pub sum_declared : (s : Scope) (n : List ℕ) (w : What) → NoSum s → NoSum (declare s n w)
unfolding declare
sum_declared s n w h = record { none = λ x ys. go x ys (same_text n x) }
  where
    go : (x : List ℕ) (ys : List (List ℕ)) (b : Bool) → is_sum (cond b (behind s w (codes "packet_length" ∷ ys)) (s (x ∷ codes "packet_length" ∷ ys))) ≡ false
    go x ys true = behind_sum s w (codes "packet_length") ys
    go x ys false = h.none x ys

pub core_sum : NoSum core
unfolding core
core_sum = record { none = λ x ys. go x ys }
  where
    by : (a b : Bool) → is_sum (cond a (typed true (Scalar (Number 32))) (cond (b && false) algorithm missing)) ≡ false
    by true b = refl
    by false true = refl
    by false false = refl

    go : (x : List ℕ) (ys : List (List ℕ)) → is_sum (core (x ∷ codes "packet_length" ∷ ys)) ≡ false
    go x [] = by (same_text x (codes "standard_metadata_t")) (same_text x (codes "HashAlgorithm"))
    go x (y ∷ ys) = refl

-- ---- a spot

pub record ReadsBy (r : Roots) (s : Scope) (sc : meaning.Scope) : Type 0 where
  pub only : (x y : List ℕ) (ys : List (List ℕ)) → is_held (s (x ∷ y ∷ ys)) ≡ true → same_text standard_root (first_name sc x) ≡ same_text r.standard x

pub record Spot (r : Roots) (s : Scope) (sc : meaning.Scope) : Type 0 where
  pub place : IsPlace s sc
  pub reads : ReadsBy r s sc
  pub sums : NoSum s

pub spot_declared : (r : Roots) (s : Scope) (sc sd : meaning.Scope) (n : List ℕ) (w : What) → Spot r s sc → ((y : List ℕ) → first_name sd y ≡ first_name sc y) → not (is_missing (s (n ∷ []))) ≡ false → IsSingle s w → Spot r (declare s n w) sd
unfolding declare
spot_declared r s sc sd n w b names new single =
    record {
      place = place_declared s sc sd n w b.place names new single;
      reads = record { only = λ x y ys h. go x y ys (same_text n x) h };
      sums = sum_declared s n w b.sums;
    }
  where
    go : (x y : List ℕ) (ys : List (List ℕ)) (c : Bool) → is_held (cond c (behind s w (y ∷ ys)) (s (x ∷ y ∷ ys))) ≡ true → same_text standard_root (first_name sd x) ≡ same_text r.standard x
    go x y ys true h = broken (sym h ∙ single.alone y ys)
    go x y ys false h = ap (same_text standard_root) (names x) ∙ b.reads.only x y ys h

spot_value : (r : Roots) (p : ℕ) (s : Scope) (sc : meaning.Scope) (n : List ℕ) (a : _) (t : PTy) → Spot r s sc → not (is_missing (s (n ∷ []))) ≡ false → IsFine (scalar_tests p s t) → Spot r (declare s n (value a t)) sc
spot_value r p s sc n a t b new f = spot_declared r s sc sc n (value a t) b (λ y. refl) new (single_value p s a t b.place.flat f)

pub spot_after : (r : Roots) (h : Part) (s : Scope) (sc : meaning.Scope) (c : Stmt) → Spot r s sc → IsFine (stmt_tests h s c) → Spot r (after s c) sc
spot_after r h s sc (var p t x e) b f = spot_value r p s sc x Writable t b f.1.0 f.1.1.0
spot_after r h s sc _ b f = b

pub spot_local : (r : Roots) (h : Part) (s : Scope) (sc : meaning.Scope) (l : Local) → Spot r s sc → IsFine (local_tests h s l) → Spot r (after_local s l) (behind_local sc l)
spot_local r h s sc (local_action p a) b f = spot_declared r s sc sc a.name (action a.params (most_of s a.body)) b (λ y. refl) f.1.0 (record { no_header = refl; alone = λ x xs. refl; flat = λ e. broken (sym e) })
spot_local r h s sc (local_table p t) b f = spot_declared r s sc sc t.name (table (most_of_table s t.actions t.default)) b (λ y. refl) f.1.0 (record { no_header = refl; alone = λ x xs. refl; flat = λ e. broken (sym e) })
spot_local r h s sc (local_register p d) b f = spot_declared r s sc sc d.name (scope.register d.ty) b (λ y. refl) f.1.0 (record { no_header = refl; alone = λ x xs. refl; flat = λ e. broken (sym e) })
spot_local r h s sc (local_const p t x e) b f = spot_declared r s sc (with_constant sc t x e) x (value Constant t) b (λ y. refl) f.1.0 (single_value p s Constant t b.place.flat f.1.1.0)
spot_local r h s sc (local_var p t x e) b f = spot_value r p s sc x Writable t b f.1.0 f.1.1.0

pub spot_locals : (r : Roots) (h : Part) (ls : List Local) (s : Scope) (sc : meaning.Scope) → Spot r s sc → IsFine (locals_tests h s ls) → Spot r (after_locals s ls) (behind_locals sc ls)
spot_locals r h [] s sc b f = b
spot_locals r h (l ∷ ls) s sc b f = spot_locals r h ls (after_local s l) (behind_local sc l) (spot_local r h s sc l b f.0) f.1

spot_params : (r : Roots) (p : ℕ) (qs : List (PTy × List ℕ)) (s : Scope) (sc : meaning.Scope) → Spot r s sc → IsFine (params_tests p s qs) → Spot r (with_params s qs) sc
spot_params r p [] s sc b f = b
spot_params r p (q ∷ qs) s sc b f = spot_params r p qs (declare s q.1 (value Fixed q.0)) sc (spot_value r p s sc q.1 Fixed q.0 b f.0.0 f.0.1) f.1

spot_action : (r : Roots) (h : Part) (s : Scope) (sc : meaning.Scope) (a : tree.Action) → sc.inner ≡ None → Spot r s sc → IsFine (action_tests h s a) → Spot r (with_params s a.params) (in_action sc a)
spot_action r h s sc a outer b f =
    spot_params r a.at a.params s (in_action sc a)
    (record {
      place = place_inner h s sc a outer b.place f;
      reads = record { only = λ x y ys k. ap (same_text standard_root) (outside h s sc a outer b.place f x (y ∷ ys) k) ∙ b.reads.only x y ys k };
      sums = b.sums;
    })
    f.1.0

-- ---- paths

and_true : (b : Bool) → (b && true) ≡ b
and_true true = refl
and_true false = refl

no_and : (a : Bool) → (a && false) ≡ false
no_and true = refl
no_and false = refl

module _ (r : Roots) (s : Scope) (sc : meaning.Scope) (b : Spot r s sc) where
  held_reads : (x : List (List ℕ)) → is_held (s x) ≡ true → PathReads (first_name sc) r x
  held_reads [] h = tt
  held_reads (x ∷ []) h = tt
  held_reads (x ∷ y ∷ []) h = ap₂ (λ (c d : Bool). c && d) (b.reads.only x y [] h) (and_true (same_text (codes "packet_length") y))
  held_reads (x ∷ y ∷ z ∷ rest) h = tt

  read_reads : (x : List (List ℕ)) → is_missing (s x) ≡ false → not (reads (s x)) ≡ false → PathReads (first_name sc) r x
  read_reads x m f = held_reads x (read_held (s x) m (twice_not _ f))

  header_reads : (x : List (List ℕ)) → is_missing (s x) ≡ false → not (holds_header (s x)) ≡ false → PathReads (first_name sc) r x
  header_reads x m f = held_reads x (by (s x) m (twice_not _ f))
    where
      by : (st : Stands) → is_missing st ≡ false → holds_header st ≡ true → is_held st ≡ true
      by missing m f = broken m
      by (held a t) m f = refl
      by _ m f = broken (sym f)

  standard_reads : (x : List (List ℕ)) → is_missing (s x) ≡ false → not (holds_standard (s x)) ≡ false → PathReads (first_name sc) r x
  standard_reads x m f = held_reads x (by (s x) m (twice_not _ f))
    where
      by : (st : Stands) → is_missing st ≡ false → holds_standard st ≡ true → is_held st ≡ true
      by missing m f = broken m
      by (held a t) m f = refl
      by _ m f = broken (sym f)

  -- ---- expressions

  expr_reads : (e : Expr) (w : Kind) → IsFine (expr_tests s w e) → ExprReads (first_name sc) r e
  expr_reads (num p n) w f = tt
  expr_reads (flag p v) w f = tt
  expr_reads (path p x) w f = read_reads x f.0 f.1.0
  expr_reads (valid p x) w f = tt
  expr_reads (applied p t h) w f = tt
  expr_reads (error_name p x) w f = tt
  expr_reads (negation p a) w f = expr_reads a _ f.1
  expr_reads (inversion p a) w f = expr_reads a _ f.1
  expr_reads (opposite p a) w f = expr_reads a _ f.1
  expr_reads (binary p op a c) w f = (expr_reads a _ f.1.1.0, expr_reads c _ f.1.1.1)
  expr_reads (conditional p t a c) w f = (expr_reads t _ f.1.0, expr_reads a _ f.1.1.0, expr_reads c _ f.1.1.1)
  expr_reads (slice p a hi lo) w f = expr_reads a _ f.1.1
  expr_reads (cast p t a) w f = expr_reads a _ f.1.1.1

  frees_read : (es : List Expr) → IsFine (all_free s es) → ExprsRead (first_name sc) r es
  frees_read [] f = tt
  frees_read (e ∷ es) f = (expr_reads e _ f.0, frees_read es f.1)

  -- ---- arguments

  fits_reads : (fits : Stands → Bool) → ((x : List (List ℕ)) → is_missing (s x) ≡ false → not (fits (s x)) ≡ false → PathReads (first_name sc) r x) → (a : Arg) → IsFine (path_arg fits s a) → ArgReads (first_name sc) r a
  fits_reads fits k (one q (path t x)) f = k x f.0 f.1
  fits_reads fits k (one q e) f = broken f
  fits_reads fits k (many q es) f = broken f

  single_reads : (p : ℕ) (fits : Stands → Bool) → ((x : List (List ℕ)) → is_missing (s x) ≡ false → not (fits (s x)) ≡ false → PathReads (first_name sc) r x) → (xs : List Arg) → IsFine (single_tests p fits s xs) → ArgsRead (first_name sc) r xs
  single_reads p fits k [] f = tt
  single_reads p fits k (a ∷ []) f = (fits_reads fits k a f, tt)
  single_reads p fits k (a ∷ c ∷ rest) f = broken f

  value_reads : (k : Kind) (a : Arg) → IsFine (arg_tests s k a) → ArgReads (first_name sc) r a
  value_reads k (one q e) f = expr_reads e k f
  value_reads k (many q es) f = broken f

  index_reads : (a : Arg) → IsFine (index_arg s a) → ArgReads (first_name sc) r a
  index_reads (one q e) f = expr_reads e _ f
  index_reads (many q es) f = broken f

  values_read : (ks : List Kind) (xs : List Arg) → as_many ks xs ≡ true → IsFine (args_tests s ks xs) → ArgsRead (first_name sc) r xs
  values_read [] [] m f = tt
  values_read [] (a ∷ xs) m f = broken (sym m)
  values_read (k ∷ ks) [] m f = tt
  values_read (k ∷ ks) (a ∷ xs) m f = (value_reads k a f.0, values_read ks xs m f.1)

  target_reads : (k : Kind) (a : Arg) → IsFine (target_arg s k a) → ArgReads (first_name sc) r a
  target_reads k (one q (path t x)) f = read_reads x f.0.0 f.0.1.0
  target_reads k (one q e) f = broken f
  target_reads k (many q es) f = broken f

  field_reads : (v : Bool) (a : Arg) → IsFine (field_arg v s a) → ArgReads (first_name sc) r a
  field_reads true (one q (path t x)) f = read_reads x f.0.0 (by (not (reads (s x))) _ f.0.1)
    where
      by : (a c : Bool) → (a || c) ≡ false → a ≡ false
      by true c g = broken g
      by false c g = refl
  field_reads false (one q (path t x)) f = read_reads x f.0.0 f.0.1.0
  field_reads v (one q e) f = broken f
  field_reads v (many q es) f = broken f

  summed_reads : (a : Arg) → IsFine (summed_arg s a) → ArgReads (first_name sc) r a
  summed_reads (one q e) f = broken f
  summed_reads (many q es) f = frees_read es f.1

  digest_reads : (a : Arg) → IsFine (digest_values s a) → ArgReads (first_name sc) r a
  digest_reads (one q e) f = broken f
  digest_reads (many q es) f = frees_read es f.1

  -- what checksums are reckoned by has another name
  sum_path : (x : List (List ℕ)) → is_missing (s x) ≡ false → not (is_algorithm (s x)) ≡ false → PathReads (first_name sc) r x
  sum_path [] m f = tt
  sum_path (x ∷ []) m f = tt
  sum_path (x ∷ y ∷ z ∷ rest) m f = tt
  sum_path (x ∷ y ∷ []) m f = go (same_text (codes "packet_length") y) refl
    where
      is_one : (st : Stands) → is_missing st ≡ false → not (is_algorithm st) ≡ false → is_sum st ≡ true
      is_one missing m f = broken m
      is_one algorithm m f = refl
      is_one _ m f = broken f

      go : (c : Bool) → same_text (codes "packet_length") y ≡ c → (same_text standard_root (first_name sc x) && (same_text (codes "packet_length") y && true)) ≡ (same_text r.standard x && same_text (codes "packet_length") y)
      go true e =
          broken (sym (is_one (s (x ∷ y ∷ [])) m f) ∙ ap (λ (z : List ℕ). is_sum (s (x ∷ z ∷ []))) (sym (text_is (codes "packet_length") y e)) ∙ b.sums.none x [])
      go false e =
          ap (λ (d : Bool). same_text standard_root (first_name sc x) && (d && true)) e ∙ no_and (same_text standard_root (first_name sc x))
          ∙ sym (ap (λ (d : Bool). same_text r.standard x && d) e ∙ no_and (same_text r.standard x))

  call_reads : (p : ℕ) (g : Form) (xs : List Arg) → IsFine (form_tests p s g xs) → ArgsRead (first_name sc) r xs
  call_reads p unknown xs f = broken f
  call_reads p ill xs f = broken f
  call_reads p drops xs f = single_reads p holds_standard standard_reads xs f
  call_reads p digests (one q (num t n) ∷ c ∷ []) f = (tt, (digest_reads c f.1, tt))
  call_reads p (sums v) (c ∷ list ∷ field ∷ a ∷ []) f = (value_reads _ c f.0, (summed_reads list f.1.0, (field_reads v field f.1.1.0, (fits_reads is_algorithm sum_path a f.1.1.1, tt))))
  call_reads p extracts xs f = single_reads p holds_header header_reads xs f
  call_reads p emits xs f = single_reads p holds_header header_reads xs f
  call_reads p applies [] f = tt
  call_reads p makes_valid [] f = tt
  call_reads p (reads_cell k) (t ∷ i ∷ []) f = (target_reads k t f.0, (index_reads i f.1, tt))
  call_reads p (writes_cell k) (i ∷ v ∷ []) f = (index_reads i f.0, (value_reads k v f.1, tt))
  call_reads p (acts ks) xs f = values_read ks xs (twice_not _ f.0) f.1
  call_reads p digests [] f = broken f
  call_reads p digests (a ∷ []) f = broken f
  call_reads p digests (one q e ∷ c ∷ []) f = broken f.0
  call_reads p digests (many q es ∷ c ∷ []) f = broken f.0
  call_reads p digests (a ∷ c ∷ d ∷ rest) f = broken f
  call_reads p (sums v) [] f = broken f
  call_reads p (sums v) (a ∷ []) f = broken f
  call_reads p (sums v) (a ∷ c ∷ []) f = broken f
  call_reads p (sums v) (a ∷ c ∷ d ∷ []) f = broken f
  call_reads p (sums v) (a ∷ c ∷ d ∷ e ∷ g ∷ rest) f = broken f
  call_reads p applies (a ∷ xs) f = broken f
  call_reads p makes_valid (a ∷ xs) f = broken f
  call_reads p (reads_cell k) [] f = broken f
  call_reads p (reads_cell k) (a ∷ []) f = broken f
  call_reads p (reads_cell k) (a ∷ c ∷ d ∷ rest) f = broken f
  call_reads p (writes_cell k) [] f = broken f
  call_reads p (writes_cell k) (a ∷ []) f = broken f
  call_reads p (writes_cell k) (a ∷ c ∷ d ∷ rest) f = broken f

  test_reads : (h : Part) (e : Expr) → IsFine (if_tests h s e) → ExprReads (first_name sc) r e
  test_reads h (applied p t v) f = tt
  test_reads h (negation p (applied q t v)) f = tt
  test_reads h (negation p (num q n)) f = tt
  test_reads h (negation p (flag q n)) f = tt
  test_reads h (negation p (path q x)) f = expr_reads (negation p (path q x)) Truth f
  test_reads h (negation p (valid q x)) f = tt
  test_reads h (negation p (error_name q x)) f = tt
  test_reads h (negation p (negation q a)) f = expr_reads (negation p (negation q a)) Truth f
  test_reads h (negation p (inversion q a)) f = expr_reads (negation p (inversion q a)) Truth f
  test_reads h (negation p (opposite q a)) f = expr_reads (negation p (opposite q a)) Truth f
  test_reads h (negation p (binary q op a c)) f = expr_reads (negation p (binary q op a c)) Truth f
  test_reads h (negation p (conditional q t a c)) f = expr_reads (negation p (conditional q t a c)) Truth f
  test_reads h (negation p (slice q a hi lo)) f = expr_reads (negation p (slice q a hi lo)) Truth f
  test_reads h (negation p (cast q t a)) f = expr_reads (negation p (cast q t a)) Truth f
  test_reads h (num p n) f = tt
  test_reads h (flag p n) f = tt
  test_reads h (path p x) f = expr_reads (path p x) Truth f
  test_reads h (valid p x) f = tt
  test_reads h (error_name p x) f = tt
  test_reads h (inversion p a) f = expr_reads (inversion p a) Truth f
  test_reads h (opposite p a) f = expr_reads (opposite p a) Truth f
  test_reads h (binary p op a c) f = expr_reads (binary p op a c) Truth f
  test_reads h (conditional p t a c) f = expr_reads (conditional p t a c) Truth f
  test_reads h (slice p a hi lo) f = expr_reads (slice p a hi lo) Truth f
  test_reads h (cast p t a) f = expr_reads (cast p t a) Truth f

  start_reads : (k : Kind) (e : Option Expr) → IsFine (start_tests s k e) → StartReads (first_name sc) r e
  start_reads k None f = tt
  start_reads k (Some e) f = expr_reads e k f

  keys_read : (ks : List (Expr × List ℕ)) → IsFine (keys_tests s ks) → KeysRead (first_name sc) r ks
  keys_read [] f = tt
  keys_read (k ∷ ks) f = (expr_reads k.0 _ f.0, keys_read ks f.1)

-- ---- statements

mutual
  stmt_reads : (r : Roots) (h : Part) (s : Scope) (sc : meaning.Scope) → Spot r s sc → (c : Stmt) → IsFine (stmt_tests h s c) → StmtReads (first_name sc) r c
  stmt_reads r h s sc b (nothing p) f = tt
  stmt_reads r h s sc b (block p ss) f = block_reads r h s sc b ss f.1
  stmt_reads r h s sc b (var p t x e) f = start_reads r s sc b _ e f.1.1.1
  stmt_reads r h s sc b (assign p x e) f = expr_reads r s sc b e _ f.1.1
  stmt_reads r h s sc b (choice p e a c) f = (test_reads r s sc b h e f.1.0, stmt_reads r h s sc b a f.1.1.0, else_reads r h s sc b c f.1.1.1)
  stmt_reads r h s sc b (return_ p) f = tt
  stmt_reads r h s sc b (exit_ p) f = tt
  stmt_reads r h s sc b (call p x args) f = call_reads r s sc b p (form_of s x) args f.1

  else_reads : (r : Roots) (h : Part) (s : Scope) (sc : meaning.Scope) → Spot r s sc → (c : MaybeStmt) → IsFine (else_tests h s c) → ElseReads (first_name sc) r c
  else_reads r h s sc b without f = tt
  else_reads r h s sc b (otherwise c) f = stmt_reads r h s sc b c f

  pub block_reads : (r : Roots) (h : Part) (s : Scope) (sc : meaning.Scope) → Spot r s sc → (ss : Stmts) → IsFine (block_tests h s ss) → StmtsRead (first_name sc) r ss
  block_reads r h s sc b done f = tt
  block_reads r h s sc b (next c ss) f = (stmt_reads r h s sc b c f.0, block_reads r h (after s c) sc (spot_after r h s sc c b f.0) ss f.1)

-- ---- local declarations

-- the metadata stands for itself in an action, whose own names are others
meta_inside : (r : Roots) (h : Part) (s : Scope) (sc : meaning.Scope) (a : tree.Action) → sc.inner ≡ None → is_missing (s (r.metadata ∷ [])) ≡ false → first_name sc r.metadata ≡ metadata_root → IsFine (action_tests h s a) → first_name (in_action sc a) r.metadata ≡ metadata_root
meta_inside r h s sc a outer there m f = go (is_among (params_in a.params ++ names_in a.body) r.metadata) refl
  where
    go : (c : Bool) → is_among (params_in a.params ++ names_in a.body) r.metadata ≡ c → first_name (in_action sc a) r.metadata ≡ metadata_root
    go true e = broken (sym (inner_missing h s a f r.metadata e) ∙ there)
    go false e =
        ap (λ (c : Bool). cond c (inner_name (in_action sc a).inner sc.control r.metadata) (root_of sc.roots r.metadata)) e
        ∙ sym (ap (λ (o : Option Inner). cond (is_inner o r.metadata) (inner_name o sc.control r.metadata) (root_of sc.roots r.metadata)) outer) ∙ m

meta_there : (r : Roots) (h : Part) (s : Scope) (l : Local) → is_missing (s (r.metadata ∷ [])) ≡ false → IsFine (local_tests h s l) → is_missing (after_local s l (r.metadata ∷ [])) ≡ false
meta_there r h s l there f = ap is_missing ((after_local_keeps h s l f).kept r.metadata [] there) ∙ there

pub locals_read : (r : Roots) (h : Part) (ls : List Local) (s : Scope) (sc : meaning.Scope) → sc.inner ≡ None → is_missing (s (r.metadata ∷ [])) ≡ false → first_name sc r.metadata ≡ metadata_root → Spot r s sc → IsFine (locals_tests h s ls)
    → LocalsReadBy (first_name sc) (λ a. first_name (in_action sc a)) r ls
locals_read r h [] s sc outer there m b f = tt
locals_read r h (local_action p a ∷ ls) s sc outer there m b f = (
  (meta_inside r (action_part h) s sc a outer there m f.0.1, block_reads r (action_part h) (with_params s a.params) (in_action sc a) (spot_action r (action_part h) s sc a outer b f.0.1) a.body f.0.1.1.1),
  locals_read r h ls (after_local s (local_action p a)) sc outer (meta_there r h s (local_action p a) there f.0) m (spot_local r h s sc (local_action p a) b f.0) f.1,
)
locals_read r h (local_table p t ∷ ls) s sc outer there m b f = (keys_read r s sc b t.keys f.0.1.1.1.0, locals_read r h ls (after_local s (local_table p t)) sc outer (meta_there r h s (local_table p t) there f.0) m (spot_local r h s sc (local_table p t) b f.0) f.1)
locals_read r h (local_register p d ∷ ls) s sc outer there m b f = (tt, locals_read r h ls (after_local s (local_register p d)) sc outer (meta_there r h s (local_register p d) there f.0) m (spot_local r h s sc (local_register p d) b f.0) f.1)
locals_read r h (local_const p t x e ∷ ls) s sc outer there m b f = (tt, locals_read r h ls (after_local s (local_const p t x e)) (with_constant sc t x e) outer (meta_there r h s (local_const p t x e) there f.0) m (spot_local r h s sc (local_const p t x e) b f.0) f.1)
locals_read r h (local_var p t x e ∷ ls) s sc outer there m b f = (start_reads r s sc b _ e f.0.1.1.1, locals_read r h ls (after_local s (local_var p t x e)) sc outer (meta_there r h s (local_var p t x e) there f.0) m (spot_local r h s sc (local_var p t x e) b f.0) f.1)

-- ---- parsers

parses_read : (r : Roots) (s : Scope) (sc : meaning.Scope) → Spot r s sc → (cs : List Stmt) → IsFine (block_tests place.State s (stmts_from cs)) → ParsesRead (first_name sc) r cs
parses_read r s sc b [] f = tt
parses_read r s sc b (assign p x e ∷ cs) f = (expr_reads r s sc b e _ f.0.1.1, parses_read r s sc b cs f.1)
parses_read r s sc b (var p t x e ∷ cs) f = broken f.0.0
parses_read r s sc b (nothing p ∷ cs) f = (tt, parses_read r s sc b cs f.1)
parses_read r s sc b (block p c ∷ cs) f = (tt, parses_read r s sc b cs f.1)
parses_read r s sc b (choice p e a c ∷ cs) f = (tt, parses_read r s sc b cs f.1)
parses_read r s sc b (return_ p ∷ cs) f = (tt, parses_read r s sc b cs f.1)
parses_read r s sc b (exit_ p ∷ cs) f = (tt, parses_read r s sc b cs f.1)
parses_read r s sc b (call p x args ∷ cs) f = (tt, parses_read r s sc b cs f.1)

-- a key of a `select` is one name, a number or a truth value: it is no value that is read
key_reads : (r : Roots) (s : Scope) (sc : meaning.Scope) → Spot r s sc → (k : Kind) (e : Expr) → IsFine (key_tests s k e) → ExprReads (first_name sc) r e
key_reads r s sc b k e f = expr_reads r s sc b e k f.0

keyset_reads : (r : Roots) (s : Scope) (sc : meaning.Scope) → Spot r s sc → (k : Kind) (c : Keyset) → IsFine (keyset_tests s k c) → KeysetReads (first_name sc) r c
keyset_reads r s sc b k (any p) f = tt
keyset_reads r s sc b k (only p e) f = key_reads r s sc b _ e f
keyset_reads r s sc b k (masked p e m) f = (key_reads r s sc b _ e f.0, key_reads r s sc b _ m f.1)

each_reads : (r : Roots) (s : Scope) (sc : meaning.Scope) → Spot r s sc → (es : List Expr) (ks : List Keyset) → as_many es ks ≡ true → IsFine (each_keyset s es ks) → KeysetsRead (first_name sc) r ks
each_reads r s sc b [] [] m f = tt
each_reads r s sc b [] (k ∷ ks) m f = broken (sym m)
each_reads r s sc b (e ∷ es) [] m f = tt
each_reads r s sc b (e ∷ es) (k ∷ ks) m f = (keyset_reads r s sc b _ k f.0, each_reads r s sc b es ks m f.1)

keysets_read : (r : Roots) (s : Scope) (sc : meaning.Scope) → Spot r s sc → (p : ℕ) (es : List Expr) (ks : List Keyset) → IsFine (keysets_tests p s es ks) → KeysetsRead (first_name sc) r ks
keysets_read r s sc b p es [] f = tt
keysets_read r s sc b p es (any q ∷ []) f = (tt, tt)
keysets_read r s sc b p es (any q ∷ k ∷ ks) f = each_reads r s sc b es (any q ∷ k ∷ ks) (twice_not _ f.0) f.1
keysets_read r s sc b p es (only q e ∷ ks) f = each_reads r s sc b es (only q e ∷ ks) (twice_not _ f.0) f.1
keysets_read r s sc b p es (masked q e m ∷ ks) f = each_reads r s sc b es (masked q e m ∷ ks) (twice_not _ f.0) f.1

cases_read : (r : Roots) (s : Scope) (sc : meaning.Scope) → Spot r s sc → (k : List ℕ → Bool) (p : ℕ) (es : List Expr) (cs : List Case) → IsFine (cases_tests k p s es cs) → CasesRead (first_name sc) r cs
cases_read r s sc b k p es [] f = tt
cases_read r s sc b k p es (c ∷ cs) f = (keysets_read r s sc b p es c.keys f.0.0, cases_read r s sc b k p es cs f.1)

transition_reads : (r : Roots) (s : Scope) (sc : meaning.Scope) → Spot r s sc → (k : List ℕ → Bool) (t : Transition) → IsFine (transition_tests k s t) → TransitionReads (first_name sc) r t
transition_reads r s sc b k (nowhere p) f = tt
transition_reads r s sc b k (to p x) f = tt
transition_reads r s sc b k (select p es cs) f = (frees_read r s sc b es f.0, cases_read r s sc b k p es cs f.1)

pub states_read : (r : Roots) (all : List ParserState) (s : Scope) (sc : meaning.Scope) → Spot r s sc → (sts : List ParserState) → IsFine (states_tests all s sts) → StatesRead (first_name sc) r sts
states_read r all s sc b [] f = tt
states_read r all s sc b (st ∷ sts) f = ((parses_read r s sc b st.body f.0.1.0, transition_reads r s sc b (is_state_name (state_names all)) st.next f.0.1.1), states_read r all s sc b sts f.1)

-- behind the names of states, which hide nothing
spot_state : (r : Roots) (s : Scope) (sc : meaning.Scope) (n : List ℕ) → Spot r s sc → Spot r (with_state s n) sc
spot_state r s sc n b = by (is_missing (s (n ∷ []))) refl
  where
    by : (m : Bool) → is_missing (s (n ∷ [])) ≡ m → Spot r (cond m (declare s n parser_state) s) sc
    by true e = spot_declared r s sc sc n parser_state b (λ y. refl) (ap not e) (record { no_header = refl; alone = λ x xs. refl; flat = λ k. broken (sym k) })
    by false e = b

pub spot_ends : (r : Roots) (s : Scope) (sc : meaning.Scope) → Spot r s sc → Spot r (with_ends s) sc
spot_ends r s sc b = spot_state r (with_state s (codes "accept")) sc (codes "reject") (spot_state r s sc (codes "accept") b)

pub spot_states : (r : Roots) (sts : List ParserState) (s : Scope) (sc : meaning.Scope) → Spot r s sc → Spot r (with_states s sts) sc
spot_states r [] s sc b = b
spot_states r (st ∷ sts) s sc b = spot_states r sts (with_state s st.name) sc (spot_state r s sc st.name b)
