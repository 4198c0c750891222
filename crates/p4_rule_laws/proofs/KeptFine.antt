-- What is fine stays so in each scope in which what is in sight still is, where the names that it declares are free.
use Rattle.std.proofs.Common.{◌≡◌, ℕ, List, [], ◌∷◌, Bool, true, false, not, refl, sym, ap, ◌∙◌, subst, Option, Some, None}
use Rattle.std.proofs.lemmas.Slice.Eq.{bytes_eq-Decides}
use Rattle.lex_text.specs.Names.{same_text, parent, last_name}
use Rattle.rule_tests.specs.Tests.{test, both, IsFine}
use Rattle.p4_tree.specs.Tree.{Expr, num, flag, path, valid, applied, error_name, negation, inversion, opposite, binary, conditional, slice, cast, Arg, one, many, Stmt, Stmts, MaybeStmt, nothing, block, var, assign, choice, return_, exit_, call, done, next, without, otherwise}
use Rattle.p4_tree.specs.declared.statement.PTy.{PTy}
use Rattle.p4_tree.specs.declared.statement.PTy.TheVariants as type
use Rattle.p4_scopes.specs.Kinds.{as_number, as_value, join, left_want, right_want, choice_want, index_want}
use Rattle.p4_scopes.specs.Scopes.{Stands, missing, typed, held, cells, act, rows, state, function, algorithm, other, is_missing, value_kind, as_typed, as_held, typed_thing, thing_kind, Scope, type_at, thing_in, kind_in, What, alias, fields, value, action, table, parser_state, part, behind, declare, own}
use Rattle.p4_scopes.specs.Scopes as scope
use Rattle.p4_scopes.specs.Uses.{is_type, is_algorithm, holds_header, holds_standard}
use Rattle.p4_scopes.specs.declared.kind.Kind.{Kind}
use Rattle.p4_scopes.specs.declared.kind.Kind.TheVariants.{Number, Truth}
use Rattle.p4_scopes.specs.declared.thing.Access.TheVariants.{Writable}
use Rattle.p4_statement_rules.specs.Expressions.{new_tests, type_tests, scalar_tests, fit_tests, read_tests, valid_tests, applied_tests, expr_tests, free_tests, all_free, index_tests}
use Rattle.p4_statement_rules.specs.Forms.{Form, unknown, ill, drops, digests, sums, extracts, emits, applies, reads_cell, writes_cell, makes_valid, acts, plain_form, verb_form, form_of, path_in, takes_runs}
use Rattle.p4_statement_rules.specs.Calls.{arg_tests, args_tests, target_tests, path_tests, path_arg, single_tests, receiver_arg, digest_values, digest_tests, cell_target, target_arg, index_arg, cell_read, cell_write, bits_over, have_bits, summed_arg, summed_path, summed_field, field_arg, sum_tests, form_tests}
use Rattle.p4_statement_rules.specs.Statements.{negated_tests, if_tests, start_tests, var_tests, after, stmt_tests, block_tests, else_tests}
use Rattle.p4_statement_rules.specs.declared.rule.ProgramRule.TheVariants.{NoSuchName, KindDiffers}
use Rattle.p4_statement_rules.specs.declared.rule.Part.{Part}
use Rattle.p4_rule_laws.specs.Kept.{Keeps, IsRooted, FreeStmt, FreeStmts, FreeElse}
use Rattle.p4_rule_laws.proofs.KeepsLemmas.{declared, undeclared}

no_case : {A : Type 0} → true ≡ false → A
no_case e = absurd (cc)

-- ---- roots

named_is_there : (s : Scope) (w : What) → is_missing (behind s w []) ≡ false
named_is_there s (alias t) = refl
named_is_there s (fields h fs) = refl
named_is_there s (value a t) = refl
named_is_there s (scope.register t) = refl
named_is_there s (action ps m) = refl
named_is_there s (table m) = refl
named_is_there s parser_state = refl
named_is_there s part = refl

declare_none : (s : Scope) (n : List ℕ) (w : What) → declare s n w [] ≡ s []
unfolding declare
declare_none s n w = refl

declare_roots : (s : Scope) → IsRooted s → (n : List ℕ) (w : What) (x : List ℕ) (xs : List (List ℕ)) → is_missing (declare s n w (x ∷ [])) ≡ true → is_missing (declare s n w (x ∷ xs)) ≡ true
declare_roots s r n w x xs m = by (same_text n x) refl
  where
    by : (b : Bool) → same_text n x ≡ b → is_missing (declare s n w (x ∷ xs)) ≡ true
    by true e =
        let P : List ℕ → Type 0 = λ y. is_missing (declare s n w (y ∷ [])) ≡ true in
        let h = subst P (sym ((bytes_eq-Decides n x).0 e)) m in
        no_case (sym h ∙ (ap is_missing (declared s n w []) ∙ named_is_there s w))
    by false e = ap is_missing (undeclared s n w x xs e) ∙ r.behind x xs (sym (ap is_missing (undeclared s n w x [] e)) ∙ m)

pub declare_rooted : (s : Scope) → IsRooted s → (n : List ℕ) (w : What) → IsRooted (declare s n w)
declare_rooted s r n w = record { nowhere = ap is_missing (declare_none s n w) ∙ r.nowhere; behind = declare_roots s r n w }

module _ (s t : Scope) (r : IsRooted s) (k : Keeps s t) where
  -- a path that stands for something stands for the same
  pub kept_path : (x : List (List ℕ)) → is_missing (s x) ≡ false → s x ≡ t x
  kept_path [] m = no_case (sym r.nowhere ∙ m)
  kept_path (x ∷ xs) m = by (is_missing (s (x ∷ []))) refl
    where
      by : (b : Bool) → is_missing (s (x ∷ [])) ≡ b → s (x ∷ xs) ≡ t (x ∷ xs)
      by true e = no_case (sym (r.behind x xs e) ∙ m)
      by false e = sym (k.kept x xs e)

  -- ---- types

  type_kept : (p : ℕ) (y : PTy) → IsFine (type_tests p s y) → (xs : List (List ℕ)) → type_at s y xs ≡ type_at t y xs
  type_kept p (type.Bit w) f xs = refl
  type_kept p type.Bool f xs = refl
  type_kept p (type.Named n) f xs = ap as_typed (sym (k.kept n xs f.0))

  type_tests_kept : (p : ℕ) (y : PTy) → IsFine (type_tests p s y) → type_tests p s y ≡ type_tests p t y
  type_tests_kept p (type.Bit w) f = refl
  type_tests_kept p type.Bool f = refl
  type_tests_kept p (type.Named n) f = ap (λ st. both (test p NoSuchName (is_missing st)) (test p KindDiffers (not (is_type st)))) (sym (k.kept n [] f.0))

  scalar_kept : (p : ℕ) (y : PTy) → IsFine (scalar_tests p s y) → scalar_tests p s y ≡ scalar_tests p t y
  scalar_kept p y f = let e = type_tests_kept p y f.0 in let g = ap typed_thing (type_kept p y f.0 []) in cc

  kind_kept : (p : ℕ) (y : PTy) → IsFine (type_tests p s y) → kind_in s y ≡ kind_in t y
  kind_kept p y f = ap (λ st. thing_kind (typed_thing st)) (type_kept p y f [])

  -- ---- expressions

  pub own_kept : (w : Kind) (e : Expr) → IsFine (expr_tests s w e) → own s e ≡ own t e
  own_kept w (num p n) f = refl
  own_kept w (flag p b) f = refl
  own_kept w (path p x) f = ap value_kind (kept_path x f.0)
  own_kept w (valid p x) f = refl
  own_kept w (applied p y h) f = refl
  own_kept w (error_name p x) f = refl
  own_kept w (negation p b) f = refl
  own_kept w (inversion p b) f = ap as_number (own_kept (as_number (join (own s b) w)) b f.1)
  own_kept w (opposite p b) f = ap as_number (own_kept (as_number (join (own s b) w)) b f.1)
  own_kept w (binary p op b c) f =
      let e = own_kept (left_want op (own s b) (own s c) w) b f.1.1.0 in
      let g = own_kept (right_want op (own s b) (own s c) w) c f.1.1.1 in
      cc
  own_kept w (conditional p b c d) f =
      let e = own_kept (choice_want (own s c) (own s d) w) c f.1.1.0 in
      let g = own_kept (choice_want (own s c) (own s d) w) d f.1.1.1 in
      cc
  own_kept w (slice p b h l) f = refl
  own_kept w (cast p y b) f = refl

  pub expr_kept : (w : Kind) (e : Expr) → IsFine (expr_tests s w e) → expr_tests s w e ≡ expr_tests t w e
  expr_kept w (num p n) f = refl
  expr_kept w (flag p b) f = refl
  expr_kept w (path p x) f = ap (λ st. read_tests p st w) (kept_path x f.0)
  expr_kept w (valid p x) f = ap (λ st. valid_tests p st w) (kept_path x f.0)
  expr_kept w (applied p y h) f = no_case f.1.1
  expr_kept w (error_name p x) f = refl
  expr_kept w (negation p b) f = let e = expr_kept Truth b f.1 in cc
  expr_kept w (inversion p b) f =
      let e = own_kept (as_number (join (own s b) w)) b f.1 in
      let g = expr_kept (as_number (join (own s b) w)) b f.1 in
      cc
  expr_kept w (opposite p b) f =
      let e = own_kept (as_number (join (own s b) w)) b f.1 in
      let g = expr_kept (as_number (join (own s b) w)) b f.1 in
      cc
  expr_kept w (binary p op b c) f =
      let e = own_kept (left_want op (own s b) (own s c) w) b f.1.1.0 in
      let g = own_kept (right_want op (own s b) (own s c) w) c f.1.1.1 in
      let h = expr_kept (left_want op (own s b) (own s c) w) b f.1.1.0 in
      let i = expr_kept (right_want op (own s b) (own s c) w) c f.1.1.1 in
      cc
  expr_kept w (conditional p b c d) f =
      let e = own_kept (choice_want (own s c) (own s d) w) c f.1.1.0 in
      let g = own_kept (choice_want (own s c) (own s d) w) d f.1.1.1 in
      let h = expr_kept Truth b f.1.0 in
      let i = expr_kept (choice_want (own s c) (own s d) w) c f.1.1.0 in
      let j = expr_kept (choice_want (own s c) (own s d) w) d f.1.1.1 in
      cc
  expr_kept w (slice p b h l) f =
      let e = own_kept (as_number (own s b)) b f.1.1 in
      let g = expr_kept (as_number (own s b)) b f.1.1 in
      cc
  expr_kept w (cast p y b) f =
      let e = own_kept (as_value (own s b)) b f.1.1.1 in
      let g = expr_kept (as_value (own s b)) b f.1.1.1 in
      cc

  free_kept : (e : Expr) → IsFine (free_tests s e) → free_tests s e ≡ free_tests t e
  free_kept e f = let g = own_kept (as_value (own s e)) e f in let h = expr_kept (as_value (own s e)) e f in cc

  all_free_kept : (es : List Expr) → IsFine (all_free s es) → all_free s es ≡ all_free t es
  all_free_kept [] f = refl
  all_free_kept (e ∷ es) f = let g = free_kept e f.0 in let h = all_free_kept es f.1 in cc

  index_kept : (e : Expr) → IsFine (index_tests s e) → index_tests s e ≡ index_tests t e
  index_kept e f = let g = own_kept (index_want (own s e)) e f in let h = expr_kept (index_want (own s e)) e f in cc

  -- ---- arguments

  arg_kept : (w : Kind) (b : Arg) → IsFine (arg_tests s w b) → arg_tests s w b ≡ arg_tests t w b
  arg_kept w (one p e) f = expr_kept w e f
  arg_kept w (many p es) f = refl

  args_kept : (ws : List Kind) (bs : List Arg) → IsFine (args_tests s ws bs) → args_tests s ws bs ≡ args_tests t ws bs
  args_kept [] bs f = refl
  args_kept (w ∷ ws) [] f = refl
  args_kept (w ∷ ws) (b ∷ bs) f = let g = arg_kept w b f.0 in let h = args_kept ws bs f.1 in cc

  path_tests_kept : (p : ℕ) (fits : Stands → Bool) (x : Option (ℕ × List (List ℕ))) → IsFine (path_tests p fits s x) → path_tests p fits s x ≡ path_tests p fits t x
  path_tests_kept p fits None f = refl
  path_tests_kept p fits (Some x) f = let e = kept_path x.1 f.0 in cc

  path_arg_kept : (fits : Stands → Bool) (b : Arg) → IsFine (path_arg fits s b) → path_arg fits s b ≡ path_arg fits t b
  path_arg_kept fits (one p e) f = path_tests_kept p fits (path_in e) f
  path_arg_kept fits (many p es) f = refl

  single_kept : (p : ℕ) (fits : Stands → Bool) (bs : List Arg) → IsFine (single_tests p fits s bs) → single_tests p fits s bs ≡ single_tests p fits t bs
  single_kept p fits [] f = refl
  single_kept p fits (b ∷ []) f = path_arg_kept fits b f
  single_kept p fits (b ∷ c ∷ bs) f = refl

  values_kept : (b : Arg) → IsFine (digest_values s b) → digest_values s b ≡ digest_values t b
  values_kept (one p e) f = refl
  values_kept (many p es) f = let g = all_free_kept es f.1 in cc

  digest_kept : (p : ℕ) (bs : List Arg) → IsFine (digest_tests p s bs) → digest_tests p s bs ≡ digest_tests p t bs
  digest_kept p [] f = refl
  digest_kept p (b ∷ []) f = refl
  digest_kept p (b ∷ c ∷ []) f = ap (λ q. both (receiver_arg b) q) (values_kept c f.1)
  digest_kept p (b ∷ c ∷ d ∷ bs) f = refl

  cell_target_kept : (p : ℕ) (w : Kind) (x : Option (ℕ × List (List ℕ))) → IsFine (cell_target p s w x) → cell_target p s w x ≡ cell_target p t w x
  cell_target_kept p w None f = refl
  cell_target_kept p w (Some x) f = ap (λ st. both (target_tests x.0 st) (fit_tests x.0 (value_kind st) w)) (kept_path x.1 f.0.0)

  target_arg_kept : (w : Kind) (b : Arg) → IsFine (target_arg s w b) → target_arg s w b ≡ target_arg t w b
  target_arg_kept w (one p e) f = cell_target_kept p w (path_in e) f
  target_arg_kept w (many p es) f = refl

  index_arg_kept : (b : Arg) → IsFine (index_arg s b) → index_arg s b ≡ index_arg t b
  index_arg_kept (one p e) f = index_kept e f
  index_arg_kept (many p es) f = refl

  read_kept : (p : ℕ) (w : Kind) (bs : List Arg) → IsFine (cell_read p s w bs) → cell_read p s w bs ≡ cell_read p t w bs
  read_kept p w [] f = refl
  read_kept p w (b ∷ []) f = refl
  read_kept p w (b ∷ c ∷ []) f = let g = target_arg_kept w b f.0 in let h = index_arg_kept c f.1 in cc
  read_kept p w (b ∷ c ∷ d ∷ bs) f = refl

  write_kept : (p : ℕ) (w : Kind) (bs : List Arg) → IsFine (cell_write p s w bs) → cell_write p s w bs ≡ cell_write p t w bs
  write_kept p w [] f = refl
  write_kept p w (b ∷ []) f = refl
  write_kept p w (b ∷ c ∷ []) f = let g = index_arg_kept b f.0 in let h = arg_kept w c f.1 in cc
  write_kept p w (b ∷ c ∷ d ∷ bs) f = refl

  bits_over_kept : (es : List Expr) → IsFine (all_free s es) → bits_over s es ≡ bits_over t es
  bits_over_kept [] f = refl
  bits_over_kept (e ∷ es) f = let g = own_kept (as_value (own s e)) e f.0 in let h = bits_over_kept es f.1 in cc

  have_bits_kept : (es : List Expr) → IsFine (all_free s es) → have_bits s es ≡ have_bits t es
  have_bits_kept [] f = refl
  have_bits_kept (e ∷ es) f = let g = own_kept (as_value (own s e)) e f.0 in let h = have_bits_kept es f.1 in cc

  summed_kept : (b : Arg) → IsFine (summed_arg s b) → summed_arg s b ≡ summed_arg t b
  summed_kept (one p e) f = refl
  summed_kept (many p es) f = let g = bits_over_kept es f.1 in let k = have_bits_kept es f.1 in let h = all_free_kept es f.1 in cc

  summed_is_there : (p : ℕ) (v : Bool) (st : Stands) → IsFine (summed_path p v st) → is_missing st ≡ false
  summed_is_there p true st f = f.0
  summed_is_there p false st f = f.0

  summed_field_kept : (p : ℕ) (v : Bool) (x : Option (ℕ × List (List ℕ))) → IsFine (summed_field p v s x) → summed_field p v s x ≡ summed_field p v t x
  summed_field_kept p v None f = refl
  summed_field_kept p v (Some x) f = ap (λ st. both (summed_path x.0 v st) (fit_tests x.0 (value_kind st) (Number 16))) (kept_path x.1 (summed_is_there x.0 v (s x.1) f.0))

  field_arg_kept : (v : Bool) (b : Arg) → IsFine (field_arg v s b) → field_arg v s b ≡ field_arg v t b
  field_arg_kept v (one p e) f = summed_field_kept p v (path_in e) f
  field_arg_kept v (many p es) f = refl

  sum_kept : (p : ℕ) (v : Bool) (bs : List Arg) → IsFine (sum_tests p v s bs) → sum_tests p v s bs ≡ sum_tests p v t bs
  sum_kept p v [] f = refl
  sum_kept p v (b ∷ []) f = refl
  sum_kept p v (b ∷ c ∷ []) f = refl
  sum_kept p v (b ∷ c ∷ d ∷ []) f = refl
  sum_kept p v (b ∷ c ∷ d ∷ e ∷ []) f =
      let g = arg_kept Truth b f.0 in
      let h = summed_kept c f.1.0 in
      let i = field_arg_kept v d f.1.1.0 in
      let j = path_arg_kept is_algorithm e f.1.1.1 in
      cc
  sum_kept p v (b ∷ c ∷ d ∷ e ∷ g ∷ bs) f = refl

  -- ---- calls

  form_tests_kept : (p : ℕ) (o : Form) (bs : List Arg) → IsFine (form_tests p s o bs) → form_tests p s o bs ≡ form_tests p t o bs
  form_tests_kept p unknown bs f = refl
  form_tests_kept p ill bs f = refl
  form_tests_kept p drops bs f = single_kept p holds_standard bs f
  form_tests_kept p digests bs f = digest_kept p bs f
  form_tests_kept p (sums v) bs f = sum_kept p v bs f
  form_tests_kept p extracts bs f = single_kept p holds_header bs f
  form_tests_kept p emits bs f = single_kept p holds_header bs f
  form_tests_kept p applies bs f = refl
  form_tests_kept p (reads_cell w) bs f = read_kept p w bs f
  form_tests_kept p (writes_cell w) bs f = write_kept p w bs f
  form_tests_kept p makes_valid bs f = refl
  form_tests_kept p (acts ws) bs f = let e = args_kept ws bs f.1 in cc

  plain_is_there : (p : ℕ) (st : Stands) (bs : List Arg) → IsFine (form_tests p s (plain_form st) bs) → is_missing st ≡ false
  plain_is_there p missing bs f = no_case f
  plain_is_there p (typed g h) bs f = refl
  plain_is_there p (held a h) bs f = refl
  plain_is_there p (cells w) bs f = refl
  plain_is_there p (act ws m) bs f = refl
  plain_is_there p (rows m) bs f = refl
  plain_is_there p state bs f = refl
  plain_is_there p (function i) bs f = refl
  plain_is_there p algorithm bs f = refl
  plain_is_there p other bs f = refl

  verb_is_there : (p : ℕ) (st : Stands) (m : List ℕ) (bs : List Arg) → IsFine (form_tests p s (verb_form st m) bs) → is_missing st ≡ false
  verb_is_there p missing m bs f = no_case f
  verb_is_there p (typed g h) m bs f = refl
  verb_is_there p (held a h) m bs f = refl
  verb_is_there p (cells w) m bs f = refl
  verb_is_there p (act ws n) m bs f = refl
  verb_is_there p (rows n) m bs f = refl
  verb_is_there p state m bs f = refl
  verb_is_there p (function i) m bs f = refl
  verb_is_there p algorithm m bs f = refl
  verb_is_there p other m bs f = refl

  form_kept : (p : ℕ) (x : List (List ℕ)) (bs : List Arg) → IsFine (form_tests p s (form_of s x) bs) → form_of s x ≡ form_of t x
  form_kept p [] bs f = refl
  form_kept p (x ∷ []) bs f = ap plain_form (kept_path (x ∷ []) (plain_is_there p (s (x ∷ [])) bs f))
  form_kept p (x ∷ y ∷ rest) bs f =
      ap (λ st. verb_form st (last_name (x ∷ y ∷ rest))) (kept_path (parent (x ∷ y ∷ rest)) (verb_is_there p (s (parent (x ∷ y ∷ rest))) (last_name (x ∷ y ∷ rest)) bs f))

  call_kept : (h : Part) (p : ℕ) (x : List (List ℕ)) (bs : List Arg) → IsFine (stmt_tests h s (call p x bs)) → stmt_tests h s (call p x bs) ≡ stmt_tests h t (call p x bs)
  call_kept h p x bs f = let e = form_kept p x bs f.1 in let g = form_tests_kept p (form_of s x) bs f.1 in cc

  -- ---- tests of an `if`, and variables

  negated_kept : (h : Part) (q : ℕ) (e : Expr) → IsFine (negated_tests h s q e) → negated_tests h s q e ≡ negated_tests h t q e
  negated_kept h q (applied p y b) f = ap (applied_tests p (takes_runs h)) (kept_path (y ∷ []) f.0)
  negated_kept h q (num p n) f = expr_kept Truth (negation q (num p n)) f
  negated_kept h q (flag p b) f = expr_kept Truth (negation q (flag p b)) f
  negated_kept h q (path p x) f = expr_kept Truth (negation q (path p x)) f
  negated_kept h q (valid p x) f = expr_kept Truth (negation q (valid p x)) f
  negated_kept h q (error_name p x) f = expr_kept Truth (negation q (error_name p x)) f
  negated_kept h q (negation p b) f = expr_kept Truth (negation q (negation p b)) f
  negated_kept h q (inversion p b) f = expr_kept Truth (negation q (inversion p b)) f
  negated_kept h q (opposite p b) f = expr_kept Truth (negation q (opposite p b)) f
  negated_kept h q (binary p op b c) f = expr_kept Truth (negation q (binary p op b c)) f
  negated_kept h q (conditional p b c d) f = expr_kept Truth (negation q (conditional p b c d)) f
  negated_kept h q (slice p b m l) f = expr_kept Truth (negation q (slice p b m l)) f
  negated_kept h q (cast p y b) f = expr_kept Truth (negation q (cast p y b)) f

  if_kept : (h : Part) (e : Expr) → IsFine (if_tests h s e) → if_tests h s e ≡ if_tests h t e
  if_kept h (applied p y b) f = ap (applied_tests p (takes_runs h)) (kept_path (y ∷ []) f.0)
  if_kept h (negation p b) f = negated_kept h p b f
  if_kept h (num p n) f = expr_kept Truth (num p n) f
  if_kept h (flag p b) f = expr_kept Truth (flag p b) f
  if_kept h (path p x) f = expr_kept Truth (path p x) f
  if_kept h (valid p x) f = expr_kept Truth (valid p x) f
  if_kept h (error_name p x) f = expr_kept Truth (error_name p x) f
  if_kept h (inversion p b) f = expr_kept Truth (inversion p b) f
  if_kept h (opposite p b) f = expr_kept Truth (opposite p b) f
  if_kept h (binary p op b c) f = expr_kept Truth (binary p op b c) f
  if_kept h (conditional p b c d) f = expr_kept Truth (conditional p b c d) f
  if_kept h (slice p b m l) f = expr_kept Truth (slice p b m l) f
  if_kept h (cast p y b) f = expr_kept Truth (cast p y b) f

  start_kept : (w : Kind) (e : Option Expr) → IsFine (start_tests s w e) → start_tests s w e ≡ start_tests t w e
  start_kept w None f = refl
  start_kept w (Some e) f = expr_kept w e f

  new_kept : (p : ℕ) (x : List ℕ) → IsFine (new_tests p s x) → is_missing (t (x ∷ [])) ≡ true → new_tests p s x ≡ new_tests p t x
  new_kept p x f m = let e : is_missing (s (x ∷ [])) ≡ true = was (is_missing (s (x ∷ []))) f in cc
    where
      was : (b : Bool) → not b ≡ false → b ≡ true
      was true g = refl
      was false g = no_case g

  var_kept : (p : ℕ) (y : PTy) (x : List ℕ) (e : Option Expr) → is_missing (t (x ∷ [])) ≡ true → IsFine (var_tests p s y x e) → var_tests p s y x e ≡ var_tests p t y x e
  var_kept p y x e m f =
      let g = new_kept p x f.0 m in
      let h = scalar_kept p y f.1.0 in
      let i = kind_kept p y f.1.0.0 in
      let j = start_kept (kind_in s y) e f.1.1 in
      cc

  assign_kept : (p : ℕ) (x : List (List ℕ)) (e : Expr) → IsFine (both (target_tests p (s x)) (expr_tests s (value_kind (s x)) e)) → both (target_tests p (s x)) (expr_tests s (value_kind (s x)) e) ≡ both (target_tests p (t x)) (expr_tests t (value_kind (t x)) e)
  assign_kept p x e f = let g = kept_path x f.0.0 in let h = expr_kept (value_kind (s x)) e f.1 in cc

  -- both declare the same variable
  declare_kept : (p : ℕ) (y : PTy) (n : List ℕ) → IsFine (type_tests p s y) → Keeps (declare s n (value Writable y)) (declare t n (value Writable y))
  declare_kept p y n f = record { kept = λ x xs m. by x xs m (same_text n x) refl }
    where
      behind_kept : (xs : List (List ℕ)) → behind t (value Writable y) xs ≡ behind s (value Writable y) xs
      behind_kept [] = ap (λ st. held Writable (typed_thing st)) (sym (type_kept p y f []))
      behind_kept (x ∷ xs) = ap (as_held Writable) (sym (type_kept p y f (x ∷ xs)))

      by : (x : List ℕ) (xs : List (List ℕ)) → is_missing (declare s n (value Writable y) (x ∷ [])) ≡ false → (b : Bool) → same_text n x ≡ b → declare t n (value Writable y) (x ∷ xs) ≡ declare s n (value Writable y) (x ∷ xs)
      by x xs m true e =
          let P : List ℕ → Type 0 = λ z. declare t n (value Writable y) (z ∷ xs) ≡ declare s n (value Writable y) (z ∷ xs) in
          subst P ((bytes_eq-Decides n x).0 e) (declared t n (value Writable y) xs ∙ (behind_kept xs ∙ sym (declared s n (value Writable y) xs)))
      by x xs m false e =
          let g : is_missing (s (x ∷ [])) ≡ false = sym (ap is_missing (undeclared s n (value Writable y) x [] e)) ∙ m in
          undeclared t n (value Writable y) x xs e ∙ (k.kept x xs g ∙ sym (undeclared s n (value Writable y) x xs e))

pub after_rooted : (s : Scope) → IsRooted s → (c : Stmt) → IsRooted (after s c)
after_rooted s r (var p y x e) = declare_rooted s r x (value Writable y)
after_rooted s r (nothing p) = r
after_rooted s r (block p b) = r
after_rooted s r (assign p x e) = r
after_rooted s r (choice p e a b) = r
after_rooted s r (return_ p) = r
after_rooted s r (exit_ p) = r
after_rooted s r (call p x bs) = r

after_kept : (h : Part) (s t : Scope) → IsRooted s → Keeps s t → (c : Stmt) → IsFine (stmt_tests h s c) → Keeps (after s c) (after t c)
after_kept h s t r k (var p y x e) f = declare_kept s t r k p y x f.1.1.0.0
after_kept h s t r k (nothing p) f = k
after_kept h s t r k (block p b) f = k
after_kept h s t r k (assign p x e) f = k
after_kept h s t r k (choice p e a b) f = k
after_kept h s t r k (return_ p) f = k
after_kept h s t r k (exit_ p) f = k
after_kept h s t r k (call p x bs) f = k

mutual
  pub stmt_kept : (h : Part) (s t : Scope) → IsRooted s → Keeps s t → (c : Stmt) → FreeStmt t c → IsFine (stmt_tests h s c) → stmt_tests h s c ≡ stmt_tests h t c
  stmt_kept h s t r k (nothing p) n f = refl
  stmt_kept h s t r k (block p b) n f = let g = block_kept h s t r k b n f.1 in cc
  stmt_kept h s t r k (var p y x e) n f = let g = var_kept s t r k p y x e n f.1 in cc
  stmt_kept h s t r k (assign p x e) n f = let g = assign_kept s t r k p x e f.1 in cc
  stmt_kept h s t r k (choice p e a b) n f =
      let g = if_kept s t r k h e f.1.0 in
      let i = stmt_kept h s t r k a n.0 f.1.1.0 in
      let j = else_kept h s t r k b n.1 f.1.1.1 in
      cc
  stmt_kept h s t r k (return_ p) n f = refl
  stmt_kept h s t r k (exit_ p) n f = refl
  stmt_kept h s t r k (call p x bs) n f = call_kept s t r k h p x bs f

  pub block_kept : (h : Part) (s t : Scope) → IsRooted s → Keeps s t → (b : Stmts) → FreeStmts t b → IsFine (block_tests h s b) → block_tests h s b ≡ block_tests h t b
  block_kept h s t r k done n f = refl
  block_kept h s t r k (next c b) n f =
      let g = stmt_kept h s t r k c n.0 f.0 in
      let i = block_kept h (after s c) (after t c) (after_rooted s r c) (after_kept h s t r k c f.0) b n.1 f.1 in
      cc

  else_kept : (h : Part) (s t : Scope) → IsRooted s → Keeps s t → (c : MaybeStmt) → FreeElse t c → IsFine (else_tests h s c) → else_tests h s c ≡ else_tests h t c
  else_kept h s t r k without n f = refl
  else_kept h s t r k (otherwise c) n f = stmt_kept h s t r k c n f
