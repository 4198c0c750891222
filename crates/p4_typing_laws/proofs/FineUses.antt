-- In a program that breaks no rule each use is fine: what holds of fine expressions and of paths that stand for what fits
-- holds of each use, by induction on the program.
use Rattle.std.proofs.Common.{◌≡◌, ℕ, ◌≤◌, List, [], ◌∷◌, Bool, true, false, not, ◌&&◌, codes, Option, Some, None, refl, sym, ap, ◌∙◌}
use Rattle.lex_text.specs.Names.{parent, last_name}
use Rattle.rule_tests.specs.Tests.{IsFine}
use Rattle.p4_tree.specs.Tree.{Expr, num, flag, path, valid, applied, error_name, negation, inversion, opposite, binary, conditional, slice, cast, Arg, one, many, Stmt, Stmts, MaybeStmt, nothing, block, var, assign, choice, return_, exit_, call, done, next, without, otherwise, stmts_from, Keyset, any, only, masked, Case, Transition, nowhere, to, select, ParserState, Action, Table, Local, local_action, local_table, local_register, local_const, local_var, Control, Parser, Top, constant, typedef, header_type, struct_type, register, parser, control, Program}
use Rattle.p4_tree.specs.declared.statement.PTy.{PTy}
use Rattle.p4_tree.specs.declared.statement.PTy.TheVariants as type
use Rattle.p4_tree.specs.declared.program.Param.{Param}
use Rattle.p4_parser_states.specs.Cycles.{state_names}
use Rattle.p4_scopes.specs.Kinds.{as_number, as_value}
use Rattle.p4_scopes.specs.Scopes.{Stands, missing, typed, held, cells, act, rows, state, function, algorithm, other, is_missing, value_kind, Scope, value, declare, kind_in, own, core}
use Rattle.p4_scopes.specs.Uses.{reads, holds_header, holds_standard, is_table, is_action, is_algorithm, is_type, is_writable}
use Rattle.p4_scopes.specs.declared.kind.Kind.{Kind}
use Rattle.p4_scopes.specs.declared.kind.Kind.TheVariants.{Truth}
use Rattle.p4_scopes.specs.declared.thing.Thing.{Thing}
use Rattle.p4_scopes.specs.declared.thing.Thing.TheVariants.{Scalar, Header, Struct, Standard, PacketIn, PacketOut}
use Rattle.p4_scopes.specs.declared.thing.Access.{Access}
use Rattle.p4_scopes.specs.declared.thing.Access.TheVariants.{Fixed}
use Rattle.p4_statement_rules.specs.Expressions.{expr_tests, all_free, type_tests}
use Rattle.p4_statement_rules.specs.Forms.{Form, unknown, ill, drops, digests, sums, extracts, emits, applies, reads_cell, writes_cell, makes_valid, acts, plain_form, verb_form, thing_form, form_of, path_in}
use Rattle.p4_statement_rules.specs.Calls.{is_known, misfit, as_many, args_tests, path_tests, path_arg, single_tests, none_tests, receiver_arg, receiver_tests, digest_values, digest_tests, cell_target, target_arg, index_arg, cell_read, cell_write, summed_arg, summed_field, field_arg, sum_tests, form_tests}
use Rattle.p4_statement_rules.specs.Statements.{if_tests, negated_tests, start_tests, after, stmt_tests, block_tests, else_tests}
use Rattle.p4_statement_rules.specs.declared.rule.Part.{Part}
use Rattle.p4_statement_rules.specs.declared.rule.Part.TheVariants as place
use Rattle.p4_declaration_rules.specs.Declarations.{is_no_number, is_no_field, params_tests, with_params, action_tests, fields_tests}
use Rattle.p4_declaration_rules.specs.Tables.{keys_tests, listed_tests, known_args, default_args, default_tests, table_tests}
use Rattle.p4_declaration_rules.specs.Parsers.{is_state_name, onto_tests, before_states, in_states, way_access, with_ways, ways_tests, keyset_tests, each_keyset, keysets_tests, cases_tests, transition_tests, states_tests, parser_tests}
use Rattle.p4_declaration_rules.specs.Controls.{action_part, after_local, declared_tests, locals_tests, in_control, control_tests, top_tests, after_top, tops_tests, part_in}
use Rattle.p4_rules.specs.Mains.{names_parts}
use Rattle.p4_rules.specs.ProgramRules.{IsWellTyped}
use Rattle.p4_typing_laws.specs.Places.{Use, valued, named, is_called, has_calls, is_compared, AllFree, AllWanted, TypeUse, ValueArg, ValueArgs, IndexArg, ListArg, PathUse, PathArg, OnePath, NoArgs, IsNumber, ReceiverArg, FieldArg, DigestArgs, SumArgs, ReadArgs, WriteArgs, FormArgs, Callee, NegatedUse, TestUse, StartUse, StmtUses, BlockUses, ElseUses, ParamUses, ActionUses, FieldUses, KeyUses, ListedUses, DefaultArgs, DefaultUse, TableUses, LocalUses, LocalsUses, WayUses, ControlUses, KeysetUse, EachKeyset, KeysetUses, CaseUses, TransitionUses, StateUses, ParserUses, TopUses, TopsUses, EachUse}
use Rattle.p4_typing_laws.specs.Names.{StandsFor, UseAgrees}
use Rattle.p4_typing_laws.proofs.Fine.{twice_not, neither, typed_fine}
use Rattle.p4_typing_laws.specs.Soundness.{kind_width, IsSoundKind, AreSoundKinds, IsSoundStands, IsSound, UseIsSound, SightsAreSound}
use Rattle.p4_typing_laws.specs.Widths.{UseHasWidth}
use Rattle.p4_typing_laws.proofs.Agreement.{agrees}
use Rattle.p4_typing_laws.proofs.StaticWidths.{number_cap}
use Rattle.p4_typing_laws.proofs.ValueWidths.{fine_has_static}
use Rattle.p4_typing_laws.proofs.SoundScopes.{kind_sound, value_sound, params_sound, states_sound, ends_sound, core_sound}
use Rattle.p4_typing_laws.proofs.SoundPlaces.{after_sound, local_sound, ways_sound, inside_sound, top_sound, value_most, truth_most, free_most, index_most, kind_most, IsSoundForm, form_sound}

broken : {A : Type 0} → true ≡ false → A
broken h = absurd (cc)

both_hold : (a b : Bool) → a ≡ true → b ≡ false → (a && not b) ≡ true
both_hold true true h k = absurd (cc)
both_hold true false h k = refl
both_hold false b h k = absurd (cc)

module _ (P : Scope → Use → Type 0) (value_holds : (s : Scope) → IsSound s → (w : Kind) → kind_width w ≤ 128 → (e : Expr) → IsFine (expr_tests s w e) → P s (valued w e)) (name_holds : (s : Scope) → IsSound s → (fits : Stands → Bool) (x : List (List ℕ)) → StandsFor s fits x → P s (named fits x)) where
  -- a path that a test finds fine
  fits_there : (s : Scope) (is : IsSound s) (fits : Stands → Bool) (x : List (List ℕ)) → is_missing (s x) ≡ false → not (fits (s x)) ≡ false → P s (named fits x)
  fits_there s is fits x h k = name_holds s is fits x (record { known = h; fitting = twice_not (fits (s x)) k })

  -- ---- expressions and arguments

  free_uses : (s : Scope) (is : IsSound s) (es : List Expr) → IsFine (all_free s es) → AllFree P s es
  free_uses s is [] f = tt
  free_uses s is (e ∷ es) f = (value_holds s is _ (free_most s is e _ f.0) e f.0, free_uses s is es f.1)

  type_use : (p : ℕ) (s : Scope) (is : IsSound s) (t : PTy) → IsFine (type_tests p s t) → TypeUse P s t
  type_use p s is (type.Bit w) f = tt
  type_use p s is type.Bool f = tt
  type_use p s is (type.Named t) f = fits_there s is is_type (t ∷ []) f.0 f.1

  index_use : (s : Scope) (is : IsSound s) (a : Arg) → IsFine (index_arg s a) → IndexArg P s a
  index_use s is (one p e) f = value_holds s is _ (index_most s is e _ f) e f
  index_use s is (many p es) f = broken f

  path_use : (p : ℕ) (fits : Stands → Bool) (s : Scope) (is : IsSound s) (o : Option (ℕ × List (List ℕ))) → IsFine (path_tests p fits s o) → PathUse P fits s o
  path_use p fits s is None f = broken f
  path_use p fits s is (Some x) f = fits_there s is fits x.1 f.0 f.1

  arg_path : (fits : Stands → Bool) (s : Scope) (is : IsSound s) (a : Arg) → IsFine (path_arg fits s a) → PathArg P fits s a
  arg_path fits s is (one p e) f = path_use p fits s is (path_in e) f
  arg_path fits s is (many p es) f = broken f

  one_path : (p : ℕ) (fits : Stands → Bool) (s : Scope) (is : IsSound s) (args : List Arg) → IsFine (single_tests p fits s args) → OnePath P fits s args
  one_path p fits s is [] f = broken f
  one_path p fits s is (a ∷ []) f = arg_path fits s is a f
  one_path p fits s is (a ∷ b ∷ rest) f = broken f

  no_args : (p : ℕ) (args : List Arg) → IsFine (none_tests p args) → NoArgs P args
  no_args p [] f = tt
  no_args p (a ∷ args) f = broken f

  is_number : (p : ℕ) (e : Expr) → IsFine (receiver_tests p e) → IsNumber P e
  is_number p (num q n) f = tt
  is_number p (flag q b) f = broken f
  is_number p (path q x) f = broken f
  is_number p (valid q x) f = broken f
  is_number p (applied q t h) f = broken f
  is_number p (error_name q x) f = broken f
  is_number p (negation q a) f = broken f
  is_number p (inversion q a) f = broken f
  is_number p (opposite q a) f = broken f
  is_number p (binary q op a b) f = broken f
  is_number p (conditional q c a b) f = broken f
  is_number p (slice q a h l) f = broken f
  is_number p (cast q t a) f = broken f

  receiver_use : (a : Arg) → IsFine (receiver_arg a) → ReceiverArg P a
  receiver_use (one p e) f = is_number p e f
  receiver_use (many p es) f = broken f

  digest_list : (s : Scope) (is : IsSound s) (a : Arg) → IsFine (digest_values s a) → ListArg P s a
  digest_list s is (one p e) f = broken f
  digest_list s is (many p es) f = free_uses s is es f.1

  digest_args : (p : ℕ) (s : Scope) (is : IsSound s) (args : List Arg) → IsFine (digest_tests p s args) → DigestArgs P s args
  digest_args p s is [] f = broken f
  digest_args p s is (a ∷ []) f = broken f
  digest_args p s is (a ∷ b ∷ []) f = (receiver_use a f.0, digest_list s is b f.1)
  digest_args p s is (a ∷ b ∷ c ∷ rest) f = broken f

  summed_list : (s : Scope) (is : IsSound s) (a : Arg) → IsFine (summed_arg s a) → ListArg P s a
  summed_list s is (one p e) f = broken f
  summed_list s is (many p es) f = free_uses s is es f.1

  summed_at : (p : ℕ) (s : Scope) (is : IsSound s) (o : Option (ℕ × List (List ℕ))) → IsFine (summed_field p true s o) → PathUse P is_compared s o
  summed_at p s is None f = broken f
  summed_at p s is (Some x) f = (let k = neither (not (reads (s x.1))) (is_known (s x.1)) f.0.1 in name_holds s is is_compared x.1 (record { known = f.0.0; fitting = both_hold (reads (s x.1)) (is_known (s x.1)) (twice_not (reads (s x.1)) k.0) k.1 }))

  updated_at : (p : ℕ) (s : Scope) (is : IsSound s) (o : Option (ℕ × List (List ℕ))) → IsFine (summed_field p false s o) → PathUse P reads s o × PathUse P is_writable s o
  updated_at p s is None f = broken f
  updated_at p s is (Some x) f = (fits_there s is reads x.1 f.0.0 f.0.1.0, fits_there s is is_writable x.1 f.0.0 f.0.1.1)

  field_use : (v : Bool) (s : Scope) (is : IsSound s) (a : Arg) → IsFine (field_arg v s a) → FieldArg P v s a
  field_use true s is (one p e) f = summed_at p s is (path_in e) f
  field_use true s is (many p es) f = broken f
  field_use false s is (one p e) f = updated_at p s is (path_in e) f
  field_use false s is (many p es) f = broken f

  value_arg : (s : Scope) (is : IsSound s) (k : Kind) → kind_width k ≤ 128 → (a : Arg) → IsFine (args_tests s (k ∷ []) (a ∷ [])) → ValueArg P s k a
  value_arg s is k m (one p e) f = value_holds s is k m e f.0
  value_arg s is k m (many p es) f = broken f.0

  sum_args : (p : ℕ) (v : Bool) (s : Scope) (is : IsSound s) (args : List Arg) → IsFine (sum_tests p v s args) → SumArgs P v s args
  sum_args p v s is [] f = broken f
  sum_args p v s is (a ∷ []) f = broken f
  sum_args p v s is (a ∷ b ∷ []) f = broken f
  sum_args p v s is (a ∷ b ∷ c ∷ []) f = broken f
  sum_args p v s is (a ∷ b ∷ c ∷ d ∷ []) f = (value_arg s is Truth truth_most a (f.0, tt), summed_list s is b f.1.0, field_use v s is c f.1.1.0, arg_path is_algorithm s is d f.1.1.1)
  sum_args p v s is (a ∷ b ∷ c ∷ d ∷ e ∷ rest) f = broken f

  target_at : (p : ℕ) (s : Scope) (is : IsSound s) (k : Kind) (o : Option (ℕ × List (List ℕ))) → IsFine (cell_target p s k o) → PathUse P reads s o × PathUse P is_writable s o
  target_at p s is k None f = broken f
  target_at p s is k (Some x) f = (fits_there s is reads x.1 f.0.0 f.0.1.0, fits_there s is is_writable x.1 f.0.0 f.0.1.1)

  target_use : (s : Scope) (is : IsSound s) (k : Kind) (a : Arg) → IsFine (target_arg s k a) → PathArg P reads s a × PathArg P is_writable s a
  target_use s is k (one p e) f = target_at p s is k (path_in e) f
  target_use s is k (many p es) f = broken f

  read_args : (p : ℕ) (s : Scope) (is : IsSound s) (k : Kind) (args : List Arg) → IsFine (cell_read p s k args) → ReadArgs P s args
  read_args p s is k [] f = broken f
  read_args p s is k (a ∷ []) f = broken f
  read_args p s is k (a ∷ b ∷ []) f = (target_use s is k a f.0, index_use s is b f.1)
  read_args p s is k (a ∷ b ∷ c ∷ rest) f = broken f

  write_args : (p : ℕ) (s : Scope) (is : IsSound s) (k : Kind) → IsSoundKind k → (args : List Arg) → IsFine (cell_write p s k args) → WriteArgs P s k args
  write_args p s is k i [] f = broken f
  write_args p s is k i (a ∷ []) f = broken f
  write_args p s is k i (a ∷ b ∷ []) f = (index_use s is a f.0, value_arg s is k (kind_most k i) b (f.1, tt))
  write_args p s is k i (a ∷ b ∷ c ∷ rest) f = broken f

  value_args : (s : Scope) (is : IsSound s) (ks : List Kind) (args : List Arg) → AreSoundKinds ks → not (as_many ks args) ≡ false → IsFine (args_tests s ks args) → ValueArgs P s ks args
  value_args s is [] [] i m f = tt
  value_args s is [] (a ∷ args) i m f = broken m
  value_args s is (k ∷ ks) [] i m f = broken m
  value_args s is (k ∷ ks) (a ∷ args) i m f = (value_arg s is k (kind_most k i.0) a (f.0, tt), value_args s is ks args i.1 m f.1)

  form_args : (p : ℕ) (s : Scope) (is : IsSound s) (form : Form) (args : List Arg) → IsSoundForm form → IsFine (form_tests p s form args) → FormArgs P s form args
  form_args p s is unknown args i f = broken f
  form_args p s is ill args i f = broken f
  form_args p s is drops args i f = one_path p holds_standard s is args f
  form_args p s is digests args i f = digest_args p s is args f
  form_args p s is (sums v) args i f = sum_args p v s is args f
  form_args p s is extracts args i f = one_path p holds_header s is args f
  form_args p s is emits args i f = one_path p holds_header s is args f
  form_args p s is applies args i f = no_args p args f
  form_args p s is (reads_cell k) args i f = read_args p s is k args f
  form_args p s is (writes_cell k) args i f = write_args p s is k i args f
  form_args p s is makes_valid args i f = no_args p args f
  form_args p s is (acts ks) args i f = value_args s is ks args i f.0 f.1

  -- ---- what is called

  called_there : (s : Scope) (is : IsSound s) (fits : Stands → Bool) (x : List (List ℕ)) (st : Stands) → s x ≡ st → is_missing st ≡ false → fits st ≡ true → P s (named fits x)
  called_there s is fits x st e h k = name_holds s is fits x (record { known = ap is_missing e ∙ h; fitting = ap fits e ∙ k })

  plain_callee : (p : ℕ) (s : Scope) (is : IsSound s) (x : List ℕ) (args : List Arg) (st : Stands) → s (x ∷ []) ≡ st → IsFine (form_tests p s (plain_form st) args) → P s (named is_called (x ∷ []))
  plain_callee p s is x args missing e f = broken f
  plain_callee p s is x args (typed b t) e f = broken f
  plain_callee p s is x args (held a t) e f = broken f
  plain_callee p s is x args (cells k) e f = broken f
  plain_callee p s is x args (act ks m) e f = called_there s is is_called (x ∷ []) (act ks m) e refl refl
  plain_callee p s is x args (rows m) e f = broken f
  plain_callee p s is x args state e f = broken f
  plain_callee p s is x args (function g) e f = called_there s is is_called (x ∷ []) (function g) e refl refl
  plain_callee p s is x args algorithm e f = broken f
  plain_callee p s is x args other e f = broken f

  held_callee : (p : ℕ) (s : Scope) (is : IsSound s) (x : List (List ℕ)) (verb : List ℕ) (args : List Arg) (a : Access) (t : Thing) → s x ≡ held a t → IsFine (form_tests p s (thing_form t verb) args) → P s (named has_calls x)
  held_callee p s is x verb args a (Scalar k) e f = broken f
  held_callee p s is x verb args a (Header n) e f = called_there s is has_calls x (held a (Header n)) e refl refl
  held_callee p s is x verb args a Struct e f = broken f
  held_callee p s is x verb args a Standard e f = broken f
  held_callee p s is x verb args a PacketIn e f = called_there s is has_calls x (held a PacketIn) e refl refl
  held_callee p s is x verb args a PacketOut e f = called_there s is has_calls x (held a PacketOut) e refl refl

  verb_callee : (p : ℕ) (s : Scope) (is : IsSound s) (x : List (List ℕ)) (verb : List ℕ) (args : List Arg) (st : Stands) → s x ≡ st → IsFine (form_tests p s (verb_form st verb) args) → P s (named has_calls x)
  verb_callee p s is x verb args missing e f = broken f
  verb_callee p s is x verb args (typed b t) e f = broken f
  verb_callee p s is x verb args (held a t) e f = held_callee p s is x verb args a t e f
  verb_callee p s is x verb args (cells k) e f = called_there s is has_calls x (cells k) e refl refl
  verb_callee p s is x verb args (act ks m) e f = broken f
  verb_callee p s is x verb args (rows m) e f = called_there s is has_calls x (rows m) e refl refl
  verb_callee p s is x verb args state e f = broken f
  verb_callee p s is x verb args (function g) e f = broken f
  verb_callee p s is x verb args algorithm e f = broken f
  verb_callee p s is x verb args other e f = broken f

  callee : (p : ℕ) (s : Scope) (is : IsSound s) (x : List (List ℕ)) (args : List Arg) → IsFine (form_tests p s (form_of s x) args) → Callee P s x
  callee p s is [] args f = broken f
  callee p s is (x ∷ []) args f = plain_callee p s is x args (s (x ∷ [])) refl f
  callee p s is (x ∷ y ∷ rest) args f = verb_callee p s is (parent (x ∷ y ∷ rest)) (last_name (x ∷ y ∷ rest)) args (s (parent (x ∷ y ∷ rest))) refl f

  -- ---- statements

  negated_use : (h : Part) (s : Scope) (is : IsSound s) (q : ℕ) (e : Expr) → IsFine (negated_tests h s q e) → NegatedUse P s q e
  negated_use h s is q (applied p t b) f = fits_there s is is_table (t ∷ []) f.0 f.1.0
  negated_use h s is q (num p n) f = value_holds s is Truth truth_most (negation q (num p n)) f
  negated_use h s is q (flag p b) f = value_holds s is Truth truth_most (negation q (flag p b)) f
  negated_use h s is q (path p x) f = value_holds s is Truth truth_most (negation q (path p x)) f
  negated_use h s is q (valid p x) f = value_holds s is Truth truth_most (negation q (valid p x)) f
  negated_use h s is q (error_name p x) f = value_holds s is Truth truth_most (negation q (error_name p x)) f
  negated_use h s is q (negation p a) f = value_holds s is Truth truth_most (negation q (negation p a)) f
  negated_use h s is q (inversion p a) f = value_holds s is Truth truth_most (negation q (inversion p a)) f
  negated_use h s is q (opposite p a) f = value_holds s is Truth truth_most (negation q (opposite p a)) f
  negated_use h s is q (binary p op a b) f = value_holds s is Truth truth_most (negation q (binary p op a b)) f
  negated_use h s is q (conditional p c a b) f = value_holds s is Truth truth_most (negation q (conditional p c a b)) f
  negated_use h s is q (slice p a i l) f = value_holds s is Truth truth_most (negation q (slice p a i l)) f
  negated_use h s is q (cast p t a) f = value_holds s is Truth truth_most (negation q (cast p t a)) f

  test_use : (h : Part) (s : Scope) (is : IsSound s) (e : Expr) → IsFine (if_tests h s e) → TestUse P s e
  test_use h s is (applied p t b) f = fits_there s is is_table (t ∷ []) f.0 f.1.0
  test_use h s is (negation p a) f = negated_use h s is p a f
  test_use h s is (num p n) f = value_holds s is Truth truth_most (num p n) f
  test_use h s is (flag p b) f = value_holds s is Truth truth_most (flag p b) f
  test_use h s is (path p x) f = value_holds s is Truth truth_most (path p x) f
  test_use h s is (valid p x) f = value_holds s is Truth truth_most (valid p x) f
  test_use h s is (error_name p x) f = value_holds s is Truth truth_most (error_name p x) f
  test_use h s is (inversion p a) f = value_holds s is Truth truth_most (inversion p a) f
  test_use h s is (opposite p a) f = value_holds s is Truth truth_most (opposite p a) f
  test_use h s is (binary p op a b) f = value_holds s is Truth truth_most (binary p op a b) f
  test_use h s is (conditional p c a b) f = value_holds s is Truth truth_most (conditional p c a b) f
  test_use h s is (slice p a i l) f = value_holds s is Truth truth_most (slice p a i l) f
  test_use h s is (cast p t a) f = value_holds s is Truth truth_most (cast p t a) f

  start_use : (s : Scope) (is : IsSound s) (k : Kind) → kind_width k ≤ 128 → (o : Option Expr) → IsFine (start_tests s k o) → StartUse P s k o
  start_use s is k m None f = tt
  start_use s is k m (Some e) f = value_holds s is k m e f

  mutual
    stmt_uses : (c : Stmt) (h : Part) (s : Scope) (is : IsSound s) → IsFine (stmt_tests h s c) → StmtUses P s c
    stmt_uses (nothing p) h s is f = tt
    stmt_uses (block p b) h s is f = block_uses b h s is f.1
    stmt_uses (var p t x e) h s is f = (type_use p s is t f.1.1.0.0, start_use s is (kind_in s t) (kind_most (kind_in s t) (kind_sound p s is t f.1.1.0)) e f.1.1.1)
    stmt_uses (assign p x e) h s is f = (fits_there s is reads x f.1.0.0 f.1.0.1.0, fits_there s is is_writable x f.1.0.0 f.1.0.1.1, value_holds s is (value_kind (s x)) (value_most s is x f.1.0.0 (twice_not (reads (s x)) f.1.0.1.0)) e f.1.1)
    stmt_uses (choice p e a b) h s is f = (test_use h s is e f.1.0, stmt_uses a h s is f.1.1.0, else_uses b h s is f.1.1.1)
    stmt_uses (return_ p) h s is f = tt
    stmt_uses (exit_ p) h s is f = tt
    stmt_uses (call p x args) h s is f = (callee p s is x args f.1, form_args p s is (form_of s x) args (form_sound s is x) f.1)

    block_uses : (ss : Stmts) (h : Part) (s : Scope) (is : IsSound s) → IsFine (block_tests h s ss) → BlockUses P s ss
    block_uses done h s is f = tt
    block_uses (next c rest) h s is f = (stmt_uses c h s is f.0, block_uses rest h (after s c) (after_sound h s is c f.0) f.1)

    else_uses : (o : MaybeStmt) (h : Part) (s : Scope) (is : IsSound s) → IsFine (else_tests h s o) → ElseUses P s o
    else_uses without h s is f = tt
    else_uses (otherwise c) h s is f = stmt_uses c h s is f

  -- ---- declarations

  param_uses : (p : ℕ) (qs : List (PTy × List ℕ)) (s : Scope) (is : IsSound s) → IsFine (params_tests p s qs) → ParamUses P s qs
  param_uses p [] s is f = tt
  param_uses p (q ∷ qs) s is f = (type_use p s is q.0 f.0.1.0, param_uses p qs (declare s q.1 (value Fixed q.0)) (value_sound p s is q.1 Fixed q.0 f.0.1.0) f.1)

  action_uses : (h : Part) (s : Scope) (is : IsSound s) (a : Action) → IsFine (action_tests h s a) → ActionUses P s a
  action_uses h s is a f = (param_uses a.at a.params s is f.1.0, block_uses a.body h (with_params s a.params) (params_sound a.at a.params s is f.1.0) f.1.1)

  field_uses : (p : ℕ) (misfit : Thing → Bool) (s : Scope) (is : IsSound s) (fs : List (PTy × List ℕ)) → IsFine (fields_tests p misfit s fs) → FieldUses P s fs
  field_uses p misfit s is [] f = tt
  field_uses p misfit s is (g ∷ fs) f = (type_use p s is g.0 f.0.0, field_uses p misfit s is fs f.1)

  key_uses : (s : Scope) (is : IsSound s) (ks : List (Expr × List ℕ)) → IsFine (keys_tests s ks) → KeyUses P s ks
  key_uses s is [] f = tt
  key_uses s is (k ∷ ks) f = (value_holds s is _ (free_most s is k.0 _ f.0) k.0 f.0, key_uses s is ks f.1)

  listed_uses : (p : ℕ) (s : Scope) (is : IsSound s) (xs : List (List ℕ)) → IsFine (listed_tests p s xs) → ListedUses P s xs
  listed_uses p s is [] f = tt
  listed_uses p s is (x ∷ xs) f = (fits_there s is is_action (x ∷ []) f.0.0 f.0.1, listed_uses p s is xs f.1)

  all_wanted : (s : Scope) (is : IsSound s) (ks : List Kind) (es : List Expr) → AreSoundKinds ks → not (as_many ks es) ≡ false → IsFine (known_args s ks es) → AllWanted P s ks es
  all_wanted s is [] [] i m f = tt
  all_wanted s is [] (e ∷ es) i m f = broken m
  all_wanted s is (k ∷ ks) [] i m f = broken m
  all_wanted s is (k ∷ ks) (e ∷ es) i m f = (value_holds s is k (kind_most k i.0) e f.0.0, all_wanted s is ks es i.1 m f.1)

  default_at : (p : ℕ) (s : Scope) (is : IsSound s) (st : Stands) (es : List Expr) → IsSoundStands st → IsFine (default_args p s st es) → DefaultArgs P s st es
  default_at p s is missing es i f = broken f
  default_at p s is (typed b t) es i f = broken f
  default_at p s is (held a t) es i f = broken f
  default_at p s is (cells k) es i f = broken f
  default_at p s is (act ks m) es i f = all_wanted s is ks es i f.0 f.1
  default_at p s is (rows m) es i f = broken f
  default_at p s is state es i f = broken f
  default_at p s is (function g) es i f = broken f
  default_at p s is algorithm es i f = broken f
  default_at p s is other es i f = broken f

  default_use : (p : ℕ) (s : Scope) (is : IsSound s) (xs : List (List ℕ)) (o : Option (List ℕ × List Expr)) → IsFine (default_tests p s xs o) → DefaultUse P s o
  default_use p s is xs None f = tt
  default_use p s is xs (Some d) f = default_at p s is (s (d.0 ∷ [])) d.1 (is.paths (d.0 ∷ [])) f.1

  table_uses : (s : Scope) (is : IsSound s) (t : Table) → IsFine (table_tests s t) → TableUses P s t
  table_uses s is t f = (key_uses s is t.keys f.1.1.0, listed_uses t.at s is t.actions f.1.1.1.1.0, default_use t.at s is t.actions t.default f.1.1.1.1.1)

  local_uses : (h : Part) (s : Scope) (is : IsSound s) (l : Local) → IsFine (declared_tests h s l) → LocalUses P s l
  local_uses h s is (local_action p a) f = action_uses (action_part h) s is a f
  local_uses h s is (local_table p t) f = table_uses s is t f
  local_uses h s is (local_register p r) f = type_use r.at s is r.ty f.1.0.0
  local_uses h s is (local_const p t x e) f = (type_use p s is t f.1.0.0, value_holds s is (kind_in s t) (kind_most (kind_in s t) (kind_sound p s is t f.1.0)) e f.1.1.0)
  local_uses h s is (local_var p t x e) f = (type_use p s is t f.1.0.0, start_use s is (kind_in s t) (kind_most (kind_in s t) (kind_sound p s is t f.1.0)) e f.1.1)

  locals_uses : (h : Part) (ls : List Local) (s : Scope) (is : IsSound s) → IsFine (locals_tests h s ls) → LocalsUses P s ls
  locals_uses h [] s is f = tt
  locals_uses h (l ∷ ls) s is f = (local_uses h s is l f.0.1, locals_uses h ls (after_local s l) (local_sound h s is l f.0) f.1)

  -- ---- parsers and controls

  way_uses : (qs : List Param) (s : Scope) (is : IsSound s) → IsFine (ways_tests s qs) → WayUses P s qs
  way_uses [] s is f = tt
  way_uses (q ∷ qs) s is f = (type_use q.at s is q.ty f.0.1, way_uses qs (declare s q.name (value (way_access q.way) q.ty)) (value_sound q.at s is q.name (way_access q.way) q.ty f.0.1) f.1)

  control_uses : (h : Part) (s : Scope) (is : IsSound s) (c : Control) → IsFine (control_tests h s c) → ControlUses P s c
  control_uses h s is c f = (way_uses c.params s is f.1.0, locals_uses h c.locals (with_ways s c.params) (ways_sound c.params s is f.1.0) f.1.1.0, block_uses c.apply h (in_control s c) (inside_sound h s is c f) f.1.1.1.0)

  keyset_use : (s : Scope) (is : IsSound s) (k : Kind) → kind_width k ≤ 128 → (ks : Keyset) → IsFine (keyset_tests s k ks) → KeysetUse P s k ks
  keyset_use s is k i (any p) f = tt
  keyset_use s is k i (only p e) f = value_holds s is k i e f.0
  keyset_use s is k i (masked p e m) f = (value_holds s is (as_number k) (number_cap k i) e f.0.0, value_holds s is (as_number k) (number_cap k i) m f.1.0)

  keyset_each : (s : Scope) (is : IsSound s) (es : List Expr) (ks : List Keyset) → IsFine (all_free s es) → not (as_many es ks) ≡ false → IsFine (each_keyset s es ks) → EachKeyset P s es ks
  keyset_each s is [] [] g m f = tt
  keyset_each s is [] (k ∷ ks) g m f = broken m
  keyset_each s is (e ∷ es) [] g m f = broken m
  keyset_each s is (e ∷ es) (k ∷ ks) g m f = (keyset_use s is (as_value (own s e)) (free_most s is e _ g.0) k f.0, keyset_each s is es ks g.1 m f.1)

  keyset_uses : (p : ℕ) (s : Scope) (is : IsSound s) (es : List Expr) (ks : List Keyset) → IsFine (all_free s es) → IsFine (keysets_tests p s es ks) → KeysetUses P s es ks
  keyset_uses p s is es [] g f = keyset_each s is es [] g f.0 f.1
  keyset_uses p s is es (any q ∷ []) g f = tt
  keyset_uses p s is es (any q ∷ k ∷ ks) g f = keyset_each s is es (any q ∷ k ∷ ks) g f.0 f.1
  keyset_uses p s is es (only q e ∷ ks) g f = keyset_each s is es (only q e ∷ ks) g f.0 f.1
  keyset_uses p s is es (masked q e m ∷ ks) g f = keyset_each s is es (masked q e m ∷ ks) g f.0 f.1

  -- a name that is tested to be a state's is one
  onto_name : (p : ℕ) (b : Bool) (st : Stands) → IsFine (onto_tests p b st) → b ≡ true
  onto_name p true st f = refl
  onto_name p false st f = broken (sym (ap not f.0) ∙ f.1)

  case_uses : (k : List ℕ → Bool) (p : ℕ) (s : Scope) (is : IsSound s) (es : List Expr) (cs : List Case) → IsFine (all_free s es) → IsFine (cases_tests k p s es cs) → CaseUses P k s es cs
  case_uses k p s is es [] g f = tt
  case_uses k p s is es (c ∷ cs) g f = (keyset_uses p s is es c.keys g f.0.0, onto_name p (k c.next) (s (c.next ∷ [])) f.0.1, case_uses k p s is es cs g f.1)

  transition_uses : (k : List ℕ → Bool) (s : Scope) (is : IsSound s) (t : Transition) → IsFine (transition_tests k s t) → TransitionUses P k s t
  transition_uses k s is (nowhere p) f = tt
  transition_uses k s is (to p x) f = onto_name p (k x) (s (x ∷ [])) f
  transition_uses k s is (select p es cs) f = (free_uses s is es f.0, case_uses k p s is es cs f.0 f.1)

  state_uses : (all : List ParserState) (s : Scope) (is : IsSound s) (sts : List ParserState) → IsFine (states_tests all s sts) → StateUses P (is_state_name (state_names all)) s sts
  state_uses all s is [] f = tt
  state_uses all s is (st ∷ sts) f = (block_uses (stmts_from st.body) place.State s is f.0.1.0, transition_uses (is_state_name (state_names all)) s is st.next f.0.1.1, state_uses all s is sts f.1)

  parser_uses : (s : Scope) (is : IsSound s) (d : Parser) → IsFine (parser_tests s d) → ParserUses P s d
  parser_uses s is d f =
      let inside = in_states s d in
      let sound = states_sound d.states (before_states s d) (ends_sound (with_ways s d.params) (ways_sound d.params s is f.1.0)) in
      (way_uses d.params s is f.1.0, onto_name d.at (is_state_name (state_names d.states) (codes "start")) (inside (codes "start" ∷ [])) f.1.1.1.0, state_uses d.states inside sound d.states f.1.1.1.1)

  -- ---- programs

  top_uses : (main : List (List ℕ)) (s : Scope) (is : IsSound s) (t : Top) → IsFine (top_tests main s t) → TopUses P s t
  top_uses main s is (constant p t x e) f = (type_use p s is t f.1.0.0, value_holds s is (kind_in s t) (kind_most (kind_in s t) (kind_sound p s is t f.1.0)) e f.1.1.0)
  top_uses main s is (typedef p t x) f = type_use p s is t f.1.0
  top_uses main s is (header_type p x fs) f = field_uses p is_no_number s is fs f.1.1.0
  top_uses main s is (struct_type p x fs) f = field_uses p is_no_field s is fs f.1.1
  top_uses main s is (register p r) f = type_use r.at s is r.ty f.1.0.0
  top_uses main s is (parser p d) f = parser_uses s is d f
  top_uses main s is (control p c) f = control_uses (part_in main c.name) s is c f

  tops_uses : (main : List (List ℕ)) (ts : List Top) (s : Scope) (is : IsSound s) → IsFine (tops_tests main s ts) → TopsUses P s ts
  tops_uses main [] s is f = tt
  tops_uses main (t ∷ ts) s is f = (top_uses main s is t f.0, tops_uses main ts (after_top s t) (top_sound main s is t f.0) f.1)

  pub each_use : (p : Program) → IsWellTyped p → EachUse P p
  each_use p h = tops_uses p.main p.tops core core_sound (typed_fine p h).0

pub each_agrees : (p : Program) → IsWellTyped p → EachUse UseAgrees p
each_agrees p h = each_use UseAgrees (λ s is w m e f. agrees s w e f) (λ s is fits x k. k) p h

pub each_sound : SightsAreSound
each_sound p h = each_use UseIsSound (λ s is w m e f. (is, m)) (λ s is fits x k. is) p h

pub each_has_width : (p : Program) → IsWellTyped p → EachUse UseHasWidth p
each_has_width p h = each_use UseHasWidth (λ s is w m e f. fine_has_static s w m e f) (λ s is fits x k. tt) p h

pub parts_named : (p : Program) → IsWellTyped p → names_parts p.tops p.main ≡ true
parts_named p h = twice_not (names_parts p.tops p.main) (typed_fine p h).1.0.0
