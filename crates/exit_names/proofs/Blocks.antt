-- Statements that break no rule use what is shown alone, under the scope of the meaning. New: the names that they may
-- declare.
use Rattle.std.proofs.Common.{◌≡◌, ℕ, List, [], ◌∷◌, map, Bool, true, false, cond, not, codes, Option, Some, None, refl, sym, ap, ◌∙◌, subst}
use Rattle.std.specs.List.{AllByRecursion}
use Rattle.std.specs.Option.{option_map}
use Rattle.lex_text.specs.Names.{same_text, parent, last_name}
use Rattle.rule_tests.specs.Tests.{IsFine}
use Rattle.p4_tree.specs.Tree.{Expr, num, path, applied, negation, Arg, one, many, Stmt, Stmts, MaybeStmt, block, var, assign, choice, call, done, next, without, otherwise}
use Rattle.p4_tree.specs.declared.statement.PTy.{PTy}
use Rattle.p4_meaning.specs.Statements.{sum_of, act_named, act_of}
use Rattle.p4_meaning.specs.Scope as meaning
use Rattle.p4_meaning.specs.Scope.{is_among, first_name, full_name, constant_at, names_in_stmt, names_in_else, names_in}
use Rattle.p4_meaning.specs.Under.{expr_under, arg_under, callee_under, stmt_under, else_under, stmts_under}
use Rattle.p4_scopes.specs.Scopes.{Stands, held, cells, rows, function, is_missing, Scope, What, value, behind, declare}
use Rattle.p4_scopes.specs.Uses.{reads}
use Rattle.p4_scopes.specs.declared.kind.Kind.{Kind}
use Rattle.p4_scopes.specs.declared.kind.Kind.TheVariants.{Truth}
use Rattle.p4_scopes.specs.declared.thing.Thing.TheVariants.{Header, PacketIn, PacketOut}
use Rattle.p4_scopes.specs.declared.thing.Access.{Access}
use Rattle.p4_scopes.specs.declared.thing.Access.TheVariants.{Writable}
use Rattle.p4_scopes.specs.declared.thing.Function.{Function}
use Rattle.p4_scopes.specs.declared.thing.Function.TheVariants.{MarkToDrop, VerifyChecksum, UpdateChecksum}
use Rattle.p4_statement_rules.specs.Forms as form
use Rattle.p4_statement_rules.specs.Forms.{Form, plain_form, verb_form, takes_call, takes_sums, takes_extracts, takes_emits, path_in, form_of}
use Rattle.p4_statement_rules.specs.Statements.{after, stmt_tests, block_tests, else_tests}
use Rattle.p4_statement_rules.specs.declared.rule.Part.{Part}
use Rattle.p4_typing_laws.specs.Places.{AllFree, ValueArg, ValueArgs, IndexArg, ListArg, PathArg, ReceiverArg, SumArgs, FormArgs, TestUse, StartUse, StmtUses, BlockUses, ElseUses}
use Rattle.p4_typing_laws.specs.Names.{UseAgrees}
use Rattle.p4_typing_laws.proofs.Fine.{twice_not}
use Rattle.p4_typing_laws.proofs.CallCounts.{function_name}
use Rattle.p4_typing_laws.proofs.FullNames.{among_head}
use Rattle.p4_typing_laws.proofs.CountedNames.{was_missing}
use Rattle.p4_typing_laws.proofs.AlongRuns.{among_left, among_right}
use Rattle.exit_statements.specs.Without.{Flags}
use Rattle.exit_statements.specs.Free.{Hides, is_flag, shows, IsFreeExpr, IsFreeStart, IsFreeAct, IsFreeName, hides_behind, IsFreeStmt, IsFreeElse, AreFreeStmts}
use Rattle.exit_names.proofs.Names.{broken}
use Rattle.exit_names.proofs.Seen.{Sees, shows_more, shows_it, shows_other, sees_declared, path_free, expr_free, target_free, HasArg, quiet_free, sum_first, act_free}

-- a part in which no packet is read or written, and no checksum is verified
pub record IsRun (h : Part) : Type 0 where
  pub extracts : takes_extracts h ≡ false
  pub emits : takes_emits h ≡ false
  pub verifies : takes_sums h true ≡ false

-- the functions of the architecture's own go by their names
pub record NamesFunctions (s : Scope) (sc : meaning.Scope) : Type 0 where
  pub functions : (x : List ℕ) (f : Function) → s (x ∷ []) ≡ function f → full_name sc x ≡ function_name f

pub functions_declared : (s : Scope) (sc : meaning.Scope) (n : List ℕ) (w : What) → NamesFunctions s sc → ((g : Function) → behind s w [] ≡ function g → ⊥) → NamesFunctions (declare s n w) sc
unfolding declare
functions_declared s sc n w f none = record { functions = λ y g e. go y g (same_text n y) e }
  where
    go : (y : List ℕ) (g : Function) (b : Bool) → cond b (behind s w []) (s (y ∷ [])) ≡ function g → full_name sc y ≡ function_name g
    go y g true h = absurd (none g h)
    go y g false h = f.functions y g h

-- ---- calls

-- a call that has an argument which is no value
abbrev is_odd : Form → Bool
is_odd form.drops = true
is_odd (form.sums v) = true
is_odd _ = false

even_if : (b : Bool) (f g : Form) → is_odd f ≡ false → is_odd g ≡ false → is_odd (cond b f g) ≡ false
even_if true f g h k = h
even_if false f g h k = k

-- no call on something is one
verb_even : (st : Stands) (verb : List ℕ) → is_odd (verb_form st verb) ≡ false
verb_even (held a (Header n)) v = even_if _ form.makes_valid form.ill refl refl
verb_even (held a PacketIn) v = even_if _ form.extracts form.ill refl refl
verb_even (held a PacketOut) v = even_if _ form.emits form.ill refl refl
verb_even (cells k) v =
    even_if (same_text v (codes "read")) (form.reads_cell k) (cond (same_text v (codes "write")) (form.writes_cell k) form.ill) refl (even_if (same_text v (codes "write")) (form.writes_cell k) form.ill refl refl)
verb_even (rows m) v = even_if _ form.applies form.ill refl refl
verb_even _ v = refl

module _ (s : Scope) (sc : meaning.Scope) (hides : Hides) (sees : Sees s sc hides) where
  abbrev Free : List Arg → Type 0
  Free args = AllByRecursion (HasArg (IsFreeExpr hides)) (map (arg_under sc) args)

  list_free : (es : List Expr) → AllFree UseAgrees s es → AllByRecursion (IsFreeExpr hides) (map (expr_under sc) es)
  list_free [] h = tt
  list_free (e ∷ es) h = (expr_free s sc hides sees e h.0.names, list_free es h.1)

  value_free : (k : Kind) (a : Arg) → ValueArg UseAgrees s k a → HasArg (IsFreeExpr hides) (arg_under sc a)
  value_free k (one p e) h = expr_free s sc hides sees e h.names
  value_free k (many p es) h = absurd h

  values_free : (ks : List Kind) (args : List Arg) → ValueArgs UseAgrees s ks args → Free args
  values_free [] [] h = tt
  values_free (k ∷ ks) (a ∷ args) h = (value_free k a h.0, values_free ks args h.1)
  values_free _ _ h = absurd h

  index_free : (a : Arg) → IndexArg UseAgrees s a → HasArg (IsFreeExpr hides) (arg_under sc a)
  index_free (one p e) h = expr_free s sc hides sees e h.names
  index_free (many p es) h = absurd h

  braces_free : (a : Arg) → ListArg UseAgrees s a → HasArg (IsFreeExpr hides) (arg_under sc a)
  braces_free (one p e) h = absurd h
  braces_free (many p es) h = list_free es h

  receiver_free : (a : Arg) → ReceiverArg UseAgrees a → HasArg (IsFreeExpr hides) (arg_under sc a)
  receiver_free (one p (num q n)) h = tt
  receiver_free _ h = absurd h

  read_arg : (a : Arg) → PathArg UseAgrees reads s a → HasArg (IsFreeExpr hides) (arg_under sc a)
  read_arg (one p (path q x)) h = path_free s sc hides sees q x h
  read_arg _ h = absurd h

  -- but for odd calls the arguments use what is shown alone
  args_free : (h : Part) → IsRun h → (f : Form) → is_odd f ≡ false → not (takes_call h f) ≡ false → (args : List Arg) → FormArgs UseAgrees s f args → Free args
  args_free h r form.drops d t args k = broken d
  args_free h r (form.sums v) d t args k = broken d
  args_free h r form.digests d t (a ∷ b ∷ []) k = (receiver_free a k.0, (braces_free b k.1, tt))
  args_free h r form.extracts d t args k = broken (sym (ap not r.extracts) ∙ t)
  args_free h r form.emits d t args k = broken (sym (ap not r.emits) ∙ t)
  args_free h r form.applies d t [] k = tt
  args_free h r (form.reads_cell j) d t (a ∷ i ∷ []) k = (read_arg a k.0.0, (index_free i k.1, tt))
  args_free h r (form.writes_cell j) d t (i ∷ v ∷ []) k = (index_free i k.0, (value_free j v k.1, tt))
  args_free h r form.makes_valid d t [] k = tt
  args_free h r (form.acts ks) d t args k = values_free ks args k
  args_free h r _ d t _ k = absurd k

  module _ (h : Part) (r : IsRun h) (f : NamesFunctions s sc) where
    -- of a checksum's arguments the last one is not looked at
    sum_free : (args : List Arg) → SumArgs UseAgrees false s args → IsFreeAct hides (sum_of false (map (arg_under sc) args))
    sum_free (c ∷ list ∷ field ∷ g ∷ []) k =
        sum_first (IsFreeAct hides) (IsFreeExpr hides) (quiet_free hides) false (arg_under sc c) (arg_under sc list) (arg_under sc field) (arg_under sc g ∷ []) (value_free Truth c k.0) (braces_free list k.1) (read_arg field k.2.0)
    sum_free _ k = absurd k

    plain_call : (x : List ℕ) (args : List Arg) (st : Stands) → s (x ∷ []) ≡ st → not (takes_call h (plain_form st)) ≡ false → FormArgs UseAgrees s (plain_form st) args → IsFreeAct hides (act_named (full_name sc x) (map (arg_under sc) args))
    plain_call x args (function MarkToDrop) e t k = subst (λ (y : List ℕ). IsFreeAct hides (act_named y (map (arg_under sc) args))) (sym (f.functions x MarkToDrop e)) tt
    plain_call x args (function VerifyChecksum) e t k = broken (sym (ap not r.verifies) ∙ t)
    plain_call x args (function UpdateChecksum) e t k = subst (λ (y : List ℕ). IsFreeAct hides (act_named y (map (arg_under sc) args))) (sym (f.functions x UpdateChecksum e)) (sum_free args k)
    plain_call x args st e t k = act_free hides (full_name sc x ∷ []) (map (arg_under sc) args) (args_free h r (plain_form st) refl t args k)

    call_free : (x : List (List ℕ)) (args : List Arg) → not (takes_call h (form_of s x)) ≡ false → FormArgs UseAgrees s (form_of s x) args → IsFreeAct hides (act_of (callee_under sc x) (map (arg_under sc) args))
    call_free [] args t k = absurd k
    call_free (x ∷ []) args t k = plain_call x args (s (x ∷ [])) refl t k
    call_free (x ∷ y ∷ rest) args t k =
        act_free hides (callee_under sc (x ∷ y ∷ rest)) (map (arg_under sc) args)
        (args_free h r (form_of s (x ∷ y ∷ rest)) (verb_even (s (parent (x ∷ y ∷ rest))) (last_name (x ∷ y ∷ rest))) t args k)

  -- ---- tests

  test_free : (e : Expr) → TestUse UseAgrees s e → IsFreeExpr hides (expr_under sc e)
  test_free (applied p t b) h = tt
  test_free (negation p (applied q t b)) h = tt
  test_free (negation p a) h = expr_free s sc hides sees (negation p a) h.names
  test_free e h = expr_free s sc hides sees e h.names

  pub start_free : (k : Kind) (e : Option Expr) → StartUse UseAgrees s k e → IsFreeStart hides (option_map (expr_under sc) e)
  start_free k None h = tt
  start_free k (Some e) h = expr_free s sc hides sees e h.names

-- ---- statements

-- names that may be declared have places of their own, and are no flags
pub record AreOwn (sc : meaning.Scope) (n : Flags) (may : List ℕ → Bool) (New : List ℕ → Type 0) : Type 0 where
  pub apart : (x y : List ℕ) → New x → New y → first_name sc x ≡ first_name sc y → x ≡ y
  pub no_flag : (x : List ℕ) → New x → is_flag n (first_name sc x) ≡ false
  pub may_be : (x : List ℕ) → New x → may (first_name sc x) ≡ true

-- what is known at a statement: what may be declared and is not yet is hidden
pub record IsAt (New : List ℕ → Type 0) (s : Scope) (sc : meaning.Scope) (hides : Hides) : Type 0 where
  pub sees : Sees s sc hides
  pub hidden : (x : List ℕ) → New x → is_missing (s (x ∷ [])) ≡ true → hides (first_name sc x ∷ []) ≡ true
  pub functions : NamesFunctions s sc

module _ (n : Flags) (may : List ℕ → Bool) (New : List ℕ → Type 0) (sc : meaning.Scope) (own : AreOwn sc n may New) where
  -- behind a variable
  pub at_more : (s : Scope) (hides : Hides) (x : List ℕ) (a : Access) (t : PTy) → IsAt New s sc hides → New x → IsAt New (declare s x (value a t)) sc (shows hides (first_name sc x))
  at_more s hides x a t b new =
      record {
        sees = sees_declared s sc sc hides (shows hides (first_name sc x)) x (value a t) b.sees (λ q h. shows_more hides (first_name sc x) q h) (λ y. refl) (λ y e c. c) (λ r k. shows_it hides (first_name sc x));
        hidden = λ y k m. (let was = was_missing s x (value a t) refl y m in shows_other hides (first_name sc x) (first_name sc y) (λ e. was.apart (own.apart x y new k e)) (b.hidden y k was.before));
        functions = functions_declared s sc x (value a t) b.functions (λ g e. absurd (cc));
      }

  -- a name that is declared
  pub name_free : (s : Scope) (hides : Hides) (x : List ℕ) → IsAt New s sc hides → New x → is_missing (s (x ∷ [])) ≡ true → IsFreeName n may hides (first_name sc x)
  name_free s hides x b new h = record { plain = own.no_flag x new; hidden = b.hidden x new h; may_be = own.may_be x new }

  abbrev AllNew : List (List ℕ) → Type 0
  AllNew xs = (m : List ℕ) → is_among xs m ≡ true → New m

  behind_stmt : (s : Scope) (hides : Hides) (c : Stmt) → IsAt New s sc hides → AllNew (names_in_stmt c) → IsAt New (after s c) sc (hides_behind hides (stmt_under sc c))
  behind_stmt s hides (var p t x e) b new = at_more s hides x Writable t b (new x (among_head x []))
  behind_stmt s hides _ b new = b

  mutual
    stmt_free : (c : Stmt) (h : Part) → IsRun h → (s : Scope) (hides : Hides) → IsAt New s sc hides → AllNew (names_in_stmt c) → IsFine (stmt_tests h s c) → StmtUses UseAgrees s c → IsFreeStmt n may hides (stmt_under sc c)
    stmt_free (block p ss) h r s hides b new f u = block_free ss h r s hides b new f.1 u
    stmt_free (var p t x e) h r s hides b new f u = (name_free s hides x b (new x (among_head x [])) (twice_not _ f.1.0), start_free s sc hides b.sees _ e u.1)
    stmt_free (assign p x e) h r s hides b new f u = (target_free s sc hides b.sees x u.0 u.1, expr_free s sc hides b.sees e u.2.names)
    stmt_free (choice p e c o) h r s hides b new f u = (
      test_free s sc hides b.sees e u.0,
      stmt_free c h r s hides b (λ m i. new m (among_left (names_in_stmt c) (names_in_else o) m i)) f.1.1.0 u.1,
      else_free o h r s hides b (λ m i. new m (among_right (names_in_stmt c) (names_in_else o) m i)) f.1.1.1 u.2,
    )
    stmt_free (call p x args) h r s hides b new f u = call_free s sc hides b.sees h r b.functions x args f.0 u.1
    stmt_free _ h r s hides b new f u = tt

    else_free : (o : MaybeStmt) (h : Part) → IsRun h → (s : Scope) (hides : Hides) → IsAt New s sc hides → AllNew (names_in_else o) → IsFine (else_tests h s o) → ElseUses UseAgrees s o → IsFreeElse n may hides (else_under sc o)
    else_free without h r s hides b new f u = tt
    else_free (otherwise c) h r s hides b new f u = stmt_free c h r s hides b new f u

    pub block_free : (ss : Stmts) (h : Part) → IsRun h → (s : Scope) (hides : Hides) → IsAt New s sc hides → AllNew (names_in ss) → IsFine (block_tests h s ss) → BlockUses UseAgrees s ss → AreFreeStmts n may hides (stmts_under sc ss)
    block_free done h r s hides b new f u = tt
    block_free (next c ss) h r s hides b new f u =
        (let first : AllNew (names_in_stmt c) = λ m i. new m (among_left (names_in_stmt c) (names_in ss) m i) in
        (stmt_free c h r s hides b first f.0 u.0, block_free ss h r (after s c) (hides_behind hides (stmt_under sc c)) (behind_stmt s hides c b first) (λ m i. new m (among_right (names_in_stmt c) (names_in ss) m i)) f.1 u.1))
