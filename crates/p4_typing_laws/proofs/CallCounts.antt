-- The digests of statements: what the meaning counts of a block that breaks no rule, the rules count, and nothing more.
use Rattle.std.proofs.Common.{◌≡◌, ◌⊎◌, inl, inr, ℕ, List, [], ◌∷◌, map, Bool, true, false, cond, not, ◌||◌, codes, Option, Some, None, refl, sym, ap, ◌∙◌, subst}
use Rattle.std.specs.Option.{option_map}
use Rattle.std.proofs.lemmas.Slice.Eq.{bytes_eq-Decides}
use Rattle.bit_values.specs.Bits.{Word}
use Rattle.lex_text.specs.Names.{same_text, parent, last_name}
use Rattle.rule_tests.specs.Tests.{IsFine}
use Rattle.p4_tree.specs.Tree.{Expr, num, flag, path, valid, applied, error_name, negation, inversion, opposite, binary, conditional, slice, cast, Arg, one, many, Stmt, Stmts, MaybeStmt, nothing, block, var, assign, choice, return_, exit_, call, done, next, without, otherwise}
use Rattle.p4_tree.specs.declared.statement.PTy.{PTy}
use Rattle.p4_meaning.specs.Statements.{Act, makes, drops, runs, idle, read_of, write_of, digest_of, sum_of, values_in, act_named, act_on, act_on_header, act_of, application}
use Rattle.p4_meaning.specs.Scope as meaning
use Rattle.p4_meaning.specs.Scope.{full_name, first_name, path_under, constant_at}
use Rattle.p4_meaning.specs.Under.{constant_or_path, callee_under, expr_under, arg_under, stmt_under, else_under, stmts_under}
use Rattle.p4_meaning.specs.DigestBound as bound
use Rattle.p4_scopes.specs.Scopes.{Stands, missing, typed, held, cells, act, rows, state, function, algorithm, other, is_missing, Scope, value, behind, declare}
use Rattle.p4_scopes.specs.Uses.{is_table, most_in}
use Rattle.p4_scopes.specs.declared.kind.Kind.{Kind}
use Rattle.p4_scopes.specs.declared.kind.Kind.TheVariants.{Truth}
use Rattle.p4_scopes.specs.declared.thing.Thing.{Thing}
use Rattle.p4_scopes.specs.declared.thing.Thing.TheVariants.{Scalar, Header, Struct, Standard, PacketIn, PacketOut}
use Rattle.p4_scopes.specs.declared.thing.Access.{Access}
use Rattle.p4_scopes.specs.declared.thing.Access.TheVariants.{Writable, Fixed}
use Rattle.p4_scopes.specs.declared.thing.Function.{Function}
use Rattle.p4_scopes.specs.declared.thing.Function.TheVariants.{MarkToDrop, Digest, VerifyChecksum, UpdateChecksum}
use Rattle.p4_statement_rules.specs.Expressions.{expr_tests}
use Rattle.p4_statement_rules.specs.Forms as form
use Rattle.p4_statement_rules.specs.Forms.{Form, ill, plain_form, verb_form, form_of, takes_runs, takes_call}
use Rattle.p4_statement_rules.specs.Calls.{digest_tests, form_tests}
use Rattle.p4_statement_rules.specs.Statements.{if_tests, negated_tests, after, stmt_tests, block_tests, else_tests}
use Rattle.p4_statement_rules.specs.declared.rule.Part.{Part}
use Rattle.p4_declaration_rules.specs.Declarations.{params_tests, with_params}
use Rattle.p4_declaration_rules.specs.Digests.{most_of_form, most_of_test, most_of_stmt, most_of_else, most_of}
use Rattle.p4_typing_laws.proofs.Fine.{twice_not}
use Rattle.p4_typing_laws.proofs.Cut.{IsCut, zero_cut, one_cut, none_cut, add_cut, max_cut}

broken : {A : Type 0} → true ≡ false → A
broken h = absurd (cc)

pub text_is : (x y : List ℕ) → same_text x y ≡ true → x ≡ y
text_is x y h = (bytes_eq-Decides x y).0 h

pub text_same : (x y : List ℕ) → x ≡ y → same_text x y ≡ true
text_same x y e = (bytes_eq-Decides x y).1 e

-- ---- scopes that hold more values

-- what neither names a function nor counts
abbrev pub IsQuiet : Stands → Type 0
IsQuiet missing = Unit {0}
IsQuiet (typed f t) = Unit {0}
IsQuiet (held a t) = Unit {0}
IsQuiet (cells k) = Unit {0}
IsQuiet (act ks m) = ⊥
IsQuiet (rows m) = ⊥
IsQuiet state = Unit {0}
IsQuiet (function f) = ⊥
IsQuiet algorithm = Unit {0}
IsQuiet other = Unit {0}

missing_quiet : (st : Stands) → is_missing st ≡ true → IsQuiet st
missing_quiet missing h = tt
missing_quiet (typed f t) h = tt
missing_quiet (held a t) h = tt
missing_quiet (cells k) h = tt
missing_quiet (act ks m) h = broken (sym h)
missing_quiet (rows m) h = broken (sym h)
missing_quiet state h = tt
missing_quiet (function f) h = broken (sym h)
missing_quiet algorithm h = tt
missing_quiet other h = tt

-- behind declarations of values each name stands for what it stood for, or it counts neither before them nor behind them
pub record HasMoreValues (s t : Scope) : Type 0 where
  pub same : (x : List ℕ) → (t (x ∷ []) ≡ s (x ∷ [])) ⊎ (IsQuiet (t (x ∷ [])) × IsQuiet (s (x ∷ [])))

pub no_more_values : (s : Scope) → HasMoreValues s s
no_more_values s = record { same = λ x. inl refl }

-- what is quiet was so before
was_quiet : (s t : Scope) → HasMoreValues s t → (x : List ℕ) (st : Stands) → t (x ∷ []) ≡ st → IsQuiet st → IsQuiet (s (x ∷ []))
was_quiet s t h x st e q = go (h.same x)
  where
    go : (t (x ∷ []) ≡ s (x ∷ [])) ⊎ (IsQuiet (t (x ∷ [])) × IsQuiet (s (x ∷ []))) → IsQuiet (s (x ∷ []))
    go (inl same) = subst IsQuiet (sym e ∙ same) q
    go (inr k) = k.1

-- what is not quiet was there before
was_there : (s t : Scope) → HasMoreValues s t → (x : List ℕ) (st : Stands) → t (x ∷ []) ≡ st → (IsQuiet st → ⊥) → s (x ∷ []) ≡ st
was_there s t h x st e loud = go (h.same x)
  where
    go : (t (x ∷ []) ≡ s (x ∷ [])) ⊎ (IsQuiet (t (x ∷ [])) × IsQuiet (s (x ∷ []))) → s (x ∷ []) ≡ st
    go (inl same) = sym same ∙ e
    go (inr k) = absurd (loud (subst IsQuiet e k.0))

pub one_value_more : (s t : Scope) → HasMoreValues s t → (n : List ℕ) (a : Access) (ty : PTy) → is_missing (t (n ∷ [])) ≡ true → HasMoreValues s (declare t n (value a ty))
unfolding declare
one_value_more s t h n a ty new = record { same = λ x. go x (same_text n x) refl }
  where
    was : IsQuiet (s (n ∷ []))
    was = was_quiet s t h n (t (n ∷ [])) refl (missing_quiet (t (n ∷ [])) new)

    go : (x : List ℕ) (b : Bool) → same_text n x ≡ b → (cond b (behind t (value a ty) []) (t (x ∷ [])) ≡ s (x ∷ [])) ⊎ (IsQuiet (cond b (behind t (value a ty) []) (t (x ∷ []))) × IsQuiet (s (x ∷ [])))
    go x true e = inr (tt, subst (λ (y : List ℕ). IsQuiet (s (y ∷ []))) (text_is n x e) was)
    go x false e = h.same x

pub params_more : (at : ℕ) (ps : List (PTy × List ℕ)) (s t : Scope) → HasMoreValues s t → IsFine (params_tests at t ps) → HasMoreValues s (with_params t ps)
params_more at [] s t h f = h
params_more at (q ∷ qs) s t h f = params_more at qs s (declare t q.1 (value Fixed q.0)) (one_value_more s t h q.1 Fixed q.0 (twice_not _ f.0.0)) f.1

pub after_more : (h : Part) (s t : Scope) → HasMoreValues s t → (c : Stmt) → IsFine (stmt_tests h t c) → HasMoreValues s (after t c)
after_more h s t more (nothing p) f = more
after_more h s t more (block p b) f = more
after_more h s t more (var p ty x e) f = one_value_more s t more x Writable ty (twice_not _ f.1.0)
after_more h s t more (assign p x e) f = more
after_more h s t more (choice p e a b) f = more
after_more h s t more (return_ p) f = more
after_more h s t more (exit_ p) f = more
after_more h s t more (call p x args) f = more

-- ---- names of functions

abbrev pub function_name : Function → List ℕ
function_name MarkToDrop = codes "mark_to_drop"
function_name Digest = codes "digest"
function_name VerifyChecksum = codes "verify_checksum"
function_name UpdateChecksum = codes "update_checksum"

abbrev pub is_function_name : List ℕ → Bool
is_function_name x = same_text x (codes "mark_to_drop") || same_text x (codes "digest") || same_text x (codes "verify_checksum") || same_text x (codes "update_checksum")

-- what names of a scope count in the meaning, where `full` gives the full names, is what they count in the rules: of
-- actions and tables where they may be run. Nothing that counts stands behind another name
pub record Counts (full : List ℕ → List ℕ) (action table : List ℕ → ℕ) (may : Bool) (s : Scope) : Type 0 where
  pub functions : (x : List ℕ) (f : Function) → s (x ∷ []) ≡ function f → full x ≡ function_name f
  pub actions : (x : List ℕ) (ks : List Kind) (m : ℕ) → s (x ∷ []) ≡ act ks m → may ≡ true → (is_function_name (full x) ≡ false) × IsCut (action (full x)) m
  pub tables : (x : List ℕ) (m : ℕ) → s (x ∷ []) ≡ rows m → may ≡ true → IsCut (table (full x)) m
  pub inner : (x y : List ℕ) (rest : List (List ℕ)) → IsQuiet (s (x ∷ y ∷ rest))

-- ---- acts

module _ (action table : List ℕ → ℕ) where
  abbrev of_act : Act → ℕ
  of_act = bound.most_of_act action table

  read_none : (x : List ℕ) (args : List Arg) → of_act (read_of x args) ≡ 0
  read_none x [] = refl
  read_none x (many p es ∷ rest) = refl
  read_none x (one p (num q n) ∷ rest) = refl
  read_none x (one p (flag q b) ∷ rest) = refl
  read_none x (one p (path q y) ∷ []) = refl
  read_none x (one p (path q y) ∷ one r i ∷ []) = refl
  read_none x (one p (path q y) ∷ one r i ∷ z ∷ rest) = refl
  read_none x (one p (path q y) ∷ many r es ∷ rest) = refl
  read_none x (one p (valid q y) ∷ rest) = refl
  read_none x (one p (applied q t b) ∷ rest) = refl
  read_none x (one p (error_name q y) ∷ rest) = refl
  read_none x (one p (negation q a) ∷ rest) = refl
  read_none x (one p (inversion q a) ∷ rest) = refl
  read_none x (one p (opposite q a) ∷ rest) = refl
  read_none x (one p (binary q op a b) ∷ rest) = refl
  read_none x (one p (conditional q c a b) ∷ rest) = refl
  read_none x (one p (slice q a h l) ∷ rest) = refl
  read_none x (one p (cast q t a) ∷ rest) = refl

  write_none : (x : List ℕ) (args : List Arg) → of_act (write_of x args) ≡ 0
  write_none x [] = refl
  write_none x (many p es ∷ rest) = refl
  write_none x (one p e ∷ []) = refl
  write_none x (one p e ∷ many q es ∷ rest) = refl
  write_none x (one p e ∷ one q v ∷ []) = refl
  write_none x (one p e ∷ one q v ∷ z ∷ rest) = refl

  -- a digest that breaks no rule is told, with its arguments under any scope
  digest_one : (sc : meaning.Scope) (p : ℕ) (t : Scope) (given : List Arg) → IsFine (digest_tests p t given) → of_act (digest_of (map (arg_under sc) given)) ≡ 1
  digest_one sc p t [] f = broken f
  digest_one sc p t (a ∷ []) f = broken f
  digest_one sc p t (a ∷ b ∷ c ∷ rest) f = broken f
  digest_one sc p t (many q es ∷ b ∷ []) f = broken f.0
  digest_one sc p t (one q e ∷ one r v ∷ []) f = broken f.1
  digest_one sc p t (one q (num u n) ∷ many r es ∷ []) f = refl
  digest_one sc p t (one q (flag u b) ∷ many r es ∷ []) f = broken f.0
  digest_one sc p t (one q (path u y) ∷ many r es ∷ []) f = broken f.0
  digest_one sc p t (one q (valid u y) ∷ many r es ∷ []) f = broken f.0
  digest_one sc p t (one q (applied u y b) ∷ many r es ∷ []) f = broken f.0
  digest_one sc p t (one q (error_name u y) ∷ many r es ∷ []) f = broken f.0
  digest_one sc p t (one q (negation u a) ∷ many r es ∷ []) f = broken f.0
  digest_one sc p t (one q (inversion u a) ∷ many r es ∷ []) f = broken f.0
  digest_one sc p t (one q (opposite u a) ∷ many r es ∷ []) f = broken f.0
  digest_one sc p t (one q (binary u op a b) ∷ many r es ∷ []) f = broken f.0
  digest_one sc p t (one q (conditional u c a b) ∷ many r es ∷ []) f = broken f.0
  digest_one sc p t (one q (slice u a h l) ∷ many r es ∷ []) f = broken f.0
  digest_one sc p t (one q (cast u ty a) ∷ many r es ∷ []) f = broken f.0

  field_none : (v : Bool) (p : ℕ) (c : Expr) (q : ℕ) (es : List Expr) (r : ℕ) (e : Expr) (rest : List Arg) → of_act (sum_of v (one p c ∷ many q es ∷ one r e ∷ rest)) ≡ 0
  field_none v p c q es r (path t x) [] = refl
  field_none v p c q es r (path t x) (one u h ∷ []) = refl
  field_none v p c q es r (path t x) (one u h ∷ z ∷ rest) = refl
  field_none v p c q es r (path t x) (many u h ∷ rest) = refl
  field_none v p c q es r (num t n) rest = refl
  field_none v p c q es r (flag t b) rest = refl
  field_none v p c q es r (valid t y) rest = refl
  field_none v p c q es r (applied t y b) rest = refl
  field_none v p c q es r (error_name t y) rest = refl
  field_none v p c q es r (negation t a) rest = refl
  field_none v p c q es r (inversion t a) rest = refl
  field_none v p c q es r (opposite t a) rest = refl
  field_none v p c q es r (binary t op a b) rest = refl
  field_none v p c q es r (conditional t d a b) rest = refl
  field_none v p c q es r (slice t a h l) rest = refl
  field_none v p c q es r (cast t ty a) rest = refl

  sum_none : (v : Bool) (args : List Arg) → of_act (sum_of v args) ≡ 0
  sum_none v [] = refl
  sum_none v (many p es ∷ rest) = refl
  sum_none v (one p c ∷ []) = refl
  sum_none v (one p c ∷ one q e ∷ rest) = refl
  sum_none v (one p c ∷ many q es ∷ []) = refl
  sum_none v (one p c ∷ many q es ∷ many r fs ∷ rest) = refl
  sum_none v (one p c ∷ many q es ∷ one r e ∷ rest) = field_none v p c q es r e rest

  -- a function of the architecture's own
  function_counts : (sc : meaning.Scope) (f : Function) (p : ℕ) (t : Scope) (given : List Arg) → IsFine (form_tests p t (form.function_form f) given) → (s : Scope) (x : List (List ℕ)) → IsCut (of_act (act_named (function_name f) (map (arg_under sc) given))) (most_of_form s (form.function_form f) x)
  function_counts sc MarkToDrop p t given f s x = zero_cut
  function_counts sc Digest p t given f s x = subst (λ (n : ℕ). IsCut n 1) (sym (digest_one sc p t given f)) one_cut
  function_counts sc VerifyChecksum p t given f s x = none_cut _ _ (sum_none true (map (arg_under sc) given)) refl
  function_counts sc UpdateChecksum p t given f s x = none_cut _ _ (sum_none false (map (arg_under sc) given)) refl

  -- a name that is no function's runs an action
  runs_it : (x : List ℕ) (args : List Arg) → is_function_name x ≡ false → act_named x args ≡ runs x (values_in args)
  runs_it x args h = go (same_text x (codes "mark_to_drop")) (same_text x (codes "digest")) (same_text x (codes "verify_checksum")) (same_text x (codes "update_checksum")) h
    where
      go : (a b c d : Bool) → (a || b || c || d) ≡ false → cond a drops (cond b (digest_of args) (cond c (sum_of true args) (cond d (sum_of false args) (runs x (values_in args))))) ≡ runs x (values_in args)
      go true b c d k = broken k
      go false true c d k = broken k
      go false false true d k = broken k
      go false false false true k = broken k
      go false false false false k = refl

  header_none : (h : List (List ℕ)) (verb : List ℕ) → of_act (act_on_header h verb) ≡ 0
  header_none h verb = go (same_text verb (codes "setValid")) (same_text verb (codes "setInvalid"))
    where
      go : (a b : Bool) → of_act (cond a (makes h true) (cond b (makes h false) idle)) ≡ 0
      go true b = refl
      go false true = refl
      go false false = refl

-- ---- forms

if_none : (s : Scope) (x : List (List ℕ)) (b : Bool) (f g : Form) → most_of_form s f x ≡ 0 → most_of_form s g x ≡ 0 → most_of_form s (cond b f g) x ≡ 0
if_none s x true f g h k = h
if_none s x false f g h k = k

thing_quiet : (s : Scope) (x : List (List ℕ)) (ty : Thing) (verb : List ℕ) → most_of_form s (form.thing_form ty verb) x ≡ 0
thing_quiet s x (Scalar k) verb = refl
thing_quiet s x (Header b) verb = if_none s x (same_text verb (codes "setValid") || same_text verb (codes "setInvalid")) form.makes_valid ill refl refl
thing_quiet s x Struct verb = refl
thing_quiet s x Standard verb = refl
thing_quiet s x PacketIn verb = if_none s x (same_text verb (codes "extract")) form.extracts ill refl refl
thing_quiet s x PacketOut verb = if_none s x (same_text verb (codes "emit")) form.emits ill refl refl

-- a call on what is quiet counts nothing
verb_quiet : (s : Scope) (x : List (List ℕ)) (st : Stands) (verb : List ℕ) → IsQuiet st → most_of_form s (verb_form st verb) x ≡ 0
verb_quiet s x missing verb q = refl
verb_quiet s x (typed f t) verb q = refl
verb_quiet s x (held a ty) verb q = thing_quiet s x ty verb
verb_quiet s x (cells k) verb q =
    if_none s x (same_text verb (codes "read")) (form.reads_cell k) (cond (same_text verb (codes "write")) (form.writes_cell k) ill) refl
    (if_none s x (same_text verb (codes "write")) (form.writes_cell k) ill refl refl)
verb_quiet s x (act ks m) verb q = absurd q
verb_quiet s x (rows m) verb q = absurd q
verb_quiet s x state verb q = refl
verb_quiet s x (function f) verb q = absurd q
verb_quiet s x algorithm verb q = refl
verb_quiet s x other verb q = refl

-- ---- calls

-- full: the full names of what a scope of the meaning names. h: where the statements stand
module _ (sc : meaning.Scope) (action table : List ℕ → ℕ) (h : Part) (s : Scope) (counts : Counts (full_name sc) action table (takes_runs h) s) where
  abbrev of : Act → ℕ
  of = bound.most_of_act action table

  module _ (t : Scope) (more : HasMoreValues s t) where
    -- a call by one name
    plain_counts : (p : ℕ) (x : List ℕ) (given : List Arg) (st : Stands) → t (x ∷ []) ≡ st → not (takes_call h (plain_form st)) ≡ false → IsFine (form_tests p t (plain_form st) given)
        → IsCut (of (act_named (full_name sc x) (map (arg_under sc) given))) (most_of_form s (plain_form (s (x ∷ []))) (x ∷ []))
    plain_counts p x given missing e k f = broken f
    plain_counts p x given (typed b ty) e k f = broken f
    plain_counts p x given (held a ty) e k f = broken f
    plain_counts p x given (cells c) e k f = broken f
    plain_counts p x given (act ks m) e k f =
        let args : List Arg = map (arg_under sc) given in
        let was = was_there s t more x (act ks m) e (λ l. l) in
        let named = counts.actions x ks m was (twice_not _ k) in
        subst (λ (a : Act). IsCut (of a) (most_of_form s (plain_form (s (x ∷ []))) (x ∷ []))) (sym (runs_it action table (full_name sc x) args named.0))
        (subst (λ (st : Stands). IsCut (action (full_name sc x)) (most_of_form s (plain_form st) (x ∷ []))) (sym was)
        (subst (λ (st : Stands). IsCut (action (full_name sc x)) (most_in st)) (sym was) named.1))
    plain_counts p x given (rows m) e k f = broken f
    plain_counts p x given state e k f = broken f
    plain_counts p x given (function g) e k f =
        let args : List Arg = map (arg_under sc) given in
        let was = was_there s t more x (function g) e (λ l. l) in
        subst (λ (n : List ℕ). IsCut (of (act_named n args)) (most_of_form s (plain_form (s (x ∷ []))) (x ∷ []))) (sym (counts.functions x g was))
        (subst (λ (st : Stands). IsCut (of (act_named (function_name g) args)) (most_of_form s (plain_form st) (x ∷ []))) (sym was) (function_counts action table sc g p t given f s (x ∷ [])))
    plain_counts p x given algorithm e k f = broken f
    plain_counts p x given other e k f = broken f

    -- a call on a table, a register, a header or a packet
    apply_counts : (p : ℕ) (x verb : List ℕ) (given args : List Arg) (m : ℕ) → s (x ∷ []) ≡ rows m → (b : Bool) → same_text verb (codes "apply") ≡ b → not (takes_call h (cond b form.applies ill)) ≡ false → IsFine (form_tests p t (cond b form.applies ill) given)
        → IsCut (of (act_on (full_name sc x) verb args)) (most_of_form s (verb_form (s (x ∷ [])) verb) (x ∷ verb ∷ []))
    apply_counts p x verb given args m was false e k f = broken f
    apply_counts p x verb given args m was true e k f =
        let is : verb ≡ codes "apply" = text_is verb (codes "apply") e in
        subst (λ (v : List ℕ). IsCut (of (act_on (full_name sc x) v args)) (most_of_form s (verb_form (s (x ∷ [])) v) (x ∷ v ∷ []))) (sym is)
        (subst (λ (st : Stands). IsCut (table (full_name sc x)) (most_of_form s (verb_form st (codes "apply")) (x ∷ codes "apply" ∷ []))) (sym was)
        (subst (λ (st : Stands). IsCut (table (full_name sc x)) (most_in st)) (sym was) (counts.tables x m was (twice_not _ k))))

    cell_none : (x verb : List ℕ) (args : List Arg) (a b : Bool) → same_text verb (codes "read") ≡ a → same_text verb (codes "write") ≡ b → (a || b) ≡ true → of (act_on (full_name sc x) verb args) ≡ 0
    cell_none x verb args true b e g i =
        subst (λ (v : List ℕ). of (act_on (full_name sc x) v args) ≡ 0) (sym (text_is verb (codes "read") e)) (read_none action table (full_name sc x) args)
    cell_none x verb args false true e g i =
        subst (λ (v : List ℕ). of (act_on (full_name sc x) v args) ≡ 0) (sym (text_is verb (codes "write") g)) (write_none action table (full_name sc x) args)
    cell_none x verb args false false e g i = broken (sym i)

    -- a verb of this kind applies no table
    other_verb : (x verb name : List ℕ) (args : List Arg) → same_text verb name ≡ true → act_on (full_name sc x) name args ≡ idle → of (act_on (full_name sc x) verb args) ≡ 0
    other_verb x verb name args e i = subst (λ (v : List ℕ). of (act_on (full_name sc x) v args) ≡ 0) (sym (text_is verb name e)) (ap of i)

    fine_either : (p : ℕ) (given : List Arg) (fm : Form) (a : Bool) → IsFine (form_tests p t (cond a fm ill) given) → a ≡ true
    fine_either p given fm true f = refl
    fine_either p given fm false f = broken f

    or_cases : {R : Type 0} (a b : Bool) → (a || b) ≡ true → (a ≡ true → R) → (b ≡ true → R) → R
    or_cases true b i k l = k refl
    or_cases false b i k l = l i

    fine_cell : (p : ℕ) (given : List Arg) (k : Kind) (a b : Bool) → IsFine (form_tests p t (cond a (form.reads_cell k) (cond b (form.writes_cell k) ill)) given) → (a || b) ≡ true
    fine_cell p given k true b f = refl
    fine_cell p given k false true f = refl
    fine_cell p given k false false f = broken f

    thing_none : (p : ℕ) (x verb : List ℕ) (given args : List Arg) (ty : Thing) → IsFine (form_tests p t (form.thing_form ty verb) given) → of (act_on (full_name sc x) verb args) ≡ 0
    thing_none p x verb given args (Scalar k) f = broken f
    thing_none p x verb given args (Header b) f =
        or_cases (same_text verb (codes "setValid")) (same_text verb (codes "setInvalid")) (fine_either p given form.makes_valid _ f)
        (λ e. other_verb x verb (codes "setValid") args e refl) (λ e. other_verb x verb (codes "setInvalid") args e refl)
    thing_none p x verb given args Struct f = broken f
    thing_none p x verb given args Standard f = broken f
    thing_none p x verb given args PacketIn f = other_verb x verb (codes "extract") args (fine_either p given form.extracts _ f) refl
    thing_none p x verb given args PacketOut f = other_verb x verb (codes "emit") args (fine_either p given form.emits _ f) refl

    -- what stands there counts nothing
    none_counted : (x verb : List ℕ) (args : List Arg) (st : Stands) → t (x ∷ []) ≡ st → IsQuiet st → of (act_on (full_name sc x) verb args) ≡ 0 → IsCut (of (act_on (full_name sc x) verb args)) (most_of_form s (verb_form (s (x ∷ [])) verb) (x ∷ verb ∷ []))
    none_counted x verb args st e q none = none_cut _ _ none (verb_quiet s (x ∷ verb ∷ []) (s (x ∷ [])) verb (was_quiet s t more x st e q))

    verb_counts : (p : ℕ) (x verb : List ℕ) (given args : List Arg) (st : Stands) → t (x ∷ []) ≡ st → not (takes_call h (verb_form st verb)) ≡ false → IsFine (form_tests p t (verb_form st verb) given)
        → IsCut (of (act_on (full_name sc x) verb args)) (most_of_form s (verb_form (s (x ∷ [])) verb) (x ∷ verb ∷ []))
    verb_counts p x verb given args missing e k f = broken f
    verb_counts p x verb given args (typed b ty) e k f = broken f
    verb_counts p x verb given args (held a ty) e k f = none_counted x verb args (held a ty) e tt (thing_none p x verb given args ty f)
    verb_counts p x verb given args (cells c) e k f = none_counted x verb args (cells c) e tt (cell_none x verb args _ _ refl refl (fine_cell p given c _ _ f))
    verb_counts p x verb given args (act ks m) e k f = broken f
    verb_counts p x verb given args (rows m) e k f = apply_counts p x verb given args m (was_there s t more x (rows m) e (λ l. l)) (same_text verb (codes "apply")) refl k f
    verb_counts p x verb given args state e k f = broken f
    verb_counts p x verb given args (function g) e k f = broken f
    verb_counts p x verb given args algorithm e k f = broken f
    verb_counts p x verb given args other e k f = broken f

    call_counts : (p : ℕ) (x : List (List ℕ)) (given : List Arg) → not (takes_call h (form_of t x)) ≡ false → IsFine (form_tests p t (form_of t x) given) → IsCut (of (act_of (callee_under sc x) (map (arg_under sc) given))) (most_of_form s (form_of s x) x)
    call_counts p [] given k f = broken f
    call_counts p (x ∷ []) given k f = plain_counts p x given (t (x ∷ [])) refl k f
    call_counts p (x ∷ y ∷ []) given k f = verb_counts p x y given (map (arg_under sc) given) (t (x ∷ [])) refl k f
    call_counts p (x ∷ y ∷ z ∷ []) given k f =
        none_cut _ _ (header_none action table (first_name sc x ∷ y ∷ []) z) (verb_quiet s (x ∷ y ∷ z ∷ []) (s (x ∷ y ∷ [])) z (counts.inner x y []))
    call_counts p (x ∷ y ∷ z ∷ w ∷ rest) given k f =
        none_cut _ _ refl (verb_quiet s (x ∷ y ∷ z ∷ w ∷ rest) (s (x ∷ y ∷ z ∷ parent (w ∷ rest))) (last_name (w ∷ rest)) (counts.inner x y (z ∷ parent (w ∷ rest))))

  -- ---- tests

  none_applied : (t : Scope) (e : Expr) (w : Kind) → IsFine (expr_tests t w e) → application (expr_under sc e) ≡ None
  none_applied t (num p n) w f = refl
  none_applied t (flag p b) w f = refl
  none_applied t (path p x) w f = go (constant_at sc x)
    where
      go : (o : Option Word) → application (constant_or_path p o (path_under sc x)) ≡ None
      go None = refl
      go (Some c) = refl
  none_applied t (valid p x) w f = refl
  none_applied t (applied p x b) w f = broken f.1.1
  none_applied t (error_name p x) w f = refl
  none_applied t (negation p a) w f = ap (option_map _) (none_applied t a _ f.1)
  none_applied t (inversion p a) w f = refl
  none_applied t (opposite p a) w f = refl
  none_applied t (binary p op a b) w f = refl
  none_applied t (conditional p c a b) w f = refl
  none_applied t (slice p a i l) w f = refl
  none_applied t (cast p ty a) w f = refl

  abbrev of_test : Option (List ℕ × Bool) → ℕ
  of_test = bound.most_of_test action table

  test_none : (t : Scope) (e : Expr) (w : Kind) → IsFine (expr_tests t w e) → IsCut (of_test (application (expr_under sc e))) 0
  test_none t e w f = none_cut _ _ (ap of_test (none_applied t e w f)) refl

  module _ (t : Scope) (more : HasMoreValues s t) where
    table_there : (x : List ℕ) (st : Stands) → t (x ∷ []) ≡ st → is_missing st ≡ false → not (is_table st) ≡ false → takes_runs h ≡ true → IsCut (table (full_name sc x)) (most_in (s (x ∷ [])))
    table_there x missing e i k may = broken i
    table_there x (typed b ty) e i k may = broken k
    table_there x (held a ty) e i k may = broken k
    table_there x (cells c) e i k may = broken k
    table_there x (act ks m) e i k may = broken k
    table_there x (rows m) e i k may =
        (let was = was_there s t more x (rows m) e (λ l. l) in
        subst (λ (st : Stands). IsCut (table (full_name sc x)) (most_in st)) (sym was) (counts.tables x m was may))
    table_there x state e i k may = broken k
    table_there x (function g) e i k may = broken k
    table_there x algorithm e i k may = broken k
    table_there x other e i k may = broken k

    negated_counts : (q : ℕ) (e : Expr) → IsFine (negated_tests h t q e) → IsCut (of_test (application (expr_under sc (negation q e)))) (most_of_test s (negation q e))
    negated_counts q (applied p x b) f = table_there x (t (x ∷ [])) refl f.0 f.1.0 (twice_not _ f.1.1)
    negated_counts q (num p n) f = test_none t (negation q (num p n)) Truth f
    negated_counts q (flag p b) f = test_none t (negation q (flag p b)) Truth f
    negated_counts q (path p x) f = test_none t (negation q (path p x)) Truth f
    negated_counts q (valid p x) f = test_none t (negation q (valid p x)) Truth f
    negated_counts q (error_name p x) f = test_none t (negation q (error_name p x)) Truth f
    negated_counts q (negation p a) f = test_none t (negation q (negation p a)) Truth f
    negated_counts q (inversion p a) f = test_none t (negation q (inversion p a)) Truth f
    negated_counts q (opposite p a) f = test_none t (negation q (opposite p a)) Truth f
    negated_counts q (binary p op a b) f = test_none t (negation q (binary p op a b)) Truth f
    negated_counts q (conditional p c a b) f = test_none t (negation q (conditional p c a b)) Truth f
    negated_counts q (slice p a i l) f = test_none t (negation q (slice p a i l)) Truth f
    negated_counts q (cast p ty a) f = test_none t (negation q (cast p ty a)) Truth f

    test_counts : (e : Expr) → IsFine (if_tests h t e) → IsCut (of_test (application (expr_under sc e))) (most_of_test s e)
    test_counts (applied p x b) f = table_there x (t (x ∷ [])) refl f.0 f.1.0 (twice_not _ f.1.1)
    test_counts (negation p a) f = negated_counts p a f
    test_counts (num p n) f = test_none t (num p n) Truth f
    test_counts (flag p b) f = test_none t (flag p b) Truth f
    test_counts (path p x) f = test_none t (path p x) Truth f
    test_counts (valid p x) f = test_none t (valid p x) Truth f
    test_counts (error_name p x) f = test_none t (error_name p x) Truth f
    test_counts (inversion p a) f = test_none t (inversion p a) Truth f
    test_counts (opposite p a) f = test_none t (opposite p a) Truth f
    test_counts (binary p op a b) f = test_none t (binary p op a b) Truth f
    test_counts (conditional p c a b) f = test_none t (conditional p c a b) Truth f
    test_counts (slice p a i l) f = test_none t (slice p a i l) Truth f
    test_counts (cast p ty a) f = test_none t (cast p ty a) Truth f

  -- ---- statements

  mutual
    stmt_counts : (c : Stmt) (t : Scope) → HasMoreValues s t → IsFine (stmt_tests h t c) → IsCut (bound.most_of_stmt action table (stmt_under sc c)) (most_of_stmt s c)
    stmt_counts (nothing p) t more f = zero_cut
    stmt_counts (block p b) t more f = block_counts b t more f.1
    stmt_counts (var p ty x e) t more f = zero_cut
    stmt_counts (assign p x e) t more f = zero_cut
    stmt_counts (choice p e a b) t more f =
        add_cut _ _ _ _ (test_counts t more e f.1.0) (max_cut _ _ _ _ (stmt_counts a t more f.1.1.0) (else_counts b t more f.1.1.1))
    stmt_counts (return_ p) t more f = zero_cut
    stmt_counts (exit_ p) t more f = zero_cut
    stmt_counts (call p x args) t more f = call_counts t more p x args f.0 f.1

    pub block_counts : (b : Stmts) (t : Scope) → HasMoreValues s t → IsFine (block_tests h t b) → IsCut (bound.most_of action table (stmts_under sc b)) (most_of s b)
    block_counts done t more f = zero_cut
    block_counts (next c rest) t more f = add_cut _ _ _ _ (stmt_counts c t more f.0) (block_counts rest (after t c) (after_more h s t more c f.0) f.1)

    else_counts : (o : MaybeStmt) (t : Scope) → HasMoreValues s t → IsFine (else_tests h t o) → IsCut (bound.most_of_else action table (else_under sc o)) (most_of_else s o)
    else_counts without t more f = zero_cut
    else_counts (otherwise c) t more f = stmt_counts c t more f
