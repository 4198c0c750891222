-- Calls with other arguments do the same.
use Rattle.std.proofs.Common.{arith, ◌≡◌, codes, ℕ, ◌≤◌, List, [], ◌∷◌, ◌++◌, map, take, Bool, true, false, cond, ◌||◌, nat_eq, refl, sym, ap, ap₂, ◌∙◌, subst}
use Rattle.std.specs.List.{AllZip}
use Rattle.bit_values.specs.Bits.{Word, word}
use Rattle.bit_values.specs.Widths.{holds}
use Rattle.lex_text.specs.Names.{same_text}
use Rattle.rule_tests.specs.Tests.{IsFine}
use Rattle.p4_tree.specs.Tree.{Expr, num, flag, path, valid, applied, error_name, negation, inversion, opposite, binary, conditional, slice, cast, Arg, one, many, Stmts, Local}
use Rattle.p4_meaning.specs.Store.{Store, set_value}
use Rattle.p4_meaning.specs.Value.{value_of}
use Rattle.p4_meaning.specs.Statements.{Go, Run, Calls, runs, values_in, act_named, act_on_header, act_of, done_by, in_store, index_of, cell_at, cell_set, put_cells, digest_of, receiver_of, read_of, write_of, sum_of, summed, assigned, Act, makes, applies, idle, Tested, meaning_of}
use Rattle.p4_meaning.specs.Parts.{Parts}
use Rattle.p4_meaning.specs.Standard.{checksum_error}
use Rattle.p4_meaning.specs.Checksum.{checksum_of, list_checksum}
use Rattle.bit_writer.specs.Bytes.{words_bits, bytes_of}
use Rattle.p4_meaning.specs.Scope as meaning
use Rattle.p4_meaning.specs.Scope.{full_name, first_name, seen}
use Rattle.p4_meaning.specs.Under.{expr_under, arg_under, callee_under, stmts_under, settings_under}
use Rattle.p4_scopes.specs.Kinds.{is_open, join}
use Rattle.p4_scopes.specs.Scopes.{Stands, missing, typed, held, cells, act, rows, state, function, algorithm, other, Scope, core_name, core, own}
use Rattle.p4_scopes.specs.declared.kind.Kind.{Kind}
use Rattle.p4_scopes.specs.declared.kind.Kind.TheVariants.{Number, Truth}
use Rattle.p4_scopes.specs.declared.thing.Thing.TheVariants.{Scalar, Header, Struct, Standard, PacketIn, PacketOut}
use Rattle.p4_scopes.specs.declared.thing.Function.{Function}
use Rattle.p4_scopes.specs.declared.thing.Function.TheVariants.{MarkToDrop, Digest, VerifyChecksum, UpdateChecksum}
use Rattle.p4_statement_rules.specs.Forms.{plain_form, verb_form, form_of}
use Rattle.p4_statement_rules.specs.Expressions.{expr_tests, all_free, index_tests}
use Rattle.p4_statement_rules.specs.Calls.{as_many, args_tests, form_tests}
use Rattle.p4_statement_rules.specs.Statements.{block_tests}
use Rattle.p4_statement_rules.specs.declared.rule.Part.{Part}
use Rattle.p4_declaration_rules.specs.Controls.{locals_tests}
use Rattle.p4_typing_laws.specs.Along.{Along}
use Rattle.p4_typing_laws.specs.Soundness.{kind_width, IsSoundKind, AreSoundKinds, IsSoundStands}
use Rattle.p4_typing_laws.proofs.Fine.{twice_not}
use Rattle.p4_typing_laws.proofs.SoundPlaces.{truth_most}
use Rattle.p4_typing_laws.proofs.StaticWidths.{shown_sound, sound_width_of, own_cap, value_cap, number_cap, pick_cap}
use Rattle.p4_typing_laws.proofs.CallCounts.{text_is, function_name, is_function_name}
use Rattle.p4_typing_laws.proofs.CountedNames.{KeepsCore, core_calls}
use Rattle.passage_stores.specs.SeenStores.{Sees, AlongSettings}
use Rattle.rewriting_laws.specs.Standing.{MayStandFor}
use Rattle.rewritten_programs.specs.Values.{is_value}
use Rattle.rewritten_programs.specs.Rewritten.{ArgsRewritten, BlockRewritten, LocalRewritten}
use Rattle.rewriting_rules.specs.Knows.{Any}
use Rattle.rewriting_rules.proofs.Calls.{ArgsStand, HasNoValue, CallStands, kept, in_action, in_digest, in_verify, in_update, in_read, in_write, call_stands}
use Rattle.rewriting_meaning.specs.Sights.{HaveSameValues, DoSame, IsSeen, IsFitlySeen}
use Rattle.rewriting_meaning.proofs.Runs.{runs_same, block_same, settings_same}

broken : {A : Type 0} → true ≡ false → A
broken h = absurd (cc)

-- ---- arguments of an action

named_runs : (x : List ℕ) (args : List Arg) (a b c d : Bool) → same_text x (codes "mark_to_drop") ≡ a → same_text x (codes "digest") ≡ b → same_text x (codes "verify_checksum") ≡ c → same_text x (codes "update_checksum") ≡ d
    → (a || b || c || d) ≡ false → act_named x args ≡ runs x (values_in args)
named_runs x args false false false false i j k l h = cc
named_runs x args true b c d i j k l h = broken h
named_runs x args false true c d i j k l h = broken h
named_runs x args false false true d i j k l h = broken h
named_runs x args false false false true i j k l h = broken h

pub runs_it : (x : List ℕ) (args : List Arg) → is_function_name x ≡ false → act_named x args ≡ runs x (values_in args)
runs_it x args h = named_runs x args (same_text x (codes "mark_to_drop")) (same_text x (codes "digest")) (same_text x (codes "verify_checksum")) (same_text x (codes "update_checksum")) refl refl refl refl h

kind_cap : (k : Kind) → IsSoundKind k → kind_width k ≤ 128
kind_cap k h = (sound_width_of k h).most

module _ (pt : Parts) (s : Scope) (sc : meaning.Scope) (st : Store) (sees : Sees pt s sc st) where
  args_same : (ks : List Kind) → AreSoundKinds ks → (xs ys : List Arg) → ArgsStand MayStandFor xs ys → as_many ks xs ≡ true → IsFine (args_tests s ks xs) → HaveSameValues st (values_in (map (arg_under sc) xs)) (values_in (map (arg_under sc) ys))
  args_same [] so [] [] r m f = tt
  args_same [] so [] (y ∷ ys) r m f = absurd r
  args_same [] so (x ∷ xs) ys r m f = broken (sym m)
  args_same (k ∷ ks) so [] ys r m f = broken (sym m)
  args_same (k ∷ ks) so (one p e ∷ xs) (one q g ∷ ys) r m f = (λ w. runs_same pt s sc st sees e g r.0.1 k (kind_cap k so.0) f.0 w, args_same ks so.1 xs ys r.1 m f.1)
  args_same (k ∷ ks) so (one p e ∷ xs) [] r m f = absurd r
  args_same (k ∷ ks) so (one p e ∷ xs) (many q gs ∷ ys) r m f = absurd r.0
  args_same (k ∷ ks) so (many p es ∷ xs) ys r m f = broken f.0

  -- ---- lists whose places give no width

  free_same : (es fs : List Expr) → AllZip MayStandFor es fs → IsFine (all_free s es) → map (λ (e : Expr). value_of e 0 st) (map (expr_under sc) fs) ≡ map (λ (e : Expr). value_of e 0 st) (map (expr_under sc) es)
  free_same [] [] r f = refl
  free_same [] (g ∷ gs) r f = absurd r
  free_same (e ∷ es) [] r f = absurd r
  free_same (e ∷ es) (g ∷ gs) r f =
      let cap = value_cap (own s e) (own_cap s (shown_sound s (seen sc st) sees.shows) e _ f.0) in
      ap₂ (λ (w : Word) (ws : List Word). w ∷ ws) (runs_same pt s sc st sees e g r.0 _ cap f.0 0) (free_same es gs r.1 f.1)

  index_same : (e g : Expr) → MayStandFor e g → IsFine (index_tests s e) → value_of (expr_under sc g) 128 st ≡ value_of (expr_under sc e) 128 st
  index_same e g r f =
      let k = own_cap s (shown_sound s (seen sc st) sees.shows) e _ f in
      let cap = number_cap (join (own s e) (Number 128)) (pick_cap (is_open (own s e)) (own s e) (Number 128) k (omega arith)) in
      runs_same pt s sc st sees e g r _ cap f 128

  -- ---- what is found fine of the arguments

  read_index : (p q : ℕ) (t : Arg) (i : Expr) (at : Stands) → IsFine (form_tests p s (verb_form at (codes "read")) (t ∷ one q i ∷ [])) → IsFine (index_tests s i)
  read_index p q t i missing f = broken f
  read_index p q t i (typed g u) f = broken f
  read_index p q t i (held a (Scalar k)) f = broken f
  read_index p q t i (held a (Header n)) f = broken f
  read_index p q t i (held a Struct) f = broken f
  read_index p q t i (held a Standard) f = broken f
  read_index p q t i (held a PacketIn) f = broken f
  read_index p q t i (held a PacketOut) f = broken f
  read_index p q t i (cells k) f = f.1
  read_index p q t i (act ks m) f = broken f
  read_index p q t i (rows m) f = broken f
  read_index p q t i state f = broken f
  read_index p q t i (function g) f = broken f
  read_index p q t i algorithm f = broken f
  read_index p q t i other f = broken f

  record Written (i v : Expr) : Type 0 where
    index : IsFine (index_tests s i)
    kind : Kind
    cap : kind_width kind ≤ 128
    value : IsFine (expr_tests s kind v)

  write_values : (p q o : ℕ) (i v : Expr) (at : Stands) → IsSoundStands at → IsFine (form_tests p s (verb_form at (codes "write")) (one q i ∷ one o v ∷ [])) → Written i v
  write_values p q o i v missing so f = broken f
  write_values p q o i v (typed g u) so f = broken f
  write_values p q o i v (held a (Scalar k)) so f = broken f
  write_values p q o i v (held a (Header n)) so f = broken f
  write_values p q o i v (held a Struct) so f = broken f
  write_values p q o i v (held a Standard) so f = broken f
  write_values p q o i v (held a PacketIn) so f = broken f
  write_values p q o i v (held a PacketOut) so f = broken f
  write_values p q o i v (cells k) so f = record { index = f.0; kind = k; cap = kind_cap k so; value = f.1 }
  write_values p q o i v (act ks m) so f = broken f
  write_values p q o i v (rows m) so f = broken f
  write_values p q o i v state so f = broken f
  write_values p q o i v (function g) so f = broken f
  write_values p q o i v algorithm so f = broken f
  write_values p q o i v other so f = broken f

-- ---- acts

module _ (calls other_calls : Calls) (r : Run) where
  told : (n : Arg) (p : ℕ) (es fs : List Expr) → map (λ (e : Expr). value_of e 0 r.store) fs ≡ map (λ (e : Expr). value_of e 0 r.store) es → done_by other_calls (digest_of (n ∷ many p fs ∷ [])) r ≡ done_by calls (digest_of (n ∷ many p es ∷ [])) r
  told (many o xs) p es fs h = refl
  told (one o (num q n)) p es fs h = ap (λ (ws : List Word). (record r { digests = r.digests ++ record { receiver = receiver_of n; values = take 9 ws } ∷ [] }, Go)) h
  told (one o (flag q b)) p es fs h = refl
  told (one o (path q x)) p es fs h = refl
  told (one o (valid q x)) p es fs h = refl
  told (one o (applied q t b)) p es fs h = refl
  told (one o (error_name q x)) p es fs h = refl
  told (one o (negation q a)) p es fs h = refl
  told (one o (inversion q a)) p es fs h = refl
  told (one o (opposite q a)) p es fs h = refl
  told (one o (binary q op a b)) p es fs h = refl
  told (one o (conditional q c a b)) p es fs h = refl
  told (one o (slice q a i l)) p es fs h = refl
  told (one o (cast q t a)) p es fs h = refl

  read_it : (x : List ℕ) (t : Arg) (p : ℕ) (i j : Expr) → value_of j 128 r.store ≡ value_of i 128 r.store → done_by other_calls (read_of x (t ∷ one p j ∷ [])) r ≡ done_by calls (read_of x (t ∷ one p i ∷ [])) r
  read_it x (many o xs) p i j h = refl
  read_it y (one o (path q x)) p i j h = ap (λ (w : Word). (in_store r (assigned r.store x (cell_at (r.cells y) w.value)), Go)) h
  read_it y (one o (num q n)) p u j h = refl
  read_it y (one o (flag q b)) p u j h = refl
  read_it y (one o (valid q x)) p u j h = refl
  read_it y (one o (applied q t b)) p u j h = refl
  read_it y (one o (error_name q x)) p u j h = refl
  read_it y (one o (negation q a)) p u j h = refl
  read_it y (one o (inversion q a)) p u j h = refl
  read_it y (one o (opposite q a)) p u j h = refl
  read_it y (one o (binary q op a b)) p u j h = refl
  read_it y (one o (conditional q c a b)) p u j h = refl
  read_it y (one o (slice q a i l)) p u j h = refl
  read_it y (one o (cast q t a)) p u j h = refl

  checksum_same : (es fs : List Expr) → map (λ (e : Expr). value_of e 0 r.store) fs ≡ map (λ (e : Expr). value_of e 0 r.store) es → list_checksum fs r.store ≡ list_checksum es r.store
  checksum_same es fs h = ap (λ (ws : List Word). checksum_of (bytes_of (words_bits ws))) h

  summed_same : (v : Bool) (es fs : List Expr) (x : List (List ℕ)) → list_checksum fs r.store ≡ list_checksum es r.store → summed v fs x r.store ≡ summed v es x r.store
  summed_same true es fs x h = ap (λ (n : ℕ). cond (nat_eq (value_of (path 0 x) 16 r.store).value n) r.store (set_value r.store checksum_error (word 1 1))) h
  summed_same false es fs x h = ap (λ (n : ℕ). assigned r.store x (word 16 n)) h

  sum_it : (v : Bool) (p q : ℕ) (c d : Expr) (es fs : List Expr) (n h : Arg) → value_of d 1 r.store ≡ value_of c 1 r.store → map (λ (e : Expr). value_of e 0 r.store) fs ≡ map (λ (e : Expr). value_of e 0 r.store) es
      → done_by other_calls (sum_of v (one p d ∷ many q fs ∷ n ∷ h ∷ [])) r ≡ done_by calls (sum_of v (one p c ∷ many q es ∷ n ∷ h ∷ [])) r
  sum_it v p q c d es fs (many o xs) h k l = refl
  sum_it v p q c d es fs (one o (path i x)) (many j xs) k l = refl
  sum_it v p q c d es fs (one o (path i x)) (one j e) k l =
      ap₂ (λ (w : Word) (st : Store). (cond (holds w) (in_store r st) r, Go)) k (summed_same v es fs x (checksum_same es fs l))
  sum_it v p q c d es fs (one o (num i n)) h k l = refl
  sum_it v p q c d es fs (one o (flag i b)) h k l = refl
  sum_it v p q c d es fs (one o (valid i x)) h k l = refl
  sum_it v p q c d es fs (one o (applied i t b)) h k l = refl
  sum_it v p q c d es fs (one o (error_name i x)) h k l = refl
  sum_it v p q c d es fs (one o (negation i a)) h k l = refl
  sum_it v p q c d es fs (one o (inversion i a)) h k l = refl
  sum_it v p q c d es fs (one o (opposite i a)) h k l = refl
  sum_it v p q c d es fs (one o (binary i op a b)) h k l = refl
  sum_it v p q c d es fs (one o (conditional i u a b)) h k l = refl
  sum_it v p q c d es fs (one o (slice i a m lo)) h k l = refl
  sum_it v p q c d es fs (one o (cast i t a)) h k l = refl

-- ---- the law

-- a name that stands for a function is the function's
named_core : (x : List ℕ) (f : Function) → core_name x ≡ function f → x ≡ function_name f
unfolding core
named_core x f e = (core_calls Any Any).functions x f e

function_is : (f : Function) → is_function_name (function_name f) ≡ true
function_is MarkToDrop = refl
function_is Digest = refl
function_is VerifyChecksum = refl
function_is UpdateChecksum = refl

-- a table stands there where `apply` is called
applied_rows : (p : ℕ) (s : Scope) (xs : List Arg) (at : Stands) → IsFine (form_tests p s (verb_form at (codes "apply")) xs) → (m : ℕ) × (at ≡ rows m)
applied_rows p s xs (rows m) f = (m, refl)
applied_rows p s xs missing f = broken f
applied_rows p s xs (typed g t) f = broken f
applied_rows p s xs (held a (Scalar k)) f = broken f
applied_rows p s xs (held a (Header n)) f = broken f
applied_rows p s xs (held a Struct) f = broken f
applied_rows p s xs (held a Standard) f = broken f
applied_rows p s xs (held a PacketIn) f = broken f
applied_rows p s xs (held a PacketOut) f = broken f
applied_rows p s xs (cells k) f = broken f
applied_rows p s xs (act ks m) f = broken f
applied_rows p s xs state f = broken f
applied_rows p s xs (function g) f = broken f
applied_rows p s xs algorithm f = broken f
applied_rows p s xs other f = broken f

module _ (pt : Parts) (calls other_calls : Calls) where
  abbrev DoneSame : Act → Run → Type 0
  DoneSame a r = done_by other_calls a r ≡ done_by calls a r

  header_same : (h : List (List ℕ)) (verb : List ℕ) (r : Run) → DoneSame (act_on_header h verb) r
  header_same h verb r = go (same_text verb (codes "setValid")) (same_text verb (codes "setInvalid"))
    where
      go : (a b : Bool) → DoneSame (cond a (makes h true) (cond b (makes h false) idle)) r
      go true b = refl
      go false true = refl
      go false false = refl

  module _ (p : ℕ) (s : Scope) (sc : meaning.Scope) (r : Run) (sees : Sees pt s sc r.store) (k : DoSame s sc calls other_calls r) where
    keeps : KeepsCore s
    keeps = record { kept = sees.calls.core }

    -- an action that is called
    action_runs : (x : List ℕ) (xs ys : List Arg) → is_function_name x ≡ false → ArgsStand MayStandFor xs ys → (at : Stands) → s (x ∷ []) ≡ at → IsSoundStands at → IsFine (form_tests p s (plain_form at) xs)
        → other_calls.run_action (full_name sc x) (values_in (map (arg_under sc) ys)) r ≡ calls.run_action (full_name sc x) (values_in (map (arg_under sc) xs)) r
    action_runs x xs ys h q missing e so f = broken f
    action_runs x xs ys h q (typed g t) e so f = broken f
    action_runs x xs ys h q (held a t) e so f = broken f
    action_runs x xs ys h q (cells j) e so f = broken f
    action_runs x xs ys h q (act ks m) e so f = k.actions x ks m e _ _ (args_same pt s sc r.store sees ks so xs ys q (twice_not (as_many ks xs) f.0) f.1)
    action_runs x xs ys h q (rows m) e so f = broken f
    action_runs x xs ys h q state e so f = broken f
    action_runs x xs ys h q (function g) e so f = broken (sym (function_is g) ∙ (ap is_function_name (sym (named_core x g (sees.calls.functions x g e))) ∙ h))
    action_runs x xs ys h q algorithm e so f = broken f
    action_runs x xs ys h q other e so f = broken f

    action_call : (x : List ℕ) (xs ys : List Arg) → is_function_name x ≡ false → ArgsStand MayStandFor xs ys → IsFine (form_tests p s (plain_form (s (x ∷ []))) xs)
        → done_by other_calls (act_named (full_name sc x) (map (arg_under sc) ys)) r ≡ done_by calls (act_named (full_name sc x) (map (arg_under sc) xs)) r
    action_call x xs ys h q f =
        let X = full_name sc x in
        let n = sees.calls.plain x h in
        ap (λ (a : Act). done_by other_calls a r) (runs_it X (map (arg_under sc) ys) n)
        ∙ (action_runs x xs ys h q (s (x ∷ [])) refl (sees.sound.paths (x ∷ [])) f
        ∙ sym (ap (λ (a : Act). done_by calls a r) (runs_it X (map (arg_under sc) xs) n)))

    -- a table that is applied, and a verb of no register
    verb_same : (x verb : List ℕ) (xs : List Arg) (a b c : Bool) → same_text verb (codes "read") ≡ a → same_text verb (codes "write") ≡ b → same_text verb (codes "apply") ≡ c → a ≡ false → b ≡ false → IsFine (form_tests p s (verb_form (s (x ∷ [])) verb) xs)
        → (zs : List Arg) → DoneSame (cond a (read_of (full_name sc x) zs) (cond b (write_of (full_name sc x) zs) (cond c (applies (full_name sc x)) idle))) r
    verb_same x verb xs true b c i j l g h f zs = broken g
    verb_same x verb xs false true c i j l g h f zs = broken h
    verb_same x verb xs false false true i j l g h f zs =
        (let there = applied_rows p s xs (s (x ∷ [])) (subst (λ (v : List ℕ). IsFine (form_tests p s (verb_form (s (x ∷ [])) v) xs)) (text_is verb (codes "apply") l) f) in
        ap (λ (t : Tested). (t.run, t.flow)) (k.tables x there.0 there.1))
    verb_same x verb xs false false false i j l g h f zs = refl

    -- a call of a function of the architecture's own, whose full name is its name
    function_call : (x : List ℕ) (xs ys : List Arg) → is_function_name x ≡ true → done_by other_calls (act_named x (map (arg_under sc) ys)) r ≡ done_by calls (act_named x (map (arg_under sc) xs)) r
        → done_by other_calls (act_named (full_name sc x) (map (arg_under sc) ys)) r ≡ done_by calls (act_named (full_name sc x) (map (arg_under sc) xs)) r
    function_call x xs ys h e =
        let same = sees.calls.full x h in
        subst (λ (n : List ℕ). done_by other_calls (act_named n (map (arg_under sc) ys)) r ≡ done_by calls (act_named n (map (arg_under sc) xs)) r) (sym same) e

    kept_same : (x : List (List ℕ)) (xs : List Arg) → HasNoValue MayStandFor x → IsFine (form_tests p s (form_of s x) xs) → DoneSame (act_of (callee_under sc x) (map (arg_under sc) xs)) r
    kept_same [] xs h f = refl
    kept_same (x ∷ []) xs h f = subst (λ (y : List ℕ). DoneSame (act_named (full_name sc y) (map (arg_under sc) xs)) r) (sym h) (function_call (codes "mark_to_drop") xs xs refl refl)
    kept_same (x ∷ verb ∷ []) xs h f = verb_same x verb xs (same_text verb (codes "read")) (same_text verb (codes "write")) (same_text verb (codes "apply")) refl refl refl h.0 h.1 f (map (arg_under sc) xs)
    kept_same (x ∷ y ∷ z ∷ []) xs h f = header_same (first_name sc x ∷ y ∷ []) z r
    kept_same (x ∷ y ∷ z ∷ w ∷ rest) xs h f = refl

    function_fine : (x : List ℕ) (xs : List Arg) (at : Stands) → s (x ∷ []) ≡ at → IsFine (form_tests p s (plain_form (s (x ∷ []))) xs) → IsFine (form_tests p s (plain_form at) xs)
    function_fine x xs at e f = subst (λ (st : Stands). IsFine (form_tests p s (plain_form st) xs)) e f

    pub call_same : (x : List (List ℕ)) (xs ys : List Arg) → CallStands MayStandFor x xs ys → IsFine (form_tests p s (form_of s x) xs)
        → done_by other_calls (act_of (callee_under sc x) (map (arg_under sc) ys)) r ≡ done_by calls (act_of (callee_under sc x) (map (arg_under sc) xs)) r
    call_same x xs ys (kept h) f = kept_same x xs h f
    call_same _ xs ys (in_action x h q) f = action_call x xs ys h q f
    call_same _ _ _ (in_digest n q {es = es} {fs = fs} h) f =
        let x = codes "digest" in
        let fine = function_fine x (n ∷ many q es ∷ []) (function Digest) (sees.calls.core x refl) f in
        function_call x (n ∷ many q es ∷ []) (n ∷ many q fs ∷ []) refl
        (told calls other_calls r (arg_under sc n) q (map (expr_under sc) es) (map (expr_under sc) fs) (free_same pt s sc r.store sees es fs h fine.1.1))
    call_same _ _ _ (in_verify o q n a {c = c} {d = d} {es = es} {fs = fs} t h) f =
        let x = codes "verify_checksum" in
        let xs = one o c ∷ many q es ∷ n ∷ a ∷ [] in
        let ys = one o d ∷ many q fs ∷ n ∷ a ∷ [] in
        let fine = function_fine x xs (function VerifyChecksum) (sees.calls.core x refl) f in
        function_call x xs ys refl
        (sum_it calls other_calls r true o q (expr_under sc c) (expr_under sc d) (map (expr_under sc) es) (map (expr_under sc) fs) (arg_under sc n) (arg_under sc a)
        (runs_same pt s sc r.store sees c d t Truth truth_most fine.0 1) (free_same pt s sc r.store sees es fs h fine.1.0.1))
    call_same _ _ _ (in_update o q n a {c = c} {d = d} {es = es} {fs = fs} t h) f =
        let x = codes "update_checksum" in
        let xs = one o c ∷ many q es ∷ n ∷ a ∷ [] in
        let ys = one o d ∷ many q fs ∷ n ∷ a ∷ [] in
        let fine = function_fine x xs (function UpdateChecksum) (sees.calls.core x refl) f in
        function_call x xs ys refl
        (sum_it calls other_calls r false o q (expr_under sc c) (expr_under sc d) (map (expr_under sc) es) (map (expr_under sc) fs) (arg_under sc n) (arg_under sc a)
        (runs_same pt s sc r.store sees c d t Truth truth_most fine.0 1) (free_same pt s sc r.store sees es fs h fine.1.0.1))
    call_same _ _ _ (in_read x t q {i = i} {j = j} h) f =
        read_it calls other_calls r (full_name sc x) (arg_under sc t) q (expr_under sc i) (expr_under sc j)
        (index_same pt s sc r.store sees i j h (read_index pt s sc r.store sees p q t i (s (x ∷ [])) f))
    call_same _ _ _ (in_write x o q {i = i} {j = j} {v = v} {u = u} h g) f =
        let w = write_values pt s sc r.store sees p o q i v (s (x ∷ [])) (sees.sound.paths (x ∷ [])) f in
        let X = full_name sc x in
        let first = index_same pt s sc r.store sees i j h w.index in
        ap (λ (n : Word). (record r { cells = put_cells r.cells X (cell_set (r.cells X) n.value (value_of (expr_under sc u) (cell_at (r.cells X) n.value).width r.store)) }, Go)) first
        ∙ ap (λ (v : Word). (record r { cells = put_cells r.cells X (cell_set (r.cells X) (index_of (expr_under sc i) r.store) v) }, Go))
        (runs_same pt s sc r.store sees v u g w.kind w.cap w.value (cell_at (r.cells X) (index_of (expr_under sc i) r.store)).width)

  pub calls_same : (p : ℕ) (s : Scope) (sc : meaning.Scope) (r : Run) → Sees pt s sc r.store → DoSame s sc calls other_calls r → (x : List (List ℕ)) (xs ys : List Arg) → ArgsRewritten MayStandFor (is_value x) 0 xs ys → IsFine (form_tests p s (form_of s x) xs)
      → done_by other_calls (act_of (callee_under sc x) (map (arg_under sc) ys)) r ≡ done_by calls (act_of (callee_under sc x) (map (arg_under sc) xs)) r
  calls_same p s sc r sees k x xs ys q f = call_same p s sc r sees k x xs ys (call_stands MayStandFor p s (keeps p s sc r sees k) xs ys x q f) f

  pub statements_same : (h : Part) (s : Scope) (sc : meaning.Scope) (a b : Stmts) → BlockRewritten MayStandFor a b → IsFine (block_tests h s a) → (r : Run)
      → Along calls (IsSeen pt calls other_calls) s sc a r → meaning_of other_calls (stmts_under sc b) r ≡ meaning_of calls (stmts_under sc a) r
  statements_same h s sc a b q f r w = block_same pt calls other_calls calls_same sc q h s f r w

  pub first_values_same : (h : Part) (s : Scope) (sc : meaning.Scope) (ls ms : List Local) → AllZip (LocalRewritten MayStandFor) ls ms → IsFine (locals_tests h s ls) → (r : Run)
      → AlongSettings calls (IsFitlySeen pt) s sc ls r → meaning_of other_calls (settings_under sc ms) r ≡ meaning_of calls (settings_under sc ls) r
  first_values_same h s sc ls ms q f r w = settings_same pt calls other_calls calls_same h ls ms q s sc f r w
