-- The store of a run fits both scopes at each statement to which the run comes: what statements write is cast to the width
-- of its place, and a variable's place is that of no name that is read.
use Rattle.std.proofs.Common.{◌≡◌, inl, inr, ℕ, List, [], ◌∷◌, ◌++◌, Bool, true, false, cond, not, ◌||◌, Option, Some, None, refl, sym, ap, ◌∙◌, subst, pow_pos}
use Rattle.std.specs.Option.{option_map}
use Rattle.bit_values.specs.Bits.{Word, IsWord}
use Rattle.bit_values.specs.Widths.{sound_width}
use Rattle.lex_text.specs.Names.{same_text}
use Rattle.rule_tests.specs.Tests.{IsFine}
use Rattle.p4_tree.specs.Tree.{Expr, Stmt, Stmts, MaybeStmt, nothing, block, var, assign, choice, return_, exit_, call, done, next, without, otherwise}
use Rattle.p4_tree.specs.declared.statement.PTy.{PTy}
use Rattle.p4_tree.specs.declared.statement.PTy.TheVariants as type
use Rattle.p4_meaning.specs.Store.{Store, set_value}
use Rattle.p4_meaning.specs.Value.{width_of, value_of}
use Rattle.p4_meaning.specs.Statements.{Run, Calls, start_of, application, tested, meaning_of_stmt, meaning_of}
use Rattle.p4_meaning.specs.Scope as meaning
use Rattle.p4_meaning.specs.Scope.{is_among, first_name, path_under, constant_at, type_under, names_in_stmt, names_in_else, names_in}
use Rattle.p4_meaning.specs.Under.{expr_under, stmt_under, else_under, stmts_under}
use Rattle.p4_meaning.specs.Parts.{Parts}
use Rattle.p4_meaning.specs.Laws.{IsOf, HasStandard}
use Rattle.p4_meaning.proofs.Words.{sound, cast_is_word, sound_wide, sound_narrow}
use Rattle.p4_scopes.specs.Scopes.{Stands, missing, typed, held, cells, act, rows, state, function, algorithm, other, is_missing, value_kind, typed_thing, as_typed, as_held, kind_in, type_at, Scope, value, behind, declare}
use Rattle.p4_scopes.specs.Uses.{is_scalar, is_type, reads}
use Rattle.p4_scopes.specs.declared.thing.Access.{Access}
use Rattle.p4_scopes.specs.declared.thing.Access.TheVariants.{Writable}
use Rattle.p4_statement_rules.specs.Expressions.{scalar_tests}
use Rattle.p4_statement_rules.specs.Statements.{after, stmt_tests, block_tests, else_tests}
use Rattle.p4_statement_rules.specs.declared.rule.Part.{Part}
use Rattle.p4_typing_laws.specs.Soundness.{kind_width, IsSound}
use Rattle.p4_typing_laws.specs.Tied.{IsTied}
use Rattle.p4_typing_laws.specs.Stores.{Fits}
use Rattle.p4_typing_laws.specs.Along.{AlongStmt, AlongElse, Along, RunFits, is_value_type, IsFlat, IsNameOf, IsPlaceOf, HavePlaces, Keeps, CallsLeave, IsReady, StoresFit}
use Rattle.p4_typing_laws.proofs.Fine.{twice_not}
use Rattle.p4_typing_laws.proofs.StaticWidths.{sound_width_of}
use Rattle.p4_typing_laws.proofs.SoundScopes.{kind_sound}
use Rattle.p4_typing_laws.proofs.SoundPlaces.{after_sound}
use Rattle.p4_typing_laws.proofs.CallCounts.{text_is, text_same}
use Rattle.p4_typing_laws.proofs.CountedNames.{other_kept}
use Rattle.p4_typing_laws.proofs.TiedNames.{after_tied, type_width, stmt_missing, block_missing}
use Rattle.p4_typing_laws.proofs.KeptPlaces.{path_same, CallsKeep, HasPlaces, SparesStmt, SparesElse, Spares, CallsKeepNone, standard_kept, stmt_keeps, all_keep, test_keeps, stmt_none, all_none, test_none}

broken : {A : Type 0} → true ≡ false → A
broken h = absurd (cc)

-- ---- places

-- the places that a scope reads, where nothing is declared
abbrev pub Read : Scope → meaning.Scope → List (List ℕ) → Type 0
Read s sc = IsPlaceOf s sc []

read_places : (s : Scope) (sc : meaning.Scope) → HasPlaces (Read s sc)
read_places s sc = record { spec = tt; error = tt }

keeps_fewer : (K L : List (List ℕ) → Type 0) → ((q : List (List ℕ)) → L q → K q) → (a b : Store) → Keeps K a b → Keeps L a b
keeps_fewer K L sub a b k = record { words = λ q l w. k.words q (sub q l) w }

calls_fewer : (K L : List (List ℕ) → Type 0) → ((q : List (List ℕ)) → L q → K q) → (calls : Calls) → CallsLeave K calls → CallsLeave L calls
calls_fewer K L sub calls c =
    record {
      actions = λ x es r h. keeps_fewer K L sub r.store (calls.run_action x es r).0.store (c.actions x es r h);
      tables = λ x r h. keeps_fewer K L sub r.store (calls.apply_table x r).run.store (c.tables x r h);
      bare_actions = c.bare_actions;
      bare_tables = c.bare_tables;
    }

calls_keep_of : (K : List (List ℕ) → Type 0) (calls : Calls) → CallsLeave K calls → CallsKeep K calls
calls_keep_of K calls c = record { actions = c.actions; tables = c.tables }

calls_none_of : (K : List (List ℕ) → Type 0) (calls : Calls) → CallsLeave K calls → CallsKeepNone calls
calls_none_of K calls c = record { actions = c.bare_actions; tables = c.bare_tables }

-- a word of the width that was there
kept_is : (n : ℕ) (v w : Word) → IsOf n v → (IsWord v → IsOf v.width w) → IsOf n w
kept_is n v w h k = (let i = k h.word in record { word = i.word; width = i.width ∙ h.width })

-- where the places that are read keep their widths, a store goes on to fit
pub fits_kept : (s : Scope) (sc : meaning.Scope) (a b : Store) → Keeps (Read s sc) a b → b.headers [] ≡ None → Fits s sc a → Fits s sc b
fits_kept s sc a b k none f = record { values = λ x h r c. at x h r c; headers = none }
  where
    at : (x : List (List ℕ)) → is_missing (s x) ≡ false → reads (s x) ≡ true → constant_at sc x ≡ None → IsOf (kind_width (value_kind (s x))) (b.values (path_under sc x))
    at [] h r c = kept_is _ (a.values []) (b.values []) (f.values [] h r c) (k.words [] tt)
    at (x ∷ []) h r c = kept_is _ (a.values (first_name sc x ∷ [])) (b.values (first_name sc x ∷ [])) (f.values (x ∷ []) h r c) (k.words (first_name sc x ∷ []) (x, (inl (h, r), refl)))
    at (x ∷ y ∷ rest) h r c = kept_is _ (a.values (first_name sc x ∷ y ∷ rest)) (b.values (first_name sc x ∷ y ∷ rest)) (f.values (x ∷ y ∷ rest) h r c) (k.words (first_name sc x ∷ y ∷ rest) tt)

-- ---- what a statement declares is at none of the places that are read

pub among_left : (xs ys : List (List ℕ)) (x : List ℕ) → is_among xs x ≡ true → is_among (xs ++ ys) x ≡ true
among_left [] ys x h = broken (sym h)
among_left (y ∷ xs) ys x h = go (same_text y x) (among_left xs ys x) h
  where
    go : (b : Bool) → (is_among xs x ≡ true → is_among (xs ++ ys) x ≡ true) → (b || is_among xs x) ≡ true → (b || is_among (xs ++ ys) x) ≡ true
    go true more k = refl
    go false more k = more k

pub among_right : (xs ys : List (List ℕ)) (x : List ℕ) → is_among ys x ≡ true → is_among (xs ++ ys) x ≡ true
among_right [] ys x h = h
among_right (y ∷ xs) ys x h = go (same_text y x) (among_right xs ys x h)
  where
    go : (b : Bool) → is_among (xs ++ ys) x ≡ true → (b || is_among (xs ++ ys) x) ≡ true
    go true k = refl
    go false k = k

module _ (sc : meaning.Scope) (K : List (List ℕ) → Type 0) where
  -- the names that are declared are at none of the places
  abbrev pub AtNone : List (List ℕ) → Type 0
  AtNone xs = (m : List ℕ) → is_among xs m ≡ true → K (first_name sc m ∷ []) → ⊥

  mutual
    stmt_spares : (c : Stmt) → AtNone (names_in_stmt c) → SparesStmt K (stmt_under sc c)
    stmt_spares (nothing p) a = tt
    stmt_spares (block p b) a = block_spares b a
    stmt_spares (var p ty x e) a = a x (ap (λ (b : Bool). b || false) (text_same x x refl))
    stmt_spares (assign p x e) a = tt
    stmt_spares (choice p e x y) a = (stmt_spares x (λ m i. a m (among_left (names_in_stmt x) (names_in_else y) m i)), else_spares y (λ m i. a m (among_right (names_in_stmt x) (names_in_else y) m i)))
    stmt_spares (return_ p) a = tt
    stmt_spares (exit_ p) a = tt
    stmt_spares (call p x args) a = tt

    else_spares : (o : MaybeStmt) → AtNone (names_in_else o) → SparesElse K (else_under sc o)
    else_spares without a = tt
    else_spares (otherwise c) a = stmt_spares c a

    pub block_spares : (b : Stmts) → AtNone (names_in b) → Spares K (stmts_under sc b)
    block_spares done a = tt
    block_spares (next c rest) a = (stmt_spares c (λ m i. a m (among_left (names_in_stmt c) (names_in rest) m i)), block_spares rest (λ m i. a m (among_right (names_in_stmt c) (names_in rest) m i)))

-- names that are new have no place that is read
pub new_at_none : (s : Scope) (sc : meaning.Scope) (xs : List (List ℕ)) → HavePlaces s sc xs → ((m : List ℕ) → is_among xs m ≡ true → is_missing (s (m ∷ [])) ≡ true) → AtNone sc (Read s sc) xs
new_at_none s sc xs places new m i (x, (inl k, e)) =
    (let same = places.unread x m k.0 k.1 i e in
    let c : true ≡ false = sym (new m i) ∙ sym (ap (λ (y : List ℕ). is_missing (s (y ∷ []))) same) ∙ k.0 in cc)
new_at_none s sc xs places new m i (x, (inr k, e)) = let c : false ≡ true = k in cc

-- ---- a variable

pub flat_type : (a : Access) (s : Scope) → IsFlat s → (p : ℕ) (t : PTy) → IsFine (scalar_tests p s t) → (x : List ℕ) (xs : List (List ℕ)) → is_missing (as_held a (type_at s t (x ∷ xs))) ≡ true
flat_type a s f p (type.Bit w) g x xs = refl
flat_type a s f p type.Bool g x xs = refl
flat_type a s f p (type.Named t) g x xs = by (s (t ∷ x ∷ xs)) (f.flat t (scalar (s (t ∷ [])) g) x xs)
  where
    scalar : (st : Stands) → ((is_missing st ≡ false) × (not (is_type st) ≡ false)) × (not (is_scalar (typed_thing (as_typed st))) ≡ false) → is_value_type st ≡ true
    scalar missing e = broken e.0.0
    scalar (typed b u) e = twice_not (is_scalar u) e.1
    scalar (held a u) e = broken e.0.1
    scalar (cells k) e = broken e.0.1
    scalar (act ks m) e = broken e.0.1
    scalar (rows m) e = broken e.0.1
    scalar state e = broken e.0.1
    scalar (function h) e = broken e.0.1
    scalar algorithm e = broken e.0.1
    scalar other e = broken e.0.1

    by : (st : Stands) → is_missing st ≡ true → is_missing (as_held a (as_typed st)) ≡ true
    by missing e = refl
    by (typed b u) e = broken (sym e)
    by (held a u) e = broken (sym e)
    by (cells k) e = broken (sym e)
    by (act ks m) e = broken (sym e)
    by (rows m) e = broken (sym e)
    by state e = broken (sym e)
    by (function h) e = broken (sym e)
    by algorithm e = broken (sym e)
    by other e = broken (sym e)

start_word : (ty : PTy) (e : Option Expr) (st : Store) → IsOf (sound_width (width_of ty)) (start_of ty e st)
start_word ty None st = record { word = record { wide = sound_wide (width_of ty); narrow = sound_narrow (width_of ty); in_range = pow_pos (sound_width (width_of ty)) }; width = refl }
start_word ty (Some e) st = record { word = cast_is_word (width_of ty) (value_of e (width_of ty) st); width = refl }

-- behind a variable's statement the store, which fits what was in sight before, fits what is in sight now
var_fits : (p : Parts) (at : ℕ) (s : Scope) (sc : meaning.Scope) (ty : PTy) (n : List ℕ) (e : Option Expr) (st : Store) → IsTied p s sc → IsSound s → IsFlat s → IsFine (scalar_tests at s ty)
    → Fits s sc (set_value st (first_name sc n ∷ []) (start_of (type_under sc.types ty) (option_map (expr_under sc) e) st))
    → Fits (declare s n (value Writable ty)) sc (set_value st (first_name sc n ∷ []) (start_of (type_under sc.types ty) (option_map (expr_under sc) e) st))
unfolding declare
var_fits p at s sc ty n e st tied is flat f old = record { values = λ x h r c. fit x h r c; headers = old.headers }
  where
    wide : sound_width (width_of (type_under sc.types ty)) ≡ kind_width (kind_in s ty)
    wide = (let k = sound_width_of (kind_in s ty) (kind_sound at s is ty f) in ap sound_width (type_width p s sc tied at ty f) ∙ sound (kind_width (kind_in s ty)) k.least k.most)

    there : IsOf (kind_width (kind_in s ty)) ((set_value st (first_name sc n ∷ []) (start_of (type_under sc.types ty) (option_map (expr_under sc) e) st)).values (first_name sc n ∷ []))
    there =
        (let v = start_of (type_under sc.types ty) (option_map (expr_under sc) e) st in
        subst (λ (c : Bool). IsOf (kind_width (kind_in s ty)) (cond c v (st.values (first_name sc n ∷ [])))) (sym (path_same (first_name sc n ∷ []) (first_name sc n ∷ []) refl))
        (subst (λ (k : ℕ). IsOf k v) wide (start_word (type_under sc.types ty) (option_map (expr_under sc) e) st)))

    new_one : (xs : List (List ℕ)) → is_missing (behind s (value Writable ty) xs) ≡ false → IsOf (kind_width (value_kind (behind s (value Writable ty) xs))) ((set_value st (first_name sc n ∷ []) (start_of (type_under sc.types ty) (option_map (expr_under sc) e) st)).values (first_name sc n ∷ xs))
    new_one [] h = there
    new_one (z ∷ zs) h = (let c : true ≡ false = sym (flat_type Writable s flat at ty f z zs) ∙ h in absurd (cc))

    go : (y : List ℕ) (xs : List (List ℕ)) (c : Bool) → same_text n y ≡ c → is_missing (cond c (behind s (value Writable ty) xs) (s (y ∷ xs))) ≡ false → reads (cond c (behind s (value Writable ty) xs) (s (y ∷ xs))) ≡ true → constant_at sc (y ∷ xs) ≡ None
        → IsOf (kind_width (value_kind (cond c (behind s (value Writable ty) xs) (s (y ∷ xs))))) ((set_value st (first_name sc n ∷ []) (start_of (type_under sc.types ty) (option_map (expr_under sc) e) st)).values (first_name sc y ∷ xs))
    go y xs true i h r k = subst (λ (m : List ℕ). IsOf (kind_width (value_kind (behind s (value Writable ty) xs))) ((set_value st (first_name sc n ∷ []) (start_of (type_under sc.types ty) (option_map (expr_under sc) e) st)).values (first_name sc m ∷ xs))) (text_is n y i) (new_one xs h)
    go y xs false i h r k = old.values (y ∷ xs) h r k

    fit : (x : List (List ℕ)) → is_missing (declare s n (value Writable ty) x) ≡ false → reads (declare s n (value Writable ty) x) ≡ true → constant_at sc x ≡ None
        → IsOf (kind_width (value_kind (declare s n (value Writable ty) x))) ((set_value st (first_name sc n ∷ []) (start_of (type_under sc.types ty) (option_map (expr_under sc) e) st)).values (path_under sc x))
    fit [] h r k = old.values [] h r k
    fit (y ∷ xs) h r k = go y xs (same_text n y) refl h r k

var_flat : (s : Scope) (n : List ℕ) (ty : PTy) → IsFlat s → IsFlat (declare s n (value Writable ty))
unfolding declare
var_flat s n ty f = record { flat = λ t h x xs. go t x xs (same_text n t) h }
  where
    go : (t x : List ℕ) (xs : List (List ℕ)) (b : Bool) → is_value_type (cond b (behind s (value Writable ty) []) (s (t ∷ []))) ≡ true → is_missing (cond b (behind s (value Writable ty) (x ∷ xs)) (s (t ∷ x ∷ xs))) ≡ true
    go t x xs true h = broken (sym h)
    go t x xs false h = f.flat t h x xs

-- ---- what a block needs, part by part

-- declared: the names that the part declares
pub record Ready (p : Parts) (calls : Calls) (s : Scope) (sc : meaning.Scope) (declared : List (List ℕ)) : Type 0 where
  pub tied : IsTied p s sc
  pub sound : IsSound s
  pub flat : IsFlat s
  pub places : HavePlaces s sc declared
  pub calls_leave : CallsLeave (IsPlaceOf s sc declared) calls

name_fewer : (s : Scope) (xs ys : List (List ℕ)) → ((m : List ℕ) → is_among ys m ≡ true → is_among xs m ≡ true) → (x : List ℕ) → IsNameOf s ys x → IsNameOf s xs x
name_fewer s xs ys sub x (inl h) = inl h
name_fewer s xs ys sub x (inr h) = inr (sub x h)

place_fewer : (s : Scope) (sc : meaning.Scope) (xs ys : List (List ℕ)) → ((m : List ℕ) → is_among ys m ≡ true → is_among xs m ≡ true) → (q : List (List ℕ)) → IsPlaceOf s sc ys q → IsPlaceOf s sc xs q
place_fewer s sc xs ys sub [] h = tt
place_fewer s sc xs ys sub (y ∷ []) (x, (h, e)) = (x, (name_fewer s xs ys sub x h, e))
place_fewer s sc xs ys sub (y ∷ z ∷ rest) h = tt

ready_part : (p : Parts) (calls : Calls) (s : Scope) (sc : meaning.Scope) (xs ys : List (List ℕ)) → ((m : List ℕ) → is_among ys m ≡ true → is_among xs m ≡ true) → Ready p calls s sc xs → Ready p calls s sc ys
ready_part p calls s sc xs ys sub b =
    record {
      tied = b.tied;
      sound = b.sound;
      flat = b.flat;
      places = record { apart = λ x y h k. b.places.apart x y (sub x h) (sub y k); unread = λ x y h k i. b.places.unread x y h k (sub y i) };
      calls_leave = calls_fewer (IsPlaceOf s sc xs) (IsPlaceOf s sc ys) (place_fewer s sc xs ys sub) calls b.calls_leave;
    }

-- behind a variable
var_ready : (p : Parts) (calls : Calls) (h : Part) (s : Scope) (sc : meaning.Scope) (q : ℕ) (ty : PTy) (n : List ℕ) (e : Option Expr) (rest : List (List ℕ)) → IsFine (stmt_tests h s (var q ty n e)) → Ready p calls s sc (n ∷ rest) → Ready p calls (declare s n (value Writable ty)) sc rest
var_ready p calls h s sc q ty n e rest f b =
    record {
      tied = after_tied p h s sc b.tied (var q ty n e) f;
      sound = after_sound h s b.sound (var q ty n e) f;
      flat = var_flat s n ty b.flat;
      places = record { apart = λ x y i k. b.places.apart x y (tail_among x i) (tail_among y k); unread = λ x y i r k g. unread x y (same_text n x) refl i r k g };
      calls_leave = calls_fewer (IsPlaceOf s sc (n ∷ rest)) (IsPlaceOf (declare s n (value Writable ty)) sc rest) fewer calls b.calls_leave;
    }
  where
    tail_among : (x : List ℕ) → is_among rest x ≡ true → is_among (n ∷ rest) x ≡ true
    tail_among x i = among_right (n ∷ []) rest x i

    head_among : (x : List ℕ) → n ≡ x → is_among (n ∷ rest) x ≡ true
    head_among x e = ap (λ (c : Bool). c || is_among rest x) (text_same n x e)

    kept : (x : List ℕ) → same_text n x ≡ false → declare s n (value Writable ty) (x ∷ []) ≡ s (x ∷ [])
    kept x i = other_kept s n (value Writable ty) x (λ e. (let c : true ≡ false = sym (text_same n x e) ∙ i in cc))

    unread : (x y : List ℕ) (c : Bool) → same_text n x ≡ c → is_missing (declare s n (value Writable ty) (x ∷ [])) ≡ false → reads (declare s n (value Writable ty) (x ∷ [])) ≡ true → is_among rest y ≡ true → first_name sc x ≡ first_name sc y → x ≡ y
    unread x y true e i r k g = b.places.apart x y (head_among x (text_is n x e)) (tail_among y k) g
    unread x y false e i r k g = b.places.unread x y (sym (ap is_missing (kept x e)) ∙ i) (sym (ap reads (kept x e)) ∙ r) (tail_among y k) g

    name_back : (x : List ℕ) (c : Bool) → same_text n x ≡ c → IsNameOf (declare s n (value Writable ty)) rest x → IsNameOf s (n ∷ rest) x
    name_back x true e k = inr (head_among x (text_is n x e))
    name_back x false e (inl k) = inl (sym (ap is_missing (kept x e)) ∙ k.0, sym (ap reads (kept x e)) ∙ k.1)
    name_back x false e (inr k) = inr (tail_among x k)

    fewer : (q : List (List ℕ)) → IsPlaceOf (declare s n (value Writable ty)) sc rest q → IsPlaceOf s sc (n ∷ rest) q
    fewer [] k = tt
    fewer (y ∷ []) (x, (k, e)) = (x, (name_back x (same_text n x) refl k, e))
    fewer (y ∷ z ∷ more) k = tt

rest_ready : (p : Parts) (calls : Calls) (h : Part) (s : Scope) (sc : meaning.Scope) (c : Stmt) (rest : List (List ℕ)) → IsFine (stmt_tests h s c) → Ready p calls s sc (names_in_stmt c ++ rest) → Ready p calls (after s c) sc rest
rest_ready p calls h s sc (nothing q) rest f b = b
rest_ready p calls h s sc (block q x) rest f b = ready_part p calls s sc (names_in x ++ rest) rest (λ m i. among_right (names_in x) rest m i) b
rest_ready p calls h s sc (var q ty n e) rest f b = var_ready p calls h s sc q ty n e rest f b
rest_ready p calls h s sc (assign q x e) rest f b = b
rest_ready p calls h s sc (choice q e x y) rest f b = ready_part p calls s sc ((names_in_stmt x ++ names_in_else y) ++ rest) rest (λ m i. among_right (names_in_stmt x ++ names_in_else y) rest m i) b
rest_ready p calls h s sc (return_ q) rest f b = b
rest_ready p calls h s sc (exit_ q) rest f b = b
rest_ready p calls h s sc (call q x args) rest f b = b

-- ---- along a run

module _ (p : Parts) (calls : Calls) (sc : meaning.Scope) where
  module _ (s : Scope) (xs : List (List ℕ)) (b : Ready p calls s sc xs) where
    pub reads_left : CallsLeave (Read s sc) calls
    reads_left = calls_fewer (IsPlaceOf s sc xs) (Read s sc) (place_fewer s sc xs [] (λ m i. broken (sym i))) calls b.calls_leave

    keep : CallsKeep (Read s sc) calls
    keep = calls_keep_of (Read s sc) calls reads_left

    none : CallsKeepNone calls
    none = calls_none_of (Read s sc) calls reads_left

    -- behind a statement the store fits what was in sight before it
    stmt_behind : (c : Stmt) → AtNone sc (Read s sc) (names_in_stmt c) → (r : Run) → Fits s sc r.store → HasStandard r.store → Fits s sc (meaning_of_stmt calls (stmt_under sc c) r).0.store
    stmt_behind c a r f st =
        fits_kept s sc r.store (meaning_of_stmt calls (stmt_under sc c) r).0.store
        (stmt_keeps (Read s sc) (read_places s sc) calls keep (stmt_under sc c) (stmt_spares sc (Read s sc) c a) r st) (stmt_none calls none (stmt_under sc c) r f.headers) f

    pub stmt_standard : (c : Stmt) → AtNone sc (Read s sc) (names_in_stmt c) → (r : Run) → HasStandard r.store → HasStandard (meaning_of_stmt calls (stmt_under sc c) r).0.store
    stmt_standard c a r st =
        standard_kept (Read s sc) (read_places s sc) r.store (meaning_of_stmt calls (stmt_under sc c) r).0.store
        (stmt_keeps (Read s sc) (read_places s sc) calls keep (stmt_under sc c) (stmt_spares sc (Read s sc) c a) r st) st

    test_behind : (e : Expr) (r : Run) → Fits s sc r.store → HasStandard r.store → Fits s sc (tested calls e r).run.store
    test_behind e r f st =
        fits_kept s sc r.store (tested calls e r).run.store (test_keeps (Read s sc) (read_places s sc) calls keep (application e) e r st) (test_none calls none (application e) e r f.headers) f

    test_standard : (e : Expr) (r : Run) → HasStandard r.store → HasStandard (tested calls e r).run.store
    test_standard e r st = standard_kept (Read s sc) (read_places s sc) r.store (tested calls e r).run.store (test_keeps (Read s sc) (read_places s sc) calls keep (application e) e r st) st

    block_behind : (ss : Stmts) → AtNone sc (Read s sc) (names_in ss) → (r : Run) → Fits s sc r.store → HasStandard r.store → Fits s sc (meaning_of calls (stmts_under sc ss) r).0.store
    block_behind ss a r f st =
        fits_kept s sc r.store (meaning_of calls (stmts_under sc ss) r).0.store
        (all_keep (Read s sc) (read_places s sc) calls keep (stmts_under sc ss) (block_spares sc (Read s sc) ss a) r st) (all_none calls none (stmts_under sc ss) r f.headers) f

  -- a statement's names are at no place that is read
  pub at_none : (h : Part) (s : Scope) (c : Stmt) → IsFine (stmt_tests h s c) → Ready p calls s sc (names_in_stmt c) → AtNone sc (Read s sc) (names_in_stmt c)
  at_none h s c f b = new_at_none s sc (names_in_stmt c) b.places (λ m i. stmt_missing c h s f m i)

  -- behind a statement the store fits what is in sight there
  pub step_fits : (c : Stmt) (h : Part) (s : Scope) → Ready p calls s sc (names_in_stmt c) → IsFine (stmt_tests h s c) → (r : Run) → Fits s sc r.store → HasStandard r.store → Fits (after s c) sc (meaning_of_stmt calls (stmt_under sc c) r).0.store
  step_fits (nothing q) h s b f r fits st = fits
  step_fits (block q x) h s b f r fits st = stmt_behind s _ b (block q x) (at_none h s (block q x) f b) r fits st
  step_fits (var q ty n e) h s b f r fits st = var_fits p q s sc ty n e r.store b.tied b.sound b.flat f.1.1.0 (stmt_behind s _ b (var q ty n e) (at_none h s (var q ty n e) f b) r fits st)
  step_fits (assign q x e) h s b f r fits st = stmt_behind s _ b (assign q x e) (at_none h s (assign q x e) f b) r fits st
  step_fits (choice q e x y) h s b f r fits st = stmt_behind s _ b (choice q e x y) (at_none h s (choice q e x y) f b) r fits st
  step_fits (return_ q) h s b f r fits st = fits
  step_fits (exit_ q) h s b f r fits st = fits
  step_fits (call q x args) h s b f r fits st = stmt_behind s _ b (call q x args) (at_none h s (call q x args) f b) r fits st

  mutual
    along_stmt : (c : Stmt) (h : Part) (s : Scope) → Ready p calls s sc (names_in_stmt c) → IsFine (stmt_tests h s c) → (r : Run) → Fits s sc r.store → HasStandard r.store → AlongStmt calls RunFits s sc c r
    along_stmt (nothing q) h s b f r fits st = fits
    along_stmt (block q x) h s b f r fits st = (fits, along x h s b f.1 r fits st)
    along_stmt (var q ty n e) h s b f r fits st = fits
    along_stmt (assign q x e) h s b f r fits st = fits
    along_stmt (choice q e x y) h s b f r fits st =
        let t = tested calls (expr_under sc e) r in
        let behind_test = test_behind s _ b (expr_under sc e) r fits st in
        let standard = test_standard s _ b (expr_under sc e) r st in (
          fits,
          λ go hit. along_stmt x h s (ready_part p calls s sc (names_in_stmt x ++ names_in_else y) (names_in_stmt x) (λ m i. among_left (names_in_stmt x) (names_in_else y) m i) b) f.1.1.0 t.run behind_test standard,
          λ go hit. along_else y h s (ready_part p calls s sc (names_in_stmt x ++ names_in_else y) (names_in_else y) (λ m i. among_right (names_in_stmt x) (names_in_else y) m i) b) f.1.1.1 t.run behind_test standard,
        )
    along_stmt (return_ q) h s b f r fits st = fits
    along_stmt (exit_ q) h s b f r fits st = fits
    along_stmt (call q x args) h s b f r fits st = fits

    along_else : (o : MaybeStmt) (h : Part) (s : Scope) → Ready p calls s sc (names_in_else o) → IsFine (else_tests h s o) → (r : Run) → Fits s sc r.store → HasStandard r.store → AlongElse calls RunFits s sc o r
    along_else without h s b f r fits st = tt
    along_else (otherwise c) h s b f r fits st = along_stmt c h s b f r fits st

    pub along : (ss : Stmts) (h : Part) (s : Scope) → Ready p calls s sc (names_in ss) → IsFine (block_tests h s ss) → (r : Run) → Fits s sc r.store → HasStandard r.store → Along calls RunFits s sc ss r
    along done h s b f r fits st = tt
    along (next c ss) h s b f r fits st =
        let one = ready_part p calls s sc (names_in_stmt c ++ names_in ss) (names_in_stmt c) (λ m i. among_left (names_in_stmt c) (names_in ss) m i) b in (
          along_stmt c h s one f.0 r fits st,
          λ go. along ss h (after s c) (rest_ready p calls h s sc c (names_in ss) f.0 b) f.1 (meaning_of_stmt calls (stmt_under sc c) r).0 (step_fits c h s one f.0 r fits st) (stmt_standard s _ one c (at_none h s c f.0 one) r st),
        )

-- at all statements the store goes on to fit what was in sight at the beginning, S, at whose places no variable stands
module _ (S : Scope) (sc : meaning.Scope) (calls : Calls) (leave : CallsLeave (Read S sc) calls) where
  abbrev Base : Scope → meaning.Scope → Stmt → Run → Type 0
  Base s td c r = Fits S sc r.store

  base_keep : CallsKeep (Read S sc) calls
  base_keep = calls_keep_of (Read S sc) calls leave

  base_none : CallsKeepNone calls
  base_none = calls_none_of (Read S sc) calls leave

  base_step : (c : Stmt) → AtNone sc (Read S sc) (names_in_stmt c) → (r : Run) → Fits S sc r.store → HasStandard r.store → Fits S sc (meaning_of_stmt calls (stmt_under sc c) r).0.store × HasStandard (meaning_of_stmt calls (stmt_under sc c) r).0.store
  base_step c a r f st =
      (let k = stmt_keeps (Read S sc) (read_places S sc) calls base_keep (stmt_under sc c) (stmt_spares sc (Read S sc) c a) r st in (
        fits_kept S sc r.store (meaning_of_stmt calls (stmt_under sc c) r).0.store k (stmt_none calls base_none (stmt_under sc c) r f.headers) f,
        standard_kept (Read S sc) (read_places S sc) r.store (meaning_of_stmt calls (stmt_under sc c) r).0.store k st,
      ))

  base_test : (e : Expr) (r : Run) → Fits S sc r.store → HasStandard r.store → Fits S sc (tested calls e r).run.store × HasStandard (tested calls e r).run.store
  base_test e r f st =
      (let k = test_keeps (Read S sc) (read_places S sc) calls base_keep (application e) e r st in (
        fits_kept S sc r.store (tested calls e r).run.store k (test_none calls base_none (application e) e r f.headers) f,
        standard_kept (Read S sc) (read_places S sc) r.store (tested calls e r).run.store k st,
      ))

  mutual
    base_stmt : (c : Stmt) (s : Scope) → AtNone sc (Read S sc) (names_in_stmt c) → (r : Run) → Fits S sc r.store → HasStandard r.store → AlongStmt calls Base s sc c r
    base_stmt (nothing q) s a r f st = f
    base_stmt (block q x) s a r f st = (f, base_block x s a r f st)
    base_stmt (var q ty n e) s a r f st = f
    base_stmt (assign q x e) s a r f st = f
    base_stmt (choice q e x y) s a r f st =
        let t = tested calls (expr_under sc e) r in
        let k = base_test (expr_under sc e) r f st in (
          f,
          λ go hit. base_stmt x s (λ m i. a m (among_left (names_in_stmt x) (names_in_else y) m i)) t.run k.0 k.1,
          λ go hit. base_else y s (λ m i. a m (among_right (names_in_stmt x) (names_in_else y) m i)) t.run k.0 k.1,
        )
    base_stmt (return_ q) s a r f st = f
    base_stmt (exit_ q) s a r f st = f
    base_stmt (call q x args) s a r f st = f

    base_else : (o : MaybeStmt) (s : Scope) → AtNone sc (Read S sc) (names_in_else o) → (r : Run) → Fits S sc r.store → HasStandard r.store → AlongElse calls Base s sc o r
    base_else without s a r f st = tt
    base_else (otherwise c) s a r f st = base_stmt c s a r f st

    pub base_block : (ss : Stmts) (s : Scope) → AtNone sc (Read S sc) (names_in ss) → (r : Run) → Fits S sc r.store → HasStandard r.store → Along calls Base s sc ss r
    base_block done s a r f st = tt
    base_block (next c ss) s a r f st =
        let one = λ (m : List ℕ) (i : is_among (names_in_stmt c) m ≡ true). a m (among_left (names_in_stmt c) (names_in ss) m i) in
        let k = base_step c one r f st in
        (base_stmt c s one r f st, λ go. base_block ss (after s c) (λ m i. a m (among_right (names_in_stmt c) (names_in ss) m i)) (meaning_of_stmt calls (stmt_under sc c) r).0 k.0 k.1)

  -- and behind them
  pub base_behind : (ss : Stmts) → AtNone sc (Read S sc) (names_in ss) → (r : Run) → Fits S sc r.store → HasStandard r.store → Fits S sc (meaning_of calls (stmts_under sc ss) r).0.store
  base_behind ss a r f st =
      fits_kept S sc r.store (meaning_of calls (stmts_under sc ss) r).0.store (all_keep (Read S sc) (read_places S sc) calls base_keep (stmts_under sc ss) (block_spares sc (Read S sc) ss a) r st) (all_none calls base_none (stmts_under sc ss) r f.headers) f

ready_of : (p : Parts) (calls : Calls) (s : Scope) (sc : meaning.Scope) (b : Stmts) → IsReady p calls s sc b → Ready p calls s sc (names_in b)
ready_of p calls s sc b r = record { tied = r.tied; sound = r.sound; flat = r.flat; places = r.places; calls_leave = r.calls_leave }

pub stores_fit : StoresFit
stores_fit =
    record {
      along = λ p calls h s sc b ready f r fits st. along p calls sc b h s (ready_of p calls s sc b ready) f r fits st;
      behind = λ p calls h s sc b ready f r fits st. block_behind p calls sc s (names_in b) (ready_of p calls s sc b ready) b (new_at_none s sc (names_in b) ready.places (λ m i. block_missing b h s f m i)) r fits st;
    }
