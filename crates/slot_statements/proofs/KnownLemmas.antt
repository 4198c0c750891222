-- Names that are free, and what a part of a tree tells of the whole.
use Rattle.std.proofs.Common.{◌≡◌, ℕ, suc, ◌<◌, ◌+◌, length, drop, get_or, map, List, [], ◌∷◌, Bool, true, false, not, ◌&&◌, ◌||◌, Option, Some, None, refl, sym, ap, ◌∙◌, subst, arith, is_some, nat_le}
use Rattle.std.proofs.lemmas.Bool.Decides.{nat_tests}
use Rattle.std.specs.Option.{option_and_then}
use Rattle.bit_values.specs.Widths.{sound_width}
use Rattle.p4_tree.specs.View.{expr_of, stmt_of, stmts_of}
use Rattle.p4_tree.specs.declared.statement.Expr as code_expr
use Rattle.p4_parts.specs.PartsIn.{key_in, param_in}
use Rattle.p4_parts.specs.declared.parts.Key as code_key
use Rattle.p4_parts.specs.declared.parts.Taken.{Taken}
use Rattle.p4_tree.specs.declared.statement.Stmt as code_stmt
use Rattle.p4_meaning.specs.Actions.{Param}
use Rattle.slot_terms.specs.Places.{Place, Places, place_at}
use Rattle.slot_terms.specs.Known.{is_known}
use Rattle.slot_statements.specs.Parameters.{with_row}
use Rattle.slot_statements.specs.Known.{is_free, are_free, are_known_args, are_known_keys, places_behind, places_behind_all}
use Rattle.slot_statements.proofs.TreeLemmas.{drop_one}

-- ---- free names

-- a name has no place yet, and there is a slot for it
pub record IsFree (m : Places) (x : List ℕ) : Type 0 where
  pub unknown : place_at m.rows (x ∷ []) ≡ None
  pub room : m.next < m.size

-- the same of the parameters of an action, one behind the other
abbrev pub AreFree : Places → List Param → Type 0
AreFree m [] = Unit {0}
AreFree m (p ∷ ps) = IsFree m p.name × AreFree (with_row m p.name (sound_width p.width)) ps

neither : (o : Option Place) (b : Bool) → not (is_some o || b) ≡ true → (o ≡ None) × (b ≡ false)
neither None false h = (refl, refl)
neither None true h = absurd (cc h)
neither (Some r) b h = absurd (cc h)

below_size : (n k : ℕ) → nat_le n k ≡ false → k < n
below_size n k h = grind (arith, nat_tests, h)

pub free_name : (m : Places) (x : List ℕ) → is_free m x ≡ true → IsFree m x
free_name m x h = (let k = neither (place_at m.rows (x ∷ [])) (nat_le m.size m.next) h in record { unknown = k.0; room = below_size m.size m.next k.1 })

pub and_first : (a b : Bool) → (a && b) ≡ true → a ≡ true
and_first true b h = refl
and_first false b h = absurd (cc h)

pub and_second : (a b : Bool) → (a && b) ≡ true → b ≡ true
and_second true b h = h
and_second false b h = absurd (cc h)

pub free_names : (m : Places) (ps : List Param) → are_free m ps ≡ true → AreFree m ps
free_names m [] h = tt
free_names m (p ∷ ps) h =
    (free_name m p.name (and_first (is_free m p.name) (are_free (with_row m p.name (sound_width p.width)) ps) h), free_names (with_row m p.name (sound_width p.width)) ps (and_second (is_free m p.name) (are_free (with_row m p.name (sound_width p.width)) ps) h))

-- ---- a part that does not hold

pub not_second : (a b : Bool) → b ≡ false → (a && b) ≡ false
not_second true b h = h
not_second false b h = refl

-- ---- arguments

pub other_count : (m : Places) (params : List Taken) (args : List code_expr.Expr) → (length params ≡ length args → ⊥) → are_known_args m (map param_in params) (map expr_of args) ≡ false
other_count m [] [] h = absurd (h refl)
other_count m [] (e ∷ es) h = refl
other_count m (p ∷ ps) [] h = refl
other_count m (p ∷ ps) (e ∷ es) h = not_second (is_known m (expr_of e)) (are_known_args m (map param_in ps) (map expr_of es)) (other_count m ps es (λ k. h (ap (λ n. suc n) k)))

-- ---- lists

-- one statement more has code
pub known_more :
    (m n : Places) (o : Option Places) (list : List code_stmt.Stmt) (i : ℕ) (x : code_stmt.Stmt) → i < length list → x ≡ get_or list i x → places_behind (stmt_of x) m ≡ Some n → places_behind_all (stmts_of (drop i list)) m ≡ o
    → places_behind_all (stmts_of (drop (i + 1) list)) n ≡ o
known_more m n o list i x lt is one all =
    let e : places_behind_all (stmts_of (x ∷ drop (i + 1) list)) m ≡ o = subst (λ xs. places_behind_all (stmts_of xs) m ≡ o) (drop_one list i x lt is) all in
    sym (ap (option_and_then (places_behind_all (stmts_of (drop (i + 1) list)))) one) ∙ e

-- one argument more has its places
pub known_arg_more :
    (m : Places) (o : Bool) (params : List Taken) (args : List code_expr.Expr) (i : ℕ) (p : Taken) (e : code_expr.Expr) → i < length params → i < length args → p ≡ get_or params i p → e ≡ get_or args i e → is_known m (expr_of e) ≡ true
    → are_known_args m (map param_in (drop i params)) (map expr_of (drop i args)) ≡ o → are_known_args m (map param_in (drop (i + 1) params)) (map expr_of (drop (i + 1) args)) ≡ o
known_arg_more m o params args i p e lt less p_is e_is one all =
    let a : are_known_args m (map param_in (p ∷ drop (i + 1) params)) (map expr_of (e ∷ drop (i + 1) args)) ≡ o =
    subst (λ ps. are_known_args m (map param_in ps) (map expr_of (e ∷ drop (i + 1) args)) ≡ o) (drop_one params i p lt p_is) (subst (λ es. are_known_args m (map param_in (drop i params)) (map expr_of es) ≡ o) (drop_one args i e less e_is) all) in
    sym (ap (λ b. b && are_known_args m (map param_in (drop (i + 1) params)) (map expr_of (drop (i + 1) args))) one) ∙ a

-- one key more has its places
pub known_key_more :
    (m : Places) (o : Bool) (keys : List code_key.Key) (i : ℕ) (k : code_key.Key) → i < length keys → k ≡ get_or keys i k → is_known m (expr_of k.value) ≡ true → are_known_keys m (map key_in (drop i keys)) ≡ o
    → are_known_keys m (map key_in (drop (i + 1) keys)) ≡ o
known_key_more m o keys i k lt is one all =
    let a : are_known_keys m (map key_in (k ∷ drop (i + 1) keys)) ≡ o = subst (λ ks. are_known_keys m (map key_in ks) ≡ o) (drop_one keys i k lt is) all in
    sym (ap (λ b. b && are_known_keys m (map key_in (drop (i + 1) keys))) one) ∙ a
