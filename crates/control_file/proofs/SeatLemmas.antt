-- The places of control variables among them, and what their declarations add.
use Rattle.std.proofs.Common.{◌≡◌, ℕ, zero, suc, ◌+◌, ◌<◌, Bool, true, false, cond, ltb, List, [], ◌∷◌, ◌++◌, map, length, drop, take, get_or, Option, Some, None, Ok, refl, sym, ap, subst, ◌∙◌, append_assoc, arith, drop-cons, add-one}
use Rattle.std.specs.Prelude.{slice_get, slice_set, option_map, option_and_then}
use Rattle.std.proofs.lemmas.Bool.{lt-ltb, both_ways}
use Rattle.std.proofs.lemmas.Option.{slice_get_within, get_or_from_slice_get}
use Rattle.serde_json.specs.Data.{Data}
use Rattle.indus_tree.specs.Tree.{Decl}
use Rattle.indus_tree.specs.State.{Contents}
use Rattle.indus_tree.specs.Hops.{same_kind, variable_number}
use Rattle.indus_tree.specs.View.{decl_of}
use Rattle.indus_tree.specs.declared.tree.Decl as code
use Rattle.indus_tree.specs.declared.tree.DeclKind.TheVariants.{Control}
use Rattle.indus_values.specs.View.{seats}
use Rattle.json_parts.specs.Paths.{below}
use Rattle.control_file.specs.Contents.{contents_at}
use Rattle.control_file.specs.Control.{Variable, is_numbered, if_control, variable_of, unset_if_control, all_unset, set_variable, variables_at, set_switch}
use Rattle.network_file.specs.Network.{number_of}
use Rattle.control_file.specs.Seats.{one_if_control, seat_numbers, seat_of}

cut_at : {A : Type 0} (xs : List A) (i : ℕ) (x : A) → i < length xs → x ≡ get_or xs i x → drop i xs ≡ x ∷ drop (i + 1) xs
cut_at {A} xs i x lt is =
    let there : get_or xs i x ∷ drop (i + 1) xs ≡ x ∷ drop (i + 1) xs = ap (λ (y : A). y ∷ drop (i + 1) xs) (sym is) in
    (rw add-one (drop-cons xs i x lt)) ∙ there

-- one declaration more
module _ (ds : List code.Decl) (i : ℕ) (d : code.Decl) (lt : i < length ds) (is : d ≡ get_or ds i d) where
  pub unset_more : (held : List Contents) (total : List Contents) → held ++ all_unset (map decl_of (drop i ds)) ≡ total → (held ++ unset_if_control (decl_of d)) ++ all_unset (map decl_of (drop (i + 1) ds)) ≡ total
  unset_more held total so_far =
      let step = ap (λ (xs : List code.Decl). held ++ all_unset (map decl_of xs)) (cut_at ds i d lt is) in
      append_assoc held (unset_if_control (decl_of d)) (all_unset (map decl_of (drop (i + 1) ds))) ∙ sym step ∙ so_far

  pub seats_more : (found : List ℕ) (n : ℕ) (total : List ℕ) → found ++ seat_numbers n (map decl_of (drop i ds)) ≡ total → (found ++ n ∷ []) ++ seat_numbers (n + one_if_control d.kind) (map decl_of (drop (i + 1) ds)) ≡ total
  seats_more found n total so_far =
      let step = ap (λ (xs : List code.Decl). found ++ seat_numbers n (map decl_of xs)) (cut_at ds i d lt is) in
      append_assoc found (n ∷ []) (seat_numbers (n + one_if_control d.kind) (map decl_of (drop (i + 1) ds))) ∙ sym step ∙ so_far

-- the place of the i-th declaration
pub seat_at : (n : ℕ) (ds : List Decl) (i : ℕ) (d : Decl) → slice_get ds i ≡ Some d → slice_get (seat_numbers n ds) i ≡ Some (n + seats Control (take i ds))
seat_at n [] i d e = absurd cc
seat_at n (c ∷ ds) zero d e = ap (λ (m : ℕ). Some m) (omega arith)
seat_at n (c ∷ ds) (suc i) d e = seat_at (n + one_if_control c.kind) ds i d e ∙ ap (λ (m : ℕ). Some m) (by (same_kind Control c.kind) (seats Control (take i ds)))
  where
    by : (b : Bool) (s : ℕ) → (n + cond b 1 0) + s ≡ n + cond b (s + 1) s
    by true s = omega arith
    by false s = omega arith

-- the declaration of a control variable is that of its number
variable_there : (ds : List Decl) (name : List ℕ) (v : Variable) → variable_of ds name ≡ Some v → slice_get ds v.number ≡ Some v.decl
variable_there ds name v e = by (variable_number ds name) refl e
  where
    at : (n : ℕ) → (o : Option Decl) → slice_get ds n ≡ o → option_and_then (if_control n) o ≡ Some v → slice_get ds v.number ≡ Some v.decl
    at n None g e = absurd cc
    at n (Some d) g e = on (is_numbered d.kind n) e
      where
        on : (b : Bool) → cond b (Some (record { number = n; decl = d })) None ≡ Some v → slice_get ds v.number ≡ Some v.decl
        on true e =
            let same : (record { number = n; decl = d }) ≡ v = cc in
            subst (λ (w : Variable). slice_get ds w.number ≡ Some w.decl) same g
        on false e = absurd cc

    by : (o : Option ℕ) → variable_number ds name ≡ o → option_and_then (λ n. option_and_then (if_control n) (slice_get ds n)) o ≡ Some v → slice_get ds v.number ≡ Some v.decl
    by None g e = absurd cc
    by (Some n) g e = at n (slice_get ds n) refl e

module _ (ds : List Decl) (name : List ℕ) (v : Variable) (ss : List ℕ) (table : ss ≡ seat_numbers 0 ds) (found : Some v ≡ variable_of ds name) where
  there : slice_get ss v.number ≡ Some (seats Control (take v.number ds))
  there = rw table (seat_at 0 ds v.number v.decl (variable_there ds name v (sym found)) ∙ ap (λ (m : ℕ). Some m) (omega arith))

  pub seated_is : (s x : ℕ) → s ≡ get_or ss v.number x → Some (s, v.decl) ≡ option_map (seat_of ds) (variable_of ds name)
  seated_is s x e =
      let same : s ≡ seats Control (take v.number ds) = e ∙ get_or_from_slice_get ss v.number _ x there in
      rw (← found, same) refl

  pub seated_not : false ≡ ltb v.number (length ss) → ⊥
  seated_not e =
      let within = slice_get_within ss v.number _ there in
      both_ways (ltb v.number (length ss)) (sym e) (lt-ltb _ _ within)

-- a variable that was found is set
pub set_is : (path : List ℕ) (ds : List Decl) (held : List Contents) (name : List ℕ) (d : Data) (p : List ℕ) (seat : ℕ) (decl : Decl) (c : Contents) → Some (seat, decl) ≡ option_map (seat_of ds) (variable_of ds name)
    → p ≡ below path name → contents_at p decl.shape d ≡ Ok c → set_variable path ds held (name, d) ≡ Ok (slice_set held seat c)
set_is path ds held name d p seat decl c found at is = by (variable_of ds name) refl found
  where
    by : (o : Option Variable) → variable_of ds name ≡ o → Some (seat, decl) ≡ option_map (seat_of ds) o → set_variable path ds held (name, d) ≡ Ok (slice_set held seat c)
    by None v e = absurd cc
    by (Some w) v e =
        let same : (seat, decl) ≡ seat_of ds w = cc in
        let seats_are : seat ≡ seats Control (take w.number ds) = ap (λ (p : ℕ × Decl). p.0) same in
        let decls_are : decl ≡ w.decl = ap (λ (p : ℕ × Decl). p.1) same in
        let read : contents_at (below path name) w.decl.shape d ≡ Ok c = rw (← at, ← decls_are) is in
        rw (v, read, seats_are) refl

pub switch_is : (ds : List Decl) (names : List (List ℕ)) (held : List (List Contents)) (name : List ℕ) (d : Data) (p : List ℕ) (s : ℕ) (cs : List Contents) → Some s ≡ number_of names name
    → p ≡ below [] name → variables_at p ds d ≡ Ok cs → set_switch ds names held (name, d) ≡ Ok (slice_set held s cs)
switch_is ds names held name d p s cs found at is =
    let read : variables_at (below [] name) ds d ≡ Ok cs = rw (← at) is in
    rw (← found, read) refl

-- the same for one more of them
pub const_more : {A B : Type 0} (x : B) (xs : List A) (i : ℕ) → i < length xs → map (λ y. x) (take (i + 1) xs) ≡ map (λ y. x) (take i xs) ++ x ∷ []
const_more x [] i lt = absurd (omega arith)
const_more x (y ∷ ys) zero lt = refl
const_more {A} {B} x (y ∷ ys) (suc i) lt =
    let next : suc i + 1 ≡ suc (i + 1) = omega arith in
    ap (λ (n : ℕ). map (λ (z : A). x) (take n (y ∷ ys))) next ∙ ap (λ (rest : List B). x ∷ rest) (const_more x ys i (omega arith))
