-- A write to the list at a variable's place is a write to the variable of that name.
use Rattle.std.proofs.Common.{◌≡◌, ℕ, ◌+◌, ◌<◌, ◌≤◌, List, [], ◌∷◌, Bool, true, false, cond, Option, Some, None, refl, sym, ap, ◌∙◌, arith, Decides}
use Rattle.std.proofs.lemmas.Slice.Eq.{bytes_eq-Decides}
use Rattle.bit_values.specs.Bits.{Word}
use Rattle.lex_text.specs.Names.{same_text}
use Rattle.indus_tree.specs.Tree.{Decl}
use Rattle.indus_tree.specs.State.{lookup, put}
use Rattle.indus_tree.specs.Hops.{same_kind, seat_from}
use Rattle.indus_tree.specs.declared.tree.DeclKind.{DeclKind}
use Rattle.indus_values.specs.View.{Cells, cells_at, cells_in, is_kind, seats}

pub same_text_decides : (x y : List ℕ) → Decides (same_text x y) (x ≡ y)
same_text_decides x y = bytes_eq-Decides x y

pub no_number : {P : Type 0} (m : ℕ) → (let o : Option ℕ = None in o) ≡ Some m → P
no_number m e = absurd (let c : (let o : Option ℕ = None in o) ≡ Some m = e in cc)

-- a place is one of those of its kind
within_step : (a b : Bool) (n m s : ℕ) (r : ℕ → Option ℕ) → ((j : ℕ) → r j ≡ Some m → (j ≤ m) × (m < j + s)) → cond a (cond b (Some n) None) (r (cond b (n + 1) n)) ≡ Some m → (n ≤ m) × (m < n + cond b (s + 1) s)
within_step true true n m s r h e = let same : n ≡ m = cc in (omega arith, omega arith)
within_step true false n m s r h e = no_number m e
within_step false true n m s r h e = let p : (n + 1 ≤ m) × (m < n + 1 + s) = h (n + 1) e in (omega (arith, p), omega (arith, p))
within_step false false n m s r h e = h n e

pub within : (n : ℕ) (k : DeclKind) (ds : List Decl) (x : List ℕ) (m : ℕ) → seat_from n k ds x ≡ Some m → (n ≤ m) × (m < n + seats k ds)
within n k [] x m e = no_number m e
within n k (d ∷ ds) x m e = within_step (same_text d.name x) (same_kind k d.kind) n m (seats k ds) (λ j. seat_from j k ds x) (λ j. within j k ds x m) e

-- a variable of the kind has a place
seated_step : (a b : Bool) (k : DeclKind) (d : Decl) (l : Option Decl) (n : ℕ) (r : ℕ → Option ℕ) → same_kind k d.kind ≡ b → ((j : ℕ) → is_kind k l ≡ true → r j ≡ None → ⊥) → is_kind k (cond a (Some d) l) ≡ true → cond a (cond b (Some n) None) (r (cond b (n + 1) n)) ≡ None → ⊥
seated_step true true k d l n r s h i e = let c : Some n ≡ None = e in cc
seated_step true false k d l n r s h i e = let c : false ≡ true = sym s ∙ i in cc
seated_step false b k d l n r s h i e = h (cond b (n + 1) n) i e

pub seated : (n : ℕ) (k : DeclKind) (ds : List Decl) (x : List ℕ) → is_kind k (lookup ds x) ≡ true → seat_from n k ds x ≡ None → ⊥
seated n k [] x i e = let c : false ≡ true = i in cc
seated n k (d ∷ ds) x i e = seated_step (same_text d.name x) (same_kind k d.kind) k d (lookup ds x) n (λ j. seat_from j k ds x) refl (λ j. seated j k ds x) i e

-- one place is that of one name
same_step : (a b c : Bool) (n m : ℕ) (r q : ℕ → Option ℕ) (P : Type 0) → (a ≡ true → b ≡ true → P) → ((j : ℕ) → r j ≡ Some m → j ≤ m) → ((j : ℕ) → q j ≡ Some m → j ≤ m) → ((j : ℕ) → r j ≡ Some m → q j ≡ Some m → P) → cond a (cond c (Some n) None) (r (cond c (n + 1) n)) ≡ Some m → cond b (cond c (Some n) None) (q (cond c (n + 1) n)) ≡ Some m → P
same_step true true c n m r q P h u v l e f = h refl refl
same_step true false true n m r q P h u v l e f = absurd (let same : n ≡ m = cc in let above : n + 1 ≤ m = v (n + 1) f in omega arith)
same_step true false false n m r q P h u v l e f = no_number m e
same_step false true true n m r q P h u v l e f = absurd (let same : n ≡ m = cc in let above : n + 1 ≤ m = u (n + 1) e in omega arith)
same_step false true false n m r q P h u v l e f = no_number m f
same_step false false c n m r q P h u v l e f = l (cond c (n + 1) n) e f

joined : (z x y : List ℕ) → same_text z x ≡ true → same_text z y ≡ true → x ≡ y
joined z x y a b = sym ((same_text_decides z x).0 a) ∙ (same_text_decides z y).0 b

pub same_seat : (n : ℕ) (k : DeclKind) (ds : List Decl) (x y : List ℕ) (m : ℕ) → seat_from n k ds x ≡ Some m → seat_from n k ds y ≡ Some m → x ≡ y
same_seat n k [] x y m e f = no_number m e
same_seat n k (d ∷ ds) x y m e f =
    same_step (same_text d.name x) (same_text d.name y) (same_kind k d.kind) n m (λ j. seat_from j k ds x) (λ j. seat_from j k ds y) (x ≡ y) (joined d.name x y) (λ j h. (within j k ds x m h).0) (λ j h. (within j k ds y m h).0) (λ j. same_seat j k ds x y m) e f

module _ (k : DeclKind) (ds : List Decl) (ls ls' : List Cells) (x : List ℕ) (n : ℕ) (w : List Word)
    (here : seat_from 0 k ds x ≡ Some n) (new : cells_at ls' (Some n) ≡ w)
    (others : (j : ℕ) → (j ≡ n → ⊥) → cells_at ls' (Some j) ≡ cells_at ls (Some j)) where
  other_step : (y : List ℕ) (o : Option ℕ) → seat_from 0 k ds y ≡ o → same_text x y ≡ false → cells_at ls' o ≡ cells_at ls o
  other_step y None e h = refl
  other_step y (Some j) e h = others j (λ same. let xy : x ≡ y = same_seat 0 k ds x y n here (e ∙ ap (λ i. Some i) same) in let t : same_text x y ≡ true = (same_text_decides x y).1 xy in let c : false ≡ true = sym h ∙ t in cc)

  at_name : (y : List ℕ) (b : Bool) → same_text x y ≡ b → cells_in k ds ls' y ≡ cond b w (cells_in k ds ls y)
  at_name y true e = ap (λ z. cells_at ls' (seat_from 0 k ds z)) (sym ((same_text_decides x y).0 e)) ∙ ap (cells_at ls') here ∙ new
  at_name y false e = other_step y (seat_from 0 k ds y) refl e

  pub put_cells : cells_in k ds ls' ≡ put (cells_in k ds ls) x w
  put_cells = λ i y. at_name y (same_text x y) refl i

-- the same, where what is written is made of what stood there
pub written : (k : DeclKind) (ds : List Decl) (ls ls' : List Cells) (x : List ℕ) (n : ℕ) (change : List Word → List Word) → Some n ≡ seat_from 0 k ds x → cells_at ls' (Some n) ≡ change (cells_at ls (Some n)) → ((j : ℕ) → (j ≡ n → ⊥) → cells_at ls' (Some j) ≡ cells_at ls (Some j)) → cells_in k ds ls' ≡ put (cells_in k ds ls) x (change (cells_in k ds ls x))
written k ds ls ls' x n change here new others = put_cells k ds ls ls' x n (change (cells_in k ds ls x)) (sym here) (new ∙ ap (λ o. change (cells_at ls o)) here) others
