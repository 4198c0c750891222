-- The lists at the start are those that the meaning begins with.
use Rattle.std.proofs.Common.{◌≡◌, ℕ, zero, suc, ◌+◌, ◌≤◌, List, [], ◌∷◌, ◌++◌, length, map, slice_get, Bool, true, false, cond, Option, Some, None, refl, sym, ap, ◌∙◌, arith}
use Rattle.bit_values.specs.Bits.{Word}
use Rattle.lex_text.specs.Names.{same_text}
use Rattle.indus_tree.specs.Tree.{Decl}
use Rattle.indus_tree.specs.Start.{cells, start_of_decl, sensor_of_decl, tele_start, sensors_start}
use Rattle.indus_tree.specs.State.{lookup}
use Rattle.indus_tree.specs.Hops.{same_kind, seat_from}
use Rattle.indus_tree.specs.declared.tree.DeclKind.{DeclKind}
use Rattle.indus_tree.specs.declared.tree.DeclKind.TheVariants.{Tele, Sensor}
use Rattle.indus_values.specs.Lists.{lists_for, tele_lists, sensor_lists}
use Rattle.indus_values.specs.View.{Cells, cells_of, cells_at, cells_in, is_kind, or_empty, seats}
use Rattle.indus_values.proofs.SeatLemmas.{no_number, seated, within}

-- there are as many lists as variables
count_step : (b : Bool) (n m : ℕ) → n ≡ m → cond b (n + 1) n ≡ cond b (m + 1) m
count_step true n m e = ap (λ k. k + 1) e
count_step false n m e = e

length_cond : (b : Bool) (w : List Word) (ls : List (List Word)) → length (cond b (w ∷ ls) ls) ≡ cond b (length ls + 1) (length ls)
length_cond true w ls = omega arith
length_cond false w ls = refl

pub lists_count : (k : DeclKind) (f : Option Decl → List Word) (ds : List Decl) → length (lists_for k f ds) ≡ seats k ds
lists_count k f [] = refl
lists_count k f (d ∷ ds) = length_cond (same_kind k d.kind) (f (Some d)) (lists_for k f ds) ∙ count_step (same_kind k d.kind) (length (lists_for k f ds)) (seats k ds) (lists_count k f ds)

length_cells : (ls : List Cells) → length (map cells_of ls) ≡ length ls
length_cells [] = refl
length_cells (l ∷ ls) = ap suc (length_cells ls)

-- the list at a variable's place is its own
place_step : (a b : Bool) (d : Decl) (w : List Word) (ls : List (List Word)) (l : Option Decl) (f : Option Decl → List Word) (n j : ℕ) (r : ℕ → Option ℕ) → w ≡ f (Some d)
    → ((i m : ℕ) → r i ≡ Some m → i ≤ m)
    → ((i h : ℕ) → r i ≡ Some (h + i) → slice_get ls h ≡ Some (f l))
    → cond a (cond b (Some n) None) (r (cond b (n + 1) n)) ≡ Some (j + n) → slice_get (cond b (w ∷ ls) ls) j ≡ Some (f (cond a (Some d) l))
place_step true true d w ls l f n zero r u v h e = ap (λ z. Some z) u
place_step true true d w ls l f n (suc j) r u v h e = let same : n ≡ suc j + n = cc in absurd (omega arith)
place_step true false d w ls l f n j r u v h e = no_number (j + n) e
place_step false true d w ls l f n zero r u v h e = let above : n + 1 ≤ 0 + n = v (n + 1) (0 + n) e in absurd (omega arith)
place_step false true d w ls l f n (suc j) r u v h e = h (n + 1) j (e ∙ ap (λ z. Some z) (let moved : suc j + n ≡ j + (n + 1) = omega arith in moved))
place_step false false d w ls l f n j r u v h e = h n j e

list_at : (k : DeclKind) (f : Option Decl → List Word) (ds : List Decl) (x : List ℕ) (n j : ℕ) → seat_from n k ds x ≡ Some (j + n) → slice_get (lists_for k f ds) j ≡ Some (f (lookup ds x))
list_at k f [] x n j e = no_number (j + n) e
list_at k f (d ∷ ds) x n j e =
    place_step (same_text d.name x) (same_kind k d.kind) d (f (Some d)) (lists_for k f ds) (lookup ds x) f n j (λ i. seat_from i k ds x) refl (λ i m g. (within i k ds x m g).0) (λ i h g. list_at k f ds x i h g) e

no_word : {P : Type 0} (w : List Word) → (let o : Option (List Word) = None in o) ≡ Some w → P
no_word w e = absurd (let c : (let o : Option (List Word) = None in o) ≡ Some w = e in cc)

get_cells : (ls : List Cells) (m : ℕ) (w : List Word) → slice_get (map cells_of ls) m ≡ Some w → or_empty (slice_get ls m) ≡ w
get_cells [] m w e = no_word w e
get_cells (l ∷ ls) zero w e = let same : l.items ≡ w = cc in same
get_cells (l ∷ ls) (suc m) w e = get_cells ls m w e

start_step : (k : DeclKind) (f : Option Decl → List Word) (ds : List Decl) (ls : List Cells) (x : List ℕ) (o : Option ℕ) → seat_from 0 k ds x ≡ o → map cells_of ls ≡ lists_for k f ds → is_kind k (lookup ds x) ≡ true → cells_at ls o ≡ f (lookup ds x)
start_step k f ds ls x None s e i = absurd (seated 0 k ds x i s)
start_step k f ds ls x (Some m) s e i = get_cells ls m (f (lookup ds x)) (ap (λ z. slice_get z m) e ∙ list_at k f ds x 0 m (s ∙ ap (λ z. Some z) (let same : m ≡ m + 0 = omega arith in same)))

pub starts : (k : DeclKind) (f : Option Decl → List Word) (ds : List Decl) (ls : List Cells) → map cells_of ls ≡ lists_for k f ds → (x : List ℕ) → is_kind k (lookup ds x) ≡ true → cells_in k ds ls x ≡ f (lookup ds x)
starts k f ds ls e x i = start_step k f ds ls x (seat_from 0 k ds x) refl e i

pub count : (k : DeclKind) (f : Option Decl → List Word) (ds : List Decl) (ls : List Cells) → map cells_of ls ≡ lists_for k f ds → length ls ≡ seats k ds
count k f ds ls e = sym (length_cells ls) ∙ ap length e ∙ lists_count k f ds

pub tele_starts : (ds : List Decl) (ls : List Cells) → map cells_of ls ≡ tele_lists ds → (x : List ℕ) → is_kind Tele (lookup ds x) ≡ true → cells_in Tele ds ls x ≡ tele_start ds x
tele_starts ds ls e x i = starts Tele start_of_decl ds ls e x i

pub sensor_starts : (ds : List Decl) (ls : List Cells) → map cells_of ls ≡ sensor_lists ds → (x : List ℕ) → is_kind Sensor (lookup ds x) ≡ true → cells_in Sensor ds ls x ≡ sensors_start ds x
sensor_starts ds ls e x i = starts Sensor sensor_of_decl ds ls e x i

pub tele_count : (ds : List Decl) (ls : List Cells) → map cells_of ls ≡ tele_lists ds → length ls ≡ seats Tele ds
tele_count = count Tele start_of_decl

pub sensor_count : (ds : List Decl) (ls : List Cells) → map cells_of ls ≡ sensor_lists ds → length ls ≡ seats Sensor ds
sensor_count = count Sensor sensor_of_decl

-- so many cells, and one behind them
pub cells_more : (n : ℕ) (w : Word) → cells n w ++ w ∷ [] ≡ cells (n + 1) w
cells_more zero w = refl
cells_more (suc n) w = ap (λ z. w ∷ z) (cells_more n w) ∙ ap (λ k. cells k w) (let e : suc (n + 1) ≡ suc n + 1 = omega arith in e)
