-- What flat code sees and writes.
use Rattle.std.proofs.Common.{◌≡◌, ℕ, zero, suc, ◌+◌, ◌<◌, ◌≤◌, ◌^◌, ◌%◌, List, [], ◌∷◌, ◌++◌, length, Bool, true, false, cond, Option, Some, None, refl, sym, ap, ap₂, ◌∙◌, arith, subst, nat_eq, nat_lt}
use Rattle.std.proofs.Math.Nat.{mod-eq_of_lt, mod-mod, zero-mod}
use Rattle.std.proofs.lemmas.Slice.Eq.{bytes_eq-Decides}
use Rattle.bit_values.specs.Bits.{Word, word}
use Rattle.bit_values.specs.Widths.{bit, holds, either_width, sound_width, cast_word}
use Rattle.lex_text.specs.Names.{same_text}
use Rattle.network_run.specs.PathMeaning.{Doing}
use Rattle.indus_tree.specs.Tree.{Shape, one, list, set, dict, Decl, Expr, read, binary, Stmt, Stmts, assign, choice, block_from}
use Rattle.indus_tree.specs.State.{Hop, Held, lookup, width_of, held_width, nothing_of, put, put_cell, set_cell}
use Rattle.indus_tree.specs.Reads.{Seen, scalar, variable_word, name_word, or_word}
use Rattle.indus_tree.specs.Operators.{operate, class_of}
use Rattle.bit_values.specs.Operators.{left_place, right_place}
use Rattle.indus_tree.specs.Value.{own_width, value_of}
use Rattle.indus_tree.specs.Meaning.{seen_by, stmt_run, block_run}
use Rattle.indus_tree.specs.Hops.{variable_number}
use Rattle.indus_tree.specs.declared.tree.DeclKind.TheVariants.{Tele}
use Rattle.indus_tree.specs.declared.tree.Op.TheVariants.{Add, Less, Equal}
use Rattle.indus_tree.specs.declared.tree.Ty.{Ty}
use Rattle.indus_tree.specs.declared.tree.Ty.TheVariants as ty
use Rattle.lower_lists.specs.Flat.{byte, nothing}
use Rattle.flat_laws.specs.Numbered.{scalar_decl, numbered, numbered_hop, Holds, HoldsList, Numbers}
use Rattle.flat_laws.proofs.NameLemmas.{same_self, apart, slot, IsNear}

-- what flat code sees
abbrev pub sees : Hop → Doing Held Held → Seen
sees h f = seen_by (numbered_hop h) [] f

-- a numbered scalar takes a word
abbrev pub set_to : Doing Held Held → List ℕ → Word → Doing Held Held
set_to f q w = record f { tele = put f.tele q (w ∷ []) }

pub put_same : (f : Held) (x : List ℕ) (ws : List Word) → put f x ws x ≡ ws
put_same f x ws = ap (λ b. cond b ws (f x)) (same_self x)

pub put_other : (f : Held) (x : List ℕ) (ws : List Word) (q : List ℕ) → same_text x q ≡ false → put f x ws q ≡ f q
put_other f x ws q e = ap (λ b. cond b ws (f q)) e

put_one : (b : Bool) (w : Word) (ws : List Word) → length ws ≡ 1 → length (cond b (w ∷ []) ws) ≡ 1
put_one true w ws e = refl
put_one false w ws e = e

-- each scalar holds one word, also behind a write
pub still_one : (f : Held) (x : List ℕ) (w : Word) (q : List ℕ) → length (f q) ≡ 1 → length (put f x (w ∷ []) q) ≡ 1
still_one f x w q e = put_one (same_text x q) w (f q) e

pub one_cell : (ws : List Word) (w : Word) → length ws ≡ 1 → put_cell ws 0 w ≡ w ∷ []
one_cell [] w e = absurd (omega arith)
one_cell (a ∷ []) w e = refl
one_cell (a ∷ b ∷ ws) w e = absurd (omega arith)

pub run-append : (h : Hop) (xs ys : List Stmt) (f : Doing Held Held) → block_run h [] (block_from (xs ++ ys)) f ≡ block_run h [] (block_from ys) (block_run h [] (block_from xs) f)
run-append h [] ys f = refl
run-append h (x ∷ xs) ys f = run-append h xs ys (stmt_run h [] x f)

pub holds-bit : (b : Bool) → holds (bit b) ≡ b
holds-bit true = refl
holds-bit false = refl

module _ (h : Hop) (a : ℕ) (q : List ℕ) (t : Ty) (found : lookup (numbered h.decls) q ≡ Some (scalar_decl a q t)) where
  -- a numbered scalar reads what it holds
  pub name_is : (f : Doing Held Held) (w : Word) → f.tele q ≡ w ∷ [] → name_word (sees h f) q ≡ w
  name_is f w e = ap (variable_word (sees h f) q) found ∙ ap (λ ws. scalar ws (width_of t)) e

  pub assign_is : (f : Doing Held Held) (p : ℕ) (e : Expr) → length (f.tele q) ≡ 1 → stmt_run (numbered_hop h) [] (assign p q e) f ≡ set_to f q (cast_word (sound_width (width_of t)) (value_of (sees h f) e (width_of t)))
  assign_is f p e one_word =
      ap (λ (o : Option Decl). set_cell o q 0 (cast_word (sound_width (held_width o)) (value_of (sees h f) e (held_width o))) f) found
      ∙ ap (λ (ws : List Word). record f { tele = put f.tele q ws }) (one_cell (f.tele q) (cast_word (sound_width (width_of t)) (value_of (sees h f) e (width_of t))) one_word)

-- ---- numbers of 8 bits

small_byte : (k : ℕ) → k < 256 → k % 2 ^ 8 ≡ k
small_byte k lt = mod-eq_of_lt lt

module _ (s : Seen) (p : ℕ) (q : List ℕ) (k : ℕ) (is : name_word s q ≡ word 8 k) (lk : k < 256) (i : ℕ) (li : i < 256) where
  twice_small : i % 2 ^ 8 % 2 ^ 8 ≡ i
  twice_small = ap (λ n. n % 2 ^ 8) (small_byte i li) ∙ small_byte i li

  pub equal_is : value_of s (binary p Equal (read p q) (byte p i)) 1 ≡ bit (nat_eq k i)
  equal_is =
      ap (λ (w : Word). operate Equal (cast_word (sound_width (left_place (class_of Equal) w.width 8 1)) w) (cast_word (sound_width (right_place (class_of Equal) w.width 8 1)) (value_of s (byte p i) (right_place (class_of Equal) w.width 8 1)))) is
      ∙ ap₂ (λ m n. bit (nat_eq m n)) (small_byte k lk) twice_small

  pub less_is : value_of s (binary p Less (read p q) (byte p i)) 1 ≡ bit (nat_lt k i)
  less_is =
      ap (λ (w : Word). operate Less (cast_word (sound_width (left_place (class_of Less) w.width 8 1)) w) (cast_word (sound_width (right_place (class_of Less) w.width 8 1)) (value_of s (byte p i) (right_place (class_of Less) w.width 8 1)))) is
      ∙ ap₂ (λ m n. bit (nat_lt m n)) (small_byte k lk) twice_small

  pub more_is : (v : ℕ) → value_of s (binary p Less (byte p i) (read p q)) v ≡ bit (nat_lt i k)
  more_is v =
      ap (λ (w : Word). operate Less (cast_word (sound_width (left_place (class_of Less) 8 w.width v)) (value_of s (byte p i) (left_place (class_of Less) 8 w.width v))) (cast_word (sound_width (right_place (class_of Less) 8 w.width v)) w)) is
      ∙ ap₂ (λ m n. bit (nat_lt m n)) twice_small (small_byte k lk)

pub sum_is : (s : Seen) (p : ℕ) (q : List ℕ) (k : ℕ) → name_word s q ≡ word 8 k → k < 255 → cast_word 8 (value_of s (binary p Add (read p q) (byte p 1)) 8) ≡ word 8 (k + 1)
sum_is s p q k is lk =
    ap (λ (w : Word). cast_word 8 (operate Add (cast_word (sound_width (left_place (class_of Add) w.width 8 8)) w) (cast_word (sound_width (right_place (class_of Add) w.width 8 8)) (value_of s (byte p 1) (right_place (class_of Add) w.width 8 8))))) is
    ∙ ap (λ n. word 8 ((n + 1) % 2 ^ 8 % 2 ^ 8)) (small_byte k (omega arith))
    ∙ ap (λ n. word 8 (n % 2 ^ 8)) (small_byte (k + 1) (omega arith))
    ∙ ap (word 8) (small_byte (k + 1) (omega arith))

pub nothing_is : (s : Seen) (p : ℕ) (t : Ty) → cast_word (sound_width (width_of t)) (value_of s (nothing p t) (width_of t)) ≡ nothing_of (width_of t)
nothing_is s p (ty.Bit w) = ap (λ n. word (sound_width w) (n % 2 ^ sound_width w)) (zero-mod (2 ^ sound_width (either_width w w))) ∙ ap (word (sound_width w)) (zero-mod (2 ^ sound_width w))
nothing_is s p ty.Bool = refl

-- ---- what stays

-- the scalars of a variable hold what they held
pub holds_still : (v : ℕ) (s : Shape) (ws : List Word) (f g : Held) → ((b : Option ℕ) → g (slot v b) ≡ f (slot v b)) → Holds v s ws f → Holds v s ws g
holds_still v (one t) ws f g same k = same (Some 0) ∙ k
holds_still v (list t n) ws f g same k = record { count = same None ∙ k.count; items = λ i lt. same (Some i) ∙ k.items i lt }
holds_still v (set ks) ws f g same k = tt
holds_still v (dict ks t) ws f g same k = tt
