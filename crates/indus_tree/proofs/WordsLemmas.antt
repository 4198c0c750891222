-- The value of an expression is a word. An operator takes operands that were cast to one width, so that nothing has
-- to be known of them; what is read is a word by premise, and only `~` rests on its operand.
use Rattle.std.proofs.Common.{◌≡◌, ℕ, zero, suc, ◌≤◌, ◌<◌, List, [], ◌∷◌, length, Bool, true, false, cond, Option, Some, None, refl, subst, All, arith, ◌^◌}
use Rattle.std.specs.Prelude.{codes, nat_le, slice_get}
use Rattle.std.proofs.Math.Nat.{mod-lt}
use Rattle.std.proofs.lemmas.Bool.{leb-true}
use Rattle.std.proofs.lemmas.Nat.{pow_pos}
use Rattle.std.proofs.lemmas.Option.{slice_get_within, get_or_from_slice_get}
use Rattle.std.proofs.lemmas.List.Elements.{All-head, All-tail, All-get_or}
use Rattle.bit_values.specs.Bits.{Word, word, IsWord, cast as cast_number}
use Rattle.bit_values.specs.Laws.{HaveWidth}
use Rattle.bit_values.specs.Widths.{bit, either_width, sound_width, cast_word}
use Rattle.bit_values.proofs.BitsLemmas.{cast-lt, operators_keep_width}
use Rattle.lex_text.specs.Names.{same_text}
use Rattle.indus_tree.specs.Tree.{Expr, num, flag, read, count, index, member, negation, inversion, binary, cast, Decl}
use Rattle.indus_tree.specs.State.{Contents, single, members, pairs, Hop, lookup, held_width, nothing_of}
use Rattle.bit_values.specs.Operators.{left_place, right_place}
use Rattle.indus_tree.specs.Operators.{class_of, operate}
use Rattle.indus_tree.specs.Reads.{Items, Seen, scalar, single_word, word_by_kind, built_in_word, variable_word, item_in, or_word, name_word}
use Rattle.indus_tree.specs.Keys.{same_words, found, found_in, cell_at, at_key_by_kind, at_key, index_widths, widths_for}
use Rattle.indus_tree.specs.Value.{own_width, value_of, inverted, key_of}
use Rattle.indus_tree.specs.Words.{GiveWords, AreWords, SeesWords}
use Rattle.indus_tree.specs.declared.tree.DeclKind.{DeclKind}
use Rattle.indus_tree.specs.declared.tree.DeclKind.TheVariants.{Tele, Sensor, Header, Control}
use Rattle.indus_tree.specs.declared.tree.Op.{Op}
use Rattle.indus_tree.specs.declared.tree.Op.TheVariants.{Mul, Add, Sub, Shl, Shr, BitAnd, BitXor, BitOr, Less, LessEq, More, MoreEq, Equal, Differ, Both, Either}

-- ---- widths

pub record IsWide (w : ℕ) : Type 0 where
  pub wide : 1 ≤ w
  pub narrow : w ≤ 128

sound_wide : (w : ℕ) → IsWide (sound_width w)
sound_wide zero = record { wide = omega arith; narrow = omega arith }
sound_wide (suc w) = by_test (nat_le (suc w) 128) refl
  where
    by_test : (b : Bool) → nat_le (suc w) 128 ≡ b → IsWide (cond b (suc w) 128)
    by_test true e = let le : suc w ≤ 128 = leb-true (suc w) 128 e in record { wide = omega arith; narrow = le }
    by_test false e = record { wide = omega arith; narrow = omega arith }

-- ---- words

cast_is_word : (w : ℕ) (a : Word) → IsWord (cast_word (sound_width w) a)
cast_is_word w a = record { wide = (sound_wide w).wide; narrow = (sound_wide w).narrow; in_range = mod-lt a.value (pow_pos (sound_width w)) }

nothing_is_word : (w : ℕ) → IsWord (nothing_of w)
nothing_is_word w = record { wide = (sound_wide w).wide; narrow = (sound_wide w).narrow; in_range = pow_pos (sound_width w) }

bit_is_word : (b : Bool) → IsWord (bit b)
bit_is_word true = record { wide = omega arith; narrow = omega arith; in_range = omega arith }
bit_is_word false = record { wide = omega arith; narrow = omega arith; in_range = omega arith }

inverted_is_word : (a : Word) → IsWord a → IsWord (inverted a)
inverted_is_word a is = record { wide = is.wide; narrow = is.narrow; in_range = (operators_keep_width a.width a.value a.value is.in_range is.in_range).turned }

-- a cast number of a word's width, whatever operator made it
module _ (w : ℕ) (x y : Word) where
  both : HaveWidth (sound_width w) (cast_number (sound_width w) x.value) (cast_number (sound_width w) y.value)
  both = operators_keep_width (sound_width w) (cast_number (sound_width w) x.value) (cast_number (sound_width w) y.value) (cast-lt (sound_width w) x.value) (cast-lt (sound_width w) y.value)

  of_width : (n : ℕ) → n < 2 ^ sound_width w → IsWord (word (sound_width w) n)
  of_width n lt = record { wide = (sound_wide w).wide; narrow = (sound_wide w).narrow; in_range = lt }

-- what an operator makes of operands that were cast for it
pub operated : (op : Op) (v u w : ℕ) (x y : Word) → IsWord (operate op (cast_word (sound_width (left_place (class_of op) v u w)) x) (cast_word (sound_width (right_place (class_of op) v u w)) y))
operated Mul v u w x y = let k = either_width (either_width v u) w in of_width k x y _ (both k x y).product
operated Add v u w x y = let k = either_width (either_width v u) w in of_width k x y _ (both k x y).sum
operated Sub v u w x y = let k = either_width (either_width v u) w in of_width k x y _ (both k x y).difference
operated Shl v u w x y = let k = either_width v w in of_width k x y _ ((both k x y).left (cast_number (sound_width (either_width u 128)) y.value))
operated Shr v u w x y = let k = either_width v w in of_width k x y _ ((both k x y).right (cast_number (sound_width (either_width u 128)) y.value))
operated BitAnd v u w x y = let k = either_width (either_width v u) w in of_width k x y _ (both k x y).in_both
operated BitXor v u w x y = let k = either_width (either_width v u) w in of_width k x y _ (both k x y).in_one
operated BitOr v u w x y = let k = either_width (either_width v u) w in of_width k x y _ (both k x y).in_either
operated Less v u w x y = bit_is_word _
operated LessEq v u w x y = bit_is_word _
operated More v u w x y = bit_is_word _
operated MoreEq v u w x y = bit_is_word _
operated Equal v u w x y = bit_is_word _
operated Differ v u w x y = bit_is_word _
operated Both v u w x y = bit_is_word _
operated Either v u w x y = bit_is_word _

-- ---- what names and keys read

or_is_word : (o : Option Word) (w : Word) → ((v : Word) → o ≡ Some v → IsWord v) → IsWord w → IsWord (or_word o w)
or_is_word None w h k = k
or_is_word (Some v) w h k = h v refl

scalar_is_word : (ws : List Word) (w : ℕ) → All IsWord ws → IsWord (scalar ws w)
scalar_is_word [] w all = nothing_is_word w
scalar_is_word (x ∷ xs) w all = All-head IsWord x xs all

cell_is_word : (ws ks : List Word) (w : ℕ) → All IsWord ws → IsWord (cell_at ws ks w)
cell_is_word ws [] w all = nothing_is_word w
cell_is_word ws (k ∷ ks) w all =
    or_is_word (slice_get ws k.value) (nothing_of w)
    (λ v e. subst IsWord (get_or_from_slice_get ws k.value v (nothing_of w) e) (All-get_or IsWord ws k.value (nothing_of w) (slice_get_within ws k.value v e) all))
    (nothing_is_word w)

single_is_word : (c : Contents) (w : ℕ) → GiveWords c → IsWord (single_word c w)
single_is_word (single x) w h = h
single_is_word (members ks) w h = nothing_is_word w
single_is_word (pairs es) w h = nothing_is_word w

cond_is_word : (b : Bool) (v w : Word) → IsWord v → IsWord w → IsWord (cond b v w)
cond_is_word true v w h k = h
cond_is_word false v w h k = k

found_is_word : (es : List (List Word × Word)) (k : List Word) (w : ℕ) → All (λ (e : List Word × Word). IsWord e.1) es → IsWord (found es k w)
found_is_word [] k w all = nothing_is_word w
found_is_word (e ∷ es) k w all =
    cond_is_word (same_words e.0 k) e.1 (found es k w) (All-head (λ (e : List Word × Word). IsWord e.1) e es all) (found_is_word es k w (All-tail (λ (e : List Word × Word). IsWord e.1) e es all))

found_in_is_word : (c : Contents) (k : List Word) (w : ℕ) → GiveWords c → IsWord (found_in c k w)
found_in_is_word (single x) k w h = nothing_is_word w
found_in_is_word (members ks) k w h = nothing_is_word w
found_in_is_word (pairs es) k w h = found_is_word es k w h

built_in_is_word : (h : Hop) (x : List ℕ) → IsWord (built_in_word h x)
built_in_is_word h x =
    cond_is_word (same_text x (codes "first_hop")) (bit h.first) _ (bit_is_word h.first)
    (cond_is_word (same_text x (codes "last_hop")) (bit h.last) _ (bit_is_word h.last)
    (cond_is_word (same_text x (codes "switch_id")) (word 16 (cast_number 16 h.switch)) (nothing_of 0) (cast_is_word 16 (word 16 h.switch)) (nothing_is_word 0)))

first_or : (b : Bool) (v : Word) (o : Option Word) (w : Word) → IsWord v → IsWord (or_word o w) → IsWord (or_word (cond b (Some v) o) w)
first_or true v o w h k = h
first_or false v o w h k = k

item_is_word : (is : Items) (x : List ℕ) (w : Word) → AreWords is → IsWord w → IsWord (or_word (item_in is x) w)
item_is_word [] x w all k = k
item_is_word (i ∷ is) x w all k =
    first_or (same_text i.0 x) i.1 (item_in is x) w (All-head (λ (j : List ℕ × Word). IsWord j.1) i is all) (item_is_word is x w (All-tail (λ (j : List ℕ × Word). IsWord j.1) i is all) k)

module _ (s : Seen) (sees : SeesWords s) where
  kind_is_word : (k : DeclKind) (d : Decl) (x : List ℕ) → lookup s.hop.decls x ≡ Some d → d.kind ≡ k → IsWord (word_by_kind k s x (held_width (Some d)))
  kind_is_word Tele d x e k = scalar_is_word (s.tele x) (held_width (Some d)) (sees.tele x d e k)
  kind_is_word Sensor d x e k = scalar_is_word (s.sensors x) (held_width (Some d)) (sees.sensors x d e k)
  kind_is_word Header d x e k = sees.headers x d e k
  kind_is_word Control d x e k = single_is_word (s.hop.contents x) (held_width (Some d)) (sees.contents x d e k)

  variable_is_word : (o : Option Decl) (x : List ℕ) → lookup s.hop.decls x ≡ o → IsWord (variable_word s x o)
  variable_is_word None x e = built_in_is_word s.hop x
  variable_is_word (Some d) x e = kind_is_word d.kind d x e refl

  name_is_word : (x : List ℕ) → IsWord (name_word s x)
  name_is_word x = item_is_word s.items x (variable_word s x (lookup s.hop.decls x)) sees.items (variable_is_word (lookup s.hop.decls x) x refl)

  key_kind_is_word : (k : DeclKind) (d : Decl) (x : List ℕ) (ks : List Word) → lookup s.hop.decls x ≡ Some d → d.kind ≡ k → IsWord (at_key_by_kind k s x ks (held_width (Some d)))
  key_kind_is_word Tele d x ks e k = nothing_is_word (held_width (Some d))
  key_kind_is_word Sensor d x ks e k = cell_is_word (s.sensors x) ks (held_width (Some d)) (sees.sensors x d e k)
  key_kind_is_word Header d x ks e k = nothing_is_word (held_width (Some d))
  key_kind_is_word Control d x ks e k = found_in_is_word (s.hop.contents x) ks (held_width (Some d)) (sees.contents x d e k)

  key_is_word : (o : Option Decl) (x : List ℕ) (ks : List Word) → lookup s.hop.decls x ≡ o → IsWord (at_key s x o ks)
  key_is_word None x ks e = nothing_is_word 0
  key_is_word (Some d) x ks e = key_kind_is_word d.kind d x ks e refl

  -- ---- expressions

  pub value_word : (e : Expr) (w : ℕ) → IsWord (value_of s e w)
  value_word (num p n) w = cast_is_word (either_width n.width w) (word 0 n.value)
  value_word (flag p b) w = bit_is_word b
  value_word (read p x) w = name_is_word x
  value_word (count p x) w = cast_is_word 8 (word 8 (length (s.tele x)))
  value_word (index p x es) w = key_is_word (lookup s.hop.decls x) x (key_of s es (widths_for index_widths (lookup s.hop.decls x))) refl
  value_word (member p es x) w = bit_is_word _
  value_word (negation p a) w = bit_is_word _
  value_word (inversion p a) w = inverted_is_word (value_of s a w) (value_word a w)
  value_word (binary p op a b) w =
      operated op (own_width s a) (own_width s b) w (value_of s a (left_place (class_of op) (own_width s a) (own_width s b) w)) (value_of s b (right_place (class_of op) (own_width s a) (own_width s b) w))
  value_word (cast p v a) w = cast_is_word v (value_of s a 0)
