-- A rewritten expression has the value that the expression has with the length without telemetry.
use Rattle.std.proofs.Common.{◌≡◌, ℕ, List, [], ◌∷◌, map, Bool, true, false, not, cond, ◌||◌, ◌&&◌, Option, Some, None, refl, sym, ap, ap₂, ◌∙◌}
use Rattle.std.specs.Option.{option_map}
use Rattle.bit_values.specs.Bits.{Word}
use Rattle.bit_values.specs.Widths.{bit, holds, either_width, sound_width, cast_word}
use Rattle.bit_values.specs.Operators.{own_of, left_place, right_place}
use Rattle.bit_writer.specs.Bytes.{words_bits, bytes_of}
use Rattle.lex_text.specs.Names.{same_text, same_path, parent}
use Rattle.p4_tree.specs.Tree.{Expr, num, flag, path, valid, applied, error_name, negation, inversion, opposite, binary, conditional, slice, cast}
use Rattle.p4_tree.specs.Operators.{class_of, operate}
use Rattle.p4_tree.specs.declared.statement.PTy.{PTy}
use Rattle.p4_meaning.specs.Standard.{metadata_root, standard_root, packet_length}
use Rattle.p4_meaning.specs.Store.{read, shown}
use Rattle.p4_meaning.specs.Value.{value_of, own_width, width_of, is_valid, inverted, negated, sliced}
use Rattle.p4_meaning.specs.Checksum.{checksum_of, list_checksum}
use Rattle.p4_meaning.specs.Statements.{Run, index_of, start_of}
use Rattle.own_code.proofs.Apart.{path_decides, not_both}
use Rattle.packet_lengths.specs.Lengths.{length_path, plain_path, plain_expr, is_no_length, Lengths}

-- what is neither of two
pub none_left : (u v : Bool) → not (u || v) ≡ true → u ≡ false
none_left true v h = absurd (cc)
none_left false v h = refl

pub none_right : (u v : Bool) → not (u || v) ≡ true → v ≡ false
none_right true v h = absurd (cc)
none_right false true h = absurd (cc)
none_right false false h = refl

pub flipped : (p q : List (List ℕ)) → same_path p q ≡ false → same_path q p ≡ false
flipped p q o = go (same_path q p) refl
  where
    go : (t : Bool) → same_path q p ≡ t → same_path q p ≡ false
    go true e = not_both ((path_decides p q).1 (sym ((path_decides q p).0 e))) o
    go false e = e

-- a path that is neither length
pub no_packet_length : (p : List (List ℕ)) → is_no_length p ≡ true → same_path packet_length p ≡ false
no_packet_length p o = none_left (same_path packet_length p) (same_path length_path p) o

pub no_kept_length : (p : List (List ℕ)) → is_no_length p ≡ true → same_path length_path p ≡ false
no_kept_length p o = none_right (same_path packet_length p) (same_path length_path p) o

pub plain_other : (p : List (List ℕ)) → is_no_length p ≡ true → plain_path p ≡ p
plain_other p o = ap (λ t. cond t length_path p) (no_packet_length p o)

-- a path of one name is neither
pub single_none : (x : List ℕ) → is_no_length (x ∷ []) ≡ true
single_none x = ap₂ (λ u v. not (u || v)) (no (same_text standard_root x)) (no (same_text metadata_root x))
  where
    no : (b : Bool) → (b && false) ≡ false
    no true = refl
    no false = refl

-- a value that is taken at a width, and what is made of it
at_width : (f : Word → Word) (v : ℕ → Word) (m n : ℕ) (w : Word) → n ≡ m → v m ≡ w → f (cast_word (sound_width n) (v n)) ≡ f (cast_word (sound_width m) w)
at_width f v m n w e h = ap (λ i. f (cast_word (sound_width i) (v i))) e ∙ ap (λ u. f (cast_word (sound_width m) u)) h

module _ (n : Word) where
  -- a path reads the same
  pub read_same : (a b : Run) (p : List (List ℕ)) → Lengths n a b → read b.store (plain_path p) ≡ read a.store p
  read_same a b p h = go (same_path packet_length p) refl
    where
      go : (t : Bool) → same_path packet_length p ≡ t → read b.store (cond (same_path packet_length p) length_path p) ≡ read a.store p
      go true e =
          ap (λ t. read b.store (cond t length_path p)) e
          ∙ (ap₂ shown (ap (λ g. g (metadata_root ∷ [])) h.headers ∙ (h.meta ∙ sym h.standard)) h.long
          ∙ ap (λ q. read a.store q) ((path_decides packet_length p).0 e))
      go false e = ap (λ t. read b.store (cond t length_path p)) e ∙ ap₂ shown (ap (λ g. g (parent p)) h.headers) (h.values p e)

  -- an expression has the same width and the same value
  own_same : (a b : Run) (e : Expr) → Lengths n a b → own_width (plain_expr e) b.store ≡ own_width e a.store
  own_same a b (num p l) h = refl
  own_same a b (flag p t) h = refl
  own_same a b (path p names) h = ap (λ (w : Word). w.width) (read_same a b names h)
  own_same a b (valid p header) h = refl
  own_same a b (applied p t i) h = refl
  own_same a b (error_name p x) h = refl
  own_same a b (negation p x) h = refl
  own_same a b (inversion p x) h = own_same a b x h
  own_same a b (opposite p x) h = own_same a b x h
  own_same a b (binary p op x y) h = ap₂ (own_of (class_of op)) (own_same a b x h) (own_same a b y h)
  own_same a b (conditional p t x y) h = ap₂ either_width (own_same a b x h) (own_same a b y h)
  own_same a b (slice p x i j) h = refl
  own_same a b (cast p ty x) h = refl

  pub value_same : (a b : Run) (e : Expr) (w : ℕ) → Lengths n a b → value_of (plain_expr e) w b.store ≡ value_of e w a.store
  value_same a b (num p l) w h = refl
  value_same a b (flag p t) w h = refl
  value_same a b (path p names) w h = read_same a b names h
  value_same a b (valid p header) w h = ap (λ g. bit (is_valid (g header))) h.headers
  value_same a b (applied p t i) w h = refl
  value_same a b (error_name p x) w h = refl
  value_same a b (negation p x) w h = ap (λ v. bit (not (holds v))) (value_same a b x 1 h)
  value_same a b (inversion p x) w h =
      let m = either_width (own_width x a.store) w in
      at_width inverted (λ i. value_of (plain_expr x) i b.store) m (either_width (own_width (plain_expr x) b.store) w) _ (ap (λ i. either_width i w) (own_same a b x h)) (value_same a b x m h)
  value_same a b (opposite p x) w h =
      let m = either_width (own_width x a.store) w in
      at_width negated (λ i. value_of (plain_expr x) i b.store) m (either_width (own_width (plain_expr x) b.store) w) _ (ap (λ i. either_width i w) (own_same a b x h)) (value_same a b x m h)
  value_same a b (binary p op x y) w h =
      let u = own_same a b x h in
      let v = own_same a b y h in
      let k = left_place (class_of op) (own_width x a.store) (own_width y a.store) w in
      let m = right_place (class_of op) (own_width x a.store) (own_width y a.store) w in
      let left = ap₂ (λ i j. left_place (class_of op) i j w) u v in
      let right = ap₂ (λ i j. right_place (class_of op) i j w) u v in
      ap₂ (operate op)
      (at_width (λ v. v) (λ i. value_of (plain_expr x) i b.store) k _ _ left (value_same a b x k h))
      (at_width (λ v. v) (λ i. value_of (plain_expr y) i b.store) m _ _ right (value_same a b y m h))
  value_same a b (conditional p t x y) w h =
      let k = either_width (either_width (own_width x a.store) (own_width y a.store)) w in
      let m = either_width (either_width (own_width (plain_expr x) b.store) (own_width (plain_expr y) b.store)) w in
      let same : m ≡ k = ap₂ (λ i j. either_width (either_width i j) w) (own_same a b x h) (own_same a b y h) in
      let then_x = at_width (λ v. v) (λ i. value_of (plain_expr x) i b.store) k m _ same (value_same a b x k h) in
      let else_y = at_width (λ v. v) (λ i. value_of (plain_expr y) i b.store) k m _ same (value_same a b y k h) in
      ap (λ v. cond (holds v) (cast_word (sound_width m) (value_of (plain_expr x) m b.store)) (cast_word (sound_width m) (value_of (plain_expr y) m b.store))) (value_same a b t 1 h)
      ∙ ap₂ (cond (holds (value_of t 1 a.store))) then_x else_y
  value_same a b (slice p x i j) w h = ap (sliced _ j) (value_same a b x 0 h)
  value_same a b (cast p ty x) w h = ap (cast_word (sound_width (width_of ty))) (value_same a b x 0 h)

  -- so have lists of expressions, indices, checksums, and what variables start with
  pub values_same : (a b : Run) (es : List Expr) → Lengths n a b → map (λ e. value_of e 0 b.store) (map plain_expr es) ≡ map (λ e. value_of e 0 a.store) es
  values_same a b [] h = refl
  values_same a b (e ∷ es) h = ap₂ (λ (w : Word) (ws : List Word). w ∷ ws) (value_same a b e 0 h) (values_same a b es h)

  pub index_same : (a b : Run) (i : Expr) → Lengths n a b → index_of (plain_expr i) b.store ≡ index_of i a.store
  index_same a b i h = ap (λ (w : Word). w.value) (value_same a b i 128 h)

  pub sum_same : (a b : Run) (es : List Expr) → Lengths n a b → list_checksum (map plain_expr es) b.store ≡ list_checksum es a.store
  sum_same a b es h = ap (λ ws. checksum_of (bytes_of (words_bits ws))) (values_same a b es h)

  pub start_same : (a b : Run) (e : Option Expr) (t : PTy) → Lengths n a b → start_of t (option_map plain_expr e) b.store ≡ start_of t e a.store
  start_same a b None t h = refl
  start_same a b (Some e) t h = ap (cast_word (sound_width (width_of t))) (value_same a b e (width_of t) h)
