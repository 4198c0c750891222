-- Expressions and builtin calls in runs that agree.
use Rattle.std.proofs.Common.{◌≡◌, ℕ, ◌+◌, ◌-◌, List, [], ◌∷◌, ◌++◌, map, take, Bool, true, false, not, cond, Option, Some, None, refl, sym, ap, ap₂, ◌∙◌, subst, Decides}
use Rattle.std.specs.Prelude.{nat_eq, if◌then◌else◌}
use Rattle.std.specs.List.{AllByRecursion}
use Rattle.std.proofs.lemmas.Slice.Eq.{slice_eq-Decides, bytes_eq-Decides}
use Rattle.bit_values.specs.Bits.{Word, word}
use Rattle.bit_values.specs.Operators.{own_of, left_place, right_place}
use Rattle.bit_values.specs.Widths.{bit, holds, either_width, sound_width, cast_word}
use Rattle.lex_text.specs.Names.{same_text, same_path, parent}
use Rattle.p4_tree.specs.Operators.{class_of, operate}
use Rattle.p4_tree.specs.Tree.{Expr, num, flag, path, valid, applied, error_name, negation, inversion, opposite, binary, conditional, slice, cast}
use Rattle.p4_tree.specs.declared.statement.PTy.{PTy}
use Rattle.p4_meaning.specs.Standard.{egress_spec, checksum_error, is_assignable}
use Rattle.p4_meaning.specs.Store.{read, shown, zero_of, set_value, set_valid, zeroed, made, written, write}
use Rattle.p4_meaning.specs.Value.{value_of, own_width, width_of, is_valid, inverted, negated, sliced}
use Rattle.p4_meaning.specs.Checksum.{list_checksum, checksum_of}
use Rattle.bit_writer.specs.Bytes.{words_bits, bytes_of}
use Rattle.p4_meaning.specs.Statements.{Digest, Run, in_store, cell_at, cell_set, put_cells, index_of, assigned, verified, updated, summed, start_of}
use Rattle.exit_statements.specs.Without.{Flags}
use Rattle.exit_statements.specs.Free.{Hides, HidesFlags, IsFreeExpr, IsFreeStart}
use Rattle.exit_statements.specs.Alike.{Alike, Stays}

-- ---- paths

pub path_decides : (p q : List (List ℕ)) → Decides (same_path p q) (p ≡ q)
path_decides p q = slice_eq-Decides bytes_eq-Decides p q (same_path p q) refl

pub text_decides : (x y : List ℕ) → Decides (same_text x y) (x ≡ y)
text_decides x y = bytes_eq-Decides x y

pub not_both : {A : Type 0} (b : Bool) → b ≡ true → b ≡ false → A
not_both b t f = absurd (cc (sym t ∙ f))

-- a path that is hidden is none that is not
pub apart : (hides : Hides) (p q : List (List ℕ)) → hides p ≡ true → hides q ≡ false → same_path p q ≡ false
apart hides p q i o = go (same_path p q) refl
  where
    go : (b : Bool) → same_path p q ≡ b → b ≡ false
    go true e = not_both (hides q) (sym (ap hides ((path_decides p q).0 e)) ∙ i) o
    go false e = refl

pub apart_from : (hides : Hides) (p q : List (List ℕ)) → hides p ≡ false → hides q ≡ true → same_path p q ≡ false
apart_from hides p q o i = go (same_path p q) refl
  where
    go : (b : Bool) → same_path p q ≡ b → b ≡ false
    go true e = not_both (hides q) i (sym (ap hides ((path_decides p q).0 e)) ∙ o)
    go false e = refl

-- ---- the flags

pub stays_same : (n : Flags) (a : Run) → Stays n a a
stays_same n a = record { left = refl; returned = refl }

pub stays_then : (n : Flags) (a b c : Run) → Stays n a b → Stays n b c → Stays n a c
stays_then n a b c s t = record { left = t.left ∙ s.left; returned = t.returned ∙ s.returned }

-- ---- values

module _ (hides : Hides) (a b : Run) (h : Alike hides a b) where
  pub read_alike : (p : List (List ℕ)) → hides p ≡ false → read b.store p ≡ read a.store p
  read_alike p o = ap₂ shown (ap (λ g. g (parent p)) h.headers) (h.values p o)

  pub width_alike : (e : Expr) → IsFreeExpr hides e → own_width e b.store ≡ own_width e a.store
  width_alike (num p l) r = refl
  width_alike (flag p t) r = refl
  width_alike (path p names) r = ap (λ (w : Word). w.width) (read_alike names r)
  width_alike (valid p header) r = refl
  width_alike (applied p t b') r = refl
  width_alike (error_name p x) r = refl
  width_alike (negation p x) r = refl
  width_alike (inversion p x) r = width_alike x r
  width_alike (opposite p x) r = width_alike x r
  width_alike (binary p op x y) r = ap₂ (own_of (class_of op)) (width_alike x r.0) (width_alike y r.1)
  width_alike (conditional p t x y) r = ap₂ either_width (width_alike x r.1) (width_alike y r.2)
  width_alike (slice p x high low) r = refl
  width_alike (cast p ty x) r = refl

  pub value_alike : (e : Expr) (w : ℕ) → IsFreeExpr hides e → value_of e w b.store ≡ value_of e w a.store
  value_alike (num p l) w r = refl
  value_alike (flag p t) w r = refl
  value_alike (path p names) w r = read_alike names r
  value_alike (valid p header) w r = ap (λ g. bit (is_valid (g header))) h.headers
  value_alike (applied p t b') w r = refl
  value_alike (error_name p x) w r = refl
  value_alike (negation p x) w r = ap (λ v. bit (not (holds v))) (value_alike x 1 r)
  value_alike (inversion p x) w r =
      let m = either_width (own_width x a.store) w in
      ap (λ i. inverted (cast_word (sound_width (either_width i w)) (value_of x (either_width i w) b.store))) (width_alike x r)
      ∙ ap (λ v. inverted (cast_word (sound_width m) v)) (value_alike x m r)
  value_alike (opposite p x) w r =
      let m = either_width (own_width x a.store) w in
      ap (λ i. negated (cast_word (sound_width (either_width i w)) (value_of x (either_width i w) b.store))) (width_alike x r)
      ∙ ap (λ v. negated (cast_word (sound_width m) v)) (value_alike x m r)
  value_alike (binary p op x y) w r =
      let u = width_alike x r.0 in
      let v = width_alike y r.1 in
      let m = left_place (class_of op) (own_width x a.store) (own_width y a.store) w in
      let k = right_place (class_of op) (own_width x a.store) (own_width y a.store) w in
      let left = ap₂ (λ i j. left_place (class_of op) i j w) u v in
      let right = ap₂ (λ i j. right_place (class_of op) i j w) u v in
      ap₂ (operate op)
      (ap (λ i. cast_word (sound_width i) (value_of x i b.store)) left ∙ ap (cast_word (sound_width m)) (value_alike x m r.0))
      (ap (λ i. cast_word (sound_width i) (value_of y i b.store)) right ∙ ap (cast_word (sound_width k)) (value_alike y k r.1))
  value_alike (conditional p t x y) w r =
      let m = either_width (either_width (own_width x a.store) (own_width y a.store)) w in
      let wide = ap₂ (λ i j. either_width (either_width i j) w) (width_alike x r.1) (width_alike y r.2) in
      ap (λ k. if holds (value_of t 1 b.store) then cast_word (sound_width k) (value_of x k b.store) else cast_word (sound_width k) (value_of y k b.store)) wide
      ∙ ap (λ v. if holds v then cast_word (sound_width m) (value_of x m b.store) else cast_word (sound_width m) (value_of y m b.store)) (value_alike t 1 r.0)
      ∙ ap₂ (λ u v. if holds (value_of t 1 a.store) then cast_word (sound_width m) u else cast_word (sound_width m) v) (value_alike x m r.1) (value_alike y m r.2)
  value_alike (slice p x high low) w r = ap (sliced (sound_width (high + 1 - low)) low) (value_alike x 0 r)
  value_alike (cast p ty x) w r = ap (cast_word (sound_width (width_of ty))) (value_alike x 0 r)

  pub start_alike : (e : Option Expr) (t : PTy) → IsFreeStart hides e → start_of t e b.store ≡ start_of t e a.store
  start_alike None t o = refl
  start_alike (Some e) t o = ap (cast_word (sound_width (width_of t))) (value_alike e (width_of t) o)

  pub values_alike : (es : List Expr) → AllByRecursion (IsFreeExpr hides) es → map (λ e. value_of e 0 b.store) es ≡ map (λ e. value_of e 0 a.store) es
  values_alike [] o = refl
  values_alike (e ∷ es) o = ap₂ (λ (w : Word) (ws : List Word). w ∷ ws) (value_alike e 0 o.0) (values_alike es o.1)

  pub index_alike : (i : Expr) → IsFreeExpr hides i → index_of i b.store ≡ index_of i a.store
  index_alike i o = ap (λ (w : Word). w.value) (value_alike i 128 o)

  pub sum_alike : (es : List Expr) → AllByRecursion (IsFreeExpr hides) es → list_checksum es b.store ≡ list_checksum es a.store
  sum_alike es o = ap (λ ws. checksum_of (bytes_of (words_bits ws))) (values_alike es o)

-- ---- steps of both runs

-- they agree again, and the flags are as before
pub record Ran (n : Flags) (hides : Hides) (b x y : Run) : Type 0 where
  pub alike : Alike hides x y
  pub stays : Stays n b y

pub ran_same : (n : Flags) (hides : Hides) (a b : Run) → Alike hides a b → Ran n hides b a b
ran_same n hides a b h = record { alike = h; stays = stays_same n b }

module _ (n : Flags) (hides : Hides) (f : HidesFlags n hides) where
  -- the same word is put at the same path
  pub set_stays : (b : Run) (p : List (List ℕ)) (w : Word) → hides p ≡ false → Stays n b (in_store b (set_value b.store p w))
  set_stays b p w o =
      record {
        left = ap (λ t. cond t w (b.store.values (n.left ∷ []))) (apart_from hides p (n.left ∷ []) o f.left);
        returned = ap (λ t. cond t w (b.store.values (n.returned ∷ []))) (apart_from hides p (n.returned ∷ []) o f.returned);
      }

  pub set_ran : (a b : Run) (p : List (List ℕ)) (v w : Word) → hides p ≡ false → Alike hides a b → w ≡ v → Ran n hides b (in_store a (set_value a.store p v)) (in_store b (set_value b.store p w))
  set_ran a b p v w o h e =
      record {
        alike = record { values = λ q i. ap₂ (cond (same_path p q)) e (h.values q i); headers = h.headers; plain = h.plain; cells = h.cells; digests = h.digests };
        stays = set_stays b p w o;
      }

  written_ran : (s : Option Bool) (a b : Run) (p : List (List ℕ)) (v w : Word) → hides p ≡ false → Alike hides a b → w ≡ v → Ran n hides b (in_store a (written s a.store p v)) (in_store b (written s b.store p w))
  written_ran None a b p v w i h e = set_ran a b p v w i h e
  written_ran (Some true) a b p v w i h e = set_ran a b p v w i h e
  written_ran (Some false) a b p v w i h e = ran_same n hides a b h

  pub write_ran : (a b : Run) (p : List (List ℕ)) (v w : Word) → hides p ≡ false → Alike hides a b → w ≡ v → Ran n hides b (in_store a (write a.store p v)) (in_store b (write b.store p w))
  write_ran a b p v w i h e =
      subst (λ o. Ran n hides b (in_store a (write a.store p v)) (in_store b (written o b.store p w))) (sym (ap (λ g. g (parent p)) h.headers)) (written_ran (a.store.headers (parent p)) a b p v w i h e)

  pub assigned_ran : (a b : Run) (p : List (List ℕ)) (v w : Word) → hides p ≡ false → Alike hides a b → w ≡ v → Ran n hides b (in_store a (assigned a.store p v)) (in_store b (assigned b.store p w))
  assigned_ran a b p v w i h e = go (is_assignable p)
    where
      cut : cast_word (sound_width (b.store.values p).width) w ≡ cast_word (sound_width (a.store.values p).width) v
      cut = ap₂ (λ (u x : Word). cast_word (sound_width u.width) x) (h.values p i) e

      go : (t : Bool) → Ran n hides b (in_store a (if t then write a.store p (cast_word (sound_width (a.store.values p).width) v) else a.store)) (in_store b (if t then write b.store p (cast_word (sound_width (b.store.values p).width) w) else b.store))
      go true = write_ran a b p _ _ i h cut
      go false = ran_same n hides a b h

  -- a header that is there has no empty path
  not_empty : (a : Run) (h : List (List ℕ)) (v : Bool) → a.store.headers [] ≡ None → a.store.headers h ≡ Some v → same_path h [] ≡ false
  not_empty a h v none some = go (same_path h []) refl
    where
      go : (t : Bool) → same_path h [] ≡ t → same_path h [] ≡ false
      go true e = absurd (cc (sym some ∙ ap a.store.headers ((path_decides h []).0 e) ∙ none))
      go false e = e

  valid_ran : (a b : Run) (h : List (List ℕ)) (t : Bool) → same_path h [] ≡ false → Alike hides a b → Ran n hides b (in_store a (set_valid a.store h t)) (in_store b (set_valid b.store h t))
  valid_ran a b h t e s =
      record {
        alike = record { values = λ q i. s.values q i; headers = ap (λ g q. cond (same_path h q) (Some t) (g q)) s.headers; plain = ap (λ u. cond u (Some t) (a.store.headers [])) e ∙ s.plain; cells = s.cells; digests = s.digests };
        stays = record { left = refl; returned = refl };
      }

  zeroed_ran : (a b : Run) (h : List (List ℕ)) → same_path h [] ≡ false → Alike hides a b → Ran n hides b (in_store a (zeroed a.store h)) (in_store b (zeroed b.store h))
  zeroed_ran a b h e s =
      record {
        alike = record { values = λ q i. ap (λ w. cond (same_path h (parent q)) (zero_of w) w) (s.values q i); headers = s.headers; plain = s.plain; cells = s.cells; digests = s.digests };
        stays = record {
          left = ap (λ t. cond t (zero_of (b.store.values (n.left ∷ []))) (b.store.values (n.left ∷ []))) e;
          returned = ap (λ t. cond t (zero_of (b.store.values (n.returned ∷ []))) (b.store.values (n.returned ∷ []))) e;
        };
      }

  made_ran : (v : Option Bool) (a b : Run) (h : List (List ℕ)) (t : Bool) → a.store.headers h ≡ v → Alike hides a b → Ran n hides b (in_store a (made v t a.store h)) (in_store b (made v t b.store h))
  made_ran None a b h t e s = ran_same n hides a b s
  made_ran (Some true) a b h true e s = ran_same n hides a b s
  made_ran (Some true) a b h false e s = valid_ran a b h false (not_empty a h true s.plain e) s
  made_ran (Some false) a b h true e s =
      let k = not_empty a h false s.plain e in
      let one = zeroed_ran a b h k s in
      let two = valid_ran (in_store a (zeroed a.store h)) (in_store b (zeroed b.store h)) h true k one.alike in
      record { alike = two.alike; stays = stays_then n b (in_store b (zeroed b.store h)) (in_store b (set_valid (zeroed b.store h) h true)) one.stays two.stays }
  made_ran (Some false) a b h false e s = ran_same n hides a b s

  verified_ran : (es : List Expr) (p : List (List ℕ)) (a b : Run) → AllByRecursion (IsFreeExpr hides) es → hides p ≡ false → Alike hides a b → Ran n hides b (in_store a (verified es p a.store)) (in_store b (verified es p b.store))
  verified_ran es p a b o i s =
      subst (λ t. Ran n hides b (in_store a (verified es p a.store)) (in_store b (if t then b.store else set_value b.store checksum_error (word 1 1)))) (sym same) (go (nat_eq (value_of (path 0 p) 16 a.store).value (list_checksum es a.store)))
    where
      same : nat_eq (value_of (path 0 p) 16 b.store).value (list_checksum es b.store) ≡ nat_eq (value_of (path 0 p) 16 a.store).value (list_checksum es a.store)
      same = ap₂ (λ (v : Word) (c : ℕ). nat_eq v.value c) (read_alike hides a b s p i) (sum_alike hides a b s es o)

      go : (t : Bool) → Ran n hides b (in_store a (if t then a.store else set_value a.store checksum_error (word 1 1))) (in_store b (if t then b.store else set_value b.store checksum_error (word 1 1)))
      go true = ran_same n hides a b s
      go false = set_ran a b checksum_error (word 1 1) (word 1 1) (f.long _ _ _) s refl

  updated_ran : (es : List Expr) (p : List (List ℕ)) (a b : Run) → AllByRecursion (IsFreeExpr hides) es → hides p ≡ false → Alike hides a b → Ran n hides b (in_store a (updated es p a.store)) (in_store b (updated es p b.store))
  updated_ran es p a b o i s = assigned_ran a b p _ _ i s (ap (word 16) (sum_alike hides a b s es o))

  summed_ran : (v : Bool) (es : List Expr) (p : List (List ℕ)) (a b : Run) → AllByRecursion (IsFreeExpr hides) es → hides p ≡ false → Alike hides a b → Ran n hides b (in_store a (summed v es p a.store)) (in_store b (summed v es p b.store))
  summed_ran true es p a b o i s = verified_ran es p a b o i s
  summed_ran false es p a b o i s = updated_ran es p a b o i s

  sums_ran : (v : Bool) (c : Expr) (es : List Expr) (p : List (List ℕ)) (a b : Run) → IsFreeExpr hides c → AllByRecursion (IsFreeExpr hides) es → hides p ≡ false → Alike hides a b → Ran n hides b (if holds (value_of c 1 a.store) then in_store a (summed v es p a.store) else a) (if holds (value_of c 1 b.store) then in_store b (summed v es p b.store) else b)
  sums_ran v c es p a b k o i s =
      subst (λ w. Ran n hides b (if holds (value_of c 1 a.store) then in_store a (summed v es p a.store) else a) (if holds w then in_store b (summed v es p b.store) else b)) (sym (value_alike hides a b s c 1 k)) (go (holds (value_of c 1 a.store)))
    where
      go : (t : Bool) → Ran n hides b (if t then in_store a (summed v es p a.store) else a) (if t then in_store b (summed v es p b.store) else b)
      go true = summed_ran v es p a b o i s
      go false = ran_same n hides a b s

  pub cells_ran : (x : List ℕ) (i v : Expr) (a b : Run) → IsFreeExpr hides i → IsFreeExpr hides v → Alike hides a b → Ran n hides b
      (record a { cells = put_cells a.cells x (cell_set (a.cells x) (index_of i a.store) (value_of v (cell_at (a.cells x) (index_of i a.store)).width a.store)) })
      (record b { cells = put_cells b.cells x (cell_set (b.cells x) (index_of i b.store) (value_of v (cell_at (b.cells x) (index_of i b.store)).width b.store)) })
  cells_ran x i v a b oi ov s =
      let old = ap (λ g. g x) s.cells in
      let at = index_alike hides a b s i oi in
      let m = (cell_at (a.cells x) (index_of i a.store)).width in
      let k = (cell_at (b.cells x) (index_of i b.store)).width in
      let width = ap₂ (λ (cells : List Word) (j : ℕ). (cell_at cells j).width) old at in
      let new = ap (λ j. value_of v j b.store) width ∙ value_alike hides a b s v m ov in
      let moved = ap₂ (λ (cells : List Word) (j : ℕ). cell_set cells j (value_of v k b.store)) old at in
      let all : cell_set (b.cells x) (index_of i b.store) (value_of v k b.store) ≡ cell_set (a.cells x) (index_of i a.store) (value_of v m a.store) = moved ∙ ap (cell_set (a.cells x) (index_of i a.store)) new in
      record {
        alike = record { values = λ q j. s.values q j; headers = s.headers; plain = s.plain; cells = ap₂ (λ g l. put_cells g x l) s.cells all; digests = s.digests };
        stays = record { left = refl; returned = refl };
      }

  pub tells_ran : (r : ℕ) (es : List Expr) (a b : Run) → AllByRecursion (IsFreeExpr hides) es → Alike hides a b → Ran n hides b
      (record a { digests = a.digests ++ record { receiver = r; values = take 9 (map (λ e. value_of e 0 a.store) es) } ∷ [] })
      (record b { digests = b.digests ++ record { receiver = r; values = take 9 (map (λ e. value_of e 0 b.store) es) } ∷ [] })
  tells_ran r es a b o s =
      record {
        alike = record { values = λ q j. s.values q j; headers = s.headers; plain = s.plain; cells = s.cells; digests = ap₂ (λ (ds : List Digest) (ws : List Word). ds ++ record { receiver = r; values = take 9 ws } ∷ []) s.digests (values_alike hides a b s es o) };
        stays = record { left = refl; returned = refl };
      }

  pub makes_ran : (h : List (List ℕ)) (t : Bool) (a b : Run) → Alike hides a b → Ran n hides b (in_store a (made (a.store.headers h) t a.store h)) (in_store b (made (b.store.headers h) t b.store h))
  makes_ran h t a b s =
      subst (λ v. Ran n hides b (in_store a (made (a.store.headers h) t a.store h)) (in_store b (made v t b.store h))) (sym (ap (λ g. g h) s.headers)) (made_ran (a.store.headers h) a b h t refl s)

  pub drops_ran : (a b : Run) → Alike hides a b → Ran n hides b (in_store a (write a.store egress_spec (word 9 511))) (in_store b (write b.store egress_spec (word 9 511)))
  drops_ran a b s = write_ran a b egress_spec (word 9 511) (word 9 511) (f.long _ _ _) s refl

  pub reads_ran : (x : List ℕ) (t : List (List ℕ)) (i : Expr) (a b : Run) → hides t ≡ false → IsFreeExpr hides i → Alike hides a b → Ran n hides b (in_store a (assigned a.store t (cell_at (a.cells x) (index_of i a.store)))) (in_store b (assigned b.store t (cell_at (b.cells x) (index_of i b.store))))
  reads_ran x t i a b ot oi s = assigned_ran a b t _ _ ot s (ap₂ cell_at (ap (λ g. g x) s.cells) (index_alike hides a b s i oi))

  pub sum_ran : (v : Bool) (c : Expr) (es : List Expr) (p : List (List ℕ)) (a b : Run) → IsFreeExpr hides c × AllByRecursion (IsFreeExpr hides) es × (hides p ≡ false) → Alike hides a b → Ran n hides b (if holds (value_of c 1 a.store) then in_store a (summed v es p a.store) else a) (if holds (value_of c 1 b.store) then in_store b (summed v es p b.store) else b)
  sum_ran v c es p a b o s = sums_ran v c es p a b o.0 o.1 o.2 s
