-- What the flat form of a push does. The value is written to the last place m, which is unused, and moves to the place k
-- whose number the count is; then the last place is emptied, and the count grows.
use Rattle.std.proofs.Common.{◌≡◌, ◌⊎◌, inl, inr, ⊎_elim, ℕ, zero, suc, ◌+◌, ◌<◌, ◌≤◌, ◌^◌, List, [], ◌∷◌, ◌++◌, length, Bool, true, false, cond, Option, Some, None, refl, sym, ap, ap₂, ◌∙◌, arith, subst, nat_eq, nat_lt, slice_get, length-append}
use Rattle.std.proofs.lemmas.Bool.{cases_lt, cases_eq, lt-ltb, le-ltb, ltb-true}
use Rattle.std.proofs.lemmas.Bool.Decides.{Decides-eqb}
use Rattle.std.proofs.lemmas.Option.{slice_get_past}
use Rattle.bit_values.specs.Bits.{Word, word}
use Rattle.bit_values.specs.Widths.{bit, holds, sound_width, cast_word}
use Rattle.lex_text.specs.Names.{same_text}
use Rattle.network_run.specs.PathMeaning.{Doing}
use Rattle.indus_tree.specs.Tree.{Shape, one, list, set, dict, Decl, Expr, read, binary, Stmt, Stmts, assign, choice, done, block_from}
use Rattle.indus_tree.specs.State.{Hop, Held, lookup, width_of, nothing_of, put}
use Rattle.indus_tree.specs.Reads.{or_word}
use Rattle.indus_tree.specs.Value.{value_of}
use Rattle.indus_tree.specs.Meaning.{stmt_run, block_run}
use Rattle.indus_tree.specs.declared.tree.Op.TheVariants.{Add, Less, Equal}
use Rattle.indus_tree.specs.declared.tree.Ty.{Ty}
use Rattle.indus_tree.specs.declared.tree.Ty.TheVariants as ty
use Rattle.lower_lists.specs.Names.{item_name, count_name}
use Rattle.lower_lists.specs.Flat.{byte, nothing, move, moves, clear, count_more, pushed, push_to, only}
use Rattle.flat_laws.specs.Numbered.{scalar_decl, numbered, numbered_hop, HoldsList}
use Rattle.flat_laws.proofs.NameLemmas.{slot, slots_apart, places_apart}
use Rattle.flat_laws.proofs.Writes.{sees, set_to, put_same, put_other, still_one, run-append, holds-bit, name_is, assign_is, equal_is, less_is, sum_is, nothing_is}

unequal_at : (a b : ℕ) (t : Bool) → nat_eq a b ≡ t → (a ≡ b → ⊥) → t ≡ false
unequal_at a b true e h = absurd (h ((Decides-eqb a b).0 e))
unequal_at a b false e h = refl

pub unequal : (a b : ℕ) → (a ≡ b → ⊥) → nat_eq a b ≡ false
unequal a b h = unequal_at a b (nat_eq a b) refl h

pub equal_self : (a : ℕ) → nat_eq a a ≡ true
equal_self a = (Decides-eqb a a).1 refl

-- ---- the word at a place of a list

abbrev pub word_at : (empty : Word) → List Word → ℕ → Word
word_at z ws i = or_word (slice_get ws i) z

word_here : (z : Word) (ws : List Word) (w : Word) → word_at z (ws ++ w ∷ []) (length ws) ≡ w
word_here z [] w = refl
word_here z (x ∷ ws) w = word_here z ws w

word_past : (z : Word) (ws : List Word) (i : ℕ) → length ws ≤ i → word_at z ws i ≡ z
word_past z ws i le = ap (λ o. or_word o z) (slice_get_past ws i le)

word_other : (z : Word) (ws : List Word) (w : Word) (i : ℕ) → (i ≡ length ws → ⊥) → word_at z (ws ++ w ∷ []) i ≡ word_at z ws i
word_other z [] w zero ne = absurd (ne refl)
word_other z [] w (suc i) ne = refl
word_other z (x ∷ ws) w zero ne = refl
word_other z (x ∷ ws) w (suc i) ne = word_other z ws w i (λ h. ne (omega arith))

none_some : (i : ℕ) → (let a : Option ℕ = None in a ≡ Some i) → ⊥
none_some i e = cc e

some_none : (i : ℕ) → (let a : Option ℕ = None in Some i ≡ a) → ⊥
some_none i e = cc e

some_inj : (i j : ℕ) → (i ≡ j → ⊥) → (let a : Option ℕ = Some i in a ≡ Some j) → ⊥
some_inj i j ne e = ne (cc e)

-- ---- one list: its variable v, the type of its items, and its last place m

module _ (h : Hop) (a v : ℕ) (t : Ty) (m : ℕ) (lv : v < 2 ^ 32) (lm : m < 255)
    (counted : lookup (numbered h.decls) (count_name v) ≡ Some (scalar_decl a (count_name v) (ty.Bit 8)))
    (placed : (i : ℕ) → i < suc m → lookup (numbered h.decls) (item_name v i) ≡ Some (scalar_decl a (item_name v i) t)) where
  abbrev run : List Stmt → Doing Held Held → Doing Held Held
  run ss f = block_run (numbered_hop h) [] (block_from ss) f

  -- each scalar of the list holds one word
  record AreOnes (f : Held) : Type 0 where
    count : length (f (count_name v)) ≡ 1
    items : (i : ℕ) → i < suc m → length (f (item_name v i)) ≡ 1

  ones_still : (f : Held) (q : List ℕ) (w : Word) → AreOnes f → AreOnes (put f q (w ∷ []))
  ones_still f q w o = record { count = still_one f q w (count_name v) o.count; items = λ i lt. still_one f q w (item_name v i) (o.items i lt) }

  item_not_count : (i : ℕ) → i < suc m → same_text (item_name v i) (count_name v) ≡ false
  item_not_count i lt = places_apart v (Some i) None lv (omega arith) tt (some_none i)

  count_not_item : (i : ℕ) → i < suc m → same_text (count_name v) (item_name v i) ≡ false
  count_not_item i lt = places_apart v None (Some i) lv tt (omega arith) (none_some i)

  items_apart : (i j : ℕ) → i < suc m → j < suc m → (i ≡ j → ⊥) → same_text (item_name v i) (item_name v j) ≡ false
  items_apart i j li lj ne = places_apart v (Some i) (Some j) lv (omega arith) (omega arith) (some_inj i j ne)

  -- what a test of the count does
  tested : (p k i : ℕ) (f : Doing Held Held) → f.tele (count_name v) ≡ word 8 k ∷ [] → k < 256 → i < 256 → (x y : Doing Held Held)
      → cond (holds (value_of (sees h f) (binary p Equal (read p (count_name v)) (byte p i)) 1)) x y ≡ cond (nat_eq k i) x y
  tested p k i f c lk li x y =
      ap (λ (w : Word). cond (holds w) x y) (equal_is (sees h f) p (count_name v) k (name_is h a (count_name v) (ty.Bit 8) counted f (word 8 k) c) lk i li)
      ∙ ap (λ b. cond b x y) (holds-bit (nat_eq k i))

  pub tested_less : (p k i : ℕ) (f : Doing Held Held) → f.tele (count_name v) ≡ word 8 k ∷ [] → k < 256 → i < 256 → (x y : Doing Held Held)
      → cond (holds (value_of (sees h f) (binary p Less (read p (count_name v)) (byte p i)) 1)) x y ≡ cond (nat_lt k i) x y
  tested_less p k i f c lk li x y =
      ap (λ (w : Word). cond (holds w) x y) (less_is (sees h f) p (count_name v) k (name_is h a (count_name v) (ty.Bit 8) counted f (word 8 k) c) lk i li)
      ∙ ap (λ b. cond b x y) (holds-bit (nat_lt k i))

  -- ---- the moves

  module _ (p k : ℕ) (lk : k ≤ m) (w : Word) (fits : cast_word (sound_width (width_of t)) w ≡ w) where
    copied : (f : Doing Held Held) (j : ℕ) → j < suc m → AreOnes f.tele → f.tele (item_name v m) ≡ w ∷ []
        → stmt_run (numbered_hop h) [] (assign p (item_name v j) (read p (item_name v m))) f ≡ set_to f (item_name v j) w
    copied f j lj o last =
        assign_is h a (item_name v j) t (placed j lj) f p (read p (item_name v m)) (o.items j lj)
        ∙ ap (λ (x : Word). set_to f (item_name v j) (cast_word (sound_width (width_of t)) x)) (name_is h a (item_name v m) t (placed m (omega arith)) f w last)
        ∙ ap (set_to f (item_name v j)) fits

    stays : (f : Doing Held Held) (j : ℕ) → j < suc m → f.tele (count_name v) ≡ word 8 k ∷ [] → (k ≡ j → ⊥) → stmt_run (numbered_hop h) [] (move p v m j) f ≡ f
    stays f j lj c ne =
        let x : Doing Held Held = stmt_run (numbered_hop h) [] (assign p (item_name v j) (read p (item_name v m))) f in
        tested p k j f c (omega arith) (omega arith) x f ∙ ap (λ b. cond b x f) (unequal k j ne)

    goes : (f : Doing Held Held) → AreOnes f.tele → f.tele (count_name v) ≡ word 8 k ∷ [] → f.tele (item_name v m) ≡ w ∷ [] → stmt_run (numbered_hop h) [] (move p v m k) f ≡ set_to f (item_name v k) w
    goes f o c last =
        let x : Doing Held Held = stmt_run (numbered_hop h) [] (assign p (item_name v k) (read p (item_name v m))) f in
        tested p k k f c (omega arith) (omega arith) x f ∙ ap (λ b. cond b x f) (equal_self k) ∙ copied f k (omega arith) o last

    module _ (f : Doing Held Held) (o : AreOnes f.tele) (c : f.tele (count_name v) ≡ word 8 k ∷ []) (last : f.tele (item_name v m) ≡ w ∷ []) where
      abbrev hit : Doing Held Held
      hit = set_to f (item_name v k) w

      count_still : hit.tele (count_name v) ≡ word 8 k ∷ []
      count_still = put_other f.tele (item_name v k) (w ∷ []) (count_name v) (item_not_count k (omega arith)) ∙ c

      moves_run : (j : ℕ) → j ≤ m → run (moves p v m j) f ≡ cond (nat_lt k j) hit f
      moves_run zero lj = sym (ap (λ b. cond b hit f) (le-ltb k 0 (omega arith)))
      moves_run (suc j) lj =
          run-append (numbered_hop h) (moves p v m j) (move p v m j ∷ []) f
          ∙ ap (stmt_run (numbered_hop h) [] (move p v m j)) (moves_run j (omega arith))
          ∙ ⊎_elim
          (λ (lt : k < j).
          ap (λ b. stmt_run (numbered_hop h) [] (move p v m j) (cond b hit f)) (lt-ltb k j lt)
          ∙ stays hit j (omega arith) count_still (λ e. omega arith)
          ∙ sym (ap (λ b. cond b hit f) (lt-ltb k (suc j) (omega arith))))
          (λ (ge : j ≤ k).
          ap (λ b. stmt_run (numbered_hop h) [] (move p v m j) (cond b hit f)) (le-ltb k j ge)
          ∙ ⊎_elim
          (λ (e : k ≡ j).
          subst (λ i. stmt_run (numbered_hop h) [] (move p v m i) f ≡ cond (nat_lt k (suc i)) hit f) e
          (goes f o c last ∙ sym (ap (λ b. cond b hit f) (lt-ltb k (suc k) (omega arith)))))
          (λ (ne : k ≡ j → ⊥). stays f j (omega arith) c ne ∙ sym (ap (λ b. cond b hit f) (le-ltb k (suc j) (omega arith))))
          (cases_eq k j))
          (cases_lt k j)

  -- ---- the last place and the count

  emptied : (p : ℕ) (g : Doing Held Held) → AreOnes g.tele → stmt_run (numbered_hop h) [] (assign p (item_name v m) (nothing p t)) g ≡ set_to g (item_name v m) (nothing_of (width_of t))
  emptied p g o =
      assign_is h a (item_name v m) t (placed m (omega arith)) g p (nothing p t) (o.items m (omega arith))
      ∙ ap (set_to g (item_name v m)) (nothing_is (sees h g) p t)

  cleared : (p k : ℕ) (g : Doing Held Held) → k < 256 → AreOnes g.tele → g.tele (count_name v) ≡ word 8 k ∷ [] → stmt_run (numbered_hop h) [] (clear p v m t) g ≡ cond (nat_lt k m) (set_to g (item_name v m) (nothing_of (width_of t))) g
  cleared p k g lk o c =
      let x : Doing Held Held = stmt_run (numbered_hop h) [] (assign p (item_name v m) (nothing p t)) g in
      tested_less p k m g c lk (omega arith) x g ∙ ap (λ (y : Doing Held Held). cond (nat_lt k m) y g) (emptied p g o)

  one_more : (p k : ℕ) (g : Doing Held Held) → k < 255 → AreOnes g.tele → g.tele (count_name v) ≡ word 8 k ∷ [] → stmt_run (numbered_hop h) [] (count_more p v) g ≡ set_to g (count_name v) (word 8 (k + 1))
  one_more p k g lk o c =
      assign_is h a (count_name v) (ty.Bit 8) counted g p (binary p Add (read p (count_name v)) (byte p 1)) o.count
      ∙ ap (set_to g (count_name v)) (sum_is (sees h g) p (count_name v) k (name_is h a (count_name v) (ty.Bit 8) counted g (word 8 k) c) lk)

  -- ---- a push where there is room

  -- what a push onto the list does: the list's scalars hold one word more, and those of other variables what they held
  pub record IsPushed (ws : List Word) (f g : Doing Held Held) : Type 0 where
    pub held : HoldsList v t (suc m) ws g.tele
    pub others : (u : ℕ) (b : Option ℕ) → u < 2 ^ 32 → (v ≡ u → ⊥) → g.tele (slot u b) ≡ f.tele (slot u b)
    pub sensors : g.sensors ≡ f.sensors
    pub rejected : g.rejected ≡ f.rejected
    pub reports : g.reports ≡ f.reports

  module _ (p : ℕ) (ws : List Word) (w : Word) (fits : cast_word (sound_width (width_of t)) w ≡ w) (room : length ws ≤ m) (f : Doing Held Held) (held : HoldsList v t (suc m) ws f.tele) where
    abbrev k : ℕ
    k = length ws

    abbrev z : Word
    z = nothing_of (width_of t)

    ones : AreOnes f.tele
    ones = record { count = ap length held.count; items = λ i lt. ap length (held.items i lt) }

    abbrev filled : Doing Held Held
    filled = set_to f (item_name v m) w

    abbrev moved : Doing Held Held
    moved = set_to filled (item_name v k) w

    abbrev tidy : Doing Held Held
    tidy = set_to moved (item_name v m) z

    filled_count : filled.tele (count_name v) ≡ word 8 k ∷ []
    filled_count = put_other f.tele (item_name v m) (w ∷ []) (count_name v) (item_not_count m (omega arith)) ∙ held.count

    filled_last : filled.tele (item_name v m) ≡ w ∷ []
    filled_last = put_same f.tele (item_name v m) (w ∷ [])

    filled_ones : AreOnes filled.tele
    filled_ones = ones_still f.tele (item_name v m) w ones

    moved_count : moved.tele (count_name v) ≡ word 8 k ∷ []
    moved_count = put_other filled.tele (item_name v k) (w ∷ []) (count_name v) (item_not_count k (omega arith)) ∙ filled_count

    moved_ones : AreOnes moved.tele
    moved_ones = ones_still filled.tele (item_name v k) w filled_ones

    tidy_count : tidy.tele (count_name v) ≡ word 8 k ∷ []
    tidy_count = put_other moved.tele (item_name v m) (z ∷ []) (count_name v) (item_not_count m (omega arith)) ∙ moved_count

    tidy_ones : AreOnes tidy.tele
    tidy_ones = ones_still moved.tele (item_name v m) z moved_ones

    abbrev counted_up : Doing Held Held → Doing Held Held
    counted_up g = set_to g (count_name v) (word 8 (k + 1))

    more_items : word 8 (k + 1) ≡ word 8 (length (ws ++ w ∷ []))
    more_items = ap (word 8) (sym (length-append ws (w ∷ [])))

    other_slots : (g : Held) (i : ℕ) (x : Word) (u : ℕ) (b : Option ℕ) → u < 2 ^ 32 → (v ≡ u → ⊥) → put g (item_name v i) (x ∷ []) (slot u b) ≡ g (slot u b)
    other_slots g i x u b lu ne = put_other g (item_name v i) (x ∷ []) (slot u b) (slots_apart v u (Some i) b lv lu ne)

    other_count : (g : Held) (x : Word) (u : ℕ) (b : Option ℕ) → u < 2 ^ 32 → (v ≡ u → ⊥) → put g (count_name v) (x ∷ []) (slot u b) ≡ g (slot u b)
    other_count g x u b lu ne = put_other g (count_name v) (x ∷ []) (slot u b) (slots_apart v u None b lv lu ne)

    -- the list had room behind the new item
    below : k < m → IsPushed (ws ++ w ∷ []) f (counted_up tidy)
    below lt =
        record {
          held = record {
            count = put_same tidy.tele (count_name v) (word 8 (k + 1) ∷ []) ∙ ap (λ (x : Word). x ∷ []) more_items;
            items = λ i li.
                put_other tidy.tele (count_name v) (word 8 (k + 1) ∷ []) (item_name v i) (count_not_item i li)
                ∙ ⊎_elim
                (λ (e : i ≡ m).
                ap (λ j. tidy.tele (item_name v j)) e
                ∙ put_same moved.tele (item_name v m) (z ∷ [])
                ∙ ap (λ (x : Word). x ∷ []) (sym (word_other z ws w i (λ q. omega arith) ∙ word_past z ws i (omega arith))))
                (λ (ne : i ≡ m → ⊥).
                put_other moved.tele (item_name v m) (z ∷ []) (item_name v i) (items_apart m i (omega arith) li (λ q. ne (sym q)))
                ∙ ⊎_elim
                (λ (e : i ≡ k).
                ap (λ j. moved.tele (item_name v j)) e
                ∙ put_same filled.tele (item_name v k) (w ∷ [])
                ∙ ap (λ (x : Word). x ∷ []) (sym (ap (word_at z (ws ++ w ∷ [])) e ∙ word_here z ws w)))
                (λ (away : i ≡ k → ⊥).
                put_other filled.tele (item_name v k) (w ∷ []) (item_name v i) (items_apart k i (omega arith) li (λ q. away (sym q)))
                ∙ put_other f.tele (item_name v m) (w ∷ []) (item_name v i) (items_apart m i (omega arith) li (λ q. ne (sym q)))
                ∙ held.items i li
                ∙ ap (λ (x : Word). x ∷ []) (sym (word_other z ws w i away)))
                (cases_eq i k))
                (cases_eq i m);
          };
          others = λ u b lu ne.
              other_count tidy.tele (word 8 (k + 1)) u b lu ne
              ∙ other_slots moved.tele m z u b lu ne
              ∙ other_slots filled.tele k w u b lu ne
              ∙ other_slots f.tele m w u b lu ne;
          sensors = refl;
          rejected = refl;
          reports = refl;
        }

    -- the new item is at the last place
    at_end : k ≡ m → IsPushed (ws ++ w ∷ []) f (counted_up filled)
    at_end full =
        record {
          held = record {
            count = put_same filled.tele (count_name v) (word 8 (k + 1) ∷ []) ∙ ap (λ (x : Word). x ∷ []) more_items;
            items = λ i li.
                put_other filled.tele (count_name v) (word 8 (k + 1) ∷ []) (item_name v i) (count_not_item i li)
                ∙ ⊎_elim
                (λ (e : i ≡ m).
                ap (λ j. filled.tele (item_name v j)) e
                ∙ filled_last
                ∙ ap (λ (x : Word). x ∷ []) (sym (ap (word_at z (ws ++ w ∷ [])) (e ∙ sym full) ∙ word_here z ws w)))
                (λ (ne : i ≡ m → ⊥).
                put_other f.tele (item_name v m) (w ∷ []) (item_name v i) (items_apart m i (omega arith) li (λ q. ne (sym q)))
                ∙ held.items i li
                ∙ ap (λ (x : Word). x ∷ []) (sym (word_other z ws w i (λ q. ne (q ∙ full)))))
                (cases_eq i m);
          };
          others = λ u b lu ne. other_count filled.tele (word 8 (k + 1)) u b lu ne ∙ other_slots f.tele m w u b lu ne;
          sensors = refl;
          rejected = refl;
          reports = refl;
        }

    abbrev ends : List Stmt
    ends = clear p v m t ∷ count_more p v ∷ []

    -- the two statements behind the moves
    ends_run : (b : Bool) (g y : Doing Held Held) → nat_lt k m ≡ b → AreOnes g.tele → g.tele (count_name v) ≡ word 8 k ∷ [] → cond b (set_to g (item_name v m) z) g ≡ y → AreOnes y.tele → y.tele (count_name v) ≡ word 8 k ∷ [] → run ends g ≡ counted_up y
    ends_run b g y e o c is oy cy =
        ap (stmt_run (numbered_hop h) [] (count_more p v)) (cleared p k g (omega arith) o c ∙ ap (λ (d : Bool). cond d (set_to g (item_name v m) z) g) e ∙ is)
        ∙ one_more p k y (omega arith) oy cy

    pub pushed_run : (e : Expr) → cast_word (sound_width (width_of t)) (value_of (sees h f) e (width_of t)) ≡ w → IsPushed (ws ++ w ∷ []) f (run (pushed p e v m t) f)
    pushed_run e is =
        let whole : run (pushed p e v m t) f ≡ run ends (run (moves p v m m) filled) =
        run-append (numbered_hop h) (assign p (item_name v m) e ∷ moves p v m m) ends f
        ∙ ap (λ (g : Doing Held Held). run ends (run (moves p v m m) g)) (assign_is h a (item_name v m) t (placed m (omega arith)) f p e (ones.items m (omega arith)) ∙ ap (set_to f (item_name v m)) is) in
        let middle : run (moves p v m m) filled ≡ cond (nat_lt k m) moved filled = moves_run p k room w fits filled filled_ones filled_count filled_last m (omega arith) in
        ⊎_elim
        (λ (lt : k < m).
        let go : run (pushed p e v m t) f ≡ counted_up tidy =
        whole ∙ ap (run ends) (middle ∙ ap (λ b. cond b moved filled) (lt-ltb k m lt))
        ∙ ends_run true moved tidy (lt-ltb k m lt) moved_ones moved_count refl tidy_ones tidy_count in
        subst (λ (g : Doing Held Held). IsPushed (ws ++ w ∷ []) f g) (sym go) (below lt))
        (λ (ge : m ≤ k).
        let go : run (pushed p e v m t) f ≡ counted_up filled =
        whole ∙ ap (run ends) (middle ∙ ap (λ b. cond b moved filled) (le-ltb k m ge))
        ∙ ends_run false filled filled (le-ltb k m ge) filled_ones filled_count refl filled_ones filled_count in
        subst (λ (g : Doing Held Held). IsPushed (ws ++ w ∷ []) f g) (sym go) (at_end (omega arith)))
        (cases_lt k m)
