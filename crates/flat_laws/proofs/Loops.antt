-- The turns of a flat loop: the k-th copy does what the k-th turn does, where there is one, and else nothing.
use Rattle.std.proofs.Common.{◌≡◌, ◌⊎◌, inl, inr, ⊎_elim, ℕ, zero, suc, ◌+◌, ◌<◌, ◌≤◌, ◌^◌, List, [], ◌∷◌, ◌++◌, length, map, min, Bool, true, false, ◌&&◌, ◌||◌, cond, Option, Some, None, refl, sym, ap, ap₂, ◌∙◌, arith, subst, nat_lt}
use Rattle.std.proofs.lemmas.Bool.{cases_lt, lt-ltb, le-ltb}
use Rattle.bit_values.specs.Bits.{Word, word}
use Rattle.bit_values.specs.Widths.{bit, holds}
use Rattle.network_run.specs.PathMeaning.{Doing}
use Rattle.indus_tree.specs.Tree.{Shape, one, list, set, dict, Decl, Stmt, Stmts, choice, done, block_from}
use Rattle.indus_tree.specs.State.{Hop, Held, lookup, shape_size}
use Rattle.indus_tree.specs.Reads.{Items, Seen, name_word}
use Rattle.indus_tree.specs.Value.{value_of}
use Rattle.indus_tree.specs.Meaning.{seen_by, shortest, turn_items, first_turns, turns_of, named, run_turns, stmt_run, block_run}
use Rattle.indus_tree.specs.Shapes.{AreShaped, IsHeld, IsTeleCount}
use Rattle.indus_tree.proofs.ShapesLemmas.{block_keeps}
use Rattle.indus_scopes.specs.Scopes.{Around, Sight, role_of}
use Rattle.indus_scopes.specs.Items.{among, repeats}
use Rattle.lex_text.specs.Names.{same_text}
use Rattle.std.proofs.lemmas.Slice.Eq.{bytes_eq-Decides}
use Rattle.lower_lists.specs.Names.{count_name}
use Rattle.indus_types.specs.Sums.{smallest, size_of, size_in}
use Rattle.indus_rules.specs.Rules.{walked}
use Rattle.lower_lists.specs.declared.place.Bound.{Bound}
use Rattle.lower_lists.specs.Flat.{list_number, all_have, distinct, bound_to, turns, flat_block}
use Rattle.flat_laws.specs.Numbered.{numbered_hop, Numbers}
use Rattle.flat_laws.proofs.NameLemmas.{same_self}
use Rattle.flat_laws.proofs.Writes.{sees, run-append, holds-bit}
use Rattle.flat_laws.proofs.Suits.{AreLists, BlockSuits}
use Rattle.flat_laws.proofs.Roles.{IsList, counted}
use Rattle.flat_laws.proofs.Values.{IsReady, Stands, count_is, held_list}
use Rattle.flat_laws.proofs.Guards.{all, Each, Counts, all_have_is, below_both}
use Rattle.flat_laws.proofs.Items.{number_of, stands_still, AreAt, stands_inside}
use Rattle.flat_laws.proofs.Keeps.{turns_leave, block_leaves}

pub turns-snoc : (turn : List Word → Doing Held Held → Doing Held Held) (rows : List (List Word)) (row : List Word) (d : Doing Held Held) → run_turns turn (rows ++ row ∷ []) d ≡ turn row (run_turns turn rows d)
turns-snoc turn [] row d = refl
turns-snoc turn (ws ∷ rows) row d = turns-snoc turn rows row (turn ws d)

turns_shaped : (ds : List Decl) (turn : List Word → Doing Held Held → Doing Held Held) → ((ws : List Word) (d : Doing Held Held) → AreShaped ds d → AreShaped ds (turn ws d)) → (rows : List (List Word)) (d : Doing Held Held) → AreShaped ds d → AreShaped ds (run_turns turn rows d)
turns_shaped ds turn keeps [] d h = h
turns_shaped ds turn keeps (ws ∷ rows) d h = turns_shaped ds turn keeps rows (turn ws d) (keeps ws d h)

-- no item is in sight outside loops
pub no_stands : (ds : List Decl) (tele : Held) → Stands ds [] [] [] tele
no_stands ds tele = record { at = λ x. tt }

-- ---- lists of a loop

-- each is a list, and a loop walks it
abbrev pub AreWalked : List Decl → List Around → List (List ℕ) → Type 0
AreWalked ds ls [] = Unit {0}
AreWalked ds ls (l ∷ rest) = IsList ds l × (walked ls l ≡ true) × AreWalked ds ls rest

or_true : (a b : Bool) → b ≡ true → (a || b) ≡ true
or_true true b e = refl
or_true false b e = e

true_or : (a b : Bool) → a ≡ true → (a || b) ≡ true
true_or true b e = refl
true_or false b e = absurd (let c : false ≡ true = e in cc)

-- a loop walks its own lists
pub own_walked : (g : Sight) (ns front lists : List (List ℕ)) → AreLists g lists → ((l : List ℕ) → among lists l ≡ true → among front l ≡ true)
    → (let a : Around = record { names = ns; lists = front } in AreWalked g.decls (a ∷ g.loops) lists)
own_walked g ns front [] a within = tt
own_walked g ns front (l ∷ lists) a within = (
  counted g l a.0 a.1,
  true_or (among front l) (walked g.loops l) (within l (true_or (same_text l l) (among lists l) (same_self l))),
  own_walked g ns front lists a.2 (λ q m. within q (or_true (same_text l q) (among lists q) m)),
)

same_lists : (ds : List Decl) (ls : List Around) (f h : Held) (lists : List (List ℕ)) → AreWalked ds ls lists → ((l : List ℕ) → IsList ds l → walked ls l ≡ true → h l ≡ f l) → map h lists ≡ map f lists
same_lists ds ls f h [] a same = refl
same_lists ds ls f h (l ∷ lists) a same = ap₂ (λ (x : List Word) (xs : List (List Word)). x ∷ xs) (same l a.0 a.1) (same_lists ds ls f h lists a.2 same)

shortest_first : (k : ℕ) (ws : List Word) (more : List (List Word)) → k < shortest (ws ∷ more) → k < length ws
shortest_first k ws [] lt = lt
shortest_first k ws (m ∷ more) lt = omega arith

shortest_rest : (k : ℕ) (ws m : List Word) (more : List (List Word)) → k < shortest (ws ∷ m ∷ more) → k < shortest (m ∷ more)
shortest_rest k ws m more lt = omega arith

-- each list has an item at the place of a turn
at_turn : (ds : List Decl) (ls : List Around) (f h : Held) (k : ℕ) (lists : List (List ℕ)) → AreWalked ds ls lists → ((l : List ℕ) → IsList ds l → walked ls l ≡ true → h l ≡ f l) → k < shortest (map f lists) → AreAt ds ls h k lists
at_turn ds ls f h k [] a same lt = tt
at_turn ds ls f h k (l ∷ []) a same lt = (a.0, subst (λ (ws : List Word). k < length ws) (sym (same l a.0 a.1)) lt, a.1, tt)
at_turn ds ls f h k (l ∷ m ∷ lists) a same lt = (
  a.0,
  subst (λ (ws : List Word). k < length ws) (sym (same l a.0 a.1)) (shortest_first k (f l) (map f (m ∷ lists)) lt),
  a.1,
  at_turn ds ls f h k (m ∷ lists) a.2 same (shortest_rest k (f l) (f m) (map f lists) lt),
)

module _ (g : Sight) (r : IsReady g.decls) (h0 : Hop) where
  abbrev hop : Hop
  hop = record h0 { decls = g.decls }

  abbrev ds : List Decl
  ds = g.decls

  abbrev flat_run : List Stmt → Doing Held Held → Doing Held Held
  flat_run ss f = block_run (numbered_hop hop) [] (block_from ss) f

  -- ---- what a copy tests

  abbrev count_in : Doing Held Held → ℕ → ℕ
  count_in f v = (name_word (sees hop f) (count_name v)).value

  counts_are : (s f : Doing Held Held) (n : Numbers ds s f) (k : AreShaped ds s) (l : List ℕ) (is : IsList ds l) → name_word (sees hop f) (count_name (list_number ds l)) ≡ word 8 (length (s.tele l))
  counts_are s f n k l is = count_is g r h0 [] [] [] s f n k (no_stands ds s.tele) l is (list_number ds l) (number_of ds l is)

  list_short : (s f : Doing Held Held) (n : Numbers ds s f) (k : AreShaped ds s) (l : List ℕ) (is : IsList ds l) → length (s.tele l) ≤ is.size
  list_short s f n k l is = (held_list g r h0 [] [] [] s f n k (no_stands ds s.tele) l is).count

  each_counts : (s f : Doing Held Held) (n : Numbers ds s f) (k : AreShaped ds s) (ls : List Around) (lists : List (List ℕ)) → AreWalked ds ls lists → Each (Counts (sees hop f) (count_in f)) (map (list_number ds) lists)
  each_counts s f n k ls [] a = tt
  each_counts s f n k ls (l ∷ lists) a =
      let c = counts_are s f n k l a.0 in
      let val : count_in f (list_number ds l) ≡ length (s.tele l) = ap (λ (w : Word). w.value) c in
      let small : a.0.size ≤ 255 = r.small l a.0.decl a.0.item a.0.size a.0.found a.0.shape in
      let short : length (s.tele l) ≤ a.0.size = list_short s f n k l a.0 in
      (record { is = c ∙ ap (word 8) (sym val); small = omega arith }, each_counts s f n k ls lists a.2)

  below_all : (s f : Doing Held Held) (n : Numbers ds s f) (k : AreShaped ds s) (ls : List Around) (i : ℕ) (l : List ℕ) (lists : List (List ℕ)) → AreWalked ds ls (l ∷ lists)
      → all (λ v. nat_lt i (count_in f v)) (map (list_number ds) (l ∷ lists)) ≡ nat_lt i (shortest (map s.tele (l ∷ lists)))
  below_all s f n k ls i l [] a = and_true (nat_lt i (count_in f (list_number ds l))) ∙ ap (nat_lt i) (ap (λ (w : Word). w.value) (counts_are s f n k l a.0))
    where
      and_true : (b : Bool) → (b && true) ≡ b
      and_true true = refl
      and_true false = refl
  below_all s f n k ls i l (m ∷ lists) a =
      ap₂ ◌&&◌ (ap (nat_lt i) (ap (λ (w : Word). w.value) (counts_are s f n k l a.0))) (below_all s f n k ls i m lists a.2)
      ∙ sym (below_both i (length (s.tele l)) (shortest (map s.tele (m ∷ lists))))

  -- lists have no more items than places
  short_at : (s f : Doing Held Held) (n : Numbers ds s f) (k : AreShaped ds s) (l : List ℕ) (is : IsList ds l) → length (s.tele l) ≤ size_of ds l
  short_at s f n k l is =
      let size : size_of ds l ≡ is.size = ap size_in is.found ∙ ap shape_size is.shape in
      let short : length (s.tele l) ≤ is.size = list_short s f n k l is in omega arith

  size_small : (l : List ℕ) (is : IsList ds l) → size_of ds l ≤ 255
  size_small l is =
      let size : size_of ds l ≡ is.size = ap size_in is.found ∙ ap shape_size is.shape in
      let small : is.size ≤ 255 = r.small l is.decl is.item is.size is.found is.shape in omega arith

  short_enough : (s f : Doing Held Held) (n : Numbers ds s f) (k : AreShaped ds s) (ls : List Around) (lists : List (List ℕ)) → AreWalked ds ls lists → shortest (map s.tele lists) ≤ smallest ds lists
  short_enough s f n k ls [] a = omega arith
  short_enough s f n k ls (l ∷ []) a = short_at s f n k l a.0
  short_enough s f n k ls (l ∷ m ∷ lists) a = omega (arith, short_at s f n k l a.0, short_enough s f n k ls (m ∷ lists) a.2)

  smallest_small : (ls : List Around) (lists : List (List ℕ)) → AreWalked ds ls lists → smallest ds lists ≤ 255
  smallest_small ls [] a = omega arith
  smallest_small ls (l ∷ []) a = size_small l a.0
  smallest_small ls (l ∷ m ∷ lists) a = omega (arith, size_small l a.0)

  -- ---- the turns

  module _ (p : ℕ) (body : Stmts) (ns lists : List (List ℕ)) (ls : List Around) (items : Items) (bs : List Bound) (s f : Doing Held Held)
      (new : repeats (record g { loops = ls }) ns ≡ false) (even : length ns ≡ length lists) (are : AreLists (record g { loops = ls }) lists)
      (n : Numbers ds s f) (k : AreShaped ds s) (st : Stands ds ls items bs s.tele)
      (suits : BlockSuits body (record g { loops = (record { names = ns; lists = lists }) ∷ ls }))
      (run : (is : Items) (cs : List Bound) (t u : Doing Held Held) → Numbers ds t u → AreShaped ds t → Stands ds ((record { names = ns; lists = lists }) ∷ ls) is cs t.tele → Numbers ds (block_run hop is body t) (flat_run (flat_block ds body cs) u)) where
    abbrev around : Around
    around = record { names = ns; lists = lists }

    abbrev turn : List Word → Doing Held Held → Doing Held Held
    turn row = block_run hop (items ++ named ns row) body

    abbrev numbers : List ℕ
    numbers = map (list_number ds) lists

    abbrev turned : ℕ → Doing Held Held
    turned i = run_turns turn (first_turns i (map s.tele lists)) s

    abbrev copied : ℕ → Doing Held Held
    copied i = flat_run (turns p (flat_block ds body) ns numbers bs i) f

    abbrev len : ℕ
    len = shortest (map s.tele lists)

    walked_all : AreWalked ds (around ∷ ls) lists
    walked_all = own_walked (record g { loops = ls }) ns lists lists are (λ l m. m)

    still : (i : ℕ) (l : List ℕ) → IsList ds l → walked (around ∷ ls) l ≡ true → (turned i).tele l ≡ s.tele l
    still i l is w = turns_leave turn l (λ ws d. block_leaves g r h0 l is body (around ∷ ls) suits w (items ++ named ns ws) d) (first_turns i (map s.tele lists)) s

    shaped : (i : ℕ) → AreShaped ds (turned i)
    shaped i = turns_shaped ds turn (λ ws d h. block_keeps hop body (items ++ named ns ws) d h) (first_turns i (map s.tele lists)) s k

    -- a copy tests that there is such a turn
    guard_of : (i j : ℕ) (qs : List (List ℕ)) → AreWalked ds (around ∷ ls) qs → i < smallest ds qs → i < 256 → Numbers ds (turned j) (copied i) → value_of (sees hop (copied i)) (all_have p (distinct (map (list_number ds) qs)) i) 1 ≡ bit (nat_lt i (shortest (map s.tele qs)))
    guard_of i j [] a lt small h = absurd (omega arith)
    guard_of i j (q ∷ qs) a lt small h =
        all_have_is (sees hop (copied i)) (count_in (copied i)) p (map (list_number ds) (q ∷ qs)) i 1 small (each_counts (turned j) (copied i) h (shaped j) (around ∷ ls) (q ∷ qs) a)
        ∙ ap bit (below_all (turned j) (copied i) h (shaped j) (around ∷ ls) i q qs a)
        ∙ ap (λ xs. bit (nat_lt i (shortest xs))) (same_lists ds (around ∷ ls) s.tele (turned j).tele (q ∷ qs) a (still j))

    guard : (i j : ℕ) → i < smallest ds lists → Numbers ds (turned j) (copied i) → value_of (sees hop (copied i)) (all_have p (distinct numbers) i) 1 ≡ bit (nat_lt i len)
    guard i j lt h = guard_of i j lists walked_all lt (omega (arith, smallest_small (around ∷ ls) lists walked_all)) h

    -- a copy whose test holds is a turn
    taken : (i : ℕ) → i < len → Numbers ds (turned i) (copied i) → Numbers ds (turn (turn_items (map s.tele lists) i) (turned i)) (flat_run (flat_block ds body (bs ++ bound_to ns numbers i)) (copied i))
    taken i lt h =
        let here : Stands ds ls items bs (turned i).tele = stands_still ds ls items bs s.tele (turned i).tele (λ l is w. still i l is (or_true (among lists l) (walked ls l) w)) st in
        let inside : Stands ds (around ∷ ls) (items ++ named ns (turn_items (map (turned i).tele lists) i)) (bs ++ bound_to ns numbers i) (turned i).tele =
        stands_inside (record g { loops = ls }) ns lists items bs (turned i).tele i new even (at_turn ds (around ∷ ls) s.tele (turned i).tele i lists walked_all (still i) lt) here in
        let rows : map (turned i).tele lists ≡ map s.tele lists = same_lists ds (around ∷ ls) s.tele (turned i).tele lists walked_all (still i) in
        run (items ++ named ns (turn_items (map s.tele lists) i)) (bs ++ bound_to ns numbers i) (turned i) (copied i) h (shaped i)
        (subst (λ (xs : List (List Word)). Stands ds (around ∷ ls) (items ++ named ns (turn_items xs i)) (bs ++ bound_to ns numbers i) (turned i).tele) rows inside)

    turn_run : (i : ℕ) → i ≤ smallest ds lists → Numbers ds (turned (min i len)) (copied i)
    turn_run zero le = let e : 0 ≡ min 0 len = omega arith in subst (λ j. Numbers ds (turned j) f) e n
    turn_run (suc i) le =
        let before : Numbers ds (turned (min i len)) (copied i) = turn_run i (omega arith) in
        let after : Doing Held Held = flat_run (flat_block ds body (bs ++ bound_to ns numbers i)) (copied i) in
        let go : copied (suc i) ≡ cond (nat_lt i len) after (copied i) =
        run-append (numbered_hop hop) (turns p (flat_block ds body) ns numbers bs i) (choice p (all_have p (distinct numbers) i) (block_from (flat_block ds body (bs ++ bound_to ns numbers i))) done ∷ []) f
        ∙ ap (λ (w : Word). cond (holds w) after (copied i)) (guard i (min i len) (omega arith) before)
        ∙ ap (λ b. cond b after (copied i)) (holds-bit (nat_lt i len)) in
        ⊎_elim
        (λ (lt : i < len).
        let e : min i len ≡ i = omega arith in
        let d : suc i ≡ min (suc i) len = omega arith in
        let here : Numbers ds (turned i) (copied i) = subst (λ j. Numbers ds (turned j) (copied i)) e before in
        let there : Numbers ds (turned (suc i)) after = subst (λ (t : Doing Held Held). Numbers ds t after) (sym (turns-snoc turn (first_turns i (map s.tele lists)) (turn_items (map s.tele lists) i) s)) (taken i lt here) in
        subst (λ j. Numbers ds (turned j) (copied (suc i))) d
        (subst (λ (t : Doing Held Held). Numbers ds (turned (suc i)) t) (sym (go ∙ ap (λ b. cond b after (copied i)) (lt-ltb i len lt))) there))
        (λ (ge : len ≤ i).
        let e : min i len ≡ min (suc i) len = omega arith in
        subst (λ j. Numbers ds (turned j) (copied (suc i))) e
        (subst (λ (t : Doing Held Held). Numbers ds (turned (min i len)) t) (sym (go ∙ ap (λ b. cond b after (copied i)) (le-ltb i len ge))) before))
        (cases_lt i len)

    pub loop_run : Numbers ds (run_turns turn (turns_of (map s.tele lists)) s) (copied (smallest ds lists))
    loop_run =
        let le : len ≤ smallest ds lists = short_enough s f n k (around ∷ ls) lists walked_all in
        let e : min (smallest ds lists) len ≡ len = omega arith in
        subst (λ j. Numbers ds (turned j) (copied (smallest ds lists))) e (turn_run (smallest ds lists) (omega arith))
