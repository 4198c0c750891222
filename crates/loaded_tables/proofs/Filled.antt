-- The tables of a map are given contents, one after the other. Each held no entry, so the entries of all tables grow by the
-- keys of the contents, and all of them together are few.
use Rattle.std.proofs.Common.{◌≡◌, ◌≢◌, ℕ, zero, suc, ◌+◌, ◌<◌, List, [], ◌∷◌, length, drop, take, get_or, Bool, true, false, cond, Some, refl, sym, ap, ◌∙◌, subst, arith, zero-add}
use Rattle.std.specs.Prelude.{slice_get}
use Rattle.std.specs.List.{AllByRecursion}
use Rattle.std.specs.Option.{option_map}
use Rattle.std.proofs.lemmas.List.{length-map, get_or_default}
use Rattle.bit_values.specs.Bits.{Word}
use Rattle.p4_meaning.specs.Parts.{Parts}
use Rattle.p4_tables.specs.State.{Held, held_at, entries_in}
use Rattle.p4_tables.specs.Faults.{IsReplaceable}
use Rattle.p4_tables.proofs.Changed.{replaced_shapes}
use Rattle.p4_tables.proofs.Sound.{entries_set}
use Rattle.indus_tree.specs.Tree.{Decl}
use Rattle.indus_tree.specs.State.{Contents, single, members, pairs}
use Rattle.indus_tree.specs.Hops.{same_kind}
use Rattle.indus_tree.specs.declared.tree.DeclKind.TheVariants.{Control}
use Rattle.indus_values.specs.View.{seats, contents_of, or_no_members, contents_from}
use Rattle.indus_values.specs.declared.state.ControlValue.{ControlValue}
use Rattle.control_tables.specs.Contents.{entry_for, entries_for, default_for}
use Rattle.control_maps.specs.Numbers.{Numbered, put_in, load_in, keys_of, IsOfForm, IsMapOf}
use Rattle.control_maps.proofs.Filling.{drop_here, contents_are_taken}
use Rattle.control_maps.proofs.Places.{given_to, replaced_is, other_replaced, map_others}
use Rattle.loaded_tables.specs.Loading.{AreTaken, keys_in}
use Rattle.loaded_tables.specs.Steps.{AreLoadedTo, seats_before}

-- as many entries as keys
pub entries_are_keys : (a : ℕ) (c : Contents) → length (entries_for a c) ≡ length (keys_of c)
entries_are_keys a (single w) = refl
entries_are_keys a (members ks) = length-map ks (λ (k : List Word). entry_for a k [])
entries_are_keys a (pairs es) = length-map es (λ (e : List Word × Word). entry_for a e.0 (e.1 ∷ [])) ∙ sym (length-map es (λ (e : List Word × Word). e.0))

module _ (f : Parts) (st : List Held) (n : Numbered) (c : Contents) (is : IsOfForm f st n) where
  low : n.table < length st
  low = (let a = is.long in let b = is.there in omega (arith, a, b))

  grown : (held_at st n.table).listed ≡ [] → entries_in (put_in n c st) ≡ entries_in st + length (keys_of c)
  grown none =
      let counts : entries_in (put_in n c st) + length (held_at st n.table).listed ≡ entries_in st + length (entries_for n.action c) =
      ap (λ (l : List Held). entries_in l + length (held_at st n.table).listed) (replaced_is st n.table (entries_for n.action c) (default_for n.action c) low)
      ∙ entries_set st n.table (given_to (held_at st n.table) (entries_for n.action c) (default_for n.action c)) low in
      let zero_there : length (held_at st n.table).listed ≡ 0 = ap (λ l. length l) none in
      let same = entries_are_keys n.action c in
      omega (arith, counts, zero_there, same)

  still_empty : (ns : List Numbered) → AllByRecursion (λ k. k.table ≢ n.table) ns → AllByRecursion (λ k. (held_at st k.table).listed ≡ []) ns → AllByRecursion (λ k. (held_at (put_in n c st) k.table).listed ≡ []) ns
  still_empty [] apart none = tt
  still_empty (k ∷ ns) apart none = (
    ap (λ (h : Held). h.listed) (other_replaced st n.table k.table (entries_for n.action c) (default_for n.action c) low apart.0) ∙ none.0,
    still_empty ns apart.1 none.1,
  )

module _ (ns : List Numbered) (c : ℕ → Contents) (old now : List Held) (i : ℕ) (n : Numbered) (here : slice_get ns i ≡ Some n) (so_far : AreLoadedTo ns c old now i) where
  rest_is : drop i ns ≡ n ∷ drop (i + 1) ns
  rest_is = drop_here ns i n here

  map_left : IsMapOf so_far.empty.parts now (n ∷ drop (i + 1) ns)
  map_left = subst (IsMapOf so_far.empty.parts now) rest_is so_far.empty.map

  none_left : AllByRecursion (λ (k : Numbered). (held_at now k.table).listed ≡ []) (n ∷ drop (i + 1) ns)
  none_left = subst (AllByRecursion (λ (k : Numbered). (held_at now k.table).listed ≡ [])) rest_is so_far.empty.empty

  taken_left : AreTaken (entries_in now) (n ∷ drop (i + 1) ns) c
  taken_left = subst (λ (ks : List Numbered). AreTaken (entries_in now) ks c) rest_is so_far.taken

  counted : entries_in (put_in n (c n.variable) now) ≡ entries_in now + length (keys_of (c n.variable))
  counted = grown so_far.empty.parts now n (c n.variable) map_left.0 none_left.0

  pub there : n.table < length now
  there = low so_far.empty.parts now n (c n.variable) map_left.0

  -- the next one takes its contents
  pub takes : IsReplaceable now n.table (entries_for n.action (c n.variable)) (default_for n.action (c n.variable))
  takes =
      let more = counted in
      let few = taken_left.few in
      contents_are_taken so_far.empty.parts now n (c n.variable) map_left.0 taken_left.shapes.0.shape taken_left.shapes.0.keys (omega (arith, more, few))

  put_next : AreLoadedTo ns c old (put_in n (c n.variable) now) (i + 1)
  put_next =
      let more = counted in
      let few = taken_left.few in
      record {
        same = ap (λ (ks : List Numbered). load_in ks c now) (sym rest_is) ∙ so_far.same;
        shapes = replaced_shapes now n.table (entries_for n.action (c n.variable)) (default_for n.action (c n.variable)) ∙ so_far.shapes;
        empty = record {
          parts = so_far.empty.parts;
          map = map_others so_far.empty.parts now n.table (drop (i + 1) ns) (entries_for n.action (c n.variable)) (default_for n.action (c n.variable)) there map_left.1.0 map_left.1.1;
          empty = still_empty so_far.empty.parts now n (c n.variable) map_left.0 (drop (i + 1) ns) map_left.1.0 none_left.1;
        };
        taken = record { shapes = taken_left.shapes.1; few = omega (arith, more, few) };
        counted = (let all = so_far.counted in let left = ap (λ (ks : List Numbered). keys_in ks c) rest_is in omega (arith, more, all, left));
      }

  pub loaded_next : (new : List Held) → new ≡ put_in n (c n.variable) now → AreLoadedTo ns c old new (i + 1)
  loaded_next new is = subst (λ (st : List Held). AreLoadedTo ns c old st (i + 1)) (sym is) put_next

-- ---- places of control variables

seat_at : (n : ℕ) (ds : List Decl) (k : ℕ) → k < length ds → get_or (seats_before n ds) k 0 ≡ n + seats Control (take k ds)
seat_at n [] k lt = absurd (omega arith)
seat_at n (d ∷ ds) zero lt = (let same : n ≡ n + 0 = omega arith in same)
seat_at n (d ∷ ds) (suc k) lt = go (same_kind Control d.kind) (λ m. seat_at m ds k (omega arith))
  where
    go : (b : Bool) → ((m : ℕ) → get_or (seats_before m ds) k 0 ≡ m + seats Control (take k ds)) → get_or (seats_before (cond b (n + 1) n) ds) k 0 ≡ n + cond b (seats Control (take k ds) + 1) (seats Control (take k ds))
    go true more = (let e = more (n + 1) in omega (arith, e))
    go false more = more n

seats_long : (n : ℕ) (ds : List Decl) → length (seats_before n ds) ≡ length ds
seats_long n [] = refl
seats_long n (d ∷ ds) = ap suc (seats_long (cond (same_kind Control d.kind) (n + 1) n) ds)

pub as_many_seats : (ds : List Decl) (all : List ℕ) → all ≡ seats_before 0 ds → length all ≡ length ds
as_many_seats ds all is = ap (λ (l : List ℕ). length l) is ∙ seats_long 0 ds

-- contents by their seat are those of the variable
pub contents_are : (ds : List Decl) (cs : List ControlValue) (all : List ℕ) (v k : ℕ) (c : Contents) → all ≡ seats_before 0 ds → v < length ds → k ≡ get_or all v k → c ≡ or_no_members (option_map contents_of (slice_get cs k)) → c ≡ contents_from ds cs v
contents_are ds cs all v k c is lt at given =
    let long = as_many_seats ds all is in
    let seat : k ≡ seats Control (take v ds) = at ∙ (get_or_default all v k 0 (omega (arith, long, lt)) ∙ (ap (λ (l : List ℕ). get_or l v 0) is ∙ (seat_at 0 ds v lt ∙ zero-add (seats Control (take v ds))))) in
    given ∙ ap (λ (j : ℕ). or_no_members (option_map contents_of (slice_get cs j))) seat
