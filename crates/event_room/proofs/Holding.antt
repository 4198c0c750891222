-- The tables of a map hold the contents of their variables, one entry for each key.
use Rattle.std.proofs.Common.{◌≡◌, ◌≢◌, ℕ, ◌+◌, ◌<◌, List, [], ◌∷◌, map, length, Bool, true, false, cond, nat_eq, refl, sym, ap, ◌∙◌, arith}
use Rattle.std.specs.List.{AllByRecursion}
use Rattle.std.proofs.lemmas.List.{length-map}
use Rattle.p4_meaning.specs.Parts.{Parts, parts_of}
use Rattle.p4_meaning.specs.Tables.{Entries}
use Rattle.table_entries.specs.Entries.{named}
use Rattle.p4_tables.specs.State.{Held, held_at, entries_in}
use Rattle.p4_tables.specs.Named.{action_name, entries_named, tables_in}
use Rattle.p4_tables.proofs.Sound.{entries_set}
use Rattle.p4_tables.proofs.TableNames as walk
use Rattle.indus_tree.specs.State.{Contents, single, members, pairs}
use Rattle.network_run.specs.NetworkRun.{put}
use Rattle.control_tables.specs.Contents.{entries_for, default_for}
use Rattle.control_maps.specs.Maps.{Lookup, held_for}
use Rattle.control_maps.specs.Numbers.{Numbered, table_name, named_in, put_in, set_in, HasShape, keys_of, IsOfForm, IsMapOf}
use Rattle.control_maps.proofs.Places.{given_to, replaced_is, at_replaced, other_replaced, map_others}
use Rattle.control_maps.proofs.Names.{maps_stay}
use Rattle.loaded_tables.specs.Loading.{keys_in}
use Rattle.loaded_tables.proofs.Filled.{entries_are_keys}
use Rattle.event_room.specs.Holding.{Holds, TablesHold}

-- ---- where a switch was loaded

-- what contents stand for has an entry for each key
held_long : (x : List ℕ) (c : Contents) → length (held_for x c).listed ≡ length (keys_of c)
held_long x (single w) = refl
held_long x (members ks) = length-map (entries_for 0 (members ks)) (named (λ (n : ℕ). x)) ∙ entries_are_keys 0 (members ks)
held_long x (pairs es) = length-map (entries_for 0 (pairs es)) (named (λ (n : ℕ). x)) ∙ entries_are_keys 0 (pairs es)

module _ (f : Parts) (st : List Held) (n : Numbered) (is : IsOfForm f st n) where
  low : n.table < length st
  low = let a = is.long in let b = is.there in omega (arith, a, b)

  -- the table by its name
  stood : tables_in f st (table_name f.tables n.table) ≡ entries_named (action_name f.actions) (held_at st n.table)
  stood =
      (let a = is.long in
      let b = is.there in
      let c = is.named in
      (walk.found (action_name f.actions) f.tables st (table_name f.tables n.table) (omega (arith, b, c)) (omega (arith, a, b, c))).1)
      ∙ ap (λ k. entries_named (action_name f.actions) (held_at st k)) is.named

  one_loaded : (x : List ℕ) (c : Contents) → tables_in f st (table_name f.tables n.table) ≡ held_for x c → length (held_at st n.table).listed ≡ length (keys_of c)
  one_loaded x c e =
      sym (length-map (held_at st n.table).listed (named (action_name f.actions)))
      ∙ (ap (λ (t : Entries). length t.listed) (sym stood ∙ e) ∙ held_long x c)

all_loaded :
    (f : Parts) (st : List Held) (ns : List Numbered) (c : ℕ → Contents) → IsMapOf f st ns
    → AllByRecursion (λ (l : Lookup). tables_in f st l.table ≡ held_for l.action (c l.variable)) (map (named_in f) ns)
    → AllByRecursion (λ n. length (held_at st n.table).listed ≡ length (keys_of (c n.variable))) ns
all_loaded f st [] c is h = tt
all_loaded f st (n ∷ ns) c is h = (one_loaded f st n is.0 (action_name f.actions n.action) (c n.variable) h.0, all_loaded f st ns c is.1.1 h.1)

-- ---- where a variable is set

-- the table has as many entries as its variable has keys
abbrev AreKept : List Held → (ℕ → Contents) → List Numbered → Type 0
AreKept st c ns = AllByRecursion (λ n. length (held_at st n.table).listed ≡ length (keys_of (c n.variable))) ns

put_counts : (st : List Held) (n : Numbered) (x : Contents) → n.table < length st → entries_in (put_in n x st) + length (held_at st n.table).listed ≡ entries_in st + length (keys_of x)
put_counts st n x lt =
    ap (λ (l : List Held). entries_in l + length (held_at st n.table).listed) (replaced_is st n.table (entries_for n.action x) (default_for n.action x) lt)
    ∙ (entries_set st n.table (given_to (held_at st n.table) (entries_for n.action x) (default_for n.action x)) lt
    ∙ ap (λ (k : ℕ). entries_in st + k) (entries_are_keys n.action x))

put_there : (st : List Held) (n : Numbered) (x : Contents) → n.table < length st → length (held_at (put_in n x st) n.table).listed ≡ length (keys_of x)
put_there st n x lt = ap (λ (h : Held). length h.listed) (at_replaced st n.table (entries_for n.action x) (default_for n.action x) lt) ∙ entries_are_keys n.action x

put_other : (st : List Held) (n : Numbered) (x : Contents) (k : ℕ) → n.table < length st → k ≢ n.table → held_at (put_in n x st) k ≡ held_at st k
put_other st n x k lt apart = other_replaced st n.table k (entries_for n.action x) (default_for n.action x) lt apart

module _ (f : Parts) (v : ℕ) (x : Contents) where
  put_rest : (st : List Held) (n : Numbered) (ns : List Numbered) → IsMapOf f st (n ∷ ns) → IsMapOf f (put_in n x st) ns
  put_rest st n ns is = map_others f st n.table ns (entries_for n.action x) (default_for n.action x) (low f st n is.0) is.1.0 is.1.1

  -- a table that is none of theirs stays
  set_apart : (st : List Held) (ns : List Numbered) (k : ℕ) → IsMapOf f st ns → AllByRecursion (λ m. m.table ≢ k) ns → held_at (set_in ns v x st) k ≡ held_at st k
  set_apart st [] k is apart = refl
  set_apart st (n ∷ ns) k is apart = go (nat_eq n.variable v) (λ s i. set_apart s ns k i apart.1)
    where
      go : (b : Bool) → ((s : List Held) → IsMapOf f s ns → held_at (set_in ns v x s) k ≡ held_at s k) → held_at (set_in ns v x (cond b (put_in n x st) st)) k ≡ held_at st k
      go true more = more (put_in n x st) (put_rest st n ns is) ∙ put_other st n x k (low f st n is.0) (λ q. apart.0 (sym q))
      go false more = more st is.1.1

  module _ (c : ℕ → Contents) where
    abbrev new : ℕ → Contents
    new = put c v x

    kept_put : (st : List Held) (n : Numbered) (ns : List Numbered) → n.table < length st → AllByRecursion (λ m. m.table ≢ n.table) ns → AreKept st c ns → AreKept (put_in n x st) c ns
    kept_put st n [] lt apart kept = tt
    kept_put st n (m ∷ ns) lt apart kept = (
      ap (λ (h : Held). length h.listed) (put_other st n x m.table lt apart.0) ∙ kept.0,
      kept_put st n ns lt apart.1 kept.1,
    )

    -- entries come and go with keys
    set_counts : (st : List Held) (ns : List Numbered) → IsMapOf f st ns → AreKept st c ns → entries_in (set_in ns v x st) + keys_in ns c ≡ entries_in st + keys_in ns new
    set_counts st [] is kept = refl
    set_counts st (n ∷ ns) is kept = go (nat_eq n.variable v) (λ s i k. set_counts s ns i k)
      where
        go : (b : Bool) → ((s : List Held) → IsMapOf f s ns → AreKept s c ns → entries_in (set_in ns v x s) + keys_in ns c ≡ entries_in s + keys_in ns new)
            → entries_in (set_in ns v x (cond b (put_in n x st) st)) + (length (keys_of (c n.variable)) + keys_in ns c) ≡ entries_in st + (length (keys_of (cond b x (c n.variable))) + keys_in ns new)
        go true more =
            (let rest = more (put_in n x st) (put_rest st n ns is) (kept_put st n ns (low f st n is.0) is.1.0 kept.1) in
            let one = put_counts st n x (low f st n is.0) in
            let was = kept.0 in
            omega (arith, rest, one, was))
        go false more = (let rest = more st is.1.1 kept.1 in omega (arith, rest))

    set_keeps : (st : List Held) (ns : List Numbered) → IsMapOf f st ns → AreKept st c ns → AreKept (set_in ns v x st) new ns
    set_keeps st [] is kept = tt
    set_keeps st (n ∷ ns) is kept = go (nat_eq n.variable v) (λ s i k. set_keeps s ns i k)
      where
        go : (b : Bool) → ((s : List Held) → IsMapOf f s ns → AreKept s c ns → AreKept (set_in ns v x s) new ns)
            → (length (held_at (set_in ns v x (cond b (put_in n x st) st)) n.table).listed ≡ length (keys_of (cond b x (c n.variable)))) × AreKept (set_in ns v x (cond b (put_in n x st) st)) new ns
        go true more = (
          ap (λ (h : Held). length h.listed) (set_apart (put_in n x st) ns n.table (put_rest st n ns is) is.1.0) ∙ put_there st n x (low f st n is.0),
          more (put_in n x st) (put_rest st n ns is) (kept_put st n ns (low f st n is.0) is.1.0 kept.1),
        )
        go false more = (ap (λ (h : Held). length h.listed) (set_apart st ns n.table is.1.1 is.1.0) ∙ kept.0, more st is.1.1 kept.1)

set_holds :
    (f : Parts) (others : ℕ) (ns : List Numbered) (c : ℕ → Contents) (st : List Held) → Holds f others ns c st
    → (v : ℕ) (x : Contents) → AllByRecursion (λ n. nat_eq n.variable v ≡ true → HasShape n.shape x) ns
    → Holds f others ns (put c v x) (set_in ns v x st)
set_holds f others ns c st h v x shapes =
    record {
      map = (maps_stay.sets f st ns v x h.map shapes).0;
      keys = set_keeps f v x c st ns h.map h.keys;
      total = (let counts = set_counts f v x c st ns h.map h.keys in let few = h.total in omega (arith, counts, few));
    }

pub tables_hold : TablesHold
tables_hold =
    record {
      loaded = λ x others ns entries c is loaded few. record { map = is; keys = all_loaded (parts_of x.program) x.tables ns c is loaded.controls; total = few };
      set = λ f others ns c st h v x shapes. set_holds f others ns c st h v x shapes;
    }
