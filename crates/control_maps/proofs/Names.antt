-- Contents put into tables by numbers are put into them by names.
use Rattle.std.proofs.Common.{◌≡◌, ◌≢◌, ℕ, suc, ◌<◌, List, [], ◌∷◌, length, map, Bool, true, false, cond, refl, sym, ap, ap₂, ◌∙◌, arith}
use Rattle.std.specs.Prelude.{nat_eq}
use Rattle.std.specs.List.{AllByRecursion}
use Rattle.std.proofs.lemmas.Slice.Eq.{bytes_eq-Decides}
use Rattle.bit_values.specs.Bits.{Word}
use Rattle.lex_text.specs.Names.{same_text}
use Rattle.p4_meaning.specs.Choice as choice
use Rattle.p4_meaning.specs.Tables.{Table, Chosen, Entries, Tables}
use Rattle.p4_meaning.specs.Parts.{Parts}
use Rattle.p4_typing_laws.proofs.CallCounts.{text_is}
use Rattle.table_entries.specs.Entries.{named}
use Rattle.p4_tables.specs.State.{Held, held_at, replaced}
use Rattle.p4_tables.specs.Named.{action_name, entries_named, tables_in, table_place}
use Rattle.p4_tables.specs.Programs.{shapes}
use Rattle.p4_tables.proofs.Changed.{replaced_shapes}
use Rattle.p4_tables.proofs.TableNames as walk
use Rattle.table_laws.specs.Loaded.{given_entries}
use Rattle.table_laws.proofs.Puts.{replaced_is_put}
use Rattle.indus_tree.specs.Tree.{Shape, one, list, set, dict}
use Rattle.indus_tree.specs.State.{Contents, single, members, pairs}
use Rattle.control_tables.specs.Contents as contents
use Rattle.control_tables.specs.Tables.{has_miss}
use Rattle.control_maps.specs.Maps.{Lookup, miss, held_for, put_named, loads, sets, Misses}
use Rattle.control_maps.specs.Numbers.{Numbered, table_name, named_in, put_in, load_in, set_in, HasShape, IsOfForm, IsMapOf}
use Rattle.control_maps.specs.Laws.{NumbersAreNames, MapsStay, HeldIsLoaded, OthersAreLeft}
use Rattle.control_maps.proofs.Places.{map_others, form_put, form_apart}

-- ---- the action's name alone counts

member_names : (name : ℕ → List ℕ) (n : ℕ) (ks : List (List Word)) → map (named name) (map (λ k. contents.entry_for n k []) ks) ≡ map (named (λ k. name n)) (map (λ k. contents.entry_for 0 k []) ks)
member_names name n [] = refl
member_names name n (k ∷ ks) = ap (λ (es : List choice.Entry). (let f : choice.Entry = record { keys = map choice.exact k; action = name n; args = []; priority = 0 } in f) ∷ es) (member_names name n ks)

pair_names : (name : ℕ → List ℕ) (n : ℕ) (es : List (List Word × Word)) → map (named name) (map (λ e. contents.entry_for n e.0 (e.1 ∷ [])) es) ≡ map (named (λ k. name n)) (map (λ e. contents.entry_for 0 e.0 (e.1 ∷ [])) es)
pair_names name n [] = refl
pair_names name n (p ∷ ps) = ap (λ (es : List choice.Entry). (let f : choice.Entry = record { keys = map choice.exact p.0; action = name n; args = p.1 ∷ []; priority = 0 } in f) ∷ es) (pair_names name n ps)

-- where the miss stands for what has one, it does not count what was held
held_same : (name : ℕ → List ℕ) (n : ℕ) (d : Shape) (c : Contents) (old : Entries) → HasShape d c → (has_miss d ≡ true → old.default ≡ miss) → given_entries name old (contents.entries_for n c) (contents.default_for n c) ≡ held_for (name n) c
held_same name n (one t) (single w) old h r = refl
held_same name n (one t) (members ks) old h r = absurd h
held_same name n (one t) (pairs es) old h r = absurd h
held_same name n (list t k) c old h r = absurd h
held_same name n (set ts) (single w) old h r = absurd h
held_same name n (set ts) (members ks) old h r = ap₂ (λ (es : List choice.Entry) (d : Chosen). (let e : Entries = record { listed = es; default = d } in e)) (member_names name n ks) (r refl)
held_same name n (set ts) (pairs es) old h r = absurd h
held_same name n (dict ts t) (single w) old h r = absurd h
held_same name n (dict ts t) (members ks) old h r = absurd h
held_same name n (dict ts t) (pairs ps) old h r = ap₂ (λ (es : List choice.Entry) (d : Chosen). (let e : Entries = record { listed = es; default = d } in e)) (pair_names name n ps) (r refl)

-- ---- tables by their places

text_same : (x y : List ℕ) → x ≡ y → same_text x y ≡ true
text_same x y e = (bytes_eq-Decides x y).1 e

place_is : (ts : List Table) (x y : List ℕ) → table_place ts x < length ts → table_place ts y ≡ table_place ts x → y ≡ x
place_is [] x y lt e = absurd (omega arith)
place_is (t ∷ ts) x y lt e = go (same_text t.name x) (same_text t.name y) refl refl lt e (place_is ts x y)
  where
    go : (a b : Bool) → same_text t.name x ≡ a → same_text t.name y ≡ b → cond a 0 (suc (table_place ts x)) < suc (length ts) → cond b 0 (suc (table_place ts y)) ≡ cond a 0 (suc (table_place ts x)) → (table_place ts x < length ts → table_place ts y ≡ table_place ts x → y ≡ x) → y ≡ x
    go true true i j l k more = sym (text_is t.name y j) ∙ text_is t.name x i
    go true false i j l k more = absurd (omega (arith, k))
    go false true i j l k more = absurd (omega (arith, k))
    go false false i j l k more = more (omega arith) (omega (arith, k))

module _ (f : Parts) (n : Numbered) (c : Contents) (st : List Held) (is : IsOfForm f st n) (shape : HasShape n.shape c) where
  abbrev name : List ℕ
  name = table_name f.tables n.table

  there : table_place f.tables (table_name f.tables n.table) < length f.tables
  there = (let a = is.named in let b = is.there in omega arith)

  by_name : replaced st (table_place f.tables (table_name f.tables n.table)) (contents.entries_for n.action c) (contents.default_for n.action c) ≡ put_in n c st
  by_name = ap (λ k. replaced st k (contents.entries_for n.action c) (contents.default_for n.action c)) is.named

  -- what it held before
  stood : tables_in f st (table_name f.tables n.table) ≡ entries_named (action_name f.actions) (held_at st n.table)
  stood =
      (walk.found (action_name f.actions) f.tables st (table_name f.tables n.table) there (let a = is.long in let b = there in omega arith)).1
      ∙ ap (λ k. entries_named (action_name f.actions) (held_at st k)) is.named

  put_at : (x : List ℕ) → tables_in f (put_in n c st) x ≡ put_named (named_in f n) c (tables_in f st) x
  put_at x = go (same_text (table_name f.tables n.table) x) refl
    where
      go : (b : Bool) → same_text (table_name f.tables n.table) x ≡ b → tables_in f (put_in n c st) x ≡ cond b (held_for (action_name f.actions n.action) c) (tables_in f st x)
      go true e =
          (let puts = replaced_is_put f st (table_name f.tables n.table) (contents.entries_for n.action c) (contents.default_for n.action c) is.long there in
          ap (tables_in f (put_in n c st)) (sym (text_is (table_name f.tables n.table) x e))
          ∙ (ap (λ (l : List Held). tables_in f l (table_name f.tables n.table)) (sym by_name)
          ∙ (puts.there ∙ held_same (action_name f.actions) n.action n.shape c (tables_in f st (table_name f.tables n.table)) shape (λ m. ap (λ (k : Entries). k.default) stood ∙ is.misses m))))
      go false e =
          (let puts = replaced_is_put f st (table_name f.tables n.table) (contents.entries_for n.action c) (contents.default_for n.action c) is.long there in
          ap (λ (l : List Held). tables_in f l x) (sym by_name)
          ∙ puts.others x (λ q. (let same : x ≡ table_name f.tables n.table = place_is f.tables (table_name f.tables n.table) x there q in let k : true ≡ false = sym (text_same (table_name f.tables n.table) x (sym same)) ∙ e in absurd (cc))))

  pub put_is : tables_in f (put_in n c st) ≡ put_named (named_in f n) c (tables_in f st)
  put_is = λ i x. put_at x i

-- ---- maps

module _ (f : Parts) where
  put_rest : (st : List Held) (n : Numbered) (ns : List Numbered) (c : Contents) → IsMapOf f st (n ∷ ns) → IsMapOf f (put_in n c st) ns
  put_rest st n ns c is = map_others f st n.table ns (contents.entries_for n.action c) (contents.default_for n.action c) (let a = is.0.long in let b = is.0.there in omega arith) is.1.0 is.1.1

  load_is : (st : List Held) (ns : List Numbered) (c : ℕ → Contents) → IsMapOf f st ns → AllByRecursion (λ n. HasShape n.shape (c n.variable)) ns → tables_in f (load_in ns c st) ≡ loads (map (named_in f) ns) c (tables_in f st)
  load_is st [] c is h = refl
  load_is st (n ∷ ns) c is h =
      load_is (put_in n (c n.variable) st) ns c (put_rest st n ns (c n.variable) is) h.1
      ∙ ap (loads (map (named_in f) ns) c) (put_is f n (c n.variable) st is.0 h.0)

  set_is : (st : List Held) (ns : List Numbered) (v : ℕ) (c : Contents) → IsMapOf f st ns → AllByRecursion (λ n. nat_eq n.variable v ≡ true → HasShape n.shape c) ns → tables_in f (set_in ns v c st) ≡ sets (map (named_in f) ns) v c (tables_in f st)
  set_is st [] v c is h = refl
  set_is st (n ∷ ns) v c is h = go (nat_eq n.variable v) h.0 (λ s i. set_is s ns v c i h.1)
    where
      go : (b : Bool) → (b ≡ true → HasShape n.shape c) → ((s : List Held) → IsMapOf f s ns → tables_in f (set_in ns v c s) ≡ sets (map (named_in f) ns) v c (tables_in f s))
          → tables_in f (set_in ns v c (cond b (put_in n c st) st)) ≡ sets (map (named_in f) ns) v c (cond b (put_named (named_in f n) c (tables_in f st)) (tables_in f st))
      go true shape more =
          more (put_in n c st) (put_rest st n ns c is)
          ∙ ap (sets (map (named_in f) ns) v c) (put_is f n c st is.0 (shape refl))
      go false shape more = more st is.1.1

  -- ---- what stays

  load_form : (st : List Held) (k : Numbered) (ns : List Numbered) (c : ℕ → Contents) → IsOfForm f st k → AllByRecursion (λ n. n.table ≢ k.table) ns → IsMapOf f st ns → IsOfForm f (load_in ns c st) k
  load_form st k [] c here apart is = here
  load_form st k (n ∷ ns) c here apart is = load_form (put_in n (c n.variable) st) k ns c (form_apart f st n k (c n.variable) is.0 here (λ e. apart.0 (sym e))) apart.1 (put_rest st n ns (c n.variable) is)

  load_stays : (st : List Held) (ns : List Numbered) (c : ℕ → Contents) → IsMapOf f st ns → AllByRecursion (λ n. HasShape n.shape (c n.variable)) ns → IsMapOf f (load_in ns c st) ns
  load_stays st [] c is h = tt
  load_stays st (n ∷ ns) c is h = (
    load_form (put_in n (c n.variable) st) n ns c (form_put f st n (c n.variable) is.0 h.0) is.1.0 (put_rest st n ns (c n.variable) is),
    (is.1.0, load_stays (put_in n (c n.variable) st) ns c (put_rest st n ns (c n.variable) is) h.1),
  )

  set_form : (st : List Held) (k : Numbered) (ns : List Numbered) (v : ℕ) (c : Contents) → IsOfForm f st k → AllByRecursion (λ n. n.table ≢ k.table) ns → IsMapOf f st ns → IsOfForm f (set_in ns v c st) k
  set_form st k [] v c here apart is = here
  set_form st k (n ∷ ns) v c here apart is = go (nat_eq n.variable v) (λ s h i. set_form s k ns v c h apart.1 i)
    where
      go : (b : Bool) → ((s : List Held) → IsOfForm f s k → IsMapOf f s ns → IsOfForm f (set_in ns v c s) k) → IsOfForm f (set_in ns v c (cond b (put_in n c st) st)) k
      go true more = more (put_in n c st) (form_apart f st n k c is.0 here (λ e. apart.0 (sym e))) (put_rest st n ns c is)
      go false more = more st here is.1.1

  set_stays : (st : List Held) (ns : List Numbered) (v : ℕ) (c : Contents) → IsMapOf f st ns → AllByRecursion (λ n. nat_eq n.variable v ≡ true → HasShape n.shape c) ns → IsMapOf f (set_in ns v c st) ns
  set_stays st [] v c is h = tt
  set_stays st (n ∷ ns) v c is h = go (nat_eq n.variable v) h.0 (λ s i. set_stays s ns v c i h.1)
    where
      go : (b : Bool) → (b ≡ true → HasShape n.shape c) → ((s : List Held) → IsMapOf f s ns → IsMapOf f (set_in ns v c s) ns) → IsMapOf f (set_in ns v c (cond b (put_in n c st) st)) (n ∷ ns)
      go true shape more = (
        set_form (put_in n c st) n ns v c (form_put f st n c is.0 (shape refl)) is.1.0 (put_rest st n ns c is),
        (is.1.0, more (put_in n c st) (put_rest st n ns c is)),
      )
      go false shape more = (set_form st n ns v c is.0 is.1.0 is.1.1, (is.1.0, more st is.1.1))

load_shapes : (st : List Held) (ns : List Numbered) (c : ℕ → Contents) → shapes (load_in ns c st) ≡ shapes st
load_shapes st [] c = refl
load_shapes st (n ∷ ns) c = load_shapes (put_in n (c n.variable) st) ns c ∙ replaced_shapes st n.table (contents.entries_for n.action (c n.variable)) (contents.default_for n.action (c n.variable))

pub set_shapes : (st : List Held) (ns : List Numbered) (v : ℕ) (c : Contents) → shapes (set_in ns v c st) ≡ shapes st
set_shapes st [] v c = refl
set_shapes st (n ∷ ns) v c = set_shapes (cond (nat_eq n.variable v) (put_in n c st) st) ns v c ∙ go (nat_eq n.variable v)
  where
    go : (b : Bool) → shapes (cond b (put_in n c st) st) ≡ shapes st
    go true = replaced_shapes st n.table (contents.entries_for n.action c) (contents.default_for n.action c)
    go false = refl

pub numbers_are_names : NumbersAreNames
numbers_are_names = record { loads = λ f st ns c is h. load_is f st ns c is h; sets = λ f st ns v c is h. set_is f st ns v c is h }

pub maps_stay : MapsStay
maps_stay =
    record {
      loads = λ f st ns c is h. (load_stays f st ns c is h, load_shapes st ns c);
      sets = λ f st ns v c is h. (set_stays f st ns v c is h, set_shapes st ns v c);
    }

-- ---- by names

loads_miss : (ls : List Lookup) (c : ℕ → Contents) (held : Tables) (x : List ℕ) → Misses x ls → loads ls c held x ≡ held x
loads_miss [] c held x h = refl
loads_miss (l ∷ ls) c held x h = loads_miss ls c (put_named l (c l.variable) held) x h.1 ∙ ap (λ (b : Bool). cond b (held_for l.action (c l.variable)) (held x)) h.0

sets_miss : (ls : List Lookup) (v : ℕ) (c : Contents) (held : Tables) (x : List ℕ) → Misses x ls → sets ls v c held x ≡ held x
sets_miss [] v c held x h = refl
sets_miss (l ∷ ls) v c held x h = sets_miss ls v c (cond (nat_eq l.variable v) (put_named l c held) held) x h.1 ∙ go (nat_eq l.variable v)
  where
    go : (b : Bool) → cond b (put_named l c held) held x ≡ held x
    go true = ap (λ (b : Bool). cond b (held_for l.action c) (held x)) h.0
    go false = refl

pub others_are_left : OthersAreLeft
others_are_left = record { loads = loads_miss; sets = sets_miss }

held_is : (now old : Tables) (ls : List Lookup) (c : ℕ → Contents) → AllByRecursion (λ l. now l.table ≡ held_for l.action (c l.variable)) ls → ((x : List ℕ) → Misses x ls → now x ≡ old x) → (x : List ℕ) → now x ≡ loads ls c old x
held_is now old [] c h others x = others x tt
held_is now old (l ∷ ls) c h others x = held_is now (put_named l (c l.variable) old) ls c h.1 (λ y m. go y m (same_text l.table y) refl) x
  where
    go : (y : List ℕ) → Misses y ls → (b : Bool) → same_text l.table y ≡ b → now y ≡ cond b (held_for l.action (c l.variable)) (old y)
    go y m true e = ap now (sym (text_is l.table y e)) ∙ h.0
    go y m false e = others y (e, m)

pub held_is_loaded : HeldIsLoaded
held_is_loaded now old ls c h others = λ i x. held_is now old ls c h others x i
