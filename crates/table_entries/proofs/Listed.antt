-- Entries of a list, one after the other.
use Rattle.std.proofs.Common.{◌≡◌, ℕ, zero, suc, ◌+◌, ◌-◌, ◌<◌, List, [], ◌∷◌, ◌++◌, length, map, take, get_or, refl, sym, ap, ap₂, ◌∙◌, arith, add-one, length-append, Option, Some, None, true, Bor, vec_len}
use Rattle.std.specs.Prelude.{is_some, nat_lt}
use Rattle.std.specs.Option.{option_map, IfSome}
use Rattle.std.proofs.lemmas.Bool.{false≢true}
use Rattle.std.specs.Global.{Vec}
use Rattle.std.proofs.lemmas.List.{length-map, get_or-map}
use Rattle.table_entries.specs.Entries.{Entry}
use Rattle.table_entries.specs.View.{entry_of}
use Rattle.table_entries.specs.Walk.{lent}
use Rattle.table_entries.specs.declared.entry.Entry as code_entry

next_of : (xs : List code_entry.Entry) (i : ℕ) (d : code_entry.Entry) → i < length xs → map entry_of (take i xs) ++ entry_of (get_or xs i d) ∷ [] ≡ map entry_of (take (suc i) xs)
next_of [] i d lt = absurd (omega arith)
next_of (x ∷ xs) zero d lt = refl
next_of (x ∷ xs) (suc i) d lt = ap (λ (es : List Entry). entry_of x ∷ es) (next_of xs i d (omega arith))

-- the next entry stands behind those before it
pub next_listed : (xs : List code_entry.Entry) (i : ℕ) (x : code_entry.Entry) → i < length xs → x ≡ get_or xs i x → map entry_of (take i xs) ++ entry_of x ∷ [] ≡ map entry_of (take (i + 1) xs)
next_listed xs i x lt is = ap (λ (e : code_entry.Entry). map entry_of (take i xs) ++ entry_of e ∷ []) is ∙ next_of xs i x lt ∙ rw add-one refl

-- so many stand before it
pub many_listed : (xs : List code_entry.Entry) (i : ℕ) → i < length xs → i ≡ length (map entry_of (take i xs))
many_listed [] i lt = absurd (omega arith)
many_listed (x ∷ xs) zero lt = refl
many_listed (x ∷ xs) (suc i) lt = ap suc (many_listed xs i (omega arith))

-- ---- an entry that is pushed

map_push : (xs : List code_entry.Entry) (e : code_entry.Entry) → map entry_of (xs ++ e ∷ []) ≡ map entry_of xs ++ entry_of e ∷ []
map_push [] e = refl
map_push (x ∷ xs) e = ap (λ (es : List Entry). entry_of x ∷ es) (map_push xs e)

last_is : (xs : List code_entry.Entry) (e d : code_entry.Entry) → get_or (xs ++ e ∷ []) (length xs) d ≡ e
last_is [] e d = refl
last_is (x ∷ xs) e d = last_is xs e d

-- the one that is read behind the others is the one that was pushed
pub one_more : (before after : List code_entry.Entry) (e x : code_entry.Entry) (place : ℕ) → place ≡ length before → after ≡ before ++ e ∷ [] → x ≡ get_or after place x → map entry_of before ++ entry_of x ∷ [] ≡ map entry_of after
one_more before after e x place at pushed read =
    let is : x ≡ e = read ∙ ap₂ (λ (l : List code_entry.Entry) (i : ℕ). get_or l i x) pushed at ∙ last_is before e x in
    ap (λ (y : code_entry.Entry). map entry_of before ++ entry_of y ∷ []) is ∙ sym (map_push before e) ∙ sym (ap (map entry_of) pushed)

take_all : (xs : List code_entry.Entry) (e : code_entry.Entry) → take (length xs) (xs ++ e ∷ []) ≡ xs
take_all [] e = refl
take_all (x ∷ xs) e = ap (λ (es : List code_entry.Entry). x ∷ es) (take_all xs e)

-- it is popped again
pub all_but_last : (before pushed popped : List code_entry.Entry) (e : code_entry.Entry) → pushed ≡ before ++ e ∷ [] → popped ≡ take (length pushed - 1) pushed → map entry_of before ≡ map entry_of popped
all_but_last before pushed popped e is rest =
    let long : length pushed - 1 ≡ length before = (let n = ap length is in let m = length-append before (e ∷ []) in omega (arith, n, m)) in
    ap (map entry_of) (sym (take_all before e) ∙ sym (ap₂ (λ (i : ℕ) (l : List code_entry.Entry). take i l) long is) ∙ sym rest)

pub many_of : (xs : List code_entry.Entry) (n : ℕ) → n ≡ length xs → n ≡ length (map entry_of xs)
many_of xs n is = is ∙ sym (length-map xs entry_of)

pub long : {A : Type 0} (v : Vec A) → vec_len v ≡ length v.items
long v = omega (arith, v.ok.0)

-- ---- an entry that is read

abbrev pub no_entry : Entry
no_entry = record { keys = []; action = 0; args = []; priority = 0 }

-- what is lent at a place is the entry there
pub read_entry : (xs : List code_entry.Entry) (i : ℕ) (o : Option (Bor code_entry.Entry)) (d : Entry) → IfSome o (λ b. b.now ≡ get_or xs i b.now) → is_some o ≡ nat_lt i (length xs) → i < length xs → option_map entry_of (lent o) ≡ Some (get_or (map entry_of xs) i d)
read_entry xs i None d at some lt = (let within : nat_lt i (length xs) ≡ true = grind (arith, lt) in absurd (false≢true (some ∙ within)))
read_entry xs i (Some b) d at some lt = ap (λ (e : code_entry.Entry). Some (entry_of e)) at ∙ ap Some (sym (get_or-map entry_of xs i b.now d lt))

pub many_below : (xs : List code_entry.Entry) (i : ℕ) → i < length (map entry_of xs) → i < length xs
many_below xs i lt = (let n = length-map xs entry_of in omega (arith, lt, n))
