-- Rows of names, and the table of their places.
use Rattle.std.proofs.Common.{◌≡◌, ℕ, zero, suc, ◌<◌, Bool, true, false, cond, nat_lt, get_or, List, [], ◌∷◌, ◌++◌, map, reverse, length, slice_get, Option, Some, None, is_some, String, string_bytes, option_map, option_copied, Bor, ◌||◌, refl, sym, ap, ◌∙◌, arith, if◌then◌else◌}
use Rattle.std.proofs.lemmas.List.{map-append, reverse-append, reverse-reverse, length-reverse}
use Rattle.std.proofs.lemmas.Bool.{ltb-true, ltb-false}
use Rattle.std.proofs.lemmas.Option.{same_Some, slice_get_read, slice_get_past}
use Rattle.std.proofs.lemmas.Slice.Eq.{bytes_eq-Decides}
use Rattle.std.specs.Str.{bytes_eq}
use Rattle.std.specs.declared.alloc.Global.{Global}
use Rattle.indexmap.specs.IndexMap.{insert_entry}
use Rattle.lex_text.specs.Names.{same_text}
use Rattle.p4_tree.specs.declared.statement.PTy.{PTy}
use Rattle.p4_tree.specs.declared.statement.PTy.TheVariants as type
use Rattle.bit_values.specs.Bits.{Word}
use Rattle.p4_meaning.specs.Scope.{is_among, constant_named, type_named}
use Rattle.p4_resolved.specs.Rows.{named, place_in, at_name}
use Rattle.p4_resolved.specs.Lent.{lent}
use Rattle.p4_resolved.specs.Scopes.{rows_of, constants_in, types_in, type_or}
use Rattle.p4_resolved.specs.declared.layer.Layer.{Layer}

-- ---- a table with one entry more

abbrev pub same_keys : String Global → String Global → Bool
same_keys a b = bytes_eq (string_bytes a) (string_bytes b)

-- one entry that is new or replaced
pub set_entry : {V : Type 0} (es : List (String Global × V)) (k : String Global) (v : V) (x : List ℕ) → at_name (insert_entry same_keys es k v) x ≡ cond (bytes_eq x (string_bytes k)) (Some v) (at_name es x)
set_entry [] k v x = refl
set_entry (e ∷ es) k v x = by (same_keys k e.0) refl (bytes_eq x (string_bytes e.0)) refl (bytes_eq x (string_bytes k)) refl (set_entry es k v x)
  where
    by : (b : Bool) → same_keys k e.0 ≡ b → (c : Bool) → bytes_eq x (string_bytes e.0) ≡ c → (d : Bool) → bytes_eq x (string_bytes k) ≡ d
        → at_name (insert_entry same_keys es k v) x ≡ cond (bytes_eq x (string_bytes k)) (Some v) (at_name es x)
        → at_name (cond b ((e.0, v) ∷ es) (e ∷ insert_entry same_keys es k v)) x ≡ cond (bytes_eq x (string_bytes k)) (Some v) (cond (bytes_eq x (string_bytes e.0)) (Some e.1) (at_name es x))
    by true p c q d r ih =
        let same : bytes_eq x (string_bytes e.0) ≡ bytes_eq x (string_bytes k) = ap (bytes_eq x) (sym ((bytes_eq-Decides (string_bytes k) (string_bytes e.0)).0 p)) in
        ap (λ (b : Bool). cond b (Some v) (at_name es x)) same ∙ either (bytes_eq x (string_bytes k)) (bytes_eq x (string_bytes e.0)) same
      where
        either : (f g : Bool) → g ≡ f → cond f (Some v) (at_name es x) ≡ cond f (Some v) (cond g (Some e.1) (at_name es x))
        either true g h = refl
        either false g h = sym (ap (λ (b : Bool). cond b (Some e.1) (at_name es x)) h)
    by false p true q true r ih =
        let k_is : x ≡ string_bytes k = (bytes_eq-Decides x (string_bytes k)).0 r in
        let e_is : x ≡ string_bytes e.0 = (bytes_eq-Decides x (string_bytes e.0)).0 q in
        absurd (let c : true ≡ false = sym ((bytes_eq-Decides (string_bytes k) (string_bytes e.0)).1 (sym k_is ∙ e_is)) ∙ p in cc)
    by false p true q false r ih =
        ap (λ (b : Bool). cond b (Some e.1) (at_name (insert_entry same_keys es k v) x)) q
        ∙ sym (ap (λ (b : Bool). cond b (Some v) (cond (bytes_eq x (string_bytes e.0)) (Some e.1) (at_name es x))) r ∙ ap (λ (b : Bool). cond b (Some e.1) (at_name es x)) q)
    by false p false q d r ih =
        ap (λ (b : Bool). cond b (Some e.1) (at_name (insert_entry same_keys es k v) x)) q ∙ ih
        ∙ sym (ap (λ (b : Bool). cond (bytes_eq x (string_bytes k)) (Some v) (cond b (Some e.1) (at_name es x))) q)

-- whichever text stands first
pub flip : (x y : List ℕ) → bytes_eq x y ≡ same_text y x
flip x y = by (bytes_eq x y) refl (same_text y x) refl
  where
    by : (a : Bool) → bytes_eq x y ≡ a → (b : Bool) → same_text y x ≡ b → bytes_eq x y ≡ same_text y x
    by true e true f = e ∙ sym f
    by false e false f = e ∙ sym f
    by true e false f = absurd (let c : true ≡ false = sym ((bytes_eq-Decides y x).1 (sym ((bytes_eq-Decides x y).0 e))) ∙ f in cc)
    by false e true f = absurd (let c : true ≡ false = sym ((bytes_eq-Decides x y).1 (sym ((bytes_eq-Decides y x).0 f))) ∙ e in cc)

-- ---- places

-- what the row at a place holds
abbrev pub held : {T : Type 0} → List (List ℕ × T) → Option ℕ → Option T
held rows None = None
held rows (Some i) = option_map (λ r. r.1) (slice_get rows i)

cons_back : {T : Type 0} (r : T) (rs : List T) → reverse (r ∷ rs) ≡ reverse rs ++ r ∷ []
cons_back r rs = reverse-append (r ∷ []) rs

pub one_front : {T : Type 0} (rs : List T) (r : T) → reverse (rs ++ r ∷ []) ≡ r ∷ reverse rs
one_front rs r = reverse-append rs (r ∷ [])

at_front : {A : Type 0} (xs ys : List A) (i : ℕ) → i < length xs → slice_get (xs ++ ys) i ≡ slice_get xs i
at_front [] ys i h = absurd (omega (arith, h))
at_front (x ∷ xs) ys zero h = refl
at_front (x ∷ xs) ys (suc i) h = at_front xs ys i (omega (arith, h))

at_end : {A : Type 0} (xs : List A) (y : A) → slice_get (xs ++ y ∷ []) (length xs) ≡ Some y
at_end [] y = refl
at_end (x ∷ xs) y = at_end xs y

within : {T : Type 0} (rs : List (List ℕ × T)) (x : List ℕ) (i : ℕ) → place_in rs x ≡ Some i → i < length rs
within [] x i h = absurd (let n : None ≡ Some i = h in cc)
within (r ∷ rs) x i h = by (same_text r.0 x) (within rs x i) h
  where
    by : (b : Bool) → (place_in rs x ≡ Some i → i < length rs) → (if b then Some (length rs) else place_in rs x) ≡ Some i → i < length (r ∷ rs)
    by true rest e = let same : length rs ≡ i = same_Some (length rs) i e in omega (arith, same)
    by false rest e = let lt : i < length rs = rest e in omega (arith, lt)

-- the row at the place of a name is its nearest
pub found : {T : Type 0} (rs : List (List ℕ × T)) (x : List ℕ) → held (reverse rs) (place_in rs x) ≡ named rs x
found [] x = refl
found {T} (r ∷ rs) x = ap (λ l. held l (place_in (r ∷ rs) x)) (cons_back r rs) ∙ by (same_text r.0 x) (found rs x)
  where
    front : (o : Option ℕ) → place_in rs x ≡ o → held (reverse rs ++ r ∷ []) o ≡ held (reverse rs) o
    front None h = refl
    front (Some i) h =
        let lt : i < length rs = within rs x i h in
        let same : length (reverse rs) ≡ length rs = length-reverse rs in
        ap (option_map (λ (q : List ℕ × T). q.1)) (at_front (reverse rs) (r ∷ []) i (omega (arith, lt, same)))

    by : (b : Bool) → held (reverse rs) (place_in rs x) ≡ named rs x → held (reverse rs ++ r ∷ []) (if b then Some (length rs) else place_in rs x) ≡ (if b then Some r.1 else named rs x)
    by true rest = ap (option_map (λ (q : List ℕ × T). q.1)) (ap (slice_get (reverse rs ++ r ∷ [])) (sym (length-reverse rs)) ∙ at_end (reverse rs) r)
    by false rest = front (place_in rs x) refl ∙ rest

-- what a table tells of the rows in order
pub row_found : {T : Type 0} (rows : List (List ℕ × T)) (es : List (String Global × ℕ)) (x : List ℕ) (o : Option ℕ) → ((y : List ℕ) → at_name es y ≡ place_in (reverse rows) y) → at_name es x ≡ o
    → held rows o ≡ named (reverse rows) x
row_found rows es x o told is =
    ap (held rows) (sym is ∙ told x) ∙ ap (λ l. held l (place_in (reverse rows) x)) (sym (reverse-reverse rows)) ∙ found (reverse rows) x

-- a row more, and its place in the table
pub place_more : {T : Type 0} (rows new : List (List ℕ × T)) (r : List ℕ × T) (es fs : List (String Global × ℕ)) (key : String Global) (n : ℕ)
    → ((y : List ℕ) → at_name es y ≡ place_in (reverse rows) y) → new ≡ rows ++ r ∷ [] → string_bytes key ≡ r.0 → n ≡ length rows → fs ≡ insert_entry same_keys es key n
    → (x : List ℕ) → at_name fs x ≡ place_in (reverse new) x
place_more rows new r es fs key n told items named count set x =
    ap (λ l. at_name l x) set ∙ set_entry es key n x
    ∙ ap (λ y. cond (bytes_eq x y) (Some n) (at_name es x)) named
    ∙ ap (λ (b : Bool). cond b (Some n) (at_name es x)) (flip x r.0)
    ∙ ap (λ (o : Option ℕ). cond (same_text r.0 x) (Some n) o) (told x)
    ∙ ap (λ (m : ℕ). cond (same_text r.0 x) (Some m) (place_in (reverse rows) x)) (count ∙ sym (length-reverse rows))
    ∙ ap (λ l. place_in l x) (sym (one_front rows r))
    ∙ ap (λ l. place_in (reverse l) x) (sym items)

-- ---- names alone

-- a name is among those of rows where a row is found
pub among : {T : Type 0} (rows : List (List ℕ × T)) (x : List ℕ) → is_some (named (reverse rows) x) ≡ is_among (map (λ r. r.0) rows) x
among {T} rows x = back (reverse rows) ∙ ap (λ l. is_among (map (λ (r : List ℕ × T). r.0) l) x) (reverse-reverse rows)
  where
    either : (a b : Bool) → (a || (b || false)) ≡ (b || a)
    either true true = refl
    either true false = refl
    either false true = refl
    either false false = refl

    more : (ys : List (List ℕ)) (y : List ℕ) → is_among (ys ++ y ∷ []) x ≡ (is_among ys x || (same_text y x || false))
    more [] y = refl
    more (z ∷ zs) y = by (same_text z x) (more zs y)
      where
        by : (b : Bool) → is_among (zs ++ y ∷ []) x ≡ (is_among zs x || (same_text y x || false)) → (b || is_among (zs ++ y ∷ []) x) ≡ ((b || is_among zs x) || (same_text y x || false))
        by true rest = refl
        by false rest = rest

    back : (rs : List (List ℕ × T)) → is_some (named rs x) ≡ is_among (map (λ (r : List ℕ × T). r.0) (reverse rs)) x
    back [] = refl
    back (r ∷ rs) =
        by (same_text r.0 x) (back rs) ∙ sym (either (is_among (map (λ (q : List ℕ × T). q.0) (reverse rs)) x) (same_text r.0 x))
        ∙ sym (more (map (λ (q : List ℕ × T). q.0) (reverse rs)) r.0)
        ∙ ap (λ l. is_among l x) (sym (map-append (λ (q : List ℕ × T). q.0) (reverse rs) (r ∷ [])))
        ∙ ap (λ l. is_among (map (λ (q : List ℕ × T). q.0) l) x) (sym (cons_back r rs))
      where
        by : (b : Bool) → is_some (named rs x) ≡ is_among (map (λ (q : List ℕ × T). q.0) (reverse rs)) x → is_some (if b then Some r.1 else named rs x) ≡ (b || is_among (map (λ (q : List ℕ × T). q.0) (reverse rs)) x)
        by true rest = refl
        by false rest = rest

-- ---- the nearest of two layers

pub constant_near : (xs ys : List (List ℕ × Word)) (x : List ℕ) (w : Word) → named xs x ≡ Some w → constant_named (xs ++ ys) x ≡ Some w
constant_near [] ys x w h = absurd (let n : None ≡ Some w = h in cc)
constant_near (r ∷ rs) ys x w h = by (same_text r.0 x) (constant_near rs ys x w) h
  where
    by : (b : Bool) → (named rs x ≡ Some w → constant_named (rs ++ ys) x ≡ Some w) → (if b then Some r.1 else named rs x) ≡ Some w → (if b then Some r.1 else constant_named (rs ++ ys) x) ≡ Some w
    by true rest e = e
    by false rest e = rest e

pub constant_far : (xs ys : List (List ℕ × Word)) (x : List ℕ) → named xs x ≡ None → constant_named (xs ++ ys) x ≡ named ys x
constant_far [] [] x h = refl
constant_far [] (r ∷ rs) x h = ap (λ (o : Option Word). if same_text r.0 x then Some r.1 else o) (constant_far [] rs x refl)
constant_far (r ∷ rs) ys x h = by (same_text r.0 x) (constant_far rs ys x) h
  where
    by : (b : Bool) → (named rs x ≡ None → constant_named (rs ++ ys) x ≡ named ys x) → (if b then Some r.1 else named rs x) ≡ None → (if b then Some r.1 else constant_named (rs ++ ys) x) ≡ named ys x
    by true rest e = absurd (let n : None ≡ Some r.1 = sym e in cc)
    by false rest e = rest e

pub type_near : (xs ys : List (List ℕ × PTy)) (x : List ℕ) (t : PTy) → named xs x ≡ Some t → type_named (xs ++ ys) x ≡ t
type_near [] ys x t h = absurd (let n : None ≡ Some t = h in cc)
type_near (r ∷ rs) ys x t h = by (same_text r.0 x) (type_near rs ys x t) h
  where
    by : (b : Bool) → (named rs x ≡ Some t → type_named (rs ++ ys) x ≡ t) → (if b then Some r.1 else named rs x) ≡ Some t → (if b then r.1 else type_named (rs ++ ys) x) ≡ t
    by true rest e = same_Some r.1 t e
    by false rest e = rest e

pub type_far : (xs ys : List (List ℕ × PTy)) (x : List ℕ) → named xs x ≡ None → type_named (xs ++ ys) x ≡ type_or x (named ys x)
type_far [] [] x h = refl
type_far [] (r ∷ rs) x h = by (same_text r.0 x) (type_far [] rs x refl)
  where
    by : (b : Bool) → type_named rs x ≡ type_or x (named rs x) → (if b then r.1 else type_named rs x) ≡ type_or x (if b then Some r.1 else named rs x)
    by true rest = refl
    by false rest = rest
type_far (r ∷ rs) ys x h = by (same_text r.0 x) (type_far rs ys x) h
  where
    by : (b : Bool) → (named rs x ≡ None → type_named (rs ++ ys) x ≡ type_or x (named ys x)) → (if b then Some r.1 else named rs x) ≡ None → (if b then r.1 else type_named (rs ++ ys) x) ≡ type_or x (named ys x)
    by true rest e = absurd (let n : None ≡ Some r.1 = sym e in cc)
    by false rest e = rest e

-- ---- what is read of rows at a place

pub row_read : {T : Type 0} (ds rows : List (List ℕ × T)) (i : ℕ) (r : List ℕ × T) → ds ≡ rows → true ≡ nat_lt i (length ds) → r ≡ get_or ds i r → Some r.1 ≡ held rows (Some i)
row_read {T} ds rows i r same there is =
    ap (option_map (λ (q : List ℕ × T). q.1)) (sym (ap (λ l. slice_get l i) (sym same) ∙ slice_get_read ds (length ds) i r refl (ltb-true i (length ds) (sym there)) is))

pub row_past : {T : Type 0} (ds rows : List (List ℕ × T)) (i : ℕ) → ds ≡ rows → false ≡ nat_lt i (length ds) → None ≡ held rows (Some i)
row_past {T} ds rows i same past =
    ap (option_map (λ (q : List ℕ × T). q.1)) (sym (ap (λ l. slice_get l i) (sym same) ∙ slice_get_past ds i (ltb-false i (length ds) (sym past))))

-- ---- what is in sight in a part of a program, and above it

pub copied_lent : {T : Type 0} (o : Option (Bor T)) → option_copied o ≡ lent o
copied_lent None = refl
copied_lent (Some x) = refl

pub constant_here : (o : Option Layer) (l : Layer) (x : List ℕ) (w : Word) → Some w ≡ named (rows_of l.constants) x → Some w ≡ constant_named (constants_in o l) x
constant_here None l x w h = h ∙ sym (constant_far [] (rows_of l.constants) x refl)
constant_here (Some t) l x w h = sym (constant_near (rows_of l.constants) (rows_of t.constants) x w (sym h))

pub constant_above : (o : Option Layer) (t l : Layer) (x : List ℕ) → o ≡ Some t → None ≡ named (rows_of l.constants) x → named (rows_of t.constants) x ≡ constant_named (constants_in o l) x
constant_above o t l x is h = sym (constant_far (rows_of l.constants) (rows_of t.constants) x (sym h)) ∙ ap (λ (p : Option Layer). constant_named (constants_in p l) x) (sym is)

pub constant_nowhere : (o : Option Layer) (l : Layer) (x : List ℕ) → o ≡ None → None ≡ named (rows_of l.constants) x → None ≡ constant_named (constants_in o l) x
constant_nowhere o l x is h = h ∙ sym (constant_far [] (rows_of l.constants) x refl) ∙ ap (λ (p : Option Layer). constant_named (constants_in p l) x) (sym is)

pub type_here : (o : Option Layer) (l : Layer) (x : List ℕ) (t : PTy) → Some t ≡ named (rows_of l.types) x → t ≡ type_named (types_in o l) x
type_here None l x t h = ap (type_or x) h ∙ sym (type_far [] (rows_of l.types) x refl)
type_here (Some s) l x t h = sym (type_near (rows_of l.types) (rows_of s.types) x t (sym h))

pub type_above : (o : Option Layer) (t l : Layer) (x : List ℕ) → o ≡ Some t → None ≡ named (rows_of l.types) x → type_or x (named (rows_of t.types) x) ≡ type_named (types_in o l) x
type_above o t l x is h = sym (type_far (rows_of l.types) (rows_of t.types) x (sym h)) ∙ ap (λ (p : Option Layer). type_named (types_in p l) x) (sym is)

pub type_nowhere : (o : Option Layer) (l : Layer) (x : List ℕ) → o ≡ None → None ≡ named (rows_of l.types) x → type.Named x ≡ type_named (types_in o l) x
type_nowhere o l x is h = ap (type_or x) h ∙ sym (type_far [] (rows_of l.types) x refl) ∙ ap (λ (p : Option Layer). type_named (types_in p l) x) (sym is)
