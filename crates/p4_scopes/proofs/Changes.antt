-- A scope with one declaration more, and with one less.
use Rattle.std.proofs.Common.{◌≡◌, ℕ, zero, suc, ◌+◌, ◌-◌, ◌<◌, ◌≤◌, min, Bool, true, false, cond, nat_eq, nat_lt, List, [], ◌∷◌, ◌++◌, map, take, drop, drop-cons, length, Option, Some, None, is_some, Result, Ok, Err, Bor, get_or, slice_get, refl, sym, ap, subst, ◌∙◌, arith}
use Rattle.std.proofs.Math.Nat.{min-le_right, min-eq_left, min-eq_right}
use Rattle.std.proofs.Math.Seq.{take-suc, take-append_seam}
use Rattle.std.proofs.lemmas.Bool.{ltb-true, ltb-false}
use Rattle.std.proofs.lemmas.List.{map-append, length-map, take-append-le, drop_all}
use Rattle.std.proofs.lemmas.Option.{same_Some, slice_get_within}
use Rattle.std.proofs.lemmas.Slice.Eq.{bytes_eq-Decides}
use Rattle.std.specs.Cmp.Lexicographic.{pointwise}
use Rattle.std.specs.Map.{lookup}
use Rattle.std.specs.Result.{OnOk, OnErr}
use Rattle.lex_text.specs.Names.{same_text}
use Rattle.p4_tree.specs.declared.statement.PTy.{PTy}
use Rattle.p4_scopes.specs.Kinds.{width_in}
use Rattle.p4_scopes.specs.Scopes.{Scope, What, declare, kind_in, kinds_in, add_up, fields_bits}
use Rattle.p4_scopes.specs.View.{Declaration, scope_of}
use Rattle.p4_scopes.specs.Resolving.{last_at, resolve, field_resolved}
use Rattle.p4_scopes.specs.Entries.{table_at, what_in, declaration_of, IsFieldTable, IsKnown}
use Rattle.p4_scopes.specs.Kept.{declarations, in_sight, IsEntry, AreEntries, IsKept}
use Rattle.p4_scopes.specs.declared.kind.Kind.{Kind}
use Rattle.p4_scopes.specs.declared.resolved.Resolved.{Resolved}
use Rattle.p4_scopes.specs.declared.entry.Entry as code_entry
use Rattle.p4_scopes.specs.declared.scope.Scope.TheInside.{Inside}
use Rattle.p4_scopes.proofs.Lists.{at_front, at_end}
use Rattle.p4_scopes.proofs.Found.{last_push, scope_push}

-- ---- loops

pub one_taken : {A : Type 0} (xs : List A) (i : ℕ) (x : A) → i < length xs → x ≡ get_or xs i x → take (i + 1) xs ≡ take i xs ++ x ∷ []
one_taken xs i x lt is =
    let more : i + 1 ≡ suc i = omega arith in
    ap (λ (m : ℕ). take m xs) more ∙ take-suc xs i x lt ∙ ap (λ y. take i xs ++ y ∷ []) (sym is)

kinds_more : (s : Scope) (ps : List (PTy × List ℕ)) (p : PTy × List ℕ) → kinds_in s (ps ++ p ∷ []) ≡ kinds_in s ps ++ kind_in s p.0 ∷ []
kinds_more s [] p = refl
kinds_more s (q ∷ ps) p = ap (λ ks. kind_in s q.0 ∷ ks) (kinds_more s ps p)

-- the kind of one parameter more
pub kinds_push : (s : Scope) (ps : List (PTy × List ℕ)) (i : ℕ) (p : PTy × List ℕ) (ks : List Kind) (k : Kind) → i < length ps → p ≡ get_or ps i p → ks ≡ kinds_in s (take i ps) → k ≡ kind_in s p.0
    → ks ++ k ∷ [] ≡ kinds_in s (take (i + 1) ps)
kinds_push s ps i p ks k lt is so this =
    ap (λ js. js ++ k ∷ []) so ∙ ap (λ j. kinds_in s (take i ps) ++ j ∷ []) this
    ∙ sym (kinds_more s (take i ps) p) ∙ ap (kinds_in s) (sym (one_taken ps i p lt is))

-- ---- tables

-- what the contract of `insert` says of each key, said of texts
pub table_set : {V : Type 0} (old new : List (Bor (List ℕ) × V)) (key : Bor (List ℕ)) (v : V)
    → ((q : Bor (List ℕ)) → lookup (λ k. pointwise nat_eq q.now k.now) new ≡ cond (pointwise nat_eq key.now q.now) (Some v) (lookup (λ k. pointwise nat_eq q.now k.now) old))
    → (x : List ℕ) → table_at new x ≡ cond (same_text key.now x) (Some v) (table_at old x)
table_set old new key v h x = h (record key { now = x })

same_texts : (a x : List ℕ) → same_text a x ≡ true → a ≡ x
same_texts a x h = (bytes_eq-Decides a x).0 h

one_text : (x : List ℕ) → same_text x x ≡ true
one_text x = (bytes_eq-Decides x x).1 refl

abbrev first : Option Resolved → Option Resolved → Option Resolved
first None p = p
first (Some r) p = Some r

fields_more : (ds : List Declaration) (fs : List (PTy × List ℕ)) (f : PTy × List ℕ) (y : List ℕ) (o : Option Resolved) → field_resolved ds fs y ≡ o
    → field_resolved ds (fs ++ f ∷ []) y ≡ first o (cond (same_text f.1 y) (Some (resolve ds f.0)) None)
fields_more ds [] f y o h = ap (λ (p : Option Resolved). first p (cond (same_text f.1 y) (Some (resolve ds f.0)) None)) h
fields_more ds (g ∷ fs) f y o h = step (same_text g.1 y) (resolve ds g.0) (field_resolved ds fs y) _ (fields_more ds fs f y (field_resolved ds fs y) refl) ∙ ap (λ (p : Option Resolved). first p (cond (same_text f.1 y) (Some (resolve ds f.0)) None)) h
  where
    step : (b : Bool) (r : Resolved) (p q : Option Resolved) → field_resolved ds (fs ++ f ∷ []) y ≡ first p q → cond b (Some r) (field_resolved ds (fs ++ f ∷ []) y) ≡ first (cond b (Some r) p) q
    step true r p q e = refl
    step false r p q e = e

-- a field whose name is in the table already
pub field_again : (ds : List Declaration) (fs : List (PTy × List ℕ)) (i : ℕ) (f : PTy × List ℕ) (es : List (Bor (List ℕ) × Resolved)) → i < length fs → f ≡ get_or fs i f
    → IsFieldTable ds (take i fs) es → (x : List ℕ) → x ≡ f.1 → is_some (table_at es x) ≡ true → IsFieldTable ds (take (i + 1) fs) es
field_again ds fs i f es lt is so x named there y =
    so y
    ∙ again (same_text f.1 y) refl (field_resolved ds (take i fs) y) refl
    ∙ sym (fields_more ds (take i fs) f y (field_resolved ds (take i fs) y) refl)
    ∙ ap (λ (gs : List (PTy × List ℕ)). field_resolved ds gs y) (sym (one_taken fs i f lt is))
  where
    again : (b : Bool) → same_text f.1 y ≡ b → (o : Option Resolved) → field_resolved ds (take i fs) y ≡ o → o ≡ first o (cond b (Some (resolve ds f.0)) None)
    again b e (Some s) h = refl
    again false e None h = refl
    again true e None h =
        let P : List ℕ → Type 0 = λ z. is_some (table_at es z) ≡ true in
        let none : true ≡ false = sym (subst P (named ∙ same_texts f.1 y e) there) ∙ ap (λ (o : Option Resolved). is_some o) (so y ∙ h) in
        absurd (let n : true ≡ false = none in cc)

-- a field with a new name
pub field_new : (ds : List Declaration) (fs : List (PTy × List ℕ)) (i : ℕ) (f : PTy × List ℕ) (es new : List (Bor (List ℕ) × Resolved)) (r : Resolved) → i < length fs → f ≡ get_or fs i f
    → IsFieldTable ds (take i fs) es → (x : List ℕ) → x ≡ f.1 → is_some (table_at es x) ≡ false → r ≡ resolve ds f.0
    → ((y : List ℕ) → table_at new y ≡ cond (same_text x y) (Some r) (table_at es y)) → IsFieldTable ds (take (i + 1) fs) new
field_new ds fs i f es new r lt is so x named out this set y =
    set y
    ∙ ap (λ (z : List ℕ). cond (same_text z y) (Some r) (table_at es y)) named
    ∙ fresh (same_text f.1 y) refl
    ∙ sym (fields_more ds (take i fs) f y (field_resolved ds (take i fs) y) refl)
    ∙ ap (λ (gs : List (PTy × List ℕ)). field_resolved ds gs y) (sym (one_taken fs i f lt is))
  where
    no_field : (o : Option Resolved) → is_some o ≡ false → o ≡ None
    no_field None h = refl
    no_field (Some s) h = absurd (let n : true ≡ false = h in cc)

    none_first : (p : Option Resolved) → first p None ≡ p
    none_first None = refl
    none_first (Some s) = refl

    fresh : (b : Bool) → same_text f.1 y ≡ b → cond b (Some r) (table_at es y) ≡ first (field_resolved ds (take i fs) y) (cond b (Some (resolve ds f.0)) None)
    fresh false e = so y ∙ sym (none_first (field_resolved ds (take i fs) y))
    fresh true e =
        let P : List ℕ → Type 0 = λ z. is_some (table_at es z) ≡ false in
        let none : None ≡ field_resolved ds (take i fs) y = sym (no_field (field_resolved ds (take i fs) y) (sym (ap (λ (o : Option Resolved). is_some o) (so y)) ∙ subst P (named ∙ same_texts f.1 y e) out)) in
        ap Some this ∙ ap (λ (p : Option Resolved). first p (Some (resolve ds f.0))) none

-- ---- one declaration more

abbrev pub Named : (es : List code_entry.Entry) → (names : List (Bor (List ℕ) × Option ℕ)) → Type 0
Named es names = (x : List ℕ) → in_sight (table_at names x) ≡ last_at (map declaration_of es) x

pub declared_push : (es : List code_entry.Entry) (e : code_entry.Entry) → map declaration_of (es ++ e ∷ []) ≡ map declaration_of es ++ declaration_of e ∷ []
declared_push es e = map-append declaration_of es (e ∷ [])

sight_cond : (b : Bool) (i : Option ℕ) (o : Option (Option ℕ)) → in_sight (cond b (Some i) o) ≡ cond b i (in_sight o)
sight_cond true i o = refl
sight_cond false i o = refl

pub named_push : (es : List code_entry.Entry) (e : code_entry.Entry) (old new : List (Bor (List ℕ) × Option ℕ)) (n : ℕ) → n ≡ length es → Named es old
    → ((x : List ℕ) → table_at new x ≡ cond (same_text e.name.now x) (Some (Some n)) (table_at old x)) → Named (es ++ e ∷ []) new
named_push es e old new n count so set x =
    ap in_sight (set x) ∙ sight_cond (same_text e.name.now x) (Some n) (table_at old x)
    ∙ ap (λ (o : Option ℕ). cond (same_text e.name.now x) (Some n) o) (so x)
    ∙ ap (λ (m : ℕ). cond (same_text e.name.now x) (Some m) (last_at (map declaration_of es) x)) (count ∙ sym (length-map es declaration_of))
    ∙ sym (last_push (map declaration_of es) (declaration_of e) x)
    ∙ ap (λ (ds : List Declaration). last_at ds x) (sym (declared_push es e))

one_longer : {A : Type 0} (xs : List A) (x : A) → length (xs ++ x ∷ []) ≡ length xs + 1
one_longer [] x = refl
one_longer (y ∷ xs) x = let e : length (xs ++ x ∷ []) ≡ length xs + 1 = one_longer xs x in omega (arith, e)

pub entries_push : (es : List code_entry.Entry) (e : code_entry.Entry) → AreEntries es → IsEntry (map declaration_of es) e → AreEntries (es ++ e ∷ [])
entries_push es e all this i f there = by (nat_lt i (length es)) refl
  where
    by : (b : Bool) → nat_lt i (length es) ≡ b → IsEntry (take i (map declaration_of (es ++ e ∷ []))) f
    by true h =
        let lt : i < length es = ltb-true i (length es) h in
        let len : length (map declaration_of es) ≡ length es = length-map es declaration_of in
        let le : i ≤ length (map declaration_of es) = omega (arith, lt, len) in
        let front : take i (map declaration_of (es ++ e ∷ [])) ≡ take i (map declaration_of es) = ap (take i) (declared_push es e) ∙ take-append-le i (map declaration_of es) (declaration_of e ∷ []) le in
        let P : List Declaration → Type 0 = λ ds. IsEntry ds f in
        subst P (sym front) (all i f (sym (at_front es (e ∷ []) i lt) ∙ there))
    by false h =
        let past : length es ≤ i = ltb-false i (length es) h in
        let within : i < length (es ++ e ∷ []) = slice_get_within (es ++ e ∷ []) i f there in
        let longer : length (es ++ e ∷ []) ≡ length es + 1 = one_longer es e in
        let last : length es ≡ i = omega (arith, past, within, longer) in
        let same : e ≡ f = same_Some e f (sym (at_end es e []) ∙ ap (slice_get (es ++ e ∷ [])) last ∙ there) in
        let len : length (map declaration_of es) ≡ i = length-map es declaration_of ∙ last in
        let front : take i (map declaration_of (es ++ e ∷ [])) ≡ map declaration_of es =
        ap (take i) (declared_push es e) ∙ ap (λ (m : ℕ). take m (map declaration_of es ++ declaration_of e ∷ [])) (sym len) ∙ take-append_seam (map declaration_of es) (declaration_of e ∷ []) in
        let P : List Declaration → Type 0 = λ ds. IsEntry ds f in
        let Q : code_entry.Entry → Type 0 = λ d. IsEntry (map declaration_of es) d in
        subst P (sym front) (subst Q same this)

-- ---- one declaration less

pub entries_less : (es : List code_entry.Entry) (e : code_entry.Entry) → AreEntries (es ++ e ∷ []) → AreEntries es
entries_less es e all i f there =
    let lt : i < length es = slice_get_within es i f there in
    let len : length (map declaration_of es) ≡ length es = length-map es declaration_of in
    let le : i ≤ length (map declaration_of es) = omega (arith, lt, len) in
    let front : take i (map declaration_of (es ++ e ∷ [])) ≡ take i (map declaration_of es) = ap (take i) (declared_push es e) ∙ take-append-le i (map declaration_of es) (declaration_of e ∷ []) le in
    let P : List Declaration → Type 0 = λ ds. IsEntry ds f in
    subst P front (all i f (at_front es (e ∷ []) i lt ∙ there))

-- the last entry, behind those before it
pub last_entry : (es : List code_entry.Entry) (e : code_entry.Entry) → AreEntries (es ++ e ∷ []) → IsEntry (map declaration_of es) e
last_entry es e all =
    let len : length (map declaration_of es) ≡ length es = length-map es declaration_of in
    let front : take (length es) (map declaration_of (es ++ e ∷ [])) ≡ map declaration_of es =
    ap (take (length es)) (declared_push es e) ∙ ap (λ (m : ℕ). take m (map declaration_of es ++ declaration_of e ∷ [])) (sym len) ∙ take-append_seam (map declaration_of es) (declaration_of e ∷ []) in
    let P : List Declaration → Type 0 = λ ds. IsEntry ds e in
    subst P front (all (length es) e (at_end es e []))

pub named_less : (es : List code_entry.Entry) (e : code_entry.Entry) (old new : List (Bor (List ℕ) × Option ℕ)) → Named (es ++ e ∷ []) old → e.older ≡ last_at (map declaration_of es) e.name.now
    → ((x : List ℕ) → table_at new x ≡ cond (same_text e.name.now x) (Some e.older) (table_at old x)) → Named es new
named_less es e old new so older set x =
    ap in_sight (set x) ∙ sight_cond (same_text e.name.now x) e.older (table_at old x)
    ∙ ap (λ (o : Option ℕ). cond (same_text e.name.now x) e.older o) (so x ∙ ap (λ (ds : List Declaration). last_at ds x) (declared_push es e) ∙ last_push (map declaration_of es) (declaration_of e) x)
    ∙ back (same_text e.name.now x) refl
  where
    back : (b : Bool) → same_text e.name.now x ≡ b → cond b e.older (cond b (Some (length (map declaration_of es))) (last_at (map declaration_of es) x)) ≡ last_at (map declaration_of es) x
    back true h = older ∙ ap (last_at (map declaration_of es)) (same_texts e.name.now x h)
    back false h = refl

-- a name of the list is in the table
pub named_there : {P : Type 0} (es : List code_entry.Entry) (e : code_entry.Entry) (old : List (Bor (List ℕ) × Option ℕ)) → Named (es ++ e ∷ []) old → table_at old e.name.now ≡ None → P
named_there es e old so out =
    let last : last_at (map declaration_of (es ++ e ∷ [])) e.name.now ≡ cond (same_text e.name.now e.name.now) (Some (length (map declaration_of es))) (last_at (map declaration_of es) e.name.now) =
    ap (λ (ds : List Declaration). last_at ds e.name.now) (declared_push es e) ∙ last_push (map declaration_of es) (declaration_of e) e.name.now in
    let found : None ≡ Some (length (map declaration_of es)) =
    sym (ap in_sight out) ∙ so e.name.now ∙ last ∙ ap (λ (b : Bool). cond b (Some (length (map declaration_of es))) (last_at (map declaration_of es) e.name.now)) (one_text e.name.now) in
    absurd (let n : None ≡ Some (length (map declaration_of es)) = found in cc)

-- ---- a whole scope

-- a scope with one declaration more
pub kept_push : (s t : Inside) (ds : List Declaration) (e : code_entry.Entry) (n : ℕ) (key : Bor (List ℕ)) → IsKept s → declarations s ≡ ds → t.entries.items ≡ s.entries.items ++ e ∷ []
    → e.older ≡ last_at ds e.name.now → IsKnown ds e.declared → n ≡ length s.entries.items → key.now ≡ e.name.now
    → ((q : Bor (List ℕ)) → lookup (λ k. pointwise nat_eq q.now k.now) t.names.entries ≡ cond (pointwise nat_eq key.now q.now) (Some (Some n)) (lookup (λ k. pointwise nat_eq q.now k.now) s.names.entries))
    → IsKept t
kept_push s t ds e n key kept view items older known count named set =
    let P : List code_entry.Entry → Type 0 = λ es. AreEntries es in
    let Q : List code_entry.Entry → Type 0 = λ es. Named es t.names.entries in
    let O : List Declaration → Type 0 = λ cs. e.older ≡ last_at cs e.name.now in
    let K : List Declaration → Type 0 = λ cs. IsKnown cs e.declared in
    let R : List ℕ → Type 0 = λ a. (x : List ℕ) → table_at t.names.entries x ≡ cond (same_text a x) (Some (Some n)) (table_at s.names.entries x) in
    record {
      named = subst Q (sym items) (named_push s.entries.items e s.names.entries t.names.entries n count kept.named (subst R named (table_set s.names.entries t.names.entries key (Some n) set)));
      entries = subst P (sym items) (entries_push s.entries.items e kept.entries (record { older = subst O (sym view) older; known = subst K (sym view) known }));
    }

-- what is in sight in it
pub scope_more : (s t : Inside) (ds : List Declaration) (e : code_entry.Entry) (w : What) → declarations s ≡ ds → t.entries.items ≡ s.entries.items ++ e ∷ [] → what_in e.declared ≡ w
    → scope_of (declarations t) ≡ declare (scope_of ds) e.name.now w
scope_more s t ds e w view items this =
    ap (λ (es : List code_entry.Entry). scope_of (map declaration_of es)) items
    ∙ ap scope_of (declared_push s.entries.items e)
    ∙ scope_push (declarations s) (declaration_of e)
    ∙ ap (λ (cs : List Declaration). declare (scope_of cs) e.name.now (what_in e.declared)) view
    ∙ ap (declare (scope_of ds) e.name.now) this

-- a scope whose entries stay
pub kept_same : (s t : Inside) → IsKept s → t.entries.items ≡ s.entries.items → t.names.entries ≡ s.names.entries → IsKept t
kept_same s t kept items names =
    let P : List code_entry.Entry → Type 0 = λ es. AreEntries es in
    let Q : List code_entry.Entry → Type 0 = λ es. Named es t.names.entries in
    let R : List (Bor (List ℕ) × Option ℕ) → Type 0 = λ ns. Named s.entries.items ns in
    record { named = subst Q (sym items) (subst R (sym names) kept.named); entries = subst P (sym items) kept.entries }

ends_at : (es : List code_entry.Entry) (n : ℕ) (e : code_entry.Entry) → n ≡ length es - 1 → slice_get es n ≡ Some e → es ≡ take n es ++ e ∷ []
ends_at [] n e h g = absurd (let x : None ≡ Some e = g in cc)
ends_at (d ∷ []) n e h g =
    let zero_is : n ≡ 0 = omega (arith, h) in
    let P : ℕ → Type 0 = λ m. slice_get (d ∷ []) m ≡ Some e in
    ap (λ c. c ∷ []) (same_Some d e (subst P zero_is g)) ∙ ap (λ (m : ℕ). take m (d ∷ []) ++ e ∷ []) (sym zero_is)
ends_at (d ∷ c ∷ es) zero e h g = absurd (omega (arith, h))
ends_at (d ∷ c ∷ es) (suc n) e h g = ap (λ ds. d ∷ ds) (ends_at (c ∷ es) n e (omega (arith, h)) g)

abbrev Sets : (old new : Inside) → (key : Bor (List ℕ)) → Option ℕ → Type 0
Sets s t key v = (q : Bor (List ℕ)) → lookup (λ k. pointwise nat_eq q.now k.now) t.names.entries ≡ cond (pointwise nat_eq key.now q.now) (Some v) (lookup (λ k. pointwise nat_eq q.now k.now) s.names.entries)

-- a scope with one declaration less
pub kept_less : (s t : Inside) (e : code_entry.Entry) (n : ℕ) (key : Bor (List ℕ)) → IsKept s → n ≡ length s.entries.items - 1 → slice_get s.entries.items n ≡ Some e
    → t.entries.items ≡ take n s.entries.items → key.now ≡ e.name.now → Sets s t key e.older → IsKept t
kept_less s t e n key kept count there items named set =
    let whole = ends_at s.entries.items n e count there in
    let P : List code_entry.Entry → Type 0 = λ es. AreEntries es in
    let Q : List code_entry.Entry → Type 0 = λ es. Named es s.names.entries in
    let N : List code_entry.Entry → Type 0 = λ es. Named es t.names.entries in
    let R : List ℕ → Type 0 = λ a. (x : List ℕ) → table_at t.names.entries x ≡ cond (same_text a x) (Some e.older) (table_at s.names.entries x) in
    let all = subst P whole kept.entries in
    record {
      named = subst N (sym items) (named_less (take n s.entries.items) e s.names.entries t.names.entries (subst Q whole kept.named) (last_entry (take n s.entries.items) e all).older
          (subst R named (table_set s.names.entries t.names.entries key e.older set)));
      entries = subst P (sym items) (entries_less (take n s.entries.items) e all);
    }

-- the last name is in the table
pub name_in_table : {P : Type 0} (s : Inside) (e : code_entry.Entry) (n : ℕ) (key : Bor (List ℕ)) → IsKept s → n ≡ length s.entries.items - 1 → slice_get s.entries.items n ≡ Some e → key.now ≡ e.name.now
    → lookup (λ k. pointwise nat_eq key.now k.now) s.names.entries ≡ None → P
name_in_table s e n key kept count there named out =
    let Q : List code_entry.Entry → Type 0 = λ es. Named es s.names.entries in
    let R : List ℕ → Type 0 = λ a. table_at s.names.entries a ≡ None in
    named_there (take n s.entries.items) e s.names.entries (subst Q (ends_at s.entries.items n e count there) kept.named) (subst R named out)

-- either way
pub by_result : {T E A B P : Type 0} (r : Result T E) → OnOk r A → OnErr r B → (A → P) → (B → P) → P
by_result (Ok x) a b f g = f a
by_result (Err y) a b f g = g b

-- what is behind n entries is cut off again
pub cut_again : (es fs gs : List code_entry.Entry) (e : code_entry.Entry) (n : ℕ) → n ≡ length es → fs ≡ es ++ e ∷ [] → gs ≡ take n fs → gs ≡ es
cut_again es fs gs e n count more cut =
    cut ∙ ap (take n) more ∙ ap (λ (m : ℕ). take m (es ++ e ∷ [])) count ∙ take-append_seam es (e ∷ [])

-- ---- the bits of fields

pub cut_sum : (a b : ℕ) → add_up a b ≤ 4294967295
cut_sum a b = min-le_right (a + b) 4294967295

few_bits : (s : Scope) (fs : List (PTy × List ℕ)) → fields_bits s fs ≤ 4294967295
few_bits s [] = omega arith
few_bits s (f ∷ fs) = cut_sum (width_in (kind_in s f.0)) (fields_bits s fs)

pub add_none : (n : ℕ) → n ≤ 4294967295 → add_up n 0 ≡ n
add_none n h = let e : n + 0 ≡ n = omega arith in ap (λ (m : ℕ). min m 4294967295) e ∙ min-eq_left h

-- the bits that are counted, and those that are left
pub record Counted (s : Scope) (fs : List (PTy × List ℕ)) (i n : ℕ) : Type 0 where
  pub whole : add_up n (fields_bits s (drop i fs)) ≡ fields_bits s fs
  pub few : n ≤ 4294967295

pub none_counted : (s : Scope) (fs : List (PTy × List ℕ)) → Counted s fs 0 0
none_counted s fs = let e : 0 + fields_bits s fs ≡ fields_bits s fs = omega arith in record { whole = ap (λ (m : ℕ). min m 4294967295) e ∙ min-eq_left (few_bits s fs); few = omega arith }

pub cut_twice : (a b c : ℕ) → add_up (add_up a b) c ≡ add_up a (add_up b c)
cut_twice a b c = by (nat_lt 4294967295 (a + b)) refl (nat_lt 4294967295 (b + c)) refl
  where
    below : (x y : ℕ) → nat_lt 4294967295 (x + y) ≡ false → add_up x y ≡ x + y
    below x y h = min-eq_left (ltb-false 4294967295 (x + y) h)

    above : (x y : ℕ) → 4294967295 ≤ x + y → add_up x y ≡ 4294967295
    above x y h = min-eq_right h

    more : (h : Bool) → nat_lt 4294967295 (b + c) ≡ h → 4294967295 < a + b → 4294967295 ≤ a + add_up b c
    more true f past =
        let e : add_up b c ≡ 4294967295 = above b c (let p : 4294967295 < b + c = ltb-true 4294967295 (b + c) f in omega (arith, p)) in
        omega (arith, e)
    more false f past = let e : add_up b c ≡ b + c = below b c f in omega (arith, e, past)

    by : (g : Bool) → nat_lt 4294967295 (a + b) ≡ g → (h : Bool) → nat_lt 4294967295 (b + c) ≡ h → add_up (add_up a b) c ≡ add_up a (add_up b c)
    by false e false f =
        let assoc : (a + b) + c ≡ a + (b + c) = omega arith in
        ap (λ (m : ℕ). add_up m c) (below a b e) ∙ ap (λ (m : ℕ). min m 4294967295) assoc ∙ ap (add_up a) (sym (below b c f))
    by true e h f =
        let past : 4294967295 < a + b = ltb-true 4294967295 (a + b) e in
        let left : add_up a b ≡ 4294967295 = above a b (omega (arith, past)) in
        let right : 4294967295 ≤ a + add_up b c = more h f past in
        ap (λ (m : ℕ). add_up m c) left ∙ above 4294967295 c (omega arith) ∙ sym (above a (add_up b c) right)
    by false e true f =
        let past : 4294967295 < b + c = ltb-true 4294967295 (b + c) f in
        let right : add_up b c ≡ 4294967295 = above b c (omega (arith, past)) in
        let sum : 4294967295 ≤ (a + b) + c = omega (arith, past) in
        ap (λ (m : ℕ). add_up m c) (below a b e) ∙ above (a + b) c sum ∙ sym (ap (add_up a) right ∙ above a 4294967295 (omega arith))

pub one_counted : (s : Scope) (fs : List (PTy × List ℕ)) (i n m : ℕ) (f : PTy × List ℕ) → i < length fs → f ≡ get_or fs i f → Counted s fs i n → m ≡ add_up n (width_in (kind_in s f.0)) → Counted s fs (i + 1) m
one_counted s fs i n m f lt is so sum =
    let more : i + 1 ≡ suc i = omega arith in
    let back : drop i fs ≡ f ∷ drop (i + 1) fs = drop-cons fs i f lt ∙ ap (λ g. g ∷ drop (suc i) fs) (sym is) ∙ ap (λ (k : ℕ). f ∷ drop k fs) (sym more) in
    let P : ℕ → Type 0 = λ k. k ≤ 4294967295 in
    record {
      whole = ap (λ (k : ℕ). add_up k (fields_bits s (drop (i + 1) fs))) sum
          ∙ cut_twice n (width_in (kind_in s f.0)) (fields_bits s (drop (i + 1) fs))
          ∙ ap (λ (gs : List (PTy × List ℕ)). add_up n (fields_bits s gs)) (sym back)
          ∙ so.whole;
      few = subst P (sym sum) (cut_sum n (width_in (kind_in s f.0)));
    }

pub all_counted : (s : Scope) (fs : List (PTy × List ℕ)) (i n : ℕ) → length fs ≤ i → Counted s fs i n → n ≡ fields_bits s fs
all_counted s fs i n past so =
    sym (add_none n so.few) ∙ ap (λ (gs : List (PTy × List ℕ)). add_up n (fields_bits s gs)) (sym (drop_all i fs past)) ∙ so.whole
