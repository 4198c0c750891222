-- What the entries of a scope are, by the declarations before them.
use Rattle.std.proofs.Common.{◌≡◌, ℕ, ◌<◌, ◌≤◌, true, false, nat_lt, List, [], ◌∷◌, map, take, length, Option, Some, None, get_or, slice_get, refl, sym, ap, subst, ◌∙◌, arith}
use Rattle.std.specs.Option.{option_map}
use Rattle.std.proofs.lemmas.Bool.{ltb-true, ltb-false}
use Rattle.std.proofs.lemmas.Option.{slice_get-map, slice_get-get_or, slice_get_past}
use Rattle.p4_scopes.specs.Scopes.{Stands, missing, core, typed, held, cells, act, as_held, typed_thing, behind}
use Rattle.p4_scopes.specs.View.{Declaration, scope_of}
use Rattle.p4_scopes.specs.Resolving.{last_at, end_of, what_resolved, number_resolved, name_resolved, or_missing, what_field, number_field, field_of, walk}
use Rattle.p4_scopes.specs.Entries.{what_in, declaration_of, IsKnown, entry_resolved, entry_field, entry_behind}
use Rattle.p4_scopes.specs.Kept.{declarations, IsKept}
use Rattle.p4_scopes.specs.declared.kind.Kind.{Kind}
use Rattle.p4_scopes.specs.declared.thing.Thing.{Thing}
use Rattle.p4_scopes.specs.declared.resolved.Resolved.{Resolved}
use Rattle.p4_scopes.specs.declared.resolved.Resolved.TheVariants as resolved
use Rattle.p4_scopes.specs.declared.entry.Declared as code
use Rattle.p4_scopes.specs.declared.entry.Declared.TheVariants as known
use Rattle.p4_scopes.specs.declared.entry.Entry as code_entry
use Rattle.p4_scopes.specs.declared.scope.Scope.TheInside.{Inside}
use Rattle.p4_scopes.proofs.Found.{number_stands, stands_from, found, nowhere, type_is, field_found, resolve_front}

-- ---- an entry behind those before it

-- what is known of it is what it is as a type
resolved_known : (ds : List Declaration) (i : ℕ) (d : code.Declared) → IsKnown ds d → entry_resolved d i ≡ what_resolved ds i (what_in d)
resolved_known ds i (known.Alias t h) k = ap (resolved.Single false) k
resolved_known ds i (known.Fields h fs named) k = refl
resolved_known ds i (known.Value a t r) k = refl
resolved_known ds i (known.Register t h) k = refl
resolved_known ds i (known.Action ps m ks) k = refl
resolved_known ds i (known.Table m) k = refl
resolved_known ds i known.State k = refl
resolved_known ds i known.Part k = refl

-- its fields
field_known : (ds : List Declaration) (d : code.Declared) (y : List ℕ) → IsKnown ds d → entry_field d y ≡ what_field ds (what_in d) y
field_known ds (known.Alias t h) y k = refl
field_known ds (known.Fields h fs named) y k = ap or_missing (k y)
field_known ds (known.Value a t r) y k = refl
field_known ds (known.Register t h) y k = refl
field_known ds (known.Action ps m ks) y k = refl
field_known ds (known.Table m) y k = refl
field_known ds known.State y k = refl
field_known ds known.Part y k = refl

-- the paths behind it
behind_known : (ds : List Declaration) (i : ℕ) (d : code.Declared) (xs : List (List ℕ)) → IsKnown (take i ds) d → entry_behind ds d xs ≡ behind (scope_of (take i ds)) (what_in d) xs
behind_known ds i (known.Alias t h) [] k = ap (typed false) k
behind_known ds i (known.Alias t h) (x ∷ xs) k = refl
behind_known ds i (known.Fields h fs named) [] k = refl
behind_known ds i (known.Fields h fs named) (x ∷ xs) k = ap (λ (o : Option Resolved). walk ds (or_missing o) xs) (k x) ∙ field_found ds i fs.now x xs
behind_known ds i (known.Value a t r) [] k = ap (λ (s : Resolved). held a (typed_thing (end_of s))) k ∙ ap (λ (u : Stands). held a (typed_thing u)) (type_is [] (take i ds) t.now)
behind_known ds i (known.Value a t r) (x ∷ xs) k =
    ap (λ (s : Resolved). as_held a (walk ds s (x ∷ xs))) k
    ∙ ap (as_held a) (resolve_front ds i t.now (x ∷ xs) ∙ type_is (x ∷ xs) (take i ds) t.now)
behind_known ds i (known.Register t h) [] k = ap cells k
behind_known ds i (known.Register t h) (x ∷ xs) k = refl
behind_known ds i (known.Action ps m ks) [] k = ap (λ (js : List Kind). act js m) k
behind_known ds i (known.Action ps m ks) (x ∷ xs) k = refl
behind_known ds i (known.Table m) [] k = refl
behind_known ds i (known.Table m) (x ∷ xs) k = refl
behind_known ds i known.State [] k = refl
behind_known ds i known.State (x ∷ xs) k = refl
behind_known ds i known.Part [] k = refl
behind_known ds i known.Part (x ∷ xs) k = refl

-- ---- an entry that is read by its number

pub one_read : (es fs : List code_entry.Entry) (i : ℕ) (e : code_entry.Entry) → es ≡ fs → true ≡ nat_lt i (length es) → e ≡ get_or es i e → slice_get fs i ≡ Some e
one_read es fs i e same there is =
    let within : i < length es = ltb-true i (length es) (sym there) in
    ap (λ cs. slice_get cs i) (sym same) ∙ slice_get-get_or es i e within ∙ ap Some (sym is)

pub none_read : (es fs : List code_entry.Entry) (i : ℕ) → es ≡ fs → false ≡ nat_lt i (length es) → slice_get fs i ≡ None
none_read es fs i same past =
    let behind : length es ≤ i = ltb-false i (length es) (sym past) in
    ap (λ cs. slice_get cs i) (sym same) ∙ slice_get_past es i behind

declared_at : (es : List code_entry.Entry) (i : ℕ) (o : Option code_entry.Entry) → slice_get es i ≡ o → slice_get (map declaration_of es) i ≡ option_map declaration_of o
declared_at es i o e = slice_get-map declaration_of es i ∙ ap (option_map declaration_of) e

-- ---- what the code of a scope finds

pub field_there : (s : Inside) (ds : List Declaration) (i : ℕ) (h : Thing) (e : code_entry.Entry) (y : List ℕ) → IsKept s → declarations s ≡ ds → slice_get s.entries.items i ≡ Some e
    → entry_field e.declared y ≡ field_of ds (resolved.Declared h i) y
field_there s ds i h e y k view is =
    field_known (take i (declarations s)) e.declared y (k.entries i e is).known
    ∙ ap (λ (o : Option Declaration). number_field (declarations s) i o y) (sym (declared_at s.entries.items i (Some e) is))
    ∙ ap (λ (cs : List Declaration). field_of cs (resolved.Declared h i) y) view

pub field_past : (s : Inside) (ds : List Declaration) (i : ℕ) (h : Thing) (y : List ℕ) → declarations s ≡ ds → slice_get s.entries.items i ≡ None
    → resolved.Missing ≡ field_of ds (resolved.Declared h i) y
field_past s ds i h y view is =
    ap (λ (o : Option Declaration). number_field (declarations s) i o y) (sym (declared_at s.entries.items i None is))
    ∙ ap (λ (cs : List Declaration). field_of cs (resolved.Declared h i) y) view

pub name_there : (s : Inside) (ds : List Declaration) (x : List ℕ) (i : ℕ) (e : code_entry.Entry) → IsKept s → declarations s ≡ ds → slice_get s.entries.items i ≡ Some e → Some i ≡ last_at ds x
    → entry_resolved e.declared i ≡ name_resolved ds x (last_at ds x)
name_there s ds x i e k view is last =
    resolved_known (take i (declarations s)) i e.declared (k.entries i e is).known
    ∙ ap (number_resolved (declarations s) i) (sym (declared_at s.entries.items i (Some e) is))
    ∙ ap (λ (cs : List Declaration). name_resolved cs x (Some i)) view
    ∙ ap (name_resolved ds x) last

pub name_past : (s : Inside) (ds : List Declaration) (x : List ℕ) (i : ℕ) → declarations s ≡ ds → slice_get s.entries.items i ≡ None → Some i ≡ last_at ds x
    → resolved.Missing ≡ name_resolved ds x (last_at ds x)
name_past s ds x i view is last =
    ap (number_resolved (declarations s) i) (sym (declared_at s.entries.items i None is))
    ∙ ap (λ (cs : List Declaration). name_resolved cs x (Some i)) view
    ∙ ap (name_resolved ds x) last

pub path_there : (s : Inside) (ds : List Declaration) (x : List ℕ) (xs : List (List ℕ)) (i : ℕ) (e : code_entry.Entry) → IsKept s → declarations s ≡ ds → slice_get s.entries.items i ≡ Some e → Some i ≡ last_at ds x
    → entry_behind ds e.declared xs ≡ scope_of ds (x ∷ xs)
path_there s ds x xs i e k view is last =
    let P : List Declaration → Type 0 = λ cs. IsKnown (take i cs) e.declared in
    let Q : List Declaration → Type 0 = λ cs. slice_get cs i ≡ Some (declaration_of e) in
    behind_known ds i e.declared xs (subst P view (k.entries i e is).known)
    ∙ ap (λ (o : Option Declaration). number_stands ds i o xs) (sym (subst Q view (declared_at s.entries.items i (Some e) is)))
    ∙ ap (λ (o : Option ℕ). stands_from ds o x xs) last
    ∙ sym (found x xs ds)

pub path_past : (s : Inside) (ds : List Declaration) (x : List ℕ) (xs : List (List ℕ)) (i : ℕ) → declarations s ≡ ds → slice_get s.entries.items i ≡ None → Some i ≡ last_at ds x
    → missing ≡ scope_of ds (x ∷ xs)
path_past s ds x xs i view is last =
    ap (λ (o : Option Declaration). number_stands ds i o xs) (sym (ap (λ (cs : List Declaration). slice_get cs i) (sym view) ∙ declared_at s.entries.items i None is))
    ∙ ap (λ (o : Option ℕ). stands_from ds o x xs) last
    ∙ sym (found x xs ds)

pub path_core : (ds : List Declaration) (x : List ℕ) (xs : List (List ℕ)) → None ≡ last_at ds x → core (x ∷ xs) ≡ scope_of ds (x ∷ xs)
path_core ds x xs last = ap (λ (o : Option ℕ). stands_from ds o x xs) last ∙ sym (found x xs ds)

pub no_names : (ds : List Declaration) (xs : List (List ℕ)) → length xs < 1 → missing ≡ scope_of ds xs
no_names ds [] h = sym (nowhere ds)
no_names ds (x ∷ xs) h = absurd (omega (arith, h))
