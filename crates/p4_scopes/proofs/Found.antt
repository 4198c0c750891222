-- What names, types and paths stand for, by numbers of declarations.
use Rattle.std.proofs.Common.{◌≡◌, ℕ, suc, ◌+◌, ◌<◌, ◌≤◌, Bool, true, false, cond, ◌&&◌, ◌||◌, List, [], ◌∷◌, ◌++◌, take, length, codes, Option, Some, None, slice_get, refl, sym, ap, subst, ◌∙◌, arith}
use Rattle.std.proofs.lemmas.List.{take-append-le}
use Rattle.std.proofs.Math.Seq.{take-append_seam}
use Rattle.lex_text.specs.Names.{same_text}
use Rattle.p4_tree.specs.declared.statement.PTy.{PTy}
use Rattle.p4_tree.specs.declared.statement.PTy.TheVariants as type
use Rattle.p4_scopes.specs.Scopes.{Stands, missing, typed, act, function, algorithm, other, Scope, What, alias, fields, value, register, action, table, parser_state, part, as_typed, as_held, type_at, field_at, behind, declare, standard_at, core}
use Rattle.p4_scopes.specs.View.{Declaration, declare_all, scope_of}
use Rattle.p4_scopes.specs.Resolving.{last_from, last_at, end_of, core_resolved, standard_field, what_resolved, number_resolved, name_resolved, resolve, field_resolved, or_missing, what_field, number_field, field_of, walk}
use Rattle.p4_scopes.specs.declared.kind.Kind.TheVariants.{Number, Error}
use Rattle.p4_scopes.specs.declared.thing.Access.{Access}
use Rattle.p4_scopes.specs.declared.thing.Function.TheVariants.{MarkToDrop, Digest, VerifyChecksum, UpdateChecksum}
use Rattle.p4_scopes.specs.declared.thing.Thing.TheVariants.{Scalar, Standard, PacketIn, PacketOut}
use Rattle.p4_scopes.specs.declared.resolved.Resolved.{Resolved}
use Rattle.p4_scopes.specs.declared.resolved.Resolved.TheVariants as resolved
use Rattle.p4_scopes.proofs.Lists.{by_ends, at_front, at_end, at_taken, twice_taken, few_taken}

-- ---- the last declaration of a name

last_more : (n : ℕ) (o : Option ℕ) (ds : List Declaration) (d : Declaration) (x : List ℕ) → last_from n o (ds ++ d ∷ []) x ≡ cond (same_text d.name x) (Some (n + length ds)) (last_from n o ds x)
last_more n o [] d x = let e : n ≡ n + 0 = omega arith in ap (λ (m : ℕ). cond (same_text d.name x) (Some m) o) e
last_more n o (c ∷ ds) d x =
    let before : Option ℕ = cond (same_text c.name x) (Some n) o in
    let e : suc n + length ds ≡ n + suc (length ds) = omega arith in
    last_more (suc n) before ds d x ∙ ap (λ (m : ℕ). cond (same_text d.name x) (Some m) (last_from (suc n) before ds x)) e

-- the last of a name, with one declaration more
pub last_push : (ds : List Declaration) (d : Declaration) (x : List ℕ) → last_at (ds ++ d ∷ []) x ≡ cond (same_text d.name x) (Some (length ds)) (last_at ds x)
last_push ds d x = let e : 0 + length ds ≡ length ds = omega arith in last_more 0 None ds d x ∙ ap (λ (m : ℕ). cond (same_text d.name x) (Some m) (last_at ds x)) e

abbrev pub Below : ℕ → Option ℕ → Type 0
Below n None = Unit {0}
Below n (Some i) = i < n

below_push : (b : Bool) (n m : ℕ) (o : Option ℕ) → suc n ≡ m → Below n o → Below m (cond b (Some n) o)
below_push true n m o e h = omega (arith, e)
below_push false n m None e h = tt
below_push false n m (Some i) e h = omega (arith, e, h)

one_longer : {A : Type 0} (xs : List A) (x : A) → suc (length xs) ≡ length (xs ++ x ∷ [])
one_longer [] x = refl
one_longer (y ∷ xs) x = ap suc (one_longer xs x)

pub last_below : (x : List ℕ) (ds : List Declaration) → Below (length ds) (last_at ds x)
last_below x = by_ends (λ ds. Below (length ds) (last_at ds x)) tt
    (λ ds d h. subst (Below (length (ds ++ d ∷ []))) (sym (last_push ds d x)) (below_push (same_text d.name x) (length ds) (length (ds ++ d ∷ [])) (last_at ds x) (one_longer ds d) h))

-- ---- what a name stands for

declare_push : (s : Scope) (ds : List Declaration) (d : Declaration) → declare_all s (ds ++ d ∷ []) ≡ declare (declare_all s ds) d.name d.what
declare_push s [] d = refl
declare_push s (c ∷ ds) d = declare_push (declare s c.name c.what) ds d

-- the scope behind one declaration more
pub scope_push : (ds : List Declaration) (d : Declaration) → scope_of (ds ++ d ∷ []) ≡ declare (scope_of ds) d.name d.what
scope_push ds d = declare_push core ds d

abbrev pub number_stands : List Declaration → (i : ℕ) → Option Declaration → List (List ℕ) → Stands
number_stands ds i None xs = missing
number_stands ds i (Some d) xs = behind (scope_of (take i ds)) d.what xs

abbrev pub stands_from : List Declaration → Option ℕ → List ℕ → List (List ℕ) → Stands
stands_from ds None x xs = core (x ∷ xs)
stands_from ds (Some i) x xs = number_stands ds i (slice_get ds i) xs

found_step : (b : Bool) (ds : List Declaration) (d : Declaration) (o : Option ℕ) (x : List ℕ) (xs : List (List ℕ)) → Below (length ds) o
    → cond b (behind (scope_of ds) d.what xs) (stands_from ds o x xs) ≡ stands_from (ds ++ d ∷ []) (cond b (Some (length ds)) o) x xs
found_step true ds d o x xs h =
    ap (λ (cs : List Declaration). behind (scope_of cs) d.what xs) (sym (take-append_seam ds (d ∷ [])))
    ∙ ap (λ (p : Option Declaration). number_stands (ds ++ d ∷ []) (length ds) p xs) (sym (at_end ds d []))
found_step false ds d None x xs h = refl
found_step false ds d (Some i) x xs h =
    same_number (slice_get ds i)
    ∙ ap (λ (p : Option Declaration). number_stands (ds ++ d ∷ []) i p xs) (sym (at_front ds (d ∷ []) i h))
  where
    same_number : (p : Option Declaration) → number_stands ds i p xs ≡ number_stands (ds ++ d ∷ []) i p xs
    same_number None = refl
    same_number (Some c) = ap (λ (cs : List Declaration). behind (scope_of cs) c.what xs) (sym (take-append-le i ds (d ∷ []) (omega (arith, h))))

declared : (ds : List Declaration) (d : Declaration) (x : List ℕ) (xs : List (List ℕ)) → declare (scope_of ds) d.name d.what (x ∷ xs) ≡ cond (same_text d.name x) (behind (scope_of ds) d.what xs) (scope_of ds (x ∷ xs))
unfolding declare
declared ds d x xs = refl

-- a path stands for what the last declaration of its first name gives
pub found : (x : List ℕ) (xs : List (List ℕ)) (ds : List Declaration) → scope_of ds (x ∷ xs) ≡ stands_from ds (last_at ds x) x xs
found x xs = by_ends (λ ds. scope_of ds (x ∷ xs) ≡ stands_from ds (last_at ds x) x xs) refl
    (λ ds d h.
    ap (λ (s : Scope). s (x ∷ xs)) (scope_push ds d)
    ∙ declared ds d x xs
    ∙ ap (λ (u : Stands). cond (same_text d.name x) (behind (scope_of ds) d.what xs) u) h
    ∙ found_step (same_text d.name x) ds d (last_at ds x) x xs (last_below x ds)
    ∙ ap (λ (o : Option ℕ). stands_from (ds ++ d ∷ []) o x xs) (sym (last_push ds d x)))

nowhere_from : (s : Scope) (ds : List Declaration) → declare_all s ds [] ≡ s []
unfolding declare
nowhere_from s [] = refl
nowhere_from s (d ∷ ds) = nowhere_from (declare s d.name d.what) ds

core_nowhere : core [] ≡ missing
unfolding core
core_nowhere = refl

pub nowhere : (ds : List Declaration) → scope_of ds [] ≡ missing
nowhere ds = nowhere_from core ds ∙ core_nowhere

-- ---- resolved types speak of declarations before them

abbrev pub IsBelow : ℕ → Resolved → Type 0
IsBelow n resolved.Missing = Unit {0}
IsBelow n (resolved.Single f t) = Unit {0}
IsBelow n (resolved.Declared h i) = i < n
IsBelow n resolved.Standard = Unit {0}

below_cond : (b : Bool) (n : ℕ) (r s : Resolved) → IsBelow n r → IsBelow n s → IsBelow n (cond b r s)
below_cond true n r s g h = g
below_cond false n r s g h = h

below_more : (m n : ℕ) (r : Resolved) → m ≤ n → IsBelow m r → IsBelow n r
below_more m n resolved.Missing e h = tt
below_more m n (resolved.Single f t) e h = tt
below_more m n (resolved.Declared x i) e h = omega (arith, e, h)
below_more m n resolved.Standard e h = tt

core_below : (n : ℕ) (x : List ℕ) → IsBelow n (core_resolved x)
core_below n x =
    below_cond (same_text x (codes "standard_metadata_t")) n resolved.Standard _ tt
    (below_cond (same_text x (codes "packet_in")) n (resolved.Single false PacketIn) _ tt
    (below_cond (same_text x (codes "packet_out")) n (resolved.Single false PacketOut) resolved.Missing tt tt))

standard_below : (n : ℕ) (x : List ℕ) → IsBelow n (standard_field x)
standard_below n x =
    below_cond (same_text x (codes "egress_spec")) n (resolved.Single false (Scalar (Number 9))) _ tt
    (below_cond (same_text x (codes "ingress_port") || same_text x (codes "egress_port")) n (resolved.Single true (Scalar (Number 9))) _ tt
    (below_cond (same_text x (codes "packet_length")) n (resolved.Single true (Scalar (Number 32))) _ tt
    (below_cond (same_text x (codes "checksum_error")) n (resolved.Single true (Scalar (Number 1))) _ tt
    (below_cond (same_text x (codes "parser_error")) n (resolved.Single true (Scalar Error)) resolved.Missing tt tt))))

what_below : (ds : List Declaration) (n i : ℕ) (w : What) → i < n → IsBelow n (what_resolved ds i w)
what_below ds n i (alias t) h = tt
what_below ds n i (fields x fs) h = h
what_below ds n i (value a t) h = tt
what_below ds n i (register t) h = tt
what_below ds n i (action ps m) h = tt
what_below ds n i (table m) h = tt
what_below ds n i parser_state h = tt
what_below ds n i part h = tt

name_below : (ds : List Declaration) (n : ℕ) (x : List ℕ) (o : Option ℕ) → Below n o → IsBelow n (name_resolved ds x o)
name_below ds n x None h = core_below n x
name_below ds n x (Some i) h = number_below (slice_get ds i)
  where
    number_below : (p : Option Declaration) → IsBelow n (number_resolved ds i p)
    number_below None = tt
    number_below (Some d) = what_below (take i ds) n i d.what h

resolve_below : (ds : List Declaration) (t : PTy) → IsBelow (length ds) (resolve ds t)
resolve_below ds (type.Bit w) = tt
resolve_below ds type.Bool = tt
resolve_below ds (type.Named x) = name_below ds (length ds) x (last_at ds x) (last_below x ds)

below_or : (b : Bool) (n : ℕ) (r : Resolved) (o : Option Resolved) → IsBelow n r → IsBelow n (or_missing o) → IsBelow n (or_missing (cond b (Some r) o))
below_or true n r o g h = g
below_or false n r o g h = h

fields_below : (ds : List Declaration) (n : ℕ) (fs : List (PTy × List ℕ)) (y : List ℕ) → length ds ≤ n → IsBelow n (or_missing (field_resolved ds fs y))
fields_below ds n [] y e = tt
fields_below ds n (f ∷ fs) y e = below_or (same_text f.1 y) n (resolve ds f.0) (field_resolved ds fs y) (below_more (length ds) n (resolve ds f.0) e (resolve_below ds f.0)) (fields_below ds n fs y e)

what_field_below : (ds : List Declaration) (n : ℕ) (w : What) (y : List ℕ) → length ds ≤ n → IsBelow n (what_field ds w y)
what_field_below ds n (alias t) y e = tt
what_field_below ds n (fields x fs) y e = fields_below ds n fs y e
what_field_below ds n (value a t) y e = tt
what_field_below ds n (register t) y e = tt
what_field_below ds n (action ps m) y e = tt
what_field_below ds n (table m) y e = tt
what_field_below ds n parser_state y e = tt
what_field_below ds n part y e = tt

field_below : (ds : List Declaration) (n : ℕ) (r : Resolved) (y : List ℕ) → IsBelow n r → IsBelow n (field_of ds r y)
field_below ds n resolved.Missing y h = tt
field_below ds n (resolved.Single f t) y h = tt
field_below ds n (resolved.Declared x i) y h = number_field_below (slice_get ds i)
  where
    number_field_below : (p : Option Declaration) → IsBelow n (number_field ds i p y)
    number_field_below None = tt
    number_field_below (Some d) = let few : length (take i ds) ≤ i = few_taken i ds in what_field_below (take i ds) n d.what y (omega (arith, few, h))
field_below ds n resolved.Standard y h = standard_below n y

-- ---- what stands behind a resolved type rests on the declarations before it

field_front : (ds : List Declaration) (n : ℕ) (r : Resolved) (y : List ℕ) → IsBelow n r → field_of ds r y ≡ field_of (take n ds) r y
field_front ds n resolved.Missing y h = refl
field_front ds n (resolved.Single f t) y h = refl
field_front ds n (resolved.Declared x i) y h =
    number_front (slice_get ds i) ∙ ap (λ (p : Option Declaration). number_field (take n ds) i p y) (sym (at_taken n i ds h))
  where
    number_front : (p : Option Declaration) → number_field ds i p y ≡ number_field (take n ds) i p y
    number_front None = refl
    number_front (Some d) = ap (λ (cs : List Declaration). what_field cs d.what y) (sym (twice_taken i n ds (omega (arith, h))))
field_front ds n resolved.Standard y h = refl

pub walk_front : (ds : List Declaration) (n : ℕ) (r : Resolved) (ys : List (List ℕ)) → IsBelow n r → walk ds r ys ≡ walk (take n ds) r ys
walk_front ds n r [] h = refl
walk_front ds n r (y ∷ ys) h =
    walk_front ds n (field_of ds r y) ys (field_below ds n r y h)
    ∙ ap (λ (s : Resolved). walk (take n ds) s ys) (field_front ds n r y h)

pub resolve_front : (ds : List Declaration) (i : ℕ) (t : PTy) (ys : List (List ℕ)) → walk ds (resolve (take i ds) t) ys ≡ walk (take i ds) (resolve (take i ds) t) ys
resolve_front ds i t ys = walk_front ds i (resolve (take i ds) t) ys (below_more (length (take i ds)) i (resolve (take i ds) t) (few_taken i ds) (resolve_below (take i ds) t))

-- ---- a path behind a type

pub walk_missing : (ds : List Declaration) (ys : List (List ℕ)) → walk ds resolved.Missing ys ≡ missing
walk_missing ds [] = refl
walk_missing ds (y ∷ ys) = walk_missing ds ys

typed_end : (r : Resolved) → as_typed (end_of r) ≡ end_of r
typed_end resolved.Missing = refl
typed_end (resolved.Single f t) = refl
typed_end (resolved.Declared h i) = refl
typed_end resolved.Standard = refl

typed_walk : (ds : List Declaration) (r : Resolved) (ys : List (List ℕ)) → as_typed (walk ds r ys) ≡ walk ds r ys
typed_walk ds r [] = typed_end r
typed_walk ds r (y ∷ ys) = typed_walk ds (field_of ds r y) ys

untyped : (b : Bool) (u v : Stands) → as_typed u ≡ missing → as_typed v ≡ missing → as_typed (cond b u v) ≡ missing
untyped true u v g h = g
untyped false u v g h = h

held_untyped : (a : Access) (u : Stands) → as_typed (as_held a u) ≡ missing
held_untyped a missing = refl
held_untyped a (typed f t) = refl
held_untyped a _ = refl

-- ---- types of the architecture's own

core_end : (b c d : Bool) (rest : Stands) → as_typed rest ≡ missing
    → end_of (cond b resolved.Standard (cond c (resolved.Single false PacketIn) (cond d (resolved.Single false PacketOut) resolved.Missing)))
    ≡ as_typed (cond b (typed false Standard) (cond c (typed false PacketIn) (cond d (typed false PacketOut) rest)))
core_end true c d rest h = refl
core_end false true d rest h = refl
core_end false false true rest h = refl
core_end false false false rest h = sym h

core_untyped : (x : List ℕ) → as_typed (cond (same_text x (codes "NoAction")) (act [] 0)
    (cond (same_text x (codes "mark_to_drop")) (function MarkToDrop)
    (cond (same_text x (codes "digest")) (function Digest)
    (cond (same_text x (codes "verify_checksum")) (function VerifyChecksum)
    (cond (same_text x (codes "update_checksum")) (function UpdateChecksum)
    (cond (same_text x (codes "HashAlgorithm")) other missing)))))) ≡ missing
core_untyped x =
    untyped (same_text x (codes "NoAction")) (act [] 0) _ refl
    (untyped (same_text x (codes "mark_to_drop")) (function MarkToDrop) _ refl
    (untyped (same_text x (codes "digest")) (function Digest) _ refl
    (untyped (same_text x (codes "verify_checksum")) (function VerifyChecksum) _ refl
    (untyped (same_text x (codes "update_checksum")) (function UpdateChecksum) _ refl
    (untyped (same_text x (codes "HashAlgorithm")) other missing refl refl)))))

end_cond : (b : Bool) (r s : Resolved) (u v : Stands) → end_of r ≡ u → end_of s ≡ v → end_of (cond b r s) ≡ cond b u v
end_cond true r s u v g h = g
end_cond false r s u v g h = h

pub standard_end : (y : List ℕ) → end_of (standard_field y) ≡ standard_at y
standard_end y =
    end_cond (same_text y (codes "egress_spec")) (resolved.Single false (Scalar (Number 9))) _ _ _ refl
    (end_cond (same_text y (codes "ingress_port") || same_text y (codes "egress_port")) (resolved.Single true (Scalar (Number 9))) _ _ _ refl
    (end_cond (same_text y (codes "packet_length")) (resolved.Single true (Scalar (Number 32))) _ _ _ refl
    (end_cond (same_text y (codes "checksum_error")) (resolved.Single true (Scalar (Number 1))) _ _ _ refl
    (end_cond (same_text y (codes "parser_error")) (resolved.Single true (Scalar Error)) resolved.Missing _ _ refl refl))))

core_field_end : (b c d : Bool) (ds : List Declaration) (y : List ℕ) (rest : Stands) → as_typed rest ≡ missing
    → end_of (field_of ds (cond b resolved.Standard (cond c (resolved.Single false PacketIn) (cond d (resolved.Single false PacketOut) resolved.Missing))) y)
    ≡ as_typed (cond b (standard_at y) rest)
core_field_end true c d ds y rest h = sym (typed_end (standard_field y)) ∙ ap as_typed (standard_end y)
core_field_end false true d ds y rest h = sym h
core_field_end false false true ds y rest h = sym h
core_field_end false false false ds y rest h = sym h

no_field : (b : Bool) (ds : List Declaration) (r s : Resolved) (z : List ℕ) → field_of ds r z ≡ resolved.Missing → field_of ds s z ≡ resolved.Missing → field_of ds (cond b r s) z ≡ resolved.Missing
no_field true ds r s z g h = g
no_field false ds r s z g h = h

standard_no_field : (ds : List Declaration) (y z : List ℕ) → field_of ds (standard_field y) z ≡ resolved.Missing
standard_no_field ds y z =
    no_field (same_text y (codes "egress_spec")) ds (resolved.Single false (Scalar (Number 9))) _ z refl
    (no_field (same_text y (codes "ingress_port") || same_text y (codes "egress_port")) ds (resolved.Single true (Scalar (Number 9))) _ z refl
    (no_field (same_text y (codes "packet_length")) ds (resolved.Single true (Scalar (Number 32))) _ z refl
    (no_field (same_text y (codes "checksum_error")) ds (resolved.Single true (Scalar (Number 1))) _ z refl
    (no_field (same_text y (codes "parser_error")) ds (resolved.Single true (Scalar Error)) resolved.Missing z refl refl))))

core_deep : (b c d : Bool) (ds : List Declaration) (y z : List ℕ)
    → field_of ds (field_of ds (cond b resolved.Standard (cond c (resolved.Single false PacketIn) (cond d (resolved.Single false PacketOut) resolved.Missing))) y) z ≡ resolved.Missing
core_deep true c d ds y z = standard_no_field ds y z
core_deep false true d ds y z = refl
core_deep false false true ds y z = refl
core_deep false false false ds y z = refl

core_is : (ds : List Declaration) (x : List ℕ) (xs : List (List ℕ)) → walk ds (core_resolved x) xs ≡ as_typed (core (x ∷ xs))
unfolding core
core_is ds x [] = core_end (same_text x (codes "standard_metadata_t")) (same_text x (codes "packet_in")) (same_text x (codes "packet_out")) _ (core_untyped x)
core_is ds x (y ∷ []) =
    core_field_end (same_text x (codes "standard_metadata_t")) (same_text x (codes "packet_in")) (same_text x (codes "packet_out")) ds y _
    (untyped (same_text x (codes "HashAlgorithm") && same_text y (codes "csum16")) algorithm missing refl refl)
core_is ds x (y ∷ z ∷ zs) =
    ap (λ (r : Resolved). walk ds r zs) (core_deep (same_text x (codes "standard_metadata_t")) (same_text x (codes "packet_in")) (same_text x (codes "packet_out")) ds y z)
    ∙ walk_missing ds zs

-- ---- types

-- a type is resolved to what it stands for, with the paths behind it
abbrev IsType : List (List ℕ) → Type 0
IsType xs = (ds : List Declaration) (t : PTy) → walk ds (resolve ds t) xs ≡ type_at (scope_of ds) t xs

abbrev IsTypeBehind : List (List ℕ) → Type 0
IsTypeBehind [] = Unit {0}
IsTypeBehind (y ∷ ys) = IsType ys

field_step : (b : Bool) (ds : List Declaration) (r : Resolved) (o : Option Resolved) (ys : List (List ℕ)) (u v : Stands)
    → walk ds r ys ≡ u → walk ds (or_missing o) ys ≡ v → walk ds (or_missing (cond b (Some r) o)) ys ≡ cond b u v
field_step true ds r o ys u v g h = g
field_step false ds r o ys u v g h = h

field_is : (ds : List Declaration) (i : ℕ) (fs : List (PTy × List ℕ)) (y : List ℕ) (ys : List (List ℕ)) → IsType ys
    → walk ds (or_missing (field_resolved (take i ds) fs y)) ys ≡ field_at (scope_of (take i ds)) fs y ys
field_is ds i [] y ys h = walk_missing ds ys
field_is ds i (f ∷ fs) y ys h =
    field_step (same_text f.1 y) ds (resolve (take i ds) f.0) (field_resolved (take i ds) fs y) ys (type_at (scope_of (take i ds)) f.0 ys) (field_at (scope_of (take i ds)) fs y ys)
    (resolve_front ds i f.0 ys ∙ h (take i ds) f.0) (field_is ds i fs y ys h)

what_is : (ds : List Declaration) (i : ℕ) (d : Declaration) (w : What) (xs : List (List ℕ)) → slice_get ds i ≡ Some d → d.what ≡ w → IsTypeBehind xs
    → walk ds (what_resolved (take i ds) i w) xs ≡ as_typed (behind (scope_of (take i ds)) w xs)
what_is ds i d (alias t) [] g e h = refl
what_is ds i d (alias t) (x ∷ xs) g e h = walk_missing ds xs
what_is ds i d (fields a fs) [] g e h = refl
what_is ds i d (fields a fs) (y ∷ ys) g e h =
    let there : walk ds (number_field ds i (slice_get ds i) y) ys ≡ walk ds (or_missing (field_resolved (take i ds) fs y)) ys =
    ap (λ (p : Option Declaration). walk ds (number_field ds i p y) ys) g ∙ ap (λ (w : What). walk ds (what_field (take i ds) w y) ys) e in
    let is = field_is ds i fs y ys h in
    there ∙ sym (typed_walk ds (or_missing (field_resolved (take i ds) fs y)) ys) ∙ ap as_typed is
what_is ds i d (value a t) [] g e h = refl
what_is ds i d (value a t) (x ∷ xs) g e h = walk_missing ds xs ∙ sym (held_untyped a (type_at (scope_of (take i ds)) t (x ∷ xs)))
what_is ds i d (register t) [] g e h = refl
what_is ds i d (register t) (x ∷ xs) g e h = walk_missing ds xs
what_is ds i d (action ps m) [] g e h = refl
what_is ds i d (action ps m) (x ∷ xs) g e h = walk_missing ds xs
what_is ds i d (table m) [] g e h = refl
what_is ds i d (table m) (x ∷ xs) g e h = walk_missing ds xs
what_is ds i d parser_state [] g e h = refl
what_is ds i d parser_state (x ∷ xs) g e h = walk_missing ds xs
what_is ds i d part [] g e h = refl
what_is ds i d part (x ∷ xs) g e h = walk_missing ds xs

number_is : (ds : List Declaration) (i : ℕ) (p : Option Declaration) (xs : List (List ℕ)) → slice_get ds i ≡ p → IsTypeBehind xs
    → walk ds (number_resolved ds i p) xs ≡ as_typed (number_stands ds i p xs)
number_is ds i None xs g h = walk_missing ds xs
number_is ds i (Some d) xs g h = what_is ds i d d.what xs g refl h

name_is : (ds : List Declaration) (x : List ℕ) (o : Option ℕ) (xs : List (List ℕ)) → IsTypeBehind xs → walk ds (name_resolved ds x o) xs ≡ as_typed (stands_from ds o x xs)
name_is ds x None xs h = core_is ds x xs
name_is ds x (Some i) xs h = number_is ds i (slice_get ds i) xs refl h

type_step : (xs : List (List ℕ)) → IsTypeBehind xs → (ds : List Declaration) (t : PTy) → walk ds (resolve ds t) xs ≡ type_at (scope_of ds) t xs
type_step [] h ds (type.Bit w) = refl
type_step (x ∷ xs) h ds (type.Bit w) = walk_missing ds xs
type_step [] h ds type.Bool = refl
type_step (x ∷ xs) h ds type.Bool = walk_missing ds xs
type_step xs h ds (type.Named x) = name_is ds x (last_at ds x) xs h ∙ ap as_typed (sym (found x xs ds))

pub type_is : (xs : List (List ℕ)) (ds : List Declaration) (t : PTy) → walk ds (resolve ds t) xs ≡ type_at (scope_of ds) t xs
type_is [] ds t = type_step [] tt ds t
type_is (y ∷ ys) ds t = type_step (y ∷ ys) (λ ds t. type_is ys ds t) ds t

-- a path behind a field of a header or a struct
pub field_found : (ds : List Declaration) (i : ℕ) (fs : List (PTy × List ℕ)) (y : List ℕ) (ys : List (List ℕ))
    → walk ds (or_missing (field_resolved (take i ds) fs y)) ys ≡ field_at (scope_of (take i ds)) fs y ys
field_found ds i fs y ys = field_is ds i fs y ys (λ ds t. type_is ys ds t)
