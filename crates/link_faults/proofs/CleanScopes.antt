-- What is in sight where no name before is taken: paths of names that are not taken.
use Rattle.std.proofs.Common.{◌≡◌, ℕ, List, [], ◌∷◌, Bool, true, false, cond, not, ◌&&◌, ◌||◌, codes, refl, sym, ap, ◌∙◌}
use Rattle.lex_text.specs.Names.{same_text}
use Rattle.p4_tree.specs.Tree.{Local, local_action, local_table, local_register, local_const, local_var, Top, constant, typedef, header_type, struct_type, register, parser, control}
use Rattle.p4_tree.specs.declared.statement.PTy.{PTy}
use Rattle.p4_tree.specs.declared.statement.PTy.TheVariants as type
use Rattle.p4_tree.specs.declared.program.Param.{Param}
use Rattle.p4_scopes.specs.Scopes.{Stands, missing, typed, held, cells, act, rows, state, function, algorithm, other, is_missing, as_held, as_typed, scalar_at, type_at, field_at, fields_bits, What, alias, fields, value, action, table, parser_state, part, behind, declare, standard_at, core_name, core_field, Scope, core}
use Rattle.p4_scopes.specs.Scopes as scope
use Rattle.p4_scopes.specs.declared.thing.Thing.TheVariants.{Header, Struct}
use Rattle.p4_scopes.specs.declared.thing.Access.{Access}
use Rattle.p4_scopes.specs.declared.thing.Access.TheVariants.{Writable, Constant}
use Rattle.p4_declaration_rules.specs.Digests.{most_of}
use Rattle.p4_declaration_rules.specs.Parsers.{way_access, with_ways}
use Rattle.p4_declaration_rules.specs.Controls.{after_local, after_top}
use Rattle.p4_rule_laws.specs.Old.{OldPath, OldFields, OldWhat}
use Rattle.p4_rule_laws.specs.OldPrograms.{OldWays, OldLocal, OldTop}
use Rattle.own_code.proofs.Apart.{text_decides}
use Rattle.link_faults.specs.WrittenNames.{is_taken}

-- a name that is not taken
abbrev pub is_free : List ℕ → Bool
is_free x = not (is_taken x)

pub untaken_is_free : (x : List ℕ) → is_taken x ≡ false → is_free x ≡ true
untaken_is_free x e = ap not e

pub record IsClean (s : Scope) : Type 0 where
  pub clean : (xs : List (List ℕ)) → is_missing (s xs) ≡ false → OldPath is_free xs

no_case : {A : Type 0} → true ≡ false → A
no_case e = absurd (cc)

-- ---- what is declared

type_clean : (s : Scope) → IsClean s → (t : PTy) (xs : List (List ℕ)) → is_missing (type_at s t xs) ≡ false → OldPath is_free xs
type_clean s k (type.Bit w) [] h = tt
type_clean s k (type.Bit w) (x ∷ xs) h = no_case h
type_clean s k type.Bool [] h = tt
type_clean s k type.Bool (x ∷ xs) h = no_case h
type_clean s k (type.Named t) xs h = (k.clean (t ∷ xs) (there (s (t ∷ xs)) h)).1
  where
    there : (st : Stands) → is_missing (as_typed st) ≡ false → is_missing st ≡ false
    there missing i = i
    there _ i = refl

field_clean : (s : Scope) → IsClean s → (fs : List (PTy × List ℕ)) → OldFields is_free fs → (x : List ℕ) (xs : List (List ℕ)) → is_missing (field_at s fs x xs) ≡ false → OldPath is_free (x ∷ xs)
field_clean s k [] o x xs h = no_case h
field_clean s k (f ∷ fs) o x xs h = go (same_text f.1 x) refl h (λ i. field_clean s k fs o.2 x xs i)
  where
    go : (b : Bool) → same_text f.1 x ≡ b → is_missing (cond b (type_at s f.0 xs) (field_at s fs x xs)) ≡ false → (is_missing (field_at s fs x xs) ≡ false → OldPath is_free (x ∷ xs)) → OldPath is_free (x ∷ xs)
    go true e i more = (ap is_free (sym ((text_decides f.1 x).0 e)) ∙ o.1, type_clean s k f.0 xs i)
    go false e i more = more i

behind_clean : (s : Scope) → IsClean s → (w : What) → OldWhat is_free w → (xs : List (List ℕ)) → is_missing (behind s w xs) ≡ false → OldPath is_free xs
behind_clean s k w o [] h = tt
behind_clean s k (alias t) o (x ∷ xs) h = no_case h
behind_clean s k (fields g fs) o (x ∷ xs) h = field_clean s k fs o x xs h
behind_clean s k (value a t) o (x ∷ xs) h = type_clean s k t (x ∷ xs) (there a (type_at s t (x ∷ xs)) h)
  where
    there : (a : Access) (st : Stands) → is_missing (as_held a st) ≡ false → is_missing st ≡ false
    there a missing i = i
    there a _ i = refl
behind_clean s k (scope.register t) o (x ∷ xs) h = no_case h
behind_clean s k (action ps m) o (x ∷ xs) h = no_case h
behind_clean s k (table m) o (x ∷ xs) h = no_case h
behind_clean s k parser_state o (x ∷ xs) h = no_case h
behind_clean s k part o (x ∷ xs) h = no_case h

declare_clean : (s : Scope) → IsClean s → (n : List ℕ) (w : What) → is_free n ≡ true → OldWhat is_free w → IsClean (declare s n w)
unfolding declare
declare_clean s k n w i o = record { clean = at }
  where
    at : (xs : List (List ℕ)) → is_missing (declare s n w xs) ≡ false → OldPath is_free xs
    at [] h = tt
    at (x ∷ xs) h = go (same_text n x) refl h
      where
        go : (b : Bool) → same_text n x ≡ b → is_missing (cond b (behind s w xs) (s (x ∷ xs))) ≡ false → OldPath is_free (x ∷ xs)
        go true e j = (ap is_free (sym ((text_decides n x).0 e)) ∙ i, behind_clean s k w o xs j)
        go false e j = k.clean (x ∷ xs) j

pub ways_clean : (s : Scope) → IsClean s → (qs : List Param) → OldWays is_free qs → IsClean (with_ways s qs)
ways_clean s k [] o = k
ways_clean s k (q ∷ qs) o = ways_clean (declare s q.name (value (way_access q.way) q.ty)) (declare_clean s k q.name (value (way_access q.way) q.ty) o.1 o.0) qs o.2

pub local_clean : (s : Scope) → IsClean s → (l : Local) → OldLocal is_free l → IsClean (after_local s l)
local_clean s k (local_action p a) o = declare_clean s k a.name (action a.params (most_of s a.body)) o.0 o.1
local_clean s k (local_table p t) o = declare_clean s k t.name _ o.name tt
local_clean s k (local_register p r) o = declare_clean s k r.name (scope.register r.ty) o.0 o.1
local_clean s k (local_const p t x e) o = declare_clean s k x (value Constant t) o.1 o.0
local_clean s k (local_var p t x e) o = declare_clean s k x (value Writable t) o.1 o.0

pub top_clean : (s : Scope) → IsClean s → (t : Top) → OldTop is_free t → IsClean (after_top s t)
top_clean s k (constant p t x e) o = declare_clean s k x (value Constant t) o.1 o.0
top_clean s k (typedef p t x) o = declare_clean s k x (alias t) o.1 o.0
top_clean s k (header_type p x fs) o = declare_clean s k x (fields (Header (fields_bits s fs)) fs) o.0 o.1
top_clean s k (struct_type p x fs) o = declare_clean s k x (fields Struct fs) o.0 o.1
top_clean s k (register p r) o = declare_clean s k r.name (scope.register r.ty) o.0 o.1
top_clean s k (parser p d) o = declare_clean s k d.name part o.name tt
top_clean s k (control p c) o = declare_clean s k c.name part o.name tt

-- ---- before the first declaration

named : (x c : List ℕ) (a u : Stands) → is_free c ≡ true → (is_missing u ≡ false → is_free x ≡ true) → is_missing (cond (same_text x c) a u) ≡ false → is_free x ≡ true
named x c a u o more h = go (same_text x c) refl h
  where
    go : (b : Bool) → same_text x c ≡ b → is_missing (cond b a u) ≡ false → is_free x ≡ true
    go true e i = ap is_free ((text_decides x c).0 e) ∙ o
    go false e i = more i

core_name_free : (x : List ℕ) → is_missing (core_name x) ≡ false → is_free x ≡ true
core_name_free x =
    named x (codes "standard_metadata_t") _ _ refl
    (named x (codes "packet_in") _ _ refl
    (named x (codes "packet_out") _ _ refl
    (named x (codes "NoAction") _ _ refl
    (named x (codes "mark_to_drop") _ _ refl
    (named x (codes "digest") _ _ refl
    (named x (codes "verify_checksum") _ _ refl
    (named x (codes "update_checksum") _ _ refl
    (named x (codes "HashAlgorithm") other missing refl (λ h. no_case h)))))))))

standard_free : (x : List ℕ) → is_missing (standard_at x) ≡ false → is_free x ≡ true
standard_free x =
    named x (codes "egress_spec") _ _ refl
    (either x (codes "ingress_port") (codes "egress_port") _ _ refl refl
    (named x (codes "packet_length") _ _ refl
    (named x (codes "checksum_error") _ _ refl
    (named x (codes "parser_error") _ missing refl (λ h. no_case h)))))
  where
    either : (x c d : List ℕ) (a u : Stands) → is_free c ≡ true → is_free d ≡ true → (is_missing u ≡ false → is_free x ≡ true) → is_missing (cond (same_text x c || same_text x d) a u) ≡ false → is_free x ≡ true
    either x c d a u o q more h = go (same_text x c) refl (same_text x d) refl h
      where
        go : (b : Bool) → same_text x c ≡ b → (e : Bool) → same_text x d ≡ e → is_missing (cond (b || e) a u) ≡ false → is_free x ≡ true
        go true i e j k = ap is_free ((text_decides x c).0 i) ∙ o
        go false i true j k = ap is_free ((text_decides x d).0 j) ∙ q
        go false i false j k = more k

core_field_free : (x y : List ℕ) → is_missing (core_field x y) ≡ false → OldPath is_free (x ∷ y ∷ [])
core_field_free x y h = go (same_text x (codes "standard_metadata_t")) refl (same_text x (codes "HashAlgorithm")) refl (same_text y (codes "csum16")) refl h
  where
    go : (a : Bool) → same_text x (codes "standard_metadata_t") ≡ a → (b : Bool) → same_text x (codes "HashAlgorithm") ≡ b → (c : Bool) → same_text y (codes "csum16") ≡ c
        → is_missing (cond a (standard_at y) (cond (b && c) algorithm missing)) ≡ false → OldPath is_free (x ∷ y ∷ [])
    go true i b j c k h = (ap is_free ((text_decides x (codes "standard_metadata_t")).0 i), (standard_free y h, tt))
    go false i true j true k h = (ap is_free ((text_decides x (codes "HashAlgorithm")).0 j), (ap is_free ((text_decides y (codes "csum16")).0 k), tt))
    go false i true j false k h = no_case h
    go false i false j c k h = no_case h

pub core_clean : IsClean core
unfolding core
core_clean = record { clean = at }
  where
    at : (xs : List (List ℕ)) → is_missing (core xs) ≡ false → OldPath is_free xs
    at [] h = tt
    at (x ∷ []) h = (core_name_free x h, tt)
    at (x ∷ y ∷ []) h = core_field_free x y h
    at (x ∷ y ∷ z ∷ zs) h = no_case h
