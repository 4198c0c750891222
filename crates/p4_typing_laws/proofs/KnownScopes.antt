-- What is known of scopes along a program: they are sound, nothing stands behind types of single values, the names that are
-- read are plain, and the architecture's own names stand.
use Rattle.std.proofs.Common.{◌≡◌, ℕ, List, [], ◌∷◌, Bool, true, false, cond, ◌&&◌, codes, refl, sym, ap, ◌∙◌, subst}
use Rattle.lex_text.specs.Names.{same_text}
use Rattle.rule_tests.specs.Tests.{IsFine}
use Rattle.p4_tree.specs.Tree.{Local, local_action, local_table, local_register, local_const, local_var, Top, constant, typedef, header_type, struct_type, register, parser, control}
use Rattle.p4_tree.specs.declared.statement.PTy.{PTy}
use Rattle.p4_scopes.specs.Scopes.{Stands, missing, typed, held, cells, act, rows, state, function, algorithm, other, is_missing, thing_in, Scope, What, alias, fields, value, action, table, part, behind, declare, standard_at, core_name, core_field, core}
use Rattle.p4_scopes.specs.Scopes as scope
use Rattle.p4_scopes.specs.Uses.{is_scalar, reads}
use Rattle.p4_scopes.specs.declared.thing.Thing.TheVariants.{Header, Struct, Standard, PacketIn, PacketOut}
use Rattle.p4_scopes.specs.declared.thing.Access.{Access}
use Rattle.p4_scopes.specs.declared.thing.Access.TheVariants.{Writable, Constant}
use Rattle.p4_scopes.specs.declared.thing.Function.TheVariants.{MarkToDrop, Digest, VerifyChecksum, UpdateChecksum}
use Rattle.p4_statement_rules.specs.declared.rule.Part.{Part}
use Rattle.p4_declaration_rules.specs.Digests.{most_of, most_of_table}
use Rattle.p4_declaration_rules.specs.Controls.{local_tests, after_local, top_tests, after_top, tops_tests, after_tops}
use Rattle.p4_typing_laws.specs.Soundness.{IsSound}
use Rattle.p4_typing_laws.specs.Plain.{IsPlain, IsPlainValue}
use Rattle.p4_typing_laws.specs.Along.{is_value_type, IsFlat}
use Rattle.p4_typing_laws.proofs.Fine.{twice_not}
use Rattle.p4_typing_laws.proofs.SoundScopes.{core_sound}
use Rattle.p4_typing_laws.proofs.SoundPlaces.{local_sound, top_sound}
use Rattle.p4_typing_laws.proofs.CallCounts.{text_is}
use Rattle.p4_typing_laws.proofs.CountedNames.{KeepsCore, core_keeps, declare_keeps}
use Rattle.p4_typing_laws.proofs.CountedTops.{top_stays}

broken : {A : Type 0} → true ≡ false → A
broken h = absurd (cc)

-- the names that are read are plain
pub record ReadsPlain (s : Scope) : Type 0 where
  pub plain : (x : List ℕ) → is_missing (s (x ∷ [])) ≡ false → reads (s (x ∷ [])) ≡ true → IsPlain x

-- behind a name that stands for nothing there is nothing
pub record IsRooted (s : Scope) : Type 0 where
  pub rooted : (n : List ℕ) → is_missing (s (n ∷ [])) ≡ true → (x : List ℕ) (xs : List (List ℕ)) → is_missing (s (n ∷ x ∷ xs)) ≡ true

rooted_declare : (s : Scope) (n : List ℕ) (w : What) → IsRooted s → is_missing (behind s w []) ≡ false → IsRooted (declare s n w)
unfolding declare
rooted_declare s n w r some = record { rooted = λ m h x xs. go m x xs (same_text n m) h }
  where
    go : (m x : List ℕ) (xs : List (List ℕ)) (b : Bool) → is_missing (cond b (behind s w []) (s (m ∷ []))) ≡ true → is_missing (cond b (behind s w (x ∷ xs)) (s (m ∷ x ∷ xs))) ≡ true
    go m x xs true h = broken (sym h ∙ some)
    go m x xs false h = r.rooted m h x xs

pub record Known (s : Scope) : Type 0 where
  pub rooted : IsRooted s
  pub sound : IsSound s
  pub flat : IsFlat s
  pub plain : ReadsPlain s
  pub core : KeepsCore s

-- what is declared is no type of single values with something behind it
abbrev pub FlatWhat : Scope → What → Type 0
FlatWhat s w = is_value_type (behind s w []) ≡ true → (x : List ℕ) (xs : List (List ℕ)) → is_missing (behind s w (x ∷ xs)) ≡ true

pub flat_declare : (s : Scope) (n : List ℕ) (w : What) → IsFlat s → FlatWhat s w → IsFlat (declare s n w)
unfolding declare
flat_declare s n w f h = record { flat = λ t e x xs. go t x xs (same_text n t) e }
  where
    go : (t x : List ℕ) (xs : List (List ℕ)) (b : Bool) → is_value_type (cond b (behind s w []) (s (t ∷ []))) ≡ true → is_missing (cond b (behind s w (x ∷ xs)) (s (t ∷ x ∷ xs))) ≡ true
    go t x xs true e = h e x xs
    go t x xs false e = f.flat t e x xs

plain_declare : (s : Scope) (n : List ℕ) (w : What) → ReadsPlain s → (is_missing (behind s w []) ≡ false → reads (behind s w []) ≡ true → IsPlain n) → ReadsPlain (declare s n w)
unfolding declare
plain_declare s n w r h = record { plain = λ x e k. go x (same_text n x) refl e k }
  where
    go : (x : List ℕ) (b : Bool) → same_text n x ≡ b → is_missing (cond b (behind s w []) (s (x ∷ []))) ≡ false → reads (cond b (behind s w []) (s (x ∷ []))) ≡ true → IsPlain x
    go x true i e k = subst IsPlain (text_is n x i) (h e k)
    go x false i e k = r.plain x e k

known_declare : (s : Scope) (n : List ℕ) (w : What) → Known s → is_missing (behind s w []) ≡ false → is_missing (s (n ∷ [])) ≡ true → IsSound (declare s n w) → FlatWhat s w → (is_missing (behind s w []) ≡ false → reads (behind s w []) ≡ true → IsPlain n) → Known (declare s n w)
known_declare s n w k some new is flat plain = record { rooted = rooted_declare s n w k.rooted some; sound = is; flat = flat_declare s n w k.flat flat; plain = plain_declare s n w k.plain plain; core = declare_keeps s k.core n w new }

-- a value of a plain name, or one that is not read
pub known_value : (p : ℕ) (s : Scope) (n : List ℕ) (a : Access) (ty : PTy) → Known s → is_missing (s (n ∷ [])) ≡ true → IsSound (declare s n (value a ty)) → (is_scalar (thing_in s ty) ≡ true → IsPlain n) → Known (declare s n (value a ty))
known_value p s n a ty k new is plain = known_declare s n (value a ty) k refl new is (λ e. broken (sym e)) (λ e r. plain r)

pub known_local : (h : Part) (s : Scope) → Known s → (l : Local) → IsPlainValue l → IsFine (local_tests h s l) → Known (after_local s l)
known_local h s k (local_action p a) plain f = known_declare s a.name (action a.params (most_of s a.body)) k refl (twice_not _ f.1.0) (local_sound h s k.sound (local_action p a) f) (λ e. broken (sym e)) (λ e r. broken (sym r))
known_local h s k (local_table p t) plain f = known_declare s t.name (table (most_of_table s t.actions t.default)) k refl (twice_not _ f.1.0) (local_sound h s k.sound (local_table p t) f) (λ e. broken (sym e)) (λ e r. broken (sym r))
known_local h s k (local_register p r) plain f = known_declare s r.name (scope.register r.ty) k refl (twice_not _ f.1.0) (local_sound h s k.sound (local_register p r) f) (λ e. broken (sym e)) (λ e r. broken (sym r))
known_local h s k (local_const p t x e) plain f = known_declare s x (value Constant t) k refl (twice_not _ f.1.0) (local_sound h s k.sound (local_const p t x e) f) (λ e. broken (sym e)) (λ e r. plain)
known_local h s k (local_var p t x e) plain f = known_declare s x (value Writable t) k refl (twice_not _ f.1.0) (local_sound h s k.sound (local_var p t x e) f) (λ e. broken (sym e)) (λ e r. plain)

abbrev pub TopPlain : Top → Type 0
TopPlain (constant p t x e) = IsPlain x
TopPlain (typedef p t x) = Unit {0}
TopPlain (header_type p x fs) = Unit {0}
TopPlain (struct_type p x fs) = Unit {0}
TopPlain (register p r) = Unit {0}
TopPlain (parser p d) = Unit {0}
TopPlain (control p c) = Unit {0}

alias_flat : (s : Scope) (t : PTy) → FlatWhat s (alias t)
alias_flat s t e x xs = refl

pub known_top : (main : List (List ℕ)) (s : Scope) → Known s → (t : Top) → TopPlain t → IsFine (top_tests main s t) → Known (after_top s t)
known_top main s k (constant p t x e) plain f = known_declare s x (value Constant t) k refl (twice_not _ f.0) (top_sound main s k.sound (constant p t x e) f) (λ e. broken (sym e)) (λ e r. plain)
known_top main s k (typedef p t x) plain f = known_declare s x (alias t) k refl (twice_not _ f.0) (top_sound main s k.sound (typedef p t x) f) (alias_flat s t) (λ e r. broken (sym r))
known_top main s k (header_type p x fs) plain f = known_declare s x (fields (Header _) fs) k refl (twice_not _ f.0) (top_sound main s k.sound (header_type p x fs) f) (λ e. broken (sym e)) (λ e r. broken (sym r))
known_top main s k (struct_type p x fs) plain f = known_declare s x (fields Struct fs) k refl (twice_not _ f.0) (top_sound main s k.sound (struct_type p x fs) f) (λ e. broken (sym e)) (λ e r. broken (sym r))
known_top main s k (register p r) plain f = known_declare s r.name (scope.register r.ty) k refl (twice_not _ f.0) (top_sound main s k.sound (register p r) f) (λ e. broken (sym e)) (λ e r. broken (sym r))
known_top main s k (parser p d) plain f = known_declare s d.name part k refl (twice_not _ f.0) (top_sound main s k.sound (parser p d) f) (λ e. broken (sym e)) (λ e r. broken (sym r))
known_top main s k (control p c) plain f = known_declare s c.name part k refl (twice_not _ f.0) (top_sound main s k.sound (control p c) f) (λ e. broken (sym e)) (λ e r. broken (sym r))

-- before the first declaration
record IsNone (st : Stands) : Type 0 where
  no_type : is_value_type st ≡ false
  unread : is_missing st ≡ false → reads st ≡ true → ⊥

if_none : (b : Bool) (u v : Stands) → IsNone u → IsNone v → IsNone (cond b u v)
if_none true u v h k = h
if_none false u v h k = k

none_of : (st : Stands) → is_value_type st ≡ false → reads st ≡ false → IsNone st
none_of st h k = record { no_type = h; unread = λ e r. (let c : true ≡ false = sym r ∙ k in cc) }

core_is_none : (x : List ℕ) → IsNone (core_name x)
core_is_none x =
    if_none (same_text x (codes "standard_metadata_t")) _ _ (none_of (typed false Standard) refl refl)
    (if_none (same_text x (codes "packet_in")) _ _ (none_of (typed false PacketIn) refl refl)
    (if_none (same_text x (codes "packet_out")) _ _ (none_of (typed false PacketOut) refl refl)
    (if_none (same_text x (codes "NoAction")) _ _ (none_of (act [] 0) refl refl)
    (if_none (same_text x (codes "mark_to_drop")) _ _ (none_of (function MarkToDrop) refl refl)
    (if_none (same_text x (codes "digest")) _ _ (none_of (function Digest) refl refl)
    (if_none (same_text x (codes "verify_checksum")) _ _ (none_of (function VerifyChecksum) refl refl)
    (if_none (same_text x (codes "update_checksum")) _ _ (none_of (function UpdateChecksum) refl refl)
    (if_none (same_text x (codes "HashAlgorithm")) _ _ (none_of (other) refl refl)
    (record { no_type = refl; unread = λ e r. broken e })))))))))

if_missing : (b : Bool) (u v : Stands) → is_missing u ≡ false → is_missing (cond b u v) ≡ true → (b ≡ false) × (is_missing v ≡ true)
if_missing true u v h k = broken (sym k ∙ h)
if_missing false u v h k = (refl, k)

core_rooted : (x y : List ℕ) → is_missing (core_name x) ≡ true → is_missing (core_field x y) ≡ true
core_rooted x y h =
    let a = if_missing (same_text x (codes "standard_metadata_t")) _ _ refl h in
    let b = if_missing (same_text x (codes "packet_in")) _ _ refl a.1 in
    let c = if_missing (same_text x (codes "packet_out")) _ _ refl b.1 in
    let d = if_missing (same_text x (codes "NoAction")) _ _ refl c.1 in
    let e = if_missing (same_text x (codes "mark_to_drop")) _ _ refl d.1 in
    let f = if_missing (same_text x (codes "digest")) _ _ refl e.1 in
    let g = if_missing (same_text x (codes "verify_checksum")) _ _ refl f.1 in
    let i = if_missing (same_text x (codes "update_checksum")) _ _ refl g.1 in
    let k = if_missing (same_text x (codes "HashAlgorithm")) _ _ refl i.1 in
    last (same_text x (codes "standard_metadata_t")) (same_text x (codes "HashAlgorithm")) (same_text y (codes "csum16")) (standard_at y) a.0 k.0
  where
    last : (a b c : Bool) (u : Stands) → a ≡ false → b ≡ false → is_missing (cond a u (cond (b && c) algorithm missing)) ≡ true
    last true b c u h k = broken h
    last false true c u h k = broken k
    last false false c u h k = refl

pub core_known : Known core
unfolding core
core_known =
    record {
      rooted = record { rooted = λ n h x xs. rooted_at n h x xs };
      sound = core_sound;
      flat = record { flat = λ t e x xs. broken (sym e ∙ (core_is_none t).no_type) };
      plain = record { plain = λ x e r. absurd ((core_is_none x).unread e r) };
      core = core_keeps;
    }
  where
    rooted_at : (n : List ℕ) → is_missing (core_name n) ≡ true → (x : List ℕ) (xs : List (List ℕ)) → is_missing (core (n ∷ x ∷ xs)) ≡ true
    rooted_at n h x [] = core_rooted n x h
    rooted_at n h x (y ∷ ys) = refl

-- ---- what stands at a name goes on to stand there

pub stays : (main : List (List ℕ)) (ts : List Top) (s : Scope) → IsFine (tops_tests main s ts) → (x : List ℕ) → is_missing (s (x ∷ [])) ≡ false → after_tops s ts (x ∷ []) ≡ s (x ∷ [])
stays main [] s f x h = refl
stays main (t ∷ ts) s f x h = (let one = top_stays main s t f.0 x h in stays main ts (after_top s t) f.1 x (ap is_missing one ∙ h) ∙ one)
