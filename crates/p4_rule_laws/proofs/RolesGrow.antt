-- What is made of a well-typed program by growth is well typed, where the new fields of the struct of headers are headers,
-- those of the struct of metadata single values, and the whole is within a switch's limits.
use Rattle.std.proofs.Common.{◌≡◌, ℕ, List, [], ◌∷◌, ◌++◌, Bool, true, false, cond, not, ◌&&◌, ◌||◌, refl, sym, ap, ◌∙◌, subst, Option, Some, None, is_some, codes}
use Rattle.std.specs.Option.{option_map}
use Rattle.std.proofs.lemmas.Slice.Eq.{bytes_eq-Decides}
use Rattle.lex_text.specs.Names.{same_text}
use Rattle.rule_tests.specs.Tests.{IsFine}
use Rattle.rule_tests.proofs.FirstBroken.{fine_unbroken, unbroken_fine}
use Rattle.p4_tree.specs.Tree.{Parser, Top, constant, typedef, header_type, struct_type, register, parser, control, Program, Control}
use Rattle.p4_tree.specs.declared.statement.PTy.{PTy}
use Rattle.p4_tree.specs.declared.statement.PTy.TheVariants as type
use Rattle.p4_tree.specs.declared.program.Param.{Param}
use Rattle.p4_meaning.specs.Scope.{param_at, param_type, type_name}
use Rattle.p4_meaning.specs.Parts.{parser_named, struct_fields, parser_type, parser_in}
use Rattle.p4_scopes.specs.Scopes.{Scope, core, thing_in, Stands, missing, typed, act, function, other}
use Rattle.p4_scopes.specs.Uses.{is_scalar, is_header}
use Rattle.p4_scopes.specs.declared.thing.Thing.{Thing}
use Rattle.p4_scopes.specs.declared.thing.Thing.TheVariants.{Struct, Standard, PacketIn, PacketOut}
use Rattle.p4_scopes.specs.declared.thing.Function.TheVariants.{MarkToDrop, Digest, VerifyChecksum, UpdateChecksum}
use Rattle.p4_declaration_rules.specs.Controls.{tops_tests, after_tops}
use Rattle.p4_declaration_rules.specs.Firsts.{top_name}
use Rattle.p4_declaration_rules.proofs.FirstsLemmas.{all_first}
use Rattle.p4_rules.specs.Mains.{parser_wants, is_named, all_fields, is_struct, is_struct_of, Structs, structs_of, wanted_tests, parser_params, main_tests, leaves_some_out}
use Rattle.p4_rules.specs.Limits.{limit_tests}
use Rattle.p4_rules.specs.ProgramRules.{program_scope, program_tests, IsWellTyped}
use Rattle.p4_rule_laws.specs.Old.{Names, Alike, OldType, OldFields}
use Rattle.p4_rule_laws.specs.OldPrograms.{OldWays, OldTop}
use Rattle.p4_rule_laws.specs.Kept.{NewTops}
use Rattle.p4_rule_laws.specs.Growth.{More, with_more, Sees, is_struct_type, NewInFront, TopsGrow, no_top, same_top, new_top, wider_struct, other_states, other_control, InRole, grown}
use Rattle.p4_rule_laws.proofs.AlikeScopes.{thing_alike, alike_self}
use Rattle.p4_rule_laws.proofs.KeepsLemmas.{keeps_self, skip_tops}
use Rattle.p4_rule_laws.proofs.WiderLemmas.{new_is_other}
use Rattle.p4_rule_laws.proofs.JoinedLemmas.{tops_append, tops_joined}
use Rattle.p4_rule_laws.proofs.GrowthLemmas.{tops_grow}
use Rattle.p4_rule_laws.proofs.MainGrow.{no_case, parser_ways, control_ways, parser_passed, control_passed, none_left_out, parsers_grow, controls_grow, left_out_grow, names_same, AreInRole, parts_fit}

-- ---- the fields of a struct

all_alike : (old : Names) (s t : Scope) → Alike old s t → (fits : Thing → Bool) (fs : List (PTy × List ℕ)) → OldFields old fs → all_fields fits s fs ≡ all_fields fits t fs
all_alike old s t a fits [] o = refl
all_alike old s t a fits (f ∷ fs) o = let e = ap fits (thing_alike old s t a f.0 o.0) in let g = all_alike old s t a fits fs o.2 in cc

both_true : (a b : Bool) → a ≡ true → b ≡ true → (a && b) ≡ true
both_true a b e f = cc

all_joined : (fits : Thing → Bool) (t : Scope) (a b : List (PTy × List ℕ)) → all_fields fits t a ≡ true → all_fields fits t b ≡ true → all_fields fits t (a ++ b) ≡ true
all_joined fits t [] b e f = f
all_joined fits t (x ∷ a) b e f = both_true (fits (thing_in t x.0)) (all_fields fits t (a ++ b)) (first (fits (thing_in t x.0)) (all_fields fits t a) e) (all_joined fits t a b (second (fits (thing_in t x.0)) (all_fields fits t a) e) f)
  where
    first : (a b : Bool) → (a && b) ≡ true → a ≡ true
    first true b e = refl
    first false b e = e

    second : (a b : Bool) → (a && b) ≡ true → b ≡ true
    second true b e = e
    second false b e = no_case (sym e)

struct_step : (fits : Thing → Bool) (s t : Scope) (b : Bool) (u v w z : List (PTy × List ℕ)) → (b ≡ true → all_fields fits s u ≡ true → all_fields fits t v ≡ true) → (all_fields fits s w ≡ true → all_fields fits t z ≡ true) → all_fields fits s (cond b u w) ≡ true → all_fields fits t (cond b v z) ≡ true
struct_step fits s t true u v w z i j f = i refl f
struct_step fits s t false u v w z i j f = j f

pub struct_same : (y : Top) → is_struct_type y ≡ false → (ys : List Top) (x : List ℕ) → struct_fields (y ∷ ys) x ≡ struct_fields ys x
struct_same (struct_type p n fs) k ys x = no_case k
struct_same (constant p t n e) k ys x = refl
struct_same (typedef p t n) k ys x = refl
struct_same (header_type p n fs) k ys x = refl
struct_same (register p r) k ys x = refl
struct_same (parser p d) k ys x = refl
struct_same (control p c) k ys x = refl

pub struct_passed : (old : Names) (z : Top) → old (top_name z) ≡ false → (zs : List Top) (x : List ℕ) → old x ≡ true → struct_fields (z ∷ zs) x ≡ struct_fields zs x
struct_passed old (struct_type p n fs) k zs x o = ap (λ (b : Bool). cond b fs (struct_fields zs x)) (new_is_other old n x k o)
struct_passed old (constant p t n e) k zs x o = refl
struct_passed old (typedef p t n) k zs x o = refl
struct_passed old (header_type p n fs) k zs x o = refl
struct_passed old (register p r) k zs x o = refl
struct_passed old (parser p d) k zs x o = refl
struct_passed old (control p c) k zs x o = refl

-- u, v: the scopes behind all declarations
fields_grow : {old : Names} {more : List ℕ → More} {change : Bool} {main : List (List ℕ)} {front s t : Scope} {ys zs : List Top} → TopsGrow old more change main front s t ys zs → (u v : Scope) → Alike old u v → (fits : Thing → Bool) (x : List ℕ) → old x ≡ true → InRole fits v (more x) → all_fields fits u (struct_fields ys x) ≡ true → all_fields fits v (struct_fields zs x) ≡ true
fields_grow no_top u v a fits x o i f = f
fields_grow (same_top {ys = ys} {zs = zs} y n k g) u v a fits x o i f =
    let e = ap (all_fields fits u) (struct_same y n ys x) in
    ap (all_fields fits v) (struct_same y n zs x) ∙ fields_grow g u v a fits x o i (sym e ∙ f)
fields_grow {old = old} (new_top {zs = zs} z m n k g) u v a fits x o i f = ap (all_fields fits v) (struct_passed old z n zs x o) ∙ fields_grow g u v a fits x o i f
fields_grow {old = old} {more = more} (wider_struct {ys = ys} {zs = zs} p n fs on ofs m j g) u v a fits x o i f =
    let P : List ℕ → Type 0 = λ y. InRole fits v (more y) in
    let own : same_text n x ≡ true → all_fields fits u fs ≡ true → all_fields fits v (with_more (more n) fs) ≡ true =
    λ e h. wider fs (subst P (sym ((bytes_eq-Decides n x).0 e)) i) (sym (all_alike old u v a fits fs ofs) ∙ h) in
    struct_step fits u v (same_text n x) fs (with_more (more n) fs) (struct_fields ys x) (struct_fields zs x) own (fields_grow g u v a fits x o i) f
  where
    wider : {fits : Thing → Bool} {v : Scope} {m : More} (fs : List (PTy × List ℕ)) → InRole fits v m → all_fields fits v fs ≡ true → all_fields fits v (with_more m fs) ≡ true
    wider {fits = fits} {v = v} {m = m} fs i e = all_joined fits v m.front (fs ++ m.back) i.front (all_joined fits v fs m.back e i.back)
fields_grow (other_states p d rs tts m w b g) u v a fits x o i f = fields_grow g u v a fits x o i f
fields_grow (other_control p c rs ms b m j g) u v a fits x o i f = fields_grow g u v a fits x o i f

pub role_grows : {old : Names} {more : List ℕ → More} {change : Bool} {main : List (List ℕ)} {front s t : Scope} {ys zs : List Top} → TopsGrow old more change main front s t ys zs → (u v : Scope) → Alike old u v → (fits : Thing → Bool) (x : List ℕ) → old x ≡ true → InRole fits v (more x) → is_struct_of fits u ys x ≡ true → is_struct_of fits v zs x ≡ true
role_grows {old = old} {ys = ys} {zs = zs} g u v a fits x o i f =
    let e = ap is_struct (thing_alike old u v a (type.Named x) o) in
    let first : is_struct (thing_in u (type.Named x)) ≡ true = front (is_struct (thing_in u (type.Named x))) (all_fields fits u (struct_fields ys x)) f in
    let second : all_fields fits u (struct_fields ys x) ≡ true = back (is_struct (thing_in u (type.Named x))) (all_fields fits u (struct_fields ys x)) f in
    both_true (is_struct (thing_in v (type.Named x))) (all_fields fits v (struct_fields zs x)) (sym e ∙ first) (fields_grow g u v a fits x o i second)
  where
    front : (a b : Bool) → (a && b) ≡ true → a ≡ true
    front true b e = refl
    front false b e = e

    back : (a b : Bool) → (a && b) ≡ true → b ≡ true
    back true b e = e
    back false b e = no_case (sym e)

-- ---- the roles that the parser's parameters give

abbrev OldSomeWays : Names → Option (List Param) → Type 0
OldSomeWays old None = Unit {0}
OldSomeWays old (Some qs) = OldWays old qs

ways_step : (old : Names) (b : Bool) (d : Parser) (o : Option Parser) → OldWays old d.params → OldSomeWays old (option_map (λ (d : Parser). d.params) o) → OldSomeWays old (option_map (λ (d : Parser). d.params) (cond b (Some d) o))
ways_step old true d o u v = u
ways_step old false d o u v = v

ways_same : (old : Names) (y : Top) → OldTop old y → (ys : List Top) (x : List ℕ) → OldSomeWays old (parser_ways ys x) → OldSomeWays old (parser_ways (y ∷ ys) x)
ways_same old (parser p d) o ys x u = ways_step old (same_text d.name x) d (parser_named ys x) o.params u
ways_same old (struct_type p n fs) o ys x u = u
ways_same old (constant p t n e) o ys x u = u
ways_same old (typedef p t n) o ys x u = u
ways_same old (header_type p n fs) o ys x u = u
ways_same old (register p r) o ys x u = u
ways_same old (control p c) o ys x u = u

ways_are_old : {old : Names} {more : List ℕ → More} {change : Bool} {main : List (List ℕ)} {u s t : Scope} {ys zs : List Top} → TopsGrow old more change main u s t ys zs → (x : List ℕ) → OldSomeWays old (parser_ways ys x)
ways_are_old no_top x = tt
ways_are_old {old = old} (same_top {ys = ys} y n o g) x = ways_same old y o ys x (ways_are_old g x)
ways_are_old (new_top z i n k g) x = ways_are_old g x
ways_are_old (wider_struct p y fs ox o m j g) x = ways_are_old g x
ways_are_old {old = old} (other_states {ys = ys} p d rs tts m u b g) x = ways_step old (same_text d.name x) d (parser_named ys x) u (ways_are_old g x)
ways_are_old (other_control p c rs ms b m i g) x = ways_are_old g x

-- the structs of a fine program are in their roles, and their names are old
record HasRoles (old : Names) (r : Structs) : Type 0 where
  are_headers : r.has_headers ≡ true
  are_metadata : r.has_metadata ≡ true
  old_headers : old r.headers_type ≡ true
  old_metadata : old r.metadata_type ≡ true

last_true : (a b h : Bool) → not (a && (b && h)) ≡ false → h ≡ true
last_true true true true f = refl
last_true true true false f = no_case f
last_true true false h f = no_case f
last_true false b h f = no_case f

mid_true : (a b h : Bool) → not (a && (b && h)) ≡ false → b ≡ true
mid_true true true h f = refl
mid_true true false h f = no_case f
mid_true false b h f = no_case f

name_is_old : (old : Names) (t : PTy) → OldType old t → (n : List ℕ) → n ≡ type_name t → is_named t n ≡ true → old n ≡ true
name_is_old old (type.Named y) o n e f = ap old e ∙ o
name_is_old old (type.Bit w) o n e f = no_case (sym f)
name_is_old old type.Bool o n e f = no_case (sym f)

roles_from : (old : Names) (p : ℕ) (qs : List Param) → OldWays old qs → (r : Structs) → r.headers_type ≡ param_type (param_at qs 1) → r.metadata_type ≡ param_type (param_at qs 2) → IsFine (wanted_tests p r parser_wants qs) → HasRoles old r
roles_from old p [] o r e g f = no_case f
roles_from old p (a ∷ []) o r e g f = no_case f.1
roles_from old p (a ∷ b ∷ []) o r e g f = no_case f.1.1
roles_from old p (a ∷ b ∷ c ∷ qs) o r e g f =
    record {
      are_headers = last_true _ (is_named b.ty r.headers_type) r.has_headers f.1.0;
      are_metadata = last_true _ (is_named c.ty r.metadata_type) r.has_metadata f.1.1.0;
      old_headers = name_is_old old b.ty o.2.0 r.headers_type e (mid_true _ (is_named b.ty r.headers_type) r.has_headers f.1.0);
      old_metadata = name_is_old old c.ty o.2.2.0 r.metadata_type g (mid_true _ (is_named c.ty r.metadata_type) r.has_metadata f.1.1.0);
    }

roles_at : (old : Names) (p : ℕ) (o : Option Parser) → is_some o ≡ true → OldSomeWays old (option_map (λ (d : Parser). d.params) o) → (r : Structs) → r.headers_type ≡ parser_type o 1 → r.metadata_type ≡ parser_type o 2 → IsFine (parser_params p r o) → HasRoles old r
roles_at old p None i u r e g f = no_case (sym i)
roles_at old p (Some d) i u r e g f = roles_from old p d.params u r e g f

front_true : (a b c : Bool) → not (a && b && c) ≡ false → a ≡ true
front_true true b c f = refl
front_true false b c f = no_case f

abbrev of_parts : ℕ → List Top → List (List ℕ) → Program
of_parts p ts main = record { at = p; tops = ts; main = main }

has_roles : (old : Names) (s : Scope) (p : ℕ) (ts : List Top) (main : List (List ℕ)) → ((x : List ℕ) → OldSomeWays old (parser_ways ts x)) → IsFine (main_tests s (of_parts p ts main)) → HasRoles old (structs_of s (of_parts p ts main))
has_roles old s p ts [] u f = no_case f.0
has_roles old s p ts (d ∷ []) u f = no_case f.0
has_roles old s p ts (d ∷ v ∷ []) u f = no_case f.0
has_roles old s p ts (d ∷ v ∷ i ∷ []) u f = no_case f.0
has_roles old s p ts (d ∷ v ∷ i ∷ e ∷ []) u f = no_case f.0
has_roles old s p ts (d ∷ v ∷ i ∷ e ∷ k ∷ []) u f = no_case f.0
has_roles old s p ts (d ∷ v ∷ i ∷ e ∷ k ∷ m ∷ []) u f =
    let r = structs_of s (of_parts p ts (d ∷ v ∷ i ∷ e ∷ k ∷ m ∷ [])) in
    roles_at old p (parser_named ts d) (front_true (is_some (parser_named ts d)) _ _ f.0) (u d) r refl refl f.1.1.0
has_roles old s p ts (d ∷ v ∷ i ∷ e ∷ k ∷ m ∷ n ∷ r) u f = no_case f.0

types_same : (u v : Option Parser) (n : ℕ) → option_map (λ (d : Parser). d.params) u ≡ option_map (λ (d : Parser). d.params) v → parser_type u n ≡ parser_type v n
types_same None None n e = refl
types_same None (Some d) n e = absurd (let c : None ≡ Some d.params = e in cc)
types_same (Some c) None n e = absurd (let d : Some c.params ≡ None = e in cc)
types_same (Some c) (Some d) n e = let same : c.params ≡ d.params = cc in ap (λ qs. param_type (param_at qs n)) same

-- ---- new declarations in front

parsers_behind : (old : Names) (front : List Top) → NewInFront old front → (zs : List Top) (x : List ℕ) → parser_ways (front ++ zs) x ≡ parser_ways zs x
parsers_behind old [] n zs x = refl
parsers_behind old (z ∷ front) n zs x = ap (option_map (λ (d : Parser). d.params)) (parser_passed z n.0 (front ++ zs) x) ∙ parsers_behind old front n.2 zs x

controls_behind : (old : Names) (front : List Top) → NewInFront old front → (zs : List Top) (x : List ℕ) → control_ways (front ++ zs) x ≡ control_ways zs x
controls_behind old [] n zs x = refl
controls_behind old (z ∷ front) n zs x = ap (option_map (λ (c : Control). c.params)) (control_passed z n.0 (front ++ zs) x) ∙ controls_behind old front n.2 zs x

left_out_behind : (old : Names) (front : List Top) → NewInFront old front → (zs : List Top) (main : List (List ℕ)) → leaves_some_out main (front ++ zs) ≡ leaves_some_out main zs
left_out_behind old [] n zs main = refl
left_out_behind old (z ∷ front) n zs main = ap (λ b. b || leaves_some_out main (front ++ zs)) (none_left_out main z n.0) ∙ left_out_behind old front n.2 zs main

pub structs_behind : (old : Names) (front : List Top) → NewInFront old front → (zs : List Top) (x : List ℕ) → old x ≡ true → struct_fields (front ++ zs) x ≡ struct_fields zs x
structs_behind old [] n zs x o = refl
structs_behind old (z ∷ front) n zs x o = struct_passed old z n.1 (front ++ zs) x o ∙ structs_behind old front n.2 zs x o

new_tops : (old : Names) (front : List Top) → NewInFront old front → NewTops old front
new_tops old [] n = tt
new_tops old (z ∷ front) n = (n.1, new_tops old front n.2)

role_behind : (old : Names) (front : List Top) → NewInFront old front → (fits : Thing → Bool) (v : Scope) (zs : List Top) (x : List ℕ) → old x ≡ true → is_struct_of fits v zs x ≡ true → is_struct_of fits v (front ++ zs) x ≡ true
role_behind old front n fits v zs x o f =
    let e = ap (λ fs. is_struct (thing_in v (type.Named x)) && all_fields fits v fs) (structs_behind old front n zs x o) in
    e ∙ f

-- ---- no name of the architecture's own is a struct

passed : {A : Type 0} (b : Bool) (a u : Stands) → (a ≡ typed false Struct → A) → (u ≡ typed false Struct → A) → cond b a u ≡ typed false Struct → A
passed true a u f g e = f e
passed false a u f g e = g e

no_struct_yet : (x : List ℕ) → core (x ∷ []) ≡ typed false Struct → ⊥
unfolding core
no_struct_yet x =
    passed (same_text x (codes "standard_metadata_t")) (typed false Standard) _ (λ e. cc)
    (passed (same_text x (codes "packet_in")) (typed false PacketIn) _ (λ e. cc)
    (passed (same_text x (codes "packet_out")) (typed false PacketOut) _ (λ e. cc)
    (passed (same_text x (codes "NoAction")) (act [] 0) _ (λ e. cc)
    (passed (same_text x (codes "mark_to_drop")) (function MarkToDrop) _ (λ e. cc)
    (passed (same_text x (codes "digest")) (function Digest) _ (λ e. cc)
    (passed (same_text x (codes "verify_checksum")) (function VerifyChecksum) _ (λ e. cc)
    (passed (same_text x (codes "update_checksum")) (function UpdateChecksum) _ (λ e. cc)
    (passed (same_text x (codes "HashAlgorithm")) other missing (λ e. cc) (λ e. cc)))))))))

-- what is made of declarations that are fine
module _ (old : Names) (more : List ℕ → More) (change : Bool) (p : Program) (q : ℕ) (front zs : List Top) (i : NewInFront old front) (g : TopsGrow old more change p.main (after_tops core front) core (after_tops core front) p.tops zs) (j : IsFine (tops_tests p.main core front)) (own_fine : IsFine (tops_tests p.main core p.tops)) where
  abbrev made : Program
  made = grown p q front zs

  front_alike : Alike old core (after_tops core front)
  front_alike = skip_tops old core core (alike_self old core) front (new_tops old front i)

  -- before the first declaration there is no struct
  sees_front : Sees old more (after_tops core front) core (after_tops core front)
  sees_front = record { alike = front_alike; front = keeps_self (after_tops core front); wider = λ x o e y xs j. absurd (no_struct_yet x e) }

  own_tops : IsFine (tops_tests p.main (after_tops core front) zs) × Sees old more (after_tops core front) (after_tops core p.tops) (after_tops (after_tops core front) zs)
  own_tops = tops_grow g sees_front own_fine

  pub made_fine : IsFine (tops_tests p.main core (front ++ zs))
  made_fine = tops_joined p.main core front zs j own_tops.0

  pub scopes_see : Sees old more (after_tops core front) (program_scope p) (program_scope made)
  scopes_see =
      let P : Scope → Type 0 = λ u. Sees old more (after_tops core front) (after_tops core p.tops) u in
      let Q : Scope → Type 0 = λ u. Sees old more (after_tops core front) u (program_scope made) in
      let made_scope : after_tops (after_tops core front) zs ≡ program_scope made = sym (all_first p.main core (front ++ zs) made_fine ∙ tops_append core front zs) in
      subst Q (sym (all_first p.main core p.tops own_fine)) (subst P made_scope own_tops.1)

-- the fields that are added to the struct of headers and to that of metadata fit their roles
module _ (old : Names) (more : List ℕ → More) (p : Program) (q : ℕ) (front zs : List Top) (i : NewInFront old front) (g : TopsGrow old more false p.main (after_tops core front) core (after_tops core front) p.tops zs) (j : IsFine (tops_tests p.main core front)) (own_fine : IsFine (tops_tests p.main core p.tops)) where
  abbrev whole : Program
  whole = grown p q front zs

  parsers_same : (x : List ℕ) → parser_ways p.tops x ≡ parser_ways (front ++ zs) x
  parsers_same x = parsers_grow g x ∙ sym (parsers_behind old front i zs x)

  controls_same : (x : List ℕ) → control_ways p.tops x ≡ control_ways (front ++ zs) x
  controls_same x = controls_grow g x ∙ sym (controls_behind old front i zs x)

  scopes_alike : Alike old (program_scope p) (program_scope whole)
  scopes_alike = (scopes_see old more false p q front zs i g j own_fine).alike

  module _ (hs : InRole is_header (program_scope whole) (more (structs_of (program_scope p) p).headers_type)) (ms : InRole is_scalar (program_scope whole) (more (structs_of (program_scope p) p).metadata_type)) where
    in_role : (fits : Thing → Bool) (x : List ℕ) → old x ≡ true → InRole fits (program_scope whole) (more x) → is_struct_of fits (program_scope p) p.tops x ≡ true → is_struct_of fits (program_scope whole) (front ++ zs) x ≡ true
    in_role fits x o r f = role_behind old front i fits (program_scope whole) zs x o (role_grows g (program_scope p) (program_scope whole) scopes_alike fits x o r f)

    main_grows : IsFine (main_tests (program_scope p) p) → IsFine (main_tests (program_scope whole) whole)
    main_grows f =
        let r = structs_of (program_scope p) p in
        let m = structs_of (program_scope whole) whole in
        let has = has_roles old (program_scope p) p.at p.tops p.main (ways_are_old g) f in
        let named : m.headers_type ≡ r.headers_type = types_same (parser_in whole) (parser_in p) 1 (sym (parsers_same _)) in
        let kept : m.metadata_type ≡ r.metadata_type = types_same (parser_in whole) (parser_in p) 2 (sym (parsers_same _)) in
        let are_headers : m.has_headers ≡ true = ap (is_struct_of is_header (program_scope whole) (front ++ zs)) named ∙ in_role is_header r.headers_type has.old_headers hs has.are_headers in
        let are_metadata : m.has_metadata ≡ true = ap (is_struct_of is_scalar (program_scope whole) (front ++ zs)) kept ∙ in_role is_scalar r.metadata_type has.old_metadata ms has.are_metadata in
        let roles = roles_same r m named kept are_headers are_metadata in (
          ap not (sym (names_same p.tops (front ++ zs) parsers_same controls_same p.main)) ∙ f.0,
          (
            left_out_behind old front i zs p.main ∙ (sym (left_out_grow g p.main) ∙ f.1.0),
            parts_fit p.tops (front ++ zs) parsers_same controls_same r m roles p.at q p.main f.1.1,
          ),
        )
      where
        roles_same : (r m : Structs) → m.headers_type ≡ r.headers_type → m.metadata_type ≡ r.metadata_type → m.has_headers ≡ true → m.has_metadata ≡ true → AreInRole p.tops (front ++ zs) parsers_same controls_same r m
        roles_same r m e f g h = record { same_headers = e; same_metadata = f; are_headers = g; are_metadata = h }

pub program_grows :
    (old : Names) (more : List ℕ → More) (p : Program) (q : ℕ) (front zs : List Top) → NewInFront old front → TopsGrow old more false p.main (after_tops core front) core (after_tops core front) p.tops zs → IsFine (tops_tests p.main core front) → IsWellTyped p
    → InRole is_header (program_scope (grown p q front zs)) (more (structs_of (program_scope p) p).headers_type) → InRole is_scalar (program_scope (grown p q front zs)) (more (structs_of (program_scope p) p).metadata_type)
    → IsFine (limit_tests (program_scope (grown p q front zs)) (grown p q front zs)) → IsWellTyped (grown p q front zs)
program_grows old more p q front zs i g j w hs ms l =
    let given = unbroken_fine (program_tests p) w in
    fine_unbroken (program_tests (grown p q front zs)) (made_fine old more false p q front zs i g j given.0, (main_grows old more p q front zs i g j given.0 hs ms given.1.0, l))
