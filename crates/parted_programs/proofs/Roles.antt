-- In a program with two structs `main` names the parts that it named, and each parameter is of the struct in its role.
use Rattle.std.proofs.Common.{◌≡◌, ◌∷◌, [], ◌&&◌, ◌∙◌, ℕ, inl, inr, List, Bool, true, false, cond, not, Option, Some, None, is_some, refl, sym, ap, ap₂, subst}
use Rattle.exit_programs.proofs.MainParts.{HaveParts}
use Rattle.lex_text.specs.Names.{same_text}
use Rattle.linked_hosts.proofs.ReadyByRules.{IsAtPlace, place_part}
use Rattle.linked_programs.specs.Linked.{Place, is_deparser, is_egress, is_ingress, is_other, place_in}
use Rattle.own_programs.proofs.Names.{broken}
use Rattle.p4_declaration_rules.specs.Controls.{part_in}
use Rattle.p4_declaration_rules.specs.Declarations.{has_twice}
use Rattle.p4_meaning.specs.Parts.{control_named, named_in, parser_named}
use Rattle.p4_rule_laws.specs.Roles.{is_main_part, wants_of}
use Rattle.p4_rules.specs.Mains.{Structs, apply_wants, checksum_wants, control_params, deparser_wants, has_controls, is_named, is_wanted, names_parts, parser_params, parser_wants, parts_params, same_way, wanted_tests}
use Rattle.p4_rules.specs.ProgramRules.{IsWellTyped}
use Rattle.p4_statement_rules.specs.declared.rule.Part.{Part}
use Rattle.p4_tree.specs.Tree.{Control, Parser, Program, Top, constant, control, header_type, parser, register, struct_type, typedef}
use Rattle.p4_tree.specs.declared.program.Param.{Param}
use Rattle.p4_tree.specs.declared.program.Way.{Way}
use Rattle.p4_tree.specs.declared.program.Way.TheVariants.{Both, Into, Out}
use Rattle.p4_typing_laws.proofs.CallCounts.{text_is}
use Rattle.parted_programs.proofs.SameParts.{controls_made, parser_made}
use Rattle.parted_programs.specs.Parted.{control_parted, new_metadata, params_parted, parser_parted, retyped, tops_parted, with_new}
use Rattle.rule_tests.specs.Tests.{IsFine}
use Rattle.std.specs.Option.{option_map}
use Rattle.p4_statement_rules.specs.declared.rule.Part.TheVariants as place
use Rattle.p4_rules.specs.Mains as wants

-- ---- roles

-- what the structs are then
abbrev pub new_roles : Structs → Structs
new_roles r = record { headers_type = r.headers_type; metadata_type = new_metadata; has_headers = true; has_metadata = true }

pub structs_are : (r q : Structs) → q.headers_type ≡ r.headers_type → q.metadata_type ≡ new_metadata → q.has_headers ≡ true → q.has_metadata ≡ true → q ≡ new_roles r
structs_are r q a b c d = λ j. record { headers_type = a j; metadata_type = b j; has_headers = c j; has_metadata = d j }

module _ (r : Structs) where
  keeps_role : (a b c : Bool) → not (a && (b && c)) ≡ false → not (a && (b && true)) ≡ false
  keeps_role true true c f = refl
  keeps_role true false c f = f
  keeps_role false b c f = f

  headers_fit : (w : Way) (q : Param) → not (is_wanted r (wants.headers w) q) ≡ false → not (is_wanted (new_roles r) (wants.headers w) q) ≡ false
  headers_fit w q f = keeps_role (same_way w q.way) (is_named q.ty r.headers_type) r.has_headers f

  metadata_fit : (w : Way) (q : Param) → not (is_wanted r (wants.metadata w) q) ≡ false → not (is_wanted (new_roles r) (wants.metadata w) (with_new q)) ≡ false
  metadata_fit w q f = go (same_way w q.way) (is_named q.ty r.metadata_type && r.has_metadata) f
    where
      go : (a b : Bool) → not (a && b) ≡ false → not (a && true) ≡ false
      go true b f = refl
      go false b f = f

  module _ (at to : ℕ) where
    parser_fit : (qs : List Param) → IsFine (wanted_tests at r parser_wants qs) → IsFine (wanted_tests to (new_roles r) parser_wants (retyped 2 qs))
    parser_fit [] f = broken f
    parser_fit (k ∷ []) f = broken f.1
    parser_fit (k ∷ a ∷ []) f = broken f.1.1
    parser_fit (k ∷ a ∷ c ∷ []) f = broken f.1.1.1
    parser_fit (k ∷ a ∷ c ∷ d ∷ []) f = (f.0, (headers_fit Out a f.1.0, (metadata_fit Both c f.1.1.0, (f.1.1.1.0, tt))))
    parser_fit (k ∷ a ∷ c ∷ d ∷ e ∷ qs) f = broken f.1.1.1.1.0

    apply_fit : (qs : List Param) → IsFine (wanted_tests at r apply_wants qs) → IsFine (wanted_tests to (new_roles r) apply_wants (retyped 1 qs))
    apply_fit [] f = broken f
    apply_fit (a ∷ []) f = broken f.1
    apply_fit (a ∷ c ∷ []) f = broken f.1.1
    apply_fit (a ∷ c ∷ d ∷ []) f = (headers_fit Both a f.0, (metadata_fit Both c f.1.0, (f.1.1.0, tt)))
    apply_fit (a ∷ c ∷ d ∷ e ∷ qs) f = broken f.1.1.1.0

    checksum_fit : (qs : List Param) → IsFine (wanted_tests at r checksum_wants qs) → IsFine (wanted_tests to (new_roles r) checksum_wants (retyped 1 qs))
    checksum_fit [] f = broken f
    checksum_fit (a ∷ []) f = broken f.1
    checksum_fit (a ∷ c ∷ []) f = (headers_fit Both a f.0, (metadata_fit Both c f.1.0, tt))
    checksum_fit (a ∷ c ∷ d ∷ qs) f = broken f.1.1.0

    deparser_fit : (qs : List Param) → IsFine (wanted_tests at r deparser_wants qs) → IsFine (wanted_tests to (new_roles r) deparser_wants qs)
    deparser_fit [] f = broken f
    deparser_fit (a ∷ []) f = broken f.1
    deparser_fit (a ∷ c ∷ []) f = (f.0, (headers_fit Into c f.1.0, tt))
    deparser_fit (a ∷ c ∷ d ∷ qs) f = broken f.1.1.0

-- ---- the parts that `main` names

some_of : {A B : Type 0} (f : A → B) (o : Option A) → is_some (option_map f o) ≡ is_some o
some_of f None = refl
some_of f (Some a) = refl

named_so : (ts : List Top) (x : List ℕ) (c : Control) → control_named ts x ≡ Some c → c.name ≡ x
named_so [] x c e = absurd (cc e)
named_so (constant p t y v ∷ ts) x c e = named_so ts x c e
named_so (typedef p t y ∷ ts) x c e = named_so ts x c e
named_so (header_type p y fs ∷ ts) x c e = named_so ts x c e
named_so (struct_type p y fs ∷ ts) x c e = named_so ts x c e
named_so (register p d ∷ ts) x c e = named_so ts x c e
named_so (parser p d ∷ ts) x c e = named_so ts x c e
named_so (control p d ∷ ts) x c e = go (same_text d.name x) refl e (named_so ts x c)
  where
    go : (b : Bool) → same_text d.name x ≡ b → cond b (Some d) (control_named ts x) ≡ Some c → (control_named ts x ≡ Some c → c.name ≡ x) → c.name ≡ x
    go true h i more = (let same : d ≡ c = cc in ap (λ (k : Control). k.name) (sym same) ∙ text_is d.name x h)
    go false h i more = more i

module _ (main : List (List ℕ)) (ts : List Top) where
  abbrev zs : List Top
  zs = tops_parted main ts

  parser_is : (x : List ℕ) → is_some (parser_named zs x) ≡ is_some (parser_named ts x)
  parser_is x = ap is_some (parser_made main ts x) ∙ some_of parser_parted (parser_named ts x)

  control_is : (x : List ℕ) → is_some (control_named zs x) ≡ is_some (control_named ts x)
  control_is x = ap is_some (controls_made main ts x) ∙ some_of _ (control_named ts x)

  controls_are : (xs : List (List ℕ)) → has_controls zs xs ≡ has_controls ts xs
  controls_are [] = refl
  controls_are (x ∷ xs) = ap₂ (λ (a b : Bool). a && b) (control_is x) (controls_are xs)

  pub names_same : (names : List (List ℕ)) → names_parts zs names ≡ names_parts ts names
  names_same [] = refl
  names_same (d ∷ []) = refl
  names_same (d ∷ v ∷ []) = refl
  names_same (d ∷ v ∷ i ∷ []) = refl
  names_same (d ∷ v ∷ i ∷ e ∷ []) = refl
  names_same (d ∷ v ∷ i ∷ e ∷ k ∷ []) = refl
  names_same (d ∷ v ∷ i ∷ e ∷ k ∷ m ∷ []) = ap₂ (λ (a b : Bool). a && b && not (has_twice (v ∷ i ∷ e ∷ k ∷ m ∷ []))) (parser_is d) (controls_are (v ∷ i ∷ e ∷ k ∷ m ∷ []))
  names_same (d ∷ v ∷ i ∷ e ∷ k ∷ m ∷ n ∷ rest) = refl

-- ---- their parameters

module _ (p : Program) (well : IsWellTyped p) (parts : HaveParts p.main) (r : Structs) (at to : ℕ) where
  control_fit : (k : Place) (h : Part) (qs : List Param) → IsAtPlace p well parts k h → IsFine (wanted_tests at r (wants_of h) qs) → IsFine (wanted_tests to (new_roles r) (wants_of h) (params_parted k qs))
  control_fit k h qs is f = go k is
    where
      at_part : (j : Place) (g : Part) → h ≡ g → (IsFine (wanted_tests at r (wants_of g) qs) → IsFine (wanted_tests to (new_roles r) (wants_of g) (params_parted j qs))) → IsFine (wanted_tests to (new_roles r) (wants_of h) (params_parted j qs))
      at_part j g e turn = subst (λ (y : Part). IsFine (wanted_tests to (new_roles r) (wants_of y) (params_parted j qs))) (sym e) (turn (subst (λ (y : Part). IsFine (wanted_tests at r (wants_of y) qs)) e f))

      go : (j : Place) → IsAtPlace p well parts j h → IsFine (wanted_tests to (new_roles r) (wants_of h) (params_parted j qs))
      go is_ingress e = at_part is_ingress place.Apply e (apply_fit r at to qs)
      go is_egress e = at_part is_egress place.Apply e (apply_fit r at to qs)
      go is_deparser e = at_part is_deparser place.Deparser e (deparser_fit r at to qs)
      go is_other (inl e) = at_part is_other place.Verify e (checksum_fit r at to qs)
      go is_other (inr e) = at_part is_other place.Compute e (checksum_fit r at to qs)

  -- of the control of a name, which is such a part
  named_fit : (x : List ℕ) (h : Part) → part_in p.main x ≡ h → is_main_part h ≡ true → IsFine (control_params at r (wants_of h) (control_named p.tops x)) → IsFine (control_params to (new_roles r) (wants_of h) (control_named (tops_parted p.main p.tops) x))
  named_fit x h is main f =
      subst (λ (o : Option Control). IsFine (control_params to (new_roles r) (wants_of h) o)) (sym (controls_made p.main p.tops x)) (go (control_named p.tops x) refl f)
    where
      go : (o : Option Control) → control_named p.tops x ≡ o → IsFine (control_params at r (wants_of h) o) → IsFine (control_params to (new_roles r) (wants_of h) (option_map (λ (c : Control). control_parted (place_in p.main c.name) c) o))
      go None e g = tt
      go (Some c) e g =
          subst (λ (y : List ℕ). IsFine (wanted_tests to (new_roles r) (wants_of h) (params_parted (place_in p.main y) c.params))) (sym (named_so p.tops x c e))
          (control_fit (place_in p.main x) h c.params (subst (IsAtPlace p well parts (place_in p.main x)) is (place_part p well parts x (ap is_main_part is ∙ main))) g)

  pub parts_fit : (main : List (List ℕ)) → p.main ≡ main → IsFine (parts_params at r p.tops main) → IsFine (parts_params to (new_roles r) (tops_parted p.main p.tops) main)
  parts_fit [] is f = tt
  parts_fit (d ∷ []) is f = tt
  parts_fit (d ∷ v ∷ []) is f = tt
  parts_fit (d ∷ v ∷ i ∷ []) is f = tt
  parts_fit (d ∷ v ∷ i ∷ e ∷ []) is f = tt
  parts_fit (d ∷ v ∷ i ∷ e ∷ k ∷ []) is f = tt
  parts_fit (d ∷ v ∷ i ∷ e ∷ k ∷ m ∷ []) is f = (
    subst (λ (o : Option Parser). IsFine (parser_params to (new_roles r) o)) (sym (parser_made p.main p.tops d)) (first (parser_named p.tops d) f.0),
    (
      named_fit v place.Verify (named 1 ∙ parts.verify) refl f.1.0,
      (
        named_fit i place.Apply (named 2 ∙ parts.ingress) refl f.1.1.0,
        (
          named_fit e place.Apply (named 3 ∙ parts.egress) refl f.1.1.1.0,
          (
            named_fit k place.Compute (named 4 ∙ parts.compute) refl f.1.1.1.1.0,
            named_fit m place.Deparser (named 5 ∙ parts.deparser) refl f.1.1.1.1.1,
          ),
        ),
      ),
    ),
  )
    where
      named : (n : ℕ) → part_in p.main (named_in (d ∷ v ∷ i ∷ e ∷ k ∷ m ∷ []) n) ≡ part_in p.main (named_in p.main n)
      named n = ap (λ (xs : List (List ℕ)). part_in p.main (named_in xs n)) (sym is)

      first : (o : Option Parser) → IsFine (parser_params at r o) → IsFine (parser_params to (new_roles r) (option_map parser_parted o))
      first None g = tt
      first (Some x) g = parser_fit r at to x.params g
  parts_fit (d ∷ v ∷ i ∷ e ∷ k ∷ m ∷ n ∷ rest) is f = tt
