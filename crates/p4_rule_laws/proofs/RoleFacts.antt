-- In fine declarations each name is that of one declaration, so that the parts that `main` names are those that stand
-- there.
use Rattle.std.proofs.Common.{◌≡◌, ◌⊎◌, inl, inr, ℕ, List, [], ◌∷◌, Bool, true, false, cond, not, ◌&&◌, ◌||◌, refl, sym, ap, ◌∙◌, subst, Option, Some, is_some}
use Rattle.std.proofs.lemmas.Slice.Eq.{bytes_eq-Decides}
use Rattle.lex_text.specs.Names.{same_text}
use Rattle.rule_tests.specs.Tests.{IsFine}
use Rattle.rule_tests.proofs.FirstBroken.{unbroken_fine}
use Rattle.p4_tree.specs.Tree.{Control, Parser, Top, constant, typedef, header_type, struct_type, register, parser, control, Program}
use Rattle.p4_tree.specs.declared.program.Param.{Param}
use Rattle.p4_meaning.specs.Parts.{parser_named, control_named}
use Rattle.p4_parser_states.specs.Cycles.{is_among}
use Rattle.p4_scopes.specs.Scopes.{Scope, is_missing, What, alias, fields, value, part, behind, declare, core, fields_bits}
use Rattle.p4_scopes.specs.Scopes as scope
use Rattle.p4_scopes.specs.declared.thing.Thing.TheVariants.{Header, Struct}
use Rattle.p4_scopes.specs.declared.thing.Access.TheVariants.{Constant}
use Rattle.p4_statement_rules.specs.declared.rule.Part.{Part}
use Rattle.p4_statement_rules.specs.declared.rule.Part.TheVariants as place
use Rattle.p4_declaration_rules.specs.Controls.{part_in, after_top, tops_tests}
use Rattle.p4_declaration_rules.specs.Firsts.{top_name}
use Rattle.p4_declaration_rules.proofs.FirstsLemmas.{is_new}
use Rattle.p4_rules.specs.Mains.{is_named, leaves_out, leaves_some_out, has_controls, names_parts, Wanted, parser_wants, checksum_wants, apply_wants, deparser_wants, Structs, structs_of, wanted_tests, parser_params, control_params, parts_params}
use Rattle.p4_rules.specs.ProgramRules.{program_scope, program_tests, IsWellTyped}
use Rattle.p4_rule_laws.specs.Roles.{wants_of, is_main_part, In, PartsAreInRole}
use Rattle.p4_rule_laws.proofs.KeepsLemmas.{declared, after_top_keeps}

no_case : {A : Type 0} → true ≡ false → A
no_case e = absurd (cc)

text_is : (x y : List ℕ) → same_text x y ≡ true → x ≡ y
text_is x y e = (bytes_eq-Decides x y).0 e

text_same : (x y : List ℕ) → x ≡ y → same_text x y ≡ true
text_same x y e = (bytes_eq-Decides x y).1 e

either_true : (a b : Bool) → (a || b) ≡ true → (a ≡ true) ⊎ (b ≡ true)
either_true true b e = inl refl
either_true false b e = inr e

both_parts : (a b : Bool) → (a && b) ≡ true → (a ≡ true) × (b ≡ true)
both_parts true b e = (refl, e)
both_parts false b e = no_case (sym e)

two_parts : (a b c : Bool) → (a && b && c) ≡ true → (a ≡ true) × (b ≡ true)
two_parts true true c e = (refl, refl)
two_parts true false c e = no_case (sym e)
two_parts false b c e = no_case (sym e)

left_none : (a b : Bool) → (a || b) ≡ false → a ≡ false
left_none true b e = e
left_none false b e = refl

right_none : (a b : Bool) → (a || b) ≡ false → b ≡ false
right_none true b e = no_case e
right_none false b e = e

not_false : (b : Bool) → not b ≡ false → b ≡ true
not_false true e = refl
not_false false e = no_case e

-- ---- a name is declared once

is_declared : (s : Scope) (y : Top) → is_missing (after_top s y (top_name y ∷ [])) ≡ false
is_declared s (constant p t n e) = ap is_missing (declared s n (value Constant t) [])
is_declared s (typedef p t n) = ap is_missing (declared s n (alias t) [])
is_declared s (header_type p n fs) = ap is_missing (declared s n (fields (Header (fields_bits s fs)) fs) [])
is_declared s (struct_type p n fs) = ap is_missing (declared s n (fields Struct fs) [])
is_declared s (register p r) = ap is_missing (declared s r.name (scope.register r.ty) [])
is_declared s (parser p d) = ap is_missing (declared s d.name part [])
is_declared s (control p c) = ap is_missing (declared s c.name part [])

-- a name in sight is declared no more
no_more : (main : List (List ℕ)) (s : Scope) (ys : List Top) → IsFine (tops_tests main s ys) → (y : Top) → In y ys → is_missing (s (top_name y ∷ [])) ≡ false → ⊥
no_more main s [] f y i m = i
no_more main s (z ∷ ys) f y (inl e) m = no_case (sym (is_new main s z f.0) ∙ (ap (λ u. is_missing (s (top_name u ∷ []))) (sym e) ∙ m))
no_more main s (z ∷ ys) f y (inr i) m = no_more main (after_top s z) ys f.1 y i (ap is_missing ((after_top_keeps main s z f.0).kept (top_name y) [] m) ∙ m)

one_of_name : (main : List (List ℕ)) (s : Scope) (ys : List Top) → IsFine (tops_tests main s ys) → (y z : Top) → In y ys → In z ys → top_name y ≡ top_name z → y ≡ z
one_of_name main s [] f y z i j e = absurd i
one_of_name main s (w ∷ ys) f y z (inl i) (inl j) e = i ∙ sym j
one_of_name main s (w ∷ ys) f y z (inl i) (inr j) e = absurd (no_more main (after_top s w) ys f.1 z j (ap (λ x. is_missing (after_top s w (x ∷ []))) (sym e ∙ ap top_name i) ∙ is_declared s w))
one_of_name main s (w ∷ ys) f y z (inr i) (inl j) e = absurd (no_more main (after_top s w) ys f.1 y i (ap (λ x. is_missing (after_top s w (x ∷ []))) (e ∙ ap top_name j) ∙ is_declared s w))
one_of_name main s (w ∷ ys) f y z (inr i) (inr j) e = one_of_name main (after_top s w) ys f.1 y z i j e

-- ---- what is found by a name

record FoundControl (ys : List Top) (x : List ℕ) (o : Option Control) : Type 0 where
  at : ℕ
  found : Control
  is : o ≡ Some found
  among : In (control at found) ys
  named : found.name ≡ x

record FoundParser (ys : List Top) (x : List ℕ) (o : Option Parser) : Type 0 where
  at : ℕ
  found : Parser
  is : o ≡ Some found
  among : In (parser at found) ys
  named : found.name ≡ x

further_control : (y : Top) (ys : List Top) (x : List ℕ) (o : Option Control) → FoundControl ys x o → FoundControl (y ∷ ys) x o
further_control y ys x o r = record { at = r.at; found = r.found; is = r.is; among = inr r.among; named = r.named }

further_parser : (y : Top) (ys : List Top) (x : List ℕ) (o : Option Parser) → FoundParser ys x o → FoundParser (y ∷ ys) x o
further_parser y ys x o r = record { at = r.at; found = r.found; is = r.is; among = inr r.among; named = r.named }

control_step : (b : Bool) (p : ℕ) (c : Control) (ys : List Top) (x : List ℕ) → same_text c.name x ≡ b → is_some (cond b (Some c) (control_named ys x)) ≡ true → (is_some (control_named ys x) ≡ true → FoundControl ys x (control_named ys x)) → FoundControl (control p c ∷ ys) x (cond b (Some c) (control_named ys x))
control_step true p c ys x e f ih = record { at = p; found = c; is = refl; among = inl refl; named = text_is c.name x e }
control_step false p c ys x e f ih = further_control (control p c) ys x (control_named ys x) (ih f)

found_control : (ys : List Top) (x : List ℕ) → is_some (control_named ys x) ≡ true → FoundControl ys x (control_named ys x)
found_control [] x f = no_case (sym f)
found_control (constant p t n e ∷ ys) x f = further_control (constant p t n e) ys x (control_named ys x) (found_control ys x f)
found_control (typedef p t n ∷ ys) x f = further_control (typedef p t n) ys x (control_named ys x) (found_control ys x f)
found_control (header_type p n fs ∷ ys) x f = further_control (header_type p n fs) ys x (control_named ys x) (found_control ys x f)
found_control (struct_type p n fs ∷ ys) x f = further_control (struct_type p n fs) ys x (control_named ys x) (found_control ys x f)
found_control (register p r ∷ ys) x f = further_control (register p r) ys x (control_named ys x) (found_control ys x f)
found_control (parser p d ∷ ys) x f = further_control (parser p d) ys x (control_named ys x) (found_control ys x f)
found_control (control p c ∷ ys) x f = control_step (same_text c.name x) p c ys x refl f (λ g. found_control ys x g)

parser_step : (b : Bool) (p : ℕ) (d : Parser) (ys : List Top) (x : List ℕ) → same_text d.name x ≡ b → is_some (cond b (Some d) (parser_named ys x)) ≡ true → (is_some (parser_named ys x) ≡ true → FoundParser ys x (parser_named ys x)) → FoundParser (parser p d ∷ ys) x (cond b (Some d) (parser_named ys x))
parser_step true p d ys x e f ih = record { at = p; found = d; is = refl; among = inl refl; named = text_is d.name x e }
parser_step false p d ys x e f ih = further_parser (parser p d) ys x (parser_named ys x) (ih f)

found_parser : (ys : List Top) (x : List ℕ) → is_some (parser_named ys x) ≡ true → FoundParser ys x (parser_named ys x)
found_parser [] x f = no_case (sym f)
found_parser (constant p t n e ∷ ys) x f = further_parser (constant p t n e) ys x (parser_named ys x) (found_parser ys x f)
found_parser (typedef p t n ∷ ys) x f = further_parser (typedef p t n) ys x (parser_named ys x) (found_parser ys x f)
found_parser (header_type p n fs ∷ ys) x f = further_parser (header_type p n fs) ys x (parser_named ys x) (found_parser ys x f)
found_parser (struct_type p n fs ∷ ys) x f = further_parser (struct_type p n fs) ys x (parser_named ys x) (found_parser ys x f)
found_parser (register p r ∷ ys) x f = further_parser (register p r) ys x (parser_named ys x) (found_parser ys x f)
found_parser (parser p d ∷ ys) x f = parser_step (same_text d.name x) p d ys x refl f (λ g. found_parser ys x g)
found_parser (control p c ∷ ys) x f = further_parser (control p c) ys x (parser_named ys x) (found_parser ys x f)

-- what stands there is found
some_either : {A : Type 0} (b : Bool) (a : A) (o : Option A) → (b ≡ true) ⊎ (is_some o ≡ true) → is_some (cond b (Some a) o) ≡ true
some_either true a o e = refl
some_either false a o (inl e) = no_case (sym e)
some_either false a o (inr e) = e

is_control_there : (ys : List Top) (q : ℕ) (c : Control) → In (control q c) ys → is_some (control_named ys c.name) ≡ true
is_control_there [] q c i = absurd i
is_control_there (constant p t n e ∷ ys) q c' (inl i) = absurd (cc)
is_control_there (constant p t n e ∷ ys) q c' (inr i) = is_control_there ys q c' i
is_control_there (typedef p t n ∷ ys) q c' (inl i) = absurd (cc)
is_control_there (typedef p t n ∷ ys) q c' (inr i) = is_control_there ys q c' i
is_control_there (header_type p n fs ∷ ys) q c' (inl i) = absurd (cc)
is_control_there (header_type p n fs ∷ ys) q c' (inr i) = is_control_there ys q c' i
is_control_there (struct_type p n fs ∷ ys) q c' (inl i) = absurd (cc)
is_control_there (struct_type p n fs ∷ ys) q c' (inr i) = is_control_there ys q c' i
is_control_there (register p r ∷ ys) q c' (inl i) = absurd (cc)
is_control_there (register p r ∷ ys) q c' (inr i) = is_control_there ys q c' i
is_control_there (parser p d ∷ ys) q c' (inl i) = absurd (cc)
is_control_there (parser p d ∷ ys) q c' (inr i) = is_control_there ys q c' i
is_control_there (control p e ∷ ys) q c (inl i) = some_either (same_text e.name c.name) e (control_named ys c.name) (inl (text_same e.name c.name (ap top_name (sym i))))
is_control_there (control p e ∷ ys) q c (inr i) = some_either (same_text e.name c.name) e (control_named ys c.name) (inr (is_control_there ys q c i))

is_parser_there : (ys : List Top) (q : ℕ) (d : Parser) → In (parser q d) ys → is_some (parser_named ys d.name) ≡ true
is_parser_there [] q d i = absurd i
is_parser_there (constant p t n e ∷ ys) q d' (inl i) = absurd (cc)
is_parser_there (constant p t n e ∷ ys) q d' (inr i) = is_parser_there ys q d' i
is_parser_there (typedef p t n ∷ ys) q d' (inl i) = absurd (cc)
is_parser_there (typedef p t n ∷ ys) q d' (inr i) = is_parser_there ys q d' i
is_parser_there (header_type p n fs ∷ ys) q d' (inl i) = absurd (cc)
is_parser_there (header_type p n fs ∷ ys) q d' (inr i) = is_parser_there ys q d' i
is_parser_there (struct_type p n fs ∷ ys) q d' (inl i) = absurd (cc)
is_parser_there (struct_type p n fs ∷ ys) q d' (inr i) = is_parser_there ys q d' i
is_parser_there (register p r ∷ ys) q d' (inl i) = absurd (cc)
is_parser_there (register p r ∷ ys) q d' (inr i) = is_parser_there ys q d' i
is_parser_there (parser p e ∷ ys) q d (inl i) = some_either (same_text e.name d.name) e (parser_named ys d.name) (inl (text_same e.name d.name (ap top_name (sym i))))
is_parser_there (parser p e ∷ ys) q d (inr i) = some_either (same_text e.name d.name) e (parser_named ys d.name) (inr (is_parser_there ys q d i))
is_parser_there (control p c ∷ ys) q d' (inl i) = absurd (cc)
is_parser_there (control p c ∷ ys) q d' (inr i) = is_parser_there ys q d' i

none_left_out : (main : List (List ℕ)) (ys : List Top) → leaves_some_out main ys ≡ false → (y : Top) → In y ys → leaves_out main y ≡ false
none_left_out main [] f y i = absurd i
none_left_out main (z ∷ ys) f y (inl e) = ap (leaves_out main) e ∙ left_none (leaves_out main z) (leaves_some_out main ys) f
none_left_out main (z ∷ ys) f y (inr i) = none_left_out main ys (right_none (leaves_out main z) (leaves_some_out main ys) f) y i

-- ---- the parts

module _ (main : List (List ℕ)) (ts : List Top) (f : IsFine (tops_tests main core ts)) where
  pub control_is : (q : ℕ) (c : Control) → In (control q c) ts → control_named ts c.name ≡ Some c
  control_is q c i =
      let r = found_control ts c.name (is_control_there ts q c i) in
      let e : control r.at r.found ≡ control q c = one_of_name main core ts f (control r.at r.found) (control q c) r.among i r.named in
      let same : r.found ≡ c = cc in
      r.is ∙ ap (λ (x : Control). Some x) same

  pub parser_is : (q : ℕ) (d : Parser) → In (parser q d) ts → parser_named ts d.name ≡ Some d
  parser_is q d i =
      let r = found_parser ts d.name (is_parser_there ts q d i) in
      let e : parser r.at r.found ≡ parser q d = one_of_name main core ts f (parser r.at r.found) (parser q d) r.among i r.named in
      let same : r.found ≡ d = cc in
      r.is ∙ ap (λ (x : Parser). Some x) same

  -- no name is that of a parser and of a control
  no_both : {A : Type 0} (x : List ℕ) → is_some (parser_named ts x) ≡ true → is_some (control_named ts x) ≡ true → A
  no_both x i j =
      let d = found_parser ts x i in
      let c = found_control ts x j in
      let e : parser d.at d.found ≡ control c.at c.found = one_of_name main core ts f (parser d.at d.found) (control c.at c.found) d.among c.among (d.named ∙ sym c.named) in
      absurd (cc)

  module _ (p : ℕ) (r : Structs) where
    named_fits : (ws : List Wanted) (x : List ℕ) (q : ℕ) (c : Control) → In (control q c) ts → x ≡ c.name → IsFine (control_params p r ws (control_named ts x)) → IsFine (wanted_tests p r ws c.params)
    named_fits ws x q c i e g =
        let P : Option Control → Type 0 = λ o. IsFine (control_params p r ws o) in
        subst P (ap (control_named ts) e ∙ control_is q c i) g

    parser_fits : (x : List ℕ) (q : ℕ) (d : Parser) → In (parser q d) ts → x ≡ d.name → IsFine (parser_params p r (parser_named ts x)) → IsFine (wanted_tests p r parser_wants d.params)
    parser_fits x q d i e g =
        let P : Option Parser → Type 0 = λ o. IsFine (parser_params p r o) in
        subst P (ap (parser_named ts) e ∙ parser_is q d i) g

all_found : (ts : List Top) (xs : List (List ℕ)) → has_controls ts xs ≡ true → (x : List ℕ) → is_among xs x ≡ true → is_some (control_named ts x) ≡ true
all_found ts [] f x a = no_case (sym a)
all_found ts (y ∷ xs) f x a = by (all_found ts xs (both_parts (is_some (control_named ts y)) (has_controls ts xs) f).1 x) (either_true (same_text y x) (is_among xs x) a)
  where
    by : (is_among xs x ≡ true → is_some (control_named ts x) ≡ true) → (same_text y x ≡ true) ⊎ (is_among xs x ≡ true) → is_some (control_named ts x) ≡ true
    by ih (inl e) = ap (λ z. is_some (control_named ts z)) (sym (text_is y x e)) ∙ (both_parts (is_some (control_named ts y)) (has_controls ts xs) f).0
    by ih (inr e) = ih e

-- what is tested of `main`, where it is six names
module _ (ts : List Top) (d v i e k m : List ℕ) (f : IsFine (tops_tests (d ∷ v ∷ i ∷ e ∷ k ∷ m ∷ []) core ts)) (p : ℕ) (r : Structs) (n : names_parts ts (d ∷ v ∷ i ∷ e ∷ k ∷ m ∷ []) ≡ true) (l : leaves_some_out (d ∷ v ∷ i ∷ e ∷ k ∷ m ∷ []) ts ≡ false) (g : IsFine (parts_params p r ts (d ∷ v ∷ i ∷ e ∷ k ∷ m ∷ []))) where
  abbrev main : List (List ℕ)
  main = d ∷ v ∷ i ∷ e ∷ k ∷ m ∷ []

  has_parser : is_some (parser_named ts d) ≡ true
  has_parser = (two_parts (is_some (parser_named ts d)) (has_controls ts (v ∷ i ∷ e ∷ k ∷ m ∷ [])) _ n).0

  have_controls : has_controls ts (v ∷ i ∷ e ∷ k ∷ m ∷ []) ≡ true
  have_controls = (two_parts (is_some (parser_named ts d)) (has_controls ts (v ∷ i ∷ e ∷ k ∷ m ∷ [])) _ n).1

  -- a control has another name than the parser
  not_parser : {A : Type 0} (q : ℕ) (c : Control) → In (control q c) ts → same_text d c.name ≡ true → A
  not_parser q c j h = no_both main ts f c.name (ap (λ x. is_some (parser_named ts x)) (sym (text_is d c.name h)) ∙ has_parser) (is_control_there ts q c j)

  control_among : (q : ℕ) (c : Control) → In (control q c) ts → is_among main c.name ≡ true
  control_among q c j = not_false (is_among main c.name) (none_left_out main ts l (control q c) j)

  parser_among : (q : ℕ) (x : Parser) → In (parser q x) ts → is_among main x.name ≡ true
  parser_among q x j = not_false (is_among main x.name) (none_left_out main ts l (parser q x) j)

  abbrev Fits : Part → Control → Type 0
  Fits h c = (is_main_part h ≡ true) × IsFine (wanted_tests p r (wants_of h) c.params)

  pub controls_fit : (q : ℕ) (c : Control) → In (control q c) ts → Fits (part_in main c.name) c
  controls_fit q c j = by (same_text v c.name) (same_text i c.name) (same_text e c.name) (same_text k c.name) (same_text m c.name) refl refl refl refl refl
    where
      only_parser : same_text v c.name ≡ false → same_text i c.name ≡ false → same_text e c.name ≡ false → same_text k c.name ≡ false → same_text m c.name ≡ false → same_text d c.name ≡ true
      only_parser a b u w x = last (same_text d c.name) (same_text v c.name) (same_text i c.name) (same_text e c.name) (same_text k c.name) (same_text m c.name) a b u w x (control_among q c j)
        where
          last : (o a b u w x : Bool) → a ≡ false → b ≡ false → u ≡ false → w ≡ false → x ≡ false → (o || (a || (b || (u || (w || (x || false)))))) ≡ true → o ≡ true
          last true a b u w x ea eb eu ew ex h = refl
          last false a b u w x ea eb eu ew ex h = cc

      by :
          (a b u w x : Bool) → same_text v c.name ≡ a → same_text i c.name ≡ b → same_text e c.name ≡ u → same_text k c.name ≡ w → same_text m c.name ≡ x
          → Fits (cond a place.Verify (cond b place.Apply (cond u place.Apply (cond w place.Compute (cond x place.Deparser place.Other))))) c
      by true b u w x ea eb eu ew ex = (refl, named_fits main ts f p r checksum_wants v q c j (text_is v c.name ea) g.1.0)
      by false true u w x ea eb eu ew ex = (refl, named_fits main ts f p r apply_wants i q c j (text_is i c.name eb) g.1.1.0)
      by false false true w x ea eb eu ew ex = (refl, named_fits main ts f p r apply_wants e q c j (text_is e c.name eu) g.1.1.1.0)
      by false false false true x ea eb eu ew ex = (refl, named_fits main ts f p r checksum_wants k q c j (text_is k c.name ew) g.1.1.1.1.0)
      by false false false false true ea eb eu ew ex = (refl, named_fits main ts f p r deparser_wants m q c j (text_is m c.name ex) g.1.1.1.1.1)
      by false false false false false ea eb eu ew ex = not_parser q c j (only_parser ea eb eu ew ex)

  pub parsers_fit : (q : ℕ) (x : Parser) → In (parser q x) ts → IsFine (wanted_tests p r parser_wants x.params)
  parsers_fit q x j = by (either_true (same_text d x.name) (is_among (v ∷ i ∷ e ∷ k ∷ m ∷ []) x.name) (parser_among q x j))
    where
      by : (same_text d x.name ≡ true) ⊎ (is_among (v ∷ i ∷ e ∷ k ∷ m ∷ []) x.name ≡ true) → IsFine (wanted_tests p r parser_wants x.params)
      by (inl h) = parser_fits main ts f p r d q x j (text_is d x.name h) g.0
      by (inr h) = no_both main ts f x.name (is_parser_there ts q x j) (all_found ts (v ∷ i ∷ e ∷ k ∷ m ∷ []) have_controls x.name h)

-- ---- programs

last_true : (a b h : Bool) → not (a && (b && h)) ≡ false → h ≡ true
last_true true true true f = refl
last_true true true false f = no_case f
last_true true false h f = no_case f
last_true false b h f = no_case f

have_roles : (p : ℕ) (r : Structs) (qs : List Param) → IsFine (wanted_tests p r parser_wants qs) → (r.has_headers ≡ true) × (r.has_metadata ≡ true)
have_roles p r [] f = no_case f
have_roles p r (a ∷ []) f = no_case f.1
have_roles p r (a ∷ b ∷ []) f = no_case f.1.1
have_roles p r (a ∷ b ∷ c ∷ qs) f = (last_true _ (is_named b.ty r.headers_type) r.has_headers f.1.0, last_true _ (is_named c.ty r.metadata_type) r.has_metadata f.1.1.0)

record Facts (p : Program) : Type 0 where
  roles : ((structs_of (program_scope p) p).has_headers ≡ true) × ((structs_of (program_scope p) p).has_metadata ≡ true)
  controls : (q : ℕ) (c : Control) → In (control q c) p.tops → (is_main_part (part_in p.main c.name) ≡ true) × IsFine (wanted_tests p.at (structs_of (program_scope p) p) (wants_of (part_in p.main c.name)) c.params)
  parsers : (q : ℕ) (d : Parser) → In (parser q d) p.tops → IsFine (wanted_tests p.at (structs_of (program_scope p) p) parser_wants d.params)

abbrev of_parts : ℕ → List Top → List (List ℕ) → Program
of_parts p ts main = record { at = p; tops = ts; main = main }

facts : (p : ℕ) (ts : List Top) (main : List (List ℕ)) → IsFine (program_tests (of_parts p ts main)) → Facts (of_parts p ts main)
facts p ts [] f = no_case f.1.0.0
facts p ts (d ∷ []) f = no_case f.1.0.0
facts p ts (d ∷ v ∷ []) f = no_case f.1.0.0
facts p ts (d ∷ v ∷ i ∷ []) f = no_case f.1.0.0
facts p ts (d ∷ v ∷ i ∷ e ∷ []) f = no_case f.1.0.0
facts p ts (d ∷ v ∷ i ∷ e ∷ k ∷ []) f = no_case f.1.0.0
facts p ts (d ∷ v ∷ i ∷ e ∷ k ∷ m ∷ []) f =
    let r = structs_of (program_scope (of_parts p ts (d ∷ v ∷ i ∷ e ∷ k ∷ m ∷ []))) (of_parts p ts (d ∷ v ∷ i ∷ e ∷ k ∷ m ∷ [])) in
    let n = not_false (names_parts ts (d ∷ v ∷ i ∷ e ∷ k ∷ m ∷ [])) f.1.0.0 in
    let x = found_parser ts d (two_parts (is_some (parser_named ts d)) (has_controls ts (v ∷ i ∷ e ∷ k ∷ m ∷ [])) _ n).0 in
    record {
      roles = have_roles p r x.found.params (parsers_fit ts d v i e k m f.0 p r n f.1.0.1.0 f.1.0.1.1 x.at x.found x.among);
      controls = controls_fit ts d v i e k m f.0 p r n f.1.0.1.0 f.1.0.1.1;
      parsers = parsers_fit ts d v i e k m f.0 p r n f.1.0.1.0 f.1.0.1.1;
    }
facts p ts (d ∷ v ∷ i ∷ e ∷ k ∷ m ∷ n ∷ o) f = no_case f.1.0.0

pub parts_in_role : PartsAreInRole
parts_in_role =
    record {
      headers = λ p w. (of_program p w).roles.0;
      metadata = λ p w. (of_program p w).roles.1;
      controls = λ p w q c i. ((of_program p w).controls q c i).0;
      control_params = λ p w q c i. ((of_program p w).controls q c i).1;
      control_of_name = λ p w q c i. control_is p.main p.tops (unbroken_fine (program_tests p) w).0 q c i;
      parser_params = λ p w q d i. (of_program p w).parsers q d i;
      parser_of_name = λ p w q d i. parser_is p.main p.tops (unbroken_fine (program_tests p) w).0 q d i;
    }
  where
    of_program : (p : Program) → IsWellTyped p → Facts p
    of_program p w = facts p.at p.tops p.main (unbroken_fine (program_tests p) w)
