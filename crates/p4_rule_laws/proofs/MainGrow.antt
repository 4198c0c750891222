-- What is made of a program by growth has the parts that `main` names, with their parameters, and structs in the roles
-- that the given program's have.
use Rattle.std.proofs.Common.{◌≡◌, ℕ, List, [], ◌∷◌, Bool, true, false, cond, not, ◌&&◌, ◌||◌, refl, sym, ap, ◌∙◌, subst, Option, Some, None, is_some}
use Rattle.std.specs.Option.{option_map}
use Rattle.lex_text.specs.Names.{same_text}
use Rattle.rule_tests.specs.Tests.{IsFine}
use Rattle.p4_tree.specs.Tree.{Control, Parser, Top, constant, typedef, header_type, struct_type, register, parser, control}
use Rattle.p4_tree.specs.declared.program.Param.{Param}
use Rattle.p4_meaning.specs.Parts.{parser_named, control_named}
use Rattle.p4_scopes.specs.Scopes.{Scope}
use Rattle.p4_rules.specs.Mains.{leaves_out, leaves_some_out, has_controls, names_parts, Wanted, core_type, headers, metadata, parser_wants, checksum_wants, apply_wants, deparser_wants, same_way, is_named, Structs, is_wanted, wanted_tests, parser_params, control_params, parts_params}
use Rattle.p4_rule_laws.specs.Old.{Names}
use Rattle.p4_rule_laws.specs.Growth.{More, is_part, parser_with, control_with, TopsGrow, no_top, same_top, new_top, wider_struct, other_states, other_control}

pub no_case : {A : Type 0} → true ≡ false → A
no_case e = absurd (cc)

-- ---- the parameters of the parser and of the control of a name

abbrev pub parser_ways : List Top → List ℕ → Option (List Param)
parser_ways ts x = option_map (λ (d : Parser). d.params) (parser_named ts x)

abbrev pub control_ways : List Top → List ℕ → Option (List Param)
control_ways ts x = option_map (λ (c : Control). c.params) (control_named ts x)

parser_step : (b : Bool) (d e : Parser) (u v : Option Parser) → d.params ≡ e.params → option_map (λ (d : Parser). d.params) u ≡ option_map (λ (d : Parser). d.params) v → option_map (λ (d : Parser). d.params) (cond b (Some d) u) ≡ option_map (λ (d : Parser). d.params) (cond b (Some e) v)
parser_step true d e u v p i = ap (λ (qs : List Param). Some qs) p
parser_step false d e u v p i = i

control_step : (b : Bool) (c e : Control) (u v : Option Control) → c.params ≡ e.params → option_map (λ (c : Control). c.params) u ≡ option_map (λ (c : Control). c.params) v → option_map (λ (c : Control). c.params) (cond b (Some c) u) ≡ option_map (λ (c : Control). c.params) (cond b (Some e) v)
control_step true c e u v p i = ap (λ (qs : List Param). Some qs) p
control_step false c e u v p i = i

parser_same : (y : Top) (ys zs : List Top) (x : List ℕ) → parser_ways ys x ≡ parser_ways zs x → parser_ways (y ∷ ys) x ≡ parser_ways (y ∷ zs) x
parser_same (parser p d) ys zs x i = parser_step (same_text d.name x) d d (parser_named ys x) (parser_named zs x) refl i
parser_same (constant p t n e) ys zs x i = i
parser_same (typedef p t n) ys zs x i = i
parser_same (header_type p n fs) ys zs x i = i
parser_same (struct_type p n fs) ys zs x i = i
parser_same (register p r) ys zs x i = i
parser_same (control p c) ys zs x i = i

control_same : (y : Top) (ys zs : List Top) (x : List ℕ) → control_ways ys x ≡ control_ways zs x → control_ways (y ∷ ys) x ≡ control_ways (y ∷ zs) x
control_same (control p c) ys zs x i = control_step (same_text c.name x) c c (control_named ys x) (control_named zs x) refl i
control_same (constant p t n e) ys zs x i = i
control_same (typedef p t n) ys zs x i = i
control_same (header_type p n fs) ys zs x i = i
control_same (struct_type p n fs) ys zs x i = i
control_same (register p r) ys zs x i = i
control_same (parser p d) ys zs x i = i

pub parser_passed : (z : Top) → is_part z ≡ false → (zs : List Top) (x : List ℕ) → parser_named (z ∷ zs) x ≡ parser_named zs x
parser_passed (parser p d) n zs x = no_case n
parser_passed (control p c) n zs x = no_case n
parser_passed (constant p t y e) n zs x = refl
parser_passed (typedef p t y) n zs x = refl
parser_passed (header_type p y fs) n zs x = refl
parser_passed (struct_type p y fs) n zs x = refl
parser_passed (register p r) n zs x = refl

pub control_passed : (z : Top) → is_part z ≡ false → (zs : List Top) (x : List ℕ) → control_named (z ∷ zs) x ≡ control_named zs x
control_passed (parser p d) n zs x = no_case n
control_passed (control p c) n zs x = no_case n
control_passed (constant p t y e) n zs x = refl
control_passed (typedef p t y) n zs x = refl
control_passed (header_type p y fs) n zs x = refl
control_passed (struct_type p y fs) n zs x = refl
control_passed (register p r) n zs x = refl

pub none_left_out : (main : List (List ℕ)) (z : Top) → is_part z ≡ false → leaves_out main z ≡ false
none_left_out main (parser p d) n = no_case n
none_left_out main (control p c) n = no_case n
none_left_out main (constant p t y e) n = refl
none_left_out main (typedef p t y) n = refl
none_left_out main (header_type p y fs) n = refl
none_left_out main (struct_type p y fs) n = refl
none_left_out main (register p r) n = refl

pub parsers_grow : {old : Names} {more : List ℕ → More} {main : List (List ℕ)} {u s t : Scope} {ys zs : List Top} → TopsGrow old more false main u s t ys zs → (x : List ℕ) → parser_ways ys x ≡ parser_ways zs x
parsers_grow no_top x = refl
parsers_grow (same_top {ys = ys} {zs = zs} y n o g) x = parser_same y ys zs x (parsers_grow g x)
parsers_grow (new_top {zs = zs} z i n k g) x = parsers_grow g x ∙ ap (option_map (λ (d : Parser). d.params)) (sym (parser_passed z i zs x))
parsers_grow (wider_struct p y fs ox o m j g) x = parsers_grow g x
parsers_grow (other_states {ys = ys} {zs = zs} p d rs tts m u b g) x = parser_step (same_text d.name x) d (parser_with d rs tts) (parser_named ys x) (parser_named zs x) m (parsers_grow g x)
parsers_grow (other_control p c rs ms b m i g) x = parsers_grow g x

pub controls_grow : {old : Names} {more : List ℕ → More} {main : List (List ℕ)} {u s t : Scope} {ys zs : List Top} → TopsGrow old more false main u s t ys zs → (x : List ℕ) → control_ways ys x ≡ control_ways zs x
controls_grow no_top x = refl
controls_grow (same_top {ys = ys} {zs = zs} y n o g) x = control_same y ys zs x (controls_grow g x)
controls_grow (new_top {zs = zs} z i n k g) x = controls_grow g x ∙ ap (option_map (λ (c : Control). c.params)) (sym (control_passed z i zs x))
controls_grow (wider_struct p y fs ox o m j g) x = controls_grow g x
controls_grow (other_states p d rs tts m u b g) x = controls_grow g x
controls_grow (other_control {ys = ys} {zs = zs} p c rs ms b m i g) x = control_step (same_text c.name x) c (control_with c rs ms b) (control_named ys x) (control_named zs x) m (controls_grow g x)

pub left_out_grow : {old : Names} {more : List ℕ → More} {change : Bool} {main : List (List ℕ)} {u s t : Scope} {ys zs : List Top} → TopsGrow old more change main u s t ys zs → (names : List (List ℕ)) → leaves_some_out names ys ≡ leaves_some_out names zs
left_out_grow no_top names = refl
left_out_grow (same_top y n o g) names = ap (λ b. leaves_out names y || b) (left_out_grow g names)
left_out_grow (new_top {zs = zs} z i n k g) names = left_out_grow g names ∙ ap (λ b. b || leaves_some_out names zs) (sym (none_left_out names z i))
left_out_grow (wider_struct p y fs ox o m j g) names = left_out_grow g names
left_out_grow (other_states p d rs tts m u b g) names = ap (λ b. leaves_out names (parser p d) || b) (left_out_grow g names)
left_out_grow (other_control p c rs ms b m i g) names = ap (λ b. leaves_out names (control p c) || b) (left_out_grow g names)

-- ---- what main names

some_of : {A B : Type 0} (f : A → B) (o : Option A) → is_some (option_map f o) ≡ is_some o
some_of f None = refl
some_of f (Some a) = refl

parser_is : (ys zs : List Top) (x : List ℕ) → parser_ways ys x ≡ parser_ways zs x → is_some (parser_named ys x) ≡ is_some (parser_named zs x)
parser_is ys zs x e = sym (some_of (λ (d : Parser). d.params) (parser_named ys x)) ∙ (ap is_some e ∙ some_of (λ (d : Parser). d.params) (parser_named zs x))

control_is : (ys zs : List Top) (x : List ℕ) → control_ways ys x ≡ control_ways zs x → is_some (control_named ys x) ≡ is_some (control_named zs x)
control_is ys zs x e = sym (some_of (λ (c : Control). c.params) (control_named ys x)) ∙ (ap is_some e ∙ some_of (λ (c : Control). c.params) (control_named zs x))

controls_are : (ys zs : List Top) → ((x : List ℕ) → control_ways ys x ≡ control_ways zs x) → (xs : List (List ℕ)) → has_controls ys xs ≡ has_controls zs xs
controls_are ys zs e [] = refl
controls_are ys zs e (x ∷ xs) = let f = control_is ys zs x (e x) in let g = controls_are ys zs e xs in cc

module _ (ys zs : List Top) (ps : (x : List ℕ) → parser_ways ys x ≡ parser_ways zs x) (cs : (x : List ℕ) → control_ways ys x ≡ control_ways zs x) where
  pub names_same : (main : List (List ℕ)) → names_parts ys main ≡ names_parts zs main
  names_same [] = refl
  names_same (d ∷ []) = refl
  names_same (d ∷ v ∷ []) = refl
  names_same (d ∷ v ∷ i ∷ []) = refl
  names_same (d ∷ v ∷ i ∷ e ∷ []) = refl
  names_same (d ∷ v ∷ i ∷ e ∷ k ∷ []) = refl
  names_same (d ∷ v ∷ i ∷ e ∷ k ∷ m ∷ []) = let f = parser_is ys zs d (ps d) in let g = controls_are ys zs cs (v ∷ i ∷ e ∷ k ∷ m ∷ []) in cc
  names_same (d ∷ v ∷ i ∷ e ∷ k ∷ m ∷ n ∷ r) = refl

  -- ---- parameters

  -- a struct for headers and one for metadata, of the same names, that are in their roles
  pub record AreInRole (r q : Structs) : Type 0 where
    pub same_headers : q.headers_type ≡ r.headers_type
    pub same_metadata : q.metadata_type ≡ r.metadata_type
    pub are_headers : q.has_headers ≡ true
    pub are_metadata : q.has_metadata ≡ true

  keeps_wanted : (a b c : Bool) (h : Bool) → h ≡ true → not (a && (b && c)) ≡ false → not (a && (b && h)) ≡ false
  keeps_wanted true true c h e f = ap not e
  keeps_wanted true false c h e f = f
  keeps_wanted false b c h e f = f

  module _ (r q : Structs) (i : AreInRole r q) where
    wanted_same : (w : Wanted) (x : Param) → not (is_wanted r w x) ≡ false → not (is_wanted q w x) ≡ false
    wanted_same (core_type w y) x f = f
    wanted_same (headers w) x f =
        let g = keeps_wanted (same_way w x.way) (is_named x.ty r.headers_type) r.has_headers q.has_headers i.are_headers f in
        let P : List ℕ → Type 0 = λ n. not (same_way w x.way && (is_named x.ty n && q.has_headers)) ≡ false in
        subst P (sym i.same_headers) g
    wanted_same (metadata w) x f =
        let g = keeps_wanted (same_way w x.way) (is_named x.ty r.metadata_type) r.has_metadata q.has_metadata i.are_metadata f in
        let P : List ℕ → Type 0 = λ n. not (same_way w x.way && (is_named x.ty n && q.has_metadata)) ≡ false in
        subst P (sym i.same_metadata) g

    wanted_grow : (p p' : ℕ) (ws : List Wanted) (xs : List Param) → IsFine (wanted_tests p r ws xs) → IsFine (wanted_tests p' q ws xs)
    wanted_grow p p' [] [] f = tt
    wanted_grow p p' [] (x ∷ xs) f = no_case f.0
    wanted_grow p p' (w ∷ ws) [] f = no_case f
    wanted_grow p p' (w ∷ ws) (x ∷ xs) f = (wanted_same w x f.0, wanted_grow p p' ws xs f.1)

    some_same : {A : Type 0} (a b : A) → Some a ≡ Some b → a ≡ b
    some_same a b e = cc

    parser_fits : (p p' : ℕ) (u v : Option Parser) → option_map (λ (d : Parser). d.params) u ≡ option_map (λ (d : Parser). d.params) v → IsFine (parser_params p r u) → IsFine (parser_params p' q v)
    parser_fits p p' u None e f = tt
    parser_fits p p' None (Some d) e f = absurd (let c : None ≡ Some d.params = e in cc)
    parser_fits p p' (Some c) (Some d) e f =
        let same : c.params ≡ d.params = some_same c.params d.params e in
        let P : List Param → Type 0 = λ xs. IsFine (wanted_tests p' q parser_wants xs) in
        subst P same (wanted_grow p p' parser_wants c.params f)

    control_fits : (p p' : ℕ) (ws : List Wanted) (u v : Option Control) → option_map (λ (c : Control). c.params) u ≡ option_map (λ (c : Control). c.params) v → IsFine (control_params p r ws u) → IsFine (control_params p' q ws v)
    control_fits p p' ws u None e f = tt
    control_fits p p' ws None (Some d) e f = absurd (let c : None ≡ Some d.params = e in cc)
    control_fits p p' ws (Some c) (Some d) e f =
        let same : c.params ≡ d.params = some_same c.params d.params e in
        let P : List Param → Type 0 = λ xs. IsFine (wanted_tests p' q ws xs) in
        subst P same (wanted_grow p p' ws c.params f)

    pub parts_fit : (p p' : ℕ) (main : List (List ℕ)) → IsFine (parts_params p r ys main) → IsFine (parts_params p' q zs main)
    parts_fit p p' [] f = tt
    parts_fit p p' (d ∷ []) f = tt
    parts_fit p p' (d ∷ v ∷ []) f = tt
    parts_fit p p' (d ∷ v ∷ i ∷ []) f = tt
    parts_fit p p' (d ∷ v ∷ i ∷ e ∷ []) f = tt
    parts_fit p p' (d ∷ v ∷ i ∷ e ∷ k ∷ []) f = tt
    parts_fit p p' (d ∷ v ∷ i ∷ e ∷ k ∷ m ∷ []) f = (
      parser_fits p p' (parser_named ys d) (parser_named zs d) (ps d) f.0,
      (
        control_fits p p' checksum_wants (control_named ys v) (control_named zs v) (cs v) f.1.0,
        (
          control_fits p p' apply_wants (control_named ys i) (control_named zs i) (cs i) f.1.1.0,
          (
            control_fits p p' apply_wants (control_named ys e) (control_named zs e) (cs e) f.1.1.1.0,
            (
              control_fits p p' checksum_wants (control_named ys k) (control_named zs k) (cs k) f.1.1.1.1.0,
              control_fits p p' deparser_wants (control_named ys m) (control_named zs m) (cs m) f.1.1.1.1.1,
            ),
          ),
        ),
      ),
    )
    parts_fit p p' (d ∷ v ∷ i ∷ e ∷ k ∷ m ∷ n ∷ r) f = tt
