-- What is known in front of each declaration of a well-typed program, and so at its parser and controls.
use Rattle.std.proofs.Common.{◌≡◌, ℕ, List, [], ◌∷◌, Bool, true, false, cond, ◌&&◌, ◌||◌, codes, Some, None, refl, sym, ap, ◌∙◌, subst}
use Rattle.std.specs.List.{AllByRecursion}
use Rattle.lex_text.specs.Names.{same_text}
use Rattle.rule_tests.specs.Tests.{IsFine}
use Rattle.p4_tree.specs.Tree.{Expr, Control, Parser, Top, constant, typedef, header_type, struct_type, register, parser, control, Program}
use Rattle.p4_tree.specs.declared.statement.PTy.{PTy}
use Rattle.p4_tree.specs.declared.statement.PTy.TheVariants as type
use Rattle.p4_tree.specs.declared.program.Register.{Register}
use Rattle.p4_meaning.specs.Scope as meaning
use Rattle.p4_meaning.specs.Scope.{Roots, Inner, root_of, is_inner, inner_name, constant_named, constant_at, first_name, path_under, names_in}
use Rattle.p4_meaning.specs.Under as under
use Rattle.p4_meaning.specs.Under.{no_scope, in_parser, behind_top, behind_tops}
use Rattle.p4_meaning.specs.Parts.{Parts, parser_named, control_named, scope_at_parser, scope_at_control, parts_of}
use Rattle.p4_meaning.specs.Laws.{AreWords}
use Rattle.p4_scopes.specs.Scopes.{Stands, missing, typed, held, cells, act, rows, state, function, algorithm, other, is_missing, value_kind, as_typed, as_held, type_at, field_at, thing_in, Scope, What, alias, fields, value, part, behind, declare, standard_at, core_name, core}
use Rattle.p4_scopes.specs.Scopes as scope
use Rattle.p4_scopes.specs.Uses.{reads}
use Rattle.p4_scopes.specs.declared.thing.Thing.{Thing}
use Rattle.p4_scopes.specs.declared.thing.Thing.TheVariants.{Header, Struct}
use Rattle.p4_scopes.specs.declared.thing.Access.TheVariants.{Constant}
use Rattle.p4_statement_rules.specs.Expressions.{scalar_tests}
use Rattle.p4_statement_rules.specs.declared.rule.Part.TheVariants as place
use Rattle.p4_declaration_rules.specs.Parsers.{with_ways, in_states, parser_tests}
use Rattle.p4_declaration_rules.specs.Controls.{control_tests, part_in, after_top, tops_tests, after_tops}
use Rattle.p4_rules.specs.ProgramRules.{IsWellTyped}
use Rattle.p4_typing_laws.specs.Plain.{IsPlain, IsPlainValue, HavePlainNames, HavePlainValues}
use Rattle.p4_typing_laws.specs.Tied.{IsTied, LocalsPlaces, TopsPlaces, EachPlace}
use Rattle.p4_typing_laws.specs.Along.{IsFlat}
use Rattle.p4_typing_laws.specs.Runs.{ControlRuns, TopsRun}
use Rattle.p4_typing_laws.proofs.Fine.{twice_not, typed_fine}
use Rattle.p4_typing_laws.proofs.CallCounts.{text_is}
use Rattle.p4_typing_laws.proofs.TiedPlaces.{each_tied}
use Rattle.p4_typing_laws.proofs.RunPrograms.{controls_run}
use Rattle.p4_typing_laws.proofs.AlongRuns.{flat_type}
use Rattle.p4_typing_laws.proofs.KnownScopes.{Known, core_known, known_top}
use Rattle.passage_stores.specs.Sights.{rules_at_parser, rules_at_control}
use Rattle.passage_stores.proofs.SeenNames.{KnowsNames, core_names, declare_names}
use Rattle.passage_stores.proofs.DeclaredTypes.{broken, all_stays, StaysIn}

-- ---- at top level constants alone are read

pub record ReadsConstants (s : Scope) : Type 0 where
  pub none : is_missing (s []) ≡ true
  pub names : (x : List ℕ) → is_missing (s (x ∷ [])) ≡ false → reads (s (x ∷ [])) ≡ true → (t : Thing) × (s (x ∷ []) ≡ held Constant t)
  pub inner : (x y : List ℕ) (rest : List (List ℕ)) → is_missing (s (x ∷ y ∷ rest)) ≡ false → reads (s (x ∷ y ∷ rest)) ≡ true → ⊥

-- what is declared is read as a constant alone
record IsQuiet (s : Scope) (w : What) : Type 0 where
  here : is_missing (behind s w []) ≡ false → reads (behind s w []) ≡ true → (t : Thing) × (behind s w [] ≡ held Constant t)
  inner : (y : List ℕ) (rest : List (List ℕ)) → is_missing (behind s w (y ∷ rest)) ≡ false → reads (behind s w (y ∷ rest)) ≡ true → ⊥

declare_reads : (s : Scope) (n : List ℕ) (w : What) → ReadsConstants s → IsQuiet s w → ReadsConstants (declare s n w)
unfolding declare
declare_reads s n w c q =
    record {
      none = c.none;
      names = λ x h r. at_name x (same_text n x) h r;
      inner = λ x y rest h r. at_inner x y rest (same_text n x) h r;
    }
  where
    at_name : (x : List ℕ) (b : Bool) → is_missing (cond b (behind s w []) (s (x ∷ []))) ≡ false → reads (cond b (behind s w []) (s (x ∷ []))) ≡ true → (t : Thing) × (cond b (behind s w []) (s (x ∷ [])) ≡ held Constant t)
    at_name x true h r = q.here h r
    at_name x false h r = c.names x h r

    at_inner : (x y : List ℕ) (rest : List (List ℕ)) (b : Bool) → is_missing (cond b (behind s w (y ∷ rest)) (s (x ∷ y ∷ rest))) ≡ false → reads (cond b (behind s w (y ∷ rest)) (s (x ∷ y ∷ rest))) ≡ true → ⊥
    at_inner x y rest true h r = q.inner y rest h r
    at_inner x y rest false h r = c.inner x y rest h r

typed_unread : (v : Stands) → is_missing (as_typed v) ≡ false → reads (as_typed v) ≡ true → ⊥
typed_unread missing h r = broken h
typed_unread (typed b t) h r = broken (sym r)
typed_unread (held a t) h r = broken h
typed_unread (cells k) h r = broken h
typed_unread (act ks m) h r = broken h
typed_unread (rows m) h r = broken h
typed_unread state h r = broken h
typed_unread (function f) h r = broken h
typed_unread algorithm h r = broken h
typed_unread other h r = broken h

type_unread : (s : Scope) (t : PTy) (xs : List (List ℕ)) → is_missing (type_at s t xs) ≡ false → reads (type_at s t xs) ≡ true → ⊥
type_unread s (type.Bit w) [] h r = broken (sym r)
type_unread s (type.Bit w) (x ∷ xs) h r = broken h
type_unread s type.Bool [] h r = broken (sym r)
type_unread s type.Bool (x ∷ xs) h r = broken h
type_unread s (type.Named y) xs h r = typed_unread (s (y ∷ xs)) h r

field_unread : (s : Scope) (fs : List (PTy × List ℕ)) (y : List ℕ) (rest : List (List ℕ)) → is_missing (field_at s fs y rest) ≡ false → reads (field_at s fs y rest) ≡ true → ⊥
field_unread s [] y rest h r = broken h
field_unread s (f ∷ fs) y rest h r = go (same_text f.1 y) h r (field_unread s fs y rest)
  where
    go : (b : Bool) → is_missing (cond b (type_at s f.0 rest) (field_at s fs y rest)) ≡ false → reads (cond b (type_at s f.0 rest) (field_at s fs y rest)) ≡ true → (is_missing (field_at s fs y rest) ≡ false → reads (field_at s fs y rest) ≡ true → ⊥) → ⊥
    go true i j more = type_unread s f.0 rest i j
    go false i j more = more i j

alias_quiet : (s : Scope) (t : PTy) → IsQuiet s (alias t)
alias_quiet s t = record { here = λ h r. broken (sym r); inner = λ y rest h r. broken h }

fields_quiet : (s : Scope) (t : Thing) (fs : List (PTy × List ℕ)) → IsQuiet s (fields t fs)
fields_quiet s t fs = record { here = λ h r. broken (sym r); inner = λ y rest h r. field_unread s fs y rest h r }

register_quiet : (s : Scope) (t : PTy) → IsQuiet s (scope.register t)
register_quiet s t = record { here = λ h r. broken (sym r); inner = λ y rest h r. broken h }

part_quiet : (s : Scope) → IsQuiet s part
part_quiet s = record { here = λ h r. broken (sym r); inner = λ y rest h r. broken h }

constant_quiet : (p : ℕ) (s : Scope) → IsFlat s → (t : PTy) → IsFine (scalar_tests p s t) → IsQuiet s (value Constant t)
constant_quiet p s flat t f = record { here = λ h r. (thing_in s t, refl); inner = λ y rest h r. broken (sym (flat_type Constant s flat p t f y rest) ∙ h) }

-- before the first declaration
abbrev Quiet : Stands → Type 0
Quiet v = is_missing v ≡ false → reads v ≡ true → ⊥

if_quiet : (b : Bool) (u v : Stands) → Quiet u → Quiet v → Quiet (cond b u v)
if_quiet true u v h k = h
if_quiet false u v h k = k

core_name_quiet : (x : List ℕ) → Quiet (core_name x)
core_name_quiet x =
    if_quiet (same_text x (codes "standard_metadata_t")) _ _ (λ h r. broken (sym r))
    (if_quiet (same_text x (codes "packet_in")) _ _ (λ h r. broken (sym r))
    (if_quiet (same_text x (codes "packet_out")) _ _ (λ h r. broken (sym r))
    (if_quiet (same_text x (codes "NoAction")) _ _ (λ h r. broken (sym r))
    (if_quiet (same_text x (codes "mark_to_drop")) _ _ (λ h r. broken (sym r))
    (if_quiet (same_text x (codes "digest")) _ _ (λ h r. broken (sym r))
    (if_quiet (same_text x (codes "verify_checksum")) _ _ (λ h r. broken (sym r))
    (if_quiet (same_text x (codes "update_checksum")) _ _ (λ h r. broken (sym r))
    (if_quiet (same_text x (codes "HashAlgorithm")) _ _ (λ h r. broken (sym r)) (λ h r. broken h)))))))))

standard_quiet : (y : List ℕ) → Quiet (standard_at y)
standard_quiet y =
    if_quiet (same_text y (codes "egress_spec")) _ _ (λ h r. broken (sym r))
    (if_quiet (same_text y (codes "ingress_port") || same_text y (codes "egress_port")) _ _ (λ h r. broken (sym r))
    (if_quiet (same_text y (codes "packet_length")) _ _ (λ h r. broken (sym r))
    (if_quiet (same_text y (codes "checksum_error")) _ _ (λ h r. broken (sym r))
    (if_quiet (same_text y (codes "parser_error")) _ _ (λ h r. broken (sym r)) (λ h r. broken h)))))

core_reads_none : ReadsConstants core
unfolding core
core_reads_none =
    record {
      none = refl;
      names = λ x h r. absurd (core_name_quiet x h r);
      inner = λ x y rest h r. inner x y rest h r;
    }
  where
    inner : (x y : List ℕ) (rest : List (List ℕ)) → is_missing (core (x ∷ y ∷ rest)) ≡ false → reads (core (x ∷ y ∷ rest)) ≡ true → ⊥
    inner x y [] h r = if_quiet (same_text x (codes "standard_metadata_t")) _ _ (standard_quiet y) (if_quiet (same_text x (codes "HashAlgorithm") && same_text y (codes "csum16")) _ _ (λ i j. broken (sym j)) (λ i j. broken i)) h r
    inner x y (z ∷ zs) h r = broken h

-- ---- in front of a declaration

-- S: behind all declarations
module _ (pt : Parts) (main : List (List ℕ)) (S : Scope) where
  pub record IsFront (s : Scope) (sc : meaning.Scope) : Type 0 where
    pub known : Known s
    pub outer : sc.inner ≡ None
    pub own : sc.own ≡ []
    pub constants : ReadsConstants s
    pub stays : StaysIn S s
    pub names : KnowsNames s
    pub tied : IsTied pt s sc

  -- and of what is declared from there on
  pub record AreFront (ts : List Top) (s : Scope) (sc : meaning.Scope) : Type 0 where
    pub front : IsFront s sc
    pub places : TopsPlaces (IsTied pt) s sc ts
    pub words : TopsPlaces (λ t sd. AreWords sd) s sc ts
    pub runs : TopsRun pt main s sc ts
    pub fine : IsFine (tops_tests main s ts)
    pub values : HavePlainValues ts
    pub all : after_tops s ts ≡ S

  first_tied : (ts : List Top) (s : Scope) (sc : meaning.Scope) → TopsPlaces (IsTied pt) s sc ts → IsTied pt s sc
  first_tied [] s sc h = h
  first_tied (constant p t x e ∷ ts) s sc h = h.0
  first_tied (typedef p t x ∷ ts) s sc h = h.0
  first_tied (header_type p x fs ∷ ts) s sc h = h.0
  first_tied (struct_type p x fs ∷ ts) s sc h = h.0
  first_tied (register p r ∷ ts) s sc h = h.0
  first_tied (parser p d ∷ ts) s sc h = h.0.0
  first_tied (control p c ∷ ts) s sc h = h.0.0

  stays_more : (ts : List Top) (s : Scope) → IsFine (tops_tests main s ts) → after_tops s ts ≡ S → StaysIn S s
  stays_more ts s f e x xs h = subst (λ (g : Scope). g (x ∷ xs) ≡ s (x ∷ xs)) e (all_stays main ts s f x xs h)

  -- behind a declaration
  front_next : (t : Top) (ts : List Top) (s : Scope) (sc : meaning.Scope) → AreFront (t ∷ ts) s sc → Known (after_top s t) → (behind_top sc t).inner ≡ None → (behind_top sc t).own ≡ [] → ReadsConstants (after_top s t) → KnowsNames (after_top s t)
      → TopsRun pt main (after_top s t) (behind_top sc t) ts → HavePlainValues ts → AreFront ts (after_top s t) (behind_top sc t)
  front_next t ts s sc b known outer own constants knows runs values =
      record {
        front = record { known = known; outer = outer; own = own; constants = constants; stays = stays_more ts (after_top s t) b.fine.1 b.all; names = knows; tied = first_tied ts (after_top s t) (behind_top sc t) b.places.1 };
        places = b.places.1;
        words = b.words.1;
        runs = runs;
        fine = b.fine.1;
        values = values;
        all = b.all;
      }

  after_constant : (p : ℕ) (t : PTy) (x : List ℕ) (e : Expr) (ts : List Top) (s : Scope) (sc : meaning.Scope) → AreFront (constant p t x e ∷ ts) s sc → AreFront ts (after_top s (constant p t x e)) (behind_top sc (constant p t x e))
  after_constant p t x e ts s sc b =
      (let k = b.front in
      front_next (constant p t x e) ts s sc b (known_top main s k.known (constant p t x e) b.values.0 b.fine.0) k.outer k.own (declare_reads s x (value Constant t) k.constants (constant_quiet p s k.known.flat t b.fine.0.1.0)) (declare_names s k.names x (value Constant t) (twice_not _ b.fine.0.0)) b.runs b.values.1)

  after_typedef : (p : ℕ) (t : PTy) (x : List ℕ) (ts : List Top) (s : Scope) (sc : meaning.Scope) → AreFront (typedef p t x ∷ ts) s sc → AreFront ts (after_top s (typedef p t x)) (behind_top sc (typedef p t x))
  after_typedef p t x ts s sc b =
      (let k = b.front in
      front_next (typedef p t x) ts s sc b (known_top main s k.known (typedef p t x) tt b.fine.0) k.outer k.own (declare_reads s x (alias t) k.constants (alias_quiet s t)) (declare_names s k.names x (alias t) (twice_not _ b.fine.0.0)) b.runs b.values)

  after_header : (p : ℕ) (x : List ℕ) (fs : List (PTy × List ℕ)) (ts : List Top) (s : Scope) (sc : meaning.Scope) → AreFront (header_type p x fs ∷ ts) s sc → AreFront ts (after_top s (header_type p x fs)) sc
  after_header p x fs ts s sc b =
      (let k = b.front in
      front_next (header_type p x fs) ts s sc b (known_top main s k.known (header_type p x fs) tt b.fine.0) k.outer k.own (declare_reads s x (fields (Header _) fs) k.constants (fields_quiet s (Header _) fs)) (declare_names s k.names x (fields (Header _) fs) (twice_not _ b.fine.0.0)) b.runs b.values)

  after_struct : (p : ℕ) (x : List ℕ) (fs : List (PTy × List ℕ)) (ts : List Top) (s : Scope) (sc : meaning.Scope) → AreFront (struct_type p x fs ∷ ts) s sc → AreFront ts (after_top s (struct_type p x fs)) sc
  after_struct p x fs ts s sc b =
      (let k = b.front in
      front_next (struct_type p x fs) ts s sc b (known_top main s k.known (struct_type p x fs) tt b.fine.0) k.outer k.own (declare_reads s x (fields Struct fs) k.constants (fields_quiet s Struct fs)) (declare_names s k.names x (fields Struct fs) (twice_not _ b.fine.0.0)) b.runs b.values)

  after_register : (p : ℕ) (r : Register) (ts : List Top) (s : Scope) (sc : meaning.Scope) → AreFront (register p r ∷ ts) s sc → AreFront ts (after_top s (register p r)) sc
  after_register p r ts s sc b =
      (let k = b.front in
      front_next (register p r) ts s sc b (known_top main s k.known (register p r) tt b.fine.0) k.outer k.own (declare_reads s r.name (scope.register r.ty) k.constants (register_quiet s r.ty)) (declare_names s k.names r.name (scope.register r.ty) (twice_not _ b.fine.0.0)) b.runs b.values.1)

  after_parser : (p : ℕ) (d : Parser) (ts : List Top) (s : Scope) (sc : meaning.Scope) → AreFront (parser p d ∷ ts) s sc → AreFront ts (after_top s (parser p d)) sc
  after_parser p d ts s sc b =
      (let k = b.front in
      front_next (parser p d) ts s sc b (known_top main s k.known (parser p d) tt b.fine.0) k.outer k.own (declare_reads s d.name part k.constants (part_quiet s)) (declare_names s k.names d.name part (twice_not _ b.fine.0.0)) b.runs b.values)

  after_control : (p : ℕ) (c : Control) (ts : List Top) (s : Scope) (sc : meaning.Scope) → AreFront (control p c ∷ ts) s sc → AreFront ts (after_top s (control p c)) sc
  after_control p c ts s sc b =
      (let k = b.front in
      front_next (control p c) ts s sc b (known_top main s k.known (control p c) tt b.fine.0) k.outer k.own (declare_reads s c.name part k.constants (part_quiet s)) (declare_names s k.names c.name part (twice_not _ b.fine.0.0)) b.runs.1 b.values.1)

  -- ---- at a control, and at a parser

  pub record AtControl (s : Scope) (sc : meaning.Scope) (c : Control) : Type 0 where
    pub front : IsFront s sc
    pub places : (h m n : ℕ) → LocalsPlaces (IsTied pt) (with_ways s c.params) (under.in_control h m n sc c) c.locals
    pub words : (h m n : ℕ) → LocalsPlaces (λ t sd. AreWords sd) (with_ways s c.params) (under.in_control h m n sc c) c.locals
    pub runs : part_in main c.name ≡ place.Apply → ControlRuns pt s sc c
    pub fine : IsFine (control_tests (part_in main c.name) s c)
    pub values : AllByRecursion IsPlainValue c.locals × AllByRecursion IsPlain (names_in c.apply)

  pub record AtParser (s : Scope) (sc : meaning.Scope) (d : Parser) : Type 0 where
    pub front : IsFront s sc
    pub place : IsTied pt (in_states s d) (in_parser sc d)
    pub words : AreWords (in_parser sc d)
    pub fine : IsFine (parser_tests s d)

  some_is : {A : Type 0} (x y : A) → Some x ≡ Some y → x ≡ y
  some_is x y e = cc

  pub at_control : (ts : List Top) (s : Scope) (sc : meaning.Scope) → AreFront ts s sc → (x : List ℕ) (c : Control) → control_named ts x ≡ Some c → AtControl (rules_at_control s ts x) (scope_at_control sc ts x) c × (c.name ≡ x)
  at_control [] s sc b x c e = absurd (cc)
  at_control (constant p t y v ∷ ts) s sc b x c e = at_control ts _ _ (after_constant p t y v ts s sc b) x c e
  at_control (typedef p t y ∷ ts) s sc b x c e = at_control ts _ _ (after_typedef p t y ts s sc b) x c e
  at_control (header_type p y fs ∷ ts) s sc b x c e = at_control ts _ _ (after_header p y fs ts s sc b) x c e
  at_control (struct_type p y fs ∷ ts) s sc b x c e = at_control ts _ _ (after_struct p y fs ts s sc b) x c e
  at_control (register p r ∷ ts) s sc b x c e = at_control ts _ _ (after_register p r ts s sc b) x c e
  at_control (parser p d ∷ ts) s sc b x c e = at_control ts _ _ (after_parser p d ts s sc b) x c e
  at_control (control p d ∷ ts) s sc b x c e = go (same_text d.name x) refl e (at_control ts _ _ (after_control p d ts s sc b) x c)
    where
      here : AtControl s sc d
      here = record { front = b.front; places = b.places.0.1; words = b.words.0.1; runs = b.runs.0; fine = b.fine.0; values = b.values.0 }

      go : (q : Bool) → same_text d.name x ≡ q → cond q (Some d) (control_named ts x) ≡ Some c → (control_named ts x ≡ Some c → AtControl (rules_at_control (after_top s (control p d)) ts x) (scope_at_control sc ts x) c × (c.name ≡ x))
          → AtControl (cond q s (rules_at_control (after_top s (control p d)) ts x)) (cond q sc (scope_at_control sc ts x)) c × (c.name ≡ x)
      go true i j more = (let same = some_is d c j in (subst (λ (z : Control). AtControl s sc z) same here, sym (ap (λ (z : Control). z.name) same) ∙ text_is d.name x i))
      go false i j more = more j

  pub at_parser : (ts : List Top) (s : Scope) (sc : meaning.Scope) → AreFront ts s sc → (x : List ℕ) (d : Parser) → parser_named ts x ≡ Some d → AtParser (rules_at_parser s ts x) (scope_at_parser sc ts x) d
  at_parser [] s sc b x d e = absurd (cc)
  at_parser (constant p t y v ∷ ts) s sc b x d e = at_parser ts _ _ (after_constant p t y v ts s sc b) x d e
  at_parser (typedef p t y ∷ ts) s sc b x d e = at_parser ts _ _ (after_typedef p t y ts s sc b) x d e
  at_parser (header_type p y fs ∷ ts) s sc b x d e = at_parser ts _ _ (after_header p y fs ts s sc b) x d e
  at_parser (struct_type p y fs ∷ ts) s sc b x d e = at_parser ts _ _ (after_struct p y fs ts s sc b) x d e
  at_parser (register p r ∷ ts) s sc b x d e = at_parser ts _ _ (after_register p r ts s sc b) x d e
  at_parser (control p c ∷ ts) s sc b x d e = at_parser ts _ _ (after_control p c ts s sc b) x d e
  at_parser (parser p g ∷ ts) s sc b x d e = go (same_text g.name x) e (at_parser ts _ _ (after_parser p g ts s sc b) x d)
    where
      here : AtParser s sc g
      here = record { front = b.front; place = b.places.0.1; words = b.words.0.1; fine = b.fine.0 }

      go : (q : Bool) → cond q (Some g) (parser_named ts x) ≡ Some d → (parser_named ts x ≡ Some d → AtParser (rules_at_parser (after_top s (parser p g)) ts x) (scope_at_parser sc ts x) d)
          → AtParser (cond q s (rules_at_parser (after_top s (parser p g)) ts x)) (cond q sc (scope_at_parser sc ts x)) d
      go true j more = subst (λ (z : Parser). AtParser s sc z) (some_is g d j) here
      go false j more = more j

-- ---- in front of the first declaration

pub first_front : (p : Program) → IsWellTyped p → HavePlainNames p.tops → HavePlainValues p.tops → EachPlace (λ s sc. AreWords sc) p → AreFront (parts_of p) p.main (after_tops core p.tops) p.tops core no_scope
first_front p well names values words =
    (let fine = (typed_fine p well).0 in
    let places = each_tied p well names in
    record {
      front = record { known = core_known; outer = refl; own = refl; constants = core_reads_none; stays = λ x xs h. all_stays p.main p.tops core fine x xs h; names = core_names; tied = first_tied (parts_of p) p.main (after_tops core p.tops) p.tops core no_scope places };
      places = places;
      words = words;
      runs = controls_run p well names values;
      fine = fine;
      values = values;
      all = refl;
    })
