-- What is read of declarations rests on the lexemes up to the place where reading ends, and on no other.
use Rattle.std.proofs.Common.{◌≡◌, ℕ, zero, suc, ◌+◌, ◌-◌, ◌≤◌, Bool, true, false, cond, List, [], ◌∷◌, ◌++◌, Option, Some, None, Ok, Err, refl, ap, arith}
use Rattle.std.specs.Prelude.{slice_get, is_some}
use Rattle.lex_text.specs.Names.{same_text}
use Rattle.lex_words.specs.declared.key.Key.{Key}
use Rattle.lex_words.specs.declared.key.Key.TheVariants as k
use Rattle.lex_words.specs.Seen.{Lexeme, at_key, name_in, at_include}
use Rattle.lex_words.specs.Reading.{wrong, Read, ◌>>=◌, look, expect_at, named, named_at}
use Rattle.lex_words.proofs.Locality.{Follows, Follows-bind, Follows-from, Follows-look, Follows-later, Follows-cond, Follows-wrong, Follows-spent, Follows-ok, Follows-test, Follows-expect, Follows-named, Follows-numbered, Follows-this_name}
use Rattle.p4_tree.specs.Tree.{Local}
use Rattle.p4_tree.specs.declared.statement.PTy.{PTy}
use Rattle.p4_spelling.specs.Words.{apply_name, key_name, size_name, actions_name, default_name, main_name}
use Rattle.p4_expressions.proofs.Locality.{Follows-scalar}
use Rattle.p4_reader.proofs.Locality.{var_behind, Follows-const, Follows-body}
use Rattle.p4_decls.specs.Parsing.{closes_brace}
use Rattle.p4_decls.specs.Tables.{Props, no_props, key_at, table_keys_at, table_size_at, action_end_at, action_name_at, table_actions_at, arguments_at, default_at, keys_prop_at, size_prop_at, actions_prop_at, default_prop_at, named_prop_at, fixed_prop_at, prop_at, props_at, table_at}
use Rattle.p4_decls.specs.Controls.{action_at, variable_at, behind_name_at, variable_or_apply_at, local_at, goes_on, locals_at, control_at}
use Rattle.p4_decls.specs.Programs.{ends_tops, typedef_at, header_at, struct_at, top_at, includes_at, part_at, parts_at, main_at, whole_at}
use Rattle.p4_decls.proofs.LocalityParsers as parsers
use Rattle.p4_decls.proofs.Repeats.{Follows-each, Follows-list, Follows-some}

-- Two readings, of the lexemes ws and vs, with turns n and m. Hs: both have the same bound on heights; Bs: on brackets.
module _ (ws vs : List Lexeme) (Hs Bs : Type 0) (n m : ℕ) (turns : n ≤ m) where
  abbrev F : {A : Type 0} → ℕ → Read A → Read A → Type 0
  F = Follows ws vs Hs Bs

  bind : {A B : Type 0} (i : ℕ) (r s : Read A) (f g : A × ℕ → Read B) → F i r s → ((x : A × ℕ) → F x.1 (f x) (g x)) → F i (r >>= f) (s >>= g)
  bind = Follows-bind ws vs Hs Bs

  give : {A : Type 0} (i : ℕ) (a : A) → F {A = A} i (Ok (a, i)) (Ok (a, i))
  give i a = Follows-ok ws vs Hs Bs i i a (omega arith)

  give_later : {A : Type 0} (i : ℕ) (a : A) → F {A = A} i (Ok (a, i + 1)) (Ok (a, i + 1))
  give_later i a = Follows-ok ws vs Hs Bs i (i + 1) a (omega arith)

  test : {A : Type 0} (i : ℕ) (t : Option Lexeme → Bool) (x y r s : Read A) → F i x r → F i y s → F i (cond (t (slice_get ws i)) x y) (cond (t (slice_get vs i)) r s)
  test = Follows-test ws vs Hs Bs

  later : {A : Type 0} (i : ℕ) (s r : Read A) → F (i + 1) s r → F i s r
  later = Follows-later ws vs Hs Bs

  expect : (x : Key) (i : ℕ) → F i (expect_at ws x i) (expect_at vs x i)
  expect = Follows-expect ws vs Hs Bs

  -- b and c: how many brackets may be opened
  module _ (b c : ℕ) (be : b ≤ c) (bs : Bs → b ≡ c) where
    -- ---- tables. h and j: how high the expressions may be

    module _ (h j : ℕ) (le : h ≤ j) (hs : Hs → h ≡ j) where
      a_key : (i : ℕ) → F i (key_at ws n b h i) (key_at vs m c j i)
      unfolding key_at
      a_key i =
          bind i _ _ _ _ ((parsers.an_expr ws vs Hs Bs n m turns b c be bs h j le hs) i) (λ e. bind e.1 _ _ _ _ (expect k.Colon e.1) (λ d. bind d.1 _ _ _ _ (Follows-named ws vs Hs Bs n m d.1) (λ x. bind x.1 _ _ _ _ (expect k.Semicolon x.1) (λ s. give s.1 _))))

      a_table_keys : (i : ℕ) → F i (table_keys_at ws n b h i) (table_keys_at vs m c j i)
      unfolding table_keys_at
      a_table_keys i =
          bind i _ _ _ _ (expect k.Assign i) (λ q. bind q.1 _ _ _ _ (expect k.BraceOpen q.1) (λ o. bind o.1 _ _ _ _ (Follows-each ws vs Hs Bs n m turns _ _ a_key closes_brace o.1) (λ ks.
          bind ks.1 _ _ _ _ (expect k.BraceClose ks.1) (λ d. give d.1 _))))

      a_table_size : (i : ℕ) → F i (table_size_at ws n b h i) (table_size_at vs m c j i)
      unfolding table_size_at
      a_table_size i =
          bind i _ _ _ _ (expect k.Assign i) (λ q. bind q.1 _ _ _ _ (Follows-numbered ws vs Hs Bs n m q.1) (λ v. bind v.1 _ _ _ _ (expect k.Semicolon v.1) (λ s. give s.1 _)))

      an_action_end : (x : List ℕ) (i : ℕ) → F i (action_end_at ws n b h x i) (action_end_at vs m c j x i)
      unfolding action_end_at
      an_action_end x i =
          test i (at_key k.Open) _ _ _ _ (later i _ _ (bind (i + 1) _ _ _ _ (expect k.Close (i + 1)) (λ d. bind d.1 _ _ _ _ (expect k.Semicolon d.1) (λ s. give s.1 _))))
          (bind i _ _ _ _ (expect k.Semicolon i) (λ s. give s.1 _))

      an_action_name : (i : ℕ) → F i (action_name_at ws n b h i) (action_name_at vs m c j i)
      unfolding action_name_at
      an_action_name i = bind i _ _ _ _ (Follows-named ws vs Hs Bs n m i) (λ x. an_action_end x.0 x.1)

      the_table_actions : (i : ℕ) → F i (table_actions_at ws n b h i) (table_actions_at vs m c j i)
      unfolding table_actions_at
      the_table_actions i =
          bind i _ _ _ _ (expect k.Assign i) (λ q. bind q.1 _ _ _ _ (expect k.BraceOpen q.1) (λ o. bind o.1 _ _ _ _ (Follows-each ws vs Hs Bs n m turns _ _ an_action_name closes_brace o.1) (λ xs.
          bind xs.1 _ _ _ _ (expect k.BraceClose xs.1) (λ d. give d.1 _))))

      the_arguments : (i : ℕ) → F i (arguments_at ws n b h i) (arguments_at vs m c j i)
      unfolding arguments_at
      the_arguments i =
          test i (at_key k.Open) _ _ _ _
          (later i _ _ (bind (i + 1) _ _ _ _ (Follows-some ws vs Hs Bs n m turns _ _ (parsers.an_inner ws vs Hs Bs n m turns b c be bs h j le hs) (i + 1)) (λ es. bind es.1 _ _ _ _ (expect k.Close es.1) (λ d. give d.1 _))))
          (give i _)

      a_default : (i : ℕ) → F i (default_at ws n b h i) (default_at vs m c j i)
      unfolding default_at
      a_default i =
          bind i _ _ _ _ (expect k.Assign i) (λ q. bind q.1 _ _ _ _ (Follows-named ws vs Hs Bs n m q.1) (λ x. bind x.1 _ _ _ _ (the_arguments x.1) (λ es. bind es.1 _ _ _ _ (expect k.Semicolon es.1) (λ s. give s.1 _))))

      a_fixed_prop : (s : Props) (i : ℕ) → F i (fixed_prop_at ws n b h s i) (fixed_prop_at vs m c j s i)
      unfolding fixed_prop_at
      a_fixed_prop s i =
          Follows-cond ws vs Hs Bs i (is_some s.default) _ _ _ _ (Follows-wrong ws vs Hs Bs i)
          (bind i _ _ _ _ (expect k.Const i) (λ a. bind a.1 _ _ _ _ (Follows-this_name ws vs Hs Bs n m default_name a.1) (λ x. bind x.1 _ _ _ _ (a_default x.1) (λ y. give y.1 _))))

      -- a property behind its name, which stands at p before i
      one_prop : {A : Type 0} (f : A → Props) (p i : ℕ) (t : Bool) (r s : Read A) → p ≤ i → F i r s
          → Follows ws vs Hs Bs p (cond t (Err (wrong p)) (r >>= λ y. Ok (f y.0, y.1))) (cond t (Err (wrong p)) (s >>= λ y. Ok (f y.0, y.1)))
      one_prop f p i true r s at on = Follows-wrong ws vs Hs Bs p
      one_prop f p i false r s at on = Follows-from ws vs Hs Bs p i _ _ _ at (λ _. refl) (bind i _ _ _ _ on (λ y. give y.1 _))

      a_named_prop : (s : Props) (p : ℕ) (x : List ℕ) (i : ℕ) → p ≤ i → F p (named_prop_at ws n b h s p x i) (named_prop_at vs m c j s p x i)
      unfolding named_prop_at keys_prop_at size_prop_at actions_prop_at default_prop_at
      a_named_prop s p x i at =
          Follows-cond ws vs Hs Bs p (same_text x key_name) _ _ _ _ (one_prop _ p i (is_some s.keys) _ _ at (a_table_keys i))
          (Follows-cond ws vs Hs Bs p (same_text x size_name) _ _ _ _ (one_prop _ p i (is_some s.size) _ _ at (a_table_size i))
          (Follows-cond ws vs Hs Bs p (same_text x actions_name) _ _ _ _ (one_prop _ p i (is_some s.actions) _ _ at (the_table_actions i))
          (Follows-cond ws vs Hs Bs p (same_text x default_name) _ _ _ _ (one_prop _ p i (is_some s.default) _ _ at (a_default i))
          (Follows-wrong ws vs Hs Bs p))))

      a_prop_named : (s : Props) (i : ℕ) → F i (named_at ws n i >>= λ x. named_prop_at ws n b h s i x.0 x.1) (named_at vs m i >>= λ x. named_prop_at vs m c j s i x.0 x.1)
      unfolding named_at look
      a_prop_named s i =
          Follows-look ws vs Hs Bs i (λ o. named i (name_in o) >>= λ x. named_prop_at ws n b h s i x.0 x.1) (λ o. named i (name_in o) >>= λ x. named_prop_at vs m c j s i x.0 x.1) (λ o. go (name_in o))
        where
          go : (o : Option (List ℕ)) → F i (named i o >>= λ x. named_prop_at ws n b h s i x.0 x.1) (named i o >>= λ x. named_prop_at vs m c j s i x.0 x.1)
          go None = Follows-wrong ws vs Hs Bs i
          go (Some x) = a_named_prop s i x (i + 1) (omega arith)

      a_prop : (s : Props) (i : ℕ) → F i (prop_at ws n b h s i) (prop_at vs m c j s i)
      unfolding prop_at
      a_prop s i = test i (at_key k.Const) _ _ _ _ (a_fixed_prop s i) (a_prop_named s i)

      -- in so many turns
      the_props : (u v : ℕ) (s : Props) (i : ℕ) → u ≤ v → F i (props_at ws n b h u s i) (props_at vs m c j v s i)
      unfolding props_at
      the_props zero v s i lt = Follows-spent ws vs Hs Bs i _
      the_props (suc u) zero s i lt = absurd (omega arith)
      the_props (suc u) (suc v) s i lt = test i (at_key k.BraceClose) _ _ _ _ (give i _) (bind i _ _ _ _ (a_prop s i) (λ x. the_props u v x.0 x.1 (omega arith)))

      a_table : (i : ℕ) → F i (table_at ws n b h i) (table_at vs m c j i)
      unfolding table_at
      a_table i =
          bind i _ _ _ _ (expect k.Table i) (λ a. bind a.1 _ _ _ _ (Follows-named ws vs Hs Bs n m a.1) (λ x. bind x.1 _ _ _ _ (expect k.BraceOpen x.1) (λ o.
          bind o.1 _ _ _ _ (the_props n m no_props o.1 turns) (λ s. bind s.1 _ _ _ _ (expect k.BraceClose s.1) (λ d. give d.1 _)))))

    -- ---- controls. h and j: how high what stands inside may be

    module _ (h j : ℕ) (le : h ≤ j) (hs : Hs → h ≡ j) where
      an_action : (i : ℕ) → F i (action_at ws n b h i) (action_at vs m c j i)
      unfolding action_at
      an_action i =
          bind i _ _ _ _ (expect k.Action i) (λ a. bind a.1 _ _ _ _ (Follows-named ws vs Hs Bs n m a.1) (λ x. bind x.1 _ _ _ _ (expect k.Open x.1) (λ o.
          bind o.1 _ _ _ _ (Follows-some ws vs Hs Bs n m turns _ _ (parsers.an_argument ws vs Hs Bs n m turns) o.1) (λ ps. bind ps.1 _ _ _ _ (expect k.Close ps.1) (λ d.
          bind d.1 _ _ _ _ (Follows-body ws vs Hs Bs n m turns b c be bs (h - 2) (j - 2) (omega arith) (λ x. ap (λ y. y - 2) (hs x)) d.1) (λ ss. give ss.1 _))))))

      a_variable : (p : ℕ) (t : PTy) (i : ℕ) → F i (variable_at ws n b h p t i) (variable_at vs m c j p t i)
      unfolding variable_at
      a_variable p t i = bind i _ _ _ _ (var_behind ws vs Hs Bs n m turns b c be bs h j le hs t i) (λ x. give x.1 _)

      a_behind_name : (p : ℕ) (x : List ℕ) (i : ℕ) → F i (behind_name_at ws n b h p x i) (behind_name_at vs m c j p x i)
      unfolding behind_name_at
      a_behind_name p x i = Follows-cond ws vs Hs Bs i (same_text x apply_name) _ _ _ _ (give i _) (bind i _ _ _ _ (a_variable p _ i) (λ d. give d.1 _))

      a_variable_or_apply : (i : ℕ) → F i (variable_or_apply_at ws n b h i) (variable_or_apply_at vs m c j i)
      unfolding variable_or_apply_at
      a_variable_or_apply i =
          test i (λ o. is_some (name_in o)) _ _ _ _ (bind i _ _ _ _ (Follows-named ws vs Hs Bs n m i) (λ x. a_behind_name i x.0 x.1))
          (bind i _ _ _ _ (Follows-scalar ws vs Hs Bs n m turns i) (λ t. bind t.1 _ _ _ _ (a_variable i t.0 t.1) (λ d. give d.1 _)))

      a_local : (i : ℕ) → F i (local_at ws n b h i) (local_at vs m c j i)
      unfolding local_at
      a_local i =
          test i (at_key k.Action) _ _ _ _ (bind i _ _ _ _ (an_action i) (λ d. give d.1 _))
          (test i (at_key k.Table) _ _ _ _ (bind i _ _ _ _ (a_table (h - 2) (j - 2) (omega arith) (λ x. ap (λ y. y - 2) (hs x)) i) (λ d. give d.1 _))
          (test i (at_key k.Register) _ _ _ _ (bind i _ _ _ _ ((parsers.a_register ws vs Hs Bs n m turns) i) (λ d. give d.1 _))
          (test i (at_key k.Const) _ _ _ _ (bind i _ _ _ _ (Follows-const ws vs Hs Bs n m turns b c be bs h j le hs i) (λ d. give d.1 _)) (a_variable_or_apply i))))

      going_on : (ds : List Local) (i : ℕ) (d : Option Local) (f g : List Local → Read (List Local)) → ((es : List Local) → F i (f es) (g es)) → F i (goes_on ws n b h ds i d f) (goes_on vs m c j ds i d g)
      going_on ds i None f g on = give i _
      going_on ds i (Some d) f g on = on (ds ++ d ∷ [])

      the_locals : (u v : ℕ) (ds : List Local) (i : ℕ) → u ≤ v → F i (locals_at ws n b h u ds i) (locals_at vs m c j v ds i)
      unfolding locals_at
      the_locals zero v ds i lt = Follows-spent ws vs Hs Bs i _
      the_locals (suc u) zero ds i lt = absurd (omega arith)
      the_locals (suc u) (suc v) ds i lt = bind i _ _ _ _ (a_local i) (λ d. going_on ds d.1 d.0 _ _ (λ es. the_locals u v es d.1 (omega arith)))

      a_control : (i : ℕ) → F i (control_at ws n b h i) (control_at vs m c j i)
      unfolding control_at
      a_control i =
          bind i _ _ _ _ (expect k.Control i) (λ a. bind a.1 _ _ _ _ (Follows-named ws vs Hs Bs n m a.1) (λ x. bind x.1 _ _ _ _ (expect k.Open x.1) (λ o.
          bind o.1 _ _ _ _ (Follows-list ws vs Hs Bs n m turns _ _ (parsers.a_param ws vs Hs Bs n m turns) o.1) (λ ps. bind ps.1 _ _ _ _ (expect k.Close ps.1) (λ d. bind d.1 _ _ _ _ (expect k.BraceOpen d.1) (λ e.
          bind e.1 _ _ _ _ (the_locals n m [] e.1 turns) (λ ds. bind ds.1 _ _ _ _ (Follows-body ws vs Hs Bs n m turns b c be bs h j le hs ds.1) (λ ss.
          bind ss.1 _ _ _ _ (expect k.BraceClose ss.1) (λ f. give f.1 _)))))))))

    -- ---- programs. h and j: how high a declaration may be

    module _ (h j : ℕ) (le : h ≤ j) (hs : Hs → h ≡ j) where
      a_typedef : (i : ℕ) → F i (typedef_at ws n b h i) (typedef_at vs m c j i)
      unfolding typedef_at
      a_typedef i = bind i _ _ _ _ (expect k.Typedef i) (λ a. bind a.1 _ _ _ _ ((parsers.a_field ws vs Hs Bs n m turns) a.1) (λ d. give d.1 _))

      a_header : (i : ℕ) → F i (header_at ws n b h i) (header_at vs m c j i)
      unfolding header_at
      a_header i =
          bind i _ _ _ _ (expect k.Header i) (λ a. bind a.1 _ _ _ _ (Follows-named ws vs Hs Bs n m a.1) (λ x. bind x.1 _ _ _ _ (expect k.BraceOpen x.1) (λ o.
          bind o.1 _ _ _ _ (Follows-each ws vs Hs Bs n m turns _ _ (parsers.a_field ws vs Hs Bs n m turns) closes_brace o.1) (λ fs. bind fs.1 _ _ _ _ (expect k.BraceClose fs.1) (λ d. give d.1 _)))))

      a_struct : (i : ℕ) → F i (struct_at ws n b h i) (struct_at vs m c j i)
      unfolding struct_at
      a_struct i =
          bind i _ _ _ _ (expect k.Struct i) (λ a. bind a.1 _ _ _ _ (Follows-named ws vs Hs Bs n m a.1) (λ x. bind x.1 _ _ _ _ (expect k.BraceOpen x.1) (λ o.
          bind o.1 _ _ _ _ (Follows-each ws vs Hs Bs n m turns _ _ (parsers.a_field ws vs Hs Bs n m turns) closes_brace o.1) (λ fs. bind fs.1 _ _ _ _ (expect k.BraceClose fs.1) (λ d. give d.1 _)))))

      a_top : (i : ℕ) → F i (top_at ws n b h i) (top_at vs m c j i)
      unfolding top_at
      a_top i =
          test i (at_key k.Const) _ _ _ _ (bind i _ _ _ _ (Follows-const ws vs Hs Bs n m turns b c be bs h j le hs i) (λ d. give d.1 _))
          (test i (at_key k.Typedef) _ _ _ _ (a_typedef i)
          (test i (at_key k.Register) _ _ _ _ (bind i _ _ _ _ ((parsers.a_register ws vs Hs Bs n m turns) i) (λ d. give d.1 _))
          (test i (at_key k.Parser) _ _ _ _ (bind i _ _ _ _ (parsers.a_parser ws vs Hs Bs n m turns b c be bs (h - 4) (j - 4) (omega arith) (λ x. ap (λ y. y - 4) (hs x)) i) (λ d. give d.1 _))
          (test i (at_key k.Control) _ _ _ _ (bind i _ _ _ _ (a_control (h - 2) (j - 2) (omega arith) (λ x. ap (λ y. y - 2) (hs x)) i) (λ d. give d.1 _))
          (test i (at_key k.Header) _ _ _ _ (a_header i) (a_struct i))))))

      the_includes : (u v i : ℕ) → u ≤ v → F i (includes_at ws n b h u i) (includes_at vs m c j v i)
      unfolding includes_at
      the_includes zero v i lt = Follows-spent ws vs Hs Bs i _
      the_includes (suc u) zero i lt = absurd (omega arith)
      the_includes (suc u) (suc v) i lt = test i at_include _ _ _ _ (later i _ _ (the_includes u v (i + 1) (omega arith))) (give i _)

      a_part : (i : ℕ) → F i (part_at ws n b h i) (part_at vs m c j i)
      unfolding part_at
      a_part i = bind i _ _ _ _ (Follows-named ws vs Hs Bs n m i) (λ x. bind x.1 _ _ _ _ (expect k.Open x.1) (λ o. bind o.1 _ _ _ _ (expect k.Close o.1) (λ d. give d.1 _)))

      the_parts : (i : ℕ) → F i (parts_at ws n b h i) (parts_at vs m c j i)
      unfolding parts_at
      the_parts i =
          bind i _ _ _ _ (expect k.V1Switch i) (λ a. bind a.1 _ _ _ _ (expect k.Open a.1) (λ o. bind o.1 _ _ _ _ (Follows-list ws vs Hs Bs n m turns _ _ a_part o.1) (λ xs.
          bind xs.1 _ _ _ _ (expect k.Close xs.1) (λ d. give d.1 _))))

      the_main : (i : ℕ) → F i (main_at ws n b h i) (main_at vs m c j i)
      unfolding main_at
      the_main i =
          bind i _ _ _ _ (the_parts i) (λ xs. bind xs.1 _ _ _ _ (Follows-this_name ws vs Hs Bs n m main_name xs.1) (λ o. bind o.1 _ _ _ _ (expect k.Semicolon o.1) (λ s. give s.1 _)))

      the_whole : F 0 (whole_at ws n b h) (whole_at vs m c j)
      unfolding whole_at
      the_whole =
          bind 0 _ _ _ _ (the_includes n m 0 turns) (λ s. bind s.1 _ _ _ _ (Follows-each ws vs Hs Bs n m turns _ _ a_top ends_tops s.1) (λ ts. bind ts.1 _ _ _ _ (the_main ts.1) (λ xs. give xs.1 _)))

pub Follows-whole : (ws vs : List Lexeme) (Hs Bs : Type 0) (n m : ℕ) → n ≤ m → (h j : ℕ) → h ≤ j → (Hs → h ≡ j) → (b c : ℕ) → b ≤ c → (Bs → b ≡ c) → Follows ws vs Hs Bs 0 (whole_at ws n b h) (whole_at vs m c j)
Follows-whole ws vs Hs Bs n m turns h j le hs b c be bs = the_whole ws vs Hs Bs n m turns b c be bs h j le hs
