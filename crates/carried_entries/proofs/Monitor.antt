-- What the tables of the monitor's map, and their first actions, hold in a linked program.
use Rattle.std.proofs.Common.{◌≡◌, ℕ, List, [], ◌∷◌, ◌++◌, map, Bool, true, false, cond, Option, Some, refl, sym, ap, ◌∙◌, subst, append_assoc}
use Rattle.std.proofs.lemmas.List.{map-append}
use Rattle.std.specs.List.{AllByRecursion}
use Rattle.lex_text.specs.Names.{same_text}
use Rattle.rule_tests.specs.Tests.{IsFine}
use Rattle.p4_tree.specs.Tree.{Local, Control, Top, constant, typedef, header_type, struct_type, register, parser, control, Program}
use Rattle.p4_meaning.specs.Scope.{Roots, full}
use Rattle.p4_meaning.specs.Parts.{control_named, control_in, named_in}
use Rattle.p4_scopes.specs.Scopes.{Scope, core}
use Rattle.p4_scopes.specs.declared.kind.Kind.{Kind}
use Rattle.p4_declaration_rules.specs.Parsers.{with_ways}
use Rattle.p4_declaration_rules.specs.Controls.{after_locals, locals_tests, part_in, after_top, after_tops, tops_tests}
use Rattle.p4_rules.specs.ProgramRules.{IsWellTyped}
use Rattle.p4_rule_laws.specs.OldPrograms.{OldTops}
use Rattle.p4_typing_laws.specs.Plain.{is_plain, IsPlain}
use Rattle.p4_typing_laws.proofs.Fine.{typed_fine}
use Rattle.p4_typing_laws.proofs.CallCounts.{text_is, text_same}
use Rattle.p4_typing_laws.proofs.FullNames.{tail_same, plain_not_full, other_text}
use Rattle.indus_tree.specs.Tree.{Decl}
use Rattle.lookup_names.specs.Names as names
use Rattle.lowered_code.specs.Names.{table_name, action_name}
use Rattle.lowered_code.specs.Statements.{Var}
use Rattle.own_programs.proofs.Names.{broken}
use Rattle.linked_programs.specs.Lowered.{Lowered}
use Rattle.linked_programs.specs.Rewritten.{local_with}
use Rattle.linked_programs.specs.Linked.{place_in, control_roots, locals_at, rejects_top, switch_top, front, linked_top, linked}
use Rattle.linked_programs.specs.Gives.{IsLoweredTop}
use Rattle.lower_blocks.specs.Trees.{var_tree, action_tree, table_tree, locals_for}
use Rattle.carried_entries.proofs.Named.{item_kinds, kinds_named, locals_hold_of, tops_hold_of}
use Rattle.carried_entries.proofs.Lookups.{every, IsHere, KeysHere, wanted_keys, wanted_params, TablesDiffer, ActionsDiffer, TableFound, ActionFound, vars_with, all_with, vars_seen, all_tables, all_actions}

-- ---- names of controls

-- what stands behind the last point is known from a full name
around_same : (a b c d : List ℕ) → IsPlain c → IsPlain d → full c a ≡ full d b → c ≡ d
around_same [] [] c d h k e = tail_same 46 46 c d e
around_same [] (y ∷ ys) c d h k e = absurd (plain_not_full c h d ys (tail_same 46 y c (ys ++ 46 ∷ d) e))
around_same (x ∷ xs) [] c d h k e = absurd (plain_not_full d k c xs (sym (tail_same x 46 (xs ++ 46 ∷ c) d e)))
around_same (x ∷ xs) (y ∷ ys) c d h k e = around_same xs ys c d h k (tail_same x y (xs ++ 46 ∷ c) (ys ++ 46 ∷ d) e)

-- what another control declares is passed over
past_items : (d c y : List ℕ) → IsPlain d → IsPlain c → same_text d c ≡ false → (is : List (List ℕ × List Kind)) (other : List Kind) → item_kinds d is (full c y) other ≡ other
past_items d c y h k apart [] other = refl
past_items d c y h k apart (i ∷ is) other =
    ap (λ (b : Bool). cond b i.1 (item_kinds d is (full c y) other)) (other_text (full d i.0) (full c y) (λ e. (let same = around_same i.0 y d c h k e in broken (sym (text_same d c same) ∙ apart))))
    ∙ past_items d c y h k apart is other

pub named_is : (ts : List Top) (x : List ℕ) (c : Control) → control_named ts x ≡ Some c → c.name ≡ x
named_is [] x c e = absurd (cc e)
named_is (control q d ∷ ts) x c e = go (same_text d.name x) refl e (named_is ts x c)
  where
    go : (b : Bool) → same_text d.name x ≡ b → cond b (Some d) (control_named ts x) ≡ Some c → (control_named ts x ≡ Some c → c.name ≡ x) → c.name ≡ x
    go true i j more = (let one : d ≡ c = cc j in ap (λ (z : Control). z.name) (sym one) ∙ text_is d.name x i)
    go false i j more = more j
named_is (constant q y n e' ∷ ts) x c e = named_is ts x c e
named_is (typedef q y n ∷ ts) x c e = named_is ts x c e
named_is (header_type q n fs ∷ ts) x c e = named_is ts x c e
named_is (struct_type q n fs ∷ ts) x c e = named_is ts x c e
named_is (register q r ∷ ts) x c e = named_is ts x c e
named_is (parser q d ∷ ts) x c e = named_is ts x c e

-- ---- in front

past_front : (ys zs : List Top) (s : Scope) → AllByRecursion IsLoweredTop ys → tops_hold_of every s (ys ++ zs) ≡ tops_hold_of every (after_tops s ys) zs
past_front [] zs s h = refl
past_front (header_type q n fs ∷ ys) zs s h = past_front ys zs (after_top s (header_type q n fs)) h.1
past_front (register q r ∷ ys) zs s h = past_front ys zs (after_top s (register q r)) h.1
past_front (constant q y n e ∷ ys) zs s h = absurd h.0
past_front (typedef q y n ∷ ys) zs s h = absurd h.0
past_front (struct_type q n fs ∷ ys) zs s h = absurd h.0
past_front (parser q d ∷ ys) zs s h = absurd h.0
past_front (control q c ∷ ys) zs s h = absurd h.0

fine_behind : (main : List (List ℕ)) (ys zs : List Top) (s : Scope) → IsFine (tops_tests main s (ys ++ zs)) → IsFine (tops_tests main (after_tops s ys) zs)
fine_behind main [] zs s f = f
fine_behind main (y ∷ ys) zs s f = fine_behind main ys zs (after_top s y) f.1

after_both : (ys zs : List Top) (s : Scope) → after_tops s (ys ++ zs) ≡ after_tops (after_tops s ys) zs
after_both [] zs s = refl
after_both (y ∷ ys) zs s = after_both ys zs (after_top s y)

-- ---- along the declarations

module _ (l : Lowered) (size : ℕ) (links : List ℕ) (p : Program) where
  abbrev new : List Top → List Top
  new ts = map (linked_top l size links p) ts

  -- what the control declares, by what is in sight before it
  abbrev pub declared : Control → List Local
  declared c = locals_at l links (place_in p.main c.name) c

  abbrev pub FoundIn : Control → List ℕ → List Kind → Type 0
  FoundIn c x ks =
      (u : Scope) (other : List Kind) → IsFine (locals_tests (part_in p.main c.name) (with_ways u c.params) (declared c)) →
      item_kinds c.name (locals_hold_of every (with_ways u c.params) (declared c)) x other ≡ ks

  -- a control in front of others
  walk_control :
      (x0 y : List ℕ) (c : Control) (ks : List Kind) → IsPlain x0 → FoundIn c (full x0 y) ks → (d : Control) → IsPlain d.name → (t : Scope)
      → IsFine (locals_tests (part_in p.main d.name) (with_ways t d.params) (declared d)) → (rest : List Kind) (o : Option Control)
      → cond (same_text d.name x0) (Some d) o ≡ Some c → (o ≡ Some c → rest ≡ ks) → item_kinds d.name (locals_hold_of every (with_ways t d.params) (declared d)) (full x0 y) rest ≡ ks
  walk_control x0 y c ks plain found d plain_d t f rest o e = go (same_text d.name x0) refl e
    where
      here : (b : Control) → b ≡ c → IsFine (locals_tests (part_in p.main b.name) (with_ways t b.params) (declared b)) → item_kinds b.name (locals_hold_of every (with_ways t b.params) (declared b)) (full x0 y) rest ≡ ks
      here b i = subst (λ (z : Control). IsFine (locals_tests (part_in p.main z.name) (with_ways t z.params) (declared z)) → item_kinds z.name (locals_hold_of every (with_ways t z.params) (declared z)) (full x0 y) rest ≡ ks) (sym i) (found t rest)

      go : (b : Bool) → same_text d.name x0 ≡ b → cond b (Some d) o ≡ Some c → (o ≡ Some c → rest ≡ ks) → item_kinds d.name (locals_hold_of every (with_ways t d.params) (declared d)) (full x0 y) rest ≡ ks
      go true i j more = (let one : d ≡ c = cc j in here d one f)
      go false i j more = past_items d.name x0 y plain_d plain i (locals_hold_of every (with_ways t d.params) (declared d)) rest ∙ more j

  walk : (x0 y : List ℕ) (c : Control) (ks : List Kind) → IsPlain x0 → FoundIn c (full x0 y) ks → (ts : List Top) (t : Scope) → OldTops is_plain ts → IsFine (tops_tests p.main t (new ts)) → control_named ts x0 ≡ Some c
      → kinds_named (tops_hold_of every t (new ts)) (full x0 y) ≡ ks
  walk x0 y c ks plain found [] t o f e = absurd (cc e)
  walk x0 y c ks plain found (control q d ∷ ts) t o f e =
      walk_control x0 y c ks plain found d o.0.name t f.0.1.1.0 (kinds_named (tops_hold_of every (after_top t (linked_top l size links p (control q d))) (new ts)) (full x0 y)) (control_named ts x0) e
      (walk x0 y c ks plain found ts (after_top t (linked_top l size links p (control q d))) o.1 f.1)
  walk x0 y c ks plain found (constant q u n e' ∷ ts) t o f e = walk x0 y c ks plain found ts _ o.1 f.1 e
  walk x0 y c ks plain found (typedef q u n ∷ ts) t o f e = walk x0 y c ks plain found ts _ o.1 f.1 e
  walk x0 y c ks plain found (header_type q n fs ∷ ts) t o f e = walk x0 y c ks plain found ts _ o.1 f.1 e
  walk x0 y c ks plain found (struct_type q n fs ∷ ts) t o f e = walk x0 y c ks plain found ts _ o.1 f.1 e
  walk x0 y c ks plain found (register q r ∷ ts) t o f e = walk x0 y c ks plain found ts _ o.1 f.1 e
  walk x0 y c ks plain found (parser q d ∷ ts) t o f e = walk x0 y c ks plain found ts _ o.1 f.1 e

  control_plain : (ts : List Top) (x : List ℕ) (c : Control) → OldTops is_plain ts → control_named ts x ≡ Some c → IsPlain x
  control_plain [] x c o e = absurd (cc e)
  control_plain (control q d ∷ ts) x c o e = go (same_text d.name x) refl e (control_plain ts x c o.1)
    where
      go : (b : Bool) → same_text d.name x ≡ b → cond b (Some d) (control_named ts x) ≡ Some c → (control_named ts x ≡ Some c → IsPlain x) → IsPlain x
      go true i j more = ap is_plain (sym (text_is d.name x i)) ∙ o.0.name
      go false i j more = more j
  control_plain (constant q y n e' ∷ ts) x c o e = control_plain ts x c o.1 e
  control_plain (typedef q y n ∷ ts) x c o e = control_plain ts x c o.1 e
  control_plain (header_type q n fs ∷ ts) x c o e = control_plain ts x c o.1 e
  control_plain (struct_type q n fs ∷ ts) x c o e = control_plain ts x c o.1 e
  control_plain (register q r ∷ ts) x c o e = control_plain ts x c o.1 e
  control_plain (parser q d ∷ ts) x c o e = control_plain ts x c o.1 e

  module _ (s : ℕ) (low : AllByRecursion IsLoweredTop l.tops) (plain : OldTops is_plain p.tops) (typed : IsWellTyped (linked l size s links p)) where
    abbrev q : Program
    q = linked l size s links p

    abbrev u : Scope
    u = after_tops core (front l s)

    hold_same : tops_hold_of every core q.tops ≡ tops_hold_of every u (new p.tops)
    hold_same =
        ap (tops_hold_of every (after_top core rejects_top)) (append_assoc l.tops (switch_top s ∷ []) (new p.tops))
        ∙ (past_front l.tops (switch_top s ∷ new p.tops) (after_top core rejects_top) low
        ∙ ap (λ (t : Scope). tops_hold_of every t (new p.tops)) (sym (after_both l.tops (switch_top s ∷ []) (after_top core rejects_top))))

    fine : IsFine (tops_tests p.main u (new p.tops))
    fine = fine_behind p.main (front l s) (new p.tops) core (typed_fine q typed).0

    -- the control at a place of `main`
    module _ (n : ℕ) (c : Control) (there : control_in p n ≡ Some c) where
      is_named : c.name ≡ named_in p.main n
      is_named = named_is p.tops (named_in p.main n) c there

      pub found_here : (y : List ℕ) (ks : List Kind) → FoundIn c (full c.name y) ks → kinds_named (tops_hold_of every core q.tops) (full c.name y) ≡ ks
      found_here y ks found =
          ap (λ (hs : List (List ℕ × List (List ℕ × List Kind))). kinds_named hs (full c.name y)) hold_same
          ∙ subst (λ (x0 : List ℕ). FoundIn c (full x0 y) ks → kinds_named (tops_hold_of every u (new p.tops)) (full x0 y) ≡ ks) (sym is_named)
          (λ k. walk (named_in p.main n) y c ks (control_plain p.tops (named_in p.main n) c plain there) k p.tops u plain fine there) found

      -- a control whose declarations begin with those of these lookups
      module _ (vs : List Var) (ls : List (ℕ × Decl)) (shaped : declared c ≡ all_with (control_roots c) c.name vs ls (map (local_with (control_roots c)) c.locals)) where
        abbrev made : List Local
        made = all_with (control_roots c) c.name vs ls (map (local_with (control_roots c)) c.locals)

        moved_table : (ns : List (ℕ × Decl)) → ((v : Scope) (other : List Kind) → IsFine (locals_tests (part_in p.main c.name) v made) → AllByRecursion (TableFound (control_roots c) c.name (locals_hold_of every v made) other) ns)
            → AllByRecursion (λ (m : ℕ × Decl). kinds_named (tops_hold_of every core q.tops) (table_name c.name m.0) ≡ wanted_keys (m.1).shape) ns
        moved_table [] k = tt
        moved_table (m ∷ ns) k = (
          found_here (names.table_name m.0) (wanted_keys (m.1).shape)
              (λ t other. subst (λ (ls' : List Local). IsFine (locals_tests (part_in p.main c.name) (with_ways t c.params) ls') → item_kinds c.name (locals_hold_of every (with_ways t c.params) ls') (table_name c.name m.0) other ≡ wanted_keys (m.1).shape)
              (sym shaped) (λ f. (k (with_ways t c.params) other f).0)),
          moved_table ns (λ v other f. (k v other f).1),
        )

        pub tables_hold : TablesDiffer (control_roots c) c.name ls → ((v : Scope) → AllByRecursion (IsHere v) vs → AllByRecursion (KeysHere v) ls)
            → AllByRecursion (λ (m : ℕ × Decl). kinds_named (tops_hold_of every core q.tops) (table_name c.name m.0) ≡ wanted_keys (m.1).shape) ls
        tables_hold d keys =
            moved_table ls
            (λ v other f. all_tables (control_roots c) c.name (part_in p.main c.name) vs ls (map (local_with (control_roots c)) c.locals) v f other d
            (keys (after_locals v (vars_with (control_roots c) vs)) (vars_seen (control_roots c) c.name (part_in p.main c.name) vs ls (map (local_with (control_roots c)) c.locals) v f)))

        moved_action : (ns : List (ℕ × Decl)) → ((v : Scope) (other : List Kind) → IsFine (locals_tests (part_in p.main c.name) v made) → AllByRecursion (ActionFound (control_roots c) c.name (locals_hold_of every v made) other) ns)
            → AllByRecursion (λ (m : ℕ × Decl). kinds_named (tops_hold_of every core q.tops) (action_name c.name m.0) ≡ wanted_params (m.1).shape) ns
        moved_action [] k = tt
        moved_action (m ∷ ns) k = (
          found_here (names.action_name m.0) (wanted_params (m.1).shape)
              (λ t other. subst (λ (ls' : List Local). IsFine (locals_tests (part_in p.main c.name) (with_ways t c.params) ls') → item_kinds c.name (locals_hold_of every (with_ways t c.params) ls') (action_name c.name m.0) other ≡ wanted_params (m.1).shape)
              (sym shaped) (λ f. (k (with_ways t c.params) other f).0)),
          moved_action ns (λ v other f. (k v other f).1),
        )

        pub actions_hold : ActionsDiffer (control_roots c) c.name ls → AllByRecursion (λ (m : ℕ × Decl). kinds_named (tops_hold_of every core q.tops) (action_name c.name m.0) ≡ wanted_params (m.1).shape) ls
        actions_hold d = moved_action ls (λ v other f. all_actions (control_roots c) c.name (part_in p.main c.name) vs ls (map (local_with (control_roots c)) c.locals) v f other d)

-- the declarations of a control, one list behind the other
pub made_of : (r : Roots) (vs : List Var) (ls : List (ℕ × Decl)) (ms : List Local) → map (local_with r) (locals_for vs ls ++ ms) ≡ map (local_with r) (map var_tree vs) ++ (map (local_with r) (map action_tree ls) ++ (map (local_with r) (map table_tree ls) ++ map (local_with r) ms))
made_of r vs ls ms =
    ap (map (local_with r)) (append_assoc (map var_tree vs) (map action_tree ls ++ map table_tree ls) ms ∙ ap (λ (xs : List Local). map var_tree vs ++ xs) (append_assoc (map action_tree ls) (map table_tree ls) ms))
    ∙ (map-append (local_with r) (map var_tree vs) (map action_tree ls ++ (map table_tree ls ++ ms))
    ∙ ap (λ (xs : List Local). map (local_with r) (map var_tree vs) ++ xs)
    (map-append (local_with r) (map action_tree ls) (map table_tree ls ++ ms) ∙ ap (λ (xs : List Local). map (local_with r) (map action_tree ls) ++ xs) (map-append (local_with r) (map table_tree ls) ms)))
