-- What full names find in the actions and tables of two programs, along their declarations. Read `FullNames` and
-- `CountedNames` of `p4_typing_laws` before it.
use Rattle.std.proofs.Common.{◌≡◌, ℕ, List, [], ◌∷◌, ◌++◌, Bool, true, false, cond, Option, Some, refl, sym, ◌∙◌, subst}
use Rattle.std.specs.List.{AllByRecursion}
use Rattle.lex_text.specs.Names.{same_text}
use Rattle.rule_tests.specs.Tests.{IsFine}
use Rattle.p4_tree.specs.Tree.{Control, Top, constant, typedef, header_type, struct_type, register, parser, control}
use Rattle.p4_meaning.specs.Scope as meaning
use Rattle.p4_meaning.specs.Scope.{full}
use Rattle.p4_meaning.specs.Under.{behind_top, in_control}
use Rattle.p4_meaning.specs.Actions.{Action, actions_in, actions_of, action_named}
use Rattle.p4_meaning.specs.Tables.{Table, tables_in, tables_of, table_named}
use Rattle.p4_meaning.specs.Parts.{control_named, scope_at_control}
use Rattle.p4_scopes.specs.Scopes as scope
use Rattle.p4_scopes.specs.Scopes.{is_missing, Scope, What, alias, fields, value, part, behind, declare}
use Rattle.p4_scopes.specs.declared.thing.Thing.TheVariants.{Header, Struct}
use Rattle.p4_scopes.specs.declared.thing.Access.TheVariants.{Constant}
use Rattle.p4_declaration_rules.specs.Controls.{control_tests, part_in, after_top, tops_tests}
use Rattle.p4_typing_laws.specs.Plain.{IsPlain, IsPlainLocal, HavePlainNames}
use Rattle.p4_typing_laws.proofs.Fine.{twice_not}
use Rattle.p4_typing_laws.proofs.CallCounts.{IsQuiet}
use Rattle.p4_typing_laws.proofs.FullNames.{full_apart, knows_all, skip_actions, skip_tables}
use Rattle.p4_typing_laws.proofs.CountedNames.{was_missing, Calls, quiet_calls, Nothing}
use Rattle.passage_stores.specs.Sights.{rules_at_control}
use Rattle.rewriting_laws.specs.Standing.{MayStandFor}
use Rattle.rewritten_programs.specs.Rewritten.{ControlRewritten, TopRewritten, constant_stays, typedef_stays, header_stays, struct_stays, register_stays, parser_stays, in_control as in_a_control}
use Rattle.rewriting_rules.specs.Knows.{Knows}
use Rattle.rewriting_rules.proofs.Knows.{top_knows}
use Rattle.rewriting_rules.proofs.Programs.{TopsRewritten, name_same}
use Rattle.rewriting_passages.proofs.Scopes.{begin_same, locals_named}

-- ---- lists of actions and tables of two programs

pub record Lists : Type 0 where
  pub actions : List Action
  pub others : List Action
  pub tables : List Table
  pub other_tables : List Table

-- a full name finds in all what it finds in some
pub record FindSame (all some : Lists) (y : List ℕ) : Type 0 where
  pub actions : action_named all.actions y ≡ action_named some.actions y
  pub others : action_named all.others y ≡ action_named some.others y
  pub tables : table_named all.tables y ≡ table_named some.tables y
  pub other_tables : table_named all.other_tables y ≡ table_named some.other_tables y

pub find_then : (a b c : Lists) (y : List ℕ) → FindSame a b y → FindSame b c y → FindSame a c y
find_then a b c y h k = record { actions = h.actions ∙ k.actions; others = h.others ∙ k.others; tables = h.tables ∙ k.tables; other_tables = h.other_tables ∙ k.other_tables }

-- all lists of the two programs
module _ (all : Lists) where
  -- those of declarations that are left
  abbrev pub lists_of : meaning.Scope → (ts us : List Top) → Lists
  lists_of sc ts us = record { actions = actions_of sc ts; others = actions_of sc us; tables = tables_of sc all.actions ts; other_tables = tables_of sc all.others us }

  -- those of a control, and of what is declared behind it
  abbrev pub lists_at : meaning.Scope → (c d : Control) → (ts us : List Top) → Lists
  lists_at sc c d ts us =
      record {
        actions = actions_in (in_control 0 1 2 sc c) c.locals ++ actions_of sc ts;
        others = actions_in (in_control 0 1 2 sc c) d.locals ++ actions_of sc us;
        tables = tables_in (in_control 0 1 2 sc c) all.actions c.locals ++ tables_of sc all.actions ts;
        other_tables = tables_in (in_control 0 1 2 sc c) all.others d.locals ++ tables_of sc all.others us;
      }

  -- what is known in front of declarations
  pub record AreFound (s : Scope) (sc : meaning.Scope) (ts us : List Top) : Type 0 where
    pub knows : Knows s
    pub calls : Calls Nothing Nothing s
    pub find : (c x : List ℕ) → IsPlain x → is_missing (s (c ∷ [])) ≡ true → FindSame all (lists_of sc ts us) (full c x)

  -- and in front of the control of a name
  pub record IsFoundAt (main : List (List ℕ)) (s : Scope) (sc : meaning.Scope) (c : Control) (o : Option Control) : Type 0 where
    pub after : Control
    pub there : o ≡ Some after
    pub rewritten : ControlRewritten MayStandFor c after
    pub ts : List Top
    pub us : List Top
    pub knows : Knows s
    pub calls : Calls Nothing Nothing s
    pub find : (x : List ℕ) → IsPlain x → FindSame all (lists_at sc c after ts us) (full c.name x)
    pub fine : IsFine (control_tests (part_in main c.name) s c)
    pub plain : AllByRecursion IsPlainLocal c.locals

  module _ (main : List (List ℕ)) where
    quiet_next : (t u : Top) (ts us : List Top) (s : Scope) (sc sd : meaning.Scope) (n : List ℕ) (w : What) → AreFound s sc (t ∷ ts) (u ∷ us) → ((y : List ℕ) → FindSame (lists_of sc (t ∷ ts) (u ∷ us)) (lists_of sd ts us) y)
        → Knows (declare s n w) → is_missing (behind s w []) ≡ false → IsQuiet (behind s w []) → AreFound (declare s n w) sd ts us
    quiet_next t u ts us s sc sd n w b same knows some quiet =
        record {
          knows = knows;
          calls = quiet_calls Nothing Nothing s b.calls n w quiet;
          find = λ c x q m. find_then all (lists_of sc (t ∷ ts) (u ∷ us)) (lists_of sd ts us) (full c x) (b.find c x q (was_missing s n w some c m).before) (same (full c x));
        }

    control_next : (p : ℕ) (c d : Control) → ControlRewritten MayStandFor c d → (ts us : List Top) (s : Scope) (sc : meaning.Scope) → AreFound s sc (control p c ∷ ts) (control p d ∷ us) → AllByRecursion IsPlainLocal c.locals → IsFine (control_tests (part_in main c.name) s c) → AreFound (declare s c.name part) sc ts us
    control_next p c d r ts us s sc b plain f =
        record {
          knows = top_knows main s b.knows (control p c) f;
          calls = quiet_calls Nothing Nothing s b.calls c.name part tt;
          find = λ e x q m.
              (let was = was_missing s c.name part refl e m in
              let apart : (y : List ℕ) → IsPlain y → full c.name y ≡ full e x → ⊥ = λ y k i. was.apart (full_apart y x c.name e k q i).1 in
              let others_apart : (y : List ℕ) → IsPlain y → full d.name y ≡ full e x → ⊥ = λ y k i. was.apart (sym (name_same c d r) ∙ (full_apart y x d.name e k q i).1) in
              let plain_after = locals_named IsPlain (λ z. Unit {0}) c.locals d.locals r.locals plain in
              find_then all (lists_of sc (control p c ∷ ts) (control p d ∷ us)) (lists_of sc ts us) (full e x) (b.find e x q was.before)
              (record {
                actions = skip_actions c.name (full e x) apart c.locals (in_control 0 1 2 sc c) (knows_all 0 1 2 sc c) plain (actions_of sc ts);
                others = skip_actions d.name (full e x) others_apart d.locals (in_control 0 1 2 sc d) (knows_all 0 1 2 sc d) plain_after (actions_of sc us);
                tables = skip_tables all.actions c.name (full e x) apart c.locals (in_control 0 1 2 sc c) (knows_all 0 1 2 sc c) plain (tables_of sc all.actions ts);
                other_tables = skip_tables all.others d.name (full e x) others_apart d.locals (in_control 0 1 2 sc d) (knows_all 0 1 2 sc d) plain_after (tables_of sc all.others us);
              }));
        }

    -- the lists at a control
    at_first : (p : ℕ) (c d : Control) → ControlRewritten MayStandFor c d → (ts us : List Top) (s : Scope) (sc : meaning.Scope) → AreFound s sc (control p c ∷ ts) (control p d ∷ us) → (x : List ℕ) → IsPlain x → is_missing (s (c.name ∷ [])) ≡ true → FindSame all (lists_at sc c d ts us) (full c.name x)
    at_first p c d r ts us s sc b x q m = subst (λ (sd : meaning.Scope). FindSame all (In sd) (full c.name x)) (begin_same 0 1 2 sc c d r) (b.find c.name x q m)
      where
        In : meaning.Scope → Lists
        In sd =
            record {
              actions = actions_in (in_control 0 1 2 sc c) c.locals ++ actions_of sc ts;
              others = actions_in sd d.locals ++ actions_of sc us;
              tables = tables_in (in_control 0 1 2 sc c) all.actions c.locals ++ tables_of sc all.actions ts;
              other_tables = tables_in sd all.others d.locals ++ tables_of sc all.others us;
            }

    -- a control that is found by its name
    pub found_at : (ts us : List Top) → TopsRewritten ts us → (s : Scope) (sc : meaning.Scope) → AreFound s sc ts us → IsFine (tops_tests main s ts) → HavePlainNames ts → (x : List ℕ) (c : Control) → control_named ts x ≡ Some c
        → IsFoundAt main (rules_at_control s ts x) (scope_at_control sc ts x) c (control_named us x)
    found_at [] us r s sc b f names x c e = absurd (cc e)
    found_at (t ∷ ts) [] r s sc b f names x c e = absurd r
    found_at (t ∷ ts) (u ∷ us) r s sc b f names x c e = one t u r.0 b f names e (λ s' sc' b' f' n'. found_at ts us r.1 s' sc' b' f' n' x c)
      where
        one : (t u : Top) → TopRewritten MayStandFor t u → AreFound s sc (t ∷ ts) (u ∷ us) → IsFine (tops_tests main s (t ∷ ts)) → HavePlainNames (t ∷ ts) → control_named (t ∷ ts) x ≡ Some c
            → ((s' : Scope) (sc' : meaning.Scope) → AreFound s' sc' ts us → IsFine (tops_tests main s' ts) → HavePlainNames ts → control_named ts x ≡ Some c → IsFoundAt main (rules_at_control s' ts x) (scope_at_control sc' ts x) c (control_named us x))
            → IsFoundAt main (rules_at_control s (t ∷ ts) x) (scope_at_control sc (t ∷ ts) x) c (control_named (u ∷ us) x)
        one _ _ (constant_stays p ty y v) b f n e more =
            more (after_top s (constant p ty y v)) (behind_top sc (constant p ty y v))
            (quiet_next (constant p ty y v) (constant p ty y v) ts us s sc (behind_top sc (constant p ty y v)) y (value Constant ty) b (λ z. record { actions = refl; others = refl; tables = refl; other_tables = refl }) (top_knows main s b.knows (constant p ty y v) f.0) refl tt) f.1 n.1 e
        one _ _ (typedef_stays p ty y) b f n e more =
            more (after_top s (typedef p ty y)) (behind_top sc (typedef p ty y))
            (quiet_next (typedef p ty y) (typedef p ty y) ts us s sc (behind_top sc (typedef p ty y)) y (alias ty) b (λ z. record { actions = refl; others = refl; tables = refl; other_tables = refl }) (top_knows main s b.knows (typedef p ty y) f.0) refl tt) f.1 n e
        one _ _ (header_stays p y fs) b f n e more =
            more (after_top s (header_type p y fs)) sc
            (quiet_next (header_type p y fs) (header_type p y fs) ts us s sc sc y (fields (Header _) fs) b (λ z. record { actions = refl; others = refl; tables = refl; other_tables = refl }) (top_knows main s b.knows (header_type p y fs) f.0) refl tt) f.1 n e
        one _ _ (struct_stays p y fs) b f n e more =
            more (after_top s (struct_type p y fs)) sc
            (quiet_next (struct_type p y fs) (struct_type p y fs) ts us s sc sc y (fields Struct fs) b (λ z. record { actions = refl; others = refl; tables = refl; other_tables = refl }) (top_knows main s b.knows (struct_type p y fs) f.0) refl tt) f.1 n e
        one _ _ (register_stays p g) b f n e more =
            more (after_top s (register p g)) sc
            (quiet_next (register p g) (register p g) ts us s sc sc g.name (scope.register g.ty) b (λ z. record { actions = refl; others = refl; tables = refl; other_tables = refl }) (top_knows main s b.knows (register p g) f.0) refl tt) f.1 n.1 e
        one _ _ (parser_stays p d) b f n e more =
            more (after_top s (parser p d)) sc
            (quiet_next (parser p d) (parser p d) ts us s sc sc d.name part b (λ z. record { actions = refl; others = refl; tables = refl; other_tables = refl }) (top_knows main s b.knows (parser p d) f.0) refl tt) f.1 n e
        one _ _ (in_a_control {c = c₁} {d = d₁} p r₁) b f n e more =
            subst (λ (y : List ℕ). IsFoundAt main (cond (same_text c₁.name x) s (rules_at_control (after_top s (control p c₁)) ts x)) (cond (same_text c₁.name x) sc (scope_at_control sc ts x)) c (cond (same_text y x) (Some d₁) (control_named us x))) (sym (name_same c₁ d₁ r₁))
            (go (same_text c₁.name x) e)
          where
            go : (q : Bool) → cond q (Some c₁) (control_named ts x) ≡ Some c → IsFoundAt main (cond q s (rules_at_control (after_top s (control p c₁)) ts x)) (cond q sc (scope_at_control sc ts x)) c (cond q (Some d₁) (control_named us x))
            go true i =
                (let same : c₁ ≡ c = cc i in
                subst (λ (z : Control). IsFoundAt main s sc z (Some d₁)) same
                (record {
                  after = d₁;
                  there = refl;
                  rewritten = r₁;
                  ts = ts;
                  us = us;
                  knows = b.knows;
                  calls = b.calls;
                  find = λ y q. at_first p c₁ d₁ r₁ ts us s sc b y q (twice_not _ f.0.0);
                  fine = f.0;
                  plain = n.0.0;
                }))
            go false i = more (after_top s (control p c₁)) sc (control_next p c₁ d₁ r₁ ts us s sc b n.0.0 f.0) f.1 n.1 i
