-- In a well-typed program no two tables or actions have one full name.
use Rattle.std.proofs.Common.{◌≡◌, ℕ, List, [], ◌∷◌, ◌++◌, map, Bool, true, false, cond, ◌||◌, Option, Some, None, refl, sym, ap, ap₂, ◌∙◌, subst}
use Rattle.std.specs.List.{AllByRecursion}
use Rattle.lex_text.specs.Names.{same_text}
use Rattle.rule_tests.specs.Tests.{IsFine}
use Rattle.p4_tree.specs.Tree.{Local, local_action, local_table, local_register, local_const, local_var, Top, constant, typedef, header_type, struct_type, register, parser, control, Program}
use Rattle.p4_meaning.specs.Scope as meaning
use Rattle.p4_meaning.specs.Scope.{is_among, full, full_name, own_names}
use Rattle.p4_meaning.specs.Under.{no_scope, behind_top, behind_local, in_control}
use Rattle.p4_meaning.specs.Actions.{Action, actions_in, actions_of, action_named}
use Rattle.p4_meaning.specs.Tables.{Table, tables_in, tables_of, table_named}
use Rattle.p4_scopes.specs.Scopes.{Scope, is_missing, action, table, part, core}
use Rattle.p4_statement_rules.specs.declared.rule.Part.{Part}
use Rattle.p4_declaration_rules.specs.Digests.{most_of, most_of_table}
use Rattle.p4_declaration_rules.specs.Parsers.{with_ways}
use Rattle.p4_declaration_rules.specs.Controls.{after_local, locals_tests, part_in, after_top, tops_tests}
use Rattle.p4_rules.specs.ProgramRules.{IsWellTyped}
use Rattle.p4_rule_laws.proofs.KeepsLemmas.{declared, after_top_keeps}
use Rattle.p4_typing_laws.specs.Plain.{IsPlain, IsPlainLocal, HavePlainNames}
use Rattle.p4_typing_laws.proofs.Fine.{twice_not, typed_fine}
use Rattle.p4_typing_laws.proofs.CallCounts.{text_is, text_same}
use Rattle.p4_typing_laws.proofs.CountedLocals.{own_missing}
use Rattle.p4_typing_laws.proofs.FullNames.{full_apart, other_text, Knows, known_full, knows_rest, knows_all, among_head, among_tail}
use Rattle.own_programs.proofs.Names.{broken}

-- ---- names of tables and of actions, in the order of the text

-- a full name, and whether it is a table's
abbrev pub things_in : meaning.Scope → List Local → List (Bool × List ℕ)
things_in sc [] = []
things_in sc (local_action p a ∷ ls) = (false, full_name sc a.name) ∷ things_in sc ls
things_in sc (local_table p t ∷ ls) = (true, full_name sc t.name) ∷ things_in sc ls
things_in sc (l ∷ ls) = things_in (behind_local sc l) ls

abbrev pub things_of : meaning.Scope → List Top → List (Bool × List ℕ)
things_of sc [] = []
things_of sc (control p c ∷ ts) = things_in (in_control 0 1 2 sc c) c.locals ++ things_of sc ts
things_of sc (t ∷ ts) = things_of (behind_top sc t) ts

-- no other has this name
abbrev pub IsOther : List ℕ → Bool × List ℕ → Type 0
IsOther x i = same_text x i.1 ≡ false

abbrev pub AreApart : List (Bool × List ℕ) → Type 0
AreApart [] = Unit {0}
AreApart (i ∷ is) = AllByRecursion (IsOther i.1) is × AreApart is

-- ---- in a control

-- a name that is no full name of these declarations
others_in : (c x : List ℕ) (ls : List Local) (sc : meaning.Scope) → Knows c sc ls → AllByRecursion IsPlainLocal ls → ((y : List ℕ) → IsPlain y → is_among (own_names ls) y ≡ true → x ≡ full c y → ⊥) → AllByRecursion (IsOther x) (things_in sc ls)
others_in c x [] sc k h apart = tt
others_in c x (local_action p a ∷ ls) sc k h apart = (
  other_text x (full_name sc a.name) (λ e. apart a.name h.0 (among_head a.name (own_names ls)) (e ∙ known_full c sc (local_action p a ∷ ls) k a.name (among_head a.name (own_names ls)))),
  others_in c x ls sc (knows_rest c sc (local_action p a) ls k) h.1 (λ y q i e. apart y q (among_tail a.name (own_names ls) y i) e),
)
others_in c x (local_table p t ∷ ls) sc k h apart = (
  other_text x (full_name sc t.name) (λ e. apart t.name h.0 (among_head t.name (own_names ls)) (e ∙ known_full c sc (local_table p t ∷ ls) k t.name (among_head t.name (own_names ls)))),
  others_in c x ls sc (knows_rest c sc (local_table p t) ls k) h.1 (λ y q i e. apart y q (among_tail t.name (own_names ls) y i) e),
)
others_in c x (local_register p r ∷ ls) sc k h apart = others_in c x ls sc (knows_rest c sc (local_register p r) ls k) h.1 (λ y q i e. apart y q (among_tail r.name (own_names ls) y i) e)
others_in c x (local_const p y n e ∷ ls) sc k h apart = others_in c x ls (behind_local sc (local_const p y n e)) (knows_rest c sc (local_const p y n e) ls k) h.1 apart
others_in c x (local_var p y n e ∷ ls) sc k h apart = others_in c x ls sc (knows_rest c sc (local_var p y n e) ls k) h.1 apart

-- a name that stands for something is that of no declaration behind it
not_later : (h : Part) (n : List ℕ) (ls : List Local) (s : Scope) → is_missing (s (n ∷ [])) ≡ false → IsFine (locals_tests h s ls) → (y : List ℕ) → is_among (own_names ls) y ≡ true → n ≡ y → ⊥
not_later h n ls s some f y i e = (let c : true ≡ false = sym (own_missing h ls s f y i) ∙ (ap (λ (z : List ℕ). is_missing (s (z ∷ []))) (sym e) ∙ some) in broken c)

locals_apart : (h : Part) (c : List ℕ) (ls : List Local) (s : Scope) (sc : meaning.Scope) → Knows c sc ls → AllByRecursion IsPlainLocal ls → IsFine (locals_tests h s ls) → AreApart (things_in sc ls)
locals_apart h c [] s sc k q f = tt
locals_apart h c (local_action p a ∷ ls) s sc k q f = (
  others_in c (full_name sc a.name) ls sc (knows_rest c sc (local_action p a) ls k) q.1
      (λ y plain i e.
      not_later h a.name ls (after_local s (local_action p a)) (ap is_missing (declared s a.name (action a.params (most_of s a.body)) [])) f.1 y i
      (full_apart a.name y c c q.0 plain (sym (known_full c sc (local_action p a ∷ ls) k a.name (among_head a.name (own_names ls))) ∙ e)).0),
  locals_apart h c ls (after_local s (local_action p a)) sc (knows_rest c sc (local_action p a) ls k) q.1 f.1,
)
locals_apart h c (local_table p t ∷ ls) s sc k q f = (
  others_in c (full_name sc t.name) ls sc (knows_rest c sc (local_table p t) ls k) q.1
      (λ y plain i e.
      not_later h t.name ls (after_local s (local_table p t)) (ap is_missing (declared s t.name (table (most_of_table s t.actions t.default)) [])) f.1 y i
      (full_apart t.name y c c q.0 plain (sym (known_full c sc (local_table p t ∷ ls) k t.name (among_head t.name (own_names ls))) ∙ e)).0),
  locals_apart h c ls (after_local s (local_table p t)) sc (knows_rest c sc (local_table p t) ls k) q.1 f.1,
)
locals_apart h c (local_register p r ∷ ls) s sc k q f = locals_apart h c ls (after_local s (local_register p r)) sc (knows_rest c sc (local_register p r) ls k) q.1 f.1
locals_apart h c (local_const p y n e ∷ ls) s sc k q f = locals_apart h c ls (after_local s (local_const p y n e)) (behind_local sc (local_const p y n e)) (knows_rest c sc (local_const p y n e) ls k) q.1 f.1
locals_apart h c (local_var p y n e ∷ ls) s sc k q f = locals_apart h c ls (after_local s (local_var p y n e)) sc (knows_rest c sc (local_var p y n e) ls k) q.1 f.1

-- ---- in a program

-- the full name of something in a control
record IsWithin (c x : List ℕ) : Type 0 where
  inside : List ℕ
  plain : IsPlain inside
  is : x ≡ full c inside

each_within : (c : List ℕ) (ls : List Local) (sc : meaning.Scope) → Knows c sc ls → AllByRecursion IsPlainLocal ls → AllByRecursion (λ (i : Bool × List ℕ). IsWithin c i.1) (things_in sc ls)
each_within c [] sc k h = tt
each_within c (local_action p a ∷ ls) sc k h = (
  record { inside = a.name; plain = h.0; is = known_full c sc (local_action p a ∷ ls) k a.name (among_head a.name (own_names ls)) },
  each_within c ls sc (knows_rest c sc (local_action p a) ls k) h.1,
)
each_within c (local_table p t ∷ ls) sc k h = (
  record { inside = t.name; plain = h.0; is = known_full c sc (local_table p t ∷ ls) k t.name (among_head t.name (own_names ls)) },
  each_within c ls sc (knows_rest c sc (local_table p t) ls k) h.1,
)
each_within c (local_register p r ∷ ls) sc k h = each_within c ls sc (knows_rest c sc (local_register p r) ls k) h.1
each_within c (local_const p y n e ∷ ls) sc k h = each_within c ls (behind_local sc (local_const p y n e)) (knows_rest c sc (local_const p y n e) ls k) h.1
each_within c (local_var p y n e ∷ ls) sc k h = each_within c ls sc (knows_rest c sc (local_var p y n e) ls k) h.1

both_other : (x : List ℕ) (is js : List (Bool × List ℕ)) → AllByRecursion (IsOther x) is → AllByRecursion (IsOther x) js → AllByRecursion (IsOther x) (is ++ js)
both_other x [] js a b = b
both_other x (i ∷ is) js a b = (a.0, both_other x is js a.1 b)

-- what stands in a control of a name that stands for something has no name of a control behind it
others_of : (main : List (List ℕ)) (c x : List ℕ) → IsWithin c x → (ts : List Top) (s : Scope) (sc : meaning.Scope) → is_missing (s (c ∷ [])) ≡ false → HavePlainNames ts → IsFine (tops_tests main s ts) → AllByRecursion (IsOther x) (things_of sc ts)
others_of main c x w [] s sc some h f = tt
others_of main c x w (control p d ∷ ts) s sc some h f =
    both_other x (things_in (in_control 0 1 2 sc d) d.locals) (things_of sc ts)
    (others_in d.name x d.locals (in_control 0 1 2 sc d) (knows_all 0 1 2 sc d) h.0.0
    (λ y plain i e.
    (let same = (full_apart w.inside y c d.name w.plain plain (sym w.is ∙ e)).1 in
    let k : true ≡ false = sym (twice_not _ f.0.0) ∙ (ap (λ (z : List ℕ). is_missing (s (z ∷ []))) (sym same) ∙ some) in
    broken k)))
    (others_of main c x w ts (after_top s (control p d)) sc (ap is_missing ((after_top_keeps main s (control p d) f.0).kept c [] some) ∙ some) h.1 f.1)
others_of main c x w (constant p y n e ∷ ts) s sc some h f = others_of main c x w ts _ (behind_top sc (constant p y n e)) (ap is_missing ((after_top_keeps main s (constant p y n e) f.0).kept c [] some) ∙ some) h.1 f.1
others_of main c x w (typedef p y n ∷ ts) s sc some h f = others_of main c x w ts _ (behind_top sc (typedef p y n)) (ap is_missing ((after_top_keeps main s (typedef p y n) f.0).kept c [] some) ∙ some) h f.1
others_of main c x w (header_type p n fs ∷ ts) s sc some h f = others_of main c x w ts _ sc (ap is_missing ((after_top_keeps main s (header_type p n fs) f.0).kept c [] some) ∙ some) h f.1
others_of main c x w (struct_type p n fs ∷ ts) s sc some h f = others_of main c x w ts _ sc (ap is_missing ((after_top_keeps main s (struct_type p n fs) f.0).kept c [] some) ∙ some) h f.1
others_of main c x w (register p r ∷ ts) s sc some h f = others_of main c x w ts _ sc (ap is_missing ((after_top_keeps main s (register p r) f.0).kept c [] some) ∙ some) h.1 f.1
others_of main c x w (parser p d ∷ ts) s sc some h f = others_of main c x w ts _ sc (ap is_missing ((after_top_keeps main s (parser p d) f.0).kept c [] some) ∙ some) h f.1

both_apart : (is js : List (Bool × List ℕ)) → AreApart is → AreApart js → AllByRecursion (λ (i : Bool × List ℕ). AllByRecursion (IsOther i.1) js) is → AreApart (is ++ js)
both_apart [] js a b h = b
both_apart (i ∷ is) js a b h = (both_other i.1 is js a.0 h.0, both_apart is js a.1 b h.1)

each_apart : (c : List ℕ) (is js : List (Bool × List ℕ)) → AllByRecursion (λ (i : Bool × List ℕ). IsWithin c i.1) is → ((x : List ℕ) → IsWithin c x → AllByRecursion (IsOther x) js) → AllByRecursion (λ (i : Bool × List ℕ). AllByRecursion (IsOther i.1) js) is
each_apart c [] js w h = tt
each_apart c (i ∷ is) js w h = (h i.1 w.0, each_apart c is js w.1 h)

tops_apart : (main : List (List ℕ)) (ts : List Top) (s : Scope) (sc : meaning.Scope) → HavePlainNames ts → IsFine (tops_tests main s ts) → AreApart (things_of sc ts)
tops_apart main [] s sc h f = tt
tops_apart main (control p c ∷ ts) s sc h f =
    both_apart (things_in (in_control 0 1 2 sc c) c.locals) (things_of sc ts)
    (locals_apart (part_in main c.name) c.name c.locals (with_ways s c.params) (in_control 0 1 2 sc c) (knows_all 0 1 2 sc c) h.0.0 f.0.1.1.0)
    (tops_apart main ts (after_top s (control p c)) sc h.1 f.1)
    (each_apart c.name (things_in (in_control 0 1 2 sc c) c.locals) (things_of sc ts) (each_within c.name c.locals (in_control 0 1 2 sc c) (knows_all 0 1 2 sc c) h.0.0)
    (λ x w. others_of main c.name x w ts (after_top s (control p c)) sc (ap is_missing (declared s c.name part [])) h.1 f.1))
tops_apart main (constant p y n e ∷ ts) s sc h f = tops_apart main ts (after_top s (constant p y n e)) (behind_top sc (constant p y n e)) h.1 f.1
tops_apart main (typedef p y n ∷ ts) s sc h f = tops_apart main ts (after_top s (typedef p y n)) (behind_top sc (typedef p y n)) h f.1
tops_apart main (header_type p n fs ∷ ts) s sc h f = tops_apart main ts (after_top s (header_type p n fs)) sc h f.1
tops_apart main (struct_type p n fs ∷ ts) s sc h f = tops_apart main ts (after_top s (struct_type p n fs)) sc h f.1
tops_apart main (register p r ∷ ts) s sc h f = tops_apart main ts (after_top s (register p r)) sc h.1 f.1
tops_apart main (parser p d ∷ ts) s sc h f = tops_apart main ts (after_top s (parser p d)) sc h f.1

pub things_apart : (p : Program) → IsWellTyped p → HavePlainNames p.tops → AreApart (things_of no_scope p.tops)
things_apart p well plain = tops_apart p.main p.tops core no_scope plain (typed_fine p well).0

-- ---- tables and actions

-- the names of tables, or of actions
abbrev pub tagged : Bool → List (Bool × List ℕ) → List (List ℕ)
tagged b [] = []
tagged true (i ∷ is) = cond i.0 (i.1 ∷ tagged true is) (tagged true is)
tagged false (i ∷ is) = cond i.0 (tagged false is) (i.1 ∷ tagged false is)

abbrev pub table_names : List Table → List (List ℕ)
table_names ts = map (λ (t : Table). t.name) ts

abbrev pub action_names : List Action → List (List ℕ)
action_names as' = map (λ (a : Action). a.name) as'

tagged_append : (b : Bool) (is js : List (Bool × List ℕ)) → tagged b (is ++ js) ≡ tagged b is ++ tagged b js
tagged_append true [] js = refl
tagged_append false [] js = refl
tagged_append true ((true, x) ∷ is) js = ap (λ (xs : List (List ℕ)). x ∷ xs) (tagged_append true is js)
tagged_append true ((false, x) ∷ is) js = tagged_append true is js
tagged_append false ((true, x) ∷ is) js = tagged_append false is js
tagged_append false ((false, x) ∷ is) js = ap (λ (xs : List (List ℕ)). x ∷ xs) (tagged_append false is js)

tables_named_in : (as' : List Action) (us : List Table) (ls : List Local) (sc : meaning.Scope) → table_names (tables_in sc as' ls ++ us) ≡ tagged true (things_in sc ls) ++ table_names us
tables_named_in as' us [] sc = refl
tables_named_in as' us (local_action p a ∷ ls) sc = tables_named_in as' us ls sc
tables_named_in as' us (local_table p t ∷ ls) sc = ap (λ (xs : List (List ℕ)). full_name sc t.name ∷ xs) (tables_named_in as' us ls sc)
tables_named_in as' us (local_register p r ∷ ls) sc = tables_named_in as' us ls sc
tables_named_in as' us (local_const p y n e ∷ ls) sc = tables_named_in as' us ls (behind_local sc (local_const p y n e))
tables_named_in as' us (local_var p y n e ∷ ls) sc = tables_named_in as' us ls sc

actions_named_in : (bs : List Action) (ls : List Local) (sc : meaning.Scope) → action_names (actions_in sc ls ++ bs) ≡ tagged false (things_in sc ls) ++ action_names bs
actions_named_in bs [] sc = refl
actions_named_in bs (local_action p a ∷ ls) sc = ap (λ (xs : List (List ℕ)). full_name sc a.name ∷ xs) (actions_named_in bs ls sc)
actions_named_in bs (local_table p t ∷ ls) sc = actions_named_in bs ls sc
actions_named_in bs (local_register p r ∷ ls) sc = actions_named_in bs ls sc
actions_named_in bs (local_const p y n e ∷ ls) sc = actions_named_in bs ls (behind_local sc (local_const p y n e))
actions_named_in bs (local_var p y n e ∷ ls) sc = actions_named_in bs ls sc

pub tables_are : (as' : List Action) (ts : List Top) (sc : meaning.Scope) → table_names (tables_of sc as' ts) ≡ tagged true (things_of sc ts)
tables_are as' [] sc = refl
tables_are as' (control p c ∷ ts) sc =
    tables_named_in as' (tables_of sc as' ts) c.locals (in_control 0 1 2 sc c)
    ∙ (ap (λ (xs : List (List ℕ)). tagged true (things_in (in_control 0 1 2 sc c) c.locals) ++ xs) (tables_are as' ts sc) ∙ sym (tagged_append true (things_in (in_control 0 1 2 sc c) c.locals) (things_of sc ts)))
tables_are as' (constant p y n e ∷ ts) sc = tables_are as' ts (behind_top sc (constant p y n e))
tables_are as' (typedef p y n ∷ ts) sc = tables_are as' ts (behind_top sc (typedef p y n))
tables_are as' (header_type p n fs ∷ ts) sc = tables_are as' ts sc
tables_are as' (struct_type p n fs ∷ ts) sc = tables_are as' ts sc
tables_are as' (register p r ∷ ts) sc = tables_are as' ts sc
tables_are as' (parser p d ∷ ts) sc = tables_are as' ts sc

pub actions_are : (ts : List Top) (sc : meaning.Scope) → action_names (actions_of sc ts) ≡ tagged false (things_of sc ts)
actions_are [] sc = refl
actions_are (control p c ∷ ts) sc =
    actions_named_in (actions_of sc ts) c.locals (in_control 0 1 2 sc c)
    ∙ (ap (λ (xs : List (List ℕ)). tagged false (things_in (in_control 0 1 2 sc c) c.locals) ++ xs) (actions_are ts sc) ∙ sym (tagged_append false (things_in (in_control 0 1 2 sc c) c.locals) (things_of sc ts)))
actions_are (constant p y n e ∷ ts) sc = actions_are ts (behind_top sc (constant p y n e))
actions_are (typedef p y n ∷ ts) sc = actions_are ts (behind_top sc (typedef p y n))
actions_are (header_type p n fs ∷ ts) sc = actions_are ts sc
actions_are (struct_type p n fs ∷ ts) sc = actions_are ts sc
actions_are (register p r ∷ ts) sc = actions_are ts sc
actions_are (parser p d ∷ ts) sc = actions_are ts sc

-- ---- what follows

-- another name is no one's
differs : (x y z : List ℕ) → x ≡ y → same_text x z ≡ false → same_text z y ≡ false
differs x y z e h = other_text z y (λ i. (let c : true ≡ false = sym (text_same x z (e ∙ sym i)) ∙ h in broken c))

-- none of these names is this one
none_among : (b : Bool) (x y : List ℕ) (is : List (Bool × List ℕ)) → x ≡ y → AllByRecursion (IsOther x) is → is_among (tagged b is) y ≡ false
none_among true x y [] e h = refl
none_among false x y [] e h = refl
none_among true x y ((true, z) ∷ is) e h = ap₂ (λ (a b : Bool). a || b) (differs x y z e h.0) (none_among true x y is e h.1)
none_among true x y ((false, z) ∷ is) e h = none_among true x y is e h.1
none_among false x y ((true, z) ∷ is) e h = none_among false x y is e h.1
none_among false x y ((false, z) ∷ is) e h = ap₂ (λ (a b : Bool). a || b) (differs x y z e h.0) (none_among false x y is e h.1)

-- no action has the name of a table
pub table_alone : (x : List ℕ) (is : List (Bool × List ℕ)) → AreApart is → is_among (tagged true is) x ≡ true → is_among (tagged false is) x ≡ false
table_alone x [] a h = broken (sym h)
table_alone x ((true, y) ∷ is) a h = go (same_text y x) refl h (table_alone x is a.1)
  where
    go : (b : Bool) → same_text y x ≡ b → (b || is_among (tagged true is) x) ≡ true → (is_among (tagged true is) x ≡ true → is_among (tagged false is) x ≡ false) → is_among (tagged false is) x ≡ false
    go true e k more = none_among false y x is (text_is y x e) a.0
    go false e k more = more k
table_alone x ((false, y) ∷ is) a h = go (same_text y x) refl (table_alone x is a.1 h)
  where
    go : (b : Bool) → same_text y x ≡ b → is_among (tagged false is) x ≡ false → (b || is_among (tagged false is) x) ≡ false
    go true e k = (let c : false ≡ true = sym (none_among true y x is (text_is y x e) a.0) ∙ h in broken (sym c))
    go false e k = k

-- no two tables have one name
abbrev pub TablesApart : List Table → Type 0
TablesApart [] = Unit {0}
TablesApart (t ∷ ts) = AllByRecursion (λ (u : Table). same_text t.name u.name ≡ false) ts × TablesApart ts

abbrev NamesApart : List (List ℕ) → Type 0
NamesApart [] = Unit {0}
NamesApart (x ∷ xs) = AllByRecursion (λ (y : List ℕ). same_text x y ≡ false) xs × NamesApart xs

each_tagged : (x : List ℕ) (is : List (Bool × List ℕ)) → AllByRecursion (IsOther x) is → AllByRecursion (λ (y : List ℕ). same_text x y ≡ false) (tagged true is)
each_tagged x [] h = tt
each_tagged x ((true, y) ∷ is) h = (h.0, each_tagged x is h.1)
each_tagged x ((false, y) ∷ is) h = each_tagged x is h.1

names_apart : (is : List (Bool × List ℕ)) → AreApart is → NamesApart (tagged true is)
names_apart [] h = tt
names_apart ((true, x) ∷ is) h = (each_tagged x is h.0, names_apart is h.1)
names_apart ((false, x) ∷ is) h = names_apart is h.1

each_name : (x : List ℕ) (ts : List Table) → AllByRecursion (λ (y : List ℕ). same_text x y ≡ false) (table_names ts) → AllByRecursion (λ (u : Table). same_text x u.name ≡ false) ts
each_name x [] h = tt
each_name x (t ∷ ts) h = (h.0, each_name x ts h.1)

from_names : (ts : List Table) → NamesApart (table_names ts) → TablesApart ts
from_names [] h = tt
from_names (t ∷ ts) h = (each_name t.name ts h.0, from_names ts h.1)

-- ---- by names

pub table_among : (ts : List Table) (x : List ℕ) (t : Table) → table_named ts x ≡ Some t → is_among (table_names ts) x ≡ true
table_among [] x t e = absurd (cc e)
table_among (u ∷ ts) x t e = go (same_text u.name x) e (table_among ts x t)
  where
    go : (b : Bool) → cond b (Some u) (table_named ts x) ≡ Some t → (table_named ts x ≡ Some t → is_among (table_names ts) x ≡ true) → (b || is_among (table_names ts) x) ≡ true
    go true i more = refl
    go false i more = more i

pub action_among : (as' : List Action) (x : List ℕ) (a : Action) → action_named as' x ≡ Some a → is_among (action_names as') x ≡ true
action_among [] x a e = absurd (cc e)
action_among (b ∷ bs) x a e = go (same_text b.name x) e (action_among bs x a)
  where
    go : (t : Bool) → cond t (Some b) (action_named bs x) ≡ Some a → (action_named bs x ≡ Some a → is_among (action_names bs) x ≡ true) → (t || is_among (action_names bs) x) ≡ true
    go true i more = refl
    go false i more = more i

pub no_action : (as' : List Action) (x : List ℕ) → is_among (action_names as') x ≡ false → action_named as' x ≡ None
no_action as' x h = go (action_named as' x) refl
  where
    go : (o : Option Action) → action_named as' x ≡ o → action_named as' x ≡ None
    go None e = e
    go (Some a) e = (let c : true ≡ false = sym (action_among as' x a e) ∙ h in broken c)

module _ (p : Program) (well : IsWellTyped p) (plain : HavePlainNames p.tops) (as' : List Action) where
  abbrev pub tables_here : List Table
  tables_here = tables_of no_scope as' p.tops

  abbrev pub actions_here : List Action
  actions_here = actions_of no_scope p.tops

  pub tables_apart : TablesApart tables_here
  tables_apart = from_names tables_here (subst NamesApart (sym (tables_are as' p.tops no_scope)) (names_apart (things_of no_scope p.tops) (things_apart p well plain)))

  -- a table's name is no action's
  pub table_no_action : (x : List ℕ) (t : Table) → table_named tables_here x ≡ Some t → action_named actions_here x ≡ None
  table_no_action x t e =
      no_action actions_here x
      (ap (λ (xs : List (List ℕ)). is_among xs x) (actions_are p.tops no_scope)
      ∙ table_alone x (things_of no_scope p.tops) (things_apart p well plain) (ap (λ (xs : List (List ℕ)). is_among xs x) (sym (tables_are as' p.tops no_scope)) ∙ table_among tables_here x t e))

  -- and an action's is no table's
  pub action_no_table : (x : List ℕ) (a : Action) → action_named actions_here x ≡ Some a → table_named tables_here x ≡ None
  action_no_table x a e = go (table_named tables_here x) refl
    where
      go : (o : Option Table) → table_named tables_here x ≡ o → table_named tables_here x ≡ None
      go None i = i
      go (Some t) i = (let none = table_no_action x t i in absurd (let c : Some a ≡ None = sym e ∙ none in cc))

-- each table is the first of its name
behind_first : (t : Table) (ts us : List Table) → AllByRecursion (λ (u : Table). same_text t.name u.name ≡ false) us → AllByRecursion (λ (u : Table). table_named ts u.name ≡ Some u) us → AllByRecursion (λ (u : Table). table_named (t ∷ ts) u.name ≡ Some u) us
behind_first t ts [] h k = tt
behind_first t ts (u ∷ us) h k = (ap (λ (b : Bool). cond b (Some t) (table_named ts u.name)) h.0 ∙ k.0, behind_first t ts us h.1 k.1)

pub each_named : (ts : List Table) → TablesApart ts → AllByRecursion (λ (t : Table). table_named ts t.name ≡ Some t) ts
each_named [] h = tt
each_named (t ∷ ts) h = (ap (λ (b : Bool). cond b (Some t) (table_named ts t.name)) (text_same t.name t.name refl), behind_first t ts ts h.0 (each_named ts h.1))
